-- `lu_solve::zero_rest` meets its contract. Assumes nothing.
use Rattle.std.proofs.Common.{◌<◌, length, drop, refl}
use native.Mathlib.Omega.{arith}
use lib.Ieee.{nan}
use lib.ListN.{get_or-append}
use Rattle.std.proofs.lemmas.List.{take-append-drop, set-append_left}
use Rattle.doubles.specs.Loop.{run}
use Rattle.doubles.proofs.Loops.{next}
use Rattle.lu_solve.specs.Solve.{zeroed}
use Rattle.doubles.proofs.Items.{done_items}
use Rattle.lu_solve.proofs.zero_rest.Goals as goal

pub loop-i-init : goal.loop-i-init
unfolding run
loop-i-init c = take-append-drop c.args.size c.args.values.now

pub loop-i-preserved : goal.loop-i-preserved
loop-i-preserved c =
    let h : c.loop-i.i < length c.loop-i.x-items = omega (arith, c.loop-i.auto.x-items) in
    let d = drop c.args.size c.args.values.now in
    next _ _ c.loop-i.i c.loop-i.invariant (rw (
      get_or-append c.loop-i.x-items d nan c.loop-i.i h,
      ← c.held.ensures,
      set-append_left c.loop-i.x-items d c.loop-i.i c.held.result h,
    ) refl)

pub returns : goal.returns
unfolding zeroed
returns c =
    done_items _ c.args.values.now _ _ c.loop-i.i c.requires.1 c.loop-i.auto.i-end c.loop-i-test.false
    c.loop-i.invariant
