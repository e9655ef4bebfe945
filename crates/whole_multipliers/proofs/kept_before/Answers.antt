-- `whole_multipliers::kept_before` meets its contract. Assumes nothing.
use Rattle.std.proofs.Common.{refl, []}
use native.Mathlib.Omega.{arith}
use Rattle.doubles.specs.Loop.{run}
use Rattle.whole_multipliers.specs.Rows.{before, rows_of}
use Rattle.whole_multipliers.proofs.Laws.{before_kept, before_dropped}
use Rattle.whole_multipliers.proofs.kept_before.Goals.{then-starts-j, else-starts-j}
use Rattle.whole_multipliers.proofs.kept_before.Goals as goal

pub loop-j-init : goal.loop-j-init
unfolding before run
loop-j-init c = (omega arith, refl)

pub loop-j-preserved : goal.loop-j-preserved
loop-j-preserved c =
    let p = rows_of 0 0 c.args.starts.now [] in
    elim c.if-starts-j.branch [
      | then-starts-j w ↦ (omega (arith, w.k-is, c.loop-j.invariant.0), omega (arith, w.k-is, c.loop-j.invariant.1, before_kept p c.loop-j.j w.if-starts-j.true))
      | else-starts-j w ↦ (omega (arith, w.k-is, c.loop-j.invariant.0), omega (arith, w.k-is, c.loop-j.invariant.1, before_dropped p c.loop-j.j w.if-starts-j.false))
    ]
