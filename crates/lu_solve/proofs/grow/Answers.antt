-- `lu_solve::grow` meets its contract. Assumes nothing.
use Rattle.std.proofs.Common.{refl}
use native.Mathlib.Omega.{arith}
use Rattle.doubles.specs.Loop.{run}
use Rattle.doubles.proofs.Loops.{next}
use Rattle.lu_solve.specs.Solve.{grown}
use Rattle.doubles.proofs.Items.{item, within, done_items}
use Rattle.lu_solve.proofs.Laws.{next_touch}
use Rattle.lu_solve.proofs.grow.Goals as goal

pub loop-i-init : goal.loop-i-init
unfolding run
loop-i-init c = refl

pub touch-n-requires : goal.touch-n-requires
touch-n-requires c =
    rw (item c.args.count c.args.done.now (omega arith) c.loop-i-test.true 0)
    (next_touch c.requires c.loop-i.invariant (within _ c.args.done.now (omega arith) c.loop-i-test.true))

pub loop-i-preserved : goal.loop-i-preserved
loop-i-preserved c =
    next _ _ c.loop-i.i-index c.loop-i.invariant
    (rw (item c.args.count c.args.done.now (omega arith) c.loop-i-test.true 0) at c.touch-n.ensures)

pub returns : goal.returns
unfolding grown
returns c =
    done_items _ c.args.done.now _ _ c.loop-i.i-index (omega arith) c.loop-i.auto.i-index-end
    c.loop-i-test.false c.loop-i.invariant
