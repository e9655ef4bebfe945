-- `sparse::sq_norm` meets its contract. Assumes nothing.
use Rattle.std.proofs.Common.{refl}
use native.Mathlib.Omega.{arith}
use Rattle.doubles.specs.Loop.{run}
use Rattle.doubles.proofs.Loops.{next}
use Rattle.doubles.proofs.Items.{item, done_items}
use Rattle.sparse.specs.Scattered.{sq_norm}
use Rattle.sparse.proofs.sq_norm.Goals as goal

pub loop-p-init : goal.loop-p-init
unfolding run
loop-p-init c = refl

pub loop-p-preserved : goal.loop-p-preserved
loop-p-preserved c =
    rw (item c.args.count c.args.list.now (omega arith) c.loop-p-test.true 0)
    (next _ _ _ c.loop-p.invariant refl)

pub returns : goal.returns
unfolding sq_norm
returns c =
    λ _. done_items _ c.args.list.now _ _ c.loop-p.p-index (omega arith) c.loop-p.auto.p-index-end
    c.loop-p-test.false c.loop-p.invariant
