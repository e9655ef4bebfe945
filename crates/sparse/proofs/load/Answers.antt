-- `sparse::load` meets its contract. Assumes nothing.
use Rattle.std.proofs.Common.{refl, sym, subst}
use native.Mathlib.Omega.{arith}
use Rattle.doubles.specs.Loop.{run}
use Rattle.doubles.proofs.Loops.{next}
use Rattle.doubles.proofs.Items.{item, within, upto, done_items}
use Rattle.sparse.specs.Scattered.{Good, loaded}
use Rattle.sparse.proofs.Laws.{good_loading}
use Rattle.sparse.proofs.load.Goals as goal

pub loop-k-init : goal.loop-k-init
unfolding run
loop-k-init c = refl

pub put_at-c-requires : goal.put_at-c-requires
put_at-c-requires c =
    let b = c.requires.n_in_bounds in (
      rw (item c.args.n c.args.at.now b.0 c.loop-k-test.true 0) (b.2.inside _ (within _ _ b.0 c.loop-k-test.true)),
      subst (Good _) (sym c.loop-k.invariant) (good_loading _ c.args.xs.now _ b.2 _ c.requires.good c.loop-k.k (upto _ _ b.0 c.loop-k.auto.k-end)),
    )

pub loop-k-preserved : goal.loop-k-preserved
loop-k-preserved c =
    next _ _ c.loop-k.k c.loop-k.invariant
    (rw (item c.args.n c.args.at.now (omega arith) c.loop-k-test.true 0) at c.put_at-c.ensures)

pub returns : goal.returns
unfolding loaded
returns c =
    done_items _ c.args.at.now _ _ c.loop-k.k (omega arith) c.loop-k.auto.k-end c.loop-k-test.false c.loop-k.invariant
