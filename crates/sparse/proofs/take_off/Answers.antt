-- `sparse::take_off` meets its contract. Assumes nothing.
use Rattle.std.proofs.Common.{refl, sym, subst}
use Rattle.doubles.specs.Loop.{run}
use Rattle.doubles.proofs.Loops.{next, done}
use Rattle.sparse.specs.Scattered.{Good, take_off}
use Rattle.sparse.proofs.Laws.{good_taking}
use Rattle.sparse.proofs.take_off.Goals as goal

pub loop-k-init : goal.loop-k-init
unfolding run
loop-k-init c = refl

pub sub_at-n-requires : goal.sub_at-n-requires
sub_at-n-requires c =
    let w = c.requires.rows_in_bounds.1 in (
      w.inside _ c.loop-k-test.true,
      subst (Good _) (sym c.loop-k.invariant) (good_taking _ _ c.args.coeffs.now w _ c.requires.good c.loop-k.k c.loop-k.auto.k-end),
    )

pub loop-k-preserved : goal.loop-k-preserved
loop-k-preserved c = next _ _ c.loop-k.k c.loop-k.invariant c.sub_at-n.ensures

pub returns : goal.returns
unfolding take_off
returns c = done _ _ _ _ c.loop-k.auto.k-end c.loop-k-test.false c.loop-k.invariant
