-- `lu_reduce::reduce` meets its contract. Assumes nothing.
use Rattle.std.proofs.Common.{◌-◌, arith, sym, subst}
use Rattle.doubles.specs.Limits.{places}
use Rattle.doubles.proofs.Loops.{back, back_done}
use Rattle.sparse.specs.Scattered.{Good}
use Rattle.lu_factor_rules.specs.Factor.{reduced}
use Rattle.lu_factor_rules.proofs.Laws.{good_back}
use Rattle.lu_reduce.proofs.reduce.Goals as goal

pub loop-k-preserved : goal.loop-k-preserved
loop-k-preserved c =
    let w = c.requires.lower in
    record {
      good = subst (Good places) (sym c.reduce_row-c.ensures) (good_back w.0 c.args.done.now (c.loop-k.k - 1) _
          (w.1.places (c.loop-k.k - 1) (omega (arith, c.loop-k-test.true, c.loop-k.auto.k))) c.loop-k.invariant.good);
      left = back _ c.loop-k.k c.loop-k-test.true c.reduce_row-c.ensures c.loop-k.invariant.left;
    }

pub returns : goal.returns
unfolding reduced
returns c = λ v. back_done _ _ c.loop-k-test.false c.loop-k.invariant.left
