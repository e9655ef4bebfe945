-- `basis_rows::combine_wide` meets its contract: at each turn the vector is in order. Assumes nothing.
use Rattle.std.proofs.Common.{[], sym, subst, arith}
use Rattle.doubles.specs.Loop.{run}
use Rattle.doubles.proofs.Loops.{next}
use Rattle.sparse.specs.Scattered.{sv, Good}
use Rattle.rules.specs.Parts.{rowed}
use Rattle.rules.specs.Basis.{combine}
use Rattle.doubles.proofs.Items.{item, done_items, within}
use Rattle.basis_rows.proofs.Laws.{good_rows}
use Rattle.basis_rows.proofs.combine_wide.Goals as goal

pub loop-r-init : goal.loop-r-init
unfolding run
loop-r-init c = (c.requires.fresh.0.fresh, c.requires.fresh.1)

pub add_row-c-requires-clause-good : goal.add_row-c-requires-clause-good
add_row-c-requires-clause-good c =
    let a = c.args in (
      subst (Good _) (sym c.loop-r.invariant.0) (good_rows (rowed a.n a.starts.now a.cols.now a.coeffs.now a.kept.now) c.requires.rows_lent.columns a.var_states.now (sv a.from.now [] a.from_list.now a.from_count) c.loop-r.r-index),
      c.requires.rows_lent.columns,
      c.loop-r.invariant.1,
    )

pub add_row-c-requires-clause-row_lent : goal.add_row-c-requires-clause-row_lent
add_row-c-requires-clause-row_lent c =
    let a = c.args in
    rw (item a.from_count a.from_list.now (omega arith) c.loop-r-test.true 0)
    (c.requires.rows_lent.row _ (c.requires.fresh.4.inside c.loop-r.r-index (within a.from_count a.from_list.now (omega arith) c.loop-r-test.true)))

pub loop-r-preserved : goal.loop-r-preserved
loop-r-preserved c =
    let e = rw (item c.args.from_count c.args.from_list.now (omega arith) c.loop-r-test.true 0) at c.add_row-c.ensures.0 in
    (next _ _ c.loop-r.r-index c.loop-r.invariant.0 e, c.add_row-c.ensures.1)

pub returns : goal.returns
unfolding combine
returns c = (λ _. done_items _ c.args.from_list.now _ _ c.loop-r.r-index (omega arith) c.loop-r.auto.r-index-end c.loop-r-test.false c.loop-r.invariant.0, c.loop-r.invariant.1)
