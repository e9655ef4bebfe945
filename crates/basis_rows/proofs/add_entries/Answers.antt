-- `basis_rows::add_entries` meets its contract: at each turn the vector is in order. Assumes nothing.
use Rattle.std.proofs.Common.{refl, sym, subst}
use Rattle.doubles.specs.Loop.{run}
use Rattle.doubles.proofs.Loops.{next, done}
use Rattle.sparse.specs.Scattered.{Good}
use Rattle.basis_rows.proofs.Laws.{good_adding}
use Rattle.basis_rows.proofs.add_entries.Goals as goal

pub loop-k-init : goal.loop-k-init
unfolding run
loop-k-init c = (refl, c.requires.good.2)

pub add_entry-c-requires : goal.add_entry-c-requires
add_entry-c-requires c =
    let a = c.args in
    let g = c.requires.good in (
      subst (Good _) (sym c.loop-k.invariant.0) (good_adding a.n g.1 a.var_states.now a.cols.now a.coeffs.now a.y _ g.0 c.loop-k.k),
      g.1,
      c.loop-k.invariant.1,
      c.requires.cols_in_bounds.1.inside _ c.loop-k-test.true,
    )

pub loop-k-preserved : goal.loop-k-preserved
loop-k-preserved c =
    let e = c.add_entry-c.ensures in
    (next _ _ c.loop-k.k c.loop-k.invariant.0 e.0, e.1)

pub returns : goal.returns
returns c = (done _ _ _ _ c.loop-k.auto.k-end c.loop-k-test.false c.loop-k.invariant.0, c.loop-k.invariant.1)
