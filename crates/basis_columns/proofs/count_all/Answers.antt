-- `basis_columns::count_all` meets its contract. Assumes nothing.
use Rattle.std.proofs.Common.{List, [], ℕ, ◌∙◌, refl, ap}
use Rattle.doubles.specs.Limits.{max_columns}
use Rattle.doubles.specs.Loop.{run}
use Rattle.doubles.proofs.Loops.{next, done}
use Rattle.rules.specs.Parts.{rowed}
use Rattle.basis_columns.specs.Columns.{counted_in, counted}
use Rattle.basis_columns.proofs.Counts.{counting}
use Rattle.basis_columns.proofs.count_all.Goals as goal

pub loop-i-init : goal.loop-i-init
unfolding run
loop-i-init c = refl

pub row_cols-requires : goal.row_cols-requires
row_cols-requires c = (c.requires.0.row _ c.loop-i-test.true).cols_in

pub count_row-requires : goal.count_row-requires
count_row-requires c =
    let a = c.args in
    let z = c.requires.1 in
    rw (c.row_cols.ensures, c.loop-i.invariant) (counting (rowed max_columns a.starts.now a.cols.now [] a.kept.now) c.requires.0 _ z.long z.zero_at _ c.loop-i-test.true)

pub loop-i-preserved : goal.loop-i-preserved
loop-i-preserved c = next _ _ c.loop-i.i-index c.loop-i.invariant (c.count_row.ensures ∙ ap (λ (l : List ℕ). counted_in l c.loop-i.counts) c.row_cols.ensures)

pub returns : goal.returns
unfolding counted
returns c = done _ _ _ _ c.loop-i.auto.i-index-end c.loop-i-test.false c.loop-i.invariant
