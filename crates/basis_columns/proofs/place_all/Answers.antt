-- `basis_columns::place_all` meets its contract. Assumes nothing.
use Rattle.std.proofs.Common.{◌≡◌, List, ℕ, ◌∙◌, refl}
use lib.Ieee.{Float}
use Rattle.doubles.specs.Loop.{run}
use Rattle.doubles.proofs.Loops.{next, done}
use Rattle.basis_columns.specs.Columns.{Cells, cells, Placing, placed_in, placed}
use Rattle.basis_columns.proofs.place_all.Goals as goal

placing_by : {r : ℕ} {cols cols' : List ℕ} {xs xs' : List Float} {s s' : Cells} → cols ≡ cols' → xs ≡ xs' → s ≡ s' → Placing r cols' xs' s' → Placing r cols xs s
placing_by e f g p = rw (e, f, g) p

placed_by : (r : ℕ) (s : Cells) {cols cols' : List ℕ} {xs xs' : List Float} → cols ≡ cols' → xs ≡ xs' → placed_in r cols xs s ≡ placed_in r cols' xs' s
placed_by r s e f = cc

pub loop-r-init : goal.loop-r-init
unfolding run
loop-r-init c = refl

pub row_cols-row-requires : goal.row_cols-row-requires
row_cols-row-requires c = c.requires.cols_in _ c.loop-r-test.true

pub row_coeffs-requires : goal.row_coeffs-requires
row_coeffs-requires c = c.requires.coeffs_in _ c.loop-r-test.true

pub place_row-requires : goal.place_row-requires
place_row-requires c = placing_by c.row_cols-row.ensures c.row_coeffs.ensures c.loop-r.invariant (c.requires.placing _ c.loop-r-test.true)

pub loop-r-preserved : goal.loop-r-preserved
loop-r-preserved c =
    let s = cells c.loop-r.next c.loop-r.crows c.loop-r.ccoeffs in
    next _ _ c.loop-r.r c.loop-r.invariant (c.place_row.ensures ∙ placed_by c.loop-r.r s c.row_cols-row.ensures c.row_coeffs.ensures)

pub returns : goal.returns
unfolding placed
returns c = done _ _ _ _ c.loop-r.auto.r-end c.loop-r-test.false c.loop-r.invariant
