-- One new number of a step, from what stood at its place: `rules` reads the same from whole records (proofs/Laws.antt). Assumes nothing.
use Rattle.std.specs.Prelude.{true, false, List, ℕ, eqb, Float}
use Rattle.std.specs.Float.Ieee.{neg}
use Rattle.doubles.specs.Num.{◌⊕◌, ◌⊖◌, ◌⊗◌, ◌⊘◌, f2}
use Rattle.doubles.specs.Lists.{◌!◌}

-- the basic value of row r: `x` is the one before, `a` the column's entry
unfoldable pub val_by : ℕ → Float → Float → ℕ → Float → Float → Float
val_by row value diff r x a = elim (eqb r row) [ true ↦ value | false ↦ x ⊖ diff ⊗ a ]

-- the price at place j: `x` is the one before, `a` the row's entry
unfoldable pub price_by : ℕ → Float → ℕ → Float → Float → Float
price_by col pivotObj j x a = elim (eqb j col) [ true ↦ neg pivotObj | false ↦ x ⊖ pivotObj ⊗ a ]

-- the norm at place j: `x` is the one before, `a` the row's entry, `h` the helper's
unfoldable pub norm_by : ℕ → Float → Float → Float → ℕ → Float → Float → Float → Float
norm_by col sq pivot pivotSq j x a h = elim (eqb j col) [ true ↦ sq ⊘ pivotSq | false ↦ x ⊕ (neg f2 ⊗ a ⊗ h ⊘ pivot ⊕ sq ⊗ a ⊗ a ⊘ pivotSq) ]

-- the same, out of arrays
abbrev pub norm_at : ℕ → Float → Float → List Float → List Float → List Float → ℕ → Float
norm_at col sq pivot norms a h j = norm_by col sq pivot (pivot ⊗ pivot) j (norms ! j) (a ! j) (h ! j)
