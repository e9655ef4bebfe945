-- What callers use: the matrix of a problem that fits, a column that is loaded from its cells, and that the part that is lent gives what the whole problem gives. Assumes nothing.
use mathlib.Core.Path.{◌≡◌, refl, sym, ap, ◌∙◌, subst}
use mathlib.Core.List.{List, [], ◌∷◌}
use Prim.Native.Nat.{ℕ, zero, suc, ◌+◌, ◌-◌, ◌<◌, ◌≤◌}
use native.Mathlib.Omega.{arith}
use lib.ListN.{length}
use lib.Ieee.{Float}
use Rattle.doubles.specs.Loop.{run, each}
use Rattle.doubles.specs.Lists.{◌!◌, ◌#◌, part}
use Rattle.rules.specs.Plan.{Problem, Entry, entry, column, n_of}
use Rattle.rules.specs.Parts.{rowed}
use Rattle.rules.specs.Invariant.{ProblemFits}
use Rattle.rules.proofs.Lists.{part_long}
use Rattle.plan.proofs.Fits.{row_cols_in, row_coeffs_in}
use Rattle.basis_columns.specs.Columns.{entries_of, Valued, Matrix, ColumnAt, ByColumns}

-- ---- the part that is lent
abbrev pub matrix_of : Problem → Problem
matrix_of P = rowed (n_of P) P.plan.starts P.plan.cols P.plan.coeffs P.kept

module _ (P : Problem) (f : ProblemFits P) where
  -- no start before another is past it
  starts_rise_holds : (i k : ℕ) → i + k ≤ P.plan.rows → P.plan.starts # i ≤ P.plan.starts # (i + k)
  starts_rise_holds i zero h = let q : i + 0 ≡ i = omega arith in rw q (omega arith)
  starts_rise_holds i (suc k) h =
      let q : i + suc k ≡ i + k + 1 = omega arith in
      rw q (omega (arith, starts_rise_holds i k (omega arith), f.plan.row (i + k) (omega arith)))

  pub matrix_fits : Matrix (matrix_of P)
  matrix_fits =
      record {
        columns_most = f.plan.columns_most;
        row = λ r h.
            let i = P.kept # r in
            let k = (f.kept r h).inside in
            record {
              cols_in = row_cols_in P.plan f.plan i k;
              most = omega (arith, (f.plan.row i k).ends, f.plan.entries_most);
              after = λ q l.
                  let j = P.kept # q in
                  let up = f.kept_rises q r l h in
                  let e : j + 1 + (i - (j + 1)) ≡ i = omega arith in
                  subst (λ (x : ℕ). P.plan.starts # (j + 1) ≤ P.plan.starts # x) e (starts_rise_holds (j + 1) (i - (j + 1)) (omega arith));
              col = (f.plan.row i k).col;
            };
      }

  pub values_fit : Valued (matrix_of P)
  values_fit = record { coeffs_in = λ r h. row_coeffs_in P.plan f.plan (P.kept # r) (f.kept r h).inside }

pub columns_part : (P : Problem) {S R : List ℕ} {X : List Float} → ByColumns (matrix_of P) S R X → ByColumns P S R X
unfolding column
columns_part P c =
    record {
      rows_long = c.rows_long;
      coeffs_long = c.coeffs_long;
      column = λ j h. let w = c.column j h in record { rises = w.rises; ends = w.ends; row = w.row; same = w.same };
    }

-- ---- a column from its cells

-- the first turn, then the others
run_first : {A : Type 0} (f : ℕ → A → A) (n : ℕ) (s : A) → run f (suc n) s ≡ run (λ k. f (suc k)) n (f 0 s)
unfolding run
run_first f zero s = refl
run_first f (suc n) s = ap (f (suc n)) (run_first f n s)

entries_each : {A : Type 0} (g : Entry → A → A) (rs : List ℕ) (xs : List Float) → length rs ≡ length xs → (s : A) → each (entries_of rs xs) g s ≡ run (λ k. g (entry (rs # k) (xs ! k))) (length rs) s
unfolding each run entries_of
entries_each g [] xs e s = refl
entries_each g (r ∷ rs) [] e s = absurd (omega arith)
entries_each g (r ∷ rs) (x ∷ xs) e s = entries_each g rs xs (omega arith) (g (entry r x) s) ∙ sym (run_first (λ k. g (entry ((r ∷ rs) # k) ((x ∷ xs) ! k))) (length rs) s)

module _ {P : Problem} {S R : List ℕ} {X : List Float} (c : ByColumns P S R X) (j : ℕ) (h : j < n_of P) where
  abbrev pub rows_at : List ℕ
  rows_at = part (S # j) (S # (j + 1)) R

  abbrev pub values_at : List Float
  values_at = part (S # j) (S # (j + 1)) X

  w : ColumnAt P S R X j
  w = c.column j h

  pub rows_size : length rows_at ≡ S # (j + 1) - S # j
  rows_size = part_long (S # j) (S # (j + 1)) R (omega (arith, w.ends, c.rows_long))

  pub values_size : length values_at ≡ S # (j + 1) - S # j
  values_size = part_long (S # j) (S # (j + 1)) X (omega (arith, w.ends, c.coeffs_long))

  -- a walk over the definition's column is a loop over the cells
  pub column_each : {A : Type 0} (g : Entry → A → A) (s : A) → each (column P j) g s ≡ run (λ k. g (entry (rows_at # k) (values_at ! k))) (S # (j + 1) - S # j) s
  column_each {A} g s =
      ap (λ (es : List Entry). each es g s) (sym w.same)
      ∙ entries_each g rows_at values_at (rows_size ∙ sym values_size) s
      ∙ ap (λ (n : ℕ). run (λ k. g (entry (rows_at # k) (values_at ! k))) n s) rows_size
