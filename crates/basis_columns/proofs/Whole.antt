-- `by_columns` as a whole: what each call asks, and what the three leave. Assumes nothing.
use mathlib.Core.Path.{◌≡◌, refl, sym, ap, ◌∙◌, subst}
use mathlib.Core.List.{List, []}
use Prim.Native.Nat.{ℕ, ◌+◌, ◌<◌, ◌≤◌}
use native.Mathlib.Omega.{arith}
use lib.ListN.{length, replicate}
use lib.Ieee.{Float}
use Rattle.doubles.specs.Limits.{max_columns, max_entries}
use Rattle.doubles.specs.Loop.{table}
use Rattle.doubles.specs.Lists.{◌#◌, over}
use Rattle.rules.specs.Plan.{Problem}
use Rattle.rules.specs.Parts.{rowed}
use Rattle.rules.proofs.Lists.{over_at, over_long}
use Rattle.basis_columns.specs.Columns.{Cells, cells, placed, sum, counted, PlacingAll, Valued, Matrix, Zeros, ByColumns}
use Rattle.basis_columns.proofs.Counts.{counted_few, zeros_at}
use Rattle.basis_columns.proofs.Columns.{rows_placing, laid_out}

module _ (n : ℕ) (starts cols : List ℕ) (coeffs : List Float) (kept zeros : List ℕ) (z : Zeros zeros) where
  abbrev P : Problem
  P = rowed n starts cols coeffs kept

  module _ (f : Matrix P) (counts : List ℕ) (e : counts ≡ counted (rowed max_columns starts cols [] kept) zeros) where
    counts_are : counts ≡ counted P zeros
    unfolding counted
    counts_are = e

    pub sums_fit : sum counts n ≤ max_entries
    sums_fit = subst (λ (l : List ℕ). sum l n ≤ max_entries) (sym counts_are) (counted_few P f zeros z.long z.zero_at)

    module _ (free R : List ℕ) (X : List Float) (free-long : length free ≡ max_columns) (r_long : length R ≡ max_entries) (X-long : length X ≡ max_entries) (next : List ℕ) (g : next ≡ over (table n (sum counts)) free) where
      first_next : (j : ℕ) → j < n → next # j ≡ sum (counted P zeros) j
      first_next j h = ap (λ (l : List ℕ). l # j) g ∙ over_at n (sum counts) free 0 j h ∙ ap (λ (l : List ℕ). sum l j) counts_are

      next_long : length next ≡ max_columns
      next_long = ap length g ∙ over_long n (sum counts) free (omega (arith, f.columns_most, free-long)) ∙ free-long

      pub all_placing : Valued P → PlacingAll (rowed 0 starts cols coeffs kept) (cells next R X)
      all_placing v =
          record {
            cols_in = λ r h. (f.row r h).cols_in;
            coeffs_in = v.coeffs_in;
            placing = rows_placing P f zeros z.long z.zero_at (cells next R X) first_next next_long r_long X-long v;
          }

      module _ (first laid : List ℕ) (h : laid ≡ over (table (n + 1) (sum counts)) first) (s : Cells) (i : s ≡ placed (rowed 0 starts cols coeffs kept) (cells next R X)) where
        pub all_columns : ByColumns P laid s.rows s.coeffs
        unfolding placed
        all_columns =
            subst (λ (t : Cells). ByColumns P laid t.rows t.coeffs) (sym i)
            (laid_out P f zeros z.long z.zero_at (cells next R X) first_next next_long r_long X-long laid
            (λ j l. ap (λ (t : List ℕ). t # j) h ∙ over_at (n + 1) (sum counts) first 0 j (omega arith) ∙ ap (λ (t : List ℕ). sum t j) counts_are))

-- the starts keep their length
pub starts_long : (n : ℕ) (counts first laid : List ℕ) → n ≤ max_columns → length first ≡ max_columns + 1 → laid ≡ over (table (n + 1) (sum counts)) first → length laid ≡ max_columns + 1
starts_long n counts first laid m l h = ap length h ∙ over_long (n + 1) (sum counts) first (omega (arith, m, l)) ∙ l

-- a new array
pub fresh : Zeros (replicate max_columns 0)
fresh = record { long = refl; zero_at = zeros_at max_columns }
