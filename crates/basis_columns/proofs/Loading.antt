-- A column on a blank vector: what it asks of the arrays, and that it is the problem's. No contract cites this file.
-- Assumes nothing.
use mathlib.Core.Path.{◌≡◌, refl, sym, ap}
use mathlib.Core.Bool.{Bool, true, false}
use mathlib.Core.List.{List}
use Prim.Native.Nat.{ℕ, ◌+◌, ◌-◌, ◌<◌, ◌≤◌}
use native.Mathlib.Omega.{arith}
use lib.Dec.{ltb}
use lib.ListN.{length}
use lib.Ieee.{Float}
use borrow.Author.Tests.{ltb-true}
use Rattle.doubles.specs.Num.{f1}
use Rattle.doubles.specs.Limits.{places}
use Rattle.doubles.specs.Loop.{each}
use Rattle.doubles.specs.Lists.{◌#◌, part}
use Rattle.sparse.specs.Scattered.{blank, put_at, loaded, Within}
use Rattle.rules.specs.Plan.{Problem, n_of, column}
use Rattle.rules.proofs.Lists.{part_long, part_at}
use Rattle.basis_columns.specs.Columns.{ByColumns}
use Rattle.basis_columns.specs.Loading.{column_on, ColumnLent}
use Rattle.basis_columns.proofs.Callers.{column_each}

-- where it is one of the matrix
pub record ColumnRead (S R : List ℕ) (X : List Float) (v : ℕ) : Type 0 where
  pub starts_long : v + 1 < length S
  pub rises : S # v ≤ S # (v + 1)
  pub rows_long : S # (v + 1) ≤ length R
  pub coeffs_long : S # (v + 1) ≤ length X

module _ (S R : List ℕ) (X : List Float) (n v : ℕ) (l : ColumnLent S R X n v) where
  pub column_read : v < n → ColumnRead S R X v
  column_read h = record {
    starts_long = l.starts_long h;
    rises = l.rises h;
    rows_long = l.rows_long h;
    coeffs_long = l.coeffs_long h;
  }

  -- its part of the arrays
  abbrev rows : List ℕ
  rows = part (S # v) (S # (v + 1)) R

  abbrev coeffs : List Float
  coeffs = part (S # v) (S # (v + 1)) X

  pub part_asks : v < n → (S # (v + 1) - S # v ≤ length rows) × (S # (v + 1) - S # v ≤ length coeffs)
      × Within places (S # (v + 1) - S # v) rows
  part_asks h = (
    omega (arith, part_long (S # v) (S # (v + 1)) R (l.rows_long h)),
    omega (arith, part_long (S # v) (S # (v + 1)) X (l.coeffs_long h)),
    record {
      inside = λ i b. rw (part_at (S # v) (S # (v + 1)) R i 0 b)
          (l.row h (S # v + i) (omega arith) (omega (arith, l.rises h)));
    },
  )

-- the matrix' own column
pub column_is : (S R : List ℕ) (X : List Float) (n v : ℕ) (P : Problem) → n_of P ≡ n → ByColumns P S R X
    → column_on S R X n v ≡ each (column P v) (λ e t. put_at t e.at e.val) blank
unfolding column_on column each loaded
column_is S R X n v P q m = go (ltb v n) refl
  where
    go : (b : Bool) → ltb v n ≡ b → column_on S R X n v ≡ each (column P v) (λ e t. put_at t e.at e.val) blank
    go true e = rw (e, column_on) (sym (column_each m v (omega (arith, q, ltb-true v n e))
        (λ e t. put_at t e.at e.val) blank))
    go false e =
        let f : ltb v (n_of P) ≡ false = rw q e in
        rw (e, f, column_on, column) (ap (λ (i : ℕ). put_at blank (v - i) f1) (sym q))
