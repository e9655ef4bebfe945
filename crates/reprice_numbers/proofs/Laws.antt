-- What the sums and the dense solves ask of the arrays, and that prices and objective are the definitions'. Assumes
-- nothing.
use mathlib.Core.Path.{◌≡◌, refl, sym, ap, ◌∙◌}
use mathlib.Core.Bool.{Bool, true, false}
use mathlib.Core.List.{List}
use Prim.Native.Nat.{ℕ, ◌+◌, ◌-◌, ◌<◌, ◌≤◌}
use native.Mathlib.Omega.{arith}
use lib.Dec.{ltb}
use lib.ListN.{length, replicate, length-replicate}
use lib.Ieee.{Float}
use borrow.Author.Tests.{ltb-true}
use Rattle.doubles.specs.Num.{◌⊖◌, f0}
use Rattle.doubles.specs.Limits.{max_rows}
use Rattle.doubles.specs.Loop.{run, each, table}
use Rattle.doubles.specs.Lists.{◌#◌, part, over}
use Rattle.sparse.specs.Scattered.{dot, dot_turn, Within}
use Rattle.lu_solve.specs.Solve.{Numbers}
use Rattle.lu_factor_rules.specs.Factor.{Matrix}
use Rattle.lu_factor_rules.specs.Packed.{lower_t_in, upper_t_in, diag_in}
use Rattle.lu_factor_rules.specs.Solves.{tri_of}
use Rattle.lu_apply.specs.Ask.{Solid}
use Rattle.rules.specs.Plan.{Problem, n_of, column}
use Rattle.rules.proofs.Lists.{part_long, part_at, over_long}
use Rattle.basis_columns.specs.Columns.{ByColumns}
use Rattle.basis_columns.proofs.Callers.{column_each, rows_size}
use Rattle.reprice_rules.specs.Reprice.{cost_of, dense_transp, price_turn, price_of}
use Rattle.reprice_numbers.specs.Lent.{dense_both, sum_on, price_on, SumLent}

-- ---- a column that is one of the matrix
pub record SumRead (S R : List ℕ) (X : List Float) (v : ℕ) : Type 0 where
  pub starts_long : v + 1 < length S
  pub rises : S # v ≤ S # (v + 1)
  pub rows_long : S # (v + 1) ≤ length R
  pub coeffs_long : S # (v + 1) ≤ length X

module _ (S R : List ℕ) (X : List Float) (n v : ℕ) where
  pub sum_read : SumLent S R X n v → v < n → SumRead S R X v
  sum_read l h = record {
    starts_long = l.starts_long h;
    rises = l.rises h;
    rows_long = l.rows_long h;
    coeffs_long = l.coeffs_long h;
  }

  pub sum_asks : (y : List Float) → length y ≡ max_rows → SumLent S R X n v → v < n
      → (length (part (S # v) (S # (v + 1)) R) ≤ length (part (S # v) (S # (v + 1)) X))
      × Within (length y) (length (part (S # v) (S # (v + 1)) R)) (part (S # v) (S # (v + 1)) R)
  sum_asks y e l h =
      let many : length (part (S # v) (S # (v + 1)) R) ≡ S # (v + 1) - S # v = part_long (S # v) (S # (v + 1)) R (l.rows_long h) in
      let beside : length (part (S # v) (S # (v + 1)) X) ≡ S # (v + 1) - S # v = part_long (S # v) (S # (v + 1)) X (l.coeffs_long h) in (
        omega (arith, many, beside),
        record {
          inside = λ i b.
              let c : i < S # (v + 1) - S # v = omega (arith, many) in
              rw (part_at (S # v) (S # (v + 1)) R i 0 c)
              (let r : R # (S # v + i) < max_rows = l.row h (S # v + i) (omega arith) (omega (arith, l.rises h)) in
              omega (arith, e, r));
        },
      )

-- ---- the matrix' own column gives the definition's price
module _ (S R : List ℕ) (X : List Float) (P : Problem) (g : ByColumns P S R X) (y : List Float) where
  column_dot : (v : ℕ) → v < n_of P → dot (part (S # v) (S # (v + 1)) R) (part (S # v) (S # (v + 1)) X) y ≡ each (column P v) (price_turn y) f0
  unfolding dot
  column_dot v h =
      ap (λ (k : ℕ). run (dot_turn (part (S # v) (S # (v + 1)) R) (part (S # v) (S # (v + 1)) X) y) k f0) (rows_size g v h)
      ∙ sym (column_each g v h (price_turn y) f0)

  sum_is : (v : ℕ) → sum_on S R X (n_of P) y v ≡ each (column P v) (price_turn y) f0
  unfolding sum_on column each
  sum_is v = go (ltb v (n_of P)) refl
    where
      go : (b : Bool) → ltb v (n_of P) ≡ b → sum_on S R X (n_of P) y v ≡ each (column P v) (price_turn y) f0
      go true q = rw (q, sum_on) (column_dot v (ltb-true v (n_of P) q))
      go false q = rw (q, sum_on, column, each) refl

  pub price_is : (v : ℕ) → price_on P.plan.costs S R X (n_of P) y v ≡ price_of P y v
  unfolding price_of cost_of
  price_is v = ap (λ (t : Float). cost_of P v ⊖ t) (sum_is v)

-- ---- the dense solves, of a factor in its arrays
pub both_is : (m : ℕ) (N : List ℕ) (D y : List Float) → dense_both m (upper_t_in N D) (lower_t_in N D) (diag_in D) y ≡ dense_transp m N D y
unfolding dense_transp
both_is m N D y = refl

-- the map of one half of a factor with the triangles of the other: the pivot numbers with the transposes
pub solid_mapped : {m : ℕ} {a b : List ℕ} {l u v w : Matrix} {d : List Float} → Solid m a l u d → Solid m b v w d
    → Solid m a v w d
solid_mapped s t =
    record {
      map_long = s.map_long;
      leads = s.leads;
      lower_columns = t.lower_columns;
      upper_columns = t.upper_columns;
      lower_vals = t.lower_vals;
      upper_vals = t.upper_vals;
      diag_long = t.diag_long;
    }

-- a scratch of k cells, its front written over
pub scratch_long : (n k : ℕ) (f : ℕ → Float) → n ≤ k → length (over (table n f) (replicate k f0)) ≡ k
scratch_long n k f h = let r = length-replicate k f0 in over_long n f (replicate k f0) (omega (arith, r)) ∙ r

module _ (m : ℕ) (at : List ℕ) (lower upper : Matrix) (diag : List Float) (s : Solid m at lower upper diag) (y : List Float) (long : m ≤ length y) where
  pub dense_first : Numbers (tri_of true m lower true diag) y
  dense_first = record { columns = s.lower_columns; vals_long = s.lower_vals; diag_long = λ _. s.diag_long; values_long = long }

  pub dense_second : Numbers (tri_of false m upper false diag) y
  dense_second = record { columns = s.upper_columns; vals_long = s.upper_vals; diag_long = λ _. s.diag_long; values_long = long }
