-- Opening's limits imply the kept sizes: on a true sheet within the limits no kept number is over its size, B within 2^62. Assumes nothing.
use mathlib.Core.Path.{◌≡◌}
use mathlib.Core.Bool.{Bool}
use mathlib.Core.List.{List}
use Prim.Native.Nat.{ℕ, ◌+◌, ◌*◌, ◌≤◌, ◌<◌}
use native.Mathlib.Omega.{arith}
use lib.IntN.{ℤ, pos, negsuc, nat_abs, ◌*ℤ◌}
use lib.Dec.{le→leb}
use lib.Signed.{◌≤ℤ◌}
use Rattle.doubles.specs.Limits.{max_rows, max_columns, max_coefficient, max_cost, max_right_side, max_bound, max_amount, max_multiplier, max_r, max_d, max_c, max_b, unit}
use Rattle.sheet_rules.specs.Sum.{◌‼◌, sum, bit, count}
use Rattle.sheet_rules.specs.Sheet.{Plan, Sheet, True, a, c, lower, upper, rhs, x, Y, term_at, activity, price, cost, floor, broken_rows, outside_amounts, wrong_signs, absent_needed}
use Rattle.sheet_rules.specs.Words.{Sized, Limits, Within, KeptIn, Count}
use Rattle.sheet_rules.proofs.Sums.{count_nonneg}
use Rattle.sheet_rules.proofs.Local.{place_in}
use Rattle.sheet_rules.proofs.Sizes.{abs_add, mul_size, sub_size, sum_size, up_to, bit_size, term_size}

counted : (n : ℕ) (t : ℕ → Bool) → Count n (count n t)
counted n t = record { least = count_nonneg n t; most = below n (count n t) (omega (arith, sum_size 1 n (λ k. bit (t k)) (λ j _. bit_size (t j)))) }
  where
    below : (n : ℕ) (z : ℤ) → nat_abs z ≤ n → z ≤ℤ pos n
    below n (pos m) h = record { le = le→leb m n h }
    below n (negsuc m) h = record { le = tt }

-- 1024 * 2^20 and the sum of a*Y
max_price : ℕ
max_price = unit * max_cost + max_rows * (max_coefficient * max_multiplier)

module _ (p : Plan) (r : p.rows ≤ max_rows) (n : p.cols ≤ max_columns) (l : Limits p) where
  a_size : (i j : ℕ) → i < p.rows → j < p.cols → nat_abs (a p i j) ≤ max_coefficient
  a_size i j h k = l.coefs_in (i * p.cols + j) (place_in i p.rows j p.cols h k)

  r_size : (i : ℕ) → i < p.rows → nat_abs (activity p (x p) i) ≤ max_r
  unfolding activity
  r_size i h = up_to max_columns (max_coefficient * max_amount) p.cols (λ j. a p i j *ℤ x p j) n (λ j k. mul_size (a p i j) (x p j) max_coefficient max_amount (a_size i j h k) (l.arrays_in.amounts_in j k))

  price_size : (j : ℕ) → j < p.cols → nat_abs (price p j) ≤ max_price
  unfolding price max_price
  price_size j h =
      sub_size (pos unit *ℤ c p j) (sum p.rows (λ i. a p i j *ℤ Y p i)) (unit * max_cost) (max_rows * (max_coefficient * max_multiplier))
      (mul_size (pos unit) (c p j) unit max_cost (omega arith) (l.arrays_in.costs_in j h))
      (up_to max_rows (max_coefficient * max_multiplier) p.rows (λ i. a p i j *ℤ Y p i) r (λ i k. mul_size (a p i j) (Y p i) max_coefficient max_multiplier (a_size i j k h) (l.arrays_in.mults_in i k)))

  pub d_size : (j : ℕ) → j < p.cols → nat_abs (price p j) ≤ max_d
  unfolding max_price
  d_size j h = omega (arith, price_size j h)

  c_size : nat_abs (cost p (x p)) ≤ max_c
  unfolding cost
  c_size = up_to max_columns (max_cost * max_amount) p.cols (λ j. c p j *ℤ x p j) n (λ j h. mul_size (c p j) (x p j) max_cost max_amount (l.arrays_in.costs_in j h) (l.arrays_in.amounts_in j h))

  b_size : nat_abs (floor p) ≤ max_b
  unfolding floor max_price
  b_size = omega (
    arith,
    abs_add (sum p.rows (λ i. Y p i *ℤ rhs p i)) (sum p.cols (λ j. term_at p j (price p j))),
    up_to max_rows (max_multiplier * max_right_side) p.rows (λ i. Y p i *ℤ rhs p i) r (λ i h. mul_size (Y p i) (rhs p i) max_multiplier max_right_side (l.arrays_in.mults_in i h) (l.arrays_in.rhs_in i h)),
    up_to max_columns (max_price * max_bound) p.cols (λ j. term_at p j (price p j)) n (λ j h. term_size max_price max_bound (price p j) (lower p j) (upper p j) _ _ (price_size j h) (l.arrays_in.lowers_in j h).small (l.arrays_in.uppers_in j h).small),
  )

-- an array of one cell
pub one_cell : (m : ℕ) (l : List ℤ) → nat_abs (l ‼ 0) ≤ m → Within m 1 l
one_cell m l h k w =
    let e : k ≡ 0 = omega arith in
    rw e h

-- so every kept number of a true sheet keeps its size
pub kept_in : (s : Sheet) → Sized s → Limits s.plan → True s → KeptIn s
unfolding broken_rows outside_amounts wrong_signs absent_needed
kept_in s z l t = record {
  r_in = λ i h. rw (t.r_true i h) (r_size s.plan z.rows_fit z.cols_fit l i h);
  d_in = λ j h. rw (t.d_true j h) (d_size s.plan z.rows_fit z.cols_fit l j h);
  c_in = one_cell max_c s.kept.C (rw t.c_true (c_size s.plan z.rows_fit z.cols_fit l));
  b_in = one_cell max_b s.kept.B (rw t.b_true (b_size s.plan z.rows_fit z.cols_fit l));
  broken_in = rw t.broken_true (counted _ _);
  outside_in = rw t.outside_true (counted _ _);
  wrong_in = rw t.wrong_true (counted _ _);
  absent_in = rw t.absent_true (counted _ _);
}
