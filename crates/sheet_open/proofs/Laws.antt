-- Laws for opening: a row's part of the coefficients, and the kept numbers once they are written. Assumes nothing.
use mathlib.Core.Path.{◌≡◌, ap, ◌∙◌}
use mathlib.Core.List.{List, [], ◌∷◌}
use Prim.Native.Nat.{ℕ, ◌+◌, ◌-◌, ◌*◌, ◌≤◌, ◌<◌}
use native.Mathlib.Nat.{mul-le-mul_right, suc-mul, le_trans}
use native.Mathlib.Omega.{arith}
use lib.Dec.{lit≤}
use lib.IntN.{ℤ, pos, nat_abs, ◌+ℤ◌, ◌*ℤ◌}
use lib.ListN.{length, take, drop, length-drop}
use lib.Seq.{length-take-le, get_or-take, get_or-drop}
use Rattle.doubles.specs.Limits.{max_columns, max_coefficient, max_amount, max_bound, max_d}
use Rattle.doubles.specs.Lists.{over}
use Rattle.doubles.specs.Loop.{table}
use Rattle.sheet_rules.specs.Sum.{◌‼◌, sum, dot, count, bit}
use Rattle.sheet_rules.specs.Sheet.{Plan, Kept, kept_of, x, Y, rhs, term_at, broken_at, lacks_at, row_sum, activity, price, cost, floor, broken_rows, outside_amounts, wrong_signs, absent_needed, fresh, over_kept}
use Rattle.sheet_rules.specs.Words.{Limits}
use Rattle.sheet_rules.proofs.Sizes.{term_size, up_to}
use Rattle.sheet_rules.proofs.KeptSizes.{d_size}
use Rattle.sheet_rules.proofs.Sums.{sum_ext}
use Rattle.sheet_rules.proofs.Fronts.{front}
use Rattle.sheet_terms.specs.Small.{Small, far_d}
use Rattle.sheet_tests.specs.Sized.{PlanSized, Fine}
use Rattle.sheet_open.specs.At.{floor_at, counts_at}

-- a row's coefficients stand within the whole
pub row_within : (i m n : ℕ) → i < m → i * n + n ≤ m * n
row_within i m n h = omega (arith, mul-le-mul_right n h, suc-mul i n)

module _ (l : List ℤ) (b n : ℕ) where
  -- the n numbers from b on, as the code cuts them out
  abbrev pub cut : List ℤ
  cut = take (b + n - b) (drop b l)

  back : b + n - b ≡ n
  back = omega arith

  pub cut_long : b + n ≤ length l → length cut ≡ n
  cut_long h = length-take-le (b + n - b) (drop b l) (rw (length-drop b l) (omega arith)) ∙ back

  pub cut_at : (j : ℕ) → j < n → cut ‼ j ≡ l ‼ (b + j)
  cut_at j h = get_or-take (b + n - b) (drop b l) j (pos 0) (omega arith) ∙ get_or-drop b l j (pos 0)

-- what the sum behind R is
module _ (coefs amounts : List ℤ) (i m n : ℕ) (l : i < m) (few : n ≤ max_columns) (a : Small max_coefficient (m * n) coefs) (x : Small max_amount n amounts) where
  long : length (cut coefs (i * n) n) ≡ n
  long = cut_long coefs (i * n) n (le_trans (row_within i m n l) a.there)

  pub row_is : row_sum (cut coefs (i * n) n) amounts ≡ dot n (λ j. coefs ‼ (i * n + j)) (λ j. amounts ‼ j)
  unfolding row_sum
  row_is = ap (λ (k : ℕ). dot k (λ j. cut coefs (i * n) n ‼ j) (λ j. amounts ‼ j)) long ∙ sum_ext n _ _ (λ j h. ap (λ (z : ℤ). z *ℤ amounts ‼ j) (cut_at coefs (i * n) n j h))

-- ---- sizes
pub weaken : {a b n : ℕ} {l : List ℤ} → a ≤ b → Small a n l → Small b n l
weaken h s = record { there = s.there; at = λ j k. le_trans (s.at j k) h }

pub terms_small : (p : Plan) (D : List ℤ) → PlanSized p → Fine p → Small max_d p.cols D → nat_abs (sum p.cols (λ j. term_at p j (D ‼ j))) ≤ max_columns * (far_d * max_bound)
terms_small p D z f d = up_to max_columns (far_d * max_bound) p.cols (λ j. term_at p j (D ‼ j)) z.cols_few (λ j h. term_size far_d max_bound (D ‼ j) (p.lowers ‼ j) (p.uppers ‼ j) _ _ (le_trans (d.at j h) (lit≤ tt)) (f.lowers_small.at j h) (f.uppers_small.at j h))

-- ---- the kept numbers, once their arrays are written
pub prices_small : (p : Plan) (d₀ d : List ℤ) → PlanSized p → Limits p → p.cols ≤ length d → d ≡ over (table p.cols (price p)) d₀ → Small max_d p.cols d
prices_small p d₀ d z l long e = record { there = long; at = λ j h. rw (e, front p.cols (price p) d₀ j h) (d_size p z.rows_few z.cols_few l j h) }

module _ (p : Plan) (k : Kept) where
  pub kept_law : (r d c b n : List ℤ) → r ≡ over (table p.rows (activity p (x p))) k.R → d ≡ over (table p.cols (price p)) k.D → c ≡ over (cost p (x p) ∷ []) k.C → b ≡ over (floor_at p d ∷ []) k.B → n ≡ over (counts_at p r d) k.counts
      → kept_of r d c b n ≡ over_kept (fresh p) k
  unfolding over_kept fresh floor_at counts_at floor broken_rows absent_needed
  kept_law r d c b n er ed ec eb en =
      let terms : floor_at p d ≡ floor p = ap (λ (t : ℤ). dot p.rows (Y p) (rhs p) +ℤ t) (sum_ext p.cols _ _ (λ j h. ap (term_at p j) (ap (λ (l : List ℤ). l ‼ j) ed ∙ front p.cols (price p) k.D j h))) in
      let broken : count p.rows (λ i. broken_at p i (r ‼ i)) ≡ broken_rows p = sum_ext p.rows _ _ (λ i h. ap (λ (t : ℤ). bit (broken_at p i t)) (ap (λ (l : List ℤ). l ‼ i) er ∙ front p.rows (activity p (x p)) k.R i h)) in
      let absent : count p.cols (λ j. lacks_at p j (d ‼ j)) ≡ absent_needed p = sum_ext p.cols _ _ (λ j h. ap (λ (t : ℤ). bit (lacks_at p j t)) (ap (λ (l : List ℤ). l ‼ j) ed ∙ front p.cols (price p) k.D j h)) in
      λ i. kept_of (er i) (ed i) (ec i) ((eb ∙ ap (λ (t : ℤ). over (t ∷ []) k.B) terms) i) ((en ∙ (λ j. over (broken j ∷ outside_amounts p ∷ wrong_signs p ∷ absent j ∷ []) k.counts)) i)
