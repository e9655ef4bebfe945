-- Every number of the plan is 1e12 at most in size, so what the start reckons with is finite, and 6 is never given. A
-- start value, a coefficient, a cost and a right side are within 2 ^ 40, a product of two of them within 2 ^ 80, and a
-- sum of k products within k * 2 ^ 80, for the k of at most 96 * 2,048 + 1 that can stand in one. Assumes nothing.
use mathlib.Core.Path.{◌≡◌, refl}
use mathlib.Core.Bool.{Bool, true, false}
use mathlib.Core.List.{List, [], ◌∷◌, ◌++◌}
use Prim.Native.Nat.{ℕ, ◌+◌, ◌*◌, ◌^◌, ◌<◌, ◌≤◌}
use native.Mathlib.Nat.{le_refl}
use native.Mathlib.Omega.{arith}
use lib.Dec.{eqb}
use lib.ListN.{length}
use lib.Ieee.{Float, nan, inf, fin, lt, le, eq}
use borrow.Author.Tests.{lt-ltb}
use Rattle.doubles.specs.Num.{f0, finite, infinite, size, ◌⊕◌, ◌⊗◌}
use Rattle.doubles.specs.Limits.{max_entries}
use Rattle.doubles.specs.Loop.{run, each}
use Rattle.doubles.specs.Lists.{◌!◌, ◌#◌}
use Rattle.doubles.specs.Words.{Within}
use Rattle.doubles.proofs.Bools.{never}
use Rattle.doubles.proofs.Loops.{all_by, get_d_table, each_snoc, keeps}
use Rattle.doubles.proofs.Bounds.{double, weaker, zero_within, one_within, product, minus, one_more, total}
use Rattle.sparse.specs.Scattered.{dot}
use Rattle.rules.specs.Plan.{Plan, Memory, Entry, entry, problem_of, m_of, row_cols, row_coeffs, row_sum, column, column_row, column_turn}
use Rattle.rules.specs.Refusals.{passes1, passes2, first_bad_row, is_lower, is_upper}
use Rattle.rules.specs.Start.{start_val, start_val_at, start_vals, start_objective, start_slack, start_norm, passes6}
use Rattle.rules.specs.Invariant.{ProblemFits}
use Rattle.rules.proofs.Lists.{part_at}
use Rattle.rules.proofs.Numbers.{number_within}
use Rattle.rules.proofs.Lengths.{Contents, contents}
use Rattle.rules.proofs.Start.{passed_fits}

-- ---- a start value is 0.0 or a bound that is finite
one_of : {n : ℕ} {x y : Float} (b : Bool) → Within n x → Within n y → Within n (elim b [ true ↦ x | false ↦ y ])
one_of true v w = v
one_of false v w = w

start_value : (c lo hi : Float) → is_lower lo ≡ true → is_upper hi ≡ true → Within (2 ^ 40) (start_val c lo hi)
unfolding start_val eq le infinite finite size
start_value c nan hi p q = never p refl
start_value c (inf false) hi p q = never (number_within (inf false) p).is_finite refl
start_value c (inf true) nan p q = never q refl
start_value c (inf true) (inf true) p q = never (number_within (inf true) q).is_finite refl
start_value c (inf true) (inf false) p q = zero_within
start_value c (inf true) (fin t k d) p q = let w = number_within (fin t k d) q in one_of (lt c f0) w w
start_value c (fin s m e) nan p q = never q refl
start_value c (fin s m e) (inf true) p q = never (number_within (inf true) q).is_finite refl
start_value c (fin s m e) (inf false) p q = let v = number_within (fin s m e) p in one_of (lt c f0) v v
start_value c (fin s m e) (fin t k d) p q =
    let v = number_within (fin s m e) p in
    let w = number_within (fin t k d) q in
    one_of (eq (fin s m e) (fin t k d)) v (one_of (lt c f0) w v)

-- ---- products, and sums of them
product_within : {x y : Float} → Within (2 ^ 40) x → Within (2 ^ 40) y → Within (2 ^ 80) (x ⊗ y)
product_within v w = product (double 1 80 (omega arith) (omega arith)) v w

module _ (p : Plan) (m : Memory) (one : passes1 p m ≡ true) (two : passes2 p ≡ true) (three : first_bad_row p ≡ p.rows) where
  has : Contents p
  has = contents p two

  fits : ProblemFits (problem_of p)
  fits = passed_fits p m one two three

  value : (j : ℕ) → j < p.columns → Within (2 ^ 40) (start_vals p ! j)
  unfolding start_vals
  value j h = rw (get_d_table p.columns (start_val_at p) nan j h) (start_value _ _ _ (has.lower j h) (has.upper j h))

  coeff : (i : ℕ) → i < p.rows → (k : ℕ) → k < length (row_cols p i) → Within (2 ^ 40) (row_coeffs p i ! k)
  coeff i h k l =
      let f = fits.plan.row i h in
      rw (part_at (p.starts # i) (p.starts # (i + 1)) p.coeffs k nan (omega (arith, f))) (number_within _ (has.coeff (p.starts # i + k) (omega (arith, f))))

  -- a row's entries are among the plan's
  few : (i : ℕ) → i < p.rows → length (row_cols p i) ≤ max_entries
  few i h = omega (arith, fits.plan.row i h, fits.plan.entries_most)

  objective : Within (p.columns * 2 ^ 80) (start_objective p (start_vals p))
  unfolding start_objective
  objective =
      total 80 (omega arith) (λ j. start_vals p ! j ⊗ p.costs ! j) p.columns (omega (arith, fits.plan.columns_most))
      (λ j h. product_within (value j h) (number_within _ (has.cost j h)))

  row_sum_holds : (i : ℕ) → i < p.rows → Within (length (row_cols p i) * 2 ^ 80) (row_sum p i (start_vals p))
  unfolding dot
  row_sum_holds i h =
      total 80 (omega arith) (λ k. row_coeffs p i ! k ⊗ start_vals p ! (row_cols p i # k)) (length (row_cols p i)) (omega (arith, few i h))
      (λ k l. product_within (coeff i h k l) (value (row_cols p i # k) ((fits.plan.row i h).col k l)))

  slack : (r : ℕ) → r < m_of (problem_of p) → finite (start_slack (problem_of p) (start_vals p) r) ≡ true
  unfolding start_slack
  slack r h =
      let i = (problem_of p).kept # r in
      let l : i < p.rows = (fits.kept r h).inside in
      let k = length (row_cols p i) in
      let q : (k + 1) * 2 ^ 80 ≡ 2 ^ 80 + k * 2 ^ 80 = omega arith in
      (minus (rw q at (double (k + 1) 80 (omega (arith, few i l)) (omega arith))) (weaker (omega arith) (number_within _ (has.right i l))) (row_sum_holds i l)).is_finite

  -- the squares of the first entries of a column: each row has 2,048 at most
  module _ (j : ℕ) where
    abbrev squares : List Entry → Float
    squares es = each es (λ e t. t ⊕ e.val ⊗ e.val) f0

    turn : (r n k : ℕ) (cols : List ℕ) (xs : List Float) (es : List Entry) → n + k + 1 < 2 ^ 53 → Within (2 ^ 40) (xs ! k) → Within ((n + k) * 2 ^ 80) (squares es)
        → Within ((n + (k + 1)) * 2 ^ 80) (squares (column_turn j r cols xs k es))
    turn r n k cols xs es h v w = go (eqb (cols # k) j)
      where
        q : n + (k + 1) ≡ n + k + 1
        q = omega arith

        go : (b : Bool) → Within ((n + (k + 1)) * 2 ^ 80) (squares (elim b [ true ↦ es ++ (entry r (xs ! k) ∷ []) | false ↦ es ]))
        go true = rw (q, each_snoc) (one_more 80 (omega arith) (n + k) h w (product_within v v))
        go false = weaker (omega arith) w

    row : (r : ℕ) (es : List Entry) → r < m_of (problem_of p) → Within (r * max_entries * 2 ^ 80) (squares es) → Within ((r + 1) * max_entries * 2 ^ 80) (squares (column_row (problem_of p) j r es))
    row r es h w =
        let i = (problem_of p).kept # r in
        let l : i < p.rows = (fits.kept r h).inside in
        let xs = row_coeffs p i in
        let cols = row_cols p i in
        weaker (omega (arith, few i l))
        (keeps (column_turn j r cols xs) es (λ k t. Within ((r * max_entries + k) * 2 ^ 80) (squares t)) (length cols)
        (λ k t g v. turn r (r * max_entries) k cols xs t (omega (arith, few i l, fits.few, fits.plan.rows_most)) (coeff i l k g) v)
        (weaker (omega arith) w) (length cols) (le_refl (length cols)))

  norm : (j : ℕ) → j < p.columns → finite (start_norm (problem_of p) j) ≡ true
  unfolding start_norm column each
  norm j h =
      let n = m_of (problem_of p) in
      let c : column (problem_of p) j ≡ run (column_row (problem_of p) j) n [] = rw (lt-ltb j p.columns h, column) in
      rw c
      (one_more 80 (omega arith) (n * max_entries) (omega (arith, fits.few, fits.plan.rows_most))
      (keeps (column_row (problem_of p) j) [] (λ r es. Within (r * max_entries * 2 ^ 80) (squares j es)) n (row j) zero_within n (le_refl n))
      (weaker (omega arith) one_within)).is_finite

  -- 1 to 3 have passed: so has 6
  pub start_finite : passes6 (problem_of p) ≡ true
  unfolding passes6
  start_finite =
      let values = all_by (λ j. finite (start_vals p ! j)) p.columns (λ j h. (value j h).is_finite) in
      let slacks = all_by (λ r. finite (start_slack (problem_of p) (start_vals p) r)) (m_of (problem_of p)) slack in
      let norms = all_by (λ j. finite (start_norm (problem_of p) j)) p.columns norm in
      rw (values, slacks, objective.is_finite, norms)
