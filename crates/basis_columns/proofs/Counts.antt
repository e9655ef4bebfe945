-- The counts: after any number of turns a count is the length of its column so far, and they sum up to the entries passed. Assumes nothing.
use mathlib.Core.Path.{◌≡◌, refl, sym, ap, ◌∙◌, subst}
use mathlib.Core.Bool.{Bool, true, false}
use mathlib.Core.List.{List, [], ◌∷◌, ◌++◌}
use mathlib.Core.Logic.{⊎_elim}
use Prim.Native.Nat.{ℕ, zero, suc, ◌+◌, ◌-◌, ◌<◌, ◌≤◌}
use native.Mathlib.Nat.{eq-or-lt_of_le, le_of_suc-le-suc}
use native.Mathlib.Numerals.{add-one}
use native.Mathlib.Omega.{arith}
use lib.ListN.{length, set, length-set, replicate}
use lib.Seq.{get_or-set_same, get_or-set_other}
use lib.Dec.{eqb}
use lib.Ieee.{Float}
use borrow.Author.Tests.{eqb-true, eqb-false}
use Rattle.doubles.specs.Limits.{max_columns, max_entries}
use Rattle.doubles.specs.Loop.{run}
use Rattle.doubles.specs.Lists.{◌!◌, ◌#◌}
use Rattle.rules.specs.Plan.{Problem, Entry, entry, column_turn, column_row, row_cols, row_coeffs, n_of, m_of}
use Rattle.rules.proofs.Lists.{part_long, length_snoc}
use Rattle.basis_columns.specs.Columns.{count_turn, counted_in, count_row, counted, sum, Counting, Matrix}

-- ---- sums
pub sum_zero : (l : List ℕ) → sum l 0 ≡ 0
unfolding sum run
sum_zero l = refl

pub sum_suc : (l : List ℕ) (j : ℕ) → sum l (suc j) ≡ sum l j + l # j
unfolding sum run
sum_suc l j = refl

-- at the code's j + 1
pub sum_next : (l : List ℕ) (j : ℕ) → sum l (j + 1) ≡ sum l j + l # j
sum_next l j = ap (sum l) (add-one j) ∙ sum_suc l j

sum_same : (l k : List ℕ) (n : ℕ) → ((i : ℕ) → i < n → l # i ≡ k # i) → sum l n ≡ sum k n
sum_same l k zero e = sum_zero l ∙ sym (sum_zero k)
sum_same l k (suc n) e = omega (arith, sum_suc l n, sum_suc k n, e n (omega arith), sum_same l k n (λ i h. e i (omega arith)))

pub sum_rises : (l : List ℕ) (i j : ℕ) → i ≤ j → sum l i ≤ sum l j
sum_rises l zero zero h = omega arith
sum_rises l (suc i) zero h = absurd (omega arith)
sum_rises l i (suc j) h = ⊎_elim (λ (q : i ≡ suc j). rw q (omega arith)) (λ g. omega (arith, sum_suc l j, sum_rises l i j (le_of_suc-le-suc g))) (eq-or-lt_of_le h)

-- one of them is at most the sum
pub sum_most : (l : List ℕ) (n i : ℕ) → i < n → l # i ≤ sum l n
sum_most l n i h = omega (arith, sum_suc l i, sum_rises l (suc i) n h)

-- one count goes up by one
sum_set : (l : List ℕ) (n c : ℕ) → c < n → c < length l → sum (set l c (l # c + 1)) n ≡ sum l n + 1
sum_set l zero c h g = absurd (omega arith)
sum_set l (suc n) c h g =
    let x = l # c + 1 in
    ⊎_elim
    (λ (q : c ≡ n).
    let same = sum_same (set l c x) l n (λ i k. get_or-set_other l c i x 0 (λ s. absurd (omega arith))) in
    let new : set l c x # n ≡ l # n + 1 = subst (λ (i : ℕ). set l c x # i ≡ l # i + 1) q (get_or-set_same l c x 0 g) in
    omega (arith, sum_suc (set l c x) n, sum_suc l n, same, new))
    (λ k.
    let old : set l c x # n ≡ l # n = get_or-set_other l c n x 0 (λ s. absurd (omega arith)) in
    omega (arith, sum_suc (set l c x) n, sum_suc l n, sum_set l n c k g, old))
    (eq-or-lt_of_le (le_of_suc-le-suc h))

-- ---- a row
pub turns_long : (cols l : List ℕ) (k : ℕ) → length (run (count_turn cols) k l) ≡ length l
unfolding run
turns_long cols l zero = refl
turns_long cols l (suc k) = let t = run (count_turn cols) k l in length-set t (cols # k) (t # (cols # k) + 1) ∙ turns_long cols l k

-- a column with one more entry, or as it was
abbrev pub grown : Bool → List Entry → Entry → List Entry
grown b es x = elim b [ true ↦ es ++ (x ∷ []) | false ↦ es ]

module _ (cols : List ℕ) (n : ℕ) (inside : (k : ℕ) → k < length cols → cols # k < n) where
  module _ (l : List ℕ) (long : n ≤ length l) where
    count_total : (k : ℕ) → k ≤ length cols → sum (run (count_turn cols) k l) n ≡ sum l n + k
    unfolding run
    count_total zero h = omega arith
    count_total (suc k) h =
        let t = run (count_turn cols) k l in
        omega (arith, sum_set t n (cols # k) (inside k h) (omega (arith, inside k h, turns_long cols l k)), count_total k (omega arith))

  -- a count is the length of its column so far
  one_more : (l : List ℕ) (es : List Entry) (c j : ℕ) (x : Entry) → c < length l → l # j ≡ length es → set l c (l # c + 1) # j ≡ length (grown (eqb c j) es x)
  one_more l es c j x h e = go (eqb c j) refl
    where
      go : (b : Bool) → eqb c j ≡ b → set l c (l # c + 1) # j ≡ length (grown b es x)
      go true q =
          let s = eqb-true c j q in
          subst (λ (i : ℕ). set l c (l # c + 1) # i ≡ length (es ++ (x ∷ []))) s
          (get_or-set_same l c (l # c + 1) 0 h ∙ omega (arith, length_snoc es x, e, ap (λ (i : ℕ). l # i) s))
      go false q = get_or-set_other l c j (l # c + 1) 0 (λ s. eqb-false c j q (sym s)) ∙ e

  count_each : (l : List ℕ) → n ≤ length l → (r j : ℕ) (xs : List Float) (es : List Entry) → l # j ≡ length es → (k : ℕ) → k ≤ length cols → run (count_turn cols) k l # j ≡ length (run (column_turn j r cols xs) k es)
  unfolding run
  count_each l long r j xs es e zero h = e
  count_each l long r j xs es e (suc k) h =
      one_more (run (count_turn cols) k l) (run (column_turn j r cols xs) k es) (cols # k) j (entry r (xs ! k))
      (omega (arith, inside k h, turns_long cols l k)) (count_each l long r j xs es e k (omega arith))

-- ---- all rows
pub zeros_at : (n i : ℕ) → replicate n 0 # i ≡ 0
zeros_at zero i = refl
zeros_at (suc n) zero = refl
zeros_at (suc n) (suc i) = zeros_at n i

module _ (P : Problem) (f : Matrix P) (zeros : List ℕ) (zeros-long : length zeros ≡ max_columns) (none : (i : ℕ) → zeros # i ≡ 0) where
  abbrev cols_of : ℕ → List ℕ
  cols_of r = row_cols P.plan (P.kept # r)

  row_long : (r : ℕ) → r < m_of P → length (cols_of r) ≡ P.plan.starts # (P.kept # r + 1) - P.plan.starts # (P.kept # r)
  row_long r h = part_long (P.plan.starts # (P.kept # r)) (P.plan.starts # (P.kept # r + 1)) P.plan.cols (f.row r h).cols_in.ends

  abbrev after : ℕ → List ℕ
  after r = run (count_row P) r zeros

  after_long : (r : ℕ) → r ≤ m_of P → length (after r) ≡ max_columns
  unfolding run counted_in
  after_long zero h = zeros-long
  after_long (suc r) h = turns_long (cols_of r) (after r) (length (cols_of r)) ∙ after_long r (omega arith)

  enough : (r : ℕ) → r ≤ m_of P → n_of P ≤ length (after r)
  enough r h = omega (arith, f.columns_most, after_long r h)

  zeros_sum : (n : ℕ) → sum zeros n ≡ 0
  zeros_sum zero = sum_zero zeros
  zeros_sum (suc n) = omega (arith, sum_suc zeros n, zeros_sum n, none n)

  -- what is counted of r rows is at most any start past them
  after_few : (r : ℕ) → r ≤ m_of P → (b : ℕ) → ((q : ℕ) → q < r → P.plan.starts # (P.kept # q + 1) ≤ b) → sum (after r) (n_of P) ≤ b
  unfolding run counted_in
  after_few zero h b g = omega (arith, zeros_sum (n_of P))
  after_few (suc r) h b g =
      let w = f.row r h in
      let t = count_total (cols_of r) (n_of P) w.col (after r) (enough r (omega arith)) (length (cols_of r)) (omega arith) in
      omega (arith, t, row_long r h, after_few r (omega arith) (P.plan.starts # (P.kept # r)) w.after, w.cols_in.rises, g r (omega arith))

  pub counted_few : sum (counted P zeros) (n_of P) ≤ max_entries
  unfolding counted
  counted_few = after_few (m_of P) (omega arith) max_entries (λ q h. (f.row q h).most)

  -- a row can be counted
  pub counting : (r : ℕ) → r < m_of P → Counting (cols_of r) (after r)
  counting r h =
      let w = f.row r h in
      record {
        col = λ k g. omega (arith, w.col k g, f.columns_most);
        few = λ k g.
            let t = count_total (cols_of r) (n_of P) w.col (after r) (enough r (omega arith)) k (omega arith) in
            let s = after_few r (omega arith) (P.plan.starts # (P.kept # r)) w.after in
            omega (arith, t, s, sum_most (run (count_turn (cols_of r)) k (after r)) (n_of P) (cols_of r # k) (w.col k g), row_long r h, w.cols_in.rises, w.most);
      }

  after_each : (r : ℕ) → r ≤ m_of P → (j : ℕ) → after r # j ≡ length (run (column_row P j) r [])
  unfolding run counted_in
  after_each zero h j = none j
  after_each (suc r) h j =
      count_each (cols_of r) (n_of P) (f.row r h).col (after r) (enough r (omega arith)) r j (row_coeffs P.plan (P.kept # r)) (run (column_row P j) r []) (after_each r (omega arith) j) (length (cols_of r)) (omega arith)

  pub counted_each : (j : ℕ) → counted P zeros # j ≡ length (run (column_row P j) (m_of P) [])
  unfolding counted
  counted_each j = after_each (m_of P) (omega arith) j
