-- Entries counted by rows, and the counts summed up. Assumes nothing.
use mathlib.Core.Path.{◌≡◌, refl, sym, ap, ◌∙◌}
use mathlib.Core.Bool.{Bool, true, false}
use mathlib.Core.Logic.{⊎_elim}
use mathlib.Core.List.{List}
use Prim.Native.Nat.{ℕ, zero, suc, ◌+◌, ◌-◌, ◌<◌, ◌≤◌}
use native.Mathlib.Nat.{le_refl}
use native.Mathlib.Numerals.{add-one}
use native.Mathlib.Omega.{arith}
use lib.Dec.{eqb, ltb}
use lib.ListN.{length, length-set, length-replicate, get_or-replicate}
use lib.Seq.{get_or-set_same, get_or-set_other}
use borrow.Author.Tests.{ltb-true, ltb-false, lt-ltb, le-ltb, eq-eqb, ne_eqb}
use Rattle.doubles.specs.Limits.{max_rows, max_tri_entries}
use Rattle.doubles.specs.Loop.{run}
use Rattle.doubles.specs.Lists.{◌#◌}
use Rattle.doubles.proofs.Bools.{same?, last?}
use Rattle.doubles.proofs.Loops.{keeps}
use Rattle.lu_factor_rules.specs.Transpose.{count_turn, counted, sum_turn, empty}
use Rattle.lu_transpose.specs.Means.{one, in_row, before_row}
use Rattle.lu_transpose.specs.Read.{Summable}

module _ (l : List ℕ) where
  pub in_more : (r k : ℕ) → in_row l r (k + 1) ≡ in_row l r k + one (eqb (l # k) r)
  unfolding in_row run
  in_more r k = rw (add-one k) refl

  pub in_here : (r k : ℕ) → l # k ≡ r → in_row l r (k + 1) ≡ in_row l r k + 1
  in_here r k e = in_more r k ∙ rw (eq-eqb (l # k) r e) refl

  pub in_else : (r k : ℕ) → (l # k ≡ r → ⊥) → in_row l r (k + 1) ≡ in_row l r k
  in_else r k e = in_more r k ∙ rw (ne_eqb (l # k) r e) (omega arith)

  one_most : (b : Bool) → one b ≤ 1
  one_most true = omega arith
  one_most false = omega arith

  -- counts grow
  in_by : (r k d : ℕ) → in_row l r k ≤ in_row l r (k + d)
  in_by r k zero = let q : k + 0 ≡ k = omega arith in rw q (le_refl (in_row l r k))
  in_by r k (suc d) = let q : k + suc d ≡ k + d + 1 = omega arith in rw q
      (omega (arith, in_by r k d, in_more r (k + d)))

  pub in_grows : (r k n : ℕ) → k ≤ n → in_row l r k ≤ in_row l r n
  in_grows r k n h = let q : k + (n - k) ≡ n = omega arith in rw q at (in_by r k (n - k))

  -- the q-th entry of row r
  pub nth : (r n q : ℕ) → 0 < q → q ≤ in_row l r n → (k : ℕ) × (k < n) × (l # k ≡ r) × (in_row l r (k + 1) ≡ q)
  unfolding in_row run
  nth r zero q a b = absurd (omega arith)
  nth r (suc n) q a b = ⊎_elim
      (λ (h : l # n ≡ r). ⊎_elim
      (λ (g : q < in_row l r n + 1). let w = nth r n q a (omega arith) in (w.0, omega (arith, w.1), w.2, w.3))
      (λ (g : q ≡ in_row l r n + 1). (n, omega arith, h, in_here r n h ∙ sym g))
      (last? q (in_row l r n + 1) (omega (arith, rw (eq-eqb (l # n) r h) at b))))
      (λ (h : l # n ≡ r → ⊥). let w = nth r n q a (omega (arith, rw (ne_eqb (l # n) r h) at b)) in
      (w.0, omega (arith, w.1), w.2, w.3))
      (same? (l # n) r)

  -- the rows up to r are the rows before r and r itself
  one_sum : (x r : ℕ) → one (ltb x (suc r)) ≡ one (ltb x r) + one (eqb x r)
  one_sum x r = ⊎_elim
      (λ (h : x ≡ r). rw (lt-ltb x (suc r) (omega arith), le-ltb x r (omega arith), eq-eqb x r h) refl)
      (λ (h : x ≡ r → ⊥). by (ltb x r) refl h)
      (same? x r)
    where
      by : (b : Bool) → ltb x r ≡ b → (x ≡ r → ⊥) → one (ltb x (suc r)) ≡ one b + one (eqb x r)
      by true e h = let g = ltb-true x r e in rw (lt-ltb x (suc r) (omega arith), ne_eqb x r h) refl
      by false e h = let g = ltb-false x r e in let f : suc r ≤ x = ⊎_elim (λ (i : r < x). i)
          (λ (i : r ≡ x). absurd (h (sym i))) (last? r x (omega arith)) in rw (le-ltb x (suc r) f, ne_eqb x r h) refl

  pub before_next : (r n : ℕ) → before_row l (suc r) n ≡ before_row l r n + in_row l r n
  unfolding before_row in_row run
  before_next r zero = refl
  before_next r (suc n) = omega (arith, before_next r n, one_sum (l # n) r)

  pub before_none : (n : ℕ) → before_row l 0 n ≡ 0
  unfolding before_row run
  before_none zero = refl
  before_none (suc n) = rw (le-ltb (l # n) 0 (omega arith)) (omega (arith, before_none n))

  pub before_most : (r n : ℕ) → before_row l r n ≤ n
  unfolding before_row run
  before_most r zero = omega arith
  before_most r (suc n) = omega (arith, before_most r n, one_most (ltb (l # n) r))

  pub before_all : (r n : ℕ) → ((k : ℕ) → k < n → l # k < r) → before_row l r n ≡ n
  unfolding before_row run
  before_all r zero h = refl
  before_all r (suc n) h = rw (lt-ltb (l # n) r (h n (omega arith)))
      (omega (arith, before_all r n (λ k g. h k (omega arith))))

  before_by : (r d n : ℕ) → before_row l r n ≤ before_row l (r + d) n
  before_by r zero n = let q : r + 0 ≡ r = omega arith in rw q (le_refl (before_row l r n))
  before_by r (suc d) n = let q : r + suc d ≡ suc (r + d) = omega arith in rw q
      (omega (arith, before_by r d n, before_next (r + d) n))

  pub before_grows : (r s n : ℕ) → r ≤ s → before_row l r n ≤ before_row l s n
  before_grows r s n h = let q : r + (s - r) ≡ s = omega arith in rw q at (before_by r (s - r) n)

  -- ---- the code's counts
  pub record Counting (n : ℕ) (c : List ℕ) : Type 0 where
    pub long : length c ≡ max_rows + 1
    pub at : (r : ℕ) → r ≤ max_rows → c # r ≡ in_row l r n

  counting_none : Counting 0 empty.starts
  unfolding in_row run
  counting_none = record {
    long = length-replicate {A = ℕ} (max_rows + 1) 0;
    at = λ r h. get_or-replicate {A = ℕ}
        (max_rows + 1) r 0 0 (omega arith);
  }

  module _ (n : ℕ) (rows : (k : ℕ) → k < n → l # k < max_rows) where
    pub counting : (k : ℕ) → k ≤ n → Counting k (run (count_turn l) k empty.starts)
    counting k h = keeps (count_turn l) empty.starts Counting n
        (λ j c g w. record {
          long = length-set c (l # j) (c # (l # j) + 1) ∙ w.long;
          at = λ r f. ⊎_elim
              (λ (e : r ≡ l # j). rw e (get_or-set_same c (l # j) (c # (l # j) + 1) 0 (omega (arith, w.long, rows j g)) ∙
              ap (λ (x : ℕ). x + 1) (w.at (l # j) (omega (arith, rows j g))) ∙ sym (in_here (l # j) j refl)))
              (λ (e : r ≡ l # j → ⊥). get_or-set_other c (l # j) r (c # (l # j) + 1) 0 e ∙ w.at r f ∙ sym
              (in_else r j (λ (q : l # j ≡ r). e (sym q))))
              (same? r (l # j));
        }) counting_none k h

    -- no count is larger than what was counted
    pub count_small : (k : ℕ) → k ≤ n → {c : List ℕ} → c ≡ run (count_turn l) k empty.starts → (r : ℕ) → r < max_rows
        → c # r ≤ k
    count_small k h e r g = rw e (omega (
      arith,
      (counting k h).at r (omega arith),
      before_next r k,
      before_most (suc r)
          k,
    ))

    pub counted_at : Counting n (counted l n empty.starts)
    unfolding counted
    counted_at = counting n (le_refl n)

  -- ---- and their sums
  pub record Summing (n j : ℕ) (c : List ℕ) : Type 0 where
    pub long : length c ≡ max_rows + 1
    pub done : (r : ℕ) → r ≤ j → c # r ≡ before_row l (suc r) n
    pub ahead : (r : ℕ) → j < r → r ≤ max_rows → c # r ≡ in_row l r n

  module _ {n : ℕ} {c : List ℕ} (w : Counting n c) (m : ℕ) (small : m ≤ max_rows) where
    pub summing : (k : ℕ) → k ≤ m → Summing n k (run sum_turn k c)
    summing k h = keeps sum_turn c (Summing n) m
        (λ j x g s. record {
          long = length-set x (j + 1) (x # (j + 1) + x # j) ∙ s.long;
          done = λ r f. ⊎_elim
              (λ (i : r < j + 1). get_or-set_other x (j + 1) r (x # (j + 1) + x # j) 0 (λ (q : r ≡ j + 1). omega arith) ∙
              s.done r (omega arith))
              (λ (i : r ≡ j + 1). rw (i, add-one j) (get_or-set_same x (suc j) (x # (suc j) + x # j) 0
              (omega (arith, s.long))
              ∙ omega (
                arith,
                s.ahead (suc j) (omega arith) (omega arith),
                s.done j (omega arith),
                before_next (suc j)
                    n,
              )))
              (last? r (j + 1) (omega arith));
          ahead = λ r a f. get_or-set_other x (j + 1) r (x # (j + 1) + x # j) 0 (λ (q : r ≡ j + 1). omega arith) ∙ s.ahead r (omega arith) f;
        })
        (record {
          long = w.long;
          done = λ r f. let q : r ≡ 0 = omega arith in rw q (w.at 0 (omega arith) ∙ sym
              (omega (arith, before_next 0 n, before_none n)));
          ahead = λ r a f. w.at r f;
        }) k h

    pub summable : n ≤ max_tri_entries → Summable m c
    summable h =
        record {
          small = small;
          sums = λ r g.
              let s = summing r (omega arith) in
              rw (add-one r) (omega (
                arith,
                s.ahead (suc r) (omega arith) (omega arith),
                s.done r (omega arith),
                before_next (suc r) n,
                before_most (suc (suc r)) n,
              ));
        }
