-- How many entries a column can have: a listed row that passes a test stands for one entry at most, and there are as
-- many as rows that pass. Assumes nothing.
use mathlib.Core.Path.{◌≡◌, refl, sym, ap, ◌∙◌}
use mathlib.Core.Bool.{Bool, true, false, not}
use mathlib.Core.Logic.{⊎_elim}
use mathlib.Core.List.{List, ◌∷◌}
use Prim.Native.Nat.{ℕ, zero, suc, ◌+◌, ◌-◌, ◌<◌, ◌≤◌}
use native.Mathlib.Nat.{le_refl}
use native.Mathlib.Numerals.{add-one}
use native.Mathlib.Omega.{arith}
use lib.ListN.{length, get_or, set, length-set}
use lib.Seq.{get_or-set_same, get_or-set_other, set-get_or, ext_get_or}
use Rattle.doubles.specs.Loop.{run, tab, table}
use Rattle.doubles.specs.Lists.{◌#◌}
use Rattle.doubles.proofs.Bools.{same?, truth}
use Rattle.doubles.proofs.Loops.{keeps, length_tab, get_d_table}
use Rattle.sparse.specs.Scattered.{trues}
use Rattle.sparse.proofs.Laws.{trues_set, trues_le}

-- ---- marks
more_marks : (b : Bool) (m : List Bool) (i : ℕ) → i < length m → get_or m i false ≡ b → trues m ≤ trues (set m i true)
more_marks false m i h e = omega (arith, trues_set m i h e)
more_marks true m i h e = let q : set m i true ≡ m = ap (set m i) (sym e) ∙ set-get_or m i false in rw q
    (le_refl (trues m))

-- a table of tests and that of their opposites have as many marks as there are indices
pub opposites : (n i : ℕ) (f : ℕ → Bool) → trues (tab n i f) + trues (tab n i (λ k. not (f k))) ≡ n
unfolding tab trues
opposites zero i f = refl
opposites (suc n) i f = by (f i) (opposites n (suc i) f)
  where
    by : (b : Bool) → trues (tab n (suc i) f) + trues (tab n (suc i) (λ k. not (f k))) ≡ n
        → trues (b ∷ tab n (suc i) f) + trues (not b ∷ tab n (suc i) (λ k. not (f k))) ≡ suc n
    by true e = omega arith
    by false e = omega arith

-- one test more that is true
pub one_more : (n r : ℕ) (f g : ℕ → Bool) → r < n → g r ≡ true → ((k : ℕ) → k < n → (k ≡ r → ⊥) → g k ≡ f k)
    → table n g ≡ set (table n f) r true
one_more n r f g h e o =
    ext_get_or false (table n g) (set (table n f) r true) (length_tab n 0 g ∙ sym
    (length-set (table n f) r true ∙ length_tab n 0 f)) (λ k l.
    let b : k < n = omega (arith, length_tab n 0 g) in
    get_d_table n g false k b
    ∙ ⊎_elim
    (λ (q : k ≡ r). ap g q ∙ e ∙ sym (ap (λ (j : ℕ). get_or (set (table n f) r true) j false) q ∙ get_or-set_same
    (table n f) r true false (omega (arith, length_tab n 0 f))))
    (λ (q : k ≡ r → ⊥). o k b q ∙ sym (get_or-set_other (table n f) r k true false q ∙ get_d_table n f false k b))
    (same? k r))

pub count_more : (n r : ℕ) (f g : ℕ → Bool) → r < n → f r ≡ false → g r ≡ true
    → ((k : ℕ) → k < n → (k ≡ r → ⊥) → g k ≡ f k) → trues (table n g) ≡ suc (trues (table n f))
count_more n r f g h a b o = ap trues (one_more n r f g h b o) ∙ trues_set (table n f) r
    (omega (arith, length_tab n 0 f)) (get_d_table n f false r h ∙ a)

-- ---- a list of n places below m, none twice; the places that pass p
module _ (m n : ℕ) (l : List ℕ) (below : (k : ℕ) → k < n → l # k < m) (once : (j k : ℕ) → j < n → k < n → l # j ≡ l # k
    → j ≡ k) (p : ℕ → Bool) where
  -- those that don't pass, and those of the first k listed
  abbrev start : List Bool
  start = table m (λ r. not (p r))

  abbrev turn : ℕ → List Bool → List Bool
  turn k b = set b (l # k) true

  record Seen (k : ℕ) (b : List Bool) : Type 0 where
    long : length b ≡ m
    off : (q : ℕ) → q < m → p q ≡ true → ((j : ℕ) → j < k → l # j ≡ q → ⊥) → get_or b q false ≡ false

  seen : (k : ℕ) → k ≤ n → Seen k (run turn k start)
  seen k h =
      keeps turn start Seen n
      (λ j b g s. record {
        long = length-set b (l # j) true ∙ s.long;
        off = λ q a t o. get_or-set_other b (l # j) q true false (λ (e : q ≡ l # j). o j (omega arith) (sym e)) ∙ s.off q
            a t (λ i d. o i (omega arith));
      })
      (record {
        long = length_tab m 0 (λ r. not (p r));
        off = λ q a t o. get_d_table m (λ r. not (p r)) false q a ∙ ap
            not t;
      }) k h

  module _ (c : ℕ → ℕ) (some : (k : ℕ) → k < n → p (l # k) ≡ true → c (k + 1) ≤ c k + 1) (none : (k : ℕ) → k < n
      → p (l # k) ≡ false → c (k + 1) ≤ c k) where
    new : (k : ℕ) → k < n → p (l # k) ≡ true → get_or (run turn k start) (l # k) false ≡ false
    new k h t = (seen k (omega arith)).off (l # k) (below k h) t (λ j g e. omega (arith, once j k (omega arith) h e))

    counted : (k : ℕ) → k ≤ n → c k + trues start ≤ c 0 + trues (run turn k start)
    unfolding run
    counted zero h = omega arith
    counted (suc k) h = let b = counted k (omega arith) in ⊎_elim (passes b) (fails b) (truth (p (l # k)))
      where
        lt : k < n
        lt = omega arith

        at : l # k < length (run turn k start)
        at = omega (arith, (seen k (omega arith)).long, below k lt)

        passes : c k + trues start ≤ c 0 + trues (run turn k start) → p (l # k) ≡ true
            → c (suc k) + trues start ≤ c 0 + trues (set (run turn k start) (l # k) true)
        passes before t = rw (← add-one k) (omega (
          arith,
          before,
          some k lt t,
          trues_set (run turn k start) (l # k) at
              (new k lt t),
        ))

        fails : c k + trues start ≤ c 0 + trues (run turn k start) → p (l # k) ≡ false
            → c (suc k) + trues start ≤ c 0 + trues (set (run turn k start) (l # k) true)
        fails before t = rw (← add-one k) (omega (
          arith,
          before,
          none k lt t,
          more_marks
              (get_or (run turn k start) (l # k) false) (run turn k start) (l # k) at refl,
        ))

    -- where the k-th passes, there was room for it
    pub room_at : (k : ℕ) → k < n → p (l # k) ≡ true → c k + trues start < c 0 + m
    room_at k h t =
        let s = seen k (omega arith) in
        omega (
          arith,
          counted k (omega arith),
          trues_set (run turn k start) (l # k) (omega (arith, s.long, below k h))
              (new k h t),
          trues_le (set (run turn k start) (l # k) true),
          length-set (run turn k start) (l # k) true,
          s.long,
        )

    pub room_all : (k : ℕ) → k ≤ n → c k + trues start ≤ c 0 + m
    room_all k h = omega (arith, counted k h, trues_le (run turn k start), (seen k h).long)
