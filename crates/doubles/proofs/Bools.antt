-- A test and the statement that it decides: `(b ≡ true) ↔ P`, or `(b ≡ false) ↔ N`. The laws carry such facts along &&, ||, not, all and first. Assumes nothing.
use mathlib.Core.Path.{◌≡◌, refl}
use mathlib.Core.Bool.{Bool, true, false, not, ◌&&◌, ◌||◌}
use mathlib.Core.Logic.{◌↔◌, ◌⊎◌, inl, inr, ⊎_elim}
use Prim.Native.Nat.{ℕ, zero, suc, ◌+◌, ◌<◌, ◌≤◌}
use native.Mathlib.Nat.{le_antisymm}
use native.Mathlib.Omega.{arith}
use borrow.Author.Tests.{ltb-true, ltb-false, leb-true, leb-false, eqb-true, eqb-false, lt-ltb, le-ltb, lt-leb, le-leb, eq-eqb, ne_eqb}
use lib.Dec.{ltb, leb, eqb}
use Rattle.doubles.specs.Loop.{all, first}
use Rattle.doubles.proofs.Tests.{not_both, false_by}
use Rattle.doubles.proofs.Loops.{first_means, all_fails}

-- a test has one of two values
pub by_test : {C : Type 0} (b : Bool) → (b ≡ true → C) → (b ≡ false → C) → C
by_test true f g = f refl
by_test false f g = g refl

pub never : {C : Type 0} {b : Bool} → b ≡ true → b ≡ false → C
never t f = absurd (not_both t f)

-- the same as a sum, for cases of numbers
pub truth : (b : Bool) → (b ≡ true) ⊎ (b ≡ false)
truth b = by_test b inl inr

pub same? : (a b : ℕ) → (a ≡ b) ⊎ (a ≡ b → ⊥)
same? a b = ⊎_elim (λ w. inl (eqb-true a b w)) (λ w. inr (eqb-false a b w)) (truth (eqb a b))

pub last? : (i c : ℕ) → i < c + 1 → (i < c) ⊎ (i ≡ c)
last? i c h = ⊎_elim (λ w. inl (ltb-true i c w)) (λ w. inr (omega (arith, ltb-false i c w))) (truth (ltb i c))

-- ---- one test

-- where it is false the statement fails
pub fails : {b : Bool} {P : Type 0} → (b ≡ true) ↔ P → (b ≡ false) ↔ (¬ P)
fails e = (λ f h. never (e.1 h) f, λ n. false_by (λ t. n (e.0 t)))

pub turned : {b : Bool} {P : Type 0} → (b ≡ true) ↔ P → (not b ≡ false) ↔ P
turned {b = true} e = (λ _. e.0 refl, λ _. refl)
turned {b = false} e = (λ f. never refl f, λ h. never (e.1 h) refl)

pub turned_true : {b : Bool} {P : Type 0} → (b ≡ false) ↔ P → (not b ≡ true) ↔ P
turned_true {b = false} e = (λ _. e.0 refl, λ _. refl)
turned_true {b = true} e = (λ f. never f refl, λ h. never refl (e.1 h))

pub itself : {b c : Bool} → (b ≡ c) ↔ (b ≡ c)
itself = (λ e. e, λ e. e)

pub leb_fails : (a b : ℕ) → (leb a b ≡ false) ↔ (b < a)
leb_fails a b = (leb-false a b, lt-leb a b)

pub leb_holds : (a b : ℕ) → (leb a b ≡ true) ↔ (a ≤ b)
leb_holds a b = (leb-true a b, le-leb a b)

pub ltb_holds : (a b : ℕ) → (ltb a b ≡ true) ↔ (a < b)
ltb_holds a b = (ltb-true a b, lt-ltb a b)

pub ltb_fails : (a b : ℕ) → (ltb a b ≡ false) ↔ (b ≤ a)
ltb_fails a b = (ltb-false a b, le-ltb a b)

pub eqb_holds : (a b : ℕ) → (eqb a b ≡ true) ↔ (a ≡ b)
eqb_holds a b = (eqb-true a b, eq-eqb a b)

pub eqb_fails : (a b : ℕ) → (eqb a b ≡ false) ↔ (¬ (a ≡ b))
eqb_fails a b = (eqb-false a b, ne_eqb a b)

-- ---- two tests
infixr 2 ◌or◌
-- one of two fails
pub ◌or◌ : {a b : Bool} {G H : Type 0} → (a ≡ false) ↔ G → (b ≡ false) ↔ H → (a && b ≡ false) ↔ (G ⊎ H)
◌or◌ {a = true} e g = (λ f. inr (g.0 f), ⊎_elim (λ x. never refl (e.1 x)) (λ y. g.1 y))
◌or◌ {a = false} e g = (λ f. inl (e.0 refl), λ _. refl)

infixr 2 ◌both◌
pub ◌both◌ : {a b : Bool} {P Q : Type 0} → (a ≡ true) ↔ P → (b ≡ true) ↔ Q → (a && b ≡ true) ↔ (P × Q)
◌both◌ {a = true} e g = (λ t. (e.0 refl, g.0 t), λ h. g.1 h.1)
◌both◌ {a = false} e g = (λ t. never t refl, λ h. never (e.1 h.0) refl)

infixr 2 ◌either◌
pub ◌either◌ : {a b : Bool} {P Q : Type 0} → (a ≡ true) ↔ P → (b ≡ true) ↔ Q → (a || b ≡ true) ↔ (P ⊎ Q)
◌either◌ {a = true} e g = (λ t. inl (e.0 refl), λ _. refl)
◌either◌ {a = false} e g = (λ t. inr (g.0 t), ⊎_elim (λ x. never (e.1 x) refl) (λ y. g.1 y))

-- both of two fail
infixr 2 ◌neither◌
pub ◌neither◌ : {a b : Bool} {G H : Type 0} → (a ≡ false) ↔ G → (b ≡ false) ↔ H → (a || b ≡ false) ↔ (G × H)
◌neither◌ {a = true} e g = (λ f. never refl f, λ h. never refl (e.1 h.0))
◌neither◌ {a = false} e g = (λ f. (e.0 refl, g.0 f), λ h. g.1 h.1)

-- ---- all
all_false : (p : ℕ → Bool) (n : ℕ) → all n p ≡ false → (k : ℕ) × (k < n) × (p k ≡ false)
unfolding all
all_false p zero e = never refl e
all_false p (suc n) e =
    by_test (all n p)
    (λ t. (n, omega arith, false_by (λ u. never ((◌both◌ itself itself).1 (t, u)) e)))
    (λ f. let r = all_false p n f in (r.0, omega (arith, r.1), r.2))

pub some_fails : {p : ℕ → Bool} {G : ℕ → Type 0} (n : ℕ) → ((k : ℕ) → (p k ≡ false) ↔ G k) → (all n p ≡ false) ↔ ((k : ℕ) × (k < n) × G k)
some_fails {p} n e = (λ f. let r = all_false p n f in (r.0, r.1, (e r.0).0 r.2), λ s. all_fails p n s.0 s.1 ((e s.0).1 s.2))

-- ---- first
module _ {p : ℕ → Bool} {Q : ℕ → Type 0} (n : ℕ) (e : (k : ℕ) → (p k ≡ true) ↔ Q k) where
  -- below n it has the property, and none before it does
  pub first_has : first n p < n → (first n p < n) × Q (first n p) × ((u : ℕ) → u < first n p → ¬ Q u)
  first_has h =
      let f = first_means p n in
      (h, (e (first n p)).0 (f.found h), λ u l. (fails (e u)).0 (f.before u (omega arith) l))

  -- and there is just one such index
  pub first_only : (v : ℕ) → (v < n) × Q v × ((u : ℕ) → u < v → ¬ Q u) → first n p ≡ v
  first_only v s =
      let f = first_means p n in
      by_test (ltb (first n p) v)
      (λ t. absurd (s.2 (first n p) (ltb-true _ _ t) ((e (first n p)).0 (f.found (omega (arith, s.0, ltb-true (first n p) v t))))))
      (λ l. by_test (ltb v (first n p))
      (λ t. never ((e v).1 s.1) (f.before v (omega arith) (ltb-true _ _ t)))
      (λ g. le_antisymm (ltb-false _ _ g) (ltb-false _ _ l)))

  -- it is n exactly where none has it
  pub first_none : (first n p ≡ n) ↔ ((u : ℕ) → u < n → ¬ Q u)
  first_none =
      let f = first_means p n in (
        λ q u h. (fails (e u)).0 (f.before u (omega arith) (omega (arith, q))),
        λ s. by_test (ltb (first n p) n)
            (λ t. absurd (s (first n p) (ltb-true _ _ t) ((e (first n p)).0 (f.found (ltb-true _ _ t)))))
            (λ g. le_antisymm f.upto (ltb-false _ _ g)),
      )

  pub first_below : (ltb (first n p) n ≡ true) ↔ ((k : ℕ) × (k < n) × Q k)
  first_below = (
    λ t. let s = first_has (ltb-true _ _ t) in (first n p, s.0, s.1),
    λ s. by_test (ltb (first n p) n) (λ t. t) (λ g. absurd (first_none.0 (le_antisymm (first_means p n).upto (ltb-false _ _ g)) s.0 s.1 s.2)),
  )

  -- the test for "none" fails
  pub first_named : eqb (first n p) n ≡ false → (first n p < n) × Q (first n p) × ((u : ℕ) → u < first n p → ¬ Q u)
  first_named f = first_has (below (eqb-false _ _ f))
    where
      below : ¬ (first n p ≡ n) → first n p < n
      below h = omega (arith, (first_means p n).upto)

  pub first_misses : (eqb (first n p) n ≡ false) ↔ ((k : ℕ) × (k < n) × Q k)
  first_misses =
      (λ f. let s = first_named f in (first n p, s.0, s.1), λ s. ne_eqb _ _ (λ q. first_none.0 q s.0 s.1 s.2))

-- the first that fails a test, with what the test says
module _ {p : ℕ → Bool} {Q : ℕ → Type 0} (n : ℕ) (e : (k : ℕ) → (p k ≡ true) ↔ Q k) where
  lacks : (k : ℕ) → (not (p k) ≡ true) ↔ (¬ Q k)
  lacks k = turned_true (fails (e k))

  holds : (k : ℕ) → ¬ (¬ Q k) → Q k
  holds k h = by_test (p k) (λ t. (e k).0 t) (λ f. absurd (h ((fails (e k)).0 f)))

  pub lack_has : first n (λ k. not (p k)) < n → (first n (λ k. not (p k)) < n) × (¬ Q (first n (λ k. not (p k)))) × ((u : ℕ) → u < first n (λ k. not (p k)) → Q u)
  lack_has h = let s = first_has n lacks h in (s.0, s.1, λ u l. holds u (s.2 u l))

  pub lack_only : (v : ℕ) → (v < n) × (¬ Q v) × ((u : ℕ) → u < v → Q u) → first n (λ k. not (p k)) ≡ v
  lack_only v s = first_only n lacks v (s.0, s.1, λ u l h. h (s.2 u l))

  pub lack_none : (first n (λ k. not (p k)) ≡ n) ↔ ((u : ℕ) → u < n → Q u)
  lack_none = (λ q u l. holds u ((first_none n lacks).0 q u l), λ s. (first_none n lacks).1 (λ u l h. h (s u l)))
