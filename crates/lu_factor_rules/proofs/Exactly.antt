-- 23 and 25 exactly: `wild_exactly`, `flat_exactly`, and what is factored, `factored_exactly`. Assumes nothing.
use mathlib.Core.Path.{◌≡◌, refl, sym, ap, ◌∙◌, subst}
use mathlib.Core.Bool.{Bool, true, false, not}
use mathlib.Core.Logic.{◌⊎◌, inl, inr, ⊎_elim, ◌↔◌}
use mathlib.Core.List.{List}
use Prim.Native.Nat.{ℕ, zero, suc, ◌+◌, ◌-◌, ◌<◌, ◌≤◌}
use native.Mathlib.Omega.{arith}
use lib.Ieee.{Float, le}
use Rattle.doubles.specs.Num.{f0, eps, finite, size}
use Rattle.doubles.specs.Loop.{all, until}
use Rattle.doubles.specs.Lists.{◌!◌, ◌#◌}
use Rattle.doubles.proofs.Tests.{not_both, false_by}
use Rattle.doubles.proofs.Order.{lt_number, le_numbers, le_total, le_trans}
use Rattle.doubles.proofs.Loops.{all_by, all_fails, all_missed, all_at}
use Rattle.doubles.proofs.Largest.{Best as Largest, kept, took, above, at_least}
use Rattle.sparse.specs.Scattered.{Sv}
use Rattle.lu_factor_rules.specs.declared.Best.{Best}
use Rattle.lu_factor_rules.specs.Factor.{Partial, nothing, parts, is_pivot, best, chosen, Outcome, factored}
use Rattle.lu_factor_rules.specs.Factor.{non_finite, singular, Found, listed_finite, pivoted_by}
use Rattle.lu_factor_rules.specs.Factor.{judged, column, added, next_of, factor_turn, factor_part, Factor}
use Rattle.lu_factor_rules.specs.Factor.{factor_of, ended, factorize}
use Rattle.lu_factor_rules.specs.Ends.{next_column, next_answer, Made, none, next, Wild, Flat, Some}
use Rattle.lu_factor_rules.proofs.Choice.{law, too_small, eps_above}

-- ---- one column
module _ (number : List ℕ) (i : ℕ) (v : List Float) (l : List ℕ) (n : ℕ) where
  -- the largest is below EPS exactly where every row that may be the pivot is
  large_none : le eps (chosen number i v l n).most ≡ false → (k : ℕ) → k < n → is_pivot number i (l # k) ≡ false
      → le eps (size (v ! (l # k))) ≡ false
  large_none e k h f = false_by (λ g. go (chosen number i v l n) e (law number i v l n) g)
    where
      go : (b : Best) → le eps b.most ≡ false
          → Largest above at_least (λ j. not (is_pivot number i (l # j))) (λ j. size (v ! (l # j)))
          (λ j. best (l # j) (size (v ! (l # j)))) f0 (best 0 f0) n b → le eps (size (v ! (l # k))) ≡ true → ⊥
      go b e (kept a) g = not_both (eps_above (size (v ! (l # k))) g) (a k h (ap not f))
      go b e (took j a t c d o) g =
          let beside : le (size (v ! (l # k))) (size (v ! (l # j))) ≡ true =
          le_total (size (v ! (l # j))) (size (v ! (l # k))) (lt_number f0 (size (v ! (l # j))) c)
          (le_numbers eps (size (v ! (l # k))) g).1 (d k h (ap not f)) in
          not_both (le_trans eps (size (v ! (l # k))) (size (v ! (l # j))) g beside) e

  none_large : ((k : ℕ) → k < n → is_pivot number i (l # k) ≡ false → le eps (size (v ! (l # k))) ≡ false)
      → le eps (chosen number i v l n).most ≡ false
  none_large h = go (chosen number i v l n) (law number i v l n)
    where
      free : (b : Bool) → not b ≡ true → b ≡ false
      free true e = sym e
      free false e = refl

      go : (b : Best) → Largest above at_least (λ j. not (is_pivot number i (l # j))) (λ j. size (v ! (l # j)))
          (λ j. best (l # j) (size (v ! (l # j)))) f0 (best 0 f0) n b → le eps b.most ≡ false
      go b (kept a) = too_small
      go b (took j a t c d o) = h j a (free (is_pivot number i (l # j)) t)

-- an outcome is one of three
module _ {F : Type 0} {o : Outcome F} where
  wild_or_flat : o ≡ non_finite → o ≡ singular → ⊥
  wild_or_flat e f = let z : ◌≡◌ {A = ℕ} 0 1 = cc in omega arith

  wild_or_made : {g : F} → o ≡ non_finite → o ≡ factored g → ⊥
  wild_or_made e f = let z : ◌≡◌ {A = ℕ} 0 1 = cc in omega arith

  flat_or_made : {g : F} → o ≡ singular → o ≡ factored g → ⊥
  flat_or_made e f = let z : ◌≡◌ {A = ℕ} 0 1 = cc in omega arith

  made_once : {f g : F} → o ≡ factored f → o ≡ factored g → f ≡ g
  made_once e f = cc

module _ (m : ℕ) (col : ℕ → Sv) (f : Partial) where
  abbrev s : Sv
  s = next_column m col f

  abbrev fine : Bool
  fine = listed_finite s.vals s.pat.list s.pat.count

  abbrev most : Float
  most = (chosen f.number f.made s.vals s.pat.list s.pat.count).most

  abbrev pivot : Bool → Outcome Found
  pivot b = pivoted_by b f.number f.made s.vals s.pat.list s.pat.count (parts f.lower f.upper)
      (chosen f.number f.made s.vals s.pat.list s.pat.count).row

  answer_by : (a b : Bool) → fine ≡ a → le eps most ≡ b
      → next_answer m col f ≡ elim a [ true ↦ pivot b | false ↦ non_finite ]
  unfolding column judged
  answer_by true b e g = rw (e, g) refl
  answer_by false b e g = rw e refl

  wild_if : Wild s → next_answer m col f ≡ non_finite
  unfolding listed_finite
  wild_if w = answer_by false (le eps most) (all_fails (λ k. finite (s.vals ! (s.pat.list # k))) s.pat.count
      w.at w.below w.value) refl

  flat_if : Flat f s → next_answer m col f ≡ singular
  unfolding listed_finite
  flat_if w = answer_by true false (all_by (λ k. finite (s.vals ! (s.pat.list # k))) s.pat.count w.all_finite_holds)
      (none_large f.number f.made s.vals s.pat.list s.pat.count w.none_large)

  -- so there are three cases
  cases : (Wild s × (next_answer m col f ≡ non_finite)) ⊎ (Flat f s × (next_answer m col f ≡ singular)) ⊎
      ((x : Found) × (next_answer m col f ≡ factored x))
  unfolding listed_finite
  cases = by fine (le eps most) refl refl
    where
      by : (a b : Bool) → fine ≡ a → le eps most ≡ b
          → (Wild s × (next_answer m col f ≡ non_finite)) ⊎ (Flat f s × (next_answer m col f ≡ singular)) ⊎
          ((x : Found) × (next_answer m col f ≡ factored x))
      by false b e g =
          let w = all_missed (λ k. finite (s.vals ! (s.pat.list # k))) s.pat.count e in
          inl (record { at = w.0; below = w.1; value = w.3 }, answer_by false b e g)
      by true false e g =
          inr (inl (
            record {
              all_finite_holds = λ k h. all_at (λ j. finite (s.vals ! (s.pat.list # j))) s.pat.count e k
                  h;
              none_large = large_none f.number f.made s.vals s.pat.list s.pat.count g;
            },
            answer_by
                true false e g,
          ))
      by true true e g = inr (inr (_, answer_by true true e g))

-- ---- the whole basis
module _ (m : ℕ) (col : ℕ → Sv) where
  abbrev rest : ℕ → Partial → Outcome Partial
  rest k f = until (factor_turn m col) factored k f

  turned : (f : Partial) {o : Outcome Found} → next_answer m col f ≡ o → factor_turn m col f ≡ next_of f o
  unfolding factor_turn
  turned f e = ap (next_of f) e

  goes_on : (k : ℕ) (f : Partial) (x : Found) → next_answer m col f ≡ factored x → rest (suc k) f ≡ rest k (added f x)
  unfolding until
  goes_on k f x e = rw (turned f e, until) refl

  stops_wild : (k : ℕ) (f : Partial) → next_answer m col f ≡ non_finite → rest (suc k) f ≡ non_finite
  unfolding until
  stops_wild k f e = rw (turned f e, until) refl

  stops_flat : (k : ℕ) (f : Partial) → next_answer m col f ≡ singular → rest (suc k) f ≡ singular
  unfolding until
  stops_flat k f e = rw (turned f e, until) refl

  -- what is left of the columns gives the whole's answer
  reaches : {f : Partial} → Made m col f → f.made ≤ m → rest (m - f.made) f ≡ factor_part m col
  unfolding factor_part added
  reaches none h = let z : m - 0 ≡ m = omega arith in rw z refl
  reaches (next {f} {x} w e) h =
      let z : m - f.made ≡ suc (m - (f.made + 1)) = omega arith in
      sym (goes_on (m - (f.made + 1)) f x e) ∙ ap (λ (k : ℕ). rest k f) (sym z) ∙ reaches w (omega arith)

  abbrev Ends : Outcome Partial → Type 0
  Ends o = (Some m col (λ _. Wild) × (o ≡ non_finite)) ⊎ (Some m col Flat × (o ≡ singular)) ⊎
      ((g : Partial) × Made m col g × (g.made ≡ m) × (o ≡ factored g))

  ends : (k : ℕ) (f : Partial) → Made m col f → f.made + k ≡ m → Ends (rest k f)
  unfolding until added
  ends zero f w h = inr (inr (f, w, omega arith, refl))
  ends (suc k) f w h = ⊎_elim
      (λ a. inl (record { before = f; made = w; one_left = omega arith; such = a.0 }, stops_wild k f a.1))
      (λ b. ⊎_elim
      (λ a. inr (inl (record { before = f; made = w; one_left = omega arith; such = a.0 }, stops_flat k f a.1)))
      (λ a. subst Ends (sym (goes_on k f a.0 a.1)) (ends k (added f a.0) (next w a.1) (omega arith)))
      b)
      (cases m col f)

  whole : Ends (factor_part m col)
  unfolding factor_part
  whole = ends m nothing none (omega arith)

  found_wild : Some m col (λ _. Wild) → factor_part m col ≡ non_finite
  found_wild w =
      let z : m - w.before.made ≡ suc (m - w.before.made - 1) = omega (arith, w.one_left) in
      sym (reaches w.made (omega (arith, w.one_left))) ∙ ap (λ (k : ℕ). rest k w.before) z ∙ stops_wild _
      w.before (wild_if m col w.before w.such)

  found_flat : Some m col Flat → factor_part m col ≡ singular
  found_flat w =
      let z : m - w.before.made ≡ suc (m - w.before.made - 1) = omega (arith, w.one_left) in
      sym (reaches w.made (omega (arith, w.one_left))) ∙ ap (λ (k : ℕ). rest k w.before) z ∙ stops_flat _
      w.before (flat_if m col w.before w.such)

  found_all : (g : Partial) → Made m col g → g.made ≡ m → factor_part m col ≡ factored g
  unfolding until
  found_all g w e = let z : m - g.made ≡ 0 = omega arith in sym (reaches w (omega arith)) ∙ ap (λ (k : ℕ). rest k g) z

  -- 23
  pub wild_exactly : (factorize m col ≡ non_finite) ↔ Some m col (λ _. Wild)
  unfolding factorize
  wild_exactly = (
    λ e. ⊎_elim (λ a. a.0) (λ b. ⊎_elim (λ a. absurd (wild_or_flat e (ap (ended m) a.1)))
        (λ a. absurd (wild_or_made e (ap (ended m) a.3))) b) whole,
    λ w. ap (ended m) (found_wild w),
  )

  -- 25
  pub flat_exactly : (factorize m col ≡ singular) ↔ Some m col Flat
  unfolding factorize
  flat_exactly = (
    λ e. ⊎_elim (λ a. absurd (wild_or_flat (ap (ended m) a.1) e))
        (λ b. ⊎_elim (λ a. a.0) (λ a. absurd (flat_or_made e (ap (ended m) a.3))) b) whole,
    λ w. ap (ended m) (found_flat w),
  )

  -- else a factor: of all columns, each factored after those before it
  pub factored_exactly : (f : Factor) → (factorize m col ≡ factored f) ↔
      ((g : Partial) × Made m col g × (g.made ≡ m) × (f ≡ factor_of m g))
  unfolding factorize
  factored_exactly f = (
    λ e. ⊎_elim
        (λ a. absurd (wild_or_made (ap (ended m) a.1) e))
        (λ b. ⊎_elim (λ a. absurd (flat_or_made (ap (ended m) a.1) e))
        (λ a. (a.0, a.1, a.2, made_once e (ap (ended m) a.3))) b)
        whole,
    λ w. ap (ended m) (found_all w.0 w.1 w.2) ∙ ap factored (sym w.3),
  )
