-- What the ratio gives, and exactly when: 01's "Harris" and "Ours" of "One step". Assumes nothing.
use mathlib.Core.Path.{◌≡◌, refl, sym, ◌∙◌, subst}
use mathlib.Core.Bool.{Bool, true, false, not, ◌&&◌, ◌||◌}
use mathlib.Core.Logic.{◌↔◌, ⊎_elim}
use Prim.Native.Nat.{ℕ, ◌<◌}
use native.Mathlib.Nat.{eq-or-lt_of_le}
use native.Mathlib.Omega.{arith}
use borrow.Author.Tests.{ltb-true, ltb-false, lt-ltb, le-ltb, not-true, not-false}
use lib.Dec.{ltb}
use lib.Ieee.{Float, nan, inf, fin, lt, add, sub, neg}
use Rattle.doubles.specs.Num.{◌⊖◌, +inf, finite, infinite, size}
use Rattle.doubles.specs.Loop.{first}
use Rattle.doubles.specs.Lists.{◌!◌}
use Rattle.doubles.proofs.Loops.{both_true, all_at, all_by, first_means}
use Rattle.doubles.proofs.Tests.{not_both, false_by, true_by}
use Rattle.sparse.specs.Scattered.{Sv, listed, listed_val}
use Rattle.rules.specs.Plan.{Problem, Workspace}
use Rattle.rules.specs.Choose.{other_val}
use Rattle.rules.specs.Ratio.{rises, examined, relaxed, step_to, sound_at, sound_ratios, pass_two, flip_of, exchange_of, pivot_of, sound_distance, ratio}
use Rattle.rules.specs.Choices.{IsEntering, limit_at, quotient_one, quotient_two, Examined, NoCandidate, RatioUnsound, bad_distance, bad_limit, bad_quotient, bad_step, RatioSound, max_step, NoBound, RatioGives, not_finite, unbounded, flips, exchanges}
use Rattle.rules.specs.declared.Entering.{Entering}
use Rattle.rules.specs.declared.Ratio.{Ratio}
use Rattle.rules.specs.declared.Ratio.TheVariants.{Unbounded, NotFinite}
use Rattle.rules.proofs.LeavingRow.{examined_means, quotient_settles, pass_one_means, none_keeps, within_list, leaves_exactly, stays_exactly}

infinite_distance : (x y : Float) → infinite x ≡ true → finite y ≡ true → size (x ⊖ y) ≡ +inf
unfolding infinite finite sub add neg size
infinite_distance nan y h f = absurd (not_both h refl)
infinite_distance (fin s m e) y h f = absurd (not_both h refl)
infinite_distance (inf s) nan h f = absurd (not_both f refl)
infinite_distance (inf s) (inf t) h f = absurd (not_both f refl)
infinite_distance (inf s) (fin t n d) h f = refl

pub finite_below : (x : Float) → finite x ≡ true → lt x +inf ≡ true
unfolding finite lt
finite_below nan f = cc
finite_below (inf s) f = cc
finite_below (fin s m e) f = refl

pub settles : (x a b d : Bool) → (b ≡ true → (a ≡ true) × (d ≡ true)) → x || (a && b && d) ≡ x || b
settles x a true d h = rw ((h refl).0, (h refl).1)
settles x true false d h = refl
settles x false false d h = refl

-- 01: "A finite bound whose limit or quotient isn't finite gives 23": pass one's quotient alone settles it
pub one_test : (P : Problem) (w : Workspace) (up : Bool) (c : Sv) (k : ℕ)
    → sound_at P w up c k ≡ not (examined P w up (listed c k) (listed_val c k)) || finite (relaxed P w up (listed c k) (listed_val c k))
unfolding relaxed step_to
one_test P w up c k =
    settles (not (examined P w up (listed c k) (listed_val c k))) (finite (limit_at P w up c k)) (finite (quotient_one P w up c k)) (finite (quotient_two P w up c k))
    (λ h. let u = quotient_settles P w up c k h in (u.first_finite, u.finite_too))

module _ (P : Problem) (w : Workspace) (e : Entering) (c : Sv) where
  -- ---- the ratio's test
  abbrev tested : Bool
  tested = sound_distance P w e && sound_ratios P w (rises e) c

  abbrev looked : ℕ → Bool
  looked k = examined P w (rises e) (listed c k) (listed_val c k)

  row_sound : (k : ℕ) → sound_at P w (rises e) c k ≡ true → Examined P w (rises e) c k → finite (quotient_one P w (rises e) c k) ≡ true
  unfolding relaxed
  row_sound k h x =
      let t : not (looked k) || finite (quotient_one P w (rises e) c k) ≡ true = sym (one_test P w (rises e) c k) ∙ h in
      rw ((examined_means P w (rises e) c k).1 x) at t

  row_unsound : (k : ℕ) → k < c.pat.count → sound_at P w (rises e) c k ≡ false → RatioUnsound P w e c
  unfolding relaxed
  row_unsound k l h = go (looked k) refl (sym (one_test P w (rises e) c k) ∙ h)
    where
      go : (x : Bool) → looked k ≡ x → not x || finite (quotient_one P w (rises e) c k) ≡ false → RatioUnsound P w e c
      go false a h = absurd (not_both refl h)
      go true a h = bad_quotient k l ((examined_means P w (rises e) c k).0 a) h

  sound_by : tested ≡ true → RatioSound P w e c
  unfolding sound_distance sound_ratios
  sound_by h =
      let b = both_true (sound_distance P w e) (sound_ratios P w (rises e) c) h in
      let one : (k : ℕ) → k < c.pat.count → Examined P w (rises e) c k → finite (quotient_one P w (rises e) c k) ≡ true =
      λ k l x. row_sound k (all_at (sound_at P w (rises e) c) c.pat.count b.1 k l) x in
      record {
        distances = λ q. rw q at b.0;
        limits = λ k l x. (quotient_settles P w (rises e) c k (one k l x)).first_finite;
        quotients = one;
        steps = λ k l x. (quotient_settles P w (rises e) c k (one k l x)).finite_too;
      }

  unsound_by : tested ≡ false → RatioUnsound P w e c
  unfolding sound_distance sound_ratios
  unsound_by h = go (infinite (other_val P w e.col)) refl (finite e.distance) refl h
    where
      row : sound_ratios P w (rises e) c ≡ false → RatioUnsound P w e c
      row h =
          let bad : ℕ → Bool = λ k. not (sound_at P w (rises e) c k) in
          let f = first_means bad c.pat.count in
          let none : first c.pat.count bad ≡ c.pat.count → RatioUnsound P w e c =
          λ q. absurd (not_both (all_by (sound_at P w (rises e) c) c.pat.count (λ k l. not-false _ (f.before k (omega arith) (omega arith)))) h) in
          ⊎_elim none (λ l. row_unsound (first c.pat.count bad) l (not-true _ (f.found l))) (eq-or-lt_of_le f.upto)

      go : (x : Bool) → infinite (other_val P w e.col) ≡ x → (y : Bool) → finite e.distance ≡ y
          → (x || y) && sound_ratios P w (rises e) c ≡ false → RatioUnsound P w e c
      go true a y b h = row h
      go false a true b h = row h
      go false a false b h = bad_distance a b

  never_both : RatioSound P w e c → RatioUnsound P w e c → ⊥
  never_both s (bad_distance a b) = not_both (s.distances a) b
  never_both s (bad_limit k l x b) = not_both (s.limits k l x) b
  never_both s (bad_quotient k l x b) = not_both (s.quotients k l x) b
  never_both s (bad_step k l x b) = not_both (s.steps k l x) b

  passes : RatioSound P w e c → tested ≡ true
  passes s = true_by (λ f. never_both s (unsound_by f))

  abbrev place : ℕ
  place = (pass_two P w (rises e) c (max_step P w e c)).at

  no_row : NoCandidate P w (rises e) c (max_step P w e c) → ltb place c.pat.count ≡ false
  no_row n = le-ltb place c.pat.count (omega (arith, (stays_exactly P w (rises e) c (max_step P w e c)).1 n))

  -- ---- each outcome is what the ratio gives, and one of them holds
  gives : {r : Ratio} → RatioGives P w e c r → ratio P w e c ≡ r
  unfolding ratio pivot_of flip_of exchange_of
  gives (not_finite u) = let f : tested ≡ false = false_by (λ t. never_both (sound_by t) u) in rw (f, ratio)
  gives (unbounded x) = rw (passes x.0, ratio, no_row x.1, pivot_of, x.2)
  gives (flips s n i) = rw (passes s, ratio, no_row n, pivot_of, i)
  gives (exchanges s k x) =
      let at : place ≡ k = (leaves_exactly P w (rises e) c (max_step P w e c) k x.inside).1 x in
      rw (passes s, ratio, at, pivot_of, lt-ltb k c.pat.count x.inside, at)

  some_outcome : (r : Ratio) × RatioGives P w e c r
  some_outcome = go tested refl
    where
      none : ltb place c.pat.count ≡ false → NoCandidate P w (rises e) c (max_step P w e c)
      none h =
          (stays_exactly P w (rises e) c (max_step P w e c)).0
          (omega (arith, within_list P w (rises e) c (max_step P w e c), ltb-false place c.pat.count h))

      found : RatioSound P w e c → (b : Bool) → ltb place c.pat.count ≡ b
          → (i : Bool) → infinite (other_val P w e.col) ≡ i → (r : Ratio) × RatioGives P w e c r
      found s true h i q =
          (_, exchanges s place ((leaves_exactly P w (rises e) c (max_step P w e c) place (ltb-true _ _ h)).0 refl))
      found s false h true q = (_, unbounded (s, none h, q))
      found s false h false q = (_, flips s (none h) q)

      go : (b : Bool) → tested ≡ b → (r : Ratio) × RatioGives P w e c r
      go false h = (_, not_finite (unsound_by h))
      go true h = found (sound_by h) _ refl _ refl

  -- 01: "The answer to a choice carries just the numbers of its own case"
  pub ratio_exactly : (r : Ratio) → ratio P w e c ≡ r ↔ RatioGives P w e c r
  ratio_exactly r = (λ q. subst (RatioGives P w e c) (sym (gives some_outcome.1) ∙ q) some_outcome.1, gives)

  of_23 : RatioGives P w e c NotFinite → RatioUnsound P w e c
  of_23 (not_finite u) = u

  of_20 : RatioGives P w e c Unbounded → NoBound P w e c
  of_20 (unbounded x) = x

  -- 01: "A finite bound whose limit or quotient isn't finite gives 23, as does a finite other bound whose distance isn't finite, both in the ratio"
  pub not_finite_exactly : ratio P w e c ≡ NotFinite ↔ RatioUnsound P w e c
  not_finite_exactly = (λ q. of_23 ((ratio_exactly NotFinite).0 q), λ u. gives (not_finite u))

  -- 01: "Unbounded is given exactly when no row is a candidate and the entering column's other bound is infinite"
  pub unbounded_exactly : ratio P w e c ≡ Unbounded ↔ NoBound P w e c
  unbounded_exactly = (λ q. of_20 ((ratio_exactly Unbounded).0 q), λ x. gives (unbounded x))

  -- The same with nothing of the passes in it, for a column that was chosen and has a finite value: no listed row of EPS or more in size has a finite bound ahead.
  pub unbounded_means : IsEntering P w e → finite (w.nb_var_vals ! e.col) ≡ true
      → ratio P w e c ≡ Unbounded
      ↔ ((infinite (other_val P w e.col) ≡ true) × ((k : ℕ) → k < c.pat.count → Examined P w (rises e) c k → ⊥))
  unbounded_means a v = (λ q. clear (unbounded_exactly.0 q), λ x. unbounded_exactly.1 (way x))
    where
      clear : NoBound P w e c
          → (infinite (other_val P w e.col) ≡ true) × ((k : ℕ) → k < c.pat.count → Examined P w (rises e) c k → ⊥)
      clear x =
          let kept = none_keeps P w (rises e) c e.distance x.0.quotients x.1 in
          let far : max_step P w e c ≡ +inf = kept ∙ a.distance_is ∙ infinite_distance _ _ x.2 v in (
            x.2,
            λ k l y. not_both (finite_below _ (x.0.quotients k l y)) (subst (λ t. lt (quotient_one P w (rises e) c k) t ≡ false) far ((pass_one_means P w (rises e) c e.distance).smallest k l y)),
          )

      way : (infinite (other_val P w e.col) ≡ true) × ((k : ℕ) → k < c.pat.count → Examined P w (rises e) c k → ⊥)
          → NoBound P w e c
      way x = (
        record { distances = λ q. absurd (not_both x.0 q); limits = λ k l y. absurd (x.1 k l y); quotients = λ k l y. absurd (x.1 k l y); steps = λ k l y. absurd (x.1 k l y) },
        λ k l y. x.1 k l y.looked_at,
        x.0,
      )
