-- 02's final check: the largest excess, its place, and what acceptance means, said apart from the loop. Assumes nothing.
use mathlib.Core.Path.{◌≡◌, refl, sym, ap, ◌∙◌, subst}
use mathlib.Core.Bool.{Bool, true, false}
use mathlib.Core.Logic.{◌↔◌}
use mathlib.Core.List.{List}
use Prim.Native.Nat.{ℕ, zero, suc, ◌+◌, ◌-◌, ◌<◌}
use native.Mathlib.Omega.{arith}
use borrow.Author.Tests.{ltb-true, ltb-false, lt-ltb, le-ltb}
use lib.Dec.{T, ltb}
use lib.Ieee.{Float, nan, inf, fin, binary64, lt, le, is_nan, fits, of_bits}
use lib.Ieee.Fits.{sub-fits, inf-fits}
use Rattle.doubles.specs.Num.{◌⊕◌, ◌⊖◌, f0, f1, +inf, finite, size}
use Rattle.doubles.specs.Lists.{◌!◌, ◌#◌}
use Rattle.doubles.proofs.Bools.{by_test, never}
use Rattle.doubles.proofs.Tests.{not_both, false_by, true_by}
use Rattle.doubles.proofs.Order.{lt_irrefl, lt_trans, lt_le_trans, le_total, le_not_lt, le_numbers, le_trans}
use Rattle.doubles.proofs.Once.{written_once}
use Rattle.doubles.proofs.Largest.{Best, kept, took, best, above as beats, at_least, by_above}
use Rattle.rules.specs.Plan.{Problem, n_of, m_of, var_min, var_max, row_sum}
use Rattle.rules.specs.FinalCheck.{counted, beyond, larger, places_of, worst_of, value_excess, row_excess, excess_at, worst_turn, worst, judged, final_check}
use Rattle.rules.specs.Conditions.{Every, Excess, not_finite, below, above, residual, LargestExcess, NothingExceeds, IsWorst, nothing, largest, Checks, ValueSound, RowSound, AllSound}
use Rattle.rules.specs.declared.Worst.{Worst}
use Rattle.rules.specs.declared.Checked.{Checked}
use Rattle.rules.specs.declared.Checked.TheVariants.{Passed, Value, Row}

-- ---- doubles
inf_number : is_nan +inf ≡ false
unfolding is_nan
inf_number = refl

zero_number : is_nan f0 ≡ false
unfolding is_nan of_bits
zero_number = refl

counted_number : (x : Float) → is_nan (counted x) ≡ false
unfolding counted is_nan
counted_number nan = refl
counted_number (inf s) = refl
counted_number (fin s m e) = refl

counted_itself : (x : Float) → is_nan x ≡ false → counted x ≡ x
unfolding counted
counted_itself x h = rw (h, counted) refl

counted_nan : (x : Float) → is_nan x ≡ true → counted x ≡ +inf
unfolding counted
counted_nan x h = rw (h, counted) refl

counted_fits : (x : Float) → T (fits binary64 x) → T (fits binary64 (counted x))
counted_fits x f =
    by_test (is_nan x)
    (λ h. subst (λ y. T (fits binary64 y)) (sym (counted_nan x h)) (inf-fits binary64 false))
    (λ h. subst (λ y. T (fits binary64 y)) (sym (counted_itself x h)) f)

size_fits : (x : Float) → T (fits binary64 x) → T (fits binary64 (size x))
unfolding size fits
size_fits nan f = f
size_fits (inf s) f = f
size_fits (fin s zero e) f = f
size_fits (fin s (suc m) e) f = f

beyond_is : (bound x : Float) → finite bound ≡ true → beyond bound x ≡ counted x
unfolding beyond
beyond_is bound x h = rw (h, beyond) refl

beyond_none : (bound x : Float) → finite bound ≡ false → beyond bound x ≡ f0
unfolding beyond
beyond_none bound x h = rw (h, beyond) refl

larger_second : (x y : Float) → lt x y ≡ true → larger x y ≡ y
unfolding larger
larger_second x y h = rw (h, larger) refl

larger_first : (x y : Float) → lt x y ≡ false → larger x y ≡ x
unfolding larger
larger_first x y h = rw (h, larger) refl

beyond_number : (bound x : Float) → is_nan (beyond bound x) ≡ false
beyond_number bound x =
    by_test (finite bound)
    (λ h. rw (beyond_is bound x h) (counted_number x))
    (λ h. rw (beyond_none bound x h) zero_number)

larger_covers : (x y : Float) → (lt (larger x y) x ≡ false) × (lt (larger x y) y ≡ false)
larger_covers x y =
    by_test (lt x y)
    (λ h. rw (larger_second x y h) (false_by (λ g. not_both (lt_trans x y x h g) (lt_irrefl x)), lt_irrefl y))
    (λ h. rw (larger_first x y h) (lt_irrefl x, h))

module _ (P : Problem) (xs : List Float) where
  -- ---- the excess of a place
  abbrev lows : ℕ → Float
  lows v = beyond (var_min P v) (var_min P v ⊖ xs ! v)

  abbrev highs : ℕ → Float
  highs v = beyond (var_max P v) (xs ! v ⊖ var_max P v)

  at_value : (v : ℕ) → v < n_of P + m_of P → finite (xs ! v) ≡ true → excess_at P xs v ≡ larger (lows v) (highs v)
  unfolding excess_at value_excess
  at_value v l f = rw (lt-ltb v (n_of P + m_of P) l, f, excess_at, value_excess) refl

  at_broken : (v : ℕ) → v < n_of P + m_of P → finite (xs ! v) ≡ false → excess_at P xs v ≡ +inf
  unfolding excess_at value_excess
  at_broken v l f = rw (lt-ltb v (n_of P + m_of P) l, f, excess_at, value_excess) refl

  at_row : (r : ℕ) → excess_at P xs (n_of P + m_of P + r) ≡ row_excess P xs r
  unfolding excess_at
  at_row r =
      let q : n_of P + m_of P + r - (n_of P + m_of P) ≡ r = omega arith in
      rw (le-ltb (n_of P + m_of P + r) (n_of P + m_of P) (omega arith), q, excess_at) refl

  place_number : (k : ℕ) → is_nan (excess_at P xs k) ≡ false
  unfolding excess_at value_excess row_excess
  place_number k =
      by_test (ltb k (n_of P + m_of P))
      (λ h. rw (h, excess_at)
      (by_test (finite (xs ! k))
      (λ f. rw (f, value_excess)
      (by_test (lt (lows k) (highs k))
      (λ g. rw (larger_second (lows k) (highs k) g) (beyond_number _ _))
      (λ g. rw (larger_first (lows k) (highs k) g) (beyond_number _ _))))
      (λ f. rw (f, value_excess) inf_number)))
      (λ h. rw (h, excess_at) (counted_number _))

  inside : {k : ℕ} {y : Float} → Excess P xs k y → k < places_of P
  inside (not_finite v l f) = omega arith
  inside (below v l f g) = omega arith
  inside (above v l f g) = omega arith
  inside (residual r l) = omega arith

  number : {k : ℕ} {y : Float} → Excess P xs k y → is_nan y ≡ false
  number (not_finite v l f) = inf_number
  number (below v l f g) = counted_number _
  number (above v l f g) = counted_number _
  number (residual r l) = counted_number _

  a_double : {k : ℕ} {y : Float} → Excess P xs k y → T (fits binary64 y)
  a_double (not_finite v l f) = inf-fits binary64 false
  a_double (below v l f g) = counted_fits _ (sub-fits binary64 (var_min P v) (xs ! v))
  a_double (above v l f g) = counted_fits _ (sub-fits binary64 (xs ! v) (var_max P v))
  a_double (residual r l) = counted_fits _ (size_fits _ (sub-fits binary64 (P.plan.rhs ! (P.kept # r)) (row_sum P.plan (P.kept # r) xs ⊕ xs ! (n_of P + r))))

  -- none there is above it
  covers : {k : ℕ} {y : Float} → Excess P xs k y → lt (excess_at P xs k) y ≡ false
  unfolding row_excess
  covers (not_finite v l f) = rw (at_broken v l f) (lt_irrefl +inf)
  covers (below v l f g) =
      rw (at_value v l f) (subst (λ y. lt (larger (lows v) (highs v)) y ≡ false) (beyond_is (var_min P v) _ g) (larger_covers (lows v) (highs v)).0)
  covers (above v l f g) =
      rw (at_value v l f) (subst (λ y. lt (larger (lows v) (highs v)) y ≡ false) (beyond_is (var_max P v) _ g) (larger_covers (lows v) (highs v)).1)
  covers (residual r l) = rw (at_row r) (lt_irrefl (row_excess P xs r))

  -- and above 0.0 it is one of them
  exceeds_zero : {x : Float} → lt f0 x ≡ true → x ≡ f0 → ⊥
  exceeds_zero h q = not_both h (ap (lt f0) q ∙ lt_irrefl f0)

  low_one : (v : ℕ) → v < n_of P + m_of P → finite (xs ! v) ≡ true → lt f0 (lows v) ≡ true → Excess P xs v (lows v)
  low_one v l f h =
      by_test (finite (var_min P v))
      (λ g. subst (Excess P xs v) (sym (beyond_is (var_min P v) _ g)) (below v l f g))
      (λ g. absurd (exceeds_zero h (beyond_none (var_min P v) _ g)))

  high_one : (v : ℕ) → v < n_of P + m_of P → finite (xs ! v) ≡ true → lt f0 (highs v) ≡ true → Excess P xs v (highs v)
  high_one v l f h =
      by_test (finite (var_max P v))
      (λ g. subst (Excess P xs v) (sym (beyond_is (var_max P v) _ g)) (above v l f g))
      (λ g. absurd (exceeds_zero h (beyond_none (var_max P v) _ g)))

  abbrev OneOf : ℕ → Float → Type 0
  OneOf k x = lt f0 x ≡ true → Excess P xs k x

  value_one : (v : ℕ) → v < n_of P + m_of P → OneOf v (excess_at P xs v)
  value_one v l =
      by_test (finite (xs ! v))
      (λ f. subst (OneOf v) (sym (at_value v l f))
      (by_test (lt (lows v) (highs v))
      (λ h. subst (OneOf v) (sym (larger_second (lows v) (highs v) h)) (high_one v l f))
      (λ h. subst (OneOf v) (sym (larger_first (lows v) (highs v) h)) (low_one v l f))))
      (λ f. subst (OneOf v) (sym (at_broken v l f)) (λ h. not_finite v l f))

  row_one : (r : ℕ) → r < m_of P → OneOf (n_of P + m_of P + r) (excess_at P xs (n_of P + m_of P + r))
  unfolding row_excess
  row_one r l = rw (at_row r) (λ h. residual r l)

  one_of : (k : ℕ) → k < places_of P → OneOf k (excess_at P xs k)
  one_of k l =
      by_test (ltb k (n_of P + m_of P))
      (λ h. value_one k (ltb-true _ _ h))
      (λ h.
      let q : n_of P + m_of P + (k - (n_of P + m_of P)) ≡ k = omega (arith, ltb-false k (n_of P + m_of P) h) in
      subst (λ j. OneOf j (excess_at P xs j)) q (row_one (k - (n_of P + m_of P)) (omega (arith, ltb-false k (n_of P + m_of P) h))))

  -- ---- the largest
  abbrev Kept : Worst → Type 0
  Kept w = Best beats at_least (λ k. true) (excess_at P xs) (λ k. worst_of k (excess_at P xs k)) f0 (worst_of (places_of P) f0) (places_of P) w

  found : Kept (worst P xs)
  unfolding worst worst_turn
  found =
      best by_above (λ k. true) (excess_at P xs) (λ w. w.excess) (λ k. worst_of k (excess_at P xs k)) (λ k. refl) (worst_turn P xs) (λ k w. refl)
      (worst_of (places_of P) f0) (places_of P)

  -- the excess of a place is at least each one there
  at_most : {j : ℕ} {y : Float} → Excess P xs j y → le y (excess_at P xs j) ≡ true
  at_most {j} {y} e = le_total (excess_at P xs j) y (place_number j) (number e) (covers e)

  abbrev So : Worst → Type 0
  So w = IsWorst P xs w.at w.excess

  worst_so : So (worst P xs)
  worst_so = go (worst P xs) found
    where
      go : (w : Worst) → Kept w → So w
      go _ (kept h) = nothing (λ j y e. false_by (λ g. not_both (lt_le_trans f0 y (excess_at P xs j) g (at_most e)) (h j (inside e) refl)))
      go _ (took k l t a h f) =
          let x = excess_at P xs k in
          largest k x
          (record {
            exceeds = a;
            one_of = one_of k l a;
            at_least_holds = λ j y e. le_trans y (excess_at P xs j) x (at_most e) (le_total x (excess_at P xs j) (place_number k) (place_number j) (h j (inside e) refl));
            first = λ j y b e. false_by (λ g. not_both (le_trans x y (excess_at P xs j) g (at_most e)) (f j b refl));
          })

  -- no other excess and place are so
  earlier : {k j : ℕ} {x y : Float} → LargestExcess P xs k x → LargestExcess P xs j y → k < j → ⊥
  earlier {k} {j} {x} {y} a b l = not_both (a.at_least_holds j y b.one_of) (b.first k x l a.one_of)

  only : {k j : ℕ} {x y : Float} → IsWorst P xs k x → IsWorst P xs j y → (k ≡ j) × (x ≡ y)
  only (nothing h) (nothing g) = (refl, refl)
  only (nothing h) (largest j y b) = absurd (not_both b.exceeds (h j y b.one_of))
  only (largest k x a) (nothing g) = absurd (not_both a.exceeds (g k x a.one_of))
  only (largest k x a) (largest j y b) =
      let f : k < j → ⊥ = earlier a b in
      let g : j < k → ⊥ = earlier b a in
      (omega arith, written_once x y (a_double a.one_of) (a_double b.one_of) a.exceeds (b.at_least_holds k x a.one_of) (a.at_least_holds j y b.one_of))

  -- 02: "the largest excess over all bounds and rows, with its place, first on a tie, and 0.0 when nothing exceeds 0"
  pub worst_exactly : (k : ℕ) (x : Float) → (worst P xs ≡ worst_of k x) ↔ IsWorst P xs k x
  worst_exactly k x = (
    λ q. subst So q worst_so,
    λ h.
        let o = only worst_so h in
        let whole : ◌≡◌ {A = Worst} (worst_of (worst P xs).at (worst P xs).excess) (worst_of k x) = cc (o.0, o.1) in
        whole,
  )

  -- it has no place exactly when nothing exceeds 0
  pub nothing_exactly : ((worst P xs).at ≡ places_of P) ↔ NothingExceeds P xs
  nothing_exactly = (λ q. by_nothing worst_so q, λ h. (only worst_so (nothing h)).0)
    where
      by_nothing : {k : ℕ} {x : Float} → IsWorst P xs k x → k ≡ places_of P → NothingExceeds P xs
      by_nothing (nothing h) q = h
      by_nothing (largest k x a) q = absurd (omega (arith, inside a.one_of))

  -- ---- acceptance
  abbrev tol : Float
  tol = P.plan.tolerance

  pub final_only : (c : Checked) → Checks P xs c → final_check P xs ≡ c
  unfolding final_check judged Checks
  final_only (Passed x) (k, h, e) =
      let o = only worst_so h in
      rw (ap (λ y. le y tol) o.1 ∙ e, judged) (ap Passed o.1)
  final_only (Value v x) (l, h, e) =
      let o = only worst_so (largest v x h) in
      let w = worst P xs in
      rw (ap (λ y. le y tol) o.1 ∙ e, lt-ltb w.at (n_of P + m_of P) (omega (arith, o.0)), judged) (cc (o.0, o.1))
  final_only (Row r x) (l, h, e) =
      let o = only worst_so (largest (n_of P + m_of P + r) x h) in
      let w = worst P xs in
      let q : w.at - (n_of P + m_of P) ≡ r = omega (arith, o.0) in
      rw (ap (λ y. le y tol) o.1 ∙ e, le-ltb w.at (n_of P + m_of P) (omega (arith, o.0)), judged) (cc (q, o.1))

  -- the tolerance has passed refusal 2
  module _ (low : le f0 P.plan.tolerance ≡ true) where
    -- so what is rejected has a place
    placed : {k : ℕ} {x : Float} → IsWorst P xs k x → le x tol ≡ false → LargestExcess P xs k x
    placed (nothing h) e = never low e
    placed (largest k x a) e = a

    checks : Checks P xs (final_check P xs)
    unfolding final_check judged Checks
    checks =
        let w = worst P xs in
        by_test (le w.excess tol)
        (λ e. rw (e, judged) (w.at, worst_so, e))
        (λ e.
        let a = placed worst_so e in
        by_test (ltb w.at (n_of P + m_of P))
        (λ f. rw (e, f, judged) (ltb-true _ _ f, a, e))
        (λ f.
        let back : w.at ≡ n_of P + m_of P + (w.at - (n_of P + m_of P)) = omega (arith, ltb-false w.at (n_of P + m_of P) f) in
        rw (e, f, judged)
        (omega (arith, inside a.one_of, ltb-false w.at (n_of P + m_of P) f), subst (λ k. LargestExcess P xs k w.excess) back a, e)))

    -- 02: "Acceptance is excess <= tol"; else the place of the largest excess is named, a value or a kept row
    pub final_check_holds : (c : Checked) → (final_check P xs ≡ c) ↔ Checks P xs c
    final_check_holds c = (λ q. subst (Checks P xs) q checks, final_only c)

    module _ (high : le P.plan.tolerance f1 ≡ true) where
      inf_over : le +inf tol ≡ true → ⊥
      inf_over h = not_both (lt_le_trans f1 +inf tol one_under h) (le_not_lt tol f1 high)
        where
          one_under : lt f1 +inf ≡ true
          one_under = unfold lt of_bits in refl

      -- within tol, an excess is a number
      uncounted : (x : Float) → le (counted x) tol ≡ true → le x tol ≡ true
      uncounted x h =
          by_test (is_nan x)
          (λ n. absurd (inf_over (subst (λ y. le y tol ≡ true) (counted_nan x n) h)))
          (λ n. subst (λ y. le y tol ≡ true) (counted_itself x n) h)

      recounted : (x : Float) → le x tol ≡ true → le (counted x) tol ≡ true
      recounted x h = rw (counted_itself x (le_numbers x tol h).0) h

      -- every excess is within tol where the largest is
      all_within_holds : {k : ℕ} {x : Float} → IsWorst P xs k x → le x tol ≡ true → {j : ℕ} {y : Float} → Excess P xs j y → le y tol ≡ true
      all_within_holds (nothing h) e {j} {y} a = le_trans y f0 tol (le_total f0 y zero_number (number a) (h j y a)) low
      all_within_holds (largest k x b) e {j} {y} a = le_trans y x tol (b.at_least_holds j y a) e

      sound : {k : ℕ} {x : Float} → IsWorst P xs k x → le x tol ≡ true → AllSound P xs
      sound w e = (
        λ v l.
            let f : finite (xs ! v) ≡ true = true_by (λ f. inf_over (all_within_holds w e (not_finite v l f))) in
            record {
              is_finite = f;
              at_least_holds = λ g. uncounted _ (all_within_holds w e (below v l f g));
              at_most = λ g. uncounted _ (all_within_holds w e (above v l f g));
            },
        λ r l. record { within = uncounted _ (all_within_holds w e (residual r l)) },
      )

      each_within : AllSound P xs → {j : ℕ} {y : Float} → Excess P xs j y → le y tol ≡ true
      each_within s (not_finite v l f) = never (s.0 v l).is_finite f
      each_within s (below v l f g) = recounted _ ((s.0 v l).at_least_holds g)
      each_within s (above v l f g) = recounted _ ((s.0 v l).at_most g)
      each_within s (residual r l) = recounted _ (s.1 r l).within

      worst_within : AllSound P xs → {k : ℕ} {x : Float} → IsWorst P xs k x → le x tol ≡ true
      worst_within s (nothing h) = low
      worst_within s (largest k x a) = each_within s a.one_of

      -- accepted exactly when every value is finite and within tol of its finite bounds, and every kept row's residual within tol
      pub accepted_exactly : ((x : Float) × Checks P xs (Passed x)) ↔ AllSound P xs
      unfolding Checks
      accepted_exactly = (
        λ c. sound c.1.1 c.1.2,
        λ s. ((worst P xs).excess, ((worst P xs).at, worst_so, worst_within s worst_so)),
      )
