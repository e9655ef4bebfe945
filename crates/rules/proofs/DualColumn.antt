-- What the ratio on prices gives, and exactly when: 02's Ask 8, "a two-pass rule like the primal one, on prices", and 26.
-- Assumes nothing.
use mathlib.Core.Path.{◌≡◌, refl, sym, ap, ◌∙◌, subst}
use mathlib.Core.Bool.{Bool, true, false, not, ◌&&◌, ◌||◌}
use mathlib.Core.Logic.{◌↔◌, ◌⊎◌, inl, inr, ⊎_elim}
use Prim.Native.Nat.{ℕ, zero, suc, ◌+◌, ◌-◌, ◌*◌, ◌^◌, ◌<◌, ◌≤◌}
use native.Mathlib.Nat.{mul-one, zero-mul, mul-pos, mul-lt-mul_of_pos_right, lt_of_mul-lt-mul_right, lt_of_not-le, le_of_suc-le-suc}
use native.Mathlib.Omega.{arith}
use borrow.Author.Tests.{ltb-true, ltb-false, lt-ltb, le-ltb, eqb-true, not-true}
use lib.Dec.{T, ltb, eqb}
use lib.Pow.{pow-add, pow_pos, pow-lt}
use lib.IntN.{ℤ, pos, negsuc}
use lib.ListN.{get_or}
use lib.Ieee.{Float, nan, inf, fin, Format, binary64, emax, low, add, sub, sum, round, div, eq, lt, le, neg, is_nan, up, down, fits, of_bits}
use lib.Ieee.Fits.{round-fits, sub-fits, up_pos, down_pos}
use lib.Ieee.Exact.{HasValue, round_exact}
use Rattle.doubles.specs.Num.{◌⊕◌, ◌⊖◌, ◌⊘◌, f0, eps, +inf, -inf, finite, size}
use Rattle.doubles.specs.Limits.{places}
use Rattle.doubles.specs.Lists.{◌!◌, ◌#◌}
use Rattle.doubles.specs.Words.{Under}
use Rattle.doubles.proofs.Bools.{itself, ◌both◌, ◌either◌, ◌neither◌, turned, some_fails}
use Rattle.doubles.proofs.Loops.{both_true}
use Rattle.doubles.proofs.Tests.{not_both, false_by, true_by}
use Rattle.doubles.proofs.Order.{lt_le_trans, le_total, le_not_lt, le_means, le_by}
use Rattle.doubles.proofs.Quotients.{not_negative, places as places_of, under}
use Rattle.doubles.proofs.Floats.{size_zero}
use Rattle.doubles.proofs.Once.{written_once}
use Rattle.doubles.proofs.Largest.{Best, kept, took, best, by_below}
use Rattle.sparse.specs.Scattered.{Sv, listed, listed_val}
use Rattle.sparse.proofs.Laws.{marked_listed}
use Rattle.rules.specs.Plan.{Workspace, flags_of, held}
use Rattle.rules.specs.Invariant.{Vector}
use Rattle.rules.specs.Ratio.{Leaving}
use Rattle.rules.specs.Choices.{size_at}
use Rattle.rules.specs.DualRatio.{leaving_rises, may_move, eligible, eligible_still, clamped, eligible_at, price_at, dual_relaxed, dual_step_to, dual_sound_at, dual_sound, dual_pass_one_turn, dual_pass_one, dual_candidate, dual_pass_two_turn, dual_pass_two, dual_exchange_of, dual_ratio_by, dual_ratio}
use Rattle.rules.specs.DualChoices.{enters_up, FreeTo, Clamped, EligibleBy, EligibleUnmoved, ColumnSays, Eligible, NoneEligible, NoColumn, DualPassOne, DualUnsound, bad_quotient, bad_step, DualSound, EntersBy, DualGivesBy, DualGives, not_finite, nothing, exchanges}
use Rattle.rules.specs.declared.NonBasicVarState.{NonBasicVarState}
use Rattle.rules.specs.declared.LeavingVar.{LeavingVar}
use Rattle.rules.specs.declared.DualRatio.{DualRatio}
use Rattle.rules.specs.declared.DualRatio.TheVariants.{Nothing}
use Rattle.rules.proofs.Passes.{quotient_number, Left, left as passed, wins_exactly, none_exactly, at_most}
use Rattle.rules.proofs.LeavingRow.{nothing_left, eps_sign}
use Rattle.rules.proofs.Choices.{finite_below, settles}

-- ---- which columns are looked at

eps_above : lt f0 eps ≡ true
unfolding lt of_bits
eps_above = refl

-- of size at least y, which is above 0.0: at least y, or at most -y
sides : (n : ℕ) (d : ℤ) (a : Float) → le (fin false n d) (size a) ≡ true → (le (fin false n d) a ≡ true) ⊎ (le a (neg (fin false n d)) ≡ true)
unfolding le lt eq neg size
sides n d nan h = absurd (not_both h refl)
sides n d (inf true) h = inr refl
sides n d (inf false) h = inl refl
sides n d (fin false m e) h = inl h
sides n d (fin true m e) h =
    inr (le_total (fin true n d) (fin true m e) (unfold is_nan in refl) (unfold is_nan in refl)
    (le-ltb (m * up e * down d) (n * up d * down e) (le_means (n * up d * down e) (m * up e * down d) _ h)))

below_size : (n : ℕ) (d : ℤ) (a : Float) → le a (neg (fin false (suc n) d)) ≡ true → le (fin false (suc n) d) (size a) ≡ true
unfolding le lt eq neg size
below_size n d nan h = absurd (not_both h refl)
below_size n d (inf true) h = refl
below_size n d (inf false) h = absurd (not_both h refl)
below_size n d (fin false m e) h =
    let some : 0 < suc n = omega arith in
    let b = both_true (eqb (m * up e * down d) (suc n * up d * down e)) (eqb (m * up e * down d) 0) h in
    absurd (omega (arith, eqb-true (m * up e * down d) _ b.0, eqb-true (m * up e * down d) 0 b.1, mul-pos (mul-pos some (up_pos d)) (down_pos e)))
below_size n d (fin true m e) h =
    le_total (fin false m e) (fin false (suc n) d) (unfold is_nan in refl) (unfold is_nan in refl)
    (le_not_lt (fin true m e) (fin true (suc n) d) h)

above_size : (a : Float) → lt f0 a ≡ true → a ≡ size a
unfolding lt of_bits size
above_size nan h = absurd (not_both h refl)
above_size (inf true) h = absurd (not_both h refl)
above_size (inf false) h = refl
above_size (fin false m e) h = refl
above_size (fin true m e) h = absurd (not_both h refl)

eps_sides : (a : Float) → le eps (size a) ≡ true ↔ ((le eps a ≡ true) ⊎ (le a (neg eps) ≡ true))
unfolding of_bits
eps_sides a = (
  sides _ _ a,
  ⊎_elim (λ h. let p = lt_le_trans f0 eps a eps_above h in subst (λ x. le eps x ≡ true) (above_size a p) h) (below_size _ _ a),
)

-- the sign tells the way
ways : (up : Bool) (a : Float) → (le eps a ≡ true → enters_up up a ≡ not up) × (le a (neg eps) ≡ true → enters_up up a ≡ up)
ways up a = (
  λ h. let p = lt_le_trans f0 eps a eps_above h in rw (p, enters_up),
  λ h. let p = false_by (λ p. not_both (lt_le_trans f0 a (neg eps) p h) eps_under) in rw (p, enters_up),
)
  where
    eps_under : lt f0 (neg eps) ≡ false
    eps_under = unfold lt neg of_bits in refl

free_means : (rises : Bool) (f : NonBasicVarState) → may_move rises f ≡ true ↔ FreeTo rises f
free_means true f =
    (λ h. record { not_upper = λ _. not-true _ h; not_lower = λ q. absurd (not_both refl q) }, λ x. rw (x.not_upper refl))
free_means false f =
    (λ h. record { not_upper = λ q. absurd (not_both q refl); not_lower = λ _. not-true _ h }, λ x. rw (x.not_lower refl))

-- 02: it "has a row coefficient of size at least EPS and isn't already at the bound in the way of the move"
pub eligible_means : (up : Bool) (f : NonBasicVarState) (a : Float) → eligible up f a ≡ true ↔ EligibleBy up f a
unfolding eligible
eligible_means up f a = (
  λ h. ⊎_elim
      (λ b. record { of_size = (eps_sides a).1 (inl b.0); free = subst (λ u. FreeTo u f) (sym ((ways up a).0 b.0)) b.1 })
      (λ b. record { of_size = (eps_sides a).1 (inr b.0); free = subst (λ u. FreeTo u f) (sym ((ways up a).1 b.0)) b.1 })
      (e.0 h),
  λ h. e.1 (⊎_elim
      (λ s. inl (s, subst (λ u. FreeTo u f) ((ways up a).0 s) h.free))
      (λ s. inr (s, subst (λ u. FreeTo u f) ((ways up a).1 s) h.free))
      ((eps_sides a).0 h.of_size)),
)
  where
    e : eligible up f a ≡ true ↔ (((le eps a ≡ true) × FreeTo (not up) f) ⊎ ((le a (neg eps) ≡ true) × FreeTo up f))
    e = (itself both free_means (not up) f) either (itself both free_means up f)

-- Ask 9: "every column with a coefficient of size at least EPS and no fixed mark is eligible"
pub still_means : (f : NonBasicVarState) (a : Float) → eligible_still f a ≡ true ↔ EligibleUnmoved f a
unfolding eligible_still
still_means f a =
    let e : (le eps (size a) && not f.«fixed») ≡ true ↔ ((le eps (size a) ≡ true) × (f.«fixed» ≡ false)) =
    itself both (not-true _, λ q. rw q) in
    (λ h. record { of_size = (e.0 h).0; not_fixed = (e.0 h).1 }, λ x. e.1 (x.of_size, x.not_fixed))

-- and a fixed one never is, in either way or where nothing moves
pub held_not_eligible : (up : Bool) (a : Float) → (eligible up held a ≡ false) × (eligible_still held a ≡ false)
held_not_eligible up a = (false_by (λ h. go (enters_up up a) ((eligible_means up held a).0 h).free), false_by (λ h. not_both refl ((still_means held a).0 h).not_fixed))
  where
    go : (rises : Bool) → FreeTo rises held → ⊥
    go true x = not_both refl (x.not_upper refl)
    go false x = not_both refl (x.not_lower refl)

-- ---- a double minus 0.0 is itself

-- a double's size is a double
size_double : (x : Float) → T (fits binary64 x) → T (fits binary64 (size x))
unfolding fits size
size_double nan t = t
size_double (inf s) t = tt
size_double (fin s zero e) t = t
size_double (fin s (suc m) e) t = t

-- 2 ^ e in units of the format's smallest value
in_units : (l : ℕ) (e : ℤ) → down e ≤ 2 ^ l → (j : ℕ) × (up e * 2 ^ l ≡ 2 ^ j * down e)
in_units l (pos k) h = (k + l, rw (pow-add 2 k l) (omega arith))
in_units l (negsuc k) h =
    let b : suc k ≤ l = le_of_suc-le-suc (lt_of_not-le (λ (g : suc l ≤ suc k). omega (arith, pow-lt g))) in
    let e : l - suc k + suc k ≡ l = omega arith in
    (l - suc k, rw (← pow-add 2 (l - suc k) (suc k), e) (omega arith))

-- a value of the format rounds to its own value, with either sign
rounds_exactly : (f : Format) (s : Bool) (m : ℕ) (e : ℤ) → T (fits f (fin false (suc m) e))
    → HasValue (round f s (suc m * up e) (down e)) s (suc m * up e) (down e)
rounds_exactly f s m e t =
    let p = places_of f m e t in
    let j = in_units (low f) e p.lowest in
    let u : suc m * up e * 2 ^ low f ≡ suc m * 2 ^ j.0 * down e = omega (arith, ap (λ (x : ℕ). suc m * x) j.1) in
    let l : suc m * 2 ^ j.0 < 2 ^ (low f + suc (emax f)) =
    lt_of_mul-lt-mul_right (down e) (rw (← u, pow-add 2 (low f) (suc (emax f))) (omega (arith, mul-lt-mul_of_pos_right p.in_size (pow_pos (low f))))) in
    round_exact f s (suc m * up e) (down e) (suc m) j.0 (down_pos e) p.few_digits l u

-- and a double is written in one way
same_value : (s : Bool) (m : ℕ) (e : ℤ) (y : Float) → T (fits binary64 (fin s (suc m) e)) → T (fits binary64 y)
    → HasValue y s (suc m * up e) (down e) → y ≡ fin s (suc m) e
unfolding lt le eq size of_bits
same_value s m e nan t u v = absurd v
same_value s m e (inf r) t u v = absurd v
same_value s m e (fin r n d) t u v =
    let q : fin false (suc m) e ≡ fin false n d =
    written_once (fin false (suc m) e) (fin false n d) (size_double (fin s (suc m) e) t) (size_double (fin r n d) u)
    (lt-ltb (0 * 1 * down e) (suc m * up e * 1) (omega (arith, some)))
    (le_by (suc m * up e * down d) (n * up d * down e) (omega (arith, v.1)))
    (le_by (n * up d * down e) (suc m * up e * down d) (omega (arith, v.1))) in
    cc (q, v.0)
  where
    some : 0 < suc m * up e
    some = let n : 0 < suc m = omega arith in mul-pos n (up_pos e)

rounds_to_itself : (s : Bool) (m : ℕ) (e : ℤ) → T (fits binary64 (fin s (suc m) e)) → round binary64 s (suc m * up e) (down e) ≡ fin s (suc m) e
unfolding size
rounds_to_itself s m e t =
    same_value s m e _ t (round-fits binary64 s (suc m * up e) (down e)) (rounds_exactly binary64 s m e (size_double (fin s (suc m) e) t))

-- 0.0 and -0.0 are written with the exponent 0
zero_exponent : (s : Bool) (e : ℤ) → T (fits binary64 (fin s zero e)) → e ≡ pos 0
unfolding eq size
zero_exponent s e t =
    let q : fin false 0 (pos 0) ≡ fin false 0 e = size_zero (fin false 0 e) (size_double (fin s 0 e) t) (rw (zero-mul (up e), zero-mul (down e))) in
    cc q

-- nan, the infinities, 0.0 and -0.0 too: `clamped` in `rules:DualRatio` leans on it
pub kept_price : (d : Float) → T (fits binary64 d) → d ⊖ f0 ≡ d
unfolding sub add neg sum of_bits
kept_price nan t = refl
kept_price (inf s) t = refl
kept_price (fin true zero e) t = rw (zero_exponent true e t) (unfold round in refl)
kept_price (fin false zero e) t = rw (zero_exponent false e t) (unfold round in refl)
kept_price (fin true (suc m) e) t =
    let a : suc m * up e * 1 + 0 * down e ≡ suc m * up e = omega arith in
    rw (a, mul-one (down e)) (rounds_to_itself true m e t)
kept_price (fin false (suc m) e) t =
    let h : ltb (suc m * up e * 1) (0 * down e) ≡ false = le-ltb (suc m * up e * 1) (0 * down e) (omega arith) in
    let a : suc m * up e * 1 - 0 * down e ≡ suc m * up e = omega arith in
    rw (h, a, mul-one (down e)) (rounds_to_itself false m e t)

-- ---- the clamped price
picks : (b : Bool) (x y : Float)
    → (b ≡ true → elim b [ true ↦ x | false ↦ y ] ≡ x) × (b ≡ false → elim b [ true ↦ x | false ↦ y ] ≡ y)
picks b x y = (λ q. rw q, λ q. rw q)

pub clamped_means : (f : NonBasicVarState) (d : Float) → Clamped f d (clamped f d)
unfolding clamped
clamped_means f d =
    record {
      at_lower = λ p q. (picks off f0 (d ⊖ f0)).0 (e.1 (inl (p, q)));
      at_upper = λ p q. (picks off f0 (d ⊖ f0)).0 (e.1 (inr (p, q)));
      else_kept = λ a b. (picks off f0 (d ⊖ f0)).1 (false_by (λ t. ⊎_elim (λ h. not_both h.1 (a h.0)) (λ h. not_both h.1 (b h.0)) (e.0 t)));
    }
  where
    off : Bool
    off = (f.at_min && lt d f0) || (f.at_max && lt f0 d)

    e : off ≡ true ↔ (((f.at_min ≡ true) × (lt d f0 ≡ true)) ⊎ ((f.at_max ≡ true) × (lt f0 d ≡ true)))
    e = (itself both itself) either (itself both itself)

-- of a price that is a double: 0.0 where its sign is the wrong one for the bound, else the price itself
pub clamped_exactly : (f : NonBasicVarState) (d : Float) → T (fits binary64 d)
    → clamped f d ≡ elim ((f.at_min && lt d f0) || (f.at_max && lt f0 d)) [ true ↦ f0 | false ↦ d ]
unfolding clamped
clamped_exactly f d t =
    ap (λ x. elim ((f.at_min && lt d f0) || (f.at_max && lt f0 d)) [ true ↦ f0 | false ↦ x ]) (kept_price d t)

-- it is a double
clamped_double : (f : NonBasicVarState) (d : Float) → T (fits binary64 (clamped f d))
unfolding clamped
clamped_double f d = go ((f.at_min && lt d f0) || (f.at_max && lt f0 d))
  where
    go : (b : Bool) → T (fits binary64 (elim b [ true ↦ f0 | false ↦ d ⊖ f0 ]))
    go true = nothing_left.1
    go false = sub-fits binary64 d f0

settles_size : (x a : Float) → T (fits binary64 x) → finite ((size x ⊕ eps) ⊘ size a) ≡ true → Under (size x) eps (size a)
unfolding size add div not_negative finite fits
settles_size nan a t h = absurd (not_both h refl)
settles_size (inf s) a t h = under (inf false) eps a refl tt eps_sign h
settles_size (fin s m e) a t h = under (fin false m e) eps a refl (size_double (fin s m e) t) eps_sign h

-- ---- the test of the quotients
module _ (w : Workspace) (r : Sv) where
  abbrev flags_at : ℕ → NonBasicVarState
  flags_at k = flags_of (w.flags # listed r k)

  dual_settles : (k : ℕ) → finite (dual_relaxed w r k) ≡ true → Under (price_at w r k) eps (size_at r k)
  dual_settles k h = settles_size (clamped (flags_at k) (w.prices ! listed r k)) (listed_val r k) (clamped_double (flags_at k) (w.prices ! listed r k)) h

  -- "A quotient of an eligible column that isn't finite: 23": pass one's quotient alone settles it
  pub dual_one_test : (test : NonBasicVarState → Float → Bool) (k : ℕ) → dual_sound_at w test r k ≡ not (eligible_at w test r k) || finite (dual_relaxed w r k)
  dual_one_test test k =
      settles (not (eligible_at w test r k)) true (finite (dual_relaxed w r k)) (finite (dual_step_to w r k))
      (λ h. (refl, (dual_settles k h).finite_too))

-- over the columns that a test lets in, by what it says of one
module _ (w : Workspace) {test : NonBasicVarState → Float → Bool} {Says : NonBasicVarState → Float → Type 0}
    (means : (f : NonBasicVarState) (a : Float) → test f a ≡ true ↔ Says f a) (r : Sv) where
  looked_means : (k : ℕ) → eligible_at w test r k ≡ true ↔ Eligible w Says r k
  looked_means k = means (flags_of (w.flags # listed r k)) (listed_val r k)

  fails_at : (k : ℕ) → dual_sound_at w test r k ≡ false ↔ (Eligible w Says r k × (finite (dual_relaxed w r k) ≡ false))
  fails_at k =
      let e = turned (looked_means k) neither itself in
      (λ h. e.0 (sym (dual_one_test w r test k) ∙ h), λ x. dual_one_test w r test k ∙ e.1 x)

  unsound_exactly : dual_sound w test r ≡ false ↔ DualUnsound w Says r
  unfolding dual_sound
  unsound_exactly = (λ h. let k = e.0 h in bad_quotient k.0 k.1 k.2.0 k.2.1, back)
    where
      e : dual_sound w test r ≡ false ↔ ((k : ℕ) × (k < r.pat.count) × (Eligible w Says r k × (finite (dual_relaxed w r k) ≡ false)))
      e = some_fails r.pat.count fails_at

      back : DualUnsound w Says r → dual_sound w test r ≡ false
      back (bad_quotient k l x h) = e.1 (k, l, (x, h))
      back (bad_step k l x h) = e.1 (k, l, (x, false_by (λ f. not_both (dual_settles w r k f).finite_too h)))

  sound_by : dual_sound w test r ≡ true → DualSound w Says r
  sound_by h = record { quotients = one; steps = λ k l x. (dual_settles w r k (one k l x)).finite_too }
    where
      one : (k : ℕ) → k < r.pat.count → Eligible w Says r k → finite (dual_relaxed w r k) ≡ true
      one k l x = true_by (λ f. not_both h (unsound_exactly.1 (bad_quotient k l x f)))

  passes : DualSound w Says r → dual_sound w test r ≡ true
  passes s = true_by (λ f. never_both (unsound_exactly.0 f))
    where
      never_both : DualUnsound w Says r → ⊥
      never_both (bad_quotient k l x h) = not_both (s.quotients k l x) h
      never_both (bad_step k l x h) = not_both (s.steps k l x) h

  -- ---- pass one
  abbrev most : Float
  most = dual_pass_one w test r

  pub dual_pass_one_holds : DualPassOne w Says r (dual_pass_one w test r)
  unfolding dual_pass_one
  dual_pass_one_holds = go (dual_pass_one w test r) (best by_below (eligible_at w test r) (dual_relaxed w r) (λ x. x) (dual_relaxed w r) (λ k. refl) (dual_pass_one_turn w test r) (λ k t. refl) +inf r.pat.count)
    where
      go : (t : Float) → Best lt lt (eligible_at w test r) (dual_relaxed w r) (dual_relaxed w r) +inf +inf r.pat.count t → DualPassOne w Says r t
      go _ (kept h) = record { smallest = λ k l x. h k l ((looked_means k).1 x); one_of = inl refl }
      go _ (took k l t a h f) =
          record { smallest = λ j m x. h j m ((looked_means j).1 x); one_of = inr (k, l, (looked_means k).0 t, refl) }

  -- ---- pass two
  abbrev near : ℕ → Bool
  near = dual_candidate w test r most

  near_parts : (k : ℕ) → near k ≡ true → (eligible_at w test r k ≡ true) × (le (dual_step_to w r k) most ≡ true)
  unfolding dual_candidate
  near_parts k h = both_true (eligible_at w test r k) _ h

  near_by : (k : ℕ) → Eligible w Says r k → le (dual_step_to w r k) most ≡ true → near k ≡ true
  unfolding dual_candidate
  near_by k x h = rw ((looked_means k).1 x, h)

  number : (k : ℕ) → near k ≡ true → lt -inf (size_at r k) ≡ true
  number k t = quotient_number (price_at w r k) (listed_val r k) most (near_parts k t).1

  abbrev best_two : Leaving
  best_two = dual_pass_two w test r most

  left : Left r.pat.count near (size_at r) number best_two
  unfolding dual_pass_two dual_pass_two_turn
  left = passed r.pat.count near (size_at r) number (dual_pass_two_turn w test r most) (λ k b. refl)

  enters_exactly : (k : ℕ) → k < r.pat.count → best_two.at ≡ k ↔ EntersBy w test r k
  enters_exactly = wins_exactly r.pat.count near (size_at r) number left

  -- where every quotient is finite, a column that is eligible makes a candidate: the one that gave pass one's step
  eligible_found : DualSound w Says r → ((k : ℕ) → k < r.pat.count → near k ≡ true → ⊥) → NoneEligible w Says r
  eligible_found s n k l x =
      ⊎_elim
      (λ (q : most ≡ +inf). not_both (finite_below _ (s.quotients k l x)) (subst (λ t. lt (dual_relaxed w r k) t ≡ false) q (dual_pass_one_holds.smallest k l x)))
      (λ j.
      let y = j.2 in
      n j.0 j.1 (near_by j.0 y (rw j.3 (dual_settles w r j.0 (s.quotients j.0 j.1 y)).no_larger)))
      dual_pass_one_holds.one_of

  none_so : NoneEligible w Says r → (best_two.at ≡ r.pat.count)
  none_so n = (none_exactly r.pat.count near (size_at r) number left).1 (λ k l t. n k l ((looked_means k).0 (near_parts k t).0))

  none_only : DualSound w Says r → best_two.at ≡ r.pat.count → NoneEligible w Says r
  none_only s q = eligible_found s ((none_exactly r.pat.count near (size_at r) number left).0 q)

  all_sound : NoneEligible w Says r → DualSound w Says r
  all_sound n = record { quotients = λ k l x. absurd (n k l x); steps = λ k l x. absurd (n k l x) }

  up_to : best_two.at ≤ r.pat.count
  up_to = at_most r.pat.count near (size_at r) number left

-- ---- what the ratio gives
module _ (w : Workspace) (l : LeavingVar) (r : Sv) {test : NonBasicVarState → Float → Bool} {Says : NonBasicVarState → Float → Type 0}
    (means : (f : NonBasicVarState) (a : Float) → test f a ≡ true ↔ Says f a) where
  abbrev place : ℕ
  place = (dual_pass_two w test r (dual_pass_one w test r)).at

  gives : {x : DualRatio} → DualGivesBy w l r test Says x → dual_ratio_by test w l r ≡ x
  unfolding dual_ratio_by dual_exchange_of
  gives (not_finite u) = rw ((unsound_exactly w means r).1 u, dual_ratio_by)
  gives (nothing n) =
      let past : ltb place r.pat.count ≡ false = le-ltb place r.pat.count (omega (arith, none_so w means r n)) in
      rw (passes w means r (all_sound w means r n), dual_ratio_by, past)
  gives (exchanges s k x) =
      let at : place ≡ k = (enters_exactly w means r k x.inside).1 x in
      rw (passes w means r s, dual_ratio_by, at, lt-ltb k r.pat.count x.inside, at)

  some_outcome : (x : DualRatio) × DualGivesBy w l r test Says x
  some_outcome = go (dual_sound w test r) refl
    where
      found : DualSound w Says r → (b : Bool) → ltb place r.pat.count ≡ b → (x : DualRatio) × DualGivesBy w l r test Says x
      found s true h = (_, exchanges s place ((enters_exactly w means r place (ltb-true _ _ h)).0 refl))
      found s false h = (_, nothing (none_only w means r s (omega (arith, up_to w means r, ltb-false place r.pat.count h))))

      go : (b : Bool) → dual_sound w test r ≡ b → (x : DualRatio) × DualGivesBy w l r test Says x
      go false h = (_, not_finite ((unsound_exactly w means r).0 h))
      go true h = found (sound_by w means r h) _ refl

  pub ratio_exactly : (x : DualRatio) → dual_ratio_by test w l r ≡ x ↔ DualGivesBy w l r test Says x
  ratio_exactly x = (λ q. subst (DualGivesBy w l r test Says) (sym (gives some_outcome.1) ∙ q) some_outcome.1, gives)

  of_26 : DualGivesBy w l r test Says Nothing → NoneEligible w Says r
  of_26 (nothing n) = n

  -- "No eligible column: 26"
  pub nothing_exactly : dual_ratio_by test w l r ≡ Nothing ↔ NoneEligible w Says r
  nothing_exactly = (λ q. of_26 ((ratio_exactly Nothing).0 q), λ n. gives (nothing n))

-- ---- with a dual step's test
module _ (w : Workspace) (l : LeavingVar) (r : Sv) where
  -- 02: "the entering column is chosen by a two-pass rule like the primal one, on prices"
  pub dual_ratio_exactly : (x : DualRatio) → dual_ratio w l r ≡ x ↔ DualGives w l r x
  dual_ratio_exactly = ratio_exactly w l r (eligible_means (leaving_rises w l))

  pub infeasible_exactly : dual_ratio w l r ≡ Nothing ↔ NoneEligible w (EligibleBy (leaving_rises w l)) r
  infeasible_exactly = nothing_exactly w l r (eligible_means (leaving_rises w l))

-- 02's own words of 26, over the columns: a place that the row doesn't list holds 0.0, which is under EPS
pub no_column : (n : ℕ) (w : Workspace) (up : Bool) (r : Sv) → n ≤ places → Vector n r → NoneEligible w (EligibleBy up) r ↔ NoColumn w up r n
no_column n w up r h v = (λ f c l x. go f c l x (get_or r.pat.marks c false) refl, λ f k l. f (listed r k) (v.places_below.below k l))
  where
    small : le eps (size f0) ≡ false
    small = unfold le lt eq size of_bits in refl

    go : NoneEligible w (EligibleBy up) r → (c : ℕ) → c < n → ColumnSays w (EligibleBy up) r c → (b : Bool) → get_or r.pat.marks c false ≡ b → ⊥
    go f c l x true q =
        let k = marked_listed r v.good c q in
        f k.0 k.1 (subst (ColumnSays w (EligibleBy up) r) (sym k.2) x)
    go f c l x false q =
        let z : r.vals ! c ≡ f0 = v.good.zeros c (omega arith) q in
        not_both x.of_size (subst (λ a. le eps (size a) ≡ false) (sym z) small)
