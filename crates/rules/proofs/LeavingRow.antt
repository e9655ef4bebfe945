-- What Harris' two passes mean, said apart from their loops. Assumes nothing.
use mathlib.Core.Path.{◌≡◌, refl}
use mathlib.Core.Bool.{Bool, true, false, not}
use mathlib.Core.Logic.{◌↔◌, inl, inr, ⊎_elim}
use Prim.Native.Nat.{ℕ, ◌<◌, ◌≤◌}
use borrow.Author.Tests.{not-true}
use lib.Dec.{T}
use lib.Ieee.{Float, binary64, lt, le, fits, of_bits}
use lib.Ieee.Fits.{sub-fits}
use Rattle.doubles.specs.Num.{◌⊖◌, f0, eps, -inf, finite, infinite}
use Rattle.doubles.specs.Lists.{◌!◌}
use Rattle.doubles.proofs.Loops.{both_true}
use Rattle.doubles.proofs.Tests.{not_both, false_by}
use Rattle.doubles.proofs.Order.{lt_irrefl, lt_trans}
use Rattle.doubles.specs.Words.{Under}
use Rattle.doubles.proofs.Quotients.{not_negative, difference_sign, under}
use Rattle.doubles.proofs.Largest.{Best, kept, took, best, by_below}
use Rattle.sparse.specs.Scattered.{Sv, listed, listed_val}
use Rattle.rules.specs.Plan.{Problem, Workspace}
use Rattle.rules.specs.Ratio.{towards_max, limit_by, limit, examined, relaxed, step_to, pass_one_turn, pass_one, candidate, pass_two_turn, pass_two}
use Rattle.rules.specs.Choices.{size_at, ahead_at, limit_at, quotient_one, quotient_two, Examined, PassOne, Candidate, NoCandidate, Leaves}
use Rattle.rules.proofs.Passes.{quotient_number, Left, left as passed, wins_exactly, none_exactly, at_most}

pub nothing_left : (not_negative f0 ≡ true) × T (fits binary64 f0)
unfolding not_negative fits of_bits
nothing_left = (refl, tt)

-- a limit isn't negative, and is a double
room : (t : Bool) (bound x : Float) → (not_negative (limit_by t bound x) ≡ true) × T (fits binary64 (limit_by t bound x))
unfolding limit_by
room true bound x = go (lt x bound) refl
  where
    go : (b : Bool) → lt x bound ≡ b → (not_negative (elim b [ true ↦ bound ⊖ x | false ↦ f0 ]) ≡ true) × T (fits binary64 (elim b [ true ↦ bound ⊖ x | false ↦ f0 ]))
    go true h = (difference_sign x bound h, sub-fits binary64 bound x)
    go false h = nothing_left
room false bound x = go (lt bound x) refl
  where
    go : (b : Bool) → lt bound x ≡ b → (not_negative (elim b [ true ↦ x ⊖ bound | false ↦ f0 ]) ≡ true) × T (fits binary64 (elim b [ true ↦ x ⊖ bound | false ↦ f0 ]))
    go true h = (difference_sign bound x h, sub-fits binary64 x bound)
    go false h = nothing_left

pub eps_sign : not_negative eps ≡ true
unfolding not_negative of_bits
eps_sign = refl

module _ (P : Problem) (w : Workspace) (up : Bool) (c : Sv) where
  abbrev test : ℕ → Bool
  test k = examined P w up (listed c k) (listed_val c k)

  pub examined_means : (k : ℕ) → examined P w up (listed c k) (listed_val c k) ≡ true ↔ Examined P w up c k
  unfolding examined
  examined_means k = (
    λ h.
        let b = both_true (not (lt (size_at c k) eps)) (not (infinite (ahead_at P w up c k))) h in
        record { not_small = not-true _ b.0; bounded = not-true _ b.1 },
    λ x. rw (x.not_small, x.bounded),
  )

  pub candidate_means : (max_step : Float) (k : ℕ) → candidate P w up c max_step k ≡ true ↔ Candidate P w up c max_step k
  unfolding candidate step_to
  candidate_means max_step k = (
    λ h.
        let b = both_true (test k) (le (quotient_two P w up c k) max_step) h in
        record { looked_at = (examined_means k).0 b.0; near = b.1 },
    λ x. rw ((examined_means k).1 x.looked_at, x.near),
  )

  -- where pass one's quotient is finite so are the limit and pass two's quotient, which isn't larger: one test settles all three
  pub quotient_settles : (k : ℕ) → finite (quotient_one P w up c k) ≡ true → Under (limit_at P w up c k) eps (size_at c k)
  unfolding limit
  quotient_settles k h =
      let r = room (towards_max up (listed_val c k)) (ahead_at P w up c k) (w.basic_var_vals ! listed c k) in
      under (limit_at P w up c k) eps (listed_val c k) r.0 r.1 eps_sign h

  -- ---- pass one
  pub pass_one_means : (distance : Float) → PassOne P w up c distance (pass_one P w up c distance)
  unfolding pass_one relaxed
  pass_one_means distance = go (pass_one P w up c distance) (best by_below test (quotient_one P w up c) (λ x. x) (quotient_one P w up c) (λ k. refl) (pass_one_turn P w up c) (λ k t. refl) distance c.pat.count)
    where
      go : (t : Float) → Best lt lt test (quotient_one P w up c) (quotient_one P w up c) distance distance c.pat.count t → PassOne P w up c distance t
      go _ (kept h) = record { within = lt_irrefl distance; smallest = λ k l x. h k l ((examined_means k).1 x); one_of = inl refl }
      go _ (took k l t a h f) =
          record {
            within = false_by (λ b. not_both (lt_trans distance _ distance b a) (lt_irrefl distance));
            smallest = λ j m x. h j m ((examined_means j).1 x);
            one_of = inr (k, l, (examined_means k).0 t, refl);
          }

  -- where no row is a candidate, pass one has kept the distance: a row that gave its step would be one
  pub none_keeps : (distance : Float) → ((k : ℕ) → k < c.pat.count → Examined P w up c k → finite (quotient_one P w up c k) ≡ true)
      → NoCandidate P w up c (pass_one P w up c distance) → pass_one P w up c distance ≡ distance
  none_keeps distance f n =
      ⊎_elim (λ q. q)
      (λ r.
      let x = r.2 in
      let near : le (quotient_two P w up c r.0) (pass_one P w up c distance) ≡ true = rw r.3 (quotient_settles r.0 (f r.0 r.1 x)).no_larger in
      absurd (n r.0 r.1 (record { looked_at = x; near = near })))
      (pass_one_means distance).one_of

  -- ---- pass two
  module _ (max_step : Float) where
    abbrev test_two : ℕ → Bool
    test_two = candidate P w up c max_step

    number : (k : ℕ) → test_two k ≡ true → lt -inf (size_at c k) ≡ true
    number k t = quotient_number (limit_at P w up c k) (listed_val c k) max_step ((candidate_means max_step k).0 t).near

    left : Left c.pat.count test_two (size_at c) number (pass_two P w up c max_step)
    unfolding pass_two pass_two_turn
    left = passed c.pat.count test_two (size_at c) number (pass_two_turn P w up c max_step) (λ k b. refl)

    pub within_list : (pass_two P w up c max_step).at ≤ c.pat.count
    within_list = at_most c.pat.count test_two (size_at c) number left

    pub leaves_exactly : (k : ℕ) → k < c.pat.count → (pass_two P w up c max_step).at ≡ k ↔ Leaves P w up c max_step k
    leaves_exactly = wins_exactly c.pat.count test_two (size_at c) number left

    -- no row leaves exactly when no row is a candidate
    pub stays_exactly : (pass_two P w up c max_step).at ≡ c.pat.count ↔ NoCandidate P w up c max_step
    stays_exactly =
        let e = none_exactly c.pat.count test_two (size_at c) number left in
        (λ q k l x. e.0 q k l ((candidate_means max_step k).1 x), λ n. e.1 (λ k l t. n k l ((candidate_means max_step k).0 t)))
