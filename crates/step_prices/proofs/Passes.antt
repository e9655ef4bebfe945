-- What the code's tests of a column say of the two passes' turns. Assumes nothing.
use mathlib.Core.Path.{◌≡◌, refl, sym, ap, ◌∙◌}
use mathlib.Core.Bool.{Bool, true, false, not, ◌&&◌, ◌||◌}
use Prim.Native.Nat.{ℕ, ◌<◌, ◌≤◌}
use native.Mathlib.Nat.{le_antisymm}
use native.Mathlib.Omega.{arith}
use lib.Ieee.{Float, lt, le}
use Rattle.std.specs.Prelude.{Option, Some, None}
use Rattle.doubles.specs.Num.{◌⊕◌, ◌⊘◌, eps, +inf, -inf, finite, size}
use Rattle.doubles.specs.Loop.{run, all}
use Rattle.doubles.specs.Lists.{◌!◌, ◌#◌}
use Rattle.doubles.proofs.Loops.{done, all_fails}
use Rattle.sparse.specs.Scattered.{Sv, listed, listed_val}
use Rattle.rules.specs.Plan.{Workspace, flags_of}
use Rattle.rules.specs.Ratio.{Leaving, leaving_of}
use Rattle.rules.specs.DualRatio.{clamped, eligible_at, dual_relaxed, dual_sound_at, dual_sound, dual_pass_one_turn, dual_pass_one, dual_candidate, dual_pass_two_turn, dual_pass_two}
use Rattle.rules.specs.declared.NonBasicVarState.{NonBasicVarState}
use Rattle.rules.proofs.DualColumn.{dual_one_test}
use Rattle.step_prices.specs.Parts.{relaxed_of, step_of, shrunk, max_step_of, taken}

and_false : (x : Bool) → x && false ≡ false
and_false true = refl
and_false false = refl

and_true : (x : Bool) → x && true ≡ x
and_true true = refl
and_true false = refl

module _ (test : NonBasicVarState → Float → Bool) (f : NonBasicVarState) (d a : Float) {g : NonBasicVarState} {x : Bool} (v : g ≡ f) (b : x ≡ test g a) where
  seen : {y : Bool} → x ≡ y → test f a ≡ y
  seen h = sym (b ∙ ap (λ f. test f a) v) ∙ h

  -- ---- pass one's turn, by the code's tests
  pub shrunk_passed : (t : Float) → x ≡ false → Some t ≡ shrunk test f d a t
  unfolding shrunk
  shrunk_passed t h = rw (seen h, shrunk)

  module _ (h : x ≡ true) {p c s : Float} (t : Float) (q : c ≡ clamped g d) (r : p ≡ size c) (e : s ≡ size a) where
    abbrev quotient : Float
    quotient = (p ⊕ eps) ⊘ s

    is : quotient ≡ relaxed_of f d a
    is = rw (r, q, v, e)

    pub shrunk_less : finite quotient ≡ true → lt quotient t ≡ true → Some quotient ≡ shrunk test f d a t
    unfolding shrunk
    shrunk_less k u = rw (seen h, rw is at k, rw is at u, shrunk) (ap Some is)

    pub shrunk_kept : finite quotient ≡ true → lt quotient t ≡ false → Some t ≡ shrunk test f d a t
    unfolding shrunk
    shrunk_kept k u = rw (seen h, rw is at k, rw is at u, shrunk)

    pub shrunk_23 : finite quotient ≡ false → None ≡ shrunk test f d a t
    unfolding shrunk
    shrunk_23 k = rw (seen h, rw is at k, shrunk)

  -- ---- pass two's test
  pub taken_passed : (t best : Float) → x ≡ false → false ≡ taken test f d a t best
  unfolding taken
  taken_passed t best h = rw (seen h)

  pub taken_by : {p c s : Float} (t best : Float) → x ≡ true → c ≡ clamped g d → p ≡ size c → s ≡ size a → lt best s ≡ true
      → le (p ⊘ s) t ≡ taken test f d a t best
  unfolding taken
  taken_by t best h q r e larger = rw (seen h, rw e at larger, r, q, v, e) (sym (and_true _))

pub taken_small : (test : NonBasicVarState → Float → Bool) (f : NonBasicVarState) (d a : Float) {s : Float} (t best : Float) → s ≡ size a → lt best s ≡ false
    → false ≡ taken test f d a t best
unfolding taken
taken_small test f d a t best e h = rw (rw e at h) (sym (and_false (test f a && le (step_of f d a) t)))

-- ---- the loops' turns
picked : (x y z : Bool) (q t u : Float) → elim x [ true ↦ elim y [ true ↦ elim z [ true ↦ Some q | false ↦ Some t ] | false ↦ None ] | false ↦ Some t ] ≡ Some u
    → (not x || y ≡ true) × (u ≡ elim (x && z) [ true ↦ q | false ↦ t ])
picked true true true q t u h = (refl, cc)
picked true true false q t u h = (refl, cc)
picked true false z q t u h = absurd (let z : ◌≡◌ {A = ℕ} 0 1 = cc in omega arith)
picked false y z q t u h = (refl, cc)

refused : (x y z : Bool) (q t : Float) → ◌≡◌ {A = Option Float} (elim x [ true ↦ elim y [ true ↦ elim z [ true ↦ Some q | false ↦ Some t ] | false ↦ None ] | false ↦ Some t ]) None
    → not x || y ≡ false
refused true true true q t h = absurd (let z : ◌≡◌ {A = ℕ} 0 1 = cc in omega arith)
refused true true false q t h = absurd (let z : ◌≡◌ {A = ℕ} 0 1 = cc in omega arith)
refused true false z q t h = refl
refused false y z q t h = absurd (let z : ◌≡◌ {A = ℕ} 0 1 = cc in omega arith)

module _ (w : Workspace) (test : NonBasicVarState → Float → Bool) (r : Sv) where
  abbrev shrunk_at : ℕ → Float → Option Float
  shrunk_at k t = shrunk test (flags_of (w.flags # listed r k)) (w.prices ! listed r k) (listed_val r k) t

  abbrev taken_at : ℕ → Float → Float → Bool
  taken_at k t best = taken test (flags_of (w.flags # listed r k)) (w.prices ! listed r k) (listed_val r k) t best

  -- one quotient tested in pass one's turn settles both
  pub one_more : (k : ℕ) (t : Float) {u : Float} {x : Option Float} → x ≡ shrunk_at k t → x ≡ Some u
      → (dual_sound_at w test r k ≡ true) × (u ≡ dual_pass_one_turn w test r k t)
  unfolding shrunk
  one_more k t {u} b h =
      let q = dual_relaxed w r k in
      let y = picked (eligible_at w test r k) (finite q) (lt q t) q t u (sym b ∙ h) in
      (dual_one_test w r test k ∙ y.0, y.1)

  pub two_takes : (max_step : Float) (k : ℕ) (b : Leaving) {x : Bool} {s : Float} → x ≡ taken_at k max_step b.size → x ≡ true
      → s ≡ size (listed_val r k) → leaving_of k s ≡ dual_pass_two_turn w test r max_step k b
  unfolding taken dual_candidate dual_pass_two_turn
  two_takes max_step k b q h e = rw (sym q ∙ h, dual_pass_two_turn) (ap (leaving_of k) e)

  pub two_keeps : (max_step : Float) (k : ℕ) (b : Leaving) {x : Bool} → x ≡ taken_at k max_step b.size → x ≡ false
      → b ≡ dual_pass_two_turn w test r max_step k b
  unfolding taken dual_candidate dual_pass_two_turn
  two_keeps max_step k b q h = rw (sym q ∙ h, dual_pass_two_turn)

  -- ---- what a pass answers
  pub max_step_23 : (k : ℕ) (t : Float) {x : Option Float} → x ≡ shrunk_at k t → x ≡ None → k < r.pat.count → None ≡ max_step_of w test r
  unfolding shrunk dual_sound max_step_of
  max_step_23 k t b h l =
      let q = dual_relaxed w r k in
      rw (all_fails (dual_sound_at w test r) r.pat.count k l (dual_one_test w r test k ∙ refused (eligible_at w test r k) (finite q) (lt q t) q t (sym b ∙ h)), max_step_of)

  pub max_step_is : (k : ℕ) {t : Float} → k ≤ r.pat.count → r.pat.count ≤ k → all k (dual_sound_at w test r) ≡ true → t ≡ run (dual_pass_one_turn w test r) k +inf
      → Some t ≡ max_step_of w test r
  unfolding dual_sound dual_pass_one max_step_of
  max_step_is k l g s e = rw (rw (le_antisymm l g) at s, max_step_of) (ap Some (done _ _ k _ l g e))

  pub enters_at : (max_step : Float) (k : ℕ) {b : Leaving} → k ≤ r.pat.count → r.pat.count ≤ k
      → b ≡ run (dual_pass_two_turn w test r max_step) k (leaving_of r.pat.count -inf) → b.at ≡ (dual_pass_two w test r max_step).at
  unfolding dual_pass_two
  enters_at max_step k l g e = ap (λ x. x.at) (done _ _ k _ l g e)
