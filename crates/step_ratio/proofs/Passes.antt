-- What the code's tests of a row say of the two passes' turns. Assumes nothing.
use mathlib.Core.Path.{◌≡◌, refl, sym, ap, ◌∙◌}
use mathlib.Core.Bool.{Bool, true, false, not, ◌&&◌, ◌||◌}
use Prim.Native.Nat.{ℕ, ◌<◌, ◌≤◌}
use native.Mathlib.Nat.{le_antisymm}
use native.Mathlib.Omega.{arith}
use lib.Ieee.{Float, lt, le}
use Rattle.std.specs.Prelude.{Option, Some, None}
use Rattle.doubles.specs.Num.{◌⊕◌, ◌⊘◌, eps, -inf, finite, infinite, size}
use Rattle.sparse.specs.Scattered.{Sv, listed, listed_val}
use Rattle.rules.specs.Plan.{Problem, Workspace}
use Rattle.doubles.specs.Loop.{run, all}
use Rattle.doubles.specs.Lists.{◌!◌, ◌#◌}
use Rattle.doubles.proofs.Loops.{done, all_fails}
use Rattle.rules.specs.Ratio.{towards_max, ahead, limit_by, limit, examined, relaxed, step_to, sound_at, sound_ratios, pass_one_turn, pass_one, candidate, Leaving, leaving_of, pass_two_turn, pass_two}
use Rattle.rules.proofs.Choices.{one_test}
use Rattle.step_choose.specs.Parts.{side_of}
use Rattle.step_ratio.specs.Parts.{room_of, shrunk, max_step_of, taken}

and_false : (x : Bool) → x && false ≡ false
and_false true = refl
and_false false = refl

and_true : (x : Bool) → x && true ≡ x
and_true true = refl
and_true false = refl

module _ (P : Problem) (w : Workspace) (up : Bool) (r : ℕ) (a : Float) where
  -- ---- the room of a row
  pub room_small : lt (size a) eps ≡ true → None ≡ room_of P w up r a
  unfolding room_of examined
  room_small h = rw (h, examined, room_of)

  module _ (max : Bool) (bound : Float) (m : max ≡ towards_max up a) (b : bound ≡ side_of P max (w.basic_vars # r)) where
    pub ahead_is : bound ≡ ahead P w up r a
    unfolding ahead
    ahead_is = b ∙ ap (λ x. side_of P x (w.basic_vars # r)) m

    pub room_open : lt (size a) eps ≡ false → infinite bound ≡ true → None ≡ room_of P w up r a
    unfolding room_of examined
    room_open h i = rw (h, sym (ap infinite ahead_is) ∙ i, examined, room_of)

    pub room_limit : lt (size a) eps ≡ false → infinite bound ≡ false → (x : Float) → x ≡ limit_by max bound (w.basic_var_vals ! r) → Some x ≡ room_of P w up r a
    unfolding room_of examined limit
    room_limit h i x e = rw (h, sym (ap infinite ahead_is) ∙ i, examined, room_of, e, m, ahead_is)

  -- and back
  room_none : room_of P w up r a ≡ None → examined P w up r a ≡ false
  unfolding room_of
  room_none = go (examined P w up r a)
    where
      go : (b : Bool) → ◌≡◌ {A = Option Float} (elim b [ true ↦ Some (limit P w up r a) | false ↦ None ]) None → b ≡ false
      go true h = absurd (let z : ◌≡◌ {A = ℕ} 0 1 = cc in omega arith)
      go false h = refl

  record Left (l : Float) : Type 0 where
    looked_at : examined P w up r a ≡ true
    room : l ≡ limit P w up r a

  room_left : (l : Float) → room_of P w up r a ≡ Some l → Left l
  unfolding room_of
  room_left l = go (examined P w up r a) refl
    where
      go : (b : Bool) → examined P w up r a ≡ b → elim b [ true ↦ Some (limit P w up r a) | false ↦ None ] ≡ Some l → Left l
      go true e h = record { looked_at = e; room = cc }
      go false e h = absurd (let z : ◌≡◌ {A = ℕ} 0 1 = cc in omega arith)

  -- the quotients from the row's room and its coefficient's size
  relaxed_is : {l s : Float} → Left l → s ≡ size a → (l ⊕ eps) ⊘ s ≡ relaxed P w up r a
  unfolding relaxed
  relaxed_is x e = rw (x.room, e)

  step_is : {l s : Float} → Left l → s ≡ size a → l ⊘ s ≡ step_to P w up r a
  unfolding step_to
  step_is x e = rw (x.room, e)

  -- ---- pass one's turn, by the code's tests
  pub shrunk_open : (t : Float) {x : Option Float} → x ≡ room_of P w up r a → x ≡ None → Some t ≡ shrunk P w up r a t
  unfolding shrunk
  shrunk_open t b h = rw (room_none (sym b ∙ h), shrunk)

  module _ {l s : Float} {x : Option Float} (t : Float) (b : x ≡ room_of P w up r a) (h : x ≡ Some l) (e : s ≡ size a) where
    abbrev quotient : Float
    quotient = (l ⊕ eps) ⊘ s

    is : quotient ≡ relaxed P w up r a
    is = relaxed_is (room_left l (sym b ∙ h)) e

    seen : examined P w up r a ≡ true
    seen = (room_left l (sym b ∙ h)).looked_at

    pub shrunk_less : finite quotient ≡ true → lt quotient t ≡ true → Some quotient ≡ shrunk P w up r a t
    unfolding shrunk
    shrunk_less f u = rw (seen, rw is at f, rw is at u, shrunk) (ap Some is)

    pub shrunk_kept : finite quotient ≡ true → lt quotient t ≡ false → Some t ≡ shrunk P w up r a t
    unfolding shrunk
    shrunk_kept f u = rw (seen, rw is at f, rw is at u, shrunk)

    pub shrunk_23 : finite quotient ≡ false → None ≡ shrunk P w up r a t
    unfolding shrunk
    shrunk_23 f = rw (seen, rw is at f, shrunk)

  -- ---- pass two's test
  pub taken_small : {s : Float} (t b : Float) → s ≡ size a → lt b s ≡ false → false ≡ taken P w up r a t b
  unfolding taken
  taken_small t b e h = rw (rw e at h) (sym (and_false (examined P w up r a && le (step_to P w up r a) t)))

  pub taken_open : (t b : Float) {x : Option Float} → x ≡ room_of P w up r a → x ≡ None → false ≡ taken P w up r a t b
  unfolding taken
  taken_open t b q h = rw (room_none (sym q ∙ h))

  pub taken_by : {l s : Float} (t b : Float) {x : Option Float} → x ≡ room_of P w up r a → x ≡ Some l → s ≡ size a → lt b s ≡ true → le (l ⊘ s) t ≡ taken P w up r a t b
  unfolding taken
  taken_by {l} t b q h e larger =
      let y = room_left l (sym q ∙ h) in
      rw (y.looked_at, rw e at larger, ← step_is y e) (sym (and_true _))

-- ---- the loops' turns
picked : (x y z : Bool) (q t u : Float) → elim x [ true ↦ elim y [ true ↦ elim z [ true ↦ Some q | false ↦ Some t ] | false ↦ None ] | false ↦ Some t ] ≡ Some u
    → (not x || y ≡ true) × (u ≡ elim (x && z) [ true ↦ q | false ↦ t ])
picked true true true q t u h = (refl, cc)
picked true true false q t u h = (refl, cc)
picked true false z q t u h = absurd (let z : ◌≡◌ {A = ℕ} 0 1 = cc in omega arith)
picked false y z q t u h = (refl, cc)

refused : (x y z : Bool) (q t : Float) → ◌≡◌ {A = Option Float} (elim x [ true ↦ elim y [ true ↦ elim z [ true ↦ Some q | false ↦ Some t ] | false ↦ None ] | false ↦ Some t ]) None
    → not x || y ≡ false
refused true true true q t h = absurd (let z : ◌≡◌ {A = ℕ} 0 1 = cc in omega arith)
refused true true false q t h = absurd (let z : ◌≡◌ {A = ℕ} 0 1 = cc in omega arith)
refused true false z q t h = refl
refused false y z q t h = absurd (let z : ◌≡◌ {A = ℕ} 0 1 = cc in omega arith)

module _ (P : Problem) (w : Workspace) (up : Bool) (c : Sv) where
  abbrev looked : ℕ → Bool
  looked k = examined P w up (listed c k) (listed_val c k)

  abbrev quotient_at : ℕ → Float
  quotient_at k = relaxed P w up (listed c k) (listed_val c k)

  -- one quotient tested in pass one's turn settles the row's three numbers
  pub one_more : (k : ℕ) (t : Float) {u : Float} {x : Option Float} → x ≡ shrunk P w up (listed c k) (listed_val c k) t → x ≡ Some u
      → (sound_at P w up c k ≡ true) × (u ≡ pass_one_turn P w up c k t)
  unfolding shrunk
  one_more k t {u} b h = let y = picked (looked k) (finite (quotient_at k)) (lt (quotient_at k) t) (quotient_at k) t u (sym b ∙ h) in (one_test P w up c k ∙ y.0, y.1)

  pub two_takes : (max_step : Float) (k : ℕ) (b : Leaving) {x : Bool} {s : Float} → x ≡ taken P w up (listed c k) (listed_val c k) max_step b.size → x ≡ true
      → s ≡ size (listed_val c k) → leaving_of k s ≡ pass_two_turn P w up c max_step k b
  unfolding taken candidate pass_two_turn
  two_takes max_step k b q h e = rw (sym q ∙ h, pass_two_turn) (ap (leaving_of k) e)

  pub two_keeps : (max_step : Float) (k : ℕ) (b : Leaving) {x : Bool} → x ≡ taken P w up (listed c k) (listed_val c k) max_step b.size → x ≡ false
      → b ≡ pass_two_turn P w up c max_step k b
  unfolding taken candidate pass_two_turn
  two_keeps max_step k b q h = rw (sym q ∙ h, pass_two_turn)

  -- ---- what a pass answers, where `up` is what was asked of the entering column
  module _ {rises : Bool} (u : up ≡ rises) where
    pub max_step_23 : (k : ℕ) (t distance : Float) {x : Option Float} → x ≡ shrunk P w up (listed c k) (listed_val c k) t → x ≡ None → k < c.pat.count
        → None ≡ max_step_of P w rises c distance
    unfolding shrunk sound_ratios max_step_of
    max_step_23 k t distance b h l =
        rw (← u) (rw (all_fails (sound_at P w up c) c.pat.count k l (one_test P w up c k ∙ refused (looked k) (finite (quotient_at k)) (lt (quotient_at k) t) (quotient_at k) t (sym b ∙ h)), max_step_of))

    pub max_step_is : (k : ℕ) {t : Float} (distance : Float) → k ≤ c.pat.count → c.pat.count ≤ k → all k (sound_at P w up c) ≡ true → t ≡ run (pass_one_turn P w up c) k distance
        → Some t ≡ max_step_of P w rises c distance
    unfolding sound_ratios pass_one max_step_of
    max_step_is k distance l g s e = rw (← u) (rw (rw (le_antisymm l g) at s, max_step_of) (ap Some (done _ _ k _ l g e)))

    pub leaves_at : (max_step : Float) (k : ℕ) {b : Leaving} → k ≤ c.pat.count → c.pat.count ≤ k
        → b ≡ run (pass_two_turn P w up c max_step) k (leaving_of c.pat.count -inf) → b.at ≡ (pass_two P w rises c max_step).at
    unfolding pass_two
    leaves_at max_step k l g e = rw (← u) (ap (λ x. x.at) (done _ _ k _ l g e))
