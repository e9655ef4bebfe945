-- What the code's tests say of the ratio's answers. Assumes nothing.
use mathlib.Core.Path.{◌≡◌, refl, sym, ◌∙◌}
use mathlib.Core.Bool.{Bool, true, false, ◌||◌}
use Prim.Native.Nat.{ℕ, ◌<◌, ◌≤◌}
use native.Mathlib.Omega.{arith}
use borrow.Author.Tests.{lt-ltb, le-ltb}
use lib.Ieee.{Float}
use Rattle.std.specs.Prelude.{Option, Some, None}
use Rattle.doubles.specs.Num.{◌⊕◌, ◌⊖◌, ◌⊘◌, finite, infinite}
use Rattle.doubles.specs.Lists.{◌!◌}
use Rattle.sparse.specs.Scattered.{Sv, listed, listed_val}
use Rattle.rules.specs.Plan.{Problem, Workspace}
use Rattle.rules.specs.Choose.{other_val}
use Rattle.rules.specs.Ratio.{Leaving as RuleLeaving, rises, ahead, sound_ratios, pass_one, pass_two, flip_of, exchange_of, pivot_of, sound_distance, ratio}
use Rattle.rules.specs.declared.Entering.{Entering}
use Rattle.rules.specs.declared.PivotInfo.TheVariants.{Flip, Exchange}
use Rattle.rules.specs.declared.Ratio.{Ratio}
use Rattle.rules.specs.declared.Ratio.TheVariants.{Pivot, Unbounded, NotFinite}
use Rattle.step_ratio.specs.Parts.{max_step_of, leaving_by, pivot_by}

-- ---- the leaving row
module _ (P : Problem) (w : Workspace) (up : Bool) (c : Sv) (distance : Float) {x : Option Float} (b : x ≡ max_step_of P w up c distance) where
  pub leaving_23 : x ≡ None → None ≡ leaving_by P w up c distance
  unfolding max_step_of leaving_by
  leaving_23 h = go (sound_ratios P w up c) (sym b ∙ h)
    where
      go : (s : Bool) → ◌≡◌ {A = Option Float} (elim s [ true ↦ Some (pass_one P w up c distance) | false ↦ None ]) None
          → ◌≡◌ {A = Option ℕ} None (elim s [ true ↦ Some (pass_two P w up c (pass_one P w up c distance)).at | false ↦ None ])
      go true h = absurd (let z : ◌≡◌ {A = ℕ} 0 1 = cc in omega arith)
      go false h = refl

  pub leaving_at : {t : Float} {at : ℕ} → x ≡ Some t → at ≡ (pass_two P w up c t).at → Some at ≡ leaving_by P w up c distance
  unfolding max_step_of leaving_by
  leaving_at {t} {at} h e = go (sound_ratios P w up c) (sym b ∙ h)
    where
      go : (s : Bool) → elim s [ true ↦ Some (pass_one P w up c distance) | false ↦ None ] ≡ Some t
          → Some at ≡ elim s [ true ↦ Some (pass_two P w up c (pass_one P w up c distance)).at | false ↦ None ]
      go true h = let q : t ≡ pass_one P w up c distance = cc in rw (e, q)
      go false h = absurd (let z : ◌≡◌ {A = ℕ} 0 1 = cc in omega arith)

-- ---- the step
module _ (P : Problem) (w : Workspace) (e : Entering) (c : Sv) (o : Float) (at : ℕ) where
  pub pivot_exchange : {up : Bool} → up ≡ rises e → {x : Float} → at < c.pat.count → x ≡ ahead P w up (listed c at) (listed_val c at)
      → let diff = (w.basic_var_vals ! listed c at ⊖ x) ⊘ listed_val c at in Pivot (Exchange (w.nb_var_vals ! e.col ⊕ diff) diff (listed c at) (listed_val c at) x) ≡ pivot_by P w e c o at
  unfolding pivot_by exchange_of
  pivot_exchange u l h = rw (lt-ltb at c.pat.count l, pivot_by, h, u)

  pub pivot_unbounded : {x : Bool} → c.pat.count ≤ at → x ≡ infinite o → x ≡ true → Unbounded ≡ pivot_by P w e c o at
  unfolding pivot_by
  pivot_unbounded g i h = rw (le-ltb at c.pat.count g, sym i ∙ h, pivot_by)

  pub pivot_flip : {x : Bool} → c.pat.count ≤ at → x ≡ infinite o → x ≡ false → Pivot (Flip o (o ⊖ w.nb_var_vals ! e.col)) ≡ pivot_by P w e c o at
  unfolding pivot_by
  pivot_flip g i h = rw (le-ltb at c.pat.count g, sym i ∙ h, pivot_by)

module _ (P : Problem) (w : Workspace) (e : Entering) (c : Sv) {o : Float} {x y : Bool} (other : o ≡ other_val P w e.col) (i : x ≡ infinite o) (f : y ≡ finite e.distance) where
  far : sound_distance P w e ≡ x || y
  unfolding sound_distance
  far = rw (i, f, other)

  pub ratio_far : x || y ≡ false → NotFinite ≡ ratio P w e c
  unfolding ratio
  ratio_far h = rw (far ∙ h, ratio)

  module _ (h : x || y ≡ true) {l : Option ℕ} (b : l ≡ leaving_by P w (rises e) c e.distance) where
    near : sound_distance P w e ≡ true
    near = far ∙ h

    abbrev left : RuleLeaving
    left = pass_two P w (rises e) c (pass_one P w (rises e) c e.distance)

    pub ratio_23 : l ≡ None → NotFinite ≡ ratio P w e c
    unfolding leaving_by ratio
    ratio_23 q = rw (near, ratio) (go (sound_ratios P w (rises e) c) (sym b ∙ q))
      where
        go : (s : Bool) → ◌≡◌ {A = Option ℕ} (elim s [ true ↦ Some left.at | false ↦ None ]) None
            → NotFinite ≡ elim s [ true ↦ pivot_of P w e c left | false ↦ NotFinite ]
        go true q = absurd (let z : ◌≡◌ {A = ℕ} 0 1 = cc in omega arith)
        go false q = refl

    pub ratio_pivots : {at : ℕ} {p : Ratio} → l ≡ Some at → p ≡ pivot_by P w e c o at → p ≡ ratio P w e c
    unfolding leaving_by ratio pivot_by pivot_of flip_of
    ratio_pivots {at} {p} q f = rw (near, ratio) (go (sound_ratios P w (rises e) c) (sym b ∙ q))
      where
        go : (s : Bool) → elim s [ true ↦ Some left.at | false ↦ None ] ≡ Some at
            → p ≡ elim s [ true ↦ pivot_of P w e c left | false ↦ NotFinite ]
        go true q = let z : at ≡ left.at = cc in f ∙ rw (z, other)
        go false q = absurd (let z : ◌≡◌ {A = ℕ} 0 1 = cc in omega arith)
