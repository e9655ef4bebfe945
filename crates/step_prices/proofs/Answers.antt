-- What the code's tests say of the ratio's answers. Assumes nothing.
use mathlib.Core.Path.{◌≡◌, refl, sym, ◌∙◌}
use mathlib.Core.Bool.{Bool, true, false}
use Prim.Native.Nat.{ℕ, ◌<◌, ◌≤◌}
use native.Mathlib.Omega.{arith}
use borrow.Author.Tests.{lt-ltb, le-ltb}
use lib.Dec.{ltb}
use lib.Ieee.{Float}
use Rattle.std.specs.Prelude.{Option, Some, None}
use Rattle.doubles.specs.Lists.{◌!◌}
use Rattle.sparse.specs.Scattered.{Sv, listed, listed_val}
use Rattle.rules.specs.Plan.{Workspace}
use Rattle.rules.specs.DualRatio.{dual_sound, dual_pass_one, dual_pass_two, dual_exchange_of, dual_ratio_by}
use Rattle.rules.specs.declared.NonBasicVarState.{NonBasicVarState}
use Rattle.rules.specs.declared.LeavingVar.{LeavingVar}
use Rattle.rules.specs.declared.DualRatio.{DualRatio}
use Rattle.rules.specs.declared.DualRatio.TheVariants.{Nothing, NotFinite}
use Rattle.step_prices.specs.Parts.{max_step_of, exchange_by}

module _ (test : NonBasicVarState → Float → Bool) (w : Workspace) (l : LeavingVar) (r : Sv) {x : Option Float} (b : x ≡ max_step_of w test r) where
  abbrev place : Float → ℕ
  place t = (dual_pass_two w test r t).at

  abbrev made : ℕ → DualRatio
  made at = elim (ltb at r.pat.count) [ true ↦ dual_exchange_of w l (listed r at) (listed_val r at) | false ↦ Nothing ]

  pub ratio_23 : x ≡ None → NotFinite ≡ dual_ratio_by test w l r
  unfolding max_step_of dual_ratio_by
  ratio_23 h = go (dual_sound w test r) (sym b ∙ h)
    where
      go : (s : Bool) → ◌≡◌ {A = Option Float} (elim s [ true ↦ Some (dual_pass_one w test r) | false ↦ None ]) None
          → NotFinite ≡ elim s [ false ↦ NotFinite | true ↦ made (place (dual_pass_one w test r)) ]
      go true h = absurd (let z : ◌≡◌ {A = ℕ} 0 1 = cc in omega arith)
      go false h = refl

  module _ {t : Float} {at : ℕ} (h : x ≡ Some t) (e : at ≡ place t) where
    passes : made at ≡ dual_ratio_by test w l r
    unfolding max_step_of dual_ratio_by
    passes = go (dual_sound w test r) (sym b ∙ h)
      where
        go : (s : Bool) → elim s [ true ↦ Some (dual_pass_one w test r) | false ↦ None ] ≡ Some t
            → made at ≡ elim s [ false ↦ NotFinite | true ↦ made (place (dual_pass_one w test r)) ]
        go true h = let q : t ≡ dual_pass_one w test r = cc in rw (e, q)
        go false h = absurd (let z : ◌≡◌ {A = ℕ} 0 1 = cc in omega arith)

    pub ratio_none : r.pat.count ≤ at → Nothing ≡ dual_ratio_by test w l r
    ratio_none g =
        let this : Nothing ≡ made at = rw (le-ltb at r.pat.count g, made) in
        this ∙ passes

    pub ratio_exchanges : {p : DualRatio} → at < r.pat.count
        → p ≡ exchange_by (listed r at) (w.prices ! listed r at) (w.nb_var_vals ! listed r at) (w.basic_var_vals ! l.row) l.value (listed_val r at)
        → p ≡ dual_ratio_by test w l r
    unfolding exchange_by dual_exchange_of
    ratio_exchanges {p} g f =
        let this : p ≡ made at = rw (lt-ltb at r.pat.count g, made) f in
        this ∙ passes
