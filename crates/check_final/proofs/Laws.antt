-- What the code's tests and reads say of the definitions. Assumes nothing.
use mathlib.Core.Path.{◌≡◌, refl, sym, ap, ◌∙◌}
use mathlib.Core.Bool.{Bool, true, false}
use mathlib.Core.List.{List}
use Prim.Native.Nat.{ℕ, ◌+◌, ◌-◌, ◌<◌, ◌≤◌}
use native.Mathlib.Omega.{arith}
use lib.Dec.{ltb}
use lib.Ieee.{Float, le}
use borrow.Author.Tests.{ltb-true, ltb-false, lt-ltb, le-ltb}
use Rattle.doubles.specs.Lists.{◌!◌, ◌#◌}
use Rattle.rules.specs.Plan.{Problem, Workspace, n_of, m_of, var_state_of}
use Rattle.rules.specs.FinalCheck.{value_of, worst, judged, final_check}
use Rattle.rules.specs.declared.VarState.{VarState}
use Rattle.rules.specs.declared.VarState.TheVariants.{Basic, NonBasic}
use Rattle.rules.specs.declared.Worst.{Worst}
use Rattle.rules.specs.declared.Checked.TheVariants.{Passed, Value, Row}
use Rattle.check_final.proofs.Parts.{measured_by, worst_part}

-- ---- get_value: the cell that it reads is there
module _ (n cell : ℕ) where
  pub row_cell : (r : ℕ) → var_state_of n cell ≡ Basic r → n + r ≡ cell
  unfolding var_state_of
  row_cell r q = go (ltb cell n) refl q
    where
      go : (b : Bool) → ltb cell n ≡ b → elim b [ true ↦ NonBasic cell | false ↦ Basic (cell - n) ] ≡ Basic r → n + r ≡ cell
      go true e q = absurd (let z : ◌≡◌ {A = ℕ} 0 1 = cc in omega arith)
      go false e q = let z : cell - n ≡ r = cc in omega (arith, ltb-false cell n e)

  pub place_cell : (k : ℕ) → var_state_of n cell ≡ NonBasic k → k < n
  unfolding var_state_of
  place_cell k q = go (ltb cell n) refl q
    where
      go : (b : Bool) → ltb cell n ≡ b → elim b [ true ↦ NonBasic cell | false ↦ Basic (cell - n) ] ≡ NonBasic k → k < n
      go true e q = let z : cell ≡ k = cc in omega (arith, ltb-true cell n e)
      go false e q = absurd (let z : ◌≡◌ {A = ℕ} 0 1 = cc in omega arith)

module _ (n : ℕ) (w : Workspace) (v : ℕ) where
  pub value_basic : {s : VarState} {r : ℕ} → s ≡ var_state_of n (w.var_states # v) → s ≡ Basic r → w.basic_var_vals ! r ≡ value_of n w v
  unfolding value_of
  value_basic e q = rw (sym e ∙ q, value_of) refl

  pub value_non_basic : {s : VarState} {c : ℕ} → s ≡ var_state_of n (w.var_states # v) → s ≡ NonBasic c → w.nb_var_vals ! c ≡ value_of n w v
  unfolding value_of
  value_non_basic e q = rw (sym e ∙ q, value_of) refl

-- ---- final_check: by its two tests, of what `worst` says
module _ (P : Problem) (xs : List Float) (w : Worst) (e : w ≡ worst (measured_by P) xs) where
  is_judged_holds : judged P w ≡ final_check P xs
  unfolding final_check
  is_judged_holds = ap (judged P) (e ∙ sym (worst_part P xs))

  pub accepts : le w.excess P.plan.tolerance ≡ true → Passed w.excess ≡ final_check P xs
  unfolding judged
  accepts h = rw (h, judged) at is_judged_holds

  pub rejects_value : le w.excess P.plan.tolerance ≡ false → w.at < n_of P + m_of P → Value w.at w.excess ≡ final_check P xs
  unfolding judged
  rejects_value h l = rw (h, lt-ltb w.at (n_of P + m_of P) l, judged) at is_judged_holds

  pub rejects_row : le w.excess P.plan.tolerance ≡ false → n_of P + m_of P ≤ w.at → Row (w.at - (n_of P + m_of P)) w.excess ≡ final_check P xs
  unfolding judged
  rejects_row h l = rw (h, le-ltb w.at (n_of P + m_of P) l, judged) at is_judged_holds
