-- A call's run reads only a part of its problem. Assumes nothing.
use mathlib.Core.Path.{◌≡◌, refl, sym, ap, ◌∙◌}
use mathlib.Core.Bool.{Bool, true, false}
use Prim.Native.Nat.{ℕ}
use lib.Dec.{eqb}
use lib.Ieee.{Float}
use Rattle.doubles.specs.Lists.{◌#◌}
use Rattle.rules.specs.Plan.{Problem, State, n_of, column, var_state_of}
use Rattle.rules.specs.Basis.{column_coeffs}
use Rattle.rules.specs.Step.{Outcome, moved, stopped, Ended, ended, run_of, both_runs}
use Rattle.rules.specs.declared.VarState.{VarState}
use Rattle.rules.specs.declared.VarState.TheVariants.{Basic, NonBasic}
use Rattle.rules.specs.declared.Stop.TheVariants.{Spent, NotFinite}
use Rattle.run.proofs.Primal.{run_part}
use Rattle.run_dual.proofs.Turn.{both_part}
use Rattle.fix_rules.specs.Fix.{marked, unmarked, shift_finite, shifted, fix_non_basic, fix_step, after_fix_step, fix_basic, fixed, unfixed}
use Rattle.fix_basic.specs.Lent.{called_of}
use Rattle.fix_basic.proofs.Laws.{fix_step_part, unmark_part}

abbrev pub called_for : Problem → Problem
called_for P =
    let p = P.plan in
    called_of p.columns p.budget p.lowers p.uppers p.starts p.cols p.coeffs p.ops P.kept

module _ (P : Problem) (s : State) (j : ℕ) where
  abbrev Q : Problem
  Q = called_for P

  abbrev budget : ℕ
  budget = P.plan.budget

  both_same : (t : State) → both_runs Q budget t ≡ both_runs P budget t
  both_same t = both_part Q budget t ∙ sym (both_part P budget t)

  pub unfixed_part : unfixed Q s j ≡ unfixed P s j
  unfolding unfixed
  unfixed_part =
      let c = s.ws.var_states # j in
      let same : unmarked Q s c ≡ unmarked P s c = sym (unmark_part Q s c) ∙ unmark_part P s c in
      ap (run_of Q budget) same ∙ run_part Q budget (unmarked P s c) ∙ sym (run_part P budget (unmarked P s c))

  module _ (value : Float) where
    non_basic_same : (c : ℕ) → fix_non_basic Q s c value ≡ fix_non_basic P s c value
    unfolding fix_non_basic shift_finite shifted column_coeffs column
    non_basic_same c = go (shift_finite P s c value)
      where
        ends : Problem → Bool → Ended
        ends A b = elim b [ true ↦ both_runs A budget (shifted P s c value) | false ↦ ended NotFinite s ]

        go : (b : Bool) → ends Q b ≡ ends P b
        go true = both_same (shifted P s c value)
        go false = refl

    after_same : (o : Outcome) → after_fix_step Q s j o ≡ after_fix_step P s j o
    after_same (moved i t) = both_same (marked t (t.ws.var_states # j))
    after_same (stopped w) = refl

    basic_same : (row : ℕ) → fix_basic Q s j row value ≡ fix_basic P s j row value
    unfolding fix_basic
    basic_same row = go (eqb budget 0)
      where
        same : fix_step Q s row value ≡ fix_step P s row value
        same = fix_step_part Q s row value ∙ sym (fix_step_part P s row value)

        ends : Problem → Bool → Ended
        ends A b = elim b [ true ↦ ended Spent s | false ↦ after_fix_step A s j (fix_step A s row value) ]

        go : (b : Bool) → ends Q b ≡ ends P b
        go true = refl
        go false = ap (after_fix_step Q s j) same ∙ after_same (fix_step P s row value)

    pub fixed_part : fixed Q s j value ≡ fixed P s j value
    unfolding fixed
    fixed_part = go (var_state_of (n_of P) (s.ws.var_states # j))
      where
        ends : Problem → VarState → Ended
        ends A x = elim x [ NonBasic c ↦ fix_non_basic A s c value | Basic r ↦ fix_basic A s j r value ]

        go : (x : VarState) → ends Q x ≡ ends P x
        go (NonBasic c) = non_basic_same c
        go (Basic r) = basic_same r
