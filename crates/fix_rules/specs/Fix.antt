-- 02, Ask 9: "fix_var and unfix_var as shown, for non_basic and, through Ask 8, basic columns". From minilp 0.2.2, src/solver.rs,
-- Apache-2.0, changed. s is the state that a run left, with 0 steps. Assumes nothing.
use Rattle.std.specs.Prelude.{Bool, true, false, ◌&&◌, ℕ, eqb, set, Float}
use Rattle.std.specs.Float.Ieee.{eq}
use Rattle.doubles.specs.Num.{◌⊕◌, ◌⊖◌, ◌⊗◌, f0, finite}
use Rattle.doubles.specs.Lists.{◌!◌, ◌#◌}
use Rattle.sparse.specs.Scattered.{Sv, listed_finite}
use Rattle.rules.specs.Plan.{Problem, Workspace, State, n_of, var_state_of, flags_cell, flags_of, held}
use Rattle.rules.specs.Parts.{workspace_of, state_with}
use Rattle.rules.specs.Basis.{column_coeffs}
use Rattle.rules.specs.DualRatio.{leaving_rises, test_by}
use Rattle.rules.specs.Pivot.{stored, stores_finite, moved_val, flags_at}
use Rattle.rules.specs.Step.{Outcome, moved, stopped, dual_step_by, Ended, ended, run_of, both_runs}
use Rattle.rules.specs.declared.NonBasicVarState.{NonBasicVarState}
use Rattle.rules.specs.declared.VarState.TheVariants.{Basic, NonBasic}
use Rattle.rules.specs.declared.LeavingVar.{LeavingVar}
use Rattle.rules.specs.declared.Stop.TheVariants.{Spent, NotFinite}

-- ---- marks

-- the flags cell of place c is x
abbrev pub with_flags : State → ℕ → ℕ → State
with_flags s c x =
    let w = s.ws in
    state_with
    (workspace_of w.basic_vars w.basic_var_vals w.nb_vars w.nb_var_vals w.prices w.norms w.dual_norms (set w.flags c x) w.var_states w.etas)
    s.eta_count s.objective s.steps s.factor

-- "a fixed column has all three"
unfoldable pub marked : State → ℕ → State
marked s c = with_flags s c (flags_cell held)

-- "flags by equality with the bounds, no mark"
unfoldable pub unmarked : Problem → State → ℕ → State
unmarked P s c = with_flags s c (flags_at P (s.ws.nb_vars # c) (s.ws.nb_var_vals ! c))

-- ---- fix of a non_basic column, at place c: "diff = value - its value; basic values of listed rows -= diff * coefficient;
-- objective += diff * price"
abbrev pub fix_diff : State → ℕ → Float → Float
fix_diff s c value = value ⊖ s.ws.nb_var_vals ! c

abbrev pub fix_objective : State → ℕ → Float → Float
fix_objective s c value = s.objective ⊕ fix_diff s c value ⊗ s.ws.prices ! c

-- its column, solved, is given
module _ (s : State) (c : ℕ) (column : Sv) (value : Float) where
  -- "all finite, else 23"
  abbrev pub shift_finite_by : Bool
  shift_finite_by = stores_finite column (moved_val s.ws column (fix_diff s c value)) && finite (fix_objective s c value)

  -- "the value; the mark. No step"
  abbrev pub shifted_by : State
  shifted_by =
      let w = s.ws in
      marked
      (state_with
      (workspace_of w.basic_vars (stored column (moved_val w column (fix_diff s c value)) w.basic_var_vals) w.nb_vars (set w.nb_var_vals c value) w.prices w.norms w.dual_norms w.flags w.var_states w.etas)
      s.eta_count (fix_objective s c value) s.steps s.factor)
      c

module _ (P : Problem) (s : State) (c : ℕ) (value : Float) where
  abbrev pub fix_column : Sv
  fix_column = column_coeffs P s (s.ws.nb_vars # c)

  -- "column solve (entries finite, else 23)", "all finite, else 23"
  unfoldable pub shift_finite : Bool
  shift_finite = listed_finite fix_column && shift_finite_by s c fix_column value

  unfoldable pub shifted : State
  shifted = shifted_by s c fix_column value

  -- "then the run of Ask 8: dual steps, then primal ones"
  unfoldable pub fix_non_basic : Ended
  fix_non_basic = elim shift_finite [ true ↦ both_runs P P.plan.budget shifted | false ↦ ended NotFinite s ]

-- ---- fix of a basic column, in this row
module _ (P : Problem) (s : State) (row : ℕ) (value : Float) where
  -- "with this row and the value as the leaving value": it isn't chosen by a score
  abbrev pub fix_leaving : LeavingVar
  fix_leaving = record { row = row; infeasibility = f0; score = f0; value = value }

  -- "Where the value equals the basic value there is no move, so no bound is in the way"
  unfoldable pub fix_test : NonBasicVarState → Float → Bool
  fix_test = test_by (eq (s.ws.basic_var_vals ! row) value) (leaving_rises s.ws fix_leaving)

  -- "a dual step from its part 3 on"
  unfoldable pub fix_step : Outcome
  fix_step = dual_step_by fix_test P s fix_leaving

-- "1 step; then the mark at the entering place", which is where column j stands then; "then the run of Ask 8"
abbrev pub after_fix_step : Problem → State → ℕ → Outcome → Ended
after_fix_step P s j (moved i t) = both_runs P P.plan.budget (marked t (t.ws.var_states # j))
after_fix_step P s j (stopped w) = ended w s

-- "budget (21 where it is 0)"
unfoldable pub fix_basic : Problem → State → ℕ → ℕ → Float → Ended
fix_basic P s j row value =
    elim (eqb P.plan.budget 0) [ true ↦ ended Spent s | false ↦ after_fix_step P s j (fix_step P s row value) ]

-- ---- the two calls, from the state that was kept to the end of the run

unfoldable pub fixed : Problem → State → ℕ → Float → Ended
fixed P s j value =
    elim (var_state_of (n_of P) (s.ws.var_states # j)) [ NonBasic c ↦ fix_non_basic P s c value | Basic r ↦ fix_basic P s j r value ]

-- the column is non_basic and marked
unfoldable pub is_fixed : Problem → Workspace → ℕ → Bool
is_fixed P w j = elim (var_state_of (n_of P) (w.var_states # j)) [ NonBasic c ↦ (flags_of (w.flags # c)).«fixed» | Basic r ↦ false ]

-- "then primal steps"
unfoldable pub unfixed : Problem → State → ℕ → Ended
unfixed P s j = run_of P P.plan.budget (unmarked P s (s.ws.var_states # j))
