-- 01, "One step", with 02's Asks 5 and 8: entering column (none: final check); budget; column solve; ratio; Unbounded; row
-- solve; all new numbers; eta entries or factor; store. A dual step: leaving row; budget; row; ratio on prices; 26; column
-- solve; from there as a primal one. Assumes nothing.
use Rattle.std.specs.Prelude.{Bool, true, false, ◌&&◌, List, ℕ, ◌-◌, Float, Some, None}
use Rattle.doubles.specs.Loop.{until, Next, done, more}
use Rattle.doubles.specs.Lists.{◌#◌}
use Rattle.sparse.specs.Scattered.{Sv, listed_finite, sq_norm}
use Rattle.lu_factor_rules.specs.Factor.{Outcome as Factoring, factored, non_finite, singular, Factor, factorize}
use Rattle.rules.specs.Plan.{Problem, Workspace, State, m_of}
use Rattle.rules.specs.Choose.{choose}
use Rattle.rules.specs.Basis.{column_coeffs, row_coeffs_of, helper_of, inv_row, tau_of, touch_at, eta_fits, basis_after}
use Rattle.rules.specs.Ratio.{ratio}
use Rattle.rules.specs.DualRow.{choose_row}
use Rattle.rules.specs.DualRatio.{leaving_rises, eligible, dual_ratio_by}
use Rattle.rules.specs.Pivot.{stored, stores_finite, flip_finite, flipped, numbers_finite, new_dual_norm, eta_finite, exchanged, refactored}
use Rattle.rules.specs.declared.NonBasicVarState.{NonBasicVarState}
use Rattle.rules.specs.declared.Entering.{Entering}
use Rattle.rules.specs.declared.LeavingVar.{LeavingVar}
use Rattle.rules.specs.declared.DualRatio.TheVariants.{Exchange as Dual-as-Exchange, Nothing as Dual-as-Nothing, NotFinite as Dual-as-NotFinite}
use Rattle.rules.specs.declared.PivotInfo.{PivotInfo}
use Rattle.rules.specs.declared.PivotInfo.TheVariants.{Flip, Exchange}
use Rattle.rules.specs.declared.Ratio.TheVariants.{Pivot, Unbounded, NotFinite}
use Rattle.rules.specs.declared.Stop.{Stop}
use Rattle.rules.specs.declared.Stop.TheVariants.{Finished, Spent, Singular, Infeasible, Unbounded as Stop-as-Unbounded, NotFinite as Stop-as-NotFinite}

-- what a step gives: the state after it, with the kind of step, or why there is none
pub data Outcome : Type 0 where
  moved : PivotInfo → State → Outcome
  stopped : Stop → Outcome

-- go on where the test passes
abbrev pub or_stop : Bool → Stop → Outcome → Outcome
or_stop b w o = elim b [ true ↦ o | false ↦ stopped w ]

-- 02: "a factor number that isn't finite gives 23", "no pivot of at least EPS gives the new status 25"
abbrev pub or_factor : Factoring Factor → (Factor → Outcome) → Outcome
or_factor (factored f) go = go f
or_factor non_finite go = stopped Stop-as-NotFinite
or_factor singular go = stopped Singular

-- docs/RULES-02.md: "row solve; all new numbers; then the eta entries where the column fits, or the factor where it
-- doesn't; then the store". The "row and helper entries" of 23 are those of row_coeffs and sq_norms_update_helper; the
-- vectors solved on the way, the unit vector's among them, aren't tested. The column c is touched at the row already.
unfoldable pub exchange : Problem → State → Entering → Sv → Float → Float → ℕ → Float → Float → Outcome
exchange P s e c value diff row pivot leaving =
    let r = touch_at (row_coeffs_of P s row) e.col in
    let h = helper_of P s c in
    let i = Exchange value diff row pivot leaving in
    or_stop (listed_finite r && listed_finite h && numbers_finite P s e c r h value diff row pivot leaving) Stop-as-NotFinite
    (elim (eta_fits s c.pat.count) [
      | true ↦ or_stop (eta_finite c row pivot) Stop-as-NotFinite (moved i (exchanged P s e c r h value diff row pivot leaving))
      | false ↦ or_factor (factorize (m_of P) (basis_after P s e.col row))
          (λ f. moved i (refactored P s e c r h value diff row pivot leaving f))
    ])

-- 02, Ask 8: "every exchange of either kind updates both kinds of norm, and 23 covers both": tau and the dual norms of the
-- column's listed rows, beside the rest of the exchange
abbrev pub with_dual_norms : List Float → Workspace → Workspace
with_dual_norms l w =
    record {
      basic_vars = w.basic_vars;
      basic_var_vals = w.basic_var_vals;
      nb_vars = w.nb_vars;
      nb_var_vals = w.nb_var_vals;
      prices = w.prices;
      norms = w.norms;
      dual_norms = l;
      flags = w.flags;
      var_states = w.var_states;
      etas = w.etas;
    }

abbrev pub state_with_dual_norms : List Float → State → State
state_with_dual_norms l s =
    record { ws = with_dual_norms l s.ws; eta_count = s.eta_count; objective = s.objective; steps = s.steps; factor = s.factor }

abbrev pub outcome_with_dual_norms : List Float → Outcome → Outcome
outcome_with_dual_norms l (moved i t) = moved i (state_with_dual_norms l t)
outcome_with_dual_norms l (stopped w) = stopped w

abbrev pub norms_moved : Workspace → Sv → ℕ → Float → Sv → Sv → Outcome → Outcome
norms_moved w c row pivot y tau o =
    let norm = new_dual_norm w c row pivot (sq_norm y) tau in
    or_stop (listed_finite tau && stores_finite c norm) Stop-as-NotFinite (outcome_with_dual_norms (stored c norm w.dual_norms) o)

unfoldable pub both_norms : Problem → State → Entering → Sv → Float → Float → ℕ → Float → Float → Outcome
both_norms P s e c value diff row pivot leaving =
    let y = inv_row P s row in
    norms_moved s.ws c row pivot y (tau_of P s y) (exchange P s e c value diff row pivot leaving)

unfoldable pub flip : Problem → State → Entering → Sv → Float → Float → Outcome
flip P s e c value diff = or_stop (flip_finite P s e c value diff) Stop-as-NotFinite (moved (Flip value diff) (flipped P s e c value diff))

unfoldable pub pivot : Problem → State → Entering → Sv → PivotInfo → Outcome
pivot P s e c (Flip value diff) = flip P s e c value diff
pivot P s e c (Exchange value diff row coeff leaving) = both_norms P s e (touch_at c row) value diff row coeff leaving

-- "column solve; ratio; Unbounded"
unfoldable pub step : Problem → State → Entering → Outcome
step P s e =
    let c = column_coeffs P s (s.ws.nb_vars # e.col) in
    or_stop (listed_finite c) Stop-as-NotFinite
    (elim (ratio P s.ws e c) [ NotFinite ↦ stopped Stop-as-NotFinite | Unbounded ↦ stopped Stop-as-Unbounded | Pivot i ↦ pivot P s e c i ])

-- ---- a dual step, from its row solve on: l has the row that leaves and the value that its variable is to take

-- docs/RULES-02.md: "Column solve of the entering variable; every listed entry finite, else 23; the two touches. From here as
-- a primal exchange"
unfoldable pub dual_pivot : Problem → State → LeavingVar → Entering → Float → Float → Float → Outcome
dual_pivot P s l e value diff coeff =
    let c = column_coeffs P s (s.ws.nb_vars # e.col) in
    or_stop (listed_finite c) Stop-as-NotFinite (both_norms P s e (touch_at c l.row) value diff l.row coeff l.value)

-- "Row solve and row, as for an exchange; every listed entry finite, else 23", then the ratio on prices, over the columns that
-- a test lets in
unfoldable pub dual_step_by : (NonBasicVarState → Float → Bool) → Problem → State → LeavingVar → Outcome
dual_step_by test P s l =
    let r = row_coeffs_of P s l.row in
    or_stop (listed_finite r) Stop-as-NotFinite
    (elim (dual_ratio_by test s.ws l r) [
      | Dual-as-NotFinite ↦ stopped Stop-as-NotFinite
      | Dual-as-Nothing ↦ stopped (Infeasible l.row)
      | Dual-as-Exchange e value diff coeff ↦ dual_pivot P s l e value diff coeff
    ])

-- a dual step's own test: no bound is in the way
abbrev pub dual_step : Problem → State → LeavingVar → Outcome
dual_step P s l = dual_step_by (eligible (leaving_rises s.ws l)) P s l

-- ---- the run: it ends where no column enters, the budget is spent, or a step gives no state
pub record Ended : Type 0 where
  pub why : Stop
  pub state : State

abbrev pub ended : Stop → State → Ended
ended w s = record { why = w; state = s }

unfoldable pub next : Problem → State → Next State Ended
next P s =
    elim (choose P s.ws) [
      | None ↦ done (ended Finished s)
      | Some e ↦ elim (step P s e) [ moved i t ↦ more t | stopped w ↦ done (ended w s) ]
    ]

-- "budget spent and a column would enter"
unfoldable pub at_budget : Problem → State → Ended
at_budget P s = elim (choose P s.ws) [ None ↦ ended Finished s | Some e ↦ ended Spent s ]

unfoldable pub run_of : Problem → ℕ → State → Ended
run_of P budget s = until (next P) (at_budget P) budget s

-- ---- 02, Ask 8: dual steps until no row leaves, by restore_feasibility's own rule
unfoldable pub dual_next : Problem → State → Next State Ended
dual_next P s =
    elim (choose_row P s.ws) [
      | None ↦ done (ended Finished s)
      | Some l ↦ elim (dual_step P s l) [ moved i t ↦ more t | stopped w ↦ done (ended w s) ]
    ]

-- budget spent and a row would leave
unfoldable pub dual_at_budget : Problem → State → Ended
dual_at_budget P s = elim (choose_row P s.ws) [ None ↦ ended Finished s | Some l ↦ ended Spent s ]

unfoldable pub dual_run_of : Problem → ℕ → State → Ended
dual_run_of P budget s = until (dual_next P) (dual_at_budget P) budget s

-- docs/RULES-02.md: "dual steps until no row leaves. Then, for every plan, primal steps until no column enters": k steps are
-- left at s, and the budget is that of both kinds together
abbrev pub then_primal : Problem → ℕ → Ended → Ended
then_primal P budget e = elim e.why [
  | Finished ↦ run_of P (budget - e.state.steps) e.state
  | Spent ↦ e
  | Stop-as-Unbounded ↦ e
  | Stop-as-NotFinite ↦ e
  | Singular ↦ e
  | Infeasible r ↦ e
]

unfoldable pub both_runs : Problem → ℕ → State → Ended
both_runs P budget s = then_primal P budget (dual_run_of P (budget - s.steps) s)
