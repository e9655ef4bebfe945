-- The step as it is before a basis was ever factored (01's, with room for the eta column, and Ask 8's dual norms), kept for one
-- theorem: 02: "runs that never fill the store give the same bits as before". Assumes nothing.
use Rattle.std.specs.Prelude.{◌≡◌, ◌&&◌, ℕ, zero, suc, Some}
use Rattle.doubles.specs.Num.{f1}
use Rattle.doubles.specs.Lists.{◌#◌}
use Rattle.sparse.specs.Scattered.{Sv, blank, put_at, relisted, listed_finite}
use Rattle.rules.specs.Plan.{Problem, State}
use Rattle.rules.specs.Choose.{choose}
use Rattle.rules.specs.Basis.{scattered, solve_etas, solve_etas_transp, combine}
use Rattle.rules.specs.Ratio.{ratio}
use Rattle.rules.specs.Pivot.{numbers_finite, eta_finite, exchanged}
use Rattle.rules.specs.Step.{Outcome, moved, stopped, or_stop, flip, norms_moved}
use Rattle.rules.specs.declared.Entering.{Entering}
use Rattle.rules.specs.declared.PivotInfo.{PivotInfo}
use Rattle.rules.specs.declared.PivotInfo.TheVariants.{Flip, Exchange}
use Rattle.rules.specs.declared.Ratio.TheVariants.{Pivot, Unbounded, NotFinite}
use Rattle.rules.specs.declared.Stop.TheVariants.{Unbounded as Stop-as-Unbounded, NotFinite as Stop-as-NotFinite}

-- "The first factor is the identity": the solves are those of the etas
abbrev pub column_before : Problem → State → ℕ → Sv
column_before P s v = solve_etas s.ws.etas s.eta_count (scattered P v)

abbrev pub inv_row_before : State → ℕ → Sv
inv_row_before s r = solve_etas_transp s.ws.etas s.eta_count (put_at blank r f1)

abbrev pub row_before : Problem → State → ℕ → Sv
row_before P s r = combine P s.ws.var_states (inv_row_before s r)

abbrev pub tau_before : State → Sv → Sv
tau_before s y = solve_etas s.ws.etas s.eta_count (relisted y)

abbrev pub helper_before : Problem → State → Sv → Sv
helper_before P s c = combine P s.ws.var_states (solve_etas_transp s.ws.etas s.eta_count (relisted c))

-- no place is touched, and the eta column is stored
abbrev pub pivot_before : Problem → State → Entering → Sv → PivotInfo → Outcome
pivot_before P s e c (Flip value diff) = flip P s e c value diff
pivot_before P s e c (Exchange value diff row pivot leaving) =
    let r = row_before P s row in
    let h = helper_before P s c in
    let y = inv_row_before s row in
    norms_moved s.ws c row pivot y (tau_before s y)
    (or_stop (listed_finite r && listed_finite h && numbers_finite P s e c r h value diff row pivot leaving) Stop-as-NotFinite
    (or_stop (eta_finite c row pivot) Stop-as-NotFinite
    (moved (Exchange value diff row pivot leaving) (exchanged P s e c r h value diff row pivot leaving))))

unfoldable pub step_before : Problem → State → Entering → Outcome
step_before P s e =
    let c = column_before P s (s.ws.nb_vars # e.col) in
    or_stop (listed_finite c) Stop-as-NotFinite
    (elim (ratio P s.ws e c) [
      | NotFinite ↦ stopped Stop-as-NotFinite
      | Unbounded ↦ stopped Stop-as-Unbounded
      | Pivot i ↦ pivot_before P s e c i
    ])

-- k such steps lead from s to t
pub data StepsBefore (P : Problem) (s : State) : ℕ → State → Type 0 where
  none : StepsBefore P s zero s
  one_more : {k : ℕ} {t u : State} (e : Entering) (i : PivotInfo) → StepsBefore P s k t → choose P t.ws ≡ Some e
      → step_before P t e ≡ moved i u → StepsBefore P s (suc k) u
