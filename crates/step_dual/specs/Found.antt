-- "Row solve and row", the ratio on prices, 26: what is known of a dual step before its column is solved, and what comes then.
-- `rules` has the whole as `dual_step_by`; proofs/Laws.antt puts it together. Assumes nothing.
use Rattle.std.specs.Prelude.{Bool, true, false, List, ℕ, Float}
use Rattle.doubles.specs.Lists.{◌#◌}
use Rattle.sparse.specs.Scattered.{Sv, sv, listed_finite}
use Rattle.rules.specs.Plan.{Problem, State}
use Rattle.rules.specs.Basis.{column_coeffs, inv_row, row_coeffs_of, touch_at}
use Rattle.rules.specs.DualRatio.{leaving_rises, test_by, dual_ratio_by}
use Rattle.rules.specs.Step.{Outcome, or_stop, both_norms}
use Rattle.rules.specs.declared.Entering.{Entering}
use Rattle.rules.specs.declared.LeavingVar.{LeavingVar}
use Rattle.rules.specs.declared.DualRatio.{DualRatio}
use Rattle.rules.specs.declared.DualRatio.TheVariants.{Exchange as Exchanging, Nothing, NotFinite}
use Rattle.rules.specs.declared.Stop.{Stop}
use Rattle.rules.specs.declared.Stop.TheVariants.{Infeasible, NotFinite as Stop-as-NotFinite}
use Rattle.state.specs.declared.Exchange.{Exchange}
use Rattle.step.specs.Found.{exchange_of}
use Rattle.step_dual.specs.declared.Decided.{Decided}
use Rattle.step_dual.specs.declared.Decided.TheVariants.{Enters, Stops}

-- the row solve's result, with the entering column and the numbers of the exchange, or why there is none
pub data Found : Type 0 where
  enters : Sv → Entering → Exchange → Found
  ends : Stop → Found

unfoldable pub by_dual : LeavingVar → Sv → DualRatio → Found
by_dual l y NotFinite = ends Stop-as-NotFinite
by_dual l y Nothing = ends (Infeasible l.row)
by_dual l y (Exchanging e value diff pivot) = enters y e (exchange_of value diff l.row pivot l.value)

-- with the test of a leaving variable that stands still, or moves
unfoldable pub found : Bool → Problem → State → LeavingVar → Found
found still P s l =
    let r = row_coeffs_of P s l.row in
    elim (listed_finite r) [ true ↦ by_dual l (inv_row P s l.row) (dual_ratio_by (test_by still (leaving_rises s.ws l)) s.ws l r) | false ↦ ends Stop-as-NotFinite ]

-- the code's answer, with the vector as it leaves it
abbrev pub found_by : Decided → List Float → List Bool → List ℕ → Found
found_by (Enters k e x) values marks list = enters (sv values marks list k) e x
found_by (Stops w) values marks list = ends w

-- "Column solve of the entering variable; every listed entry finite, else 23; the two touches. From here as a primal exchange"
unfoldable pub entered : Problem → State → Entering → Exchange → Outcome
entered P s e x =
    let c = column_coeffs P s (s.ws.nb_vars # e.col) in
    or_stop (listed_finite c) Stop-as-NotFinite
    (both_norms P s e (touch_at c x.row) x.value x.diff x.row x.pivot x.leaving)
