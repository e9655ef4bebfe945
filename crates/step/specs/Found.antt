-- "column solve; ratio; Unbounded", and a flip's new numbers: what is known of a step before anything is stored. `rules`
-- has the whole as `step`; proofs/Laws.antt puts it together from this, the flip's store and the exchange. Assumes nothing.
use Rattle.std.specs.Prelude.{Bool, true, false, List, ℕ, Float}
use Rattle.doubles.specs.Lists.{◌#◌}
use Rattle.sparse.specs.Scattered.{Sv, sv, listed_finite}
use Rattle.rules.specs.Plan.{Problem, State}
use Rattle.rules.specs.Basis.{column_coeffs}
use Rattle.rules.specs.Ratio as Ratio
use Rattle.rules.specs.Pivot.{flip_finite}
use Rattle.rules.specs.declared.Entering.{Entering}
use Rattle.rules.specs.declared.PivotInfo.{PivotInfo}
use Rattle.rules.specs.declared.PivotInfo.TheVariants.{Flip, Exchange as Exchanging}
use Rattle.rules.specs.declared.Ratio.{Ratio}
use Rattle.rules.specs.declared.Ratio.TheVariants.{Pivot, Unbounded, NotFinite}
use Rattle.rules.specs.declared.Stop.{Stop}
use Rattle.rules.specs.declared.Stop.TheVariants.{Unbounded as Stop-as-Unbounded, NotFinite as Stop-as-NotFinite}
use Rattle.state.specs.declared.Exchange.{Exchange}
use Rattle.step.specs.declared.Decided.{Decided}
use Rattle.step.specs.declared.Decided.TheVariants.{Flips, Exchanges, Stops}

-- the entering column, solved, with the numbers of the flip or of the exchange, or why there is no step
pub data Found : Type 0 where
  flips : Sv → Float → Float → Found
  exchanges : Sv → Exchange → Found
  ends : Stop → Found

abbrev pub exchange_of : Float → Float → ℕ → Float → Float → Exchange
exchange_of value diff row pivot leaving = record { value = value; diff = diff; row = row; pivot = pivot; leaving = leaving }

unfoldable pub by_pivot : Problem → State → Entering → Sv → PivotInfo → Found
by_pivot P s e c (Flip value diff) = elim (flip_finite P s e c value diff) [ true ↦ flips c value diff | false ↦ ends Stop-as-NotFinite ]
by_pivot P s e c (Exchanging value diff row pivot leaving) = exchanges c (exchange_of value diff row pivot leaving)

unfoldable pub by_ratio : Problem → State → Entering → Sv → Ratio → Found
by_ratio P s e c NotFinite = ends Stop-as-NotFinite
by_ratio P s e c Unbounded = ends Stop-as-Unbounded
by_ratio P s e c (Pivot i) = by_pivot P s e c i

unfoldable pub found : Problem → State → Entering → Found
found P s e =
    let c = column_coeffs P s (s.ws.nb_vars # e.col) in
    elim (listed_finite c) [ true ↦ by_ratio P s e c (Ratio.ratio P s.ws e c) | false ↦ ends Stop-as-NotFinite ]

-- the code's answer, with the vector as it leaves it
abbrev pub found_by : Decided → List Float → List Bool → List ℕ → Found
found_by (Flips k value diff) values marks list = flips (sv values marks list k) value diff
found_by (Exchanges k x) values marks list = exchanges (sv values marks list k) x
found_by (Stops w) values marks list = ends w
