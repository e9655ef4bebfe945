-- 02, Ask 8: "every exchange of either kind updates both kinds of norm, and 23 covers both": what is known of the dual norms
-- before an exchange. `rules` has the whole as `both_norms`; proofs/Laws.antt puts it together from this, the exchange and the
-- store. Assumes nothing.
use Rattle.std.specs.Prelude.{Bool, ◌&&◌, List, ℕ, Float}
use Rattle.sparse.specs.Scattered.{Sv, listed_finite, sq_norm}
use Rattle.rules.specs.Plan.{Problem, Workspace, State}
use Rattle.rules.specs.Basis.{tau_of}
use Rattle.rules.specs.Pivot.{stored, stores_finite, new_dual_norm}
use Rattle.rules.specs.Step.{with_dual_norms}
use Rattle.state.specs.declared.Exchange.{Exchange}

-- whether tau's entries and the new dual norms are finite, and tau's values
pub record Tested : Type 0 where
  pub goes : Bool
  pub tau : List Float

abbrev pub tested_by : Bool → List Float → Tested
tested_by b t = record { goes = b; tau = t }

unfoldable pub tested : Problem → State → Sv → Exchange → Sv → Tested
tested P s c x y =
    let t = tau_of P s y in
    tested_by (listed_finite t && stores_finite c (new_dual_norm s.ws c x.row x.pivot (sq_norm y) t)) t.vals

-- a workspace with the new dual norms of the column's listed rows
abbrev pub dual_stored : Workspace → Sv → ℕ → Float → Float → Sv → Workspace
dual_stored w c row pivot sq tau = with_dual_norms (stored c (new_dual_norm w c row pivot sq tau) w.dual_norms) w
