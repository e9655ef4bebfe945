-- "row solve; all new numbers": what is known of an exchange before its eta column or the new basis' factor is made. `rules`
-- has the whole as `exchange`; proofs/Laws.antt puts it together from this and the stores. Assumes nothing.
use Rattle.std.specs.Prelude.{Bool, true, false, ◌&&◌, List, ℕ, Float, Option, Some, None}
use Rattle.sparse.specs.Scattered.{Sv, sv, listed_finite}
use Rattle.rules.specs.Plan.{Problem, State}
use Rattle.rules.specs.Basis.{row_coeffs_of, helper_of, touch_at}
use Rattle.rules.specs.Pivot.{numbers_finite}
use Rattle.rules.specs.declared.Entering.{Entering}
use Rattle.state.specs.declared.Exchange.{Exchange}

-- the row and the helper's values, or a number isn't finite
pub data Decision : Type 0 where
  goes : Sv → List Float → Decision
  ends : Decision

-- by the test
unfoldable pub decision : Bool → Sv → List Float → Decision
decision false r h = ends
decision true r h = goes r h

unfoldable pub decided : Problem → State → Entering → Sv → Exchange → Decision
decided P s e c x =
    let r = touch_at (row_coeffs_of P s x.row) e.col in
    let h = helper_of P s c in
    decision
    (listed_finite r && listed_finite h && numbers_finite P s e c r h x.value x.diff x.row x.pivot x.leaving)
    r h.vals

-- the code's answer, with the vectors as it leaves them
abbrev pub decided_by : Option ℕ → List Float → List Bool → List ℕ → List Float → Decision
decided_by (Some k) values marks list helper = goes (sv values marks list k) helper
decided_by None values marks list helper = ends
