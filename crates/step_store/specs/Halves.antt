-- The two halves of storing an exchange: the numbers of the lists, and the maps with what stands at the entering place.
-- `rules` has the whole as `exchanged`, and as `refactored` where a factor takes the eta column's place: here are both
-- without what comes after the halves. proofs/Laws.antt puts them together. Assumes nothing.
use Rattle.std.specs.Prelude.{true, [], ℕ, suc, set, Float}
use Rattle.doubles.specs.Lists.{◌#◌}
use Rattle.sparse.specs.Scattered.{Sv}
use Rattle.rules.specs.Plan.{Problem, Workspace, State, n_of, var_cell}
use Rattle.rules.specs.Parts.{workspace_of, factored_of}
use Rattle.rules.specs.Basis.{no_columns}
use Rattle.rules.specs.Pivot.{stored, flags_at, new_val, new_price, new_norm, exchanged_to}
use Rattle.rules.specs.declared.Entering.{Entering}
use Rattle.rules.specs.declared.VarState.TheVariants.{Basic, NonBasic}
use Rattle.state.specs.declared.Exchange.{Exchange}

unfoldable pub numbers_stored : Workspace → Entering → Sv → Sv → Sv → Float → Float → ℕ → Float → Workspace
numbers_stored w e c rowSv helper value diff row pivot =
    workspace_of w.basic_vars (stored c (new_val w c value diff row) w.basic_var_vals) w.nb_vars w.nb_var_vals
    (stored rowSv (new_price w e pivot rowSv) w.prices) (stored rowSv (new_norm w e c pivot rowSv helper) w.norms)
    w.dual_norms w.flags w.var_states w.etas

unfoldable pub basis_stored : Problem → Workspace → ℕ → ℕ → Float → Workspace
basis_stored P w col row leaving =
    let enters = w.nb_vars # col in
    let leaves = w.basic_vars # row in
    workspace_of (set w.basic_vars row enters) w.basic_var_vals (set w.nb_vars col leaves) (set w.nb_var_vals col leaving)
    w.prices w.norms w.dual_norms (set w.flags col (flags_at P leaves leaving))
    (set (set w.var_states enters (var_cell (n_of P) (Basic row))) leaves (var_cell (n_of P) (NonBasic col))) w.etas

-- both halves: the eta store and the factor are as they were
unfoldable pub swapped : Problem → State → Entering → Sv → Sv → Sv → Exchange → State
swapped P s e c rowSv helper x =
    exchanged_to P s e c rowSv helper x.value x.diff x.row x.pivot x.leaving s.ws.etas s.eta_count
    s.factor

-- both halves, with no eta columns and a factoring more, but for the factor's arrays
unfoldable pub emptied : Problem → State → Entering → Sv → Sv → Sv → Exchange → State
emptied P s e c rowSv helper x =
    exchanged_to P s e c rowSv helper x.value x.diff x.row x.pivot x.leaving (no_columns s.ws.etas) 0
    (factored_of true (suc s.factor.times) [] [])
