-- "the factor where it doesn't": what an exchange leaves whose eta column doesn't fit. Assumes nothing.
use Rattle.sparse.specs.Scattered.{Sv}
use Rattle.lu_factor_rules.specs.Factor.{factorize}
use Rattle.rules.specs.Plan.{Problem, State, m_of}
use Rattle.rules.specs.Basis.{basis_after}
use Rattle.rules.specs.Pivot.{refactored}
use Rattle.rules.specs.Step.{moved, or_factor}
use Rattle.rules.specs.declared.Entering.{Entering}
use Rattle.rules.specs.declared.PivotInfo.TheVariants.{Exchange as Exchanges}
use Rattle.state.specs.declared.Exchange.{Exchange}
use Rattle.step_refactor.specs.Left.{Left, after}

unfoldable pub made : Problem → State → Entering → Sv → Sv → Sv → Exchange → Left
made P s e c rowSv helper x =
    after s (or_factor (factorize (m_of P) (basis_after P s e.col x.row))
    (λ f. moved (Exchanges x.value x.diff x.row x.pivot x.leaving)
    (refactored P s e c rowSv helper x.value x.diff x.row x.pivot x.leaving f)))
