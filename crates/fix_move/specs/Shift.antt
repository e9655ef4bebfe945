-- What a fix of a non_basic column leaves: the state after it, or 23 and what was lent as it was. Assumes nothing.
use Rattle.std.specs.Prelude.{true, false, ℕ, Float}
use Rattle.rules.specs.Plan.{Problem, State}
use Rattle.rules.specs.declared.Stop.TheVariants.{NotFinite}
use Rattle.step_refactor.specs.Left.{Left, on, off}
use Rattle.fix_rules.specs.Fix.{shift_finite, shifted}

unfoldable pub shift_left : Problem → State → ℕ → Float → Left
shift_left P s c value =
    elim (shift_finite P s c value) [
      | true ↦ on (shifted P s c value)
      | false ↦ off NotFinite s.ws s.factor.numbers s.factor.coeffs
    ]
