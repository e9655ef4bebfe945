-- What is stored after the second stage, from the cells that it left. z is its section, x the first stage's amounts.
-- Assumes nothing.
use Rattle.std.specs.Prelude.{true, false, List, take, ℤ}
use Rattle.doubles.specs.Limits.{max_columns}
use Rattle.lu_packed.specs.Written.{written}
use Rattle.night_rules.specs.Arrays.{Arrays}
use Rattle.night_rules.specs.Stage.{is_judged}
use Rattle.night_rules.specs.Night.{second_at, handed_at, first_stands, Called, called}
use Rattle.night_rules.specs.declared.Audit.{Audit}
use Rattle.night_rules.specs.declared.Stage.{Stage}
use Rattle.night_rules.specs.declared.NightAnswer.TheVariants.{FirstStands, Handed}

unfoldable pub stored : Audit → List ℤ → List ℤ → List ℤ
stored a z w = elim (is_judged a) [ true ↦ written second_at z w | false ↦ w ]

unfoldable pub hand_over : Stage → Stage → List ℤ → List ℤ → Arrays → List ℤ → Called
hand_over f g x z a w =
    elim (first_stands g.audit) [
      | true ↦ called (FirstStands f g) a (written handed_at x (stored g.audit z w))
      | false ↦ called (Handed f g) a (written handed_at (take max_columns z) (stored g.audit z w))
    ]
