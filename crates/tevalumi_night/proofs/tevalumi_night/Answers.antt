-- `tevalumi_night::tevalumi_night`: the night below it, its answer as numbers, and what is lent as it is left. Assumes
-- nothing.
use mathlib.Core.Path.{◌≡◌, ap, ◌∙◌}
use mathlib.Core.List.{List}
use lib.IntN.{ℤ}
use Rattle.night_rules.specs.Arrays.{Arrays}
use Rattle.night_rules.specs.Night.{Called, called}
use Rattle.night_rules.specs.declared.NightAnswer.{NightAnswer}
use Rattle.night_face.specs.declared.TevalumiNight.{TevalumiNight}
use Rattle.night_face.specs.Numbers.{night_numbers, faced, faced_by}
use Rattle.tevalumi_night.proofs.tevalumi_night.Goals as goal

hands_out : {n : TevalumiNight} (r : NightAnswer) {a : Arrays} {w : List ℤ} {h : Called} → n ≡ night_numbers r
    → called r a w ≡ h → faced n a w ≡ faced_by h
hands_out r {a} {w} e f = ap (λ (n : TevalumiNight). faced n a w) e ∙ ap faced_by f

pub returns : goal.returns
returns c = hands_out c.night-a.result c.from.ensures c.night-a.ensures
