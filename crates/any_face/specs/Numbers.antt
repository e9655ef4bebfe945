-- The numbers that the face hands out for an answer of a solve from any start: those of the last run's answer, the way
-- that it took, and the steps of the run with costs 0. Assumes nothing.
use Rattle.std.specs.Prelude.{List, ℕ, Float}
use Rattle.rules.specs.Plan.{Memory}
use Rattle.state.specs.Memory.{memory_in, Past, past_of}
use Rattle.face.specs.declared.TevalumiAnswer.{TevalumiAnswer}
use Rattle.face.specs.Face.{placed}
use Rattle.reprice_rules.specs.declared.AnyAnswer.{AnyAnswer}
use Rattle.reprice_rules.specs.declared.AnyAnswer.TheVariants.{Direct, Halted, Repriced}
use Rattle.reprice_rules.specs.Any.{AnyCalled, as_any_row, steps_of_costless}
use Rattle.any_face.specs.declared.TevalumiAnyAnswer.{TevalumiAnyAnswer}

abbrev pub any_face : TevalumiAnswer → ℕ → ℕ → TevalumiAnyAnswer
any_face a w k = record { answer = a; way = w; costless_steps = k }

-- 0 solve answered, 1 the run with costs 0, 2 the basis that it left was priced anew
unfoldable pub way_of : AnyAnswer → ℕ
way_of (Direct a) = 0
way_of (Halted a) = 1
way_of (Repriced k b) = 2

unfoldable pub any_numbers : AnyAnswer → TevalumiAnyAnswer
any_numbers a =
    let t = as_any_row a in
    any_face (placed t.number t.objective t.steps t.excess t.place) (way_of a) (steps_of_costless a)

-- with every lent cell
pub record Faced : Type 0 where
  pub numbers : TevalumiAnyAnswer
  pub memory : Memory
  pub past : Past

abbrev pub faced : TevalumiAnyAnswer → List Float → List ℕ → List Float → List ℕ → List Float → Faced
faced n v N D F G = record { numbers = n; memory = memory_in v N D F G; past = past_of N D }

abbrev pub faced_by : AnyCalled → Past → Faced
faced_by c past = record { numbers = any_numbers c.answer; memory = c.memory; past = past }
