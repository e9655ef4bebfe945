-- `any_face::TevalumiAnyAnswerFromAnyAnswer::from`: by cases. Assumes nothing.
use mathlib.Core.Path.{◌≡◌, refl, ap, ◌∙◌}
use Prim.Native.Nat.{ℕ}
use lib.Ieee.{Float}
use Rattle.rules.specs.Answers.{Place, nowhere, entry_at, column_at, row_at, value_at, kept_row_at, as_row}
use Rattle.face.specs.declared.TevalumiAnswer.{TevalumiAnswer}
use Rattle.face.specs.Face.{placed, answer_numbers}
use Rattle.fix_face.specs.Numbers.{fix_numbers}
use Rattle.reprice_rules.specs.Any.{as_any_row, steps_of_costless}
use Rattle.any_face.specs.Numbers.{any_face, way_of, any_numbers}
use Rattle.any_face.proofs.TevalumiAnyAnswerFromAnyAnswer.from.Goals as goal

-- the steps stand among the numbers, whatever the place
placed_steps : (n : ℕ) (o : Float) (k : ℕ) (x : Float) (p : Place) → (placed n o k x p).steps ≡ k
unfolding placed
placed_steps n o k x nowhere = refl
placed_steps n o k x (entry_at i j) = refl
placed_steps n o k x (column_at i) = refl
placed_steps n o k x (row_at i) = refl
placed_steps n o k x (value_at i) = refl
placed_steps n o k x (kept_row_at i) = refl

pub returns-in-Direct : goal.returns-in-Direct
unfolding any_numbers as_any_row way_of steps_of_costless answer_numbers
returns-in-Direct c = rw c.in-Direct.is (ap (λ (t : TevalumiAnswer). any_face t 0 0) c.from.ensures)

pub returns-in-Halted : goal.returns-in-Halted
unfolding any_numbers as_any_row way_of steps_of_costless answer_numbers
returns-in-Halted c =
    let t = as_row c.in-Halted.told in
    let e = placed_steps t.number t.objective t.steps t.excess t.place in
    rw c.in-Halted.is
    (ap (λ (u : TevalumiAnswer). any_face u 1 u.steps) c.from-answer.ensures ∙ ap (any_face _ 1) e)

pub returns-in-Repriced : goal.returns-in-Repriced
unfolding any_numbers as_any_row way_of steps_of_costless fix_numbers
returns-in-Repriced c = rw c.in-Repriced.is (ap (λ (t : TevalumiAnswer). any_face t 2 c.in-Repriced.steps) c.fix_answer.ensures)
