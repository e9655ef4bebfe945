-- `tevalumi_solver::tevalumi_solve`: the answer's numbers, and the memory as it is left. Assumes nothing.
use mathlib.Core.Path.{◌≡◌, ap, ◌∙◌}
use mathlib.Core.List.{List}
use Prim.Native.Nat.{ℕ}
use lib.Ieee.{Float}
use Rattle.rules.specs.declared.Answer.{Answer}
use Rattle.state.specs.Memory.{Handed, answered}
use Rattle.face.specs.declared.TevalumiAnswer.{TevalumiAnswer}
use Rattle.face.specs.Face.{answer_numbers, faced, faced_by}
use Rattle.tevalumi_solver.proofs.tevalumi_solve.Goals as goal

hands_out : {n : TevalumiAnswer} (a : Answer) (v : List Float) (N : List ℕ) (D : List Float) (F : List ℕ)
    (G : List Float) {h : Handed} → n ≡ answer_numbers a → answered a v N D F G ≡ h → faced n v N D F G ≡ faced_by h
hands_out a v N D F G e f = ap (λ (n : TevalumiAnswer). faced n v N D F G) e ∙ ap faced_by f

pub returns : goal.returns
returns c = let x = c.solve-a.new in
    hands_out c.solve-a.result x.values x.numbers x.doubles x.factor_numbers x.factor_coeffs c.from.ensures c.solve-a.ensures
