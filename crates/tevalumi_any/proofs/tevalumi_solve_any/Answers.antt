-- `tevalumi_any::tevalumi_solve_any`: the answer's numbers, and the memory as it is left. Assumes nothing.
use mathlib.Core.Path.{◌≡◌, ap, ◌∙◌}
use mathlib.Core.List.{List}
use Prim.Native.Nat.{ℕ}
use lib.Ieee.{Float}
use Rattle.state.specs.Memory.{Past}
use Rattle.reprice_rules.specs.declared.AnyAnswer.{AnyAnswer}
use Rattle.reprice_rules.specs.Any.{AnyCalled}
use Rattle.any.specs.Handed.{HandedAny, handed_any, any_by}
use Rattle.any_face.specs.declared.TevalumiAnyAnswer.{TevalumiAnyAnswer}
use Rattle.any_face.specs.Numbers.{any_numbers, faced, faced_by}
use Rattle.tevalumi_any.proofs.tevalumi_solve_any.Goals as goal

hands_out : {n : TevalumiAnyAnswer} (a : AnyAnswer) (v : List Float) (N : List ℕ) (D : List Float) (F : List ℕ)
    (G : List Float) {c : AnyCalled} {past : Past} → n ≡ any_numbers a → any_by a v N D F G ≡ handed_any c past
    → faced n v N D F G ≡ faced_by c past
hands_out a v N D F G e f =
    ap (λ (n : TevalumiAnyAnswer). faced n v N D F G) e ∙ ap (λ (h : HandedAny). faced_by h.called h.past) f

pub returns : goal.returns
returns c = let x = c.solve_any-a.new in
    hands_out c.solve_any-a.result x.values x.numbers x.doubles x.factor_numbers x.factor_coeffs c.from.ensures c.solve_any-a.ensures
