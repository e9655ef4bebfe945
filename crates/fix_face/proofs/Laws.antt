-- What an exported call over the memory of a run hands out. Assumes nothing.
use mathlib.Core.Path.{◌≡◌, ap, ◌∙◌}
use mathlib.Core.List.{List}
use Prim.Native.Nat.{ℕ}
use lib.Ieee.{Float}
use Rattle.face.specs.declared.TevalumiAnswer.{TevalumiAnswer}
use Rattle.face.specs.Face.{faced}
use Rattle.fix_rules.specs.declared.FixAnswer.{FixAnswer}
use Rattle.fix_ends.specs.Ends.{HandedCall, called_by}
use Rattle.fix_face.specs.Numbers.{fix_numbers, faced_by_call}

pub hands_out : {n : TevalumiAnswer} (a : FixAnswer) (v : List Float) (N : List ℕ) (D : List Float) (F : List ℕ)
    (G : List Float) {h : HandedCall} → n ≡ fix_numbers a → called_by a v N D F G ≡ h → faced n v N D F G ≡ faced_by_call h
hands_out a v N D F G e f = ap (λ (n : TevalumiAnswer). faced n v N D F G) e ∙ ap faced_by_call f
