-- `tevalumi_solver::fixes::tevalumi_fix`: the answer's numbers, and the memory as it is left. Assumes nothing.
use borrow.Author.Rules.{rules}
use Rattle.fix_face.proofs.Laws.{hands_out}
use Rattle.tevalumi_solver.proofs.fixes.tevalumi_fix.Statement.{statement}
use Rattle.tevalumi_solver.proofs.fixes.tevalumi_fix.Tie as tie

-- where the call left off
abbrev fix-at : tie.After-fix_answer → tie.After-fix-a
fix-at c = search

fix-requires : tie.Need-fix-a-requires
fix-requires c κs = search rules

fix-answer-requires : tie.Need-fix_answer-requires
fix-answer-requires c κs = search rules

same_length : tie.Need-shape_of-values
same_length c = (fix-at c).fix-a.auto.values

same-length-2 : tie.Need-shape_of-numbers
same-length-2 c = (fix-at c).fix-a.auto.numbers

same-length-3 : tie.Need-shape_of-doubles
same-length-3 c = (fix-at c).fix-a.auto.doubles

same-length-4 : tie.Need-shape_of-factor_numbers
same-length-4 c = (fix-at c).fix-a.auto.factor_numbers

same-length-5 : tie.Need-shape_of-factor_coeffs
same-length-5 c = (fix-at c).fix-a.auto.factor_coeffs

returns : tie.Need-returns
returns c =
    let x = (fix-at c).fix-a.new in
    hands_out (fix-at c).fix-a.result x.values x.numbers x.doubles x.factor_numbers x.factor_coeffs
    c.fix_answer.ensures (fix-at c).fix-a.ensures

pub tevalumi_fix_spec : {M : Type 1} → statement M
tevalumi_fix_spec =
    tie.close
    (tie.spec
    fix-requires
    fix-answer-requires
    same_length
    same-length-2
    same-length-3
    same-length-4
    same-length-5
    returns)
