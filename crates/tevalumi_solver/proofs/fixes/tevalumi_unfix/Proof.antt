-- `tevalumi_solver::fixes::tevalumi_unfix`: the answer's numbers, and the memory as it is left. Assumes nothing.
use borrow.Author.Rules.{rules}
use Rattle.fix_face.proofs.Laws.{hands_out}
use Rattle.tevalumi_solver.proofs.fixes.tevalumi_unfix.Statement.{statement}
use Rattle.tevalumi_solver.proofs.fixes.tevalumi_unfix.Tie as tie

-- where the call left off
abbrev unfix-at : tie.After-fix_answer → tie.After-unfix-a
unfix-at c = search

unfix-requires : tie.Need-unfix-a-requires
unfix-requires c κs = search rules

fix-answer-requires : tie.Need-fix_answer-requires
fix-answer-requires c κs = search rules

same_length : tie.Need-shape_of-values
same_length c = (unfix-at c).unfix-a.auto.values

same-length-2 : tie.Need-shape_of-numbers
same-length-2 c = (unfix-at c).unfix-a.auto.numbers

same-length-3 : tie.Need-shape_of-doubles
same-length-3 c = (unfix-at c).unfix-a.auto.doubles

same-length-4 : tie.Need-shape_of-factor_numbers
same-length-4 c = (unfix-at c).unfix-a.auto.factor_numbers

same-length-5 : tie.Need-shape_of-factor_coeffs
same-length-5 c = (unfix-at c).unfix-a.auto.factor_coeffs

returns : tie.Need-returns
returns c =
    let x = (unfix-at c).unfix-a.new in
    hands_out (unfix-at c).unfix-a.result x.values x.numbers x.doubles x.factor_numbers x.factor_coeffs
    c.fix_answer.ensures (unfix-at c).unfix-a.ensures

pub tevalumi_unfix_spec : {M : Type 1} → statement M
tevalumi_unfix_spec =
    tie.close
    (tie.spec
    unfix-requires
    fix-answer-requires
    same_length
    same-length-2
    same-length-3
    same-length-4
    same-length-5
    returns)
