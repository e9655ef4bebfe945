-- `tevalumi_any::tevalumi_reprice`: the answer's numbers, and the memory as it is left. Assumes nothing.
use borrow.Author.Rules.{rules}
use Rattle.fix_face.proofs.Laws.{hands_out}
use Rattle.tevalumi_any.proofs.tevalumi_reprice.Statement.{statement}
use Rattle.tevalumi_any.proofs.tevalumi_reprice.Tie as tie

-- where the call left off
abbrev reprice-at : tie.After-fix_answer → tie.After-reprice-a
reprice-at c = search

reprice-requires : tie.Need-reprice-a-requires
reprice-requires c κs = search rules

fix-answer-requires : tie.Need-fix_answer-requires
fix-answer-requires c κs = search rules

same_length : tie.Need-shape_of-values
same_length c = (reprice-at c).reprice-a.auto.values

same-length-2 : tie.Need-shape_of-numbers
same-length-2 c = (reprice-at c).reprice-a.auto.numbers

same-length-3 : tie.Need-shape_of-doubles
same-length-3 c = (reprice-at c).reprice-a.auto.doubles

same-length-4 : tie.Need-shape_of-factor_numbers
same-length-4 c = (reprice-at c).reprice-a.auto.factor_numbers

same-length-5 : tie.Need-shape_of-factor_coeffs
same-length-5 c = (reprice-at c).reprice-a.auto.factor_coeffs

returns : tie.Need-returns
returns c =
    let x = (reprice-at c).reprice-a.new in
    hands_out (reprice-at c).reprice-a.result x.values x.numbers x.doubles x.factor_numbers x.factor_coeffs
    c.fix_answer.ensures (reprice-at c).reprice-a.ensures

pub tevalumi_reprice_spec : {M : Type 1} → statement M
tevalumi_reprice_spec =
    tie.close
    (tie.spec
    reprice-requires
    fix-answer-requires
    same_length
    same-length-2
    same-length-3
    same-length-4
    same-length-5
    returns)
