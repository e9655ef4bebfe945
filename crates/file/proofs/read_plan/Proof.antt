-- `file::read_plan` meets its contract: each return by its law. Assumes nothing.
use mathlib.Core.Path.{◌≡◌, sym, ◌∙◌}
use borrow.Author.Rules.{rules}
use Rattle.sheet_rules.specs.Sheet.{Plan, plan_of}
use Rattle.file_rules.specs.PlanFile.{resized}
use Rattle.file_decide.proofs.Writing.{sized_plan}
use Rattle.file_decide.proofs.Reading.{held, reads_held, reads_refused}
use Rattle.file.proofs.read_plan.Statement.{statement}
use Rattle.file.proofs.read_plan.Tie as tie

abbrev lent : tie.Start → Plan
lent s = plan_of 0 0 s.args.coefs.now s.args.costs.now s.args.lowers.now s.args.uppers.now s.args.lower_marks.now s.args.upper_marks.now s.args.rhs.now s.args.ops.now s.args.amounts.now s.args.mults.now

judge-requires : tie.Need-judge-answer-requires
judge-requires c κs = search rules

enum-known-answer : tie.Need-enum_known-answer
enum-known-answer c = search rules

take-plan-requires : tie.Need-take_plan-requires
unfolding resized
take-plan-requires c κs = let s0 : tie.Start = search in let g = held (lent s0) c.args.file.now _ _ (sym c.judge-answer.ensures ∙ c.in-Held.is) in (g.there, sized_plan _ g.fit)

enum-known-answer-2 : tie.Need-enum_known-answer-in-Refused-1
enum-known-answer-2 c = search rules

same_length : tie.Need-shape_of-coefs-in-Held
same_length c = search rules

same-length-2 : tie.Need-shape_of-costs-in-Held
same-length-2 c = search rules

same-length-3 : tie.Need-shape_of-lowers-in-Held
same-length-3 c = search rules

same-length-4 : tie.Need-shape_of-uppers-in-Held
same-length-4 c = search rules

same-length-5 : tie.Need-shape_of-lower_marks-in-Held
same-length-5 c = search rules

same-length-6 : tie.Need-shape_of-upper_marks-in-Held
same-length-6 c = search rules

same-length-7 : tie.Need-shape_of-rhs-in-Held
same-length-7 c = search rules

same-length-8 : tie.Need-shape_of-ops-in-Held
same-length-8 c = search rules

same-length-9 : tie.Need-shape_of-amounts-in-Held
same-length-9 c = search rules

same-length-10 : tie.Need-shape_of-mults-in-Held
same-length-10 c = search rules

returns : tie.Need-returns-in-Held
returns c = let s0 : tie.Start = search in reads_held (lent s0) c.args.file.now _ _ _ (sym c.in-Held.is ∙ c.judge-answer.ensures) c.take_plan.ensures

same-length-11 : tie.Need-shape_of-coefs-in-Refused
same-length-11 c = search rules

same-length-12 : tie.Need-shape_of-costs-in-Refused
same-length-12 c = search rules

same-length-13 : tie.Need-shape_of-lowers-in-Refused
same-length-13 c = search rules

same-length-14 : tie.Need-shape_of-uppers-in-Refused
same-length-14 c = search rules

same-length-15 : tie.Need-shape_of-lower_marks-in-Refused
same-length-15 c = search rules

same-length-16 : tie.Need-shape_of-upper_marks-in-Refused
same-length-16 c = search rules

same-length-17 : tie.Need-shape_of-rhs-in-Refused
same-length-17 c = search rules

same-length-18 : tie.Need-shape_of-ops-in-Refused
same-length-18 c = search rules

same-length-19 : tie.Need-shape_of-amounts-in-Refused
same-length-19 c = search rules

same-length-20 : tie.Need-shape_of-mults-in-Refused
same-length-20 c = search rules

returns-2 : tie.Need-returns-in-Refused
returns-2 c = let s0 : tie.Start = search in reads_refused (lent s0) c.args.file.now _ _ (sym c.in-Refused.is ∙ c.judge-answer.ensures)

pub read_plan_spec : {M : Type 1} → statement M
read_plan_spec =
    tie.close
    (tie.spec
    judge-requires
    enum-known-answer
    take-plan-requires
    enum-known-answer-2
    same_length
    same-length-2
    same-length-3
    same-length-4
    same-length-5
    same-length-6
    same-length-7
    same-length-8
    same-length-9
    same-length-10
    returns
    same-length-11
    same-length-12
    same-length-13
    same-length-14
    same-length-15
    same-length-16
    same-length-17
    same-length-18
    same-length-19
    same-length-20
    returns-2)
