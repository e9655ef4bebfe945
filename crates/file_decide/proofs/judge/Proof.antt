-- `file_decide::judge` meets its contract: each return by its law. Assumes nothing.
use mathlib.Core.Path.{◌≡◌, sym, ap, ◌∙◌}
use mathlib.Core.Bool.{Bool, true, false}
use native.Mathlib.Omega.{arith}
use borrow.Author.Rules.{rules}
use borrow.Author.Tests.{not-true, not-false}
use Rattle.sheet_rules.specs.Sheet.{Plan, plan_of}
use Rattle.file_rules.specs.PlanFile.{plan_sized, resized, sized_by}
use Rattle.file_rules.specs.Calls.{reading_of}
use Rattle.file_rules.proofs.File.{fits}
use Rattle.file_decide.proofs.Reading.{first, first_whole, first_refused, first_sized}
use Rattle.file_decide.proofs.judge.Statement.{statement}
use Rattle.file_decide.proofs.judge.Tie as tie

abbrev lent : tie.Start → Plan
lent s = plan_of 0 0 s.args.coefs.now s.args.costs.now s.args.lowers.now s.args.uppers.now s.args.lower_marks.now s.args.upper_marks.now s.args.rhs.now s.args.ops.now s.args.amounts.now s.args.mults.now

first-refusal-requires : tie.Need-first_refusal-first-requires
first-refusal-requires c κs = search rules

returns : tie.Need-returns-then-first-ne0
returns c = first_refused c.args.file.now (lent c.before.before.before.before.before.before) _ c.first_refusal-first.ensures c.if-first-ne0.true

-- what holds past each test
passed : (c : tie.Else-first-ne0) → first c.args.file.now ≡ 0
passed c = sym c.first_refusal-first.ensures ∙ c.if-first-ne0.false

sized : (c : tie.Else-not-plan_sized) → plan_sized (resized c.get_little-rows.result c.get_little-columns.result (lent c.before.before.before.before.before.before.before.before.before.before)) ≡ true
unfolding resized
sized c = sym c.plan_sized.ensures ∙ not-false _ c.if-not-plan_sized.false-raw

get-little-requires : tie.Need-get_little-rows-requires
get-little-requires c κs = (omega (arith, first_whole c.args.file.now (passed c)), omega arith)

get-little-requires-2 : tie.Need-get_little-columns-requires
get-little-requires-2 c κs = (omega (arith, first_whole c.args.file.now (passed c.before)), omega arith)

plan-sized-requires : tie.Need-plan_sized-requires
plan-sized-requires c κs = search rules

returns-2 : tie.Need-returns-then-not-plan_sized
unfolding resized sized_by reading_of
returns-2 c = sym (ap reading_of (first_sized c.args.file.now (passed c.before.before.before.before) (lent c.before.before.before.before.before.before.before.before.before.before) _ _ false c.get_little-rows.ensures c.get_little-columns.ensures (sym (not-true _ c.if-not-plan_sized.true-raw) ∙ c.plan_sized.ensures)))

judge-blocks-requires : tie.Need-judge_blocks-requires
unfolding resized
judge-blocks-requires c κs = let k = fits (resized c.get_little-rows.result c.get_little-columns.result (lent c.before.before.before.before.before.before.before.before.before.before)) (sized c) in (k.rows_fit, k.cols_fit, first_whole c.args.file.now (passed c.before.before.before.before))

returns-3 : tie.Need-returns
unfolding sized_by
returns-3 c = c.judge_blocks.ensures ∙ sym (ap reading_of (first_sized c.args.file.now (passed c.before.before.before.before.before) (lent c.before.before.before.before.before.before.before.before.before.before.before) _ _ true c.get_little-rows.ensures c.get_little-columns.ensures (sym (sized c.before))))

pub judge_spec : {M : Type 1} → statement M
judge_spec =
    tie.close
    (tie.spec
    first-refusal-requires
    returns
    get-little-requires
    get-little-requires-2
    plan-sized-requires
    returns-2
    judge-blocks-requires
    returns-3)
