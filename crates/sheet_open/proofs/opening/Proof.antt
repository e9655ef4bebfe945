-- `sheet_open::opening` meets its contract. Assumes nothing.
use mathlib.Core.Path.{sym, ◌∙◌}
use borrow.Author.Rules.{rules}
use Rattle.sheet_rules.specs.Sheet.{plan_of, kept_of, sheet_of, Sheet}
use Rattle.sheet_tests.proofs.Tells.{plan_sized_holds}
use borrow.Author.Tests.{not-true, not-false}
use Rattle.sheet_rules.specs.Opening.{first_failed, opening}
use Rattle.sheet_rules.proofs.Tests.{sizes_decide}
use Rattle.sheet_tests.specs.Sized.{PlanSized}
use Rattle.sheet_open.proofs.opening.Statement.{statement}
use Rattle.sheet_open.proofs.opening.Tie as tie

abbrev sheet : tie.Start → Sheet
sheet s = sheet_of (plan_of s.args.rows s.args.columns s.args.coefs.now s.args.costs.now s.args.lowers.now s.args.uppers.now s.args.lower_marks.now s.args.upper_marks.now s.args.rhs.now s.args.ops.now s.args.amounts.now s.args.mults.now) (kept_of s.args.r.now s.args.d.now s.args.c.now s.args.b.now s.args.counts.now)

-- 11 not given
sized : (c : tie.Else-not-sizes_fine) → PlanSized (sheet c.before.before.before.before.before).plan
sized c = plan_sized_holds (sheet c.before.before.before.before.before) ((sizes_decide (sheet c.before.before.before.before.before)).yes_so (sym c.sizes_fine.ensures ∙ not-false _ c.if-not-sizes_fine.false-raw))

sizes-fine-requires : tie.Need-sizes_fine-requires
sizes-fine-requires c κs = search rules

returns : tie.Need-returns-then-not-sizes_fine
unfolding opening first_failed
returns c = rw (sym c.sizes_fine.ensures ∙ not-true _ c.if-not-sizes_fine.true-raw)

numbers-fine-requires : tie.Need-numbers_fine-requires
numbers-fine-requires c κs = sized c

returns-2 : tie.Need-returns-then-not-numbers_fine
unfolding opening first_failed
returns-2 c = rw (sym c.sizes_fine.ensures ∙ not-false _ c.if-not-sizes_fine.false-raw, sym c.numbers_fine.ensures ∙ not-true _ c.if-not-numbers_fine.true-raw)

uncrossed-requires : tie.Need-uncrossed-requires
uncrossed-requires c κs = sized c.before.before

returns-3 : tie.Need-returns-then-not-uncrossed
unfolding opening first_failed
returns-3 c = rw (sym c.sizes_fine.ensures ∙ not-false _ c.if-not-sizes_fine.false-raw, sym c.numbers_fine.ensures ∙ not-false _ c.if-not-numbers_fine.false-raw, sym c.uncrossed.ensures ∙ not-true _ c.if-not-uncrossed.true-raw)

returns-4 : tie.Need-returns
unfolding opening first_failed
returns-4 c = rw (sym c.sizes_fine.ensures ∙ not-false _ c.if-not-sizes_fine.false-raw, sym c.numbers_fine.ensures ∙ not-false _ c.if-not-numbers_fine.false-raw, sym c.uncrossed.ensures ∙ not-false _ c.if-not-uncrossed.false-raw)

pub opening_spec : {M : Type 1} → statement M
opening_spec =
    tie.close
    (tie.spec
    sizes-fine-requires
    returns
    numbers-fine-requires
    returns-2
    uncrossed-requires
    returns-3
    returns-4)
