-- `file_decide::judge_blocks` meets its contract: each return by its law. Assumes nothing.
use mathlib.Core.Path.{◌≡◌, sym, ◌∙◌}
use mathlib.Core.Bool.{true}
use native.Mathlib.Omega.{arith}
use borrow.Author.Rules.{rules}
use borrow.Author.Tests.{not-true, not-false}
use Rattle.sheet_rules.specs.Opening.{numbers_fine}
use Rattle.file_open.specs.Places.{plan_at}
use Rattle.file_decide.proofs.Reading.{Stood, stood, blocks_refused, blocks_number, blocks_crossed, blocks_held}
use Rattle.file_decide.proofs.judge_blocks.Statement.{statement}
use Rattle.file_decide.proofs.judge_blocks.Tie as tie

walk-blocks-requires : tie.Need-walk_blocks-s-requires
walk-blocks-requires c κs = search rules

returns : tie.Need-returns-then-s-ne0
returns c = blocks_refused c.args.file.now c.args.rows c.args.columns c.walk_blocks-s.result c.walk_blocks-s.ensures c.if-s-ne0.true

-- what holds past each test
all : (c : tie.Else-s-ne0) → Stood c.args.file.now c.args.rows c.args.columns c.walk_blocks-s.result c.walk_blocks-s.ensures
all c = stood c.args.file.now c.args.rows c.args.columns c.walk_blocks-s.result c.walk_blocks-s.ensures c.requires.0 c.requires.1 c.requires.2 c.if-s-ne0.false

fine : (c : tie.Else-not-numbers_fine) → numbers_fine (plan_at c.args.file.now c.args.rows c.args.columns) ≡ true
fine c = sym c.numbers_fine.ensures ∙ not-false _ c.if-not-numbers_fine.false-raw

numbers-fine-requires : tie.Need-numbers_fine-requires
numbers-fine-requires c κs = (all c).whole

sub-t7 : tie.Need-overflow_sub-result
sub-t7 c = omega (arith, (all c.before.before.before).last)

returns-2 : tie.Need-returns-then-not-numbers_fine
returns-2 c = blocks_number c.args.file.now c.args.rows c.args.columns c.walk_blocks-s.result c.walk_blocks-s.ensures (all c.before.before.before) (sym c.numbers_fine.ensures ∙ not-true _ c.if-not-numbers_fine.true-raw)

uncrossed-requires : tie.Need-uncrossed-requires
uncrossed-requires c κs = (all c.before.before).whole

sub-t8 : tie.Need-overflow_sub-result-then-not-uncrossed
sub-t8 c = omega (arith, (all c.before.before.before.before.before).last)

returns-3 : tie.Need-returns-then-not-uncrossed
returns-3 c = blocks_crossed c.args.file.now c.args.rows c.args.columns c.walk_blocks-s.result c.walk_blocks-s.ensures (all c.before.before.before.before.before) (fine c.before.before.before) (sym c.uncrossed.ensures ∙ not-true _ c.if-not-uncrossed.true-raw)

returns-4 : tie.Need-returns
returns-4 c = blocks_held c.args.file.now c.args.rows c.args.columns c.walk_blocks-s.result c.walk_blocks-s.ensures (all c.before.before.before.before) (fine c.before.before) (sym c.uncrossed.ensures ∙ not-false _ c.if-not-uncrossed.false-raw)

pub judge_blocks_spec : {M : Type 1} → statement M
judge_blocks_spec =
    tie.close
    (tie.spec
    walk-blocks-requires
    returns
    numbers-fine-requires
    sub-t7
    returns-2
    uncrossed-requires
    sub-t8
    returns-3
    returns-4)
