-- `whole_multipliers::first_multiplier` meets its contract. Assumes nothing.
use Rattle.std.proofs.Common.{◌≡◌, sym, ap, ◌∙◌, []}
use native.Mathlib.Nat.{le_antisymm}
use mathlib.Core.Bool.{not}
use Rattle.doubles.proofs.Loops.{seeks, hit, passed, missed}
use Rattle.state.specs.Memory.{memory_in}
use Rattle.whole_round.specs.Whole.{is_whole}
use Rattle.whole_multipliers.specs.Rows.{multiplier_at, first_multiplier, rows_of}
use Rattle.whole_multipliers.proofs.first_multiplier.Goals.{After-is_whole}
use Rattle.whole_multipliers.proofs.first_multiplier.Goals as goal

-- this turn's test
tested : (c : After-is_whole) → is_whole (multiplier_at (rows_of c.args.columns c.args.rows c.args.starts.now c.args.ops.now) (memory_in [] c.args.numbers.now c.args.doubles.now [] []) c.loop-i.i) ≡ c.is_whole.result
tested c = sym (c.is_whole.ensures ∙ ap is_whole c.row_multiplier-r.ensures)

pub loop-i-init : goal.loop-i-init
unfolding first_multiplier
loop-i-init c = seeks _ _

pub returns-then-not-is_whole : goal.returns-then-not-is_whole
returns-then-not-is_whole c = hit c.loop-i.invariant c.loop-i-test.true (ap not (tested (goal.at.returns-then-not-is_whole c).After-is_whole ∙ c.if-not-is_whole.true))

pub loop-i-preserved : goal.loop-i-preserved
loop-i-preserved c = passed c.loop-i.invariant c.loop-i-test.true (ap not (tested (goal.at.loop-i-preserved c).After-is_whole ∙ c.if-not-is_whole.false))

pub returns : goal.returns
returns c = sym (le_antisymm c.loop-i.auto.i-end c.loop-i-test.false) ∙ missed c.loop-i.invariant c.loop-i-test.false
