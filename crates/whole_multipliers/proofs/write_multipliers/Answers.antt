-- `whole_multipliers::write_multipliers` meets its contract. Assumes nothing.
use Rattle.std.proofs.Common.{ap, ◌∙◌}
use native.Mathlib.Omega.{arith}
use Rattle.doubles.proofs.Loops.{filled_none, filled_more, filled_done}
use Rattle.sheet_terms.proofs.Machine.{result}
use Rattle.whole_round.specs.Whole.{number_of}
use Rattle.whole_multipliers.specs.Rows.{multipliers}
use Rattle.whole_multipliers.proofs.write_multipliers.Goals as goal

pub loop-i-init : goal.loop-i-init
loop-i-init c = filled_none

pub loop-i-preserved : goal.loop-i-preserved
loop-i-preserved c = filled_more c.loop-i.invariant (omega (arith, c.loop-i-test.true, c.requires.1)) (result c.number_of.result c.number_of.type_inv ∙ c.number_of.ensures ∙ ap number_of c.row_multiplier-r.ensures)

pub returns : goal.returns
unfolding multipliers
returns c = filled_done _ c.loop-i.auto.i-end c.loop-i-test.false c.loop-i.invariant
