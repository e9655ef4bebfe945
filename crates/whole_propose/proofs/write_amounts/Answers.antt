-- `whole_propose::write_amounts` meets its contract. Assumes nothing.
use Rattle.std.proofs.Common.{ap, ◌∙◌}
use native.Mathlib.Omega.{arith}
use Rattle.doubles.proofs.Loops.{filled_none, filled_more, filled_done}
use Rattle.sheet_terms.proofs.Machine.{result}
use Rattle.whole_round.specs.Whole.{number_of}
use Rattle.whole_propose.specs.Propose.{amounts_of}
use Rattle.whole_propose.proofs.write_amounts.Goals as goal

pub loop-j-init : goal.loop-j-init
loop-j-init c = filled_none

pub loop-j-preserved : goal.loop-j-preserved
loop-j-preserved c = filled_more c.loop-j.invariant (omega (arith, c.loop-j-test.true, c.requires.1)) (result c.number_of.result c.number_of.type_inv ∙ c.number_of.ensures ∙ ap number_of c.amount.ensures)

pub returns : goal.returns
unfolding amounts_of
returns c = filled_done _ c.loop-j.auto.j-end c.loop-j-test.false c.loop-j.invariant
