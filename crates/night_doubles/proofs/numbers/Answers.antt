-- `night_doubles::numbers` meets its contract. Assumes nothing.
use Rattle.std.proofs.Common.{ap, ◌∙◌, arith}
use Rattle.doubles.proofs.Loops.{filled_none, filled_more, filled_done}
use Rattle.sheet_rules.specs.Sum.{◌‼◌}
use Rattle.sheet_terms.proofs.Machine.{result}
use Rattle.night_rules.specs.Doubles.{as_double}
use Rattle.night_doubles.proofs.numbers.Goals as goal

pub loop-j-init : goal.loop-j-init
loop-j-init c = filled_none

pub loop-j-preserved : goal.loop-j-preserved
loop-j-preserved c = filled_more c.loop-j.invariant (omega (arith, c.loop-j-test.true, c.requires)) (c.nearest_i64_to_f64.ensures ∙ ap as_double (result (c.args.xs.now ‼ c.loop-j.j) search))

pub returns : goal.returns
returns c = filled_done _ c.loop-j.auto.j-end c.loop-j-test.false c.loop-j.invariant
