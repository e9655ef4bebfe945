-- `sheet_open::write_activities` meets its contract. Assumes nothing.
use mathlib.Core.Path.{◌∙◌}
use native.Mathlib.Omega.{arith}
use Rattle.doubles.proofs.Loops.{filled_none, filled_more}
use Rattle.sheet_terms.proofs.Machine.{result}
use Rattle.sheet_open.proofs.Laws.{row_is}
use Rattle.sheet_open.proofs.write_activities.Goals as goal

pub loop-i-init : goal.loop-i-init
loop-i-init c = filled_none

pub loop-i-preserved : goal.loop-i-preserved
loop-i-preserved c =
    let own = row_is c.args.coefs.now c.args.amounts.now c.loop-i.i c.args.rows c.args.columns c.loop-i-test.true c.requires.0 c.requires.1 c.requires.2 in
    filled_more c.loop-i.invariant (omega arith) (result c.activity.result c.activity.type_inv ∙ c.activity.ensures ∙ own)
