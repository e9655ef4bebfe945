-- `lu_solve::mark_listed` meets its contract. Assumes nothing.
use Rattle.std.proofs.Common.{refl}
use Rattle.doubles.specs.Loop.{run}
use Rattle.doubles.proofs.Loops.{next}
use Rattle.lu_solve.specs.Solve.{given}
use Rattle.doubles.proofs.Items.{item, done_items}
use Rattle.lu_solve.proofs.mark_listed.Goals as goal

pub loop-i-init : goal.loop-i-init
unfolding run
loop-i-init c = c.requires.marks_value

pub loop-i-preserved : goal.loop-i-preserved
loop-i-preserved c =
    rw (item c.args.listed c.args.list.now c.requires.listed_in_bounds.0 c.loop-i-test.true 0)
    (next _ _ c.loop-i.i-index c.loop-i.invariant refl)

pub returns : goal.returns
unfolding given
returns c =
    done_items _ c.args.list.now _ _ c.loop-i.i-index c.requires.listed_in_bounds.0 c.loop-i.auto.i-index-end
    c.loop-i-test.false c.loop-i.invariant
