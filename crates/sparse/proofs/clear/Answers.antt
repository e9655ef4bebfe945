-- `sparse::clear` meets its contract. Assumes nothing.
use Rattle.std.proofs.Common.{refl, ap}
use native.Mathlib.Omega.{arith}
use Rattle.std.proofs.lemmas.Grind.{common_steps}
use Rattle.doubles.specs.Loop.{run}
use Rattle.doubles.proofs.Loops.{next}
use Rattle.doubles.proofs.Items.{item, done_items}
use Rattle.sparse.specs.Scattered.{Sv, sv, cleared}
use Rattle.sparse.proofs.Laws.{wf_listed}
use Rattle.sparse.proofs.clear.Goals as goal

abbrev emptied : Sv → Sv
emptied s = sv s.vals s.pat.marks s.pat.list 0

pub loop-i-init : goal.loop-i-init
unfolding run
loop-i-init c = refl

pub offset_bounds-values-i : goal.offset_bounds-values-i
offset_bounds-values-i c = grind (arith, common_steps, wf_listed _ c.requires.wf)

pub bounds-values-i : goal.bounds-values-i
bounds-values-i c = grind (arith, common_steps, wf_listed _ c.requires.wf)

pub bounds-marks-i : goal.bounds-marks-i
bounds-marks-i c = grind (arith, common_steps, wf_listed _ c.requires.wf)

pub loop-i-preserved : goal.loop-i-preserved
loop-i-preserved c =
    rw (item c.args.count c.args.list.now (omega arith) c.loop-i-test.true 0)
    (next _ _ c.loop-i.i-index c.loop-i.invariant refl)

pub returns : goal.returns
unfolding cleared
returns c =
    ap emptied (done_items _ c.args.list.now _ _ c.loop-i.i-index (omega arith) c.loop-i.auto.i-index-end
    c.loop-i-test.false c.loop-i.invariant)
