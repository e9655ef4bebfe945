-- `check_final::final_check`: by its two tests. Assumes nothing.
use Rattle.check_final.proofs.Laws.{accepts, rejects_value, rejects_row}
use Rattle.check_final.proofs.Fits.{measured}
use Rattle.check_final.proofs.final_check.Goals as goal

pub worst-w-requires : goal.worst-w-requires
worst-w-requires c = measured _ c.requires

pub returns-then-excess-tolerance : goal.returns-then-excess-tolerance
returns-then-excess-tolerance c = accepts _ _ _ c.worst-w.ensures c.if-excess-tolerance.true

pub returns-then-at-count : goal.returns-then-at-count
returns-then-at-count c = rejects_value _ _ _ c.worst-w.ensures c.if-excess-tolerance.false c.if-at-count.true

pub returns : goal.returns
returns c = rejects_row _ _ _ c.worst-w.ensures c.if-excess-tolerance.false c.if-at-count.false
