-- `step_ratio::takes` meets its contract: by its tests. Assumes nothing.
use Rattle.step_ratio.proofs.Passes.{taken_open, taken_by, taken_small}
use Rattle.step_ratio.proofs.takes.Goals as goal

pub returns-in_default : goal.returns-in_default
returns-in_default c = taken_open _ _ _ _ _ _ _ c.room_ahead.ensures c.in_default.is

pub returns-then-best-size : goal.returns-then-best-size
returns-then-best-size c = taken_by _ _ _ _ _ _ _ c.room_ahead.ensures c.in-Some.is c.abs-size.ensures c.if-best-size.true

pub returns : goal.returns
returns c = taken_small _ _ _ _ _ _ _ c.abs-size.ensures c.if-best-size.false
