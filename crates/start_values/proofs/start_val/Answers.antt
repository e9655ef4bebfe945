-- `start_values::start_val`: by its tests. Assumes nothing.
use mathlib.Core.Path.{sym, ◌∙◌}
use Rattle.rules.specs.Start.{start_val}
use Rattle.start_values.proofs.start_val.Goals as goal

pub returns-then-lower-upper : goal.returns-then-lower-upper
unfolding start_val
returns-then-lower-upper c = rw (c.if-lower-upper.true, start_val)

pub returns-then-is_free : goal.returns-then-is_free
unfolding start_val
returns-then-is_free c = rw (c.if-lower-upper.false, sym c.is_free.ensures ∙ c.if-is_free.true, start_val)

pub returns-then-cost : goal.returns-then-cost
unfolding start_val
returns-then-cost c = rw (c.if-lower-upper.false, sym c.is_free.ensures ∙ c.if-is_free.false, c.if-cost.true, start_val) c.upper_first.ensures

pub returns : goal.returns
unfolding start_val
returns c = rw (c.if-lower-upper.false, sym c.is_free.ensures ∙ c.if-is_free.false, c.if-cost.false, start_val) c.lower_first.ensures
