-- `start_values::start_dual`: by its tests. Assumes nothing.
use mathlib.Core.Path.{sym, ◌∙◌}
use Rattle.rules.specs.Start.{start_dual}
use Rattle.start_values.proofs.start_dual.Goals as goal

pub returns-then-lower-upper : goal.returns-then-lower-upper
unfolding start_dual
returns-then-lower-upper c = rw (c.if-lower-upper.true, start_dual)

pub returns-then-is_free : goal.returns-then-is_free
unfolding start_dual
returns-then-is_free c = rw (c.if-lower-upper.false, sym c.is_free.ensures ∙ c.if-is_free.true, start_dual)

pub returns-then-cost : goal.returns-then-cost
unfolding start_dual
returns-then-cost c = rw (c.if-lower-upper.false, sym c.is_free.ensures ∙ c.if-is_free.false, c.if-cost.true, start_dual) c.is_finite.ensures

pub returns-then-cost-2 : goal.returns-then-cost-2
unfolding start_dual
returns-then-cost-2 c =
    rw (c.if-lower-upper.false, sym c.is_free.ensures ∙ c.if-is_free.false, c.if-cost.false, c.if-cost-2.true, start_dual) c.is_finite-then-cost-2.ensures

pub returns : goal.returns
unfolding start_dual
returns c = rw (c.if-lower-upper.false, sym c.is_free.ensures ∙ c.if-is_free.false, c.if-cost.false, c.if-cost-2.false, start_dual)
