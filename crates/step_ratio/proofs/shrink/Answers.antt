-- `step_ratio::shrink` meets its contract: by its tests. Assumes nothing.
use mathlib.Core.Path.{sym, ◌∙◌}
use Rattle.step_ratio.proofs.Passes.{shrunk_open, shrunk_less, shrunk_kept, shrunk_23}
use Rattle.step_ratio.proofs.shrink.Goals as goal

pub returns-in_default : goal.returns-in_default
returns-in_default c = shrunk_open _ _ _ _ _ _ c.room_ahead.ensures c.in_default.is

pub returns-then-quotient-step : goal.returns-then-quotient-step
returns-then-quotient-step c =
    shrunk_less _ _ _ _ _ _ c.room_ahead.ensures c.in-Some.is c.abs.ensures (sym c.is_finite.ensures ∙ c.if-is_finite.true) c.if-quotient-step.true

pub returns-then-is_finite : goal.returns-then-is_finite
returns-then-is_finite c =
    shrunk_kept _ _ _ _ _ _ c.room_ahead.ensures c.in-Some.is c.abs.ensures (sym c.is_finite.ensures ∙ c.if-is_finite.true) c.if-quotient-step.false

pub returns : goal.returns
returns c =
    shrunk_23 _ _ _ _ _ _ c.room_ahead.ensures c.in-Some.is c.abs.ensures (sym c.is_finite.ensures ∙ c.if-is_finite.false)
