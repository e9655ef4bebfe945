-- `start_values::upper_first`: by its test. Assumes nothing.
use mathlib.Core.Path.{sym, ◌∙◌}
use Rattle.doubles.specs.Num.{finite}
use Rattle.start_values.proofs.upper_first.Goals as goal

pub returns-then-is_finite : goal.returns-then-is_finite
unfolding finite
returns-then-is_finite c = rw (sym c.is_finite.ensures ∙ c.if-is_finite.true)

pub returns : goal.returns
unfolding finite
returns c = rw (sym c.is_finite.ensures ∙ c.if-is_finite.false)
