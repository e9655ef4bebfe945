-- `check_final::beyond`: by its test. Assumes nothing.
use mathlib.Core.Path.{sym, ◌∙◌}
use Rattle.rules.specs.FinalCheck.{beyond}
use Rattle.check_final.proofs.beyond.Goals as goal

pub returns-then-is_finite : goal.returns-then-is_finite
unfolding beyond
returns-then-is_finite c = rw (sym c.is_finite.ensures ∙ c.if-is_finite.true, beyond) c.counted.ensures

pub returns : goal.returns
unfolding beyond
returns c = rw (sym c.is_finite.ensures ∙ c.if-is_finite.false, beyond)
