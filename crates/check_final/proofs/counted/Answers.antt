-- `check_final::counted`: by its test. Assumes nothing.
use mathlib.Core.Path.{sym, ◌∙◌}
use Rattle.rules.specs.FinalCheck.{counted}
use Rattle.check_final.proofs.counted.Goals as goal

pub returns-then-is_nan : goal.returns-then-is_nan
unfolding counted
returns-then-is_nan c = rw (sym c.is_nan.ensures ∙ c.if-is_nan.true, counted) c.infinity.ensures

pub returns : goal.returns
unfolding counted
returns c = rw (sym c.is_nan.ensures ∙ c.if-is_nan.false, counted)
