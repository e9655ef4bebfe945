-- `check_final::value_excess`: by its test. Assumes nothing.
use mathlib.Core.Path.{sym, ◌∙◌}
use Rattle.rules.specs.Plan.{var_min, var_max}
use Rattle.rules.specs.FinalCheck.{value_excess}
use Rattle.check_final.proofs.value_excess.Goals as goal

pub returns-then-is_finite : goal.returns-then-is_finite
unfolding value_excess var_min var_max
returns-then-is_finite c =
    rw (sym c.is_finite.ensures ∙ c.if-is_finite.true, c.larger.ensures, c.beyond-then-is_finite.ensures, c.beyond.ensures, c.var_max-max.ensures, c.var_min-min.ensures, value_excess)

pub returns : goal.returns
unfolding value_excess
returns c = rw (sym c.is_finite.ensures ∙ c.if-is_finite.false, value_excess) c.infinity.ensures
