-- `step_ratio::leaving_row` meets its contract: both passes. Assumes nothing.
use mathlib.Core.Path.{◌∙◌}
use Rattle.step_ratio.proofs.Answers.{leaving_23, leaving_at}
use Rattle.step_ratio.proofs.leaving_row.Goals as goal

pub returns-in_err-step : goal.returns-in_err-step
returns-in_err-step c = λ m. c.from_residual.ensures ∙ leaving_23 _ _ _ _ _ (c.pass_one.ensures m) c.in_err-step.was

pub returns : goal.returns
returns c = λ m. leaving_at _ _ _ _ _ (c.pass_one.ensures m) c.in_ok-step.was (c.pass_two.ensures m)
