-- `plan_numbers::passes_2` meets its contract: each call gives its part of the definition. Assumes nothing.
use Rattle.rules.specs.Refusals.{passes2}
use Rattle.plan_numbers.proofs.passes_2.Goals as goal

pub returns : goal.returns
unfolding passes2
returns c =
    rw (c.all_numbers.ensures, c.all_lowers.ensures, c.all_uppers.ensures, c.all_numbers-2.ensures, c.all_ops.ensures, c.all_numbers-3.ensures, c.is_tolerance.ensures)
