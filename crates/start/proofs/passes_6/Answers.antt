-- `start::passes_6` meets its contract: each call gives its part of the definition. Assumes nothing.
use Rattle.start.specs.Reckoned.{all_finite}
use Rattle.start.proofs.passes_6.Goals as goal

pub returns : goal.returns
unfolding all_finite
returns c = rw (c.all_finite.ensures, c.all_finite-2.ensures, c.is_finite.ensures, c.all_finite-3.ensures)
