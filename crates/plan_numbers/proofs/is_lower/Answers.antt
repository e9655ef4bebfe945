-- `plan_numbers::is_lower` meets its contract. Assumes nothing.
use mathlib.Core.Path.{refl}
use lib.Ieee.{neg}
use Rattle.plan_numbers.proofs.is_lower.Goals as goal

pub returns : goal.returns
unfolding neg
returns c = rw (c.infinity.ensures, c.is_number.ensures) refl
