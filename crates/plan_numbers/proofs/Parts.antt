-- The definition of refusal 2 reads only what it names: the part that is lent gives what the whole plan gives. Assumes nothing.
use mathlib.Core.Path.{◌≡◌, refl}
use Rattle.rules.specs.Plan.{Plan}
use Rattle.rules.specs.Refusals.{passes2}
use Rattle.plan_numbers.specs.Lent.{numbers_of}

pub numbers_part : (p : Plan) → passes2 p ≡ passes2 (numbers_of p.columns p.rows p.entries p.tolerance p.costs p.lowers p.uppers p.coeffs p.ops p.rhs)
unfolding passes2
numbers_part p = refl
