-- 02: "Refuse under 2, before solving, every finite cost, coefficient, right side or bound whose size is above 1e12.
-- Infinite bounds stay allowed. 1e12 itself is accepted": what the tests behind 2 let through, in exact numbers. Assumes
-- nothing.
use mathlib.Core.Path.{◌≡◌}
use mathlib.Core.Bool.{true, false}
use mathlib.Core.Logic.{◌↔◌, ◌⊎◌}
use Prim.Native.Nat.{◌^◌}
use native.Mathlib.Omega.{arith}
use lib.Ieee.{Float}
use Rattle.doubles.specs.Num.{+inf, -inf}
use Rattle.doubles.specs.Words.{Within}
use Rattle.doubles.proofs.Bools.{◌either◌}
use Rattle.doubles.proofs.Floats.{equals_inf}
use Rattle.doubles.proofs.Bounds.{weaker, max_exactly}
use Rattle.rules.specs.Refusals.{is_number, is_lower, is_upper}

pub number_exactly : (x : Float) → (is_number x ≡ true) ↔ Within (10 ^ 12) x
number_exactly x = max_exactly x

pub lower_exactly : (x : Float) → (is_lower x ≡ true) ↔ ((x ≡ -inf) ⊎ Within (10 ^ 12) x)
lower_exactly x = equals_inf true x either number_exactly x

pub upper_exactly : (x : Float) → (is_upper x ≡ true) ↔ ((x ≡ +inf) ⊎ Within (10 ^ 12) x)
upper_exactly x = equals_inf false x either number_exactly x

-- 1e12 < 2 ^ 40
pub number_within : (x : Float) → is_number x ≡ true → Within (2 ^ 40) x
number_within x h = weaker (omega arith) ((number_exactly x).0 h)
