-- When a call gives 42, 43 and 44, in words. Assumes nothing.
use Rattle.std.specs.Prelude.{◌≡◌, true, false, ◌⊎◌, ℕ, ◌<◌, ◌≤◌, Float}
use Rattle.std.specs.Float.Ieee.{lt}
use Rattle.doubles.specs.Lists.{◌!◌, ◌#◌}
use Rattle.rules.specs.Plan.{Plan, Memory, flags_of}
use Rattle.rules.specs.Conditions.{NotFinite}

-- "column not below the plan's columns"
abbrev pub Unknown : Plan → ℕ → Type 0
Unknown p j = p.columns ≤ j

-- "value not finite, below lower or above upper"
abbrev pub Outside : Plan → ℕ → Float → Type 0
Outside p j value = NotFinite value ⊎ ((lt value (p.lowers ! j) ≡ true) ⊎ (lt (p.uppers ! j) value ≡ true))

-- "the column is basic or not marked fixed"
abbrev pub Loose : Plan → Memory → ℕ → Type 0
Loose p m j =
    let c = m.ws.var_states # j in
    (p.columns ≤ c) ⊎ ((c < p.columns) × ((flags_of (m.ws.flags # c)).«fixed» ≡ false))
