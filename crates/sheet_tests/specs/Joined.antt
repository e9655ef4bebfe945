-- Numbers looked at together. Assumes nothing.
use Rattle.std.specs.Prelude.{List, ℕ, ℤ}
use Rattle.std.specs.Int.Bits.{bit_or}
use Rattle.std.specs.Int.Signed.{mag}
use Rattle.doubles.specs.Loop.{run}
use Rattle.sheet_rules.specs.Sum.{◌‼◌}

-- the first n numbers' sizes, one less below 0, or-ed together
unfoldable pub joined : ℕ → List ℤ → ℕ
joined n l = run (λ k b. bit_or b (mag (l ‼ k))) n 0
