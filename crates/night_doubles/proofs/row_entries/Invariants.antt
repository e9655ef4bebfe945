-- Those of the columns passed are counted. Assumes nothing.
use Rattle.std.proofs.Common.{◌≡◌}
use Rattle.sheet_rules.specs.Sum.{◌‼◌}
use Rattle.night_rules.specs.Doubles.{nonzeros}
use Rattle.night_doubles.proofs.row_entries.Given as goal

abbrev pub invariant-loop-z : goal.invariant-loop-z
invariant-loop-z l = l.k ≡ nonzeros (λ i. l.row ‼ i) l.z-index
