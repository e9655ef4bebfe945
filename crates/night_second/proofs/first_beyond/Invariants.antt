-- No column before is the first. Assumes nothing.
use mathlib.Core.Bool.{not}
use mathlib.Core.List.{[]}
use Rattle.doubles.specs.Limits.{max_coefficient}
use Rattle.doubles.proofs.Loops.{Seek}
use Rattle.sheet_rules.specs.Sum.{◌‼◌}
use Rattle.sheet_rules.specs.Opening.{within}
use Rattle.night_rules.specs.Night.{first_beyond}
use Rattle.night_second.specs.Costed.{costed}
use Rattle.night_second.proofs.first_beyond.Given as goal

abbrev pub invariant-loop-j : goal.invariant-loop-j
invariant-loop-j l = Seek (λ k. not (within max_coefficient (l.costs ‼ k))) l.columns (first_beyond (costed 0 l.columns [] l.costs)) l.j
