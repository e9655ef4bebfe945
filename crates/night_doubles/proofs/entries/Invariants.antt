-- Those of the rows passed are counted. Assumes nothing.
use Rattle.std.proofs.Common.{◌≡◌}
use Rattle.night_rules.specs.Doubles.{start_at}
use Rattle.night_doubles.specs.Laid.{cells_of}
use Rattle.night_doubles.proofs.entries.Given as goal

abbrev pub invariant-loop-i : goal.invariant-loop-i
invariant-loop-i l = l.k ≡ start_at (cells_of l.rows l.columns l.coefs) l.i
