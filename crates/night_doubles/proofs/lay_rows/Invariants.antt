-- The rows passed stand one behind the other. Assumes nothing.
use Rattle.std.proofs.Common.{◌≡◌}
use Rattle.doubles.proofs.Loops.{Filled}
use Rattle.night_rules.specs.Doubles.{start_at, entries_to}
use Rattle.night_doubles.specs.Laid.{cells_of, Laid}
use Rattle.night_doubles.proofs.lay_rows.Given as goal

abbrev pub invariant-loop-i : goal.invariant-loop-i
invariant-loop-i l =
    let p = cells_of l.rows l.columns l.coefs in
    (l.at ≡ start_at p l.i) × Filled (start_at p) l.fn.starts l.i l.starts × Laid (entries_to p l.i) l.at l.cols l.coeffs
