-- The entries of the columns passed stand behind the others. Assumes nothing.
use Rattle.sheet_rules.specs.Sum.{◌‼◌}
use Rattle.night_doubles.specs.Laid.{RowLaid}
use Rattle.night_doubles.proofs.lay_row.Given as goal

abbrev pub invariant-loop-j : goal.invariant-loop-j
invariant-loop-j l = RowLaid (λ i. l.row ‼ i) l.at l.fn.cols l.fn.coeffs l.j l.k l.cols l.coeffs
