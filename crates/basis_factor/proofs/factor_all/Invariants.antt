-- The factor so far is sound, and what is left of the columns gives the whole's answer. Assumes nothing.
use Rattle.std.proofs.Common.{◌-◌}
use Rattle.doubles.proofs.Loops.{Until}
use Rattle.lu_factor_rules.specs.Factor.{factored, factor_turn, factor_part}
use Rattle.lu_factor_rules.specs.Counted.{partial_of, parts_of}
use Rattle.lu_factor_rules.specs.Sound.{Sound}
use Rattle.basis_factor.specs.Basis.{columns_of}
use Rattle.basis_factor.proofs.factor_all.Given as goal

abbrev pub invariant-loop-i : goal.invariant-loop-i
invariant-loop-i l =
    let columns = columns_of l.col_starts l.col_rows l.col_coeffs l.n l.basis in
    let so-far = partial_of l.i l.order l.number l.lstarts l.ustarts l.diag (parts_of l.lrows l.lvals l.urows l.uvals l.counts) in
    Sound l.m so-far × Until (factor_turn l.m columns) factored (factor_part l.m columns) (l.m - l.i) so-far
