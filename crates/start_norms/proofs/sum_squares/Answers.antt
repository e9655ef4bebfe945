-- `start_norms::sum_squares` meets its contract. Assumes nothing.
use mathlib.Core.Path.{refl, ◌∙◌}
use Rattle.doubles.specs.Loop.{run}
use Rattle.doubles.proofs.Loops.{next, done}
use Rattle.start_norms.specs.Squares.{squares}
use Rattle.start_norms.proofs.sum_squares.Goals as goal

pub loop-i-init : goal.loop-i-init
unfolding run
loop-i-init c = refl

pub loop-i-preserved : goal.loop-i-preserved
loop-i-preserved c =
    next _ _ c.loop-i.i-index c.loop-i.invariant (c.add_squares.ensures ∙ rw (c.row_cols-row_cols.ensures, c.row_coeffs-row_coeffs.ensures) refl)

pub returns : goal.returns
unfolding squares
returns c = done _ _ _ _ c.loop-i.auto.i-index-end c.loop-i-test.false c.loop-i.invariant
