-- The choice reads only what is lent to it: a problem and a workspace may stand for their parts. Assumes nothing.
use mathlib.Core.Path.{◌≡◌, refl}
use Rattle.rules.specs.Plan.{Problem, Workspace, var_min, var_max}
use Rattle.rules.specs.DualRow.{better_row_turn, best_row, leaving_row_of, choose_row}
use Rattle.cells.proofs.Parts.{bounds_of}
use Rattle.step_leaving.specs.Lent.{rows_of, Leaving}

abbrev pub leaving_part : Workspace → Workspace
leaving_part w = rows_of w.basic_vars w.basic_var_vals w.dual_norms

pub choose_row_part : (P : Problem) (w : Workspace) → choose_row P w ≡ choose_row (bounds_of P) (leaving_part w)
unfolding choose_row leaving_row_of best_row better_row_turn var_min var_max
choose_row_part P w = refl

pub leaving_part_holds : {P : Problem} {w : Workspace} → Leaving P w → Leaving P (leaving_part w)
leaving_part_holds f =
    record { sides = f.sides; basic_vars_long = f.basic_vars_long; basic_var_vals_long = f.basic_var_vals_long; dual_norms_long = f.dual_norms_long; row = f.row }
