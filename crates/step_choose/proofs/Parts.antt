-- The choice reads only what is lent to it: a problem and a workspace may stand for their parts. Assumes nothing.
use mathlib.Core.Path.{◌≡◌, refl}
use Rattle.rules.specs.Plan.{Problem, Workspace, var_min, var_max}
use Rattle.rules.specs.Choose.{better_turn, best_column, other_val, entering_of, choose}
use Rattle.cells.proofs.Parts.{bounds_of}
use Rattle.step_choose.specs.Lent.{non_basic_of}

abbrev pub choosing_of : Workspace → Workspace
choosing_of w = non_basic_of w.nb_vars w.nb_var_vals w.prices w.norms w.flags

pub choose_part : (P : Problem) (w : Workspace) → choose P w ≡ choose (bounds_of P) (choosing_of w)
unfolding choose entering_of other_val best_column better_turn var_min var_max
choose_part P w = refl
