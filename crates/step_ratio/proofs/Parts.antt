-- The ratio reads only what is lent to it: a problem and a workspace may stand for their parts. Assumes nothing.
use mathlib.Core.Path.{◌≡◌, refl}
use mathlib.Core.List.{List, []}
use mathlib.Core.Bool.{Bool}
use Prim.Native.Nat.{ℕ}
use lib.Ieee.{Float}
use Rattle.sparse.specs.Scattered.{Sv}
use Rattle.rules.specs.Plan.{Problem, Workspace, var_min, var_max}
use Rattle.rules.specs.Parts.{workspace_of, no_etas}
use Rattle.rules.specs.Choose.{other_val}
use Rattle.rules.specs.Ratio.{ahead, limit, examined, relaxed, step_to, sound_ratios, pass_one, candidate, pass_two_turn, pass_two, flip_of, exchange_of, pivot_of, sound_distance, ratio}
use Rattle.rules.specs.declared.Entering.{Entering}
use Rattle.cells.proofs.Parts.{bounds_of}
use Rattle.step_ratio.specs.Lent.{basic_of, Passing, Stepping}
use Rattle.step_ratio.specs.Parts.{leaving_by, pivot_by}

abbrev pub stepping_of : Workspace → Workspace
stepping_of w = workspace_of w.basic_vars w.basic_var_vals w.nb_vars w.nb_var_vals w.prices [] [] [] [] no_etas

pub ratio_part : (P : Problem) (w : Workspace) (e : Entering) (c : Sv) → ratio P w e c ≡ ratio (bounds_of P) (stepping_of w) e c
unfolding ratio sound_distance pivot_of flip_of exchange_of other_val sound_ratios pass_one pass_two pass_two_turn candidate examined relaxed step_to limit ahead var_min var_max
ratio_part P w e c = refl

-- inside the ratio
pub leaving_part_holds : (P : Problem) (w : Workspace) (up : Bool) (c : Sv) (distance : Float)
    → leaving_by P (basic_of w.basic_vars w.basic_var_vals) up c distance ≡ leaving_by P w up c distance
unfolding leaving_by sound_ratios pass_one pass_two pass_two_turn candidate examined relaxed step_to limit ahead
leaving_part_holds P w up c distance = refl

pub pivot_part : (P : Problem) (w : Workspace) (e : Entering) (c : Sv) (other : Float) (at : ℕ)
    → pivot_by P (workspace_of w.basic_vars w.basic_var_vals [] w.nb_var_vals [] [] [] [] [] no_etas) e c other at ≡ pivot_by P w e c other at
unfolding pivot_by exchange_of ahead
pivot_part P w e c other at = refl

pub passing : {P : Problem} {w : Workspace} {e : Entering} {list : List ℕ} {count : ℕ} → Stepping P w e list count → Passing P (basic_of w.basic_vars w.basic_var_vals) list count
passing s =
    record {
      sides = s.sides;
      rows = record { basic_vars_long = s.rows.basic_vars_long; basic_var_vals_long = s.rows.basic_var_vals_long; row = s.rows.row };
      listing = s.listing;
    }
