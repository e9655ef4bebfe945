-- What the leaves ask of the sections that they are lent, from what is asked of the whole workspace. No contract cites this file. Assumes nothing.
use mathlib.Core.List.{List}
use Prim.Native.Nat.{ℕ}
use Rattle.rules.specs.Plan.{Problem, Workspace}
use Rattle.rules.specs.declared.Entering.{Entering}
use Rattle.step_choose.specs.Lent.{Choosing}
use Rattle.step_choose.proofs.Parts.{choosing_of}
use Rattle.step_ratio.specs.Lent.{Stepping}
use Rattle.step_ratio.proofs.Parts.{stepping_of}

pub choosing_part : {P : Problem} {w : Workspace} → Choosing P w → Choosing P (choosing_of w)
choosing_part c =
    record {
      sides = c.sides;
      columns = record { nb_vars_long = c.columns.nb_vars_long; prices_long = c.columns.prices_long; place = c.columns.place };
      vals_long = c.vals_long;
      norms_long = c.norms_long;
      flags_long = c.flags_long;
    }

pub stepping_part : {P : Problem} {w : Workspace} {e : Entering} {list : List ℕ} {count : ℕ} → Stepping P w e list count → Stepping P (stepping_of w) e list count
stepping_part s =
    record {
      sides = s.sides;
      rows = record { basic_vars_long = s.rows.basic_vars_long; basic_var_vals_long = s.rows.basic_var_vals_long; row = s.rows.row };
      listing = s.listing;
      columns = record { nb_vars_long = s.columns.nb_vars_long; prices_long = s.columns.prices_long; place = s.columns.place };
      vals_long = s.vals_long;
      col_inside = s.col_inside;
    }
