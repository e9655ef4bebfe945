-- A state that fits its problem has what the choice of the leaving row asks. Assumes nothing.
use Rattle.rules.specs.Plan.{Problem, State}
use Rattle.rules.specs.Invariant.{ProblemFits, Fits}
use Rattle.cells.proofs.Parts.{bounds_of}
use Rattle.cells.proofs.Fits as Bounds
use Rattle.step_leaving.specs.Lent.{Leaving}

module _ {P : Problem} (f : ProblemFits P) where
  pub leaving : {s : State} → Fits P s → Leaving (bounds_of P) s.ws
  leaving g =
      let b = Bounds.sides f in
      record {
        sides = record { lower = b.lower; upper = b.upper };
        basic_vars_long = g.lengths.basic_vars_long;
        basic_var_vals_long = g.lengths.basic_var_vals_long;
        dual_norms_long = g.lengths.dual_norms_long;
        row = λ r l. (g.maps.row r l).var;
      }
