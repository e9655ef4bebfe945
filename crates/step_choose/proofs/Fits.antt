-- A state that fits its problem has what the choice of the entering column asks. Assumes nothing.
use Rattle.rules.specs.Plan.{Problem, State}
use Rattle.rules.specs.Invariant.{ProblemFits, Fits}
use Rattle.cells.specs.Bounds.{Sides}
use Rattle.cells.proofs.Parts.{bounds_of}
use Rattle.cells.proofs.Fits as Bounds
use Rattle.step_choose.specs.Lent.{Choosing}

module _ {P : Problem} (f : ProblemFits P) where
  pub sides : Sides (bounds_of P)
  sides = let b = Bounds.sides f in record { lower = b.lower; upper = b.upper }

  pub choosing : {s : State} → Fits P s → Choosing (bounds_of P) s.ws
  choosing g =
      record {
        sides = sides;
        columns = record { nb_vars_long = g.lengths.nb_vars_long; prices_long = g.lengths.prices_long; place = λ c l. (g.maps.place c l).var };
        vals_long = g.lengths.nb_var_vals_long;
        norms_long = g.lengths.norms_long;
        flags_long = g.lengths.flags_long;
      }
