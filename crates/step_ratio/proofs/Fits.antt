-- A state that fits its problem has what the ratio asks. Assumes nothing.
use Prim.Native.Nat.{◌<◌}
use native.Mathlib.Omega.{arith}
use Rattle.sparse.specs.Scattered.{Sv}
use Rattle.rules.specs.Plan.{Problem, State, n_of, m_of}
use Rattle.rules.specs.Invariant.{ProblemFits, Fits, Vector}
use Rattle.rules.specs.declared.Entering.{Entering}
use Rattle.cells.proofs.Parts.{bounds_of}
use Rattle.step_choose.proofs.Fits.{sides}
use Rattle.step_ratio.specs.Lent.{Stepping}

module _ {P : Problem} {s : State} (f : ProblemFits P) (g : Fits P s) where
  pub stepping : {e : Entering} {c : Sv} → e.col < n_of P → Vector (m_of P) c → Stepping (bounds_of P) s.ws e c.pat.list c.pat.count
  stepping l v =
      record {
        sides = sides f;
        rows = record { basic_vars_long = g.lengths.basic_vars_long; basic_var_vals_long = g.lengths.basic_var_vals_long; row = λ r h. (g.maps.row r h).var };
        listing = record { rows_fit = omega (arith, f.few, f.plan.rows_most); count_fits = v.good.wf.within; rows_listed = record { inside = v.places_below.below } };
        columns = record { nb_vars_long = g.lengths.nb_vars_long; prices_long = g.lengths.prices_long; place = λ c h. (g.maps.place c h).var };
        vals_long = g.lengths.nb_var_vals_long;
        col_inside = l;
      }
