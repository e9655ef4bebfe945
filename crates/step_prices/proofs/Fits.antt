-- A state that fits its problem has what the ratio on prices asks, for a row vector in order. Assumes nothing.
use Prim.Native.Nat.{◌<◌}
use native.Mathlib.Omega.{arith}
use Rattle.sparse.specs.Scattered.{Sv}
use Rattle.rules.specs.Plan.{Problem, State, n_of, m_of}
use Rattle.rules.specs.Invariant.{ProblemFits, Fits, Vector}
use Rattle.rules.specs.declared.LeavingVar.{LeavingVar}
use Rattle.step_prices.specs.Lent.{Pricing}

module _ {P : Problem} {s : State} (f : ProblemFits P) (g : Fits P s) where
  pub pricing : {l : LeavingVar} {r : Sv} → l.row < m_of P → Vector (n_of P) r → Pricing s.ws l r.pat.list r.pat.count
  pricing l v =
      record {
        passing =
            record {
              count_fits = v.good.wf.within;
              column = λ k h.
                  let b = v.places_below.below k h in
                  record { inside = omega (arith, b, f.plan.columns_most); priced = omega (arith, b, g.lengths.prices_long); flagged = omega (arith, b, g.lengths.flags_long) };
            };
        valued = λ k h. omega (arith, v.places_below.below k h, g.lengths.nb_var_vals_long);
        row_inside = omega (arith, l, g.lengths.basic_var_vals_long);
      }
