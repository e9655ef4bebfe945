-- A mark changes one flags cell alone, so a sound state stays sound. Assumes nothing.
use mathlib.Core.Path.{◌≡◌}
use Prim.Native.Nat.{ℕ}
use lib.ListN.{length-set}
use Rattle.rules.specs.Plan.{Problem, State}
use Rattle.rules.specs.Invariant.{Fits, Numbers, Sound}
use Rattle.fix_rules.specs.Fix.{with_flags, marked, unmarked}

module _ (P : Problem) (s : State) (c x : ℕ) where
  flags_fits : Fits P s → Fits P (with_flags s c x)
  flags_fits f =
      let g = f.lengths in
      let m = f.maps in
      record {
        lengths = record {
          basic_vars_long = g.basic_vars_long;
          basic_var_vals_long = g.basic_var_vals_long;
          nb_vars_long = g.nb_vars_long;
          nb_var_vals_long = g.nb_var_vals_long;
          prices_long = g.prices_long;
          norms_long = g.norms_long;
          dual_norms_long = g.dual_norms_long;
          flags_long = simp length-set g.flags_long;
          var_states_long = g.var_states_long;
          leaving_long = g.leaving_long;
          starts_long = g.starts_long;
          rows_long = g.rows_long;
          coeffs_long = g.coeffs_long;
        };
        maps = record {
          place = λ k i. let y = m.place k i in record { var = y.var; back = y.back };
          row = λ r i. let y = m.row r i in record { var = y.var; back = y.back };
          variable = λ v i. let y = m.variable v i in record { cell = y.cell; non_basic = y.non_basic; basic = y.basic };
        };
        store = f.store;
        factor = f.factor;
        factorings = f.factorings;
      }

  flags_numbers : Numbers P s → Numbers P (with_flags s c x)
  flags_numbers g =
      record {
        objective = g.objective;
        basic_val = g.basic_val;
        nb_val = g.nb_val;
        price = g.price;
        norm = g.norm;
        dual_norm = g.dual_norm;
        eta = g.eta;
        factor = g.factor;
      }

  flags_sound : Sound P s → Sound P (with_flags s c x)
  flags_sound g = record { fits = flags_fits g.fits; numbers = flags_numbers g.numbers }

pub marked_fits : (P : Problem) (s : State) (c : ℕ) → Fits P s → Fits P (marked s c)
unfolding marked
marked_fits P s c f = flags_fits P s c _ f

pub unmarked_fits : (P : Problem) (s : State) (c : ℕ) → Fits P s → Fits P (unmarked P s c)
unfolding unmarked
unmarked_fits P s c f = flags_fits P s c _ f

pub marked_sound : (P : Problem) (s : State) (c : ℕ) → Sound P s → Sound P (marked s c)
unfolding marked
marked_sound P s c g = flags_sound P s c _ g

pub unmarked_sound : (P : Problem) (s : State) (c : ℕ) → Sound P s → Sound P (unmarked P s c)
unfolding unmarked
unmarked_sound P s c g = flags_sound P s c _ g
