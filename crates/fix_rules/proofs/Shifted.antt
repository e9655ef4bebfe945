-- The own part of a fix of a non_basic column: where its numbers are finite a sound state stays sound. Assumes nothing.
use mathlib.Core.Path.{◌≡◌}
use mathlib.Core.Bool.{true}
use Prim.Native.Nat.{ℕ}
use lib.ListN.{set, length-set}
use lib.Ieee.{Float}
use Rattle.doubles.specs.Num.{finite}
use Rattle.doubles.proofs.Loops.{both_true}
use Rattle.sparse.specs.Scattered.{Sv, listed_finite}
use Rattle.rules.specs.Plan.{Problem, State}
use Rattle.rules.specs.Parts.{workspace_of, state_with}
use Rattle.rules.specs.Pivot.{stored, stores_finite, moved_val}
use Rattle.rules.specs.Invariant.{Fits, Sound}
use Rattle.rules.proofs.Keeps.{stored_long, stored_finite, set_finite}
use Rattle.fix_rules.specs.Fix.{fix_diff, fix_objective, fix_column, shift_finite_by, shifted_by, shift_finite, shifted}
use Rattle.fix_rules.proofs.Marks.{marked_fits, marked_sound}

module _ (P : Problem) (s : State) (c : ℕ) (column : Sv) (value : Float) where
  -- before the mark
  abbrev bare : State
  bare =
      let w = s.ws in
      state_with
      (workspace_of w.basic_vars (stored column (moved_val w column (fix_diff s c value)) w.basic_var_vals) w.nb_vars (set w.nb_var_vals c value) w.prices w.norms w.dual_norms w.flags w.var_states w.etas)
      s.eta_count (fix_objective s c value) s.steps s.factor

  bare_fits : Fits P s → Fits P bare
  bare_fits f =
      let l = f.lengths in
      let m = f.maps in
      record {
        lengths = record {
          basic_vars_long = l.basic_vars_long;
          basic_var_vals_long = simp stored_long l.basic_var_vals_long;
          nb_vars_long = l.nb_vars_long;
          nb_var_vals_long = simp length-set l.nb_var_vals_long;
          prices_long = l.prices_long;
          norms_long = l.norms_long;
          dual_norms_long = l.dual_norms_long;
          flags_long = l.flags_long;
          var_states_long = l.var_states_long;
          leaving_long = l.leaving_long;
          starts_long = l.starts_long;
          rows_long = l.rows_long;
          coeffs_long = l.coeffs_long;
        };
        maps = record {
          place = λ k i. let x = m.place k i in record { var = x.var; back = x.back };
          row = λ r i. let x = m.row r i in record { var = x.var; back = x.back };
          variable = λ v i.
              let x = m.variable v i in record { cell = x.cell; non_basic = x.non_basic; basic = x.basic };
        };
        store = f.store;
        factor = f.factor;
        factorings = f.factorings;
      }

  -- whatever the column is, and the numbers
  pub shifted_by_fits : Fits P s → Fits P (shifted_by s c column value)
  shifted_by_fits f = marked_fits P bare c (bare_fits f)

  pub shifted_by_sound : finite value ≡ true → Sound P s → shift_finite_by s c column value ≡ true → Sound P (shifted_by s c column value)
  shifted_by_sound v g o =
      let new = moved_val s.ws column (fix_diff s c value) in
      let a = both_true (stores_finite column new) _ o in
      let n = g.numbers in
      marked_sound P bare c
      (record {
        fits = bare_fits g.fits;
        numbers = record {
          objective = a.1;
          basic_val = λ r i. stored_finite column new s.ws.basic_var_vals a.0 r (n.basic_val r i);
          nb_val = λ k i. set_finite s.ws.nb_var_vals c value k v (n.nb_val k i);
          price = n.price;
          norm = n.norm;
          dual_norm = n.dual_norm;
          eta = n.eta;
          factor = n.factor;
        };
      })

module _ (P : Problem) (s : State) (c : ℕ) (value : Float) where
  pub shifted_fits : Fits P s → Fits P (shifted P s c value)
  unfolding shifted
  shifted_fits f = shifted_by_fits P s c (fix_column P s c value) value f

  pub shifted_sound : finite value ≡ true → Sound P s → shift_finite P s c value ≡ true → Sound P (shifted P s c value)
  unfolding shift_finite shifted
  shifted_sound v g o =
      let column = fix_column P s c value in
      shifted_by_sound P s c column value v g (both_true (listed_finite column) _ o).1
