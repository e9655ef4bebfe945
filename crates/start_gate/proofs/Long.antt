-- The arrays that `memory_long` asks for are long enough exactly when the two that hold them have their last sections
-- and the factor's two are long enough.
-- Assumes nothing.
use mathlib.Core.Path.{◌≡◌, refl, sym, ap, ◌∙◌}
use mathlib.Core.Bool.{Bool, true, false, ◌&&◌}
use mathlib.Core.List.{List}
use Prim.Native.Nat.{ℕ, ◌+◌, ◌<◌, ◌≤◌}
use native.Mathlib.Nat.{min-le_right}
use native.Mathlib.Omega.{arith}
use lib.Dec.{leb}
use lib.ListN.{length, drop, length-take, length-drop}
use lib.Ieee.{Float}
use borrow.Author.Tests.{leb-true, leb-false, le-leb, lt-leb}
use Rattle.doubles.specs.Limits.{max_columns, max_rows, vars, eta_columns, eta_entries, count_cells}
use Rattle.doubles.proofs.Loops.{both_true}
use Rattle.lu_factor_rules.specs.Packed.{all_factor_numbers, all_factor_coeffs}
use Rattle.rules.specs.Plan.{Plan, Memory}
use Rattle.rules.specs.Refusals.{store_is_long, workspace_long, memory_long}
use Rattle.state.specs.Packed.{section, basic_vars_at, nb_vars_at, var_states_at, flag_cells_at, eta_leaving_at, eta_starts_at, eta_rows_at, kept_at, counts_at, basic_var_vals_at, nb_var_vals_at, prices_at, norms_at, eta_coeffs_at, dual_norms_at, objective_at}
use Rattle.state.specs.Memory.{numbers_end, doubles_end, memory_in}
use Rattle.state.proofs.Sections.{section_length}

module _ {A : Type 0} (a k : ℕ) (xs : List A) where
  has : a + k ≤ length xs → (i : ℕ) → i ≤ k → leb i (length (section a k xs)) ≡ true
  has h i l = le-leb i _ (omega (arith, section_length a k xs h))

  lacks : 0 < k → length xs < a + k → leb k (length (section a k xs)) ≡ false
  lacks p h = lt-leb k _ (omega (arith, length-take k (drop a xs), min-le_right k (length (drop a xs)), length-drop a xs))

-- a test that passes says nothing, and one that fails decides
passed : (x : Bool) → (x && true && true && true && true) ≡ (x && true && true)
passed true = refl
passed false = refl

and_false : (x : Bool) → x && false ≡ false
and_false true = refl
and_false false = refl

failed_last : (x z : Bool) → (x && false) ≡ (z && false)
failed_last x z = and_false x ∙ sym (and_false z)

failed : (x z y c : Bool) → (x && false && y) ≡ (z && false && c)
failed x z y c = ap (λ (b : Bool). b && y) (and_false x) ∙ sym (ap (λ (b : Bool). b && c) (and_false z))

module _ (p : Plan) (v : List Float) (N : List ℕ) (D : List Float) (F : List ℕ) (G : List Float)
    (few : p.columns ≤ max_columns) (low : p.rows ≤ max_rows) where
  abbrev m : Memory
  m = memory_in v N D F G

  abbrev values : Bool
  values = leb (p.columns + p.rows) (length v)

  -- all that is asked before the counts
  abbrev others : Bool
  others = values && leb p.rows (length m.kept) && workspace_long p.columns p.rows m.ws

  -- all but the factor's arrays
  abbrev state_long : Bool
  state_long = others && leb count_cells (length m.counts) && leb 1 (length m.objective)

  decided : (b c : Bool) → leb numbers_end (length N) ≡ b → leb doubles_end (length D) ≡ c
      → state_long ≡ (values && b && c)
  unfolding workspace_long store_is_long
  decided true true e f =
      let n : numbers_end ≤ length N = leb-true _ _ e in
      let d : doubles_end ≤ length D = leb-true _ _ f in
      let a1 = has basic_vars_at max_rows N (omega (arith, n)) p.rows low in
      let a2 = has nb_vars_at max_columns N (omega (arith, n)) p.columns few in
      let a3 = has var_states_at vars N (omega (arith, n)) (p.columns + p.rows) (omega arith) in
      let a4 = has flag_cells_at max_columns N (omega (arith, n)) p.columns few in
      let a5 = has eta_leaving_at eta_columns N (omega (arith, n)) eta_columns (omega arith) in
      let a6 = has eta_starts_at (eta_columns + 1) N (omega (arith, n)) (eta_columns + 1) (omega arith) in
      let a7 = has eta_rows_at eta_entries N (omega (arith, n)) eta_entries (omega arith) in
      let a8 = has kept_at max_rows N (omega (arith, n)) p.rows low in
      let a9 = has counts_at count_cells N (omega (arith, n)) count_cells (omega arith) in
      let b1 = has basic_var_vals_at max_rows D (omega (arith, d)) p.rows low in
      let b2 = has nb_var_vals_at max_columns D (omega (arith, d)) p.columns few in
      let b3 = has prices_at max_columns D (omega (arith, d)) p.columns few in
      let b4 = has norms_at max_columns D (omega (arith, d)) p.columns few in
      let b5 = has eta_coeffs_at eta_entries D (omega (arith, d)) eta_entries (omega arith) in
      let b6 = has dual_norms_at max_rows D (omega (arith, d)) p.rows low in
      let b7 = has objective_at 1 D (omega (arith, d)) 1 (omega arith) in
      rw (a1, a2, a3, a4, a5, a6, a7, a8, a9, b1, b2, b3, b4, b5, b6, b7) (passed values)
  decided true false e f = rw (lacks objective_at 1 D (omega arith) (leb-false doubles_end (length D) f)) (failed_last (others && leb count_cells (length m.counts)) (values && true))
  decided false c e f = rw (lacks counts_at count_cells N (omega arith) (leb-false numbers_end (length N) e)) (failed others values (leb 1 (length m.objective)) c)

  pub long_is :
      memory_long p m ≡ (values && leb numbers_end (length N) && leb doubles_end (length D) && leb all_factor_numbers (length F)
      && leb all_factor_coeffs (length G))
  unfolding memory_long
  long_is =
      ap (λ (b : Bool). b && leb all_factor_numbers (length F) && leb all_factor_coeffs (length G))
      (decided (leb numbers_end (length N)) (leb doubles_end (length D)) refl refl)

  -- for the caller
  pub record Long : Type 0 where
    pub numbers : numbers_end ≤ length N
    pub doubles : doubles_end ≤ length D
    pub factor_numbers : all_factor_numbers ≤ length F
    pub factor_coeffs : all_factor_coeffs ≤ length G

  pub arrays_long : memory_long p m ≡ true → Long
  arrays_long e =
      let d = both_true _ (leb all_factor_coeffs (length G)) (sym long_is ∙ e) in
      let c = both_true _ (leb all_factor_numbers (length F)) d.0 in
      let b = both_true _ (leb doubles_end (length D)) c.0 in
      let a = both_true values (leb numbers_end (length N)) b.0 in
      record {
        numbers = leb-true _ _ a.1;
        doubles = leb-true _ _ b.1;
        factor_numbers = leb-true _ _ c.1;
        factor_coeffs = leb-true _ _ d.1;
      }
