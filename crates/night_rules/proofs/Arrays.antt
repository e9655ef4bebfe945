-- The solver's arrays as a solve leaves them. Assumes nothing.
use mathlib.Core.Path.{◌≡◌, ap, ◌∙◌}
use mathlib.Core.List.{List, ◌++◌}
use Prim.Native.Nat.{ℕ, ◌+◌}
use lib.ListN.{drop}
use lib.Ieee.{Float}
use Rattle.doubles.specs.Limits.{max_rows, max_columns, vars, eta_columns, eta_entries, count_cells}
use Rattle.rules.specs.Plan.{Plan}
use Rattle.rules.specs.Solve.{Solved, solved, solve_plan}
use Rattle.rules.specs.declared.Answer.{Answer}
use Rattle.state.specs.Packed.{section, basic_vars_at, nb_vars_at, var_states_at, flag_cells_at, eta_leaving_at, eta_starts_at}
use Rattle.state.specs.Packed.{eta_rows_at, kept_at, counts_at, basic_var_vals_at, nb_var_vals_at, prices_at, norms_at, eta_coeffs_at}
use Rattle.state.specs.Packed.{dual_norms_at, objective_at}
use Rattle.state.specs.Memory.{memory_in, past_of, handed, answered}
use Rattle.state.proofs.Sections.{glue}
use Rattle.night_rules.specs.Arrays.{Arrays, arrays_of, memory, past, numbers_of, doubles_of, in_arrays, ran, ran_by}
use Rattle.night_rules.specs.Arrays.{run_on}

-- from place a on, a section and then what follows it
next : {A : Type 0} (a k : ℕ) (xs : List A) {rest : List A} → drop (a + k) xs ≡ rest
    → drop a xs ≡ section a k xs ++ rest
next {A} a k xs e = glue a k xs ∙ ap (λ (l : List A). section a k xs ++ l) e

-- the sections and the cells past them are the array
module _ (v : List Float) (N : List ℕ) (D : List Float) (F : List ℕ) (G : List Float) where
  numbers_are : N ≡ numbers_of (memory_in v N D F G) (past_of N D)
  numbers_are =
      next basic_vars_at max_rows N
      (next nb_vars_at max_columns N
      (next var_states_at vars N
      (next flag_cells_at max_columns N
      (next eta_leaving_at eta_columns N
      (next eta_starts_at (eta_columns + 1) N
      (next eta_rows_at eta_entries N
      (next kept_at max_rows N
      (glue counts_at count_cells N))))))))

  doubles_are : D ≡ doubles_of (memory_in v N D F G) (past_of N D)
  doubles_are =
      next basic_var_vals_at max_rows D
      (next nb_var_vals_at max_columns D
      (next prices_at max_columns D
      (next norms_at max_columns D
      (next eta_coeffs_at eta_entries D
      (next dual_norms_at max_rows D
      (glue objective_at 1 D))))))

  unpacked : (r : Answer) → ran r (arrays_of v N D F G) ≡ ran_by (answered r v N D F G)
  unfolding ran_by in_arrays
  unpacked r =
      ap (λ (l : List ℕ). ran r (arrays_of v l D F G)) numbers_are
      ∙ ap (λ (l : List Float). ran r (arrays_of v (numbers_of (memory_in v N D F G) (past_of N D)) l F G)) doubles_are

  -- by solve's contract
  pub ran_is : (p : Plan) (a : Arrays) (r : Answer)
      → answered r v N D F G ≡ handed (solve_plan p (memory a)) (past a) → ran r (arrays_of v N D F G) ≡ run_on p a
  unfolding run_on
  ran_is p a r e = unpacked r ∙ ap ran_by e

-- a solve that is refused leaves every cell
pub refused_is : (p : Plan) (a : Arrays) (r : Answer) → solved r (memory a) ≡ solve_plan p (memory a)
    → ran r a ≡ run_on p a
refused_is p a r e =
    ran_is a.values a.numbers a.doubles a.all_factor_numbers a.all_factor_coeffs p a r
    (ap (λ (s : Solved). handed s (past a)) e)
