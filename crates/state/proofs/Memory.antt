-- The sections and what is past them are the arrays, so what is said of them settles every lent cell, of arrays that are
-- too short too; and the arrays after a run, which is lent their fronts. Assumes nothing.
use mathlib.Core.Path.{◌≡◌, refl, sym, ap, ◌∙◌}
use mathlib.Core.List.{List, ◌++◌}
use Prim.Native.Nat.{ℕ, ◌+◌, ◌≤◌}
use native.Mathlib.Omega.{arith}
use lib.ListN.{length, take, drop, length-drop, take-append-drop}
use lib.Seq.{take_all, length-take-le}
use lib.Ieee.{Float}
use Rattle.doubles.specs.Limits.{max_rows, max_columns, vars, eta_columns, eta_entries, count_cells}
use Rattle.rules.specs.Plan.{Memory}
use Rattle.rules.specs.Parts.{memory_of}
use Rattle.state.specs.Packed.{section, packed, Sized, basic_vars_at, nb_vars_at, var_states_at, flag_cells_at, eta_leaving_at, eta_starts_at, eta_rows_at, kept_at, counts_at, basic_var_vals_at, nb_var_vals_at, prices_at, norms_at, eta_coeffs_at, dual_norms_at, objective_at}
use Rattle.state.specs.Memory.{numbers_end, doubles_end, memory_in, Past, past_of}
use Rattle.state.proofs.Sections.{Changed, early, glue, lent}

-- the cells from b on stay where a section before them changes
pub rest : {A : Type 0} {a k : ℕ} {f : List A → List A} {xs ys : List A} → Changed a k f xs ys → (b : ℕ) → a + k ≤ b → drop b ys ≡ drop b xs
rest {A} {a} {k} {f} {xs} {ys} c b h =
    sym (take_all (length xs) (drop b ys) (omega (arith, length-drop b ys, c.long)))
    ∙ c.after b (length xs) h
    ∙ take_all (length xs) (drop b xs) (omega (arith, length-drop b xs))

abbrev numbers_of : Memory → Past → List ℕ
numbers_of m past =
    let w = m.ws in
    w.basic_vars ++ (w.nb_vars ++ (w.var_states ++ (w.flags ++ (w.etas.leaving ++ (w.etas.starts ++ (w.etas.rows ++ (m.kept ++ (m.counts ++ past.numbers))))))))

abbrev doubles_of : Memory → Past → List Float
doubles_of m past =
    let w = m.ws in
    w.basic_var_vals ++ (w.nb_var_vals ++ (w.prices ++ (w.norms ++ (w.etas.coeffs ++ (w.dual_norms ++ (m.objective ++ past.doubles))))))

-- from place a on, a section and then what follows it
next : {A : Type 0} (a k : ℕ) (xs : List A) {rest : List A} → drop (a + k) xs ≡ rest → drop a xs ≡ section a k xs ++ rest
next {A} a k xs e = glue a k xs ∙ ap (λ (l : List A). section a k xs ++ l) e

module _ (v : List Float) (N : List ℕ) (D : List Float) (F : List ℕ) (G : List Float) where
  numbers_are : N ≡ numbers_of (memory_in v N D F G) (past_of N D)
  numbers_are =
      next basic_vars_at max_rows N
      (next nb_vars_at max_columns N
      (next var_states_at vars N
      (next flag_cells_at max_columns N
      (next eta_leaving_at eta_columns N
      (next eta_starts_at (eta_columns + 1) N
      (next eta_rows_at eta_entries N
      (next kept_at max_rows N
      (glue counts_at count_cells N))))))))

  doubles_are : D ≡ doubles_of (memory_in v N D F G) (past_of N D)
  doubles_are =
      next basic_var_vals_at max_rows D
      (next nb_var_vals_at max_columns D
      (next prices_at max_columns D
      (next norms_at max_columns D
      (next eta_coeffs_at eta_entries D
      (next dual_norms_at max_rows D
      (glue objective_at 1 D))))))

module _ {v w : List Float} {N M : List ℕ} {D E : List Float} {F H : List ℕ} {G J : List Float} where
  pub cells_settle :
      memory_in v N D F G ≡ memory_in w M E H J
      → past_of N D ≡ past_of M E
      → (v ≡ w) × (N ≡ M) × (D ≡ E) × (F ≡ H) × (G ≡ J)
  cells_settle e f =
      let m = memory_in w M E H J in (
        ap (λ (m : Memory). m.values) e,
        numbers_are v N D F G
            ∙ ap (λ (m : Memory). numbers_of m (past_of N D)) e ∙ ap (numbers_of m) f ∙ sym (numbers_are w M E H J),
        doubles_are v N D F G
            ∙ ap (λ (m : Memory). doubles_of m (past_of N D)) e ∙ ap (doubles_of m) f ∙ sym (doubles_are w M E H J),
        ap (λ (m : Memory). m.all_factor_numbers) e,
        ap (λ (m : Memory). m.all_factor_coeffs) e,
      )

-- ---- a run is lent the front of each array
pub front_packed : (M R : List ℕ) (E S : List Float) → Sized M E → packed (M ++ R) (E ++ S) ≡ packed M E
front_packed M R E S z =
    rw (
      early M R basic_vars_at max_rows (omega (arith, z)),
      early M R nb_vars_at max_columns (omega (arith, z)),
      early M R var_states_at vars (omega (arith, z)),
      early M R flag_cells_at max_columns (omega (arith, z)),
      early M R eta_leaving_at eta_columns (omega (arith, z)),
      early M R eta_starts_at (eta_columns + 1) (omega (arith, z)),
      early M R eta_rows_at eta_entries (omega (arith, z)),
      early E S basic_var_vals_at max_rows (omega (arith, z)),
      early E S nb_var_vals_at max_columns (omega (arith, z)),
      early E S prices_at max_columns (omega (arith, z)),
      early E S norms_at max_columns (omega (arith, z)),
      early E S eta_coeffs_at eta_entries (omega (arith, z)),
      early E S dual_norms_at max_rows (omega (arith, z)),
    )

module _ (N : List ℕ) (D : List Float) (n : numbers_end ≤ length N) (d : doubles_end ≤ length D) where
  pub front_sized : Sized (take kept_at N) (take objective_at D)
  front_sized = record { numbers_long = length-take-le kept_at N (omega (arith, n)); doubles_long = length-take-le objective_at D (omega (arith, d)) }

  pub front_same : packed (take kept_at N) (take objective_at D) ≡ packed N D
  front_same =
      sym (front_packed (take kept_at N) (drop kept_at N) (take objective_at D) (drop objective_at D) front_sized)
      ∙ ap (λ (l : List ℕ). packed l (take objective_at D ++ drop objective_at D)) (take-append-drop kept_at N)
      ∙ ap (λ (l : List Float). packed N l) (take-append-drop objective_at D)

  -- the arrays with M and E for their fronts
  module _ (M : List ℕ) (E : List Float) (m : length M ≡ length (take kept_at N)) (e : length E ≡ length (take objective_at D)) where
    numbers_changed : Changed 0 kept_at (λ _. M) N (M ++ drop kept_at N)
    numbers_changed = lent 0 kept_at N (λ _. M) M (omega (arith, n)) refl m

    doubles_changed : Changed 0 objective_at (λ _. E) D (E ++ drop objective_at D)
    doubles_changed = lent 0 objective_at D (λ _. E) E (omega (arith, d)) refl e

    pub after_sized : Sized M E
    after_sized = record { numbers_long = m ∙ front_sized.numbers_long; doubles_long = e ∙ front_sized.doubles_long }

    pub after_long : (length (M ++ drop kept_at N) ≡ length N) × (length (E ++ drop objective_at D) ≡ length D)
    after_long = (numbers_changed.long, doubles_changed.long)

    pub after_memory :
        (v : List Float) (F : List ℕ) (G : List Float)
        → memory_in v (M ++ drop kept_at N) (E ++ drop objective_at D) F G
        ≡ memory_of v (section kept_at max_rows N) (packed M E) (section counts_at count_cells N) (section objective_at 1 D)
        F G
    after_memory v F G =
        rw (
          front_packed M (drop kept_at N) E (drop objective_at D) after_sized,
          numbers_changed.after kept_at max_rows (omega arith),
          numbers_changed.after counts_at count_cells (omega arith),
          doubles_changed.after objective_at 1 (omega arith),
        )

    pub after_past : past_of (M ++ drop kept_at N) (E ++ drop objective_at D) ≡ past_of N D
    after_past = rw (rest numbers_changed numbers_end (omega arith), rest doubles_changed doubles_end (omega arith))
