-- What the calls of a pricing ask, and the ways it ends. No contract cites this file. Assumes nothing.
use mathlib.Core.Path.{◌≡◌, refl, sym, ap, ◌∙◌}
use mathlib.Core.Bool.{Bool, true, false, ◌&&◌}
use mathlib.Core.List.{List, []}
use Prim.Native.Nat.{ℕ, ◌+◌, ◌<◌, ◌≤◌}
use native.Mathlib.Omega.{arith}
use lib.ListN.{length, replicate}
use lib.Ieee.{Float, nan}
use borrow.Rule.Slice.PartMut.{put_mid}
use Rattle.doubles.specs.Num.{f0, finite}
use Rattle.doubles.specs.Limits.{max_rows, max_columns}
use Rattle.doubles.specs.Loop.{all, table}
use Rattle.doubles.specs.Lists.{◌!◌, ◌#◌, over}
use Rattle.doubles.proofs.Loops.{all_same, table_same}
use Rattle.lu_gate.specs.Gate.{finite_at}
use Rattle.lu_factor_rules.specs.Packed.{number_in, lower_t_in, upper_t_in, diag_in}
use Rattle.lu_apply.specs.Ask.{Solid}
use Rattle.rules.specs.Plan.{Problem, Workspace, State, Factored, n_of, column}
use Rattle.rules.specs.Parts.{rowed, state_with}
use Rattle.rules.specs.Invariant.{FactorFits, ProblemFits, Fits}
use Rattle.rules.specs.declared.Stop.TheVariants.{NotFinite}
use Rattle.rules.proofs.Lists.{over_at}
use Rattle.basis_columns.specs.Columns.{ByColumns}
use Rattle.basis_columns.proofs.Callers.{matrix_of, columns_part}
use Rattle.state.specs.Packed.{section, packed, state_in, Sized, basic_vars_at, nb_vars_at, prices_at}
use Rattle.state.specs.declared.Tally.{Tally}
use Rattle.state.proofs.Sections.{section_length, lent}
use Rattle.state.proofs.Moves.{as_lent, in_prices}
use Rattle.step_refactor.specs.Left.{on, off}
use Rattle.reprice_rules.specs.Reprice.{cost_of, basic_costs, dense_transp, by_rows, multipliers_by, multipliers, price_at, objective_of, priced_finite, priced_by, priced_if, priced}
use Rattle.reprice_numbers.specs.Lent.{costed, valued, dense_both, price_on, SumLent, SumsLent}
use Rattle.reprice_numbers.proofs.Laws.{price_is, both_is, solid_mapped, scratch_long}
use Rattle.reprice_prices.specs.Lent.{priced_of, Prices}
use Rattle.reprice_prices.specs.Left.{after_own}

-- ---- for callers: from a problem and a state that fit
pub fits_prices : (P : Problem) → ProblemFits P
    → {N : List ℕ} {D : List Float} {F : List ℕ} {G : List Float} {t : Tally} → Sized N D → Fits P (state_in N D F G t)
    → {S R : List ℕ} {X : List Float} → ByColumns (matrix_of P) S R X → n_of P < length S
    → Prices (n_of P) P.plan.costs P.kept S R X N D
fits_prices P f z s m long =
    record {
      starts = P.plan.starts;
      cols = P.plan.cols;
      coeffs = P.plan.coeffs;
      by_columns = m;
      starts_long = long;
      costs_long = f.plan.costs_long;
      columns_most = f.plan.columns_most;
      rows_most = omega (arith, f.few, f.plan.rows_most);
      sized = z;
      var = λ c h. (s.maps.place c h).var;
    }

-- ---- the multipliers

-- the pivot numbers with the transposes, as a dense solve asks: each half of a factor that fits
pub dense_solid : (m : ℕ) (F : Factored) → FactorFits m F → F.there ≡ true
    → Solid m (number_in F.numbers) (upper_t_in F.numbers F.coeffs) (lower_t_in F.numbers F.coeffs)
    (diag_in F.coeffs)
dense_solid m F f e = solid_mapped (f.solid e) (f.solid_transposed e)

module _ (n : ℕ) (costs : List Float) (kept vars F : List ℕ) (G : List Float) where
  abbrev from : List Float → List Float
  from = over (table (length kept) (λ i. cost_of (costed n costs []) (vars # i)))

  abbrev wanted : Bool → List Float
  wanted b = multipliers_by b (length kept) F G (basic_costs (costed n costs kept) (valued vars [] [] []))

  costs_are : from (replicate max_rows f0) ≡ basic_costs (costed n costs kept) (valued vars [] [] [])
  unfolding basic_costs cost_of
  costs_are = refl

  pub bare_is : (b : Bool) {out y : List Float} → b ≡ false → out ≡ replicate max_rows f0 → y ≡ from out → y ≡ wanted b
  bare_is b eb eo ey = ey ∙ ap from eo ∙ costs_are ∙ rw eb

  pub solved_is : (b : Bool) {y out : List Float} → b ≡ true → y ≡ from (replicate max_rows f0)
      → out ≡ by_rows (length kept) (number_in F) (dense_both (length kept) (upper_t_in F G) (lower_t_in F G) (diag_in G) y)
      → out ≡ wanted b
  solved_is b {y} eb ey eo =
      let m = length kept in
      let e = both_is m F G y ∙ ap (dense_transp m F G) (ey ∙ costs_are) in
      eo ∙ ap (by_rows m (number_in F)) e ∙ rw eb

  pub wanted_long : (b : Bool) → length kept ≤ max_rows → length (wanted b) ≡ max_rows
  unfolding by_rows basic_costs
  wanted_long true h = scratch_long (length kept) max_rows _ h
  wanted_long false h = scratch_long (length kept) max_rows _ h

  -- of the state's, the definition's end
  module _ (starts cols : List ℕ) (coeffs : List Float) (N : List ℕ) (D : List Float) (t : Tally) where
    abbrev whole : Problem
    whole = priced_of n costs starts cols coeffs kept

    abbrev state : State
    state = state_in N D F G t

    pub end_is : {y : List Float} → vars ≡ (packed N D).basic_vars → y ≡ wanted t.factored
        → after_own state (priced_if (priced_finite whole state y) whole state y) ≡ after_own state (priced whole state)
    unfolding priced multipliers basic_costs cost_of
    end_is ev e =
        ap (λ (y : List Float). after_own state (priced_if (priced_finite whole state y) whole state y)) (e ∙ rw ev)

-- ---- what the sums ask
module _ {n : ℕ} {costs : List Float} {kept S R : List ℕ} {X : List Float} {N : List ℕ} {D : List Float}
    (p : Prices n costs kept S R X N D) where
  pub places_long : n ≤ length (section nb_vars_at max_columns N)
  places_long = omega (arith, section_length nb_vars_at max_columns N (omega (arith, p.sized)), p.columns_most)

  pub basics_long : length kept ≤ length (section basic_vars_at max_rows N)
  basics_long = omega (arith, section_length basic_vars_at max_rows N (omega (arith, p.sized)), p.rows_most)

  sum_lent : (v : ℕ) → v < n + length kept → SumLent S R X n v
  sum_lent v l =
      let m = p.by_columns in
      record {
        starts_long = λ h. omega (arith, p.starts_long);
        rises = λ h. (m.column v h).rises;
        rows_long = λ h. omega (arith, m.rows_long, (m.column v h).ends);
        coeffs_long = λ h. omega (arith, m.coeffs_long, (m.column v h).ends);
        row = λ h k a b. omega (arith, (m.column v h).row k a b, p.rows_most);
        own = λ h. omega (arith, p.rows_most);
      }

  pub sums_lent : SumsLent S R X n (section nb_vars_at max_columns N)
  sums_lent = record { place = λ c h. sum_lent ((packed N D).nb_vars # c) (p.var c h) }

-- ---- how it ends
module _ (n : ℕ) (costs : List Float) (starts cols : List ℕ) (coeffs : List Float) (kept S R : List ℕ) (X : List Float)
    (m : ByColumns (rowed n starts cols coeffs kept) S R X) (N : List ℕ) (D : List Float) (F : List ℕ) (G : List Float)
    (t : Tally) (y : List Float) where
  abbrev P : Problem
  P = priced_of n costs starts cols coeffs kept

  abbrev s : State
  s = state_in N D F G t

  -- what was worked out
  module _ (fresh : List Float) (o : Float) (b : Bool)
      (ef : fresh ≡ over (table n (λ c. price_on costs S R X n y ((packed N D).nb_vars # c))) (replicate max_columns f0))
      (eo : o ≡ objective_of (costed n costs kept)
      (valued (packed N D).basic_vars (packed N D).basic_var_vals (packed N D).nb_vars (packed N D).nb_var_vals))
      (eb : b ≡ all (length kept) (finite_at y) && (all n (finite_at fresh) && finite o)) where
    fresh_at : (c : ℕ) → c < n → fresh ! c ≡ price_at P s y c
    fresh_at c h =
        ap (λ (l : List Float). l ! c) ef
        ∙ over_at n (λ c. price_on costs S R X n y ((packed N D).nb_vars # c)) (replicate max_columns f0) nan c h
        ∙ price_is S R X P (columns_part P m) y ((packed N D).nb_vars # c)

    objective_is : o ≡ objective_of P s.ws
    unfolding objective_of cost_of
    objective_is = eo

    finite_is : b ≡ priced_finite P s y
    unfolding priced_finite
    finite_is =
        let f = all_same (finite_at fresh) (λ c. finite (price_at P s y c)) n (λ c h. ap finite (fresh_at c h)) in
        eb ∙ rw (f, objective_is) refl

    pub ends_wild : b ≡ false → off NotFinite (packed N D) F G ≡ after_own s (priced_if (priced_finite P s y) P s y)
    ends_wild q = rw (sym finite_is ∙ q) refl

    module _ (z : Sized N D) where
      abbrev stored : List Float → List Float
      stored = over (table n (λ c. fresh ! c))

      abbrev with_objective : Tally
      with_objective =
          record {
            eta_count = t.eta_count;
            objective = o;
            steps = t.steps;
            factored = t.factored;
            factorings = t.factorings;
          }

      pub ends_priced : b ≡ true → (e : List Float) → e ≡ stored (section prices_at max_columns D)
          → length e ≡ length (section prices_at max_columns D)
          → on (state_in N (put_mid prices_at max_columns D e) F G with_objective)
          ≡ after_own s (priced_if (priced_finite P s y) P s y)
      unfolding priced_by
      ends_priced q e ee ke =
          let h = in_prices (as_lent N D) (lent prices_at max_columns D stored e (omega (arith, z)) ee ke) in
          ap (λ (w : Workspace). on (state_with w t.eta_count o t.steps s.factor)) h.is
          ∙ rw (table_same (λ c. fresh ! c) (price_at P s y) n fresh_at, objective_is, sym finite_is ∙ q) refl
