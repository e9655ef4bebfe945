-- What callers use: a step of the problem's bounds alone is one of the problem, and what the stores ask, from a problem and a state that fit. Assumes nothing.
use mathlib.Core.Path.{◌≡◌, ap}
use mathlib.Core.List.{List, []}
use Prim.Native.Nat.{ℕ, ◌+◌, ◌<◌}
use native.Mathlib.Omega.{arith}
use lib.Ieee.{Float}
use Rattle.sparse.specs.Scattered.{Sv}
use Rattle.lu_factor_rules.specs.Factor.{Factor}
use Rattle.lu_factor_rules.specs.Packed.{packed_numbers, packed_coeffs}
use Rattle.rules.specs.Plan.{Problem, State, n_of, m_of, var_min, var_max}
use Rattle.rules.specs.Parts.{factored_of, state_with}
use Rattle.rules.specs.Pivot.{flags_at, new_objective, flipped, exchanged, refactored}
use Rattle.rules.specs.Invariant.{ProblemFits, Fits}
use Rattle.rules.specs.declared.Entering.{Entering}
use Rattle.cells.proofs.Parts.{bounds_of}
use Rattle.state.specs.Packed.{Sized, state_in}
use Rattle.state.specs.declared.Tally.{Tally}
use Rattle.state.specs.declared.Exchange.{Exchange}
use Rattle.step_store.specs.Halves.{emptied}
use Rattle.step_store.specs.Lent.{Bounded, Flips, Swaps}

-- ---- what the stores ask
module _ (P : Problem) (f : ProblemFits P) where
  fits_bounded : (v : ℕ) → v < n_of P + m_of P → Bounded (bounds_of P) v
  fits_bounded v h =
      let p = f.plan in
      record { variable = h; lowers_long = p.lowers_long; uppers_long = p.uppers_long; row_inside = λ r l. omega (arith, (f.kept r l).inside, p.ops_long) }

  module _ (N : List ℕ) (D : List Float) {F : List ℕ} {G : List Float} (t : Tally) (z : Sized N D)
      (g : Fits P (state_in N D F G t)) (col : ℕ) (l : col < n_of P) where
    pub fits_flips : Flips (bounds_of P) N D col
    fits_flips = record { sized = z; col_inside = omega (arith, f.plan.columns_most); bounds = fits_bounded _ (g.maps.place col l).var }

    pub fits_swaps : (row : ℕ) → row < m_of P → Swaps (bounds_of P) N D col row
    fits_swaps row h =
        let b = g.maps.row row h in
        let e = g.maps.place col l in
        let n = f.plan.columns_most in
        let m = f.plan.rows_most in
        record {
          sized = z;
          few = n;
          row_inside = omega (arith, f.few);
          col_inside = omega arith;
          enters = omega (arith, f.few);
          leaves = omega (arith, f.few);
          leaves_bounds = fits_bounded _ b.var;
        }

-- ---- of the problem the stores read the bounds alone, and none of the factor's arrays

-- a state with other arrays for its factor
abbrev pub with_arrays : List ℕ → List Float → State → State
with_arrays F G s =
    state_with s.ws s.eta_count s.objective s.steps (factored_of s.factor.there s.factor.times F G)

module _ (P : Problem) (s : State) (e : Entering) (c : Sv) where
  pub flipped_part : (value diff : Float) {u : State}
      → u ≡ flipped (bounds_of P) (with_arrays [] [] s) e c value diff
      → with_arrays s.factor.numbers s.factor.coeffs u ≡ flipped P s e c value diff
  unfolding flipped new_objective flags_at var_min var_max
  flipped_part value diff q = ap (with_arrays s.factor.numbers s.factor.coeffs) q

  module _ (rowSv helper : Sv) (x : Exchange) {u : State} where
    pub exchanged_part :
        u ≡ exchanged (bounds_of P) (with_arrays [] [] s) e c rowSv helper x.value x.diff x.row x.pivot
        x.leaving
        → with_arrays s.factor.numbers s.factor.coeffs u
        ≡ exchanged P s e c rowSv helper x.value x.diff x.row x.pivot x.leaving
    unfolding exchanged new_objective flags_at var_min var_max
    exchanged_part q = ap (with_arrays s.factor.numbers s.factor.coeffs) q

    pub refactored_part : (f : Factor)
        → u ≡ emptied (bounds_of P) (with_arrays [] [] s) e c rowSv helper x
        → with_arrays (packed_numbers f s.factor.numbers) (packed_coeffs f s.factor.coeffs) u
        ≡ refactored P s e c rowSv helper x.value x.diff x.row x.pivot x.leaving f
    unfolding emptied refactored new_objective flags_at var_min var_max
    refactored_part f q =
        ap (with_arrays (packed_numbers f s.factor.numbers) (packed_coeffs f s.factor.coeffs)) q
