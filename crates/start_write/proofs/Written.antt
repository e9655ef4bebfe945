-- What `write_start` writes, section by section. No contract cites this file. Assumes nothing.
use mathlib.Core.Path.{◌≡◌, refl, ◌∙◌}
use mathlib.Core.List.{List, []}
use Prim.Native.Nat.{ℕ, ◌+◌}
use native.Mathlib.Omega.{arith}
use borrow.Rule.Slice.PartMut.{put_mid}
use lib.ListN.{length, set}
use lib.Ieee.{Float}
use Rattle.doubles.specs.Limits.{max_rows, max_columns, vars, eta_columns}
use Rattle.doubles.specs.Num.{f1}
use Rattle.doubles.specs.Loop.{table}
use Rattle.doubles.specs.Lists.{◌!◌, over}
use Rattle.doubles.proofs.Loops.{over_same}
use Rattle.rules.specs.Start.{start_flags}
use Rattle.state.specs.Packed.{section, packed, Sized, basic_vars_at, nb_vars_at, var_states_at, flag_cells_at, eta_starts_at, basic_var_vals_at, nb_var_vals_at, prices_at, norms_at, dual_norms_at}
use Rattle.state.proofs.Sections.{lent, written as cell}
use Rattle.state.proofs.Moves.{as_lent, in_basic_vars, in_nb_vars, in_var_states, in_flags, in_eta_starts, in_basic_var_vals, in_nb_var_vals, in_prices, in_norms, in_dual_norms}
use Rattle.start_values.specs.Lent.{costed}
use Rattle.start.specs.Reckoned.{written}

-- counted from 0 on
from_zero : (n : ℕ) (l : List ℕ) → over (table n (λ c. 0 + c)) l ≡ over (table n (λ c. c)) l
from_zero n l = over_same (λ c. 0 + c) (λ c. c) n l l (λ c h. omega arith) refl

-- a section of k cells from a on that came back as ys
pub record Filled {A : Type 0} (f : List A → List A) (a k : ℕ) (xs ys : List A) : Type 0 where
  pub is : ys ≡ f (section a k xs)
  pub same : length ys ≡ length (section a k xs)

pub filled : {A : Type 0} {f : List A → List A} {a k : ℕ} {xs ys : List A} → ys ≡ f (section a k xs) → length ys ≡ length (section a k xs) → Filled f a k xs ys
filled e h = record { is = e; same = h }

-- the arrays as the sections come back
abbrev N1 : List ℕ → List ℕ → List ℕ
N1 N basic_vars = put_mid basic_vars_at max_rows N basic_vars

abbrev N2 : List ℕ → List ℕ → List ℕ → List ℕ
N2 N basic_vars nb_vars = put_mid nb_vars_at max_columns (N1 N basic_vars) nb_vars

abbrev N3 : List ℕ → List ℕ → List ℕ → List ℕ → List ℕ
N3 N basic_vars nb_vars flags = put_mid flag_cells_at max_columns (N2 N basic_vars nb_vars) flags

abbrev N4 : List ℕ → List ℕ → List ℕ → List ℕ → List ℕ → List ℕ
N4 N basic_vars nb_vars flags places = put_mid var_states_at vars (N3 N basic_vars nb_vars flags) places

abbrev D1 : List Float → List Float → List Float
D1 D basic_var_vals = put_mid basic_var_vals_at max_rows D basic_var_vals

abbrev D2 : List Float → List Float → List Float → List Float
D2 D basic_var_vals nb_var_vals = put_mid nb_var_vals_at max_columns (D1 D basic_var_vals) nb_var_vals

abbrev D3 : List Float → List Float → List Float → List Float → List Float
D3 D basic_var_vals nb_var_vals prices = put_mid prices_at max_columns (D2 D basic_var_vals nb_var_vals) prices

abbrev D4 : List Float → List Float → List Float → List Float → List Float → List Float
D4 D basic_var_vals nb_var_vals prices edges = put_mid norms_at max_columns (D3 D basic_var_vals nb_var_vals prices) edges

abbrev D5 : List Float → List Float → List Float → List Float → List Float → List Float → List Float
D5 D basic_var_vals nb_var_vals prices edges dualEdges =
    put_mid dual_norms_at max_rows (D4 D basic_var_vals nb_var_vals prices edges) dualEdges

module _ (n m : ℕ) (costs lowers uppers xs slacks norms : List Float) (N : List ℕ) (D : List Float) (z : Sized N D)
    (basic_vars nb_vars flags places : List ℕ) (basic_var_vals nb_var_vals prices edges dualEdges : List Float) where
  pub written_is :
      Filled (over (table m (λ r. n + r))) basic_vars_at max_rows N basic_vars
      → Filled (over (table m (λ r. slacks ! r))) basic_var_vals_at max_rows D basic_var_vals
      → Filled (over (table n (λ c. 0 + c))) nb_vars_at max_columns (N1 N basic_vars) nb_vars
      → Filled (over (table n (λ j. xs ! j))) nb_var_vals_at max_columns (D1 D basic_var_vals) nb_var_vals
      → Filled (over (table n (λ j. costs ! j))) prices_at max_columns (D2 D basic_var_vals nb_var_vals) prices
      → Filled (over (table n (λ j. norms ! j))) norms_at max_columns (D3 D basic_var_vals nb_var_vals prices) edges
      → Filled (over (table n (start_flags (costed n [] lowers uppers) xs))) flag_cells_at max_columns (N2 N basic_vars nb_vars) flags
      → Filled (over (table (n + m) (λ v. 0 + v))) var_states_at vars (N3 N basic_vars nb_vars flags) places
      → Filled (over (table m (λ r. f1))) dual_norms_at max_rows (D4 D basic_var_vals nb_var_vals prices edges) dualEdges
      → packed (set (N4 N basic_vars nb_vars flags places) (eta_starts_at + 0) 0) (D5 D basic_var_vals nb_var_vals prices edges dualEdges) ≡ written n m costs lowers uppers xs slacks norms (packed N D)
  unfolding written
  written_is a b c d e f g h i =
      let c1 = lent basic_vars_at max_rows N (over (table m (λ r. n + r))) basic_vars (omega (arith, z)) a.is a.same in
      let d1 = lent basic_var_vals_at max_rows D (over (table m (λ r. slacks ! r))) basic_var_vals (omega (arith, z)) b.is b.same in
      let c2 = lent nb_vars_at max_columns (N1 N basic_vars) (over (table n (λ c. c))) nb_vars (omega (arith, z, c1.long)) (c.is ∙ from_zero n _) c.same in
      let d2 = lent nb_var_vals_at max_columns (D1 D basic_var_vals) (over (table n (λ j. xs ! j))) nb_var_vals (omega (arith, z, d1.long)) d.is d.same in
      let d3 = lent prices_at max_columns (D2 D basic_var_vals nb_var_vals) (over (table n (λ j. costs ! j))) prices (omega (arith, z, d1.long, d2.long)) e.is e.same in
      let d4 = lent norms_at max_columns (D3 D basic_var_vals nb_var_vals prices) (over (table n (λ j. norms ! j))) edges (omega (arith, z, d1.long, d2.long, d3.long)) f.is f.same in
      let c3 = lent flag_cells_at max_columns (N2 N basic_vars nb_vars) (over (table n (start_flags (costed n [] lowers uppers) xs))) flags (omega (arith, z, c1.long, c2.long)) g.is g.same in
      let c4 = lent var_states_at vars (N3 N basic_vars nb_vars flags) (over (table (n + m) (λ v. v))) places (omega (arith, z, c1.long, c2.long, c3.long)) (h.is ∙ from_zero (n + m) _) h.same in
      let d5 = lent dual_norms_at max_rows (D4 D basic_var_vals nb_var_vals prices edges) (over (table m (λ r. f1))) dualEdges (omega (arith, z, d1.long, d2.long, d3.long, d4.long)) i.is i.same in
      let h1 = in_basic_vars (as_lent N D) c1 in
      let h2 = in_basic_var_vals h1 d1 in
      let h3 = in_nb_vars h2 c2 in
      let h4 = in_nb_var_vals h3 d2 in
      let h5 = in_prices h4 d3 in
      let h6 = in_norms h5 d4 in
      let h7 = in_flags h6 c3 in
      let h8 = in_var_states h7 c4 in
      let h9 = in_eta_starts h8 (cell eta_starts_at (eta_columns + 1) (N4 N basic_vars nb_vars flags places) 0 0 (omega arith)) in
      let h10 = in_dual_norms h9 d5 in
      h10.is
