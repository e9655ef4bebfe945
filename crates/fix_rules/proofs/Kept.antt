-- What passes 41's test is a sound state: all that a step leans on holds of it. Assumes nothing.
use mathlib.Core.Path.{◌≡◌, refl, sym, subst}
use mathlib.Core.Bool.{Bool, true, false, not, ◌&&◌, ◌||◌}
use mathlib.Core.List.{List}
use Prim.Native.Nat.{ℕ, ◌+◌, ◌-◌, ◌<◌, ◌≤◌}
use native.Mathlib.Omega.{arith}
use lib.Dec.{ltb, leb, eqb}
use lib.ListN.{length}
use lib.Ieee.{Float}
use borrow.Author.Tests.{ltb-true, leb-true, eqb-true}
use Rattle.doubles.specs.Num.{finite}
use Rattle.doubles.specs.Limits.{max_rows, max_tri_entries, eta_columns, eta_entries}
use Rattle.doubles.specs.Loop.{all}
use Rattle.doubles.specs.Lists.{◌!◌, ◌#◌, part}
use Rattle.doubles.proofs.Bools.{never}
use Rattle.doubles.proofs.Loops.{both_true, all_at}
use Rattle.lu_walk.specs.Walk.{Shape, shape, many, kid, Columns}
use Rattle.lu_solve.specs.Solve.{Tri}
use Rattle.lu_gate.specs.Gate.{ok_starts, ok_row, ok_column, ok_rows, ok_diag, finite_at}
use Rattle.lu_gate.proofs.Laws.{Starts, starts_told, starts_end, numbers_told}
use Rattle.lu_factor_rules.specs.Factor.{Factor, Matrix}
use Rattle.lu_factor_rules.specs.Packed.{all_factor_numbers, all_factor_coeffs, order_end, number_end, lower_starts_end, lower_rows_end, upper_starts_end, upper_rows_end, lower_coeffs_end, upper_coeffs_end, upper_t_coeffs_end, diag_end, order_in, number_in, lower_in, upper_in, diag_in}
use Rattle.lu_factor_rules.specs.Transpose.{transpose}
use Rattle.lu_factor_rules.proofs.Packed.{Filled, Exact, order_back, number_back, numbers_kept, diag_back, coeffs_kept, lower_back, upper_back, lower_t_back, upper_t_back}
use Rattle.lu_transpose.proofs.Columns.{transpose_columns, transpose_vals}
use Rattle.lu_apply.specs.Ask.{Solid}
use Rattle.rules.specs.Plan.{Plan, Problem, Memory, Etas, problem_of, n_of, m_of}
use Rattle.rules.specs.Refusals.{passes1, passes2, first_bad_row}
use Rattle.rules.specs.Invariant.{ProblemFits, MemoryFits, Store, FactorFits, FactorNumbers, Numbers, Fits, Sound}
use Rattle.rules.proofs.Lists.{part_long}
use Rattle.rules.proofs.Lengths.{memory_fits, lent_long}
use Rattle.rules.proofs.Start.{passed_fits}
use Rattle.state_maps.specs.Maps.{leads_back, maps_fine}
use Rattle.state_maps.proofs.Exact.{fine_exactly}
use Rattle.fix_rules.specs.Kept.{etas_kept, entries_kept, status_kept, factor_cell, has_factor, factor_in, kept_by, kept_factor, kept_state, flags_fine, store_fine, order_fine, triangle_fine, diagonal_fine, factor_fine, workspace_finite, factor_finite, passes41}

-- ---- the store
module _ (P : Problem) (h : Etas) (count entries : ℕ) (o : store_fine (m_of P) h count entries ≡ true) where
  store_fits : Store P h count × (h.starts # count ≡ entries)
  unfolding store_fine
  store_fits =
      let a = both_true (leb count eta_columns) _ o in
      let b = both_true (ok_starts count entries h.starts) _ a.1 in
      let c = both_true (leb entries eta_entries) _ b.1 in
      let d = both_true (all count (λ k. ltb (h.leaving # k) (m_of P))) _ c.1 in
      let s : Starts count entries h.starts = starts_told count entries h.starts b.0 in
      let most : entries ≤ eta_entries = leb-true entries eta_entries c.0 in (
        record {
          begins = s.begins;
          columns_fit = leb-true count eta_columns a.0;
          entries_fit = omega (arith, s.finishes, most);
          column = λ k l.
              let e : h.starts # (k + 1) ≤ entries = starts_end s k l in
              record {
                leaves = ltb-true (h.leaving # k) (m_of P) (all_at (λ k. ltb (h.leaving # k) (m_of P)) count d.0 k l);
                rises = s.rises k l;
                ends = omega (arith, e, most);
                rows = λ i f g. ltb-true (h.rows # i) (m_of P) (all_at (λ i. ltb (h.rows # i) (m_of P)) entries d.1 i (omega (arith, g, e)));
              };
        },
        s.finishes,
      )

-- ---- the factor
pub record Triangle (lower : Bool) (rows : ℕ) (t : Matrix) : Type 0 where
  pub first : t.starts # 0 ≡ 0
  pub most : t.starts # rows ≤ max_tri_entries
  pub columns : Columns (shape lower rows t.starts t.rows)
  pub vals : (j : ℕ) → j < rows → t.starts # (j + 1) ≤ length t.vals

module _ (lower : Bool) (rows : ℕ) (t : Matrix) (small : rows ≤ max_rows) (w : Filled t) (d : List Float) (long : rows ≤ length d)
    (o : triangle_fine lower rows t ≡ true) where
  abbrev tri : Tri
  tri = record { shape = shape lower rows t.starts t.rows; vals = t.vals; has_diag = false; diag = d }

  triangle : Triangle lower rows t
  unfolding triangle_fine ok_rows ok_column ok_diag
  triangle =
      let a = both_true (ok_starts rows (t.starts # rows) t.starts) _ o in
      let b = both_true (leb (t.starts # rows) max_tri_entries) _ a.1 in
      let most : t.starts # rows ≤ max_tri_entries = leb-true (t.starts # rows) max_tri_entries b.0 in
      let s : Starts rows (t.starts # rows) t.starts = starts_told rows (t.starts # rows) t.starts a.0 in
      let n = numbers_told tri (t.starts # rows) d (record {
        sizes = record {
          small = small;
          starts_long = omega (arith, w.starts_long, small);
          rows_long = omega (arith, w.rows_long, most);
          vals_long = omega (arith, w.vals_long, most);
          diag_long = λ q. never q refl;
          values_long = long;
        };
        starts = s;
        rows = λ c i h g. all_at (ok_row tri.shape c) (many tri.shape c) (all_at (ok_column tri.shape) rows b.1 c h) i g;
        diag = refl;
      }) in
      record { first = s.begins; most = most; columns = n.columns; vals = n.vals_long }

module _ (rows : ℕ) (N : List ℕ) (D : List Float) (small : rows ≤ max_rows) (ns : all_factor_numbers ≤ length N) (ds : all_factor_coeffs ≤ length D) where
  abbrev f : Factor
  f = factor_in rows N D

  pub exact : Exact f
  exact =
      record {
        order_long = part_long 0 order_end N (omega (arith, ns));
        number_long = part_long order_end number_end N (omega (arith, ns));
        lower = record {
          starts_long = part_long number_end lower_starts_end N (omega (arith, ns));
          rows_long = part_long lower_starts_end lower_rows_end N (omega (arith, ns));
          vals_long = part_long 0 lower_coeffs_end D (omega (arith, ds));
        };
        upper = record {
          starts_long = part_long lower_rows_end upper_starts_end N (omega (arith, ns));
          rows_long = part_long upper_starts_end upper_rows_end N (omega (arith, ns));
          vals_long = part_long lower_coeffs_end upper_coeffs_end D (omega (arith, ds));
        };
        diag_long = part_long upper_t_coeffs_end diag_end D (omega (arith, ds));
      }

  diag_enough : rows ≤ length f.diag
  diag_enough = omega (arith, exact.diag_long, small)

  module _ (o : factor_fine rows N D ≡ true) where
    record Passed : Type 0 where
      order_pass : order_fine rows f.order f.number ≡ true
      lower_pass : triangle_fine true rows f.lower ≡ true
      upper_pass : triangle_fine false rows f.upper ≡ true
      diag_pass : diagonal_fine rows f.diag ≡ true

    passed : Passed
    unfolding factor_fine
    passed =
        let a = both_true (order_fine rows f.order f.number) _ o in
        let b = both_true (triangle_fine true rows f.lower) _ a.1 in
        let c = both_true (triangle_fine false rows f.upper) _ b.1 in
        record { order_pass = a.0; lower_pass = b.0; upper_pass = c.0; diag_pass = c.1 }

    order_told : (k : ℕ) → k < rows → f.order # k < rows
    unfolding order_fine leads_back
    order_told k l =
        let a = both_true (all rows (λ k. ltb (f.order # k) rows && eqb (f.number # (f.order # k)) k)) _ passed.order_pass in
        let b = both_true (ltb (f.order # k) rows) _ (all_at (λ k. ltb (f.order # k) rows && eqb (f.number # (f.order # k)) k) rows a.0 k l) in
        ltb-true (f.order # k) rows b.0

    number_told : (r : ℕ) → r < rows → f.number # r < rows
    unfolding order_fine leads_back
    number_told r l =
        let a = both_true (all rows (λ k. ltb (f.order # k) rows && eqb (f.number # (f.order # k)) k)) _ passed.order_pass in
        ltb-true (f.number # r) rows (all_at (λ r. ltb (f.number # r) rows) rows a.1 r l)

    pub lower_told : Triangle true rows f.lower
    lower_told = triangle true rows f.lower small exact.lower f.diag diag_enough passed.lower_pass

    pub upper_told : Triangle false rows f.upper
    upper_told = triangle false rows f.upper small exact.upper f.diag diag_enough passed.upper_pass

    solid : Solid rows f.number f.lower f.upper f.diag
    solid =
        record {
          map_long = omega (arith, exact.number_long, small);
          leads = number_told;
          lower_columns = lower_told.columns;
          upper_columns = upper_told.columns;
          lower_vals = lower_told.vals;
          upper_vals = upper_told.vals;
          diag_long = diag_enough;
        }

    -- "a call makes them anew from L and U"
    solid_transposed : Solid rows f.order (transpose rows f.upper) (transpose rows f.lower) f.diag
    solid_transposed =
        let l = lower_told in
        let u = upper_told in
        record {
          map_long = omega (arith, exact.order_long, small);
          leads = order_told;
          lower_columns = transpose_columns false rows f.upper u.columns u.first u.most u.vals;
          upper_columns = transpose_columns true rows f.lower l.columns l.first l.most l.vals;
          lower_vals = transpose_vals false rows f.upper u.columns u.first u.most u.vals;
          upper_vals = transpose_vals true rows f.lower l.columns l.first l.most l.vals;
          diag_long = diag_enough;
        }

  factor_fits : (b : Bool) → not b || factor_fine rows N D ≡ true → FactorFits rows (kept_by b rows N D)
  factor_fits false o = record { numbers_long = ns; coeffs_long = ds; solid = λ q. never q refl; solid_transposed = λ q. never q refl }
  factor_fits true o =
      record {
        numbers_long = omega (arith, numbers_kept f exact N ns, ns);
        coeffs_long = omega (arith, coeffs_kept f exact D ds, ds);
        solid = λ _. rw (number_back f exact N, lower_back f exact N D, upper_back f exact N D, diag_back f exact D) (solid o);
        solid_transposed = λ _. rw (order_back f exact N, lower_t_back f exact N D, upper_t_back f exact N D, diag_back f exact D) (solid_transposed o);
      }

  abbrev FiniteTo : Matrix → Type 0
  FiniteTo t = (k : ℕ) → k < t.starts # rows → finite (t.vals ! k) ≡ true

  factor_numbers : (b : Bool) → not b || factor_finite rows N D ≡ true → FactorNumbers rows (kept_by b rows N D)
  unfolding factor_finite
  factor_numbers false o = record { lower = λ q. never q refl; upper = λ q. never q refl; diag = λ q. never q refl }
  factor_numbers true o =
      let a = both_true (all (f.lower.starts # rows) (finite_at f.lower.vals)) _ o in
      let c = both_true (all (f.upper.starts # rows) (finite_at f.upper.vals)) _ a.1 in
      record {
        lower = λ _. subst FiniteTo (sym (lower_back f exact N D)) (all_at (finite_at f.lower.vals) (f.lower.starts # rows) a.0);
        upper = λ _. subst FiniteTo (sym (upper_back f exact N D)) (all_at (finite_at f.upper.vals) (f.upper.starts # rows) c.0);
        diag = λ _. rw (diag_back f exact D) (all_at (finite_at f.diag) rows c.1);
      }

-- ---- the whole: where 1 to 3 and 41 pass, the kept state is sound
module _ (p : Plan) (m : Memory) (one : passes1 p m ≡ true) (two : passes2 p ≡ true) (three : first_bad_row p ≡ p.rows) (o : passes41 p m ≡ true) where
  abbrev P : Problem
  P = problem_of p

  problem_fits : ProblemFits P
  problem_fits = passed_fits p m one two three

  lent : MemoryFits p m
  lent = memory_fits p m one

  rows_most : m_of P ≤ max_rows
  rows_most = omega (arith, problem_fits.few, problem_fits.plan)

  pub record Parts : Type 0 where
    maps_pass : maps_fine p m ≡ true
    pub flags_pass : flags_fine (n_of P) m.ws.flags ≡ true
    store_pass : store_fine (m_of P) m.ws.etas (etas_kept m) (entries_kept m) ≡ true
    pub factor_pass : not (has_factor m) || factor_fine (m_of P) m.all_factor_numbers m.all_factor_coeffs ≡ true
    workspace_pass : workspace_finite (n_of P) (m_of P) (entries_kept m) m.ws ≡ true
    numbers_pass : not (has_factor m) || factor_finite (m_of P) m.all_factor_numbers m.all_factor_coeffs ≡ true
    objective_pass : finite (m.objective ! 0) ≡ true

  pub parts : Parts
  unfolding passes41
  parts =
      let N = m.all_factor_numbers in
      let D = m.all_factor_coeffs in
      let a = both_true (eqb (status_kept m) 0) _ o in
      let b = both_true (maps_fine p m) _ a.1 in
      let c = both_true (flags_fine (n_of P) m.ws.flags) _ b.1 in
      let d = both_true (store_fine (m_of P) m.ws.etas (etas_kept m) (entries_kept m)) _ c.1 in
      let e = both_true (not (has_factor m) || factor_fine (m_of P) N D) _ d.1 in
      let f = both_true (leb (factor_cell m) 1) _ e.1 in
      let g = both_true (workspace_finite (n_of P) (m_of P) (entries_kept m) m.ws) _ f.1 in
      let h = both_true (not (has_factor m) || factor_finite (m_of P) N D) _ g.1 in
      record {
        maps_pass = b.0;
        flags_pass = c.0;
        store_pass = d.0;
        factor_pass = e.0;
        workspace_pass = g.0;
        numbers_pass = h.0;
        objective_pass = h.1;
      }

  stored : Store P m.ws.etas (etas_kept m) × (m.ws.etas.starts # etas_kept m ≡ entries_kept m)
  stored = store_fits P m.ws.etas (etas_kept m) (entries_kept m) parts.store_pass

  pub kept_fits : Fits P (kept_state P m)
  unfolding kept_state kept_factor
  kept_fits =
      record {
        lengths = lent_long p m lent problem_fits;
        maps = ((fine_exactly p m).0 parts.maps_pass).maps;
        store = stored.0;
        factor = factor_fits (m_of P) m.all_factor_numbers m.all_factor_coeffs rows_most lent.factor_numbers_long lent.factor_coeffs_long (has_factor m) parts.factor_pass;
        factorings = times (has_factor m);
      }
    where
      times : (b : Bool) → (kept_by b (m_of P) m.all_factor_numbers m.all_factor_coeffs).times ≤ 0
      times true = omega arith
      times false = omega arith

  pub kept_numbers : Numbers P (kept_state P m)
  unfolding kept_state kept_factor workspace_finite
  kept_numbers =
      let w = m.ws in
      let a = both_true (all (m_of P) (finite_at w.basic_var_vals)) _ parts.workspace_pass in
      let b = both_true (all (n_of P) (finite_at w.nb_var_vals)) _ a.1 in
      let c = both_true (all (n_of P) (finite_at w.prices)) _ b.1 in
      let d = both_true (all (n_of P) (finite_at w.norms)) _ c.1 in
      let e = both_true (all (m_of P) (finite_at w.dual_norms)) _ d.1 in
      record {
        objective = parts.objective_pass;
        basic_val = all_at (finite_at w.basic_var_vals) (m_of P) a.0;
        nb_val = all_at (finite_at w.nb_var_vals) (n_of P) b.0;
        price = all_at (finite_at w.prices) (n_of P) c.0;
        norm = all_at (finite_at w.norms) (n_of P) d.0;
        dual_norm = all_at (finite_at w.dual_norms) (m_of P) e.0;
        eta = λ i h. all_at (finite_at w.etas.coeffs) (entries_kept m) e.1 i (omega (arith, h, stored.1));
        factor = factor_numbers (m_of P) m.all_factor_numbers m.all_factor_coeffs rows_most lent.factor_numbers_long lent.factor_coeffs_long (has_factor m) parts.numbers_pass;
      }

  pub kept_sound : Sound P (kept_state P m)
  kept_sound = record { fits = kept_fits; numbers = kept_numbers }
