-- What the solves keep, and that the columns of a store in order can be read. No contract cites this file. Assumes nothing.
use mathlib.Core.Path.{◌≡◌}
use mathlib.Core.List.{List}
use Prim.Native.Nat.{ℕ, ◌+◌, ◌<◌, ◌≤◌, ◌-◌}
use native.Mathlib.Omega.{arith}
use lib.ListN.{length}
use Rattle.doubles.specs.Limits.{places}
use Rattle.doubles.specs.Loop.{run}
use Rattle.doubles.specs.Lists.{◌!◌, ◌#◌}
use Rattle.doubles.proofs.Loops.{keeps}
use Rattle.sparse.specs.Scattered.{Sv, Good, Within}
use Rattle.sparse.proofs.Laws.{good_put_at, good_take_off}
use Rattle.rules.specs.Plan.{Etas, Problem, State, m_of}
use Rattle.rules.specs.Basis.{eta_rows_of, eta_coeffs_of, eta_turn, eta_turn_transp}
use Rattle.rules.specs.Invariant.{ProblemFits, Fits}
use Rattle.rules.proofs.Lists.{part_long, part_at}
use Rattle.rules.proofs.Vectors.{rows_places}
use Rattle.basis_etas.specs.Store.{ReadableCol, Readable}

-- ---- a column that can be read
module _ (h : Etas) (k : ℕ) (c : ReadableCol h k) where
  abbrev rows : List ℕ
  rows = eta_rows_of h k

  col_long : length rows ≡ h.starts # (k + 1) - h.starts # k
  col_long = part_long (h.starts # k) (h.starts # (k + 1)) h.rows c.rows_long

  -- as many coefficients as rows, and each row within a vector
  pub col_read : (length rows ≤ length (eta_coeffs_of h k)) × Within places (length rows) rows
  col_read = (
    omega (arith, col_long, part_long (h.starts # k) (h.starts # (k + 1)) h.coeffs c.coeffs_long),
    record {
      inside = λ i l.
          let b : i < h.starts # (k + 1) - h.starts # k = omega (arith, col_long) in
          rw (part_at (h.starts # k) (h.starts # (k + 1)) h.rows i 0 b) (c.rows (h.starts # k + i) (omega arith) (omega arith));
    },
  )

  good_eta_turn : (s : Sv) → Good places s → Good places (eta_turn h k s)
  unfolding eta_turn
  good_eta_turn s g = good_take_off (s.vals ! (h.leaving # k)) rows (eta_coeffs_of h k) col_read.1 s g

  pub good_eta_turn_transp : (s : Sv) → Good places s → Good places (eta_turn_transp h k s)
  unfolding eta_turn_transp
  good_eta_turn_transp s g = good_put_at s (h.leaving # k) _ g c.leaves

-- ---- a store that can be read
module _ (h : Etas) (n : ℕ) (r : Readable h n) (s : Sv) (g : Good places s) where
  pub good_etas : (k : ℕ) → k ≤ n → Good places (run (eta_turn h) k s)
  good_etas k l = keeps (eta_turn h) s (λ _. Good places) n (λ j t b p. good_eta_turn h j (r.column j b) t p) g k l

-- ---- the store of a state that fits: what `solve_etas` and `solve_etas_transp` ask
module _ (P : Problem) (f : ProblemFits P) (s : State) (g : Fits P s) where
  pub fits_readable : Readable s.ws.etas s.eta_count
  fits_readable =
      record {
        column = λ k b.
            let l = g.lengths in
            let st = g.store in
            let c = st.column k b in
            let m : m_of P ≤ places = rows_places P f in
            record {
              leaving_long = omega arith;
              starts_long = omega arith;
              leaves = omega arith;
              rises = c.rises;
              rows_long = omega arith;
              coeffs_long = omega arith;
              rows = λ i x y. omega (arith, c.rows i x y);
            };
      }
