-- Kept rows that can be read: those of a problem that fits, and what a wider vector, and a call of this crate's, asks of them. Assumes nothing.
use Prim.Native.Nat.{ℕ, ◌+◌, ◌≤◌}
use native.Mathlib.Omega.{arith}
use lib.ListN.{length}
use Rattle.doubles.specs.Lists.{◌#◌}
use Rattle.sparse.specs.Scattered.{Within}
use Rattle.rules.specs.Plan.{Problem, n_of, row_cols, row_coeffs}
use Rattle.rules.specs.Invariant.{ProblemFits}
use Rattle.rules.proofs.Lists.{part_long}
use Rattle.plan.specs.Lent.{RowIn}
use Rattle.plan.specs.Kept.{bare, RowReads, RowsRead}

module _ (P : Problem) (w r : ℕ) (a : RowReads P w r) where
  pub cols_in : RowIn P.plan.starts (length P.plan.cols) (P.kept # r)
  cols_in = record { has = a.has; rises = a.rises; ends = a.cols_end }

  pub coeffs_in : RowIn P.plan.starts (length P.plan.coeffs) (P.kept # r)
  coeffs_in = record { has = a.has; rises = a.rises; ends = a.coeffs_end }

  -- as many coefficients as columns, each below w
  pub row_read : (length (row_cols P.plan (P.kept # r)) ≤ length (row_coeffs P.plan (P.kept # r)))
      × Within w (length (row_cols P.plan (P.kept # r))) (row_cols P.plan (P.kept # r))
  row_read =
      let s = P.plan.starts in
      let i = P.kept # r in (
        omega (arith, part_long (s # i) (s # (i + 1)) P.plan.cols a.cols_end, part_long (s # i) (s # (i + 1)) P.plan.coeffs a.coeffs_end),
        record { inside = a.col },
      )

pub fits_read : (P : Problem) → ProblemFits P → RowsRead (bare P) (n_of P)
fits_read P f =
    record {
      row = λ r l.
          let k = f.kept r l in
          let g = f.plan.row (P.kept # r) k.inside in
          record {
            has = omega (arith, f.plan.starts_long, k.inside);
            rises = g.rises;
            cols_end = omega (arith, g.ends, f.plan.cols_long);
            coeffs_end = omega (arith, g.ends, f.plan.coeffs_long);
            col = g.col;
          };
    }

pub wider : {P : Problem} {n w r : ℕ} → n ≤ w → RowReads P n r → RowReads P w r
wider h a = record { has = a.has; rises = a.rises; cols_end = a.cols_end; coeffs_end = a.coeffs_end; col = λ k g. omega (arith, a.col k g) }

pub widened : {P : Problem} {n w : ℕ} → n ≤ w → RowsRead P n → RowsRead P w
widened h a = record { row = λ r l. wider h (a.row r l) }
