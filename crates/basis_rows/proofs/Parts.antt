-- What callers use: the rows of a problem are those of the part that is lent, and a problem and a vector that fit give what `combine`, `relist` and `listed_finite` ask. Assumes nothing.
use mathlib.Core.Path.{◌≡◌, refl}
use mathlib.Core.List.{List}
use Prim.Native.Nat.{ℕ, ◌+◌, ◌≤◌}
use native.Mathlib.Omega.{arith}
use Rattle.doubles.specs.Limits.{places}
use Rattle.sparse.specs.Scattered.{Sv, blank, Within, Fresh}
use Rattle.sparse.proofs.Laws.{wf_listed}
use Rattle.rules.specs.Plan.{Problem, n_of, m_of}
use Rattle.rules.specs.Parts.{rowed}
use Rattle.rules.specs.Basis.{add_row, combine}
use Rattle.rules.specs.Invariant.{ProblemFits, Vector}
use Rattle.rules.proofs.Vectors.{columns_places}
use Rattle.plan.proofs.Kept.{fits_read, wider}
use Rattle.basis_rows.specs.Lent.{RowsLent}

pub fresh_blank : Fresh blank
fresh_blank = record { fresh = refl }

module _ (P : Problem) where
  abbrev pub rows_of : Problem
  rows_of = rowed (n_of P) P.plan.starts P.plan.cols P.plan.coeffs P.kept

  pub combine_part : (vs : List ℕ) (y : Sv) → combine P vs y ≡ combine rows_of vs y
  unfolding combine add_row
  combine_part vs y = refl

  module _ (f : ProblemFits P) where
    pub fits_rows : (cells : ℕ) → n_of P + m_of P ≤ cells → RowsLent rows_of cells
    fits_rows cells h =
        record {
          columns = columns_places P f;
          row = λ r l. record { inside = l; reads = wider {w = cells} (omega arith) ((fits_read P f).row r l); slack = omega arith };
        }

-- a vector in order lists at most as many places as there are, each of them one
pub vector_listed : {m : ℕ} (y : Sv) → Vector m y → (y.pat.count ≤ places) × Within places y.pat.count y.pat.list
vector_listed y v = (v.good.wf.within, record { inside = wf_listed y.pat v.good.wf })
