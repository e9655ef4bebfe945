-- What is lent can be read: from the invariants of the plan and of the state, and from the whole for a part. Assumes nothing.
use Prim.Native.Nat.{ℕ, ◌+◌, ◌<◌, ◌≤◌}
use native.Mathlib.Omega.{arith}
use lib.ListN.{length}
use Rattle.doubles.specs.Limits.{vars}
use Rattle.doubles.specs.Lists.{◌#◌}
use Rattle.rules.specs.Plan.{Problem, Workspace, n_of, m_of}
use Rattle.rules.specs.Invariant.{ProblemFits, Lengths, Maps}
use Rattle.plan.proofs.Kept.{fits_read}
use Rattle.check_final.specs.Lent.{sizes_of, Valued, RowReads, Checkable}
use Rattle.check_final.proofs.Parts.{valued_by, checked_by, measured_by, rows_by}

pub row_lent : (P : Problem) (r : ℕ) → RowReads P r → RowReads (rows_by P) r
row_lent P r h = record { entries = h.entries; has_rhs = h.has_rhs }

pub measured : (P : Problem) → Checkable P → Checkable (measured_by P)
measured P h =
    record {
      sides = record { lower = h.sides.lower; upper = h.sides.upper };
      rows = record { room = h.rows.room; row = λ r l. record { entries = (h.rows.row r l).entries; has_rhs = (h.rows.row r l).has_rhs } };
    }

module _ (P : Problem) (f : ProblemFits P) where
  few : n_of P + m_of P ≤ vars
  few = omega (arith, f.plan.columns_most, f.plan.rows_most, f.few)

  pub fits_valued : (w : Workspace) → Lengths P w → Maps P w → Valued (sizes_of (n_of P) P.kept) (valued_by w)
  fits_valued w l m =
      record {
        room = few;
        placed = λ v h. record { has_cell = omega (arith, l.var_states_long); vals_long = l.nb_var_vals_long; cell_fits = omega (arith, (m.variable v h).cell, l.basic_var_vals_long) };
      }

  pub fits_checkable : Checkable (checked_by P)
  fits_checkable =
      let row : (r : ℕ) → r < m_of P → P.kept # r < length P.plan.ops = λ r h. omega (arith, (f.kept r h).inside, f.plan.ops_long) in
      record {
        sides = record {
          lower = record { bounds_long = f.plan.lowers_long; row_inside = row };
          upper = record { bounds_long = f.plan.uppers_long; row_inside = row };
        };
        rows = record { room = few; row = λ r h. record { entries = (fits_read P f).row r h; has_rhs = omega (arith, (f.kept r h).inside, f.plan.rhs_long) } };
      }
