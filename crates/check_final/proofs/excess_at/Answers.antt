-- `check_final::excess_at`: by its test. Assumes nothing.
use native.Mathlib.Omega.{arith}
use borrow.Author.Tests.{lt-ltb, le-ltb}
use Rattle.rules.specs.Plan.{var_min, var_max}
use Rattle.rules.specs.FinalCheck.{value_excess, row_excess, excess_at}
use Rattle.check_final.proofs.Fits.{row_lent}
use Rattle.check_final.proofs.excess_at.Goals as goal

pub returns-then-k-count : goal.returns-then-k-count
unfolding excess_at value_excess var_min var_max
returns-then-k-count c = rw (lt-ltb _ _ c.if-k-count.true, excess_at) c.value_excess.ensures

pub row_excess-requires : goal.row_excess-requires
row_excess-requires c =
    record {
      row_reads = row_lent _ _ (c.requires.0.rows.row _ (omega (arith, c.requires.1, c.if-k-count.false)));
      kept_bound = (c.requires.0.rows.room, omega (arith, c.requires.1, c.if-k-count.false));
    }

pub returns : goal.returns
unfolding excess_at row_excess
returns c = rw (le-ltb _ _ c.if-k-count.false, excess_at) c.row_excess.ensures
