-- `check_final::row_excess`: the row's sum and its slack. Assumes nothing.
use native.Mathlib.Omega.{arith}
use lib.ListN.{length}
use Rattle.rules.specs.FinalCheck.{row_excess}
use Rattle.plan.proofs.Kept.{row_read, wider}
use Rattle.check_final.proofs.row_excess.Goals as goal

pub dot-sum-requires : goal.dot-sum-requires
dot-sum-requires c =
    let b = wider {w = length c.args.xs.now} (omega (arith, c.requires.kept_bound)) c.requires.row_reads.entries in
    rw (c.row_cols-at.ensures, c.row_coeffs.ensures) (row_read _ _ _ b)

pub returns : goal.returns
unfolding row_excess
returns c = rw (c.counted.ensures, c.abs.ensures, c.dot-sum.ensures, c.row_cols-at.ensures, c.row_coeffs.ensures)
