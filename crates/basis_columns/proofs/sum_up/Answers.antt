-- `basis_columns::sum_up` meets its contract. Assumes nothing.
use Rattle.std.proofs.Common.{◌≡◌, ◌+◌, sym, arith}
use Rattle.doubles.proofs.Loops.{filled_none, filled_more, filled_over}
use Rattle.basis_columns.proofs.Counts.{sum_zero, sum_next, sum_rises}
use Rattle.basis_columns.proofs.sum_up.Goals as goal

pub loop-j-init : goal.loop-j-init
loop-j-init c = (sym (sum_zero _), filled_none, filled_none)

pub overflow_add-at : goal.overflow_add-at
overflow_add-at c =
    let j = c.loop-j.j in
    omega (arith, c.loop-j.invariant.0, sum_next c.args.counts.now j, sum_rises c.args.counts.now (j + 1) c.args.n (omega arith), c.requires.n_le_max_columns.1)

pub loop-j-preserved : goal.loop-j-preserved
loop-j-preserved c =
    let q = c.loop-j.invariant.0 in (
      omega (arith, q, sum_next c.args.counts.now c.loop-j.j),
      filled_more c.loop-j.invariant.1 (omega arith) q,
      filled_more c.loop-j.invariant.2 (omega arith) q,
    )

pub returns : goal.returns
returns c =
    let e : c.loop-j.j ≡ c.args.n = omega arith in
    let f = rw e at c.loop-j.invariant.1 in
    (filled_over (filled_more f (omega arith) (rw e at c.loop-j.invariant.0)), filled_over (rw e at c.loop-j.invariant.2))
