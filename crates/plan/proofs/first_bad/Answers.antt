-- `plan::first_bad` meets its contract. Assumes nothing.
use mathlib.Core.Path.{sym, ◌∙◌}
use Rattle.doubles.proofs.Loops.{seeks, hit, passed}
use Rattle.rules.specs.Refusals.{first_bad_row}
use Rattle.plan.specs.Lent.{rows_of}
use Rattle.plan.proofs.Laws.{bad_here, none_here, bad_nothing, bad_entry_holds}
use Rattle.plan.proofs.first_bad.Goals as goal

pub loop-row-init : goal.loop-row-init
unfolding first_bad_row
loop-row-init c = seeks _ _

pub loop-place-preserved : goal.loop-place-preserved
loop-place-preserved c =
    passed c.loop-place.invariant (rw c.row_cols-part.ensures at c.loop-place-test.true) (sym (rw c.row_cols-part.ensures at c.bad_at.ensures) ∙ c.if-bad_at.false)

pub loop-row-preserved : goal.loop-row-preserved
loop-row-preserved c =
    let p = rows_of c.args.columns c.args.rows c.args.starts.now c.args.cols.now in
    passed c.loop-row.invariant c.loop-row-test.true (none_here p _ _ c.loop-place.invariant (rw c.row_cols-part.ensures at c.loop-place-test.false))

pub returns-then-bad_at : goal.returns-then-bad_at
returns-then-bad_at c =
    let p = rows_of c.args.columns c.args.rows c.args.starts.now c.args.cols.now in
    let h = rw c.row_cols-part.ensures at c.loop-place-test.true in
    let e = sym (rw c.row_cols-part.ensures at c.bad_at.ensures) ∙ c.if-bad_at.true in
    bad_entry_holds p _ c.loop-row.invariant _ c.loop-row-test.true (bad_here p _ _ c.loop-place.invariant h e) (hit c.loop-place.invariant h e)

pub returns-after-loop-row : goal.returns-after-loop-row
returns-after-loop-row c = bad_nothing _ _ c.loop-row.invariant c.loop-row-test.false c.loop-row.auto.row-end
