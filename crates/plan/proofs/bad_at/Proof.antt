-- `plan::bad_at` meets its contract: each answer is the test's, by the tests that led to it. Assumes nothing.
use borrow.Author.Tests.{le-leb, lt-leb, lt-ltb, le-ltb}
use Rattle.rules.specs.Refusals.{bad_at}
use borrow.Author.Rules.{rules}
use Rattle.plan.proofs.bad_at.Statement.{statement}
use Rattle.plan.proofs.bad_at.Tie as tie

mul-col : tie.Need-offset_bounds-cols-k
mul-col c = search rules

shared-slice-read-col : tie.Need-bounds-cols-k
shared-slice-read-col c = search rules

returns : tie.Need-returns-then-columns-col
unfolding bad_at
returns c = simp (le-leb _ _ c.if-columns-col.true)

sub-result : tie.Need-overflow_sub-result
sub-result c = search rules

mul-result : tie.Need-offset_bounds-cols-k-then-k-gt0
mul-result c = search rules

shared-slice-read-result : tie.Need-bounds-cols-k-then-k-gt0
shared-slice-read-result c = search rules

returns-2 : tie.Need-returns-then-k-gt0
unfolding bad_at
returns-2 c = simp (lt-leb _ _ c.if-columns-col.false, lt-ltb _ _ c.if-k-gt0.true)

returns-3 : tie.Need-returns
unfolding bad_at
returns-3 c = simp (lt-leb _ _ c.if-columns-col.false, le-ltb _ _ c.if-k-gt0.false)

pub bad_at_spec : {M : Type 1} → statement M
bad_at_spec =
    tie.close
    (tie.spec
    mul-col
    shared-slice-read-col
    returns
    sub-result
    mul-result
    shared-slice-read-result
    returns-2
    returns-3)
