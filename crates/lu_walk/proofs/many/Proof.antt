-- `lu_walk::many` meets its contract: what the column has, or nothing. Assumes nothing.
use mathlib.Core.Path.{refl}
use native.Mathlib.Omega.{arith}
use borrow.Author.Rules.{rules}
use borrow.Author.Tests.{lt-ltb, le-ltb}
use Rattle.lu_walk.specs.Walk.{many_in}
use Rattle.lu_walk.proofs.many.Statement.{statement}
use Rattle.lu_walk.proofs.many.Tie as tie

add-result : tie.Need-overflow_add-result
add-result c = search rules

mul-result : tie.Need-offset_bounds-starts-number
mul-result c = let s : tie.Start = search in omega (arith, s.requires c.if-number-bound.true)

shared-slice-read-result : tie.Need-bounds-starts-number
shared-slice-read-result c = let s : tie.Start = search in omega (arith, s.requires c.if-number-bound.true)

mul-result-2 : tie.Need-offset_bounds-starts-number-then-number-bound
mul-result-2 c = let s : tie.Start = search in omega (arith, s.requires c.if-number-bound.true)

shared-slice-read-result-2 : tie.Need-bounds-starts-number-then-number-bound
shared-slice-read-result-2 c = let s : tie.Start = search in omega (arith, s.requires c.if-number-bound.true)

sub-result : tie.Need-overflow_sub-result
sub-result c = let s : tie.Start = search in (s.requires c.if-number-bound.true).1

returns : tie.Need-returns-then-number-bound
unfolding many_in
returns c = rw (lt-ltb _ _ c.if-number-bound.true) refl

returns-2 : tie.Need-returns
unfolding many_in
returns-2 c = rw (le-ltb _ _ c.if-number-bound.false) refl

pub many_spec : {M : Type 1} → statement M
many_spec =
    tie.close
    (tie.spec
    add-result
    mul-result
    shared-slice-read-result
    mul-result-2
    shared-slice-read-result-2
    sub-result
    returns
    returns-2)
