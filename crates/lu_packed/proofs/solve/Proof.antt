-- `lu_packed::solve` meets its contract: the parts lie within the arrays, and the solve is that of the parts. Assumes
-- nothing.
use native.Mathlib.Omega.{arith}
use Rattle.lu_factor_rules.specs.Packed.{packed_solve}
use Rattle.lu_packed.proofs.solve.Statement.{statement}
use Rattle.lu_packed.proofs.solve.Tie as tie

sub-solve : tie.Need-slice_bounds-solve-count
sub-solve c = omega arith

part-solve-start : tie.Need-slice_bounds-solve-start
part-solve-start c = omega arith

part-solve-end : tie.Need-slice_bounds-solve-end
part-solve-end c = let s : tie.Start = search in omega (arith, s.requires.0)

sub-solve-2 : tie.Need-slice_bounds-solve-count-2
sub-solve-2 c = omega arith

part-solve-start-2 : tie.Need-slice_bounds-solve-start-2
part-solve-start-2 c = omega arith

part-solve-end-2 : tie.Need-slice_bounds-solve-end-2
part-solve-end-2 c = let s : tie.Start = search in omega (arith, s.requires.0)

sub-solve-3 : tie.Need-slice_bounds-solve-count-3
sub-solve-3 c = omega arith

part-solve-start-3 : tie.Need-slice_bounds-solve-start-3
part-solve-start-3 c = omega arith

part-solve-end-3 : tie.Need-slice_bounds-solve-end-3
part-solve-end-3 c = let s : tie.Start = search in omega (arith, s.requires.0)

sub-solve-4 : tie.Need-slice_bounds-solve-count-4
sub-solve-4 c = omega arith

part-solve-start-4 : tie.Need-slice_bounds-solve-start-4
part-solve-start-4 c = omega arith

part-solve-end-4 : tie.Need-slice_bounds-solve-end-4
part-solve-end-4 c = let s : tie.Start = search in omega (arith, s.requires.0)

sub-solve-5 : tie.Need-slice_bounds-solve-count-5
sub-solve-5 c = omega arith

part-solve-start-5 : tie.Need-slice_bounds-solve-start-5
part-solve-start-5 c = omega arith

part-solve-end-5 : tie.Need-slice_bounds-solve-end-5
part-solve-end-5 c = let s : tie.Start = search in omega (arith, s.requires.0)

sub-solve-6 : tie.Need-slice_bounds-solve-count-6
sub-solve-6 c = omega arith

part-solve-start-6 : tie.Need-slice_bounds-solve-start-6
part-solve-start-6 c = omega arith

part-solve-end-6 : tie.Need-slice_bounds-solve-end-6
part-solve-end-6 c = let s : tie.Start = search in omega (arith, s.requires.0)

sub-solve-7 : tie.Need-slice_bounds-solve-count-7
sub-solve-7 c = omega arith

part-solve-start-7 : tie.Need-slice_bounds-solve-start-7
part-solve-start-7 c = omega arith

part-solve-end-7 : tie.Need-slice_bounds-solve-end-7
part-solve-end-7 c = let s : tie.Start = search in omega (arith, s.requires.0)

sub-solve-8 : tie.Need-slice_bounds-solve-count-8
sub-solve-8 c = omega arith

part-solve-start-8 : tie.Need-slice_bounds-solve-start-8
part-solve-start-8 c = omega arith

part-solve-end-8 : tie.Need-slice_bounds-solve-end-8
part-solve-end-8 c = let s : tie.Start = search in omega (arith, s.requires.0)

solve-requires : tie.Need-solve-requires
solve-requires c κs = let s : tie.Start = search in s.requires.1

returns : tie.Need-returns
unfolding packed_solve
returns c = let a : tie.After-solve = search in a.solve.ensures

pub solve_spec : {M : Type 1} → statement M
solve_spec =
    tie.close
    (tie.spec
    sub-solve
    part-solve-start
    part-solve-end
    sub-solve-2
    part-solve-start-2
    part-solve-end-2
    sub-solve-3
    part-solve-start-3
    part-solve-end-3
    sub-solve-4
    part-solve-start-4
    part-solve-end-4
    sub-solve-5
    part-solve-start-5
    part-solve-end-5
    sub-solve-6
    part-solve-start-6
    part-solve-end-6
    sub-solve-7
    part-solve-start-7
    part-solve-end-7
    sub-solve-8
    part-solve-start-8
    part-solve-end-8
    solve-requires
    returns)
