-- `lu_packed::solve_transp` meets its contract: the parts lie within the arrays, and the solve is that of the parts.
-- Assumes nothing.
use native.Mathlib.Omega.{arith}
use Rattle.lu_factor_rules.specs.Packed.{packed_solve_transp}
use Rattle.lu_packed.proofs.solve_transp.Statement.{statement}
use Rattle.lu_packed.proofs.solve_transp.Tie as tie

sub-solve-transp : tie.Need-slice_bounds-solve_transp-count
sub-solve-transp c = omega arith

part-solve-transp-start : tie.Need-slice_bounds-solve_transp-start
part-solve-transp-start c = omega arith

part-solve-transp-end : tie.Need-slice_bounds-solve_transp-end
part-solve-transp-end c = let s : tie.Start = search in omega (arith, s.requires.0)

sub-solve-transp-2 : tie.Need-slice_bounds-solve_transp-count-2
sub-solve-transp-2 c = omega arith

part-solve-transp-start-2 : tie.Need-slice_bounds-solve_transp-start-2
part-solve-transp-start-2 c = omega arith

part-solve-transp-end-2 : tie.Need-slice_bounds-solve_transp-end-2
part-solve-transp-end-2 c = let s : tie.Start = search in omega (arith, s.requires.0)

sub-solve-transp-3 : tie.Need-slice_bounds-solve_transp-count-3
sub-solve-transp-3 c = omega arith

part-solve-transp-start-3 : tie.Need-slice_bounds-solve_transp-start-3
part-solve-transp-start-3 c = omega arith

part-solve-transp-end-3 : tie.Need-slice_bounds-solve_transp-end-3
part-solve-transp-end-3 c = let s : tie.Start = search in omega (arith, s.requires.0)

sub-solve-transp-4 : tie.Need-slice_bounds-solve_transp-count-4
sub-solve-transp-4 c = omega arith

part-solve-transp-start-4 : tie.Need-slice_bounds-solve_transp-start-4
part-solve-transp-start-4 c = omega arith

part-solve-transp-end-4 : tie.Need-slice_bounds-solve_transp-end-4
part-solve-transp-end-4 c = let s : tie.Start = search in omega (arith, s.requires.0)

sub-solve-transp-5 : tie.Need-slice_bounds-solve_transp-count-5
sub-solve-transp-5 c = omega arith

part-solve-transp-start-5 : tie.Need-slice_bounds-solve_transp-start-5
part-solve-transp-start-5 c = omega arith

part-solve-transp-end-5 : tie.Need-slice_bounds-solve_transp-end-5
part-solve-transp-end-5 c = let s : tie.Start = search in omega (arith, s.requires.0)

sub-solve-transp-6 : tie.Need-slice_bounds-solve_transp-count-6
sub-solve-transp-6 c = omega arith

part-solve-transp-start-6 : tie.Need-slice_bounds-solve_transp-start-6
part-solve-transp-start-6 c = omega arith

part-solve-transp-end-6 : tie.Need-slice_bounds-solve_transp-end-6
part-solve-transp-end-6 c = let s : tie.Start = search in omega (arith, s.requires.0)

sub-solve-transp-7 : tie.Need-slice_bounds-solve_transp-count-7
sub-solve-transp-7 c = omega arith

part-solve-transp-start-7 : tie.Need-slice_bounds-solve_transp-start-7
part-solve-transp-start-7 c = omega arith

part-solve-transp-end-7 : tie.Need-slice_bounds-solve_transp-end-7
part-solve-transp-end-7 c = let s : tie.Start = search in omega (arith, s.requires.0)

sub-solve-transp-8 : tie.Need-slice_bounds-solve_transp-count-8
sub-solve-transp-8 c = omega arith

part-solve-transp-start-8 : tie.Need-slice_bounds-solve_transp-start-8
part-solve-transp-start-8 c = omega arith

part-solve-transp-end-8 : tie.Need-slice_bounds-solve_transp-end-8
part-solve-transp-end-8 c = let s : tie.Start = search in omega (arith, s.requires.0)

solve-transp-requires : tie.Need-solve_transp-requires
solve-transp-requires c κs = let s : tie.Start = search in s.requires.1

returns : tie.Need-returns
unfolding packed_solve_transp
returns c = let a : tie.After-solve_transp = search in a.solve_transp.ensures

pub solve_transp_spec : {M : Type 1} → statement M
solve_transp_spec =
    tie.close
    (tie.spec
    sub-solve-transp
    part-solve-transp-start
    part-solve-transp-end
    sub-solve-transp-2
    part-solve-transp-start-2
    part-solve-transp-end-2
    sub-solve-transp-3
    part-solve-transp-start-3
    part-solve-transp-end-3
    sub-solve-transp-4
    part-solve-transp-start-4
    part-solve-transp-end-4
    sub-solve-transp-5
    part-solve-transp-start-5
    part-solve-transp-end-5
    sub-solve-transp-6
    part-solve-transp-start-6
    part-solve-transp-end-6
    sub-solve-transp-7
    part-solve-transp-start-7
    part-solve-transp-end-7
    sub-solve-transp-8
    part-solve-transp-start-8
    part-solve-transp-end-8
    solve-transp-requires
    returns)
