-- `lu_transpose::place_one` meets its contract: an entry right before those of its row. Assumes nothing.
use mathlib.Core.Path.{refl}
use native.Mathlib.Omega.{arith}
use Rattle.lu_factor_rules.specs.Transpose.{placed_one}
use Rattle.lu_transpose.proofs.place_one.Statement.{statement}
use Rattle.lu_transpose.proofs.place_one.Tie as tie

mul-p : tie.Need-offset_bounds-tstarts-r
mul-p c = let s : tie.Start = search in omega (arith, s.requires.row, s.requires.some, s.requires.most)

element-copy-out-p : tie.Need-bounds-tstarts-r
element-copy-out-p c = let s : tie.Start = search in omega (arith, s.requires.row, s.requires.some, s.requires.most)

sub-p : tie.Need-overflow_sub-p
sub-p c = let s : tie.Start = search in omega (arith, s.requires.row, s.requires.some, s.requires.most)

mul-tstarts : tie.Need-offset_bounds-tstarts-r-2
mul-tstarts c = let s : tie.Start = search in omega (arith, s.requires.row, s.requires.some, s.requires.most)

element-write-tstarts : tie.Need-bounds-tstarts-r-2
element-write-tstarts c = let s : tie.Start = search in omega (arith, s.requires.row, s.requires.some, s.requires.most)

mul-trows : tie.Need-offset_bounds-trows-p
mul-trows c = let s : tie.Start = search in omega (arith, s.requires.row, s.requires.some, s.requires.most)

element-write-trows : tie.Need-bounds-trows-p
element-write-trows c = let s : tie.Start = search in omega (arith, s.requires.row, s.requires.some, s.requires.most)

mul-tvals : tie.Need-offset_bounds-tvals-p
mul-tvals c = let s : tie.Start = search in omega (arith, s.requires.row, s.requires.some, s.requires.most)

element-write-tvals : tie.Need-bounds-tvals-p
element-write-tvals c = let s : tie.Start = search in omega (arith, s.requires.row, s.requires.some, s.requires.most)

returns : tie.Need-returns
unfolding placed_one
returns c = refl

pub place_one_spec : {M : Type 1} → statement M
place_one_spec =
    tie.close
    (tie.spec
    mul-p
    element-copy-out-p
    sub-p
    mul-tstarts
    element-write-tstarts
    mul-trows
    element-write-trows
    mul-tvals
    element-write-tvals
    returns)
