-- `file_walk::pass_blocks` meets its contract: one array's blocks behind another's. Assumes nothing.
use Prim.Native.Nat.{◌*◌, ◌≤◌}
use native.Mathlib.Omega.{arith}
use Rattle.file_walk.proofs.Laws.{array_place, cells_few, all_passed}
use Rattle.file_walk.proofs.pass_blocks.Statement.{statement}
use Rattle.file_walk.proofs.pass_blocks.Tie as tie

few : (s : tie.Start) → s.args.rows * s.args.columns ≤ 12288
few s = cells_few s.args.rows s.args.columns s.requires.0 s.requires.1

-- no more than three blocks for each array behind the coefficients
place_1 : (c : tie.After-pass_array-a) → c.pass_array-a.result.place ≤ 200
place_1 c = let s = c.before.before in omega (arith, array_place s.args.file.now 2 (8 * (s.args.rows * s.args.columns)) _ c.pass_array-a.result c.pass_array-a.ensures, few s, s.requires.0, s.requires.1)

place_2 : (c : tie.After-pass_array-b) → c.pass_array-b.result.place ≤ 203
place_2 c = let s = c.before.before.before in omega (arith, array_place s.args.file.now 3 (8 * s.args.columns) c.pass_array-a.result c.pass_array-b.result c.pass_array-b.ensures, place_1 c.before, s.requires.0, s.requires.1)

place_3 : (c : tie.After-pass_array-c) → c.pass_array-c.result.place ≤ 206
place_3 c = let s = c.before.before.before.before in omega (arith, array_place s.args.file.now 4 (8 * s.args.columns) c.pass_array-b.result c.pass_array-c.result c.pass_array-c.ensures, place_2 c.before, s.requires.0, s.requires.1)

place_4 : (c : tie.After-pass_array-d) → c.pass_array-d.result.place ≤ 209
place_4 c = let s = c.before.before.before.before.before in omega (arith, array_place s.args.file.now 5 (8 * s.args.columns) c.pass_array-c.result c.pass_array-d.result c.pass_array-d.ensures, place_3 c.before, s.requires.0, s.requires.1)

place_5 : (c : tie.After-pass_array-e) → c.pass_array-e.result.place ≤ 212
place_5 c = let s = c.before.before.before.before.before.before in omega (arith, array_place s.args.file.now 6 s.args.columns c.pass_array-d.result c.pass_array-e.result c.pass_array-e.ensures, place_4 c.before, s.requires.0, s.requires.1)

place_6 : (c : tie.After-pass_array-f) → c.pass_array-f.result.place ≤ 215
place_6 c = let s = c.before.before.before.before.before.before.before in omega (arith, array_place s.args.file.now 7 s.args.columns c.pass_array-e.result c.pass_array-f.result c.pass_array-f.ensures, place_5 c.before, s.requires.0, s.requires.1)

place_7 : (c : tie.After-pass_array-g) → c.pass_array-g.result.place ≤ 218
place_7 c = let s = c.before.before.before.before.before.before.before.before in omega (arith, array_place s.args.file.now 8 (8 * s.args.rows) c.pass_array-f.result c.pass_array-g.result c.pass_array-g.ensures, place_6 c.before, s.requires.0, s.requires.1)

place_8 : (c : tie.After-pass_array-h) → c.pass_array-h.result.place ≤ 221
place_8 c = let s = c.before.before.before.before.before.before.before.before.before in omega (arith, array_place s.args.file.now 9 s.args.rows c.pass_array-g.result c.pass_array-h.result c.pass_array-h.ensures, place_7 c.before, s.requires.0, s.requires.1)

place_9 : (c : tie.After-pass_array-i) → c.pass_array-i.result.place ≤ 224
place_9 c = let s = c.before.before.before.before.before.before.before.before.before.before in omega (arith, array_place s.args.file.now 10 (8 * s.args.columns) c.pass_array-h.result c.pass_array-i.result c.pass_array-i.ensures, place_8 c.before, s.requires.0, s.requires.1)

place_10 : (c : tie.After-pass_array-j) → c.pass_array-j.result.place ≤ 227
place_10 c = let s = c.before.before.before.before.before.before.before.before.before.before.before in omega (arith, array_place s.args.file.now 10 (8 * s.args.rows) c.pass_array-i.result c.pass_array-j.result c.pass_array-j.ensures, place_9 c.before, s.requires.0, s.requires.1)

mul-pass-array : tie.Need-overflow_mul-rows
mul-pass-array c = let s : tie.Start = search in omega (arith, few s)

mul-pass-array-2 : tie.Need-overflow_mul-rows-2
mul-pass-array-2 c = let s : tie.Start = search in omega (arith, few s)

pass-array-requires : tie.Need-pass_array-a-requires
pass-array-requires c κs = let s : tie.Start = search in omega (arith, few s)

mul-pass-array-3 : tie.Need-overflow_mul-columns
mul-pass-array-3 c = let s : tie.Start = search in omega (arith, s.requires.0, s.requires.1)

pass-array-requires-2 : tie.Need-pass_array-b-requires
pass-array-requires-2 c κs = let s : tie.Start = search in omega (arith, place_1 c, s.requires.0, s.requires.1)

mul-pass-array-4 : tie.Need-overflow_mul-columns-2
mul-pass-array-4 c = let s : tie.Start = search in omega (arith, s.requires.0, s.requires.1)

pass-array-requires-3 : tie.Need-pass_array-c-requires
pass-array-requires-3 c κs = let s : tie.Start = search in omega (arith, place_2 c, s.requires.0, s.requires.1)

mul-pass-array-5 : tie.Need-overflow_mul-columns-3
mul-pass-array-5 c = let s : tie.Start = search in omega (arith, s.requires.0, s.requires.1)

pass-array-requires-4 : tie.Need-pass_array-d-requires
pass-array-requires-4 c κs = let s : tie.Start = search in omega (arith, place_3 c, s.requires.0, s.requires.1)

pass-array-requires-5 : tie.Need-pass_array-e-requires
pass-array-requires-5 c κs = let s : tie.Start = search in omega (arith, place_4 c, s.requires.0, s.requires.1)

pass-array-requires-6 : tie.Need-pass_array-f-requires
pass-array-requires-6 c κs = let s : tie.Start = search in omega (arith, place_5 c, s.requires.0, s.requires.1)

mul-pass-array-6 : tie.Need-overflow_mul-rows-3
mul-pass-array-6 c = let s : tie.Start = search in omega (arith, s.requires.0, s.requires.1)

pass-array-requires-7 : tie.Need-pass_array-g-requires
pass-array-requires-7 c κs = let s : tie.Start = search in omega (arith, place_6 c, s.requires.0, s.requires.1)

pass-array-requires-8 : tie.Need-pass_array-h-requires
pass-array-requires-8 c κs = let s : tie.Start = search in omega (arith, place_7 c, s.requires.0, s.requires.1)

mul-pass-array-7 : tie.Need-overflow_mul-columns-4
mul-pass-array-7 c = let s : tie.Start = search in omega (arith, s.requires.0, s.requires.1)

pass-array-requires-9 : tie.Need-pass_array-i-requires
pass-array-requires-9 c κs = let s : tie.Start = search in omega (arith, place_8 c, s.requires.0, s.requires.1)

mul-pass-array-8 : tie.Need-overflow_mul-rows-4
mul-pass-array-8 c = let s : tie.Start = search in omega (arith, s.requires.0, s.requires.1)

pass-array-requires-10 : tie.Need-pass_array-j-requires
pass-array-requires-10 c κs = let s : tie.Start = search in omega (arith, place_9 c, s.requires.0, s.requires.1)

pass-block-requires : tie.Need-pass_block-requires
pass-block-requires c κs = (omega (arith, place_10 c), omega arith)

returns : tie.Need-returns
returns c = all_passed _ _ _ _ _ _ _ _ _ _ _ _ _ _ _
    c.pass_array-a.ensures
    c.pass_array-b.ensures
    c.pass_array-c.ensures
    c.pass_array-d.ensures
    c.pass_array-e.ensures
    c.pass_array-f.ensures
    c.pass_array-g.ensures
    c.pass_array-h.ensures
    c.pass_array-i.ensures
    c.pass_array-j.ensures
    c.pass_block.ensures

pub pass_blocks_spec : {M : Type 1} → statement M
pass_blocks_spec =
    tie.close
    (tie.spec
    mul-pass-array
    mul-pass-array-2
    pass-array-requires
    mul-pass-array-3
    pass-array-requires-2
    mul-pass-array-4
    pass-array-requires-3
    mul-pass-array-5
    pass-array-requires-4
    pass-array-requires-5
    pass-array-requires-6
    mul-pass-array-6
    pass-array-requires-7
    pass-array-requires-8
    mul-pass-array-7
    pass-array-requires-9
    mul-pass-array-8
    pass-array-requires-10
    pass-block-requires
    returns)
