-- `whole_multipliers::slack_price`: by where the slack stands. Assumes nothing.
use mathlib.Core.List.{[]}
use Prim.Native.Nat.{◌+◌, ◌<◌}
use native.Mathlib.Omega.{arith}
use Rattle.doubles.specs.Limits.{vars}
use Rattle.whole_multipliers.specs.Rows.{before, rows_of}
use Rattle.whole_multipliers.proofs.Laws.{before_few, dropped, non_basic, basic}
use borrow.Author.Rules.{rules}
use Rattle.whole_multipliers.proofs.slack_price.Statement.{statement}
use Rattle.whole_multipliers.proofs.slack_price.Tie as tie

abbrev start : tie.After-kept_before → tie.Start
start k = search

-- the slack's number
found : (k : tie.After-kept_before) → (start k).args.columns + k.kept_before.result < vars
found k =
    let s = start k in
    omega
    (arith, k.kept_before.ensures, before_few (rows_of 0 0 s.args.starts.now []) s.args.i, s.requires.0, s.requires.1)

mul-if1 : tie.Need-offset_bounds-starts-i
mul-if1 c = search rules

shared-slice-read-if1 : tie.Need-bounds-starts-i
shared-slice-read-if1 c = search rules

add-if1 : tie.Need-overflow_add-i
add-if1 c = search rules

mul-if1-2 : tie.Need-offset_bounds-starts-i-2
mul-if1-2 c = search rules

shared-slice-read-if1-2 : tie.Need-bounds-starts-i-2
shared-slice-read-if1-2 c = search rules

returns : tie.Need-returns-then-starts-i
returns c = let s : tie.Start = search in
    dropped s.args.columns s.args.rows s.args.starts.now s.args.ops.now s.args.numbers.now
    s.args.doubles.now s.args.i c.if-starts-i.true

kept-before-requires : tie.Need-kept_before-requires
kept-before-requires c κs = search rules

add-slack : tie.Need-overflow_add-slack
add-slack c = let k : tie.After-kept_before = search in let s : tie.Start = search in omega (arith, found k, s.requires.0)

add-cell : tie.Need-overflow_add-cell
add-cell c = let k : tie.After-kept_before = search in let s : tie.Start = search in omega (arith, found k, s.requires.0)

mul-cell : tie.Need-offset_bounds-numbers-slack
mul-cell c = let k : tie.After-kept_before = search in let s : tie.Start = search in omega (arith, found k, s.requires.0)

shared-slice-read-cell : tie.Need-bounds-numbers-slack
shared-slice-read-cell c =
    let k : tie.After-kept_before = search in let s : tie.Start = search in omega (arith, found k, s.requires.0)

add-result : tie.Need-overflow_add-result
add-result c = search rules

mul-result : tie.Need-offset_bounds-doubles-cell
mul-result c = search rules

shared-slice-read-result : tie.Need-bounds-doubles-cell
shared-slice-read-result c = search rules

returns-2 : tie.Need-returns-then-cell-columns
unfolding before
returns-2 c =
    let s : tie.Start = search in
    let e : tie.Else-starts-i = search in
    let k : tie.After-kept_before = search in
    let i : tie.Then-cell-columns = search in
    non_basic s.args.columns s.args.rows s.args.starts.now s.args.ops.now s.args.numbers.now
    s.args.doubles.now s.args.i
    e.if-starts-i.false _ k.kept_before.ensures (found k) i.if-cell-columns.true s.requires.0.columns_fit

returns-3 : tie.Need-returns
unfolding before
returns-3 c =
    let e : tie.Else-starts-i = search in
    let k : tie.After-kept_before = search in
    let s : tie.Start = search in
    basic s.args.columns s.args.rows s.args.starts.now s.args.ops.now s.args.numbers.now
    s.args.doubles.now s.args.i
    e.if-starts-i.false _ k.kept_before.ensures (found k) c.if-cell-columns.false

pub slack_price_spec : {M : Type 1} → statement M
slack_price_spec =
    tie.close
    (tie.spec
    mul-if1
    shared-slice-read-if1
    add-if1
    mul-if1-2
    shared-slice-read-if1-2
    returns
    kept-before-requires
    add-slack
    add-cell
    mul-cell
    shared-slice-read-cell
    add-result
    mul-result
    shared-slice-read-result
    returns-2
    returns-3)
