-- `whole_propose::first_not_whole`: amounts, then multipliers. Assumes nothing.
use mathlib.Core.Path.{sym, ◌∙◌}
use mathlib.Core.List.{[]}
use Rattle.rules.specs.Plan.{Plan, Memory}
use Rattle.state.specs.Memory.{memory_in}
use Rattle.whole_multipliers.specs.Rows.{rows_of}
use Rattle.whole_propose.proofs.Laws.{same_first, same_multiplier, amount_is, multiplier_is, all_whole}
use borrow.Author.Rules.{rules}
use Rattle.whole_propose.proofs.first_not_whole.Statement.{statement}
use Rattle.whole_propose.proofs.first_not_whole.Tie as tie

abbrev p : tie.Start → Plan
p s = rows_of s.args.columns s.args.rows s.args.starts.now s.args.ops.now

abbrev m : tie.Start → Memory
m s = memory_in s.args.values.now s.args.numbers.now s.args.doubles.now [] []

first-amount-requires : tie.Need-first_amount-j-requires
first-amount-requires c κs = search rules

mul-amount : tie.Need-offset_bounds-values-j
mul-amount c = search rules

shared-slice-read-amount : tie.Need-bounds-values-j
shared-slice-read-amount c = search rules

amount-requires : tie.Need-amount-requires
amount-requires c κs = search rules

returns : tie.Need-returns-then-j-columns
returns c =
    let s : tie.Start = search in
    let f : tie.After-first_amount-j = search in
    let t : tie.Then-j-columns = search in
    amount_is (p s) (m s) f.first_amount-j.ensures t.if-j-columns.true c.amount.ensures

first-multiplier-requires : tie.Need-first_multiplier-i-requires
first-multiplier-requires c κs = search rules

row-multiplier-requires : tie.Need-row_multiplier-requires
row-multiplier-requires c κs = search rules

returns-2 : tie.Need-returns-then-i-rows
returns-2 c =
    let s : tie.Start = search in
    let f : tie.After-first_amount-j = search in
    let e : tie.Else-j-columns = search in
    let g : tie.After-first_multiplier-i = search in
    let t : tie.Then-i-rows = search in
    multiplier_is (p s) (m s) f.first_amount-j.ensures e.if-j-columns.false
    (g.first_multiplier-i.ensures ∙ sym (same_first (p s) s.args.values.now s.args.numbers.now s.args.doubles.now))
    t.if-i-rows.true
    (c.row_multiplier.ensures ∙ sym (same_multiplier (p s) s.args.values.now s.args.numbers.now s.args.doubles.now _))

returns-3 : tie.Need-returns
returns-3 c =
    let s : tie.Start = search in
    let f : tie.After-first_amount-j = search in
    let e : tie.Else-j-columns = search in
    let g : tie.After-first_multiplier-i = search in
    all_whole (p s) (m s) f.first_amount-j.ensures e.if-j-columns.false
    (g.first_multiplier-i.ensures ∙ sym (same_first (p s) s.args.values.now s.args.numbers.now s.args.doubles.now))
    c.if-i-rows.false

pub first_not_whole_spec : {M : Type 1} → statement M
first_not_whole_spec =
    tie.close
    (tie.spec
    first-amount-requires
    mul-amount
    shared-slice-read-amount
    amount-requires
    returns
    first-multiplier-requires
    row-multiplier-requires
    returns-2
    returns-3)
