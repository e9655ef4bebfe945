-- `step_prices::takes`: by its tests. Assumes nothing.
use borrow.Author.Rules.{rules}
use Rattle.step_prices.proofs.Passes.{taken_passed, taken_by, taken_small}
use Rattle.step_prices.proofs.takes.Statement.{statement}
use Rattle.step_prices.proofs.takes.Tie as tie

abs-requires : tie.Need-abs-size-requires
abs-requires c κs = search rules

read-flags-requires : tie.Need-read_flags-f-requires
read-flags-requires c κs = search rules

lets-in-requires : tie.Need-lets_in-requires
lets-in-requires c κs = search rules

clamped-requires : tie.Need-clamped-requires
clamped-requires c κs = search rules

abs-requires-2 : tie.Need-abs-requires
abs-requires-2 c κs = search rules

returns : tie.Need-returns-then-lets_in
returns c =
    let a : tie.After-abs-size = search in
    let v : tie.After-read_flags-f = search in
    let b : tie.After-lets_in = search in
    let q : tie.After-clamped = search in
    taken_by _ _ _ _ v.read_flags-f.ensures b.lets_in.ensures _ _ q.if-lets_in.true q.clamped.ensures c.abs.ensures a.abs-size.ensures v.if-best-size.true

returns-2 : tie.Need-returns-then-best-size
returns-2 c =
    let v : tie.After-read_flags-f = search in
    taken_passed _ _ _ _ v.read_flags-f.ensures c.lets_in.ensures _ _ c.if-lets_in.false

returns-3 : tie.Need-returns
returns-3 c = taken_small _ _ _ _ _ _ c.abs-size.ensures c.if-best-size.false

pub takes_spec : {M : Type 1} → statement M
takes_spec =
    tie.close
    (tie.spec
    abs-requires
    read-flags-requires
    lets-in-requires
    clamped-requires
    abs-requires-2
    returns
    returns-2
    returns-3)
