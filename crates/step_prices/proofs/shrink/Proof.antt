-- `step_prices::shrink`: by its tests. Assumes nothing.
use mathlib.Core.Path.{sym, ◌∙◌}
use borrow.Author.Rules.{rules}
use Rattle.step_prices.proofs.Passes.{shrunk_passed, shrunk_less, shrunk_kept, shrunk_23}
use Rattle.step_prices.proofs.shrink.Statement.{statement}
use Rattle.step_prices.proofs.shrink.Tie as tie

read-flags-requires : tie.Need-read_flags-f-requires
read-flags-requires c κs = search rules

lets-in-requires : tie.Need-lets_in-requires
lets-in-requires c κs = search rules

clamped-requires : tie.Need-clamped-requires
clamped-requires c κs = search rules

abs-requires : tie.Need-abs-requires
abs-requires c κs = search rules

abs-requires-2 : tie.Need-abs-requires-then-lets_in
abs-requires-2 c κs = search rules

is-finite-requires : tie.Need-is_finite-requires
is-finite-requires c κs = search rules

returns : tie.Need-returns-then-quotient-step
returns c =
    let v : tie.After-read_flags-f = search in
    let b : tie.After-lets_in = search in
    let q : tie.After-clamped = search in
    let p : tie.After-abs = search in
    let e : tie.After-abs-then-lets_in = search in
    let k : tie.After-is_finite = search in
    shrunk_less _ _ _ _ v.read_flags-f.ensures b.lets_in.ensures q.if-lets_in.true _ q.clamped.ensures p.abs.ensures e.abs-then-lets_in.ensures (sym k.is_finite.ensures ∙ c.if-is_finite.true) c.if-quotient-step.true

returns-2 : tie.Need-returns-then-is_finite
returns-2 c =
    let v : tie.After-read_flags-f = search in
    let b : tie.After-lets_in = search in
    let q : tie.After-clamped = search in
    let p : tie.After-abs = search in
    let e : tie.After-abs-then-lets_in = search in
    let k : tie.After-is_finite = search in
    shrunk_kept _ _ _ _ v.read_flags-f.ensures b.lets_in.ensures q.if-lets_in.true _ q.clamped.ensures p.abs.ensures e.abs-then-lets_in.ensures (sym k.is_finite.ensures ∙ c.if-is_finite.true) c.if-quotient-step.false

returns-3 : tie.Need-returns-then-lets_in
returns-3 c =
    let v : tie.After-read_flags-f = search in
    let b : tie.After-lets_in = search in
    let q : tie.After-clamped = search in
    let p : tie.After-abs = search in
    let e : tie.After-abs-then-lets_in = search in
    shrunk_23 _ _ _ _ v.read_flags-f.ensures b.lets_in.ensures q.if-lets_in.true _ q.clamped.ensures p.abs.ensures e.abs-then-lets_in.ensures (sym c.is_finite.ensures ∙ c.if-is_finite.false)

returns-4 : tie.Need-returns
returns-4 c = shrunk_passed _ _ _ _ c.before.before.read_flags-f.ensures c.lets_in.ensures _ c.if-lets_in.false

pub shrink_spec : {M : Type 1} → statement M
shrink_spec =
    tie.close
    (tie.spec
    read-flags-requires
    lets-in-requires
    clamped-requires
    abs-requires
    abs-requires-2
    is-finite-requires
    returns
    returns-2
    returns-3
    returns-4)
