-- `start_gate::refusal` meets its contract: sizes, the plan's arrays, what is lent, and the rest by `plan`. Assumes nothing.
use mathlib.Core.Path.{◌≡◌, sym, ◌∙◌}
use mathlib.Core.Bool.{true}
use borrow.Author.Rules.{rules}
use Rattle.doubles.proofs.Bools.{turned, turned_true, itself}
use Rattle.rules.specs.Plan.{Plan, Memory}
use Rattle.rules.specs.Parts.{plan_of}
use Rattle.rules.specs.Refusals.{sizes_fit, plan_long, memory_long}
use Rattle.state.specs.Memory.{memory_in}
use Rattle.plan.proofs.Parts.{sizes_part, long_part, refusal_part}
use Rattle.start_gate.proofs.Gate.{sizes_small, size_over, plan_short, memory_short, long_enough, memory_part}
use Rattle.start_gate.proofs.refusal.Statement.{statement}
use Rattle.start_gate.proofs.refusal.Tie as tie

abbrev p : tie.Start → Plan
p s = let a = s.args in plan_of a.columns a.rows a.entries a.budget a.tolerance a.costs.now a.lowers.now a.uppers.now a.starts.now a.cols.now a.coeffs.now a.ops.now a.rhs.now

abbrev m : tie.Start → Memory
m s =
    let a = s.args in
    memory_in a.values.now a.numbers.now a.doubles.now a.factor_numbers.now a.factor_coeffs.now

-- what has passed on the way
abbrev at : tie.Else-not-sizes_fit → tie.Start
at e = search

sizes : (e : tie.Else-not-sizes_fit) → sizes_fit (p (at e)) ≡ true
sizes e = sizes_part (p (at e)) ∙ sym e.sizes_fit.ensures ∙ (turned itself).0 e.if-not-sizes_fit.false-raw

arrays : (e : tie.Else-not-plan_long) → plan_long (p (at e.before.before)) ≡ true
arrays e = long_part (p (at e.before.before)) ∙ sym e.plan_long.ensures ∙ (turned itself).0 e.if-not-plan_long.false-raw

lent : (e : tie.Else-not-memory_long) → memory_long (p (at e.before.before.before.before)) (m (at e.before.before.before.before)) ≡ true
lent e =
    let s = at e.before.before.before.before in
    memory_part (p s) (m s) ∙ sym e.memory_long.ensures ∙ (turned itself).0 e.if-not-memory_long.false-raw

sizes-fit-requires : tie.Need-sizes_fit-requires
sizes-fit-requires c κs = search rules

returns : tie.Need-returns-then-not-sizes_fit
returns c = let s : tie.Start = search in
    size_over (p s) (m s) (sizes_part (p s) ∙ sym c.sizes_fit.ensures ∙ (turned_true itself).0 c.if-not-sizes_fit.true-raw)

plan-long-requires : tie.Need-plan_long-requires
plan-long-requires c κs = search rules

returns-2 : tie.Need-returns-then-not-plan_long
returns-2 c = let e : tie.Else-not-sizes_fit = search in
    let s = at e in
    plan_short (p s) (m s) (sizes e) (long_part (p s) ∙ sym c.plan_long.ensures ∙ (turned_true itself).0 c.if-not-plan_long.true-raw)

memory-long-requires : tie.Need-memory_long-requires
memory-long-requires c κs = let e : tie.Else-not-sizes_fit = search in
    sizes_small (p (at e)) (m (at e)) (sizes e)

returns-3 : tie.Need-returns-then-not-memory_long
returns-3 c = let e : tie.Else-not-plan_long = search in
    let s = at e.before.before in
    memory_short (p s) (m s) (sizes e.before.before) (arrays e) (memory_part (p s) (m s) ∙ sym c.memory_long.ensures ∙ (turned_true itself).0 c.if-not-memory_long.true-raw)

first-refusal-requires : tie.Need-first_refusal-requires
unfolding plan_long
first-refusal-requires c κs = let e : tie.Else-not-plan_long = search in
    let s = at e.before.before in
    sym (long_part (p s)) ∙ arrays e

returns-4 : tie.Need-returns
returns-4 c =
    let e = c.before in
    let f = e.before.before in
    let s = at f.before.before in
    c.first_refusal.ensures ∙ sym (refusal_part (p s)) ∙ long_enough (p s) (m s) (sizes f.before.before) (arrays f) (lent e)

pub refusal_spec : {M : Type 1} → statement M
refusal_spec =
    tie.close
    (tie.spec
    sizes-fit-requires
    returns
    plan-long-requires
    returns-2
    memory-long-requires
    returns-3
    first-refusal-requires
    returns-4)
