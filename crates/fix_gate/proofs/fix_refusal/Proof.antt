-- `fix_gate::fix_refusal` meets its contract: the rungs that both calls have, and the last one. Assumes nothing.
use borrow.Author.Rules.{rules}
use mathlib.Core.Path.{◌≡◌, sym, ◌∙◌}
use borrow.Author.Tests.{not-true, not-false}
use Rattle.rules.specs.Plan.{Plan}
use Rattle.rules.specs.Parts.{plan_of}
use Rattle.state.specs.Memory.{memory_in}
use Rattle.fix_gate.specs.Gate.{call_refusal, fix_refusal}
use Rattle.std.specs.Prelude.{None}
use Rattle.fix_gate.proofs.Laws.{known, inside_asks, value_part, stays_refused, last_refuses, last_passes}
use Rattle.fix_gate.proofs.fix_refusal.Statement.{statement}
use Rattle.fix_gate.proofs.fix_refusal.Tie as tie

-- the plan that is lent
abbrev p : tie.Start → Plan
p s = let a = s.args in plan_of a.columns a.rows a.entries a.budget a.tolerance a.costs.now a.lowers.now a.uppers.now a.starts.now a.cols.now a.coeffs.now a.ops.now a.rhs.now

-- the way back
abbrev start : tie.In_default → tie.Start
start c = search

abbrev told : tie.After-value_inside → tie.In_default
told k = search

-- the rungs before have passed
ok : (c : tie.In_default)
    → let s = start c in
    let a = s.args in
    call_refusal (p s) (memory_in a.values.now a.numbers.now a.doubles.now a.factor_numbers.now a.factor_coeffs.now) a.column ≡ None
ok c =
    let r : tie.After-call_refusal-refusal = search in
    sym r.call_refusal-refusal.ensures ∙ c.in_default.is

call-refusal-requires : tie.Need-call_refusal-refusal-requires
call-refusal-requires c κs = search rules

enum-known-refusal : tie.Need-enum_known-refusal
enum-known-refusal c = search rules

returns : tie.Need-returns-in-Some
unfolding fix_refusal
returns c =
    let r : tie.After-call_refusal-refusal = search in
    let w : tie.In-Some = search in
    stays_refused _ _ _ (sym r.call_refusal-refusal.ensures ∙ w.in-Some.is)

enum_told : tie.Need-enum_told-1
enum_told c = search rules

value-inside-requires : tie.Need-value_inside-requires
value-inside-requires c κs =
    let t : tie.In_default = search in
    let s = start t in
    inside_asks (p s) s.args.values.now s.args.numbers.now s.args.doubles.now s.args.factor_numbers.now s.args.factor_coeffs.now s.args.column (known (p s) s.args.values.now s.args.numbers.now s.args.doubles.now s.args.factor_numbers.now s.args.factor_coeffs.now s.args.column (sym (ok t)))

returns-2 : tie.Need-returns-then-not-value_inside
unfolding fix_refusal
returns-2 c =
    let k : tie.After-value_inside = search in
    let t = told k in
    let s = start t in
    last_refuses _ (ok t) _ _ (sym (value_part (p s) s.args.column s.args.value) ∙ sym k.value_inside.ensures ∙ not-true _ c.if-not-value_inside.true-raw)

returns-3 : tie.Need-returns
unfolding fix_refusal
returns-3 c =
    let k : tie.After-value_inside = search in
    let t = told k in
    let s = start t in
    last_passes _ (ok t) _ _ (sym (value_part (p s) s.args.column s.args.value) ∙ sym k.value_inside.ensures ∙ not-false _ c.if-not-value_inside.false-raw)

pub fix_refusal_spec : {M : Type 1} → statement M
fix_refusal_spec =
    tie.close
    (tie.spec
    call-refusal-requires
    enum-known-refusal
    returns
    enum_told
    value-inside-requires
    returns-2
    returns-3)
