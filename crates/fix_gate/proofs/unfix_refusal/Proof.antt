-- `fix_gate::unfix_refusal` meets its contract: the rungs that both calls have, and the last one. Assumes nothing.
use borrow.Author.Rules.{rules}
use mathlib.Core.Path.{◌≡◌, sym, ◌∙◌}
use borrow.Author.Tests.{not-true, not-false}
use Rattle.rules.specs.Plan.{Plan}
use Rattle.rules.specs.Parts.{plan_of}
use Rattle.state.specs.Memory.{memory_in}
use Rattle.fix_gate.specs.Gate.{call_refusal, unfix_refusal}
use Rattle.std.specs.Prelude.{None}
use Rattle.fix_gate.proofs.Laws.{known, fixed_asks, fixed_part, stays_refused, last_refuses, last_passes}
use Rattle.fix_gate.proofs.unfix_refusal.Statement.{statement}
use Rattle.fix_gate.proofs.unfix_refusal.Tie as tie

-- the plan that is lent
abbrev p : tie.Start → Plan
p s = let a = s.args in plan_of a.columns a.rows a.entries a.budget a.tolerance a.costs.now a.lowers.now a.uppers.now a.starts.now a.cols.now a.coeffs.now a.ops.now a.rhs.now

-- the way back
abbrev start : tie.In_default → tie.Start
start c = search

abbrev told : tie.After-is_fixed → tie.In_default
told k = search

-- the rungs before have passed
ok : (c : tie.In_default)
    → let s = start c in
    let a = s.args in
    call_refusal (p s) (memory_in a.values.now a.numbers.now a.doubles.now a.factor_numbers.now a.factor_coeffs.now) a.column ≡ None
ok c =
    let r : tie.After-call_refusal-refusal = search in
    sym r.call_refusal-refusal.ensures ∙ c.in_default.is

call-refusal-requires : tie.Need-call_refusal-refusal-requires
call-refusal-requires c κs = search rules

enum-known-refusal : tie.Need-enum_known-refusal
enum-known-refusal c = search rules

returns : tie.Need-returns-in-Some
unfolding unfix_refusal
returns c =
    let r : tie.After-call_refusal-refusal = search in
    let w : tie.In-Some = search in
    stays_refused _ _ _ (sym r.call_refusal-refusal.ensures ∙ w.in-Some.is)

enum_told : tie.Need-enum_told-1
enum_told c = search rules

is-fixed-requires : tie.Need-is_fixed-requires
is-fixed-requires c κs =
    let t : tie.In_default = search in
    let s = start t in
    fixed_asks (p s) s.args.values.now s.args.numbers.now s.args.doubles.now s.args.factor_numbers.now s.args.factor_coeffs.now s.args.column (known (p s) s.args.values.now s.args.numbers.now s.args.doubles.now s.args.factor_numbers.now s.args.factor_coeffs.now s.args.column (sym (ok t)))

returns-2 : tie.Need-returns-then-not-is_fixed
unfolding unfix_refusal
returns-2 c =
    let k : tie.After-is_fixed = search in
    let t = told k in
    let s = start t in
    last_refuses _ (ok t) _ _ (sym (fixed_part (p s) s.args.values.now s.args.numbers.now s.args.doubles.now s.args.factor_numbers.now s.args.factor_coeffs.now s.args.column) ∙ sym (k.is_fixed.ensures s.args.doubles.now) ∙ not-true _ c.if-not-is_fixed.true-raw)

returns-3 : tie.Need-returns
unfolding unfix_refusal
returns-3 c =
    let k : tie.After-is_fixed = search in
    let t = told k in
    let s = start t in
    last_passes _ (ok t) _ _ (sym (fixed_part (p s) s.args.values.now s.args.numbers.now s.args.doubles.now s.args.factor_numbers.now s.args.factor_coeffs.now s.args.column) ∙ sym (k.is_fixed.ensures s.args.doubles.now) ∙ not-false _ c.if-not-is_fixed.false-raw)

pub unfix_refusal_spec : {M : Type 1} → statement M
unfix_refusal_spec =
    tie.close
    (tie.spec
    call-refusal-requires
    enum-known-refusal
    returns
    enum_told
    is-fixed-requires
    returns-2
    returns-3)
