-- `fix_gate::call_refusal` meets its contract: the rungs of every call, and 42. Assumes nothing.
use borrow.Author.Rules.{rules}
use mathlib.Core.Path.{◌≡◌, sym, ◌∙◌}
use borrow.Author.Tests.{lt-ltb, le-ltb}
use Rattle.rules.specs.Plan.{Plan}
use Rattle.rules.specs.Parts.{plan_of}
use Rattle.state.specs.Memory.{memory_in}
use Rattle.fix_gate.specs.Gate.{kept_refusal, call_refusal}
use Rattle.std.specs.Prelude.{None}
use Rattle.fix_gate.proofs.Laws.{stays_refused, last_refuses, last_passes}
use Rattle.fix_gate.proofs.call_refusal.Statement.{statement}
use Rattle.fix_gate.proofs.call_refusal.Tie as tie

-- the plan that is lent
abbrev p : tie.Start → Plan
p s = let a = s.args in plan_of a.columns a.rows a.entries a.budget a.tolerance a.costs.now a.lowers.now a.uppers.now a.starts.now a.cols.now a.coeffs.now a.ops.now a.rhs.now

-- the way back
abbrev start : tie.In_default → tie.Start
start c = search

-- the rungs before have passed
ok : (c : tie.In_default)
    → let s = start c in
    let a = s.args in
    kept_refusal (p s) (memory_in a.values.now a.numbers.now a.doubles.now a.factor_numbers.now a.factor_coeffs.now) ≡ None
ok c =
    let r : tie.After-kept_refusal-refusal = search in
    sym r.kept_refusal-refusal.ensures ∙ c.in_default.is

kept-refusal-requires : tie.Need-kept_refusal-refusal-requires
kept-refusal-requires c κs = search rules

enum-known-refusal : tie.Need-enum_known-refusal
enum-known-refusal c = search rules

returns : tie.Need-returns-in-Some
unfolding call_refusal
returns c =
    let r : tie.After-kept_refusal-refusal = search in
    let w : tie.In-Some = search in
    stays_refused _ _ _ (sym r.kept_refusal-refusal.ensures ∙ w.in-Some.is)

enum_told : tie.Need-enum_told-1
enum_told c = search rules

returns-2 : tie.Need-returns-then-column-columns
unfolding call_refusal
returns-2 c =
    let t : tie.In_default = search in
    last_refuses _ (ok t) _ _ (le-ltb _ _ c.if-column-columns.true)

returns-3 : tie.Need-returns
unfolding call_refusal
returns-3 c =
    let t : tie.In_default = search in
    last_passes _ (ok t) _ _ (lt-ltb _ _ c.if-column-columns.false)

pub call_refusal_spec : {M : Type 1} → statement M
call_refusal_spec =
    tie.close
    (tie.spec
    kept-refusal-requires
    enum-known-refusal
    returns
    enum_told
    returns-2
    returns-3)
