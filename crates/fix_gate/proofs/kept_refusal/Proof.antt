-- `fix_gate::kept_refusal` meets its contract: each answer by its tests. Assumes nothing.
use borrow.Author.Rules.{rules}
use mathlib.Core.Path.{◌≡◌, sym, ◌∙◌}
use borrow.Author.Tests.{not-true, not-false}
use Rattle.rules.specs.Plan.{Plan}
use Rattle.rules.specs.Parts.{plan_of}
use Rattle.state.specs.Memory.{memory_in}
use Rattle.std.specs.Prelude.{None}
use Rattle.start_gate.specs.Gate.{refusal_by}
use Rattle.fix_gate.proofs.Laws.{kept_part, kept_asks, says_told, says_not_kept, says_kept}
use Rattle.fix_gate.proofs.kept_refusal.Statement.{statement}
use Rattle.fix_gate.proofs.kept_refusal.Tie as tie

-- the plan and the arrays that are lent
abbrev p : tie.Start → Plan
p s = let a = s.args in plan_of a.columns a.rows a.entries a.budget a.tolerance a.costs.now a.lowers.now a.uppers.now a.starts.now a.cols.now a.coeffs.now a.ops.now a.rhs.now

-- the way back
abbrev start : tie.In_default → tie.Start
start c = search

abbrev told : tie.After-passes_41 → tie.In_default
told c = search

-- 1 to 5 have passed
ok : (c : tie.In_default)
    → let s = start c in
    let a = s.args in
    None ≡ refusal_by (p s) (memory_in a.values.now a.numbers.now a.doubles.now a.factor_numbers.now a.factor_coeffs.now)
ok c =
    let r : tie.After-refusal-refusal = search in
    sym c.in_default.is ∙ r.refusal-refusal.ensures

refusal-requires : tie.Need-refusal-refusal-requires
refusal-requires c κs = search rules

enum-known-refusal : tie.Need-enum_known-refusal
enum-known-refusal c = search rules

returns : tie.Need-returns-in-Some
returns c =
    let s : tie.Start = search in
    let r : tie.After-refusal-refusal = search in
    let w : tie.In-Some = search in
    says_told (p s) s.args.values.now s.args.numbers.now s.args.doubles.now s.args.factor_numbers.now s.args.factor_coeffs.now _
    (sym w.in-Some.is ∙ r.refusal-refusal.ensures)

enum_told : tie.Need-enum_told-1
enum_told c = search rules

passes-41-requires : tie.Need-passes_41-requires
passes-41-requires c κs =
    let t : tie.In_default = search in
    let s = start t in
    kept_asks (p s) s.args.values.now s.args.numbers.now s.args.doubles.now s.args.factor_numbers.now s.args.factor_coeffs.now (ok t)

returns-2 : tie.Need-returns-then-not-passes_41
returns-2 c =
    let k : tie.After-passes_41 = search in
    let t = told k in
    let s = start t in
    says_not_kept (p s) s.args.values.now s.args.numbers.now s.args.doubles.now s.args.factor_numbers.now s.args.factor_coeffs.now (ok t)
    (kept_part (p s) s.args.values.now s.args.numbers.now s.args.doubles.now s.args.factor_numbers.now s.args.factor_coeffs.now ∙ sym k.passes_41.ensures ∙ not-true _ c.if-not-passes_41.true-raw)

returns-3 : tie.Need-returns
returns-3 c =
    let k : tie.After-passes_41 = search in
    let t = told k in
    let s = start t in
    says_kept (p s) s.args.values.now s.args.numbers.now s.args.doubles.now s.args.factor_numbers.now s.args.factor_coeffs.now (ok t)
    (kept_part (p s) s.args.values.now s.args.numbers.now s.args.doubles.now s.args.factor_numbers.now s.args.factor_coeffs.now ∙ sym k.passes_41.ensures ∙ not-false _ c.if-not-passes_41.false-raw)

pub kept_refusal_spec : {M : Type 1} → statement M
kept_refusal_spec =
    tie.close
    (tie.spec
    refusal-requires
    enum-known-refusal
    returns
    enum_told
    passes-41-requires
    returns-2
    returns-3)
