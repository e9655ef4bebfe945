-- `fix_gate::value_inside` meets its contract: each test is the definition's. Assumes nothing.
use borrow.Author.Rules.{rules}
use mathlib.Core.Path.{sym, ◌∙◌}
use borrow.Author.Tests.{not-true, not-false}
use Rattle.fix_gate.proofs.Laws.{says_wild, says_below, says_inside}
use Rattle.fix_gate.proofs.value_inside.Statement.{statement}
use Rattle.fix_gate.proofs.value_inside.Tie as tie

is-finite-requires : tie.Need-is_finite-requires
is-finite-requires c κs = search rules

returns : tie.Need-returns-then-not-is_finite
returns c =
    let s : tie.Start = search in
    let f : tie.After-is_finite = search in
    let a = s.args in
    says_wild a.lowers.now a.uppers.now a.column a.value (sym f.is_finite.ensures ∙ not-true _ c.if-not-is_finite.true-raw)

mul-if2 : tie.Need-offset_bounds-lowers-column
mul-if2 c = search rules

shared-slice-read-if2 : tie.Need-bounds-lowers-column
shared-slice-read-if2 c = search rules

returns-2 : tie.Need-returns-then-value-lowers
returns-2 c =
    let s : tie.Start = search in
    let f : tie.After-is_finite = search in
    let e : tie.Else-not-is_finite = search in
    let a = s.args in
    says_below a.lowers.now a.uppers.now a.column a.value (sym f.is_finite.ensures ∙ not-false _ e.if-not-is_finite.false-raw)
    c.if-value-lowers.true

mul-result : tie.Need-offset_bounds-uppers-column
mul-result c = search rules

shared-slice-read-result : tie.Need-bounds-uppers-column
shared-slice-read-result c = search rules

returns-3 : tie.Need-returns
returns-3 c =
    let s : tie.Start = search in
    let f : tie.After-is_finite = search in
    let e : tie.Else-not-is_finite = search in
    let g : tie.Else-value-lowers = search in
    let a = s.args in
    says_inside a.lowers.now a.uppers.now a.column a.value (sym f.is_finite.ensures ∙ not-false _ e.if-not-is_finite.false-raw)
    g.if-value-lowers.false

pub value_inside_spec : {M : Type 1} → statement M
value_inside_spec =
    tie.close
    (tie.spec
    is-finite-requires
    returns
    mul-if2
    shared-slice-read-if2
    returns-2
    mul-result
    shared-slice-read-result
    returns-3)
