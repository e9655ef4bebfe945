-- `lu_gather::judge` meets its contract: each answer by the tests on the way. Assumes nothing.
use mathlib.Core.Path.{sym, ◌∙◌}
use native.Mathlib.Omega.{arith}
use borrow.Author.Tests.{not-true, not-false}
use Rattle.lu_factor_rules.proofs.Laws.{judged_wild, judged_flat, judged_added, row_of, roomy_of}
use borrow.Author.Rules.{rules}
use Rattle.lu_gather.proofs.judge.Statement.{statement}
use Rattle.lu_gather.proofs.judge.Tie as tie

listed-finite-requires : tie.Need-listed_finite-requires
listed-finite-requires c κs = search rules

returns : tie.Need-returns-then-not-listed_finite
returns c = judged_wild _ _ _ _ _ _ (sym c.listed_finite.ensures ∙ not-true _ c.if-not-listed_finite.true-raw)

choose-requires : tie.Need-choose-b-requires
choose-requires c κs = search rules

returns-2 : tie.Need-returns-then-not-b
returns-2 c = let a : tie.Else-not-listed_finite = search in let h : tie.After-choose-b = search in judged_flat _ _ _ _ _ _
    (sym a.listed_finite.ensures ∙ not-false _ a.if-not-listed_finite.false-raw) h.choose-b.ensures
    (not-true _ c.if-not-b.true-raw)

mul-value : tie.Need-offset_bounds-values-row
mul-value c = let s : tie.Start = search in let h : tie.After-choose-b = search in omega
    (arith, row_of _ _ _ _ _ _ h.choose-b.ensures s.requires)

element-copy-out-value : tie.Need-bounds-values-row
element-copy-out-value c = let s : tie.Start = search in let h : tie.After-choose-b = search in omega
    (arith, row_of _ _ _ _ _ _ h.choose-b.ensures s.requires)

gather-requires : tie.Need-gather-counts-requires
gather-requires c κs =
    let s : tie.Start = search in
    let h : tie.After-choose-b = search in
    let e : tie.Else-not-b = search in (
      (s.requires.rows, row_of _ _ _ _ _ _ h.choose-b.ensures s.requires),
      roomy_of _ _ _ _ _ _ h.choose-b.ensures
          s.requires (not-false _ e.if-not-b.false-raw),
    )

returns-3 : tie.Need-returns
returns-3 c =
    let a : tie.Else-not-listed_finite = search in
    let h : tie.After-choose-b = search in
    let e : tie.Else-not-b = search in
    let g : tie.After-gather-counts = search in
    judged_added _ _ _ _ _ _ (sym a.listed_finite.ensures ∙ not-false _ a.if-not-listed_finite.false-raw) h.choose-b.ensures
    (not-false _ e.if-not-b.false-raw) g.gather-counts.ensures

pub judge_spec : {M : Type 1} → statement M
judge_spec =
    tie.close
    (tie.spec
    listed-finite-requires
    returns
    choose-requires
    returns-2
    mul-value
    element-copy-out-value
    gather-requires
    returns-3)
