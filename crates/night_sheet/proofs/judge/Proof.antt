-- `night_sheet::judge`: refused, or written and judged. Assumes nothing.
use mathlib.Core.Path.{ap, ◌∙◌}
use mathlib.Core.List.{[]}
use Rattle.sheet_rules.specs.Sheet.{Sheet, plan_of}
use Rattle.night_rules.specs.declared.Audit.TheVariants.{Judged}
use Rattle.night_rules.specs.Stage.{sheet_with, section_of}
use Rattle.night_sheet.specs.Audited.{audited}
use Rattle.night_sheet.proofs.Laws.{not_opened, was_judged}
use borrow.Author.Rules.{rules}
use Rattle.night_sheet.proofs.judge.Statement.{statement}
use Rattle.night_sheet.proofs.judge.Tie as tie

abbrev sheet : tie.Start → Sheet
sheet s =
    let a = s.args in
    sheet_with (plan_of a.rows a.columns a.coefs.now a.costs.now a.lowers.now a.uppers.now
    a.lower_marks.now a.upper_marks.now a.rhs.now a.ops.now [] [])
    a.amounts.now a.mults.now

slice-aggregate-open : tie.Need-slice_bounds-open-end-3
slice-aggregate-open c = search rules

slice-aggregate-open-2 : tie.Need-slice_bounds-open-end-4
slice-aggregate-open-2 c = search rules

slice-aggregate-open-3 : tie.Need-slice_bounds-open-end-5
slice-aggregate-open-3 c = search rules

slice-aggregate-open-4 : tie.Need-slice_bounds-open-end-6
slice-aggregate-open-4 c = search rules

slice-aggregate-open-5 : tie.Need-slice_bounds-open-end-7
slice-aggregate-open-5 c = search rules

open-requires : tie.Need-open-refusal-requires
open-requires c κs = search rules

returns : tie.Need-returns-then-refusal-ne0
returns c =
    let s : tie.Start = search in
    not_opened (sheet s) s.args.section.now c.open-refusal.ensures c.if-refusal-ne0.true

write-section-requires : tie.Need-write_section-requires
write-section-requires c κs = search rules

slice-aggregate-verdict : tie.Need-slice_bounds-verdict-end-3
slice-aggregate-verdict c = search rules

slice-aggregate-verdict-2 : tie.Need-slice_bounds-verdict-end-4
slice-aggregate-verdict-2 c = search rules

slice-aggregate-verdict-3 : tie.Need-slice_bounds-verdict-end-5
slice-aggregate-verdict-3 c = search rules

slice-aggregate-verdict-4 : tie.Need-slice_bounds-verdict-end-6
slice-aggregate-verdict-4 c = search rules

slice-aggregate-verdict-5 : tie.Need-slice_bounds-verdict-end-7
slice-aggregate-verdict-5 c = search rules

verdict-requires : tie.Need-verdict-requires
verdict-requires c κs = search rules

same_length : tie.Need-shape_of-section
same_length c = search rules

returns-2 : tie.Need-returns
unfolding section_of
returns-2 c =
    let s : tie.Start = search in
    ap (audited (Judged c.verdict.result)) c.write_section.ensures
    ∙ was_judged (sheet s) s.args.section.now c.open-refusal.ensures c.if-refusal-ne0.false c.verdict.ensures

pub judge_spec : {M : Type 1} → statement M
judge_spec =
    tie.close
    (tie.spec
    slice-aggregate-open
    slice-aggregate-open-2
    slice-aggregate-open-3
    slice-aggregate-open-4
    slice-aggregate-open-5
    open-requires
    returns
    write-section-requires
    slice-aggregate-verdict
    slice-aggregate-verdict-2
    slice-aggregate-verdict-3
    slice-aggregate-verdict-4
    slice-aggregate-verdict-5
    verdict-requires
    same_length
    returns-2)
