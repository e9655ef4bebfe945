-- `night_stage::stage`: refused for its size, not ended in 0, or audited. Assumes nothing.
use mathlib.Core.Path.{refl, sym, ◌∙◌}
use mathlib.Core.List.{[]}
use Rattle.sheet_rules.specs.Sheet.{Plan, plan_of}
use Rattle.rules.specs.declared.Answer.TheVariants.{BadSize}
use Rattle.night_rules.specs.Arrays.{Arrays, arrays_of}
use Rattle.night_stage.proofs.Laws.{not_bad, convert_asks, starts_long, too_many, not_run, was_run}
use borrow.Author.Rules.{rules}
use Rattle.night_stage.proofs.stage.Statement.{statement}
use Rattle.night_stage.proofs.stage.Tie as tie

module _ (s : tie.Start) where
  abbrev p : Plan
  p =
      let a = s.args in
      plan_of a.rows a.columns a.coefs.now a.costs.now a.lowers.now a.uppers.now
      a.lower_marks.now a.upper_marks.now a.rhs.now a.ops.now [] []

  abbrev m : Arrays
  m = let a = s.args in arrays_of a.values.now a.numbers.now a.doubles.now a.factor_numbers.now
      a.factor_coeffs.now

entries-requires : tie.Need-entries-entries-requires
entries-requires c κs = search rules

returns : tie.Need-returns-then-entries-gt-MAX_ENTRIES
returns c =
    let s : tie.Start = search in
    let b = s.args.budget in
    let t = s.args.tolerance in
    let h = too_many (p s) b t (rw c.entries-entries.ensures at c.if-entries-gt-MAX_ENTRIES.true) (m s) in
    not_run (p s) b t s.args.section.now (m s) (m s) BadSize h not_bad

run-requires : tie.Need-run-answer-requires
run-requires c κs =
    let s : tie.Start = search in
    let e = c.entries-entries.ensures in
    (convert_asks (p s) s.requires.0 (rw e at c.if-entries-gt-MAX_ENTRIES.false), e, refl)

number-of-requires : tie.Need-number_of-requires
number-of-requires c κs = search rules

same_length : tie.Need-shape_of-values-then-number_of-ne0
same_length c = search rules

same-length-2 : tie.Need-shape_of-numbers-then-number_of-ne0
same-length-2 c = search rules

same-length-3 : tie.Need-shape_of-doubles-then-number_of-ne0
same-length-3 c = search rules

same-length-4 : tie.Need-shape_of-factor_numbers-then-number_of-ne0
same-length-4 c = search rules

same-length-5 : tie.Need-shape_of-factor_coeffs-then-number_of-ne0
same-length-5 c = search rules

returns-2 : tie.Need-returns-then-number_of-ne0
returns-2 c =
    let s : tie.Start = search in
    not_run (p s) s.args.budget s.args.tolerance s.args.section.now (m s) _ _ c.run-answer.ensures.0
    (λ e. c.if-number_of-ne0.true (c.number_of.ensures ∙ e))

slice-aggregate-audit : tie.Need-slice_bounds-audit-end
slice-aggregate-audit c =
    let s : tie.Start = search in
    sym (starts_long (p s) s.args.budget s.args.tolerance s.requires.0.rows_few c.run-answer.ensures.1)

audit-requires : tie.Need-audit-audit-requires
audit-requires c κs = let s : tie.Start = search in
    s.requires.1

same-length-6 : tie.Need-shape_of-values
same-length-6 c = search rules

same-length-7 : tie.Need-shape_of-numbers
same-length-7 c = search rules

same-length-8 : tie.Need-shape_of-doubles
same-length-8 c = search rules

same-length-9 : tie.Need-shape_of-factor_numbers
same-length-9 c = search rules

same-length-10 : tie.Need-shape_of-factor_coeffs
same-length-10 c = search rules

same-length-11 : tie.Need-shape_of-section
same-length-11 c = search rules

returns-3 : tie.Need-returns
returns-3 c =
    let s : tie.Start = search in
    was_run (p s) s.args.budget s.args.tolerance s.args.section.now (m s) _ _ c.run-answer.ensures.0
    (sym c.number_of.ensures ∙ c.if-number_of-ne0.false) c.run-answer.ensures.1 c.audit-audit.ensures

pub stage_spec : {M : Type 1} → statement M
stage_spec =
    tie.close
    (tie.spec
    entries-requires
    returns
    run-requires
    number-of-requires
    same_length
    same-length-2
    same-length-3
    same-length-4
    same-length-5
    returns-2
    slice-aggregate-audit
    audit-requires
    same-length-6
    same-length-7
    same-length-8
    same-length-9
    same-length-10
    same-length-11
    returns-3)
