-- `plan::first_refusal` meets its contract: each call gives its rung of the ladder. Assumes nothing.
use mathlib.Core.Path.{◌≡◌, sym, ap, ◌∙◌}
use mathlib.Core.Bool.{true}
use native.Mathlib.Omega.{arith}
use borrow.Author.Rules.{rules}
use borrow.Author.Tests.{eq-eqb, ne_eqb}
use lib.Dec.{eqb}
use Rattle.doubles.proofs.Bools.{turned, turned_true, itself}
use Rattle.rules.specs.Plan.{Plan}
use Rattle.rules.specs.Parts.{plan_of}
use Rattle.rules.specs.Refusals.{starts_rise, passes2, first_crossed}
use Rattle.rules.specs.declared.Answer.TheVariants.{CrossedBounds, FalseEmptyRow}
use Rattle.plan.specs.declared.Bad.TheVariants.{Nothing}
use Rattle.std.specs.Prelude.{Some}
use Rattle.plan.specs.Refused.{bad_entry}
use Rattle.rules.proofs.Lengths.{Arrays, arrays}
use Rattle.plan_numbers.proofs.Parts.{numbers_part}
use Rattle.plan.proofs.Parts.{starts_part, bad_part, crossed_part, false_part}
use Rattle.plan.proofs.Ladder.{rows_in, says_1, says_2, says_3, says_4, says_5, says_nothing}
use Rattle.plan.proofs.first_refusal.Statement.{statement}
use Rattle.plan.proofs.first_refusal.Tie as tie

abbrev whole : tie.Start → Plan
whole s = let a = s.args in plan_of a.columns a.rows a.entries 0 a.tolerance a.costs.now a.lowers.now a.uppers.now a.starts.now a.cols.now a.coeffs.now a.ops.now a.rhs.now

long : (s : tie.Start) → Arrays (whole s)
long s = arrays (whole s) s.requires

-- what has passed on the way
abbrev at_1 : tie.Else-not-starts_rise → tie.Start
at_1 e = search

one : (e : tie.Else-not-starts_rise) → starts_rise (whole (at_1 e)) ≡ true
one e = starts_part (whole (at_1 e)) ∙ sym e.starts_rise.ensures ∙ (turned itself).0 e.if-not-starts_rise.false-raw

two : (e : tie.Else-not-passes_2) → passes2 (whole (at_1 e.before.before)) ≡ true
two e = numbers_part (whole (at_1 e.before.before)) ∙ sym e.passes_2.ensures ∙ (turned itself).0 e.if-not-passes_2.false-raw

abbrev at_3 : tie.In_default → tie.Start
at_3 t = let o : tie.Else-not-starts_rise = search in at_1 o

three : (t : tie.In_default) → Nothing ≡ bad_entry (whole (at_3 t))
three t = sym t.in_default.is ∙ t.first_bad.ensures ∙ sym (bad_part (whole (at_3 t)))

four : (f : tie.Else-column-columns) → eqb (first_crossed (whole (at_3 f.before.before))) (whole (at_3 f.before.before)).columns ≡ true
four f = eq-eqb _ _ (crossed_part (whole (at_3 f.before.before)) ∙ sym f.first_crossed-column.ensures ∙ f.if-column-columns.false)

starts-rise-requires : tie.Need-starts_rise-requires
starts-rise-requires c κs = let s : tie.Start = search in
    omega (arith, (long s).starts_long)

returns : tie.Need-returns-then-not-starts_rise
returns c = let s : tie.Start = search in
    says_1 (whole s) (starts_part (whole s) ∙ sym c.starts_rise.ensures ∙ (turned_true itself).0 c.if-not-starts_rise.true-raw)

passes-2-requires : tie.Need-passes_2-requires
passes-2-requires c κs = let s : tie.Start = search in
    let l = long s in
    record { costs_long = l.costs_long; lowers_long = l.lowers_long; uppers_long = l.uppers_long; coeffs_long = l.coeffs_long; ops_long = l.ops_long; rhs_long = l.rhs_long }

returns-2 : tie.Need-returns-then-not-passes_2
returns-2 c = let e : tie.Else-not-starts_rise = search in
    says_2 (whole (at_1 e)) (one e) (numbers_part (whole (at_1 e)) ∙ sym c.passes_2.ensures ∙ (turned_true itself).0 c.if-not-passes_2.true-raw)

first-bad-requires : tie.Need-first_bad-requires
first-bad-requires c κs = let e : tie.Else-not-starts_rise = search in
    let s = at_1 e in
    rows_in (whole s) s.requires (one e) _ (long s).cols_long

enum-known-row : tie.Need-enum_known-row
enum-known-row c = search rules

returns-3 : tie.Need-returns-in-Entry
returns-3 c = let e : tie.Else-not-passes_2 = search in
    let s = at_1 e.before.before in
    says_3 (whole s) (one e.before.before) (two e) _ _ (sym c.in-Entry.is ∙ c.first_bad.ensures ∙ sym (bad_part (whole s)))

enum_told : tie.Need-enum_told-1
enum_told c = search rules

first-crossed-requires : tie.Need-first_crossed-column-requires
first-crossed-requires c κs = let s : tie.Start = search in
    ((long s).lowers_long, (long s).uppers_long)

returns-4 : tie.Need-returns-then-column-columns
returns-4 c = let t : tie.In_default = search in
    let e : tie.Else-not-passes_2 = search in
    let o : tie.Else-not-starts_rise = search in
    let s = at_1 o in
    let w = c.first_crossed-column.ensures ∙ sym (crossed_part (whole s)) in
    ap (λ j. Some (CrossedBounds j)) w ∙ says_4 (whole s) (one o) (two e) (three t) (ne_eqb _ _ (λ q. c.if-column-columns.true (w ∙ q)))

first-false-requires : tie.Need-first_false-row-requires
first-false-requires c κs = let s : tie.Start = search in
    (omega (arith, (long s).starts_long), (long s).ops_long, (long s).rhs_long)

returns-5 : tie.Need-returns-then-row-rows
returns-5 c = let f : tie.Else-column-columns = search in
    let t : tie.In_default = search in
    let e : tie.Else-not-passes_2 = search in
    let o : tie.Else-not-starts_rise = search in
    let s = at_1 o in
    let w = c.first_false-row.ensures ∙ sym (false_part (whole s)) in
    ap (λ j. Some (FalseEmptyRow j)) w ∙ says_5 (whole s) (one o) (two e) (three t) (four f) (ne_eqb _ _ (λ q. c.if-row-rows.true (w ∙ q)))

returns-6 : tie.Need-returns
returns-6 c = let f : tie.Else-column-columns = search in
    let t : tie.In_default = search in
    let e : tie.Else-not-passes_2 = search in
    let o : tie.Else-not-starts_rise = search in
    let s = at_1 o in
    let w = c.first_false-row.ensures ∙ sym (false_part (whole s)) in
    says_nothing (whole s) (one o) (two e) (three t) (four f) (eq-eqb _ _ (sym w ∙ c.if-row-rows.false))

pub first_refusal_spec : {M : Type 1} → statement M
first_refusal_spec =
    tie.close
    (tie.spec
    starts-rise-requires
    returns
    passes-2-requires
    returns-2
    first-bad-requires
    enum-known-row
    returns-3
    enum_told
    first-crossed-requires
    returns-4
    first-false-requires
    returns-5
    returns-6)
