-- `start_gate::begin` meets its contract: the numbers are reckoned, and 6 and 7 are tests on them. Assumes nothing.
use mathlib.Core.Path.{◌≡◌, sym, ◌∙◌}
use mathlib.Core.Bool.{Bool, true, ◌||◌}
use native.Mathlib.Omega.{arith}
use Rattle.doubles.specs.Num.{f0}
use Rattle.doubles.proofs.Bools.{turned, turned_true, itself}
use Rattle.rules.specs.Plan.{Problem}
use Rattle.rules.specs.Parts.{plan_of, problem}
use Rattle.rules.specs.Start.{passes6, passes7, dual_feasible}
use Rattle.start_values.proofs.Parts.{dual_part}
use Rattle.start.specs.Reckoned.{Numbers, numbers}
use Rattle.start.proofs.Parts.{reckoned_part}
use Rattle.start.proofs.Start.{six_is, seven_is, still_long, fits_reckonable, fits_ops}
use Rattle.start_gate.proofs.Gate.{starts_wild, starts_outside, starts_well}
use Rattle.start_gate.proofs.begin.Statement.{statement}
use Rattle.start_gate.proofs.begin.Tie as tie

abbrev P : tie.Start → Problem
P s =
    let a = s.args in
    problem (plan_of a.columns 0 0 0 f0 a.costs.now a.lowers.now a.uppers.now a.starts.now a.cols.now a.coeffs.now a.ops.now a.rhs.now) a.kept.now

abbrev given : tie.Start → Numbers
given s = let a = s.args in numbers a.xs.now a.slacks.now a.norms.now f0

abbrev at : tie.After-reckon-objective → tie.Start
at r = search

reckon-requires : tie.Need-reckon-objective-requires
reckon-requires c κs = let s : tie.Start = search in
    (fits_reckonable _ s.requires.0.fits, s.requires.1)

passes-6-requires : tie.Need-passes_6-requires
passes-6-requires c κs = let r : tie.After-reckon-objective = search in
    still_long (P (at r)) (given (at r)) _ r.reckon-objective.ensures (at r).requires.1

six : (e : tie.Else-not-passes_6) → passes6 (P (at search)) ≡ true
six e =
    let r : tie.After-reckon-objective = search in
    sym (six_is (P (at r)) (given (at r)) _ r.reckon-objective.ensures) ∙ sym e.passes_6.ensures ∙ (turned itself).0 e.if-not-passes_6.false-raw

returns : tie.Need-returns-then-not-passes_6
returns c = let r : tie.After-reckon-objective = search in
    starts_wild (P (at r)) (given (at r)) (sym (six_is (P (at r)) (given (at r)) _ r.reckon-objective.ensures) ∙ sym c.passes_6.ensures ∙ (turned_true itself).0 c.if-not-passes_6.true-raw)

passes-7-requires : tie.Need-passes_7-requires
passes-7-requires c κs = let s : tie.Start = search in
    let f = s.requires.0.fits in
    (omega (arith, f.few, f.plan.rows_most), fits_ops _ f)

dual-feasible-requires : tie.Need-dual_feasible-requires
dual-feasible-requires c κs = let s : tie.Start = search in
    (fits_reckonable _ s.requires.0.fits).columns

either_same : {a b c d : Bool} → a ≡ b → c ≡ d → (a || c) ≡ (b || d)
either_same e f = rw (e, f)

-- 7's two tests, as they are asked
abbrev asked : tie.After-dual_feasible → tie.After-passes_7
asked d = d.before

abbrev after : tie.After-dual_feasible → tie.After-reckon-objective
after d = search

seven : (d : tie.After-dual_feasible)
    → passes7 (P (at (after d))) || dual_feasible (P (at (after d))).plan
    ≡ ((asked d).passes_7.result || d.dual_feasible.result)
seven d =
    let r = after d in
    either_same
    (sym (seven_is (P (at r)) (given (at r)) _ r.reckon-objective.ensures) ∙ sym (asked d).passes_7.ensures)
    (dual_part (P (at r)).plan ∙ sym d.dual_feasible.ensures)

returns-2 : tie.Need-returns-then-not-passes_7-dual_feasible
returns-2 c =
    let e : tie.Else-not-passes_6 = search in
    let d = c.before in
    let r = after d in
    starts_outside (P (at r)) (given (at r)) (six e) (seven d ∙ (turned_true itself).0 c.if-not-passes_7-dual_feasible.true-raw)

returns-3 : tie.Need-returns
returns-3 c =
    let e : tie.Else-not-passes_6 = search in
    let d = c.before in
    let r = after d in
    starts_well (P (at r)) (given (at r)) (six e) (seven d ∙ (turned itself).0 c.if-not-passes_7-dual_feasible.false-raw) _
    (r.reckon-objective.ensures ∙ sym (reckoned_part (P (at r)) (given (at r))))

pub begin_spec : {M : Type 1} → statement M
begin_spec =
    tie.close
    (tie.spec
    reckon-requires
    passes-6-requires
    returns
    passes-7-requires
    dual-feasible-requires
    returns-2
    returns-3)
