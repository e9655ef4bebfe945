-- `run::optimize` meets its contract. The loop's invariant: `Going`. Assumes nothing.
use mathlib.Core.Path.{◌∙◌}
use mathlib.Core.List.{List}
use Prim.Native.Nat.{ℕ, ◌-◌}
use native.Mathlib.Omega.{arith}
use lib.Ieee.{Float}
use borrow.Author.Rules.{rules}
use Rattle.rules.specs.Step.{next, at_budget}
use Rattle.run.proofs.Laws.{Going, going_start, going_steps}
use Rattle.run.proofs.Primal.{chooses_asks, finishes, column_below, spends, halts, counts, goes_on}
use Rattle.run.proofs.optimize.Statement.{statement}
use Rattle.run.proofs.optimize.Tie as tie

abbrev invariant-loop : tie.invariant-loop-e
invariant-loop N₀ D₀ F₀ G₀ n lowers uppers starts cols coeffs ops kept cstarts crows ccoeffs budget t₀ N D F G t =
    Going next at_budget n lowers uppers starts cols coeffs ops kept budget N₀ D₀ F₀ G₀ t₀ N D F G t

abbrev decreases-loop : tie.decreases-loop-e
decreases-loop N₀ D₀ F₀ G₀ n lowers uppers starts cols coeffs ops kept cstarts crows ccoeffs budget t₀ N D F G t =
    budget - t.steps

-- the entry, the loop's head, the choice, and the step
abbrev entry : tie.At-loop-e invariant-loop decreases-loop → tie.Start invariant-loop decreases-loop
entry h = search

abbrev enters : tie.After-step-went invariant-loop decreases-loop → tie.In-Some invariant-loop decreases-loop
enters t = search

abbrev head : tie.In-Some invariant-loop decreases-loop → tie.At-loop-e invariant-loop decreases-loop
head x = search

-- the arrays as the step leaves them
abbrev M : tie.After-step-went invariant-loop decreases-loop → List ℕ
M t = t.step-went.new.numbers

abbrev E : tie.After-step-went invariant-loop decreases-loop → List Float
E t = t.step-went.new.doubles

abbrev H : tie.After-step-went invariant-loop decreases-loop → List ℕ
H t = t.step-went.new.factor_numbers

abbrev J : tie.After-step-went invariant-loop decreases-loop → List Float
J t = t.step-went.new.factor_coeffs

loop-holds : tie.Need-loop-e-init invariant-loop decreases-loop
loop-holds c = let s : tie.Start invariant-loop decreases-loop = search in going_start s.requires.0

choose-requires : tie.Need-choose-choice-requires invariant-loop decreases-loop
choose-requires c κs = let h : tie.At-loop-e invariant-loop decreases-loop = search in chooses_asks h.loop-e.invariant

enum-known-choice : tie.Need-enum_known-choice invariant-loop decreases-loop
enum-known-choice c = search rules

enum_told : tie.Need-enum_told-1 invariant-loop decreases-loop
enum_told c = search rules

same_length : tie.Need-shape_of-numbers-in_default invariant-loop decreases-loop
same_length c = let h : tie.At-loop-e invariant-loop decreases-loop = search in h.loop-e.invariant.numbers_kept

same-length-2 : tie.Need-shape_of-doubles-in_default invariant-loop decreases-loop
same-length-2 c = let h : tie.At-loop-e invariant-loop decreases-loop = search in h.loop-e.invariant.doubles_kept

same-length-3 : tie.Need-shape_of-factor_numbers-in_default invariant-loop decreases-loop
same-length-3 c = let h : tie.At-loop-e invariant-loop decreases-loop = search in h.loop-e.invariant.factor_numbers_kept

same-length-4 : tie.Need-shape_of-factor_coeffs-in_default invariant-loop decreases-loop
same-length-4 c = let h : tie.At-loop-e invariant-loop decreases-loop = search in h.loop-e.invariant.factor_coeffs_kept

returns : tie.Need-returns-in_default invariant-loop decreases-loop
returns c =
    let a : tie.After-choose-choice invariant-loop decreases-loop = search in
    let h : tie.At-loop-e invariant-loop decreases-loop = search in
    finishes h.loop-e.invariant _ a.choose-choice.ensures c.in_default.is

same-length-5 : tie.Need-shape_of-numbers-then-tally-budget invariant-loop decreases-loop
same-length-5 c = let h : tie.At-loop-e invariant-loop decreases-loop = search in h.loop-e.invariant.numbers_kept

same-length-6 : tie.Need-shape_of-doubles-then-tally-budget invariant-loop decreases-loop
same-length-6 c = let h : tie.At-loop-e invariant-loop decreases-loop = search in h.loop-e.invariant.doubles_kept

same-length-7 : tie.Need-shape_of-factor_numbers-then-tally-budget invariant-loop decreases-loop
same-length-7 c = let h : tie.At-loop-e invariant-loop decreases-loop = search in h.loop-e.invariant.factor_numbers_kept

same-length-8 : tie.Need-shape_of-factor_coeffs-then-tally-budget invariant-loop decreases-loop
same-length-8 c = let h : tie.At-loop-e invariant-loop decreases-loop = search in h.loop-e.invariant.factor_coeffs_kept

returns-2 : tie.Need-returns-then-tally-budget invariant-loop decreases-loop
returns-2 c =
    let x : tie.In-Some invariant-loop decreases-loop = search in
    spends (head x).loop-e.invariant _ x.choose-choice.ensures _ x.in-Some.is
    (omega (arith, c.if-tally-budget.true))

step-requires : tie.Need-step-went-requires invariant-loop decreases-loop
step-requires c κs =
    let b : tie.Else-tally-budget invariant-loop decreases-loop = search in
    let x : tie.In-Some invariant-loop decreases-loop = search in
    let s = entry (head x) in
    let col = column_below (head x).loop-e.invariant _ x.choose-choice.ensures _ x.in-Some.is in
    (going_steps (head x).loop-e.invariant (omega (arith, b.if-tally-budget.false)) s.requires.1.2, (s.requires.1.0, s.requires.1.1, col))

enum-known-went : tie.Need-enum_known-went invariant-loop decreases-loop
enum-known-went c = search rules

loop-less : tie.Need-loop-e-smaller invariant-loop decreases-loop
loop-less c =
    let w : tie.In-Ok invariant-loop decreases-loop = search in
    let t : tie.After-step-went invariant-loop decreases-loop = search in
    let b : tie.Else-tally-budget invariant-loop decreases-loop = search in
    let x = enters t in
    omega (
      arith,
      b.if-tally-budget.false,
      counts (head x).loop-e.invariant _ x.choose-choice.ensures _ x.in-Some.is b.if-tally-budget.false _
          (M t) (E t) (H t) (J t) t.step-went.ensures _ w.in-Ok.is,
    )

loop-again : tie.Need-loop-e-preserved invariant-loop decreases-loop
loop-again c =
    let w : tie.In-Ok invariant-loop decreases-loop = search in
    let t : tie.After-step-went invariant-loop decreases-loop = search in
    let b : tie.Else-tally-budget invariant-loop decreases-loop = search in
    let x = enters t in
    goes_on (head x).loop-e.invariant _ x.choose-choice.ensures _ x.in-Some.is b.if-tally-budget.false _
    (M t) (E t) (H t) (J t) t.step-went.ensures _ w.in-Ok.is
    t.step-went.auto.numbers t.step-went.auto.doubles t.step-went.auto.factor_numbers t.step-went.auto.factor_coeffs

enum-known-went-2 : tie.Need-enum_known-went-in-Err-1 invariant-loop decreases-loop
enum-known-went-2 c = search rules

same-length-9 : tie.Need-shape_of-numbers-in-Err invariant-loop decreases-loop
same-length-9 c =
    let t : tie.After-step-went invariant-loop decreases-loop = search in
    t.step-went.auto.numbers ∙ (head (enters t)).loop-e.invariant.numbers_kept

same-length-10 : tie.Need-shape_of-doubles-in-Err invariant-loop decreases-loop
same-length-10 c =
    let t : tie.After-step-went invariant-loop decreases-loop = search in
    t.step-went.auto.doubles ∙ (head (enters t)).loop-e.invariant.doubles_kept

same-length-11 : tie.Need-shape_of-factor_numbers-in-Err invariant-loop decreases-loop
same-length-11 c =
    let t : tie.After-step-went invariant-loop decreases-loop = search in
    t.step-went.auto.factor_numbers ∙ (head (enters t)).loop-e.invariant.factor_numbers_kept

same-length-12 : tie.Need-shape_of-factor_coeffs-in-Err invariant-loop decreases-loop
same-length-12 c =
    let t : tie.After-step-went invariant-loop decreases-loop = search in
    t.step-went.auto.factor_coeffs ∙ (head (enters t)).loop-e.invariant.factor_coeffs_kept

returns-3 : tie.Need-returns-in-Err invariant-loop decreases-loop
returns-3 c =
    let w : tie.In-Err invariant-loop decreases-loop = search in
    let t : tie.After-step-went invariant-loop decreases-loop = search in
    let b : tie.Else-tally-budget invariant-loop decreases-loop = search in
    let x = enters t in
    halts (head x).loop-e.invariant _ x.choose-choice.ensures _ x.in-Some.is b.if-tally-budget.false _
    (M t) (E t) (H t) (J t) t.step-went.ensures _ w.in-Err.is

pub optimize_spec : {M : Type 1} → statement M
optimize_spec =
    tie.close
    (tie.spec
    invariant-loop
    decreases-loop
    loop-holds
    choose-requires
    enum-known-choice
    enum_told
    same_length
    same-length-2
    same-length-3
    same-length-4
    returns
    same-length-5
    same-length-6
    same-length-7
    same-length-8
    returns-2
    step-requires
    enum-known-went
    loop-less
    loop-again
    enum-known-went-2
    same-length-9
    same-length-10
    same-length-11
    same-length-12
    returns-3)
