-- `run_dual::restore_feasibility` meets its contract. The loop's invariant: `Going`. Assumes nothing.
use mathlib.Core.Path.{◌∙◌}
use mathlib.Core.List.{List}
use Prim.Native.Nat.{ℕ, ◌-◌}
use native.Mathlib.Omega.{arith}
use lib.Ieee.{Float}
use borrow.Author.Rules.{rules}
use Rattle.rules.specs.Step.{dual_next, dual_at_budget}
use Rattle.run.proofs.Laws.{Going, going_start, going_steps}
use Rattle.run_dual.proofs.Dual.{chooses_asks, finishes, row_below, spends, halts, counts, goes_on}
use Rattle.run_dual.proofs.restore_feasibility.Statement.{statement}
use Rattle.run_dual.proofs.restore_feasibility.Tie as tie

abbrev invariant-loop : tie.invariant-loop-l
invariant-loop N₀ D₀ F₀ G₀ n lowers uppers starts cols coeffs ops kept cstarts crows ccoeffs budget t₀ N D F G t =
    Going dual_next dual_at_budget n lowers uppers starts cols coeffs ops kept budget N₀ D₀ F₀ G₀ t₀ N D F G t

abbrev decreases-loop : tie.decreases-loop-l
decreases-loop N₀ D₀ F₀ G₀ n lowers uppers starts cols coeffs ops kept cstarts crows ccoeffs budget t₀ N D F G t =
    budget - t.steps

-- the entry, the loop's head, the choice, and the step
abbrev entry : tie.At-loop-l invariant-loop decreases-loop → tie.Start invariant-loop decreases-loop
entry h = search

abbrev leaves : tie.After-dual_step-went invariant-loop decreases-loop → tie.In-Some invariant-loop decreases-loop
leaves t = search

abbrev head : tie.In-Some invariant-loop decreases-loop → tie.At-loop-l invariant-loop decreases-loop
head x = search

-- the arrays as the step leaves them
abbrev M : tie.After-dual_step-went invariant-loop decreases-loop → List ℕ
M t = t.dual_step-went.new.numbers

abbrev E : tie.After-dual_step-went invariant-loop decreases-loop → List Float
E t = t.dual_step-went.new.doubles

abbrev H : tie.After-dual_step-went invariant-loop decreases-loop → List ℕ
H t = t.dual_step-went.new.factor_numbers

abbrev J : tie.After-dual_step-went invariant-loop decreases-loop → List Float
J t = t.dual_step-went.new.factor_coeffs

loop-holds : tie.Need-loop-l-init invariant-loop decreases-loop
loop-holds c = let s : tie.Start invariant-loop decreases-loop = search in going_start s.requires.0

choose-row-requires : tie.Need-choose_row-choice-requires invariant-loop decreases-loop
choose-row-requires c κs = let h : tie.At-loop-l invariant-loop decreases-loop = search in chooses_asks h.loop-l.invariant

enum-known-choice : tie.Need-enum_known-choice invariant-loop decreases-loop
enum-known-choice c = search rules

enum_told : tie.Need-enum_told-1 invariant-loop decreases-loop
enum_told c = search rules

same_length : tie.Need-shape_of-numbers-in_default invariant-loop decreases-loop
same_length c = let h : tie.At-loop-l invariant-loop decreases-loop = search in h.loop-l.invariant.numbers_kept

same-length-2 : tie.Need-shape_of-doubles-in_default invariant-loop decreases-loop
same-length-2 c = let h : tie.At-loop-l invariant-loop decreases-loop = search in h.loop-l.invariant.doubles_kept

same-length-3 : tie.Need-shape_of-factor_numbers-in_default invariant-loop decreases-loop
same-length-3 c = let h : tie.At-loop-l invariant-loop decreases-loop = search in h.loop-l.invariant.factor_numbers_kept

same-length-4 : tie.Need-shape_of-factor_coeffs-in_default invariant-loop decreases-loop
same-length-4 c = let h : tie.At-loop-l invariant-loop decreases-loop = search in h.loop-l.invariant.factor_coeffs_kept

returns : tie.Need-returns-in_default invariant-loop decreases-loop
returns c =
    let a : tie.After-choose_row-choice invariant-loop decreases-loop = search in
    let h : tie.At-loop-l invariant-loop decreases-loop = search in
    finishes h.loop-l.invariant _ a.choose_row-choice.ensures c.in_default.is

same-length-5 : tie.Need-shape_of-numbers-then-so_far-budget invariant-loop decreases-loop
same-length-5 c = let h : tie.At-loop-l invariant-loop decreases-loop = search in h.loop-l.invariant.numbers_kept

same-length-6 : tie.Need-shape_of-doubles-then-so_far-budget invariant-loop decreases-loop
same-length-6 c = let h : tie.At-loop-l invariant-loop decreases-loop = search in h.loop-l.invariant.doubles_kept

same-length-7 : tie.Need-shape_of-factor_numbers-then-so_far-budget invariant-loop decreases-loop
same-length-7 c = let h : tie.At-loop-l invariant-loop decreases-loop = search in h.loop-l.invariant.factor_numbers_kept

same-length-8 : tie.Need-shape_of-factor_coeffs-then-so_far-budget invariant-loop decreases-loop
same-length-8 c = let h : tie.At-loop-l invariant-loop decreases-loop = search in h.loop-l.invariant.factor_coeffs_kept

returns-2 : tie.Need-returns-then-so_far-budget invariant-loop decreases-loop
returns-2 c =
    let x : tie.In-Some invariant-loop decreases-loop = search in
    spends (head x).loop-l.invariant _ x.choose_row-choice.ensures _ x.in-Some.is
    (omega (arith, c.if-so_far-budget.true))

dual-step-requires : tie.Need-dual_step-went-requires invariant-loop decreases-loop
dual-step-requires c κs =
    let b : tie.Else-so_far-budget invariant-loop decreases-loop = search in
    let x : tie.In-Some invariant-loop decreases-loop = search in
    let s = entry (head x) in
    let row = row_below (head x).loop-l.invariant _ x.choose_row-choice.ensures _ x.in-Some.is in
    (going_steps (head x).loop-l.invariant (omega (arith, b.if-so_far-budget.false)) s.requires.1.2, (s.requires.1.0, s.requires.1.1, row))

enum-known-went : tie.Need-enum_known-went invariant-loop decreases-loop
enum-known-went c = search rules

loop-less : tie.Need-loop-l-smaller invariant-loop decreases-loop
loop-less c =
    let w : tie.In-Ok invariant-loop decreases-loop = search in
    let t : tie.After-dual_step-went invariant-loop decreases-loop = search in
    let b : tie.Else-so_far-budget invariant-loop decreases-loop = search in
    let x = leaves t in
    omega (
      arith,
      b.if-so_far-budget.false,
      counts (head x).loop-l.invariant _ x.choose_row-choice.ensures _ x.in-Some.is b.if-so_far-budget.false _
          (M t) (E t) (H t) (J t) t.dual_step-went.ensures _ w.in-Ok.is,
    )

loop-again : tie.Need-loop-l-preserved invariant-loop decreases-loop
loop-again c =
    let w : tie.In-Ok invariant-loop decreases-loop = search in
    let t : tie.After-dual_step-went invariant-loop decreases-loop = search in
    let b : tie.Else-so_far-budget invariant-loop decreases-loop = search in
    let x = leaves t in
    goes_on (head x).loop-l.invariant _ x.choose_row-choice.ensures _ x.in-Some.is b.if-so_far-budget.false _
    (M t) (E t) (H t) (J t) t.dual_step-went.ensures _ w.in-Ok.is
    t.dual_step-went.auto.numbers t.dual_step-went.auto.doubles t.dual_step-went.auto.factor_numbers t.dual_step-went.auto.factor_coeffs

enum-known-went-2 : tie.Need-enum_known-went-in-Err-1 invariant-loop decreases-loop
enum-known-went-2 c = search rules

same-length-9 : tie.Need-shape_of-numbers-in-Err invariant-loop decreases-loop
same-length-9 c =
    let t : tie.After-dual_step-went invariant-loop decreases-loop = search in
    t.dual_step-went.auto.numbers ∙ (head (leaves t)).loop-l.invariant.numbers_kept

same-length-10 : tie.Need-shape_of-doubles-in-Err invariant-loop decreases-loop
same-length-10 c =
    let t : tie.After-dual_step-went invariant-loop decreases-loop = search in
    t.dual_step-went.auto.doubles ∙ (head (leaves t)).loop-l.invariant.doubles_kept

same-length-11 : tie.Need-shape_of-factor_numbers-in-Err invariant-loop decreases-loop
same-length-11 c =
    let t : tie.After-dual_step-went invariant-loop decreases-loop = search in
    t.dual_step-went.auto.factor_numbers ∙ (head (leaves t)).loop-l.invariant.factor_numbers_kept

same-length-12 : tie.Need-shape_of-factor_coeffs-in-Err invariant-loop decreases-loop
same-length-12 c =
    let t : tie.After-dual_step-went invariant-loop decreases-loop = search in
    t.dual_step-went.auto.factor_coeffs ∙ (head (leaves t)).loop-l.invariant.factor_coeffs_kept

returns-3 : tie.Need-returns-in-Err invariant-loop decreases-loop
returns-3 c =
    let w : tie.In-Err invariant-loop decreases-loop = search in
    let t : tie.After-dual_step-went invariant-loop decreases-loop = search in
    let b : tie.Else-so_far-budget invariant-loop decreases-loop = search in
    let x = leaves t in
    halts (head x).loop-l.invariant _ x.choose_row-choice.ensures _ x.in-Some.is b.if-so_far-budget.false _
    (M t) (E t) (H t) (J t) t.dual_step-went.ensures _ w.in-Err.is

pub restore_feasibility_spec : {M : Type 1} → statement M
restore_feasibility_spec =
    tie.close
    (tie.spec
    invariant-loop
    decreases-loop
    loop-holds
    choose-row-requires
    enum-known-choice
    enum_told
    same_length
    same-length-2
    same-length-3
    same-length-4
    returns
    same-length-5
    same-length-6
    same-length-7
    same-length-8
    returns-2
    dual-step-requires
    enum-known-went
    loop-less
    loop-again
    enum-known-went-2
    same-length-9
    same-length-10
    same-length-11
    same-length-12
    returns-3)
