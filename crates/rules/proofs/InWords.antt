-- 0 and 26 as the documents say them: the whole answer exactly when. Assumes nothing.
use mathlib.Core.Path.{◌≡◌, refl, ap, subst}
use mathlib.Core.Logic.{◌↔◌, inl, inr}
use Prim.Native.Nat.{ℕ, suc}
use native.Mathlib.Omega.{arith}
use lib.Ieee.{Float}
use Rattle.doubles.specs.Num.{f0}
use Rattle.rules.specs.Plan.{Plan, Memory, Problem, State, problem_of, n_of}
use Rattle.rules.specs.Choose.{choose}
use Rattle.rules.specs.DualRatio.{leaving_rises}
use Rattle.rules.specs.DualChoices.{EligibleBy, DualGives, nothing, NoneEligible, NoColumn}
use Rattle.rules.specs.FinalCheck.{values_of}
use Rattle.rules.specs.Kinds.{Kind, dual, primal}
use Rattle.rules.specs.Answers.{Row as Told, row, nowhere, kept_row_at, as_row}
use Rattle.rules.specs.Solve.{solve_plan}
use Rattle.rules.specs.Invariant.{ProblemFits}
use Rattle.rules.specs.Conditions.{NoneBelow, Checks, DualStopsBy, dual_row, NoEntering, Ends, Line, optimal, unbounded, spent, singular, infeasible, not_finite, value_rejected, row_rejected}
use Rattle.rules.specs.Steps.{Steps, none, turns, one_more, TurnsAt, RunsTo}
use Rattle.rules.specs.declared.LeavingVar.{LeavingVar}
use Rattle.std.specs.Prelude.{None}
use Rattle.rules.specs.declared.DualRatio.TheVariants.{Nothing as Dual-as-Nothing}
use Rattle.rules.specs.declared.Stop.TheVariants.{Infeasible}
use Rattle.rules.specs.declared.Checked.TheVariants.{Passed}
use Rattle.rules.proofs.Refusals.{none_refused}
use Rattle.rules.proofs.Start.{passed_fits}
use Rattle.rules.proofs.Vectors.{row_vector}
use Rattle.rules.proofs.DualColumn.{no_column}
use Rattle.rules.proofs.Answers.{answer_exact}

-- ---- 26
module _ (P : Problem) (p : ProblemFits P) (s : State) where
  over_columns : (l : LeavingVar) → NoneEligible s.ws (EligibleBy (leaving_rises s.ws l)) (dual_row P s l) ↔ NoColumn s.ws (leaving_rises s.ws l) (dual_row P s l) (n_of P)
  over_columns l = no_column (n_of P) s.ws (leaving_rises s.ws l) (dual_row P s l) (omega (arith, p.plan)) (row_vector P p s l.row)

  of_nothing : {l : LeavingVar} → DualGives s.ws l (dual_row P s l) Dual-as-Nothing → NoneEligible s.ws (EligibleBy (leaving_rises s.ws l)) (dual_row P s l)
  of_nothing (nothing n) = n

  -- a run ends so among its dual steps
  pub infeasible_ends : (r : ℕ) → Ends P dual s (Infeasible r) ↔ NoEntering P s r
  unfolding Ends DualStopsBy
  infeasible_ends r = (
    λ h.
        let l = h.0 in
        record {
          leaving = l;
          leaves = h.1;
          row_is = h.3.1;
          step_left = h.2;
          entries = h.3.0;
          no_column = (over_columns l).0 (of_nothing h.3.2);
        },
    λ x. (x.leaving, x.leaves, x.step_left, (x.entries, x.row_is, nothing ((over_columns x.leaving).1 x.no_column))),
  )

-- ---- the lines 26 and 0, which each stand in one kind of step
data Of26 (P : Problem) (c : Kind) (s : State) : Told → Type 0 where
  of_26 : (r : ℕ) → c ≡ dual → Ends P dual s (Infeasible r) → Of26 P c s (row 26 s.objective s.steps f0 (kept_row_at r))

line_26 : {P : Problem} {c : Kind} {s : State} {t : Told} → Line P c s t → t.number ≡ 26 → Of26 P c s t
unfolding Ends
line_26 (optimal x h g) q = absurd (omega arith)
line_26 (unbounded h) q = absurd (omega arith)
line_26 (spent h) q = absurd (omega arith)
line_26 (singular h) q = absurd (omega arith)
line_26 (not_finite h) q = absurd (omega arith)
line_26 (value_rejected v x h g) q = absurd (omega arith)
line_26 (row_rejected r x h g) q = absurd (omega arith)
line_26 {c = dual} (infeasible r h) q = of_26 r refl h
line_26 {c = primal} (infeasible r h) q = absurd h

data Of0 (P : Problem) (c : Kind) (s : State) : Told → Type 0 where
  of_0 : (x : Float) → c ≡ primal → choose P s.ws ≡ None → Checks P (values_of P s.ws) (Passed x)
      → Of0 P c s (row 0 s.objective s.steps x nowhere)

line_0 : {P : Problem} {c : Kind} {s : State} {t : Told} → Line P c s t → t.number ≡ 0 → Of0 P c s t
unfolding Ends
line_0 {c = dual} (optimal x h g) q = absurd h
line_0 {c = primal} (optimal x h g) q = of_0 x refl h g
line_0 (unbounded h) q = absurd (omega arith)
line_0 (spent h) q = absurd (omega arith)
line_0 (singular h) q = absurd (omega arith)
line_0 (not_finite h) q = absurd (omega arith)
line_0 (infeasible r h) q = absurd (omega arith)
line_0 (value_rejected v x h g) q = absurd (omega arith)
line_0 (row_rejected r x h g) q = absurd (omega arith)

-- "dual steps until no row leaves. Then … primal steps": a run that starts among its dual steps and stands among its primal
-- ones has come by a state where no row leaves
pub turned_at : {P : Problem} {s t : State} {k : ℕ} → Steps P s dual primal k t → TurnsAt P s k t
turned_at (turns {k} {t} r c) =
    record { duals = k; primals = 0; between = t; by_duals = r; none_leaves = c; by_primals = none; together = omega arith }
turned_at (one_more e i r c q) =
    let x = turned_at r in
    record {
      duals = x.duals;
      primals = suc x.primals;
      between = x.between;
      by_duals = x.by_duals;
      none_leaves = x.none_leaves;
      by_primals = one_more e i x.by_primals c q;
      together = omega (arith, x.together);
    }

module _ (p : Plan) (m : Memory) where
  abbrev told : Told
  told = as_row (solve_plan p m).answer

  abbrev Infeasible·Words : ℕ → Type 0
  Infeasible·Words r = NoneBelow 8 p m × ((s : State) × RunsTo p m dual s × NoEntering (problem_of p) s r)

  fits : NoneBelow 8 p m → ProblemFits (problem_of p)
  fits n = let pass = none_refused p m (λ j h. n j (omega arith)) in passed_fits p m pass.passes_1 pass.passes_2 pass.passes_3

  words_26 : (r : ℕ) {c : Kind} {s : State} {t : Told} → NoneBelow 8 p m → RunsTo p m c s → Of26 (problem_of p) c s t → t.place ≡ kept_row_at r
      → Infeasible·Words r
  words_26 r {c} {s} n a (of_26 k e h) q =
      let same : k ≡ r = cc in
      let x = (infeasible_ends (problem_of p) (fits n) s k).0 h in
      (n, (s, subst (λ (d : Kind). RunsTo p m d s) e a, subst (NoEntering (problem_of p) s) same x))

  -- 02: "A new status 26 says no entering column exists for the leaving row", and its place is that row: exactly when the
  -- dual steps lead within the budget to a state where a row leaves and no column can enter for it
  pub infeasible_told : (r : ℕ) → (told.number ≡ 26) × (told.place ≡ kept_row_at r)
      ↔ (NoneBelow 8 p m × ((s : State) × RunsTo p m dual s × NoEntering (problem_of p) s r))
  infeasible_told r = (
    λ h.
        let x = (answer_exact p m told (inr (omega (arith, h.0)))).0 refl in
        words_26 r x.0 x.1.1.1 (line_26 x.1.1.2 h.0) h.1,
    λ h.
        let P = problem_of p in
        let s = h.1.0 in
        let e : told ≡ row 26 s.objective s.steps f0 (kept_row_at r) =
        (answer_exact p m (row 26 s.objective s.steps f0 (kept_row_at r)) (inr (omega arith))).1
        (h.0, (dual, (s, h.1.1, infeasible r ((infeasible_ends P (fits h.0) s r).1 h.1.2)))) in
        (ap (λ (t : Told). t.number) e, ap (λ (t : Told). t.place) e),
  )

  abbrev Optimal·Words : Type 0
  Optimal·Words =
      NoneBelow 8 p m
      × ((s : State) × RunsTo p m primal s × (choose (problem_of p) s.ws ≡ None)
      × ((x : Float) × Checks (problem_of p) (values_of (problem_of p) s.ws) (Passed x)))

  words_0 : {c : Kind} {s : State} {t : Told} → NoneBelow 8 p m → RunsTo p m c s → Of0 (problem_of p) c s t → Optimal·Words
  words_0 {c} {s} n a (of_0 x e h g) = (n, (s, subst (λ (d : Kind). RunsTo p m d s) e a, h, (x, g)))

  -- 0 exactly when the steps lead within the budget to a state among the primal ones, so that no row left when the dual
  -- steps of a dual feasible start ended (`turned_at`), where no column enters and which the final check accepts
  pub optimal_told : (told.number ≡ 0)
      ↔ (NoneBelow 8 p m
      × ((s : State) × RunsTo p m primal s × (choose (problem_of p) s.ws ≡ None)
      × ((x : Float) × Checks (problem_of p) (values_of (problem_of p) s.ws) (Passed x))))
  unfolding Ends
  optimal_told = (
    λ h. let x = (answer_exact p m told (inl h)).0 refl in words_0 x.0 x.1.1.1 (line_0 x.1.1.2 h),
    λ h.
        let s = h.1.0 in
        let x = h.1.3 in
        ap (λ (t : Told). t.number)
        ((answer_exact p m (row 0 s.objective s.steps x.0 nowhere) (inl refl)).1
        (h.0, (primal, (s, h.1.1, optimal x.0 h.1.2 x.1)))),
  )
