-- k steps lead from s to t, said apart from `run_of` and `dual_run_of`: each step is one of the rules' own, and has its kind.
-- Assumes nothing.
use Rattle.std.specs.Prelude.{◌≡◌, ℕ, zero, suc, ◌+◌, ◌*◌, ◌≤◌, Some, None}
use Rattle.doubles.specs.Limits.{count_cells}
use Rattle.rules.specs.Plan.{Plan, Memory, Problem, State, problem_of, n_of, m_of}
use Rattle.rules.specs.Start.{start_state}
use Rattle.rules.specs.Choose.{choose}
use Rattle.rules.specs.Basis.{eta_used}
use Rattle.rules.specs.DualRow.{choose_row}
use Rattle.rules.specs.Step.{step, dual_step, moved}
use Rattle.rules.specs.Kinds.{Kind, dual, primal, first_kind}
use Rattle.rules.specs.Answers.{as_row}
use Rattle.rules.specs.Solve.{Solved}
use Rattle.rules.specs.Invariant.{Sound, Past, Tails}
use Rattle.rules.specs.declared.Entering.{Entering}
use Rattle.rules.specs.declared.LeavingVar.{LeavingVar}
use Rattle.rules.specs.declared.PivotInfo.{PivotInfo}

-- k steps lead from s, where steps of kind b begin, to t, where steps of the second kind go on. "dual steps until no row
-- leaves. Then … primal steps"
pub data Steps (P : Problem) (s : State) (b : Kind) : Kind → ℕ → State → Type 0 where
  none : Steps P s b b zero s
  one_dual : {k : ℕ} {t u : State} (l : LeavingVar) (i : PivotInfo) → Steps P s b dual k t → choose_row P t.ws ≡ Some l
      → dual_step P t l ≡ moved i u → Steps P s b dual (suc k) u
  turns : {k : ℕ} {t : State} → Steps P s b dual k t → choose_row P t.ws ≡ None → Steps P s b primal k t
  one_more : {k : ℕ} {t u : State} (e : Entering) (i : PivotInfo) → Steps P s b primal k t → choose P t.ws ≡ Some e
      → step P t e ≡ moved i u → Steps P s b primal (suc k) u

-- k steps of both kinds, told apart: dual ones to a state where no row leaves, and primal ones from there
pub record TurnsAt (P : Problem) (s : State) (k : ℕ) (t : State) : Type 0 where
  pub duals : ℕ
  pub primals : ℕ
  pub between : State
  pub by_duals : Steps P s dual dual duals between
  pub none_leaves : choose_row P between.ws ≡ None
  pub by_primals : Steps P between primal primal primals t
  pub together : duals + primals ≡ k

-- t is reached from s by as many steps as it says, within the budget
pub record Reached (P : Problem) (s : State) (b c : Kind) (t : State) (budget : ℕ) : Type 0 where
  pub by_steps : Steps P s b c t.steps t
  pub within : t.steps ≤ budget

-- from the start of a plan, within its budget, to t, where steps of kind c go on. A dual feasible start stands among its
-- dual steps until no row leaves
abbrev pub RunsTo : Plan → Memory → Kind → State → Type 0
RunsTo p m c t = Reached (problem_of p) (start_state (problem_of p) m) (first_kind p) c t p.budget

-- 01: "After k steps the store has at most k columns and k times the row count of entries". The steps that made a factor
-- leave none
pub record Bounded (P : Problem) (t : State) : Type 0 where
  pub columns : t.eta_count + t.factor.times ≤ t.steps
  pub entries : eta_used t ≤ t.eta_count * m_of P

-- 01: "cells past what is written never change"
pub record LentTails (P : Problem) (m m' : Memory) (t : State) : Type 0 where
  pub workspace : Tails P m t
  pub values : Past (n_of P + m_of P) m'.values m.values
  pub kept : Past (m_of P) m'.kept m.kept
  pub counts : Past count_cells m'.counts m.counts
  pub objective : Past 1 m'.objective m.objective

-- 01: "Answers 0 and 20 to 24 carry the objective and step count of that state", "the workspace then holds the state after the last whole step"
pub record Ran (p : Plan) (m : Memory) (r : Solved) (t : State) : Type 0 where
  pub kind : Kind
  pub reached : RunsTo p m kind t
  pub bounded : Bounded (problem_of p) t
  pub sound : Sound (problem_of p) t
  pub steps_told : (as_row r.answer).steps ≡ t.steps
  pub objective_told : (as_row r.answer).objective ≡ t.objective
  pub lent : r.memory.ws ≡ t.ws
  pub lent_numbers : r.memory.all_factor_numbers ≡ t.factor.numbers
  pub lent_coeffs : r.memory.all_factor_coeffs ≡ t.factor.coeffs
  pub tails : LentTails (problem_of p) m r.memory t
