-- What the call promises, in words: when each refusal is given, how it goes on, and what it leaves. proofs/ shows that
-- it keeps it. Assumes nothing.
use Rattle.std.specs.Prelude.{◌≡◌, true, ◌⊎◌, ℕ, suc, ◌+◌, ◌<◌, ◌≤◌, Float, None}
use Rattle.doubles.specs.Num.{◌⊕◌, ◌⊗◌, f0}
use Rattle.doubles.specs.Lists.{◌!◌, ◌#◌}
use Rattle.lu_factor_rules.specs.Factor.{Factor, factored, factorize}
use Rattle.rules.specs.Plan.{Plan, Problem, Memory, Workspace, State, problem_of, n_of, m_of}
use Rattle.rules.specs.Choose.{choose}
use Rattle.rules.specs.FinalCheck.{values_of}
use Rattle.rules.specs.Step.{Ended, ended}
use Rattle.rules.specs.Kinds.{primal}
use Rattle.rules.specs.Answers.{as_row, number_of}
use Rattle.rules.specs.Solve.{solve_plan}
use Rattle.rules.specs.Conditions.{Gives, Checks, AllSound, written}
use Rattle.rules.specs.declared.Checked.TheVariants.{Passed}
use Rattle.rules.specs.declared.Stop.{Stop}
use Rattle.rules.specs.declared.Stop.TheVariants.{NotFinite, Singular}
use Rattle.fix_rules.specs.Unkept.{Unkept}
use Rattle.fix_rules.specs.Meaning.{GoesOn}
use Rattle.reprice_rules.specs.declared.AnyAnswer.TheVariants.{Direct, Halted, Repriced}
use Rattle.reprice_rules.specs.Reprice.{cost_of, Ready, ready, halts, basis_now, factored_now, multipliers, priced_finite, priced_by}
use Rattle.reprice_rules.specs.Calls.{reprice_plan}
use Rattle.reprice_rules.specs.Any.{AnyCalled, any_called, costless, as_any_row}

-- ---- refusals: number k is called for
pub data RepriceGives (p : Plan) (m : Memory) : ℕ → Type 0 where
  as_solve : (k : ℕ) → k < 6 → Gives k p m → RepriceGives p m k
  not_kept : Unkept p m → RepriceGives p m 41

-- "lowest first": none below k is
abbrev pub NoneBelowReprice : ℕ → Plan → Memory → Type 0
NoneBelowReprice k p m = (j : ℕ) → j < k → ¬ RepriceGives p m j

-- the numbers of refusals: 1 to 5, and 41
abbrev pub RepriceRefuses : ℕ → Type 0
RepriceRefuses k = ((1 ≤ k) × (k < 6)) ⊎ (k ≡ 41)

-- no refusal
abbrev pub Accepted : Plan → Memory → Type 0
Accepted p m = NoneBelowReprice 42 p m

-- ---- the own part

-- part 1 leads from s to u: there is no eta column, or the basis is factored in their place
pub data Settles (P : Problem) (s : State) : State → Type 0 where
  as_it_is : s.eta_count ≡ 0 → Settles P s s
  anew : (f : Factor) → ¬ (s.eta_count ≡ 0) → factorize (m_of P) (basis_now P s) ≡ factored f → Settles P s (factored_now s f)

-- parts 1 to 5 lead from s to t: with the prices and the objective of u's basis, all numbers of them finite
pub record Priced (P : Problem) (s t : State) : Type 0 where
  pub basis : State
  pub settles : Settles P s basis
  pub numbers : priced_finite P basis (multipliers P basis) ≡ true
  pub after : t ≡ priced_by P basis (multipliers P basis)

-- "23 and 25"
pub data OwnStop : Stop → Type 0 where
  not_finite : OwnStop NotFinite
  singular : OwnStop Singular

pub data Own (P : Problem) (s : State) : Ready → Type 0 where
  stops : {w : Stop} → OwnStop w → Own P s (halts w)
  prices : {t : State} → Priced P s t → Own P s (ready t)

-- ---- how it goes on: "On 23 and 25 out of 1 to 5 the state is the one before the call"; else by primal steps of the
-- rules, within the budget, to where the words of an end hold
pub data RepriceEnds (P : Problem) (s : State) : Ended → Type 0 where
  not_made : (w : Stop) → OwnStop w → RepriceEnds P s (ended w s)
  made : {e : Ended} (t : State) → Priced P s t → GoesOn P t primal e → RepriceEnds P s e

-- ---- a solve from any start: the ways that its answer tells. On 7 nothing has changed
pub data AnyWays (p : Plan) (m : Memory) : AnyCalled → Type 0 where
  by_solve : ¬ (number_of (solve_plan p m).answer ≡ 7)
      → AnyWays p m (any_called (Direct (solve_plan p m).answer) (solve_plan p m).memory)
  by_costless_holds : number_of (solve_plan p m).answer ≡ 7 → ¬ (number_of (solve_plan (costless p) m).answer ≡ 0)
      → AnyWays p m (any_called (Halted (solve_plan (costless p) m).answer) (solve_plan (costless p) m).memory)
  by_reprice_holds : number_of (solve_plan p m).answer ≡ 7 → number_of (solve_plan (costless p) m).answer ≡ 0
      → AnyWays p m (any_called
      (Repriced (as_row (solve_plan (costless p) m).answer).steps (reprice_plan p (solve_plan (costless p) m).memory).answer)
      (reprice_plan p (solve_plan (costless p) m).memory).memory)

-- "Optimal means what it means for `solve`": the values are written, they have passed the final check with the answer's
-- excess, and no column enters
pub record AnyOptimal (p : Plan) (r : AnyCalled) : Type 0 where
  pub values_of_holds : written p r.memory ≡ values_of (problem_of p) r.memory.ws
  pub checked : Checks (problem_of p) (written p r.memory) (Passed (as_any_row r.answer).excess)
  pub all_sound : AllSound (problem_of p) (written p r.memory)
  pub none_enters : choose (problem_of p) r.memory.ws ≡ None

-- ---- the numbers of the own part, apart from the loops

-- "0.0 for a slack"
pub data Costs (P : Problem) : ℕ → Float → Type 0 where
  of_column : (j : ℕ) → j < n_of P → Costs P j (P.plan.costs ! j)
  of_slack : (r : ℕ) → Costs P (n_of P + r) f0

-- x and then f 0, .. f (k - 1) come to y, one after the other
pub data SumsTo (f : ℕ → Float) (x : Float) : ℕ → Float → Type 0 where
  nothing : SumsTo f x 0 x
  and_one : {k : ℕ} {y : Float} → SumsTo f x k y → SumsTo f x (suc k) (y ⊕ f k)

-- "The objective, from 0.0: cost * value of the basic variables by rows, then of the non_basic ones by places"
pub record Objective (P : Problem) (w : Workspace) (y : Float) : Type 0 where
  pub basics : Float
  pub by_rows : SumsTo (λ r. cost_of P (w.basic_vars # r) ⊗ w.basic_var_vals ! r) f0 (m_of P) basics
  pub by_places : SumsTo (λ c. cost_of P (w.nb_vars # c) ⊗ w.nb_var_vals ! c) basics (n_of P) y
