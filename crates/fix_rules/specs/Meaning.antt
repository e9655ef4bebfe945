-- What the two calls promise, in words: when each number is given, what a mark holds, how a call goes on, and what it
-- leaves. proofs/ shows that they keep it. Assumes nothing.
use Rattle.std.specs.Prelude.{◌≡◌, true, false, ◌⊎◌, ℕ, ◌<◌, ◌≤◌, Float}
use Rattle.doubles.specs.Num.{f0}
use Rattle.doubles.specs.Lists.{◌!◌, ◌#◌}
use Rattle.rules.specs.Plan.{Plan, Problem, Memory, Workspace, State, problem_of, n_of, var_state_of, flags_of}
use Rattle.rules.specs.Step.{Ended, ended, moved}
use Rattle.rules.specs.Kinds.{Kind, dual}
use Rattle.rules.specs.Steps.{Steps}
use Rattle.rules.specs.FinalCheck.{values_of}
use Rattle.rules.specs.Solve.{answer_of}
use Rattle.rules.specs.Conditions.{Gives, Names, Ends, Checks, AllSound, written}
use Rattle.rules.specs.Invariant.{Sound}
use Rattle.rules.specs.declared.VarState.TheVariants.{Basic, NonBasic}
use Rattle.rules.specs.declared.PivotInfo.{PivotInfo}
use Rattle.rules.specs.declared.Stop.{Stop}
use Rattle.rules.specs.declared.Stop.TheVariants.{Spent, NotFinite, Singular, Infeasible}
use Rattle.rules.specs.declared.Checked.TheVariants.{Passed}
use Rattle.fix_rules.specs.declared.FixAnswer.TheVariants.{Told}
use Rattle.fix_rules.specs.Unkept.{Unkept}
use Rattle.fix_rules.specs.Fix.{marked, shift_finite, shifted, fix_step}
use Rattle.fix_rules.specs.Calls.{Called, as_fix_row}
use Rattle.fix_rules.specs.Conditions.{Unknown, Outside, Loose}
use Rattle.fix_rules.specs.Sequence.{Call, fix, unfix, column_of}

-- ---- refusals. docs/RULES-02.md, Ask 9: number k is called for
pub data CallGives (p : Plan) (m : Memory) : Call → ℕ → Type 0 where
  as_solve : {c : Call} (k : ℕ) → k < 6 → Gives k p m → CallGives p m c k
  not_kept : {c : Call} → Unkept p m → CallGives p m c 41
  unknown : {c : Call} → Unknown p (column_of c) → CallGives p m c 42
  outside : {j : ℕ} {value : Float} → Outside p j value → CallGives p m (fix j value) 43
  not_fixed : {j : ℕ} → Loose p m j → CallGives p m (unfix j) 44

-- "lowest first": none below k is
abbrev pub NoneBelowCall : ℕ → Plan → Memory → Call → Type 0
NoneBelowCall k p m c = (j : ℕ) → j < k → ¬ CallGives p m c j

-- the numbers of refusals: "1 to 5 as solve gives them", 41 to 44
abbrev pub Refuses : ℕ → Type 0
Refuses k = ((1 ≤ k) × (k < 6)) ⊎ ((41 ≤ k) × (k < 45))

abbrev pub call_number : Called → ℕ
call_number r = (as_fix_row r.answer).number

-- "changing nothing": "A refused call has objective +0.0 and 0 steps", and names a place as solve does
pub record CallRefusal (k : ℕ) (p : Plan) (m : Memory) (r : Called) : Type 0 where
  pub number : call_number r ≡ k
  pub objective : (as_fix_row r.answer).objective ≡ f0
  pub steps : (as_fix_row r.answer).steps ≡ 0
  pub excess : (as_fix_row r.answer).excess ≡ f0
  pub place : Names k p (as_fix_row r.answer).place
  pub memory : r.memory ≡ m

-- no refusal
abbrev pub Accepted : Plan → Memory → Call → Type 0
Accepted p m c = NoneBelowCall 45 p m c

-- ---- the mark: column j stands at place c with its mark, "7", and with this value, bit for bit
pub record Held (P : Problem) (w : Workspace) (j c : ℕ) (value : Float) : Type 0 where
  pub column : j < n_of P
  pub inside : c < n_of P
  pub stands : w.var_states # j ≡ c
  pub mark : w.flags # c ≡ 7
  pub valued : w.nb_var_vals ! c ≡ value

-- it has no mark: it is basic, or stands at a place without one. So 44's words are these of the memory
abbrev pub Free : Problem → Workspace → ℕ → Type 0
Free P w j =
    let c = w.var_states # j in
    (n_of P ≤ c) ⊎ ((c < n_of P) × ((flags_of (w.flags # c)).«fixed» ≡ false))

-- ---- how a call goes on

-- from s with steps of kind b, each one of the rules', within the budget, to the end e, where the words of an end hold
pub record GoesOn (P : Problem) (s : State) (b : Kind) (e : Ended) : Type 0 where
  pub kind : Kind
  pub count : ℕ
  pub by_steps : Steps P s b kind count e.state
  pub within : e.state.steps ≤ P.plan.budget
  pub ends : Ends P kind e.state e.why

-- the column's own part of a fix is made, to t: it is moved where it stands, or leaves its row by one step
pub data Made (P : Problem) (s : State) (j : ℕ) (value : Float) : State → Type 0 where
  moves : (c : ℕ) → var_state_of (n_of P) (s.ws.var_states # j) ≡ NonBasic c → shift_finite P s c value ≡ true
      → Made P s j value (shifted P s c value)
  leaves : (r : ℕ) (i : PivotInfo) (t : State) → var_state_of (n_of P) (s.ws.var_states # j) ≡ Basic r
      → 0 < P.plan.budget
      → fix_step P s r value ≡ moved i t → Made P s j value (marked t (t.ws.var_states # j))

-- "On 21, 23, 25 and 26 out of the own part the state is the one before the call"
pub data OwnStop : Stop → Type 0 where
  no_budget : OwnStop Spent
  not_finite : OwnStop NotFinite
  singular : OwnStop Singular
  infeasible : (r : ℕ) → OwnStop (Infeasible r)

-- "Fixing continues with dual steps"
pub data FixEnds (P : Problem) (s : State) (j : ℕ) (value : Float) : Ended → Type 0 where
  not_made : (w : Stop) → OwnStop w → FixEnds P s j value (ended w s)
  made : {e : Ended} (t : State) → Made P s j value t → GoesOn P t dual e → FixEnds P s j value e

-- ---- what an accepted call tells and leaves: e is where its run ends
pub record CallRan (p : Plan) (m : Memory) (r : Called) (e : Ended) : Type 0 where
  pub answer_is : r.answer ≡ Told (answer_of (problem_of p) e)
  pub sound : Sound (problem_of p) e.state
  pub within : e.state.steps ≤ p.budget
  pub steps_told : (as_fix_row r.answer).steps ≡ e.state.steps
  pub objective_told : (as_fix_row r.answer).objective ≡ e.state.objective
  pub lent : r.memory.ws ≡ e.state.ws
  pub lent_numbers : r.memory.all_factor_numbers ≡ e.state.factor.numbers
  pub lent_coeffs : r.memory.all_factor_coeffs ≡ e.state.factor.coeffs

-- "The values array is written on 0 alone": they have passed the final check with the answer's excess
pub record CallPasses (p : Plan) (r : Called) : Type 0 where
  pub values_of_holds : written p r.memory ≡ values_of (problem_of p) r.memory.ws
  pub checked : Checks (problem_of p) (written p r.memory) (Passed (as_fix_row r.answer).excess)
  pub all_sound : AllSound (problem_of p) (written p r.memory)

-- the numbers of a stop out of the own part
abbrev pub OwnNumber : ℕ → Type 0
OwnNumber k = (k ≡ 21) ⊎ ((k ≡ 23) ⊎ ((k ≡ 25) ⊎ (k ≡ 26)))

-- a fix that is accepted: the column is held with the value; or its own part isn't made, and every place is as it was
pub data FixLeaves (p : Plan) (m : Memory) (j : ℕ) (value : Float) (r : Called) : Type 0 where
  as_before : r.memory.ws ≡ m.ws → (as_fix_row r.answer).steps ≡ 0 → OwnNumber (call_number r)
      → FixLeaves p m j value r
  holds : (c : ℕ) → Held (problem_of p) r.memory.ws j c value → FixLeaves p m j value r
