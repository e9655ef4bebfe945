-- 02, Ask 9: "Start-to-end equality in demand 2 now reads a list of fix and unfix calls besides the plan": the calls as
-- data, and what a list of them gives, each on the memory that the one before it left. Assumes nothing.
use Rattle.std.specs.Prelude.{◌≡◌, List, [], ◌∷◌, ℕ, Float}
use Rattle.rules.specs.Plan.{Plan, Problem, Memory, State}
use Rattle.rules.specs.Step.{Ended}
use Rattle.rules.specs.Solve.{Solved, solve_plan}
use Rattle.fix_rules.specs.declared.FixAnswer.{FixAnswer}
use Rattle.fix_rules.specs.Fix.{fixed, unfixed}
use Rattle.fix_rules.specs.Calls.{Called, fix_plan, unfix_plan}

pub data Call : Type 0 where
  fix : ℕ → Float → Call
  unfix : ℕ → Call

-- the column that a call names
abbrev pub column_of : Call → ℕ
column_of (fix j value) = j
column_of (unfix j) = j

abbrev pub call_plan : Plan → Call → Memory → Called
call_plan p (fix j value) m = fix_plan p j value m
call_plan p (unfix j) m = unfix_plan p j m

-- where its run ends, from the state that was kept
abbrev pub call_end : Problem → State → Call → Ended
call_end P s (fix j value) = fixed P s j value
call_end P s (unfix j) = unfixed P s j

-- ---- a list of calls: their answers, in order, and the memory behind the last
pub record Sequence : Type 0 where
  pub answers : List FixAnswer
  pub memory : Memory

abbrev pub sequence : List FixAnswer → Memory → Sequence
sequence l m = record { answers = l; memory = m }

unfoldable pub calls : Plan → List Call → Memory → Sequence
calls p [] m = sequence [] m
calls p (c ∷ l) m =
    let r = call_plan p c m in
    let rest = calls p l r.memory in
    sequence (r.answer ∷ rest.answers) rest.memory

-- what the contracts allow: each call's result is met by its own equation, on the memory that the one before it left
pub data Allowed (p : Plan) : List Call → Memory → Sequence → Type 0 where
  no_call : {m : Memory} → Allowed p [] m (sequence [] m)
  one_call : {m : Memory} {l : List Call} {rest : Sequence} (c : Call) (r : Called) → r ≡ call_plan p c m
      → Allowed p l r.memory rest
      → Allowed p (c ∷ l) m (sequence (r.answer ∷ rest.answers) rest.memory)

-- a solve of the plan before them
pub record Session : Type 0 where
  pub solved : Solved
  pub after : Sequence

abbrev pub session_of : Solved → Sequence → Session
session_of s x = record { solved = s; after = x }

pub record AllowedFrom (p : Plan) (l : List Call) (m : Memory) (x : Session) : Type 0 where
  pub by_solve : x.solved ≡ solve_plan p m
  pub by_calls : Allowed p l x.solved.memory x.after

-- the plan, the memory and the calls settle all of it
unfoldable pub session : Plan → List Call → Memory → Session
session p l m = let s = solve_plan p m in session_of s (calls p l s.memory)

-- no call of the list names column j
pub data Spares (j : ℕ) : List Call → Type 0 where
  none : Spares j []
  one_more : {l : List Call} (c : Call) → ¬ (column_of c ≡ j) → Spares j l → Spares j (c ∷ l)
