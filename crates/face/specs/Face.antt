-- The numbers that the face hands out for each answer. Assumes nothing.
use Rattle.std.specs.Prelude.{List, ℕ, Float}
use Rattle.lu.specs.Result.{Result, number_of, places_of}
use Rattle.lu.specs.declared.Answer.{Answer}
use Rattle.sheet_rules.specs.Verdict.{Numbers, numbers_of}
use Rattle.rules.specs.Plan.{Memory}
use Rattle.rules.specs.Answers.{Place, nowhere, entry_at, column_at, row_at, value_at, kept_row_at, as_row}
use Rattle.rules.specs.declared.Answer.{Answer as Rules-as-Answer}
use Rattle.state.specs.Memory.{memory_in, Past, past_of, Handed}
use Rattle.face.specs.declared.TriAnswer.{TriAnswer}
use Rattle.face.specs.declared.SheetVerdict.{SheetVerdict}
use Rattle.face.specs.declared.TevalumiAnswer.{TevalumiAnswer}

abbrev pub tri_answer : Answer → TriAnswer
tri_answer a = record { status = number_of a; places = places_of a }

abbrev pub tri_result : TriAnswer → List Float → List ℕ → Result
tri_result r v l = record { number = r.status; places = r.places; values = v; list = l }

abbrev pub sheet_numbers : SheetVerdict → Numbers
sheet_numbers v = numbers_of v.status v.kind v.value

-- ---- a solve

abbrev pub answer : ℕ → Float → ℕ → ℕ → ℕ → ℕ → Float → TevalumiAnswer
answer n o k p i j x = record { status = n; objective = o; steps = k; place = p; at = i; within = j; excess = x }

-- a place as three numbers: what it is, where, and for an entry which place of its row
unfoldable pub placed : ℕ → Float → ℕ → Float → Place → TevalumiAnswer
placed n o k x nowhere = answer n o k 0 0 0 x
placed n o k x (entry_at i j) = answer n o k 1 i j x
placed n o k x (column_at i) = answer n o k 2 i 0 x
placed n o k x (row_at i) = answer n o k 3 i 0 x
placed n o k x (value_at i) = answer n o k 4 i 0 x
placed n o k x (kept_row_at i) = answer n o k 5 i 0 x

-- the numbers of 01's table for each answer
unfoldable pub answer_numbers : Rules-as-Answer → TevalumiAnswer
answer_numbers a = let t = as_row a in placed t.number t.objective t.steps t.excess t.place

-- with every lent cell
pub record Faced : Type 0 where
  pub numbers : TevalumiAnswer
  pub memory : Memory
  pub past : Past

abbrev pub faced : TevalumiAnswer → List Float → List ℕ → List Float → List ℕ → List Float → Faced
faced n v N D F G = record { numbers = n; memory = memory_in v N D F G; past = past_of N D }

abbrev pub faced_by : Handed → Faced
faced_by h = record { numbers = answer_numbers h.solved.answer; memory = h.solved.memory; past = h.past }
