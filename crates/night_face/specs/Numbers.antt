-- The numbers that the face hands out for a stage and for the night. Assumes nothing.
use Rattle.std.specs.Prelude.{List, ℕ, ℤ, pos}
use Rattle.doubles.specs.Num.{f0}
use Rattle.sheet_rules.specs.Verdict.{verdict_numbers}
use Rattle.sheet_rules.specs.declared.Verdict.{Verdict}
use Rattle.face.specs.declared.TevalumiAnswer.{TevalumiAnswer}
use Rattle.face.specs.declared.SheetVerdict.{SheetVerdict}
use Rattle.face.specs.Face.{answer, answer_numbers}
use Rattle.whole_face.specs.declared.TevalumiProposal.{TevalumiProposal}
use Rattle.whole_face.specs.Numbers.{proposal_face, no_case, proposal_numbers}
use Rattle.night_rules.specs.Arrays.{Arrays}
use Rattle.night_rules.specs.Night.{Called}
use Rattle.night_rules.specs.declared.Audit.{Audit}
use Rattle.night_rules.specs.declared.Audit.TheVariants.{NotRun, NotWhole, NotOpened, Judged}
use Rattle.night_rules.specs.declared.Stage.{Stage}
use Rattle.night_rules.specs.declared.NightAnswer.{NightAnswer}
use Rattle.night_rules.specs.declared.NightAnswer.TheVariants.{ShortMemory, NoGap, RowsFull, EntriesFull, CostBeyond, FoundBeyond, FirstStands, Handed}
use Rattle.night_face.specs.declared.TevalumiStage.{TevalumiStage}
use Rattle.night_face.specs.declared.TevalumiNight.{TevalumiNight}

-- ---- a stage

abbrev pub verdict_face : ℕ → ℕ → ℤ → SheetVerdict
verdict_face s k g = record { status = s; kind = k; value = g }

unfoldable pub verdict_of : Verdict → SheetVerdict
verdict_of v = let t = verdict_numbers v in verdict_face t.status t.kind t.value

-- where there is none
abbrev pub no_run : TevalumiAnswer
no_run = answer 0 f0 0 0 0 0 f0

abbrev pub no_proposal : TevalumiProposal
no_proposal = proposal_face 0 0 0 no_case

abbrev pub no_verdict : SheetVerdict
no_verdict = verdict_face 0 0 (pos 0)

abbrev pub stage_face : TevalumiAnswer → ℕ → ℕ → TevalumiProposal → SheetVerdict → TevalumiStage
stage_face r a n p v = record { run = r; audit = a; opening = n; proposal = p; verdict = v }

-- 0 nothing was proposed, 1 a number isn't whole, 2 opening refused, 3 judged
unfoldable pub audit_numbers : TevalumiAnswer → Audit → TevalumiStage
audit_numbers r NotRun = stage_face r 0 0 no_proposal no_verdict
audit_numbers r (NotWhole p) = stage_face r 1 0 (proposal_numbers p) no_verdict
audit_numbers r (NotOpened n) = stage_face r 2 n no_proposal no_verdict
audit_numbers r (Judged v) = stage_face r 3 0 no_proposal (verdict_of v)

unfoldable pub stage_numbers : Stage → TevalumiStage
stage_numbers s = audit_numbers (answer_numbers s.run) s.audit

abbrev pub no_stage : TevalumiStage
no_stage = stage_face no_run 0 0 no_proposal no_verdict

-- ---- the night

abbrev pub night_face : ℕ → ℕ → ℕ → TevalumiStage → TevalumiStage → TevalumiNight
night_face s k j f g = record { status = s; kind = k; column = j; first = f; second = g }

-- status 1 for short memory, else 0; kind 1 to 5 the stops after the first stage in 02's order, 6 the first's amounts
-- stand, 7 the second's are handed out
unfoldable pub night_numbers : NightAnswer → TevalumiNight
night_numbers ShortMemory = night_face 1 0 0 no_stage no_stage
night_numbers (NoGap f) = night_face 0 1 0 (stage_numbers f) no_stage
night_numbers (RowsFull f) = night_face 0 2 0 (stage_numbers f) no_stage
night_numbers (EntriesFull f) = night_face 0 3 0 (stage_numbers f) no_stage
night_numbers (CostBeyond f j) = night_face 0 4 j (stage_numbers f) no_stage
night_numbers (FoundBeyond f) = night_face 0 5 0 (stage_numbers f) no_stage
night_numbers (FirstStands f g) = night_face 0 6 0 (stage_numbers f) (stage_numbers g)
night_numbers (Handed f g) = night_face 0 7 0 (stage_numbers f) (stage_numbers g)

-- with every lent cell
pub record Faced : Type 0 where
  pub numbers : TevalumiNight
  pub arrays : Arrays
  pub whole : List ℤ

abbrev pub faced : TevalumiNight → Arrays → List ℤ → Faced
faced n a w = record { numbers = n; arrays = a; whole = w }

abbrev pub faced_by : Called → Faced
faced_by c = faced (night_numbers c.answer) c.arrays c.whole
