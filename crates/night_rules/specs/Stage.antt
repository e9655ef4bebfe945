-- One stage of the night: solve, round, audit. 02, Ask 14: "A stage's sheet is opened exactly when its run gives 0,
-- every proposed number is Whole and opening accepts". Assumes nothing.
use Rattle.std.specs.Prelude.{Bool, true, false, List, ◌++◌, ℕ, zero, suc, ◌+◌, ◌*◌, ◌≤◌, eqb, length, replicate, ℤ, pos, Float}
use Rattle.doubles.specs.Limits.{max_rows, max_columns}
use Rattle.lu_packed.specs.Written.{written}
use Rattle.sheet_rules.specs.Sheet.{Plan, Kept, Sheet, plan_of, kept_of, sheet_of}
use Rattle.sheet_rules.specs.Opening.{opening, opened}
use Rattle.sheet_rules.specs.Verdict.{verdict}
use Rattle.rules.specs.Plan as Rules
use Rattle.rules.specs.Answers.{number_of}
use Rattle.rules.specs.declared.Answer.{Answer}
use Rattle.whole_propose.specs.Propose.{Lent, lent_of, is_proposed, proposed}
use Rattle.whole_propose.specs.declared.Proposal.{Proposal}
use Rattle.night_rules.specs.Doubles.{doubles_plan}
use Rattle.night_rules.specs.Arrays.{Arrays, Ran, run_on}
use Rattle.night_rules.specs.declared.Audit.{Audit}
use Rattle.night_rules.specs.declared.Audit.TheVariants.{NotRun, NotWhole, NotOpened, Judged}
use Rattle.night_rules.specs.declared.Stage.{Stage}

-- ---- zeroed scratch
abbrev pub zeros : ℕ → List ℤ
zeros n = replicate n (pos 0)

abbrev pub zero_kept : Kept
zero_kept = kept_of (zeros max_rows) (zeros max_columns) (zeros 1) (zeros 1) (zeros 4)

-- ---- round: the proposal from the memory of the run
abbrev pub lent_from : Rules.Plan → Arrays → Lent
lent_from q a =
    lent_of q.columns q.rows q.starts q.ops a.values a.numbers a.doubles (zeros max_columns)
    (zeros max_rows)

-- ---- audit: the sheet with the proposed numbers
abbrev pub with_amounts : Plan → List ℤ → List ℤ → Plan
with_amounts p x y =
    plan_of p.rows p.cols p.coefs p.costs p.lowers p.uppers p.lower_marks p.upper_marks p.rhs
    p.ops x y

abbrev pub sheet_with : Plan → List ℤ → List ℤ → Sheet
sheet_with p x y = sheet_of (with_amounts p x y) zero_kept

-- by the run's status, the proposal and the opening's number
unfoldable pub opened_audit : ℕ → Sheet → Audit
opened_audit zero s = Judged (verdict (opened s))
opened_audit (suc n) s = NotOpened (suc n)

unfoldable pub proposed_audit : Proposal → Sheet → Audit
proposed_audit a s = elim (is_proposed a) [ true ↦ opened_audit (opening s) s | false ↦ NotWhole a ]

unfoldable pub audit_of : Answer → Proposal → Sheet → Audit
audit_of r a s = elim (eqb (number_of r) 0) [ true ↦ proposed_audit a s | false ↦ NotRun ]

unfoldable pub is_judged : Audit → Bool
is_judged NotRun = false
is_judged (NotWhole a) = false
is_judged (NotOpened n) = false
is_judged (Judged z) = true

-- ---- the stage: what it says, the solver's arrays afterwards, and its sheet, which was opened where it is judged
pub record Staged : Type 0 where
  pub stage : Stage
  pub arrays : Arrays
  pub sheet : Sheet

abbrev pub stage_says : Answer → Audit → Stage
stage_says r a = record { run = r; audit = a }

abbrev pub staged : Stage → Arrays → Sheet → Staged
staged g a s = record { stage = g; arrays = a; sheet = s }

unfoldable pub stage_after : Plan → Rules.Plan → Ran → Staged
stage_after p q r =
    let h = proposed (lent_from q r.arrays) in
    let s = sheet_with p h.amounts_left h.mults_left in
    staged (stage_says r.answer (audit_of r.answer h.answer s)) r.arrays (opened s)

unfoldable pub stage_of : ℕ → Float → Plan → Arrays → Staged
stage_of budget tolerance p a = let q = doubles_plan budget tolerance p in stage_after p q (run_on q a)

-- ---- its section: amounts, multipliers, then the kept R, D, C, B and counts
abbrev pub found_at : ℕ
found_at = max_columns + max_rows + max_rows + max_columns

abbrev pub section_cells : ℕ
section_cells = found_at + 6

unfoldable pub section_of : Sheet → List ℤ
section_of s =
    let k = s.kept in
    s.plan.amounts ++ (s.plan.mults ++ (k.R ++ (k.D ++ (k.C ++ (k.B ++ k.counts)))))

-- written exactly when the sheet was opened
unfoldable pub section_into : ℕ → Staged → List ℤ → List ℤ
section_into at g w = elim (is_judged g.stage.audit) [ true ↦ written at (section_of g.sheet) w | false ↦ w ]

-- ---- for its contract. No size is over its limit, no array of the plan too short
pub record Lends (p : Plan) : Type 0 where
  pub rows_few : p.rows ≤ max_rows
  pub cols_few : p.cols ≤ max_columns
  pub coefs_long : p.rows * p.cols ≤ length p.coefs
  pub costs_long : p.cols ≤ length p.costs
  pub lowers_long : p.cols ≤ length p.lowers
  pub uppers_long : p.cols ≤ length p.uppers
  pub lower_marks_long : p.cols ≤ length p.lower_marks
  pub upper_marks_long : p.cols ≤ length p.upper_marks
  pub rhs_long : p.rows ≤ length p.rhs
  pub ops_long : p.rows ≤ length p.ops

-- what a stage and every cell lent to it settle
pub record Left : Type 0 where
  pub stage : Stage
  pub arrays : Arrays
  pub section : List ℤ

abbrev pub left : Stage → Arrays → List ℤ → Left
left g a z = record { stage = g; arrays = a; section = z }

unfoldable pub leaves : Staged → List ℤ → Left
leaves g z = left g.stage g.arrays (section_into 0 g z)
