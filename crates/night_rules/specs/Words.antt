-- 02's words for a stage, for each answer of the night, and for the amounts that are handed out (Ask 14). Assumes
-- nothing.
use Rattle.std.specs.Prelude.{◌≡◌, Bool, true, false, ℕ, ◌+◌, ◌*◌, ◌<◌, ◌≤◌, List, length, drop, ℤ, pos, nat_abs, ◌-ℤ◌, ◌*ℤ◌, ◌≤ℤ◌, Float}
use Rattle.doubles.specs.Limits.{max_rows, max_columns, max_entries, max_coefficient, max_right_side, unit}
use Rattle.lu_factor_rules.specs.Packed.{all_factor_numbers, all_factor_coeffs}
use Rattle.state.specs.Packed.{section}
use Rattle.state.specs.Memory.{numbers_end, doubles_end}
use Rattle.rules.specs.Answers.{number_of}
use Rattle.sheet_rules.specs.Sum.{◌‼◌}
use Rattle.sheet_rules.specs.Sheet.{Plan, Sheet, c, cost}
use Rattle.sheet_rules.specs.Opening.{opening, opened}
use Rattle.sheet_rules.specs.Verdict.{verdict}
use Rattle.sheet_rules.specs.Words.{Keeps}
use Rattle.sheet_rules.specs.declared.Verdict.{Verdict}
use Rattle.sheet_rules.specs.declared.Verdict.TheVariants.{NoneExists, NotPlan, Gap}
use Rattle.whole_propose.specs.Propose.{Lent, Handed, proposed}
use Rattle.whole_propose.specs.Words.{WholeAmount, WholeMultiplier, Each}
use Rattle.night_rules.specs.Doubles.{doubles_plan}
use Rattle.night_rules.specs.Arrays.{Arrays, Ran, run_on}
use Rattle.night_rules.specs.Second.{second_plan}
use Rattle.night_rules.specs.Stage.{Staged, lent_from, sheet_with, stage_of, section_cells, section_of}
use Rattle.night_rules.specs.Night.{NightPlan, second_at, handed_at, coefs_at, whole_end, entries_after}
use Rattle.night_rules.specs.declared.Audit.{Audit}
use Rattle.night_rules.specs.declared.Audit.TheVariants.{NotRun, NotWhole, NotOpened, Judged}
use Rattle.night_rules.specs.declared.NightAnswer.{NightAnswer}
use Rattle.night_rules.specs.declared.NightAnswer.TheVariants.{ShortMemory, NoGap, RowsFull, EntriesFull}
use Rattle.night_rules.specs.declared.NightAnswer.TheVariants.{CostBeyond}
use Rattle.night_rules.specs.declared.NightAnswer.TheVariants.{FoundBeyond, FirstStands, Handed as Hands}

-- ---- a stage: p is its plan, a the solver's arrays before it
module _ (budget : ℕ) (tolerance : Float) (p : Plan) (a : Arrays) where
  -- the run, what is proposed from it, and the sheet with the proposed numbers
  abbrev pub the_run : Ran
  the_run = run_on (doubles_plan budget tolerance p) a

  abbrev pub the_lent : Lent
  the_lent = lent_from (doubles_plan budget tolerance p) the_run.arrays

  abbrev pub the_proposal : Handed
  the_proposal = proposed the_lent

  abbrev pub the_sheet : Sheet
  the_sheet = sheet_with p the_proposal.amounts_left the_proposal.mults_left

  -- every proposed number is Whole
  pub record AllWhole : Type 0 where
    pub amounts : Each the_lent p.cols (WholeAmount the_lent)
    pub mults : Each the_lent p.rows (WholeMultiplier the_lent)

  -- 02: "its run gives 0, every proposed number is Whole and opening accepts"
  pub record Opens : Type 0 where
    pub gives_0 : number_of the_run.answer ≡ 0
    pub whole : AllWhole
    pub accepts : opening the_sheet ≡ 0

  pub data AuditSays : Audit → Type 0 where
    not_run : ¬ (number_of the_run.answer ≡ 0) → AuditSays NotRun
    not_whole : number_of the_run.answer ≡ 0 → ¬ AllWhole → AuditSays (NotWhole the_proposal.answer)
    not_opened : number_of the_run.answer ≡ 0 → AllWhole → ¬ (opening the_sheet ≡ 0)
        → AuditSays (NotOpened (opening the_sheet))
    judged : Opens → AuditSays (Judged (verdict (opened the_sheet)))

-- the sheet was opened
abbrev pub Opened : Audit → Type 0
Opened u = (v : Verdict) × (u ≡ Judged v)

-- ---- the night: n is what is asked, a and w the solver's arrays and the whole numbers as lent
module _ (n : NightPlan) (a : Arrays) where
  abbrev pub first_stage : Staged
  first_stage = stage_of n.budget n.tolerance n.plan a

  -- "what was found"
  abbrev pub found : ℤ
  found = first_stage.sheet.kept.C ‼ 0

  abbrev pub second_plan_of : Plan
  second_plan_of = second_plan n.plan n.report_costs found

  abbrev pub second_stage : Staged
  second_stage = stage_of n.budget n.tolerance second_plan_of first_stage.arrays

-- no size is over its limit
pub record SizesIn (p : Plan) : Type 0 where
  pub rows_in : p.rows ≤ max_rows
  pub cols_in : p.cols ≤ max_columns

-- no lent array is too short for the sizes
pub record Long (n : NightPlan) (a : Arrays) (w : List ℤ) : Type 0 where
  pub coefs_long : n.plan.rows * n.plan.cols ≤ length n.plan.coefs
  pub alarms_long : n.plan.cols ≤ length n.plan.costs
  pub reports_long : n.plan.cols ≤ length n.report_costs
  pub lowers_long : n.plan.cols ≤ length n.plan.lowers
  pub uppers_long : n.plan.cols ≤ length n.plan.uppers
  pub lower_marks_long : n.plan.cols ≤ length n.plan.lower_marks
  pub upper_marks_long : n.plan.cols ≤ length n.plan.upper_marks
  pub rhs_long : n.plan.rows ≤ length n.plan.rhs
  pub ops_long : n.plan.rows ≤ length n.plan.ops
  pub values_long : n.plan.cols + n.plan.rows + 1 ≤ length a.values
  pub numbers_long : numbers_end ≤ length a.numbers
  pub doubles_long : doubles_end ≤ length a.doubles
  pub factor_numbers_long : all_factor_numbers ≤ length a.all_factor_numbers
  pub factor_coeffs_long : all_factor_coeffs ≤ length a.all_factor_coeffs
  pub whole_long : whole_end ≤ length w

-- "shows a gap verdict"
abbrev pub ShowsGap : Audit → Type 0
ShowsGap u = (g : ℤ) × (u ≡ Judged (Gap g))

-- column j is the first whose alarm cost passes 4,096 in size
pub record FirstBeyond (p : Plan) (j : ℕ) : Type 0 where
  pub column : j < p.cols
  pub beyond : max_coefficient < nat_abs (c p j)
  pub none_before : (u : ℕ) → u < j → nat_abs (c p u) ≤ max_coefficient

-- "If the second stage's sheet isn't opened, or says "not a plan" or "none exists""
pub data Stands : Audit → Type 0 where
  not_opened : {u : Audit} → ¬ Opened u → Stands u
  not_plan : Stands (Judged NotPlan)
  none_exists_holds : Stands (Judged NoneExists)

-- what has come before each answer
module _ (n : NightPlan) (a : Arrays) (w : List ℤ) where
  pub record PastMemory : Type 0 where
    pub long : SizesIn n.plan → Long n a w

  pub record PastGap : Type 0 where
    pub memory : PastMemory
    pub gap : ShowsGap (first_stage n a).stage.audit

  pub record PastRows : Type 0 where
    pub before : PastGap
    pub rows_left : n.plan.rows < max_rows

  pub record PastEntries : Type 0 where
    pub before : PastRows
    pub entries_left : entries_after n.plan ≤ max_entries

  pub record PastCosts : Type 0 where
    pub before : PastEntries
    pub costs_in : (j : ℕ) → j < n.plan.cols → nat_abs (c n.plan j) ≤ max_coefficient

  pub record PastFound : Type 0 where
    pub before : PastCosts
    pub found_in : nat_abs (found n a) ≤ max_right_side

  -- "the answer names the first of these": no earlier one's words hold
  pub data Says : NightAnswer → Type 0 where
    short : SizesIn n.plan → ¬ Long n a w → Says ShortMemory
    no_gap : PastMemory → ¬ ShowsGap (first_stage n a).stage.audit → Says (NoGap (first_stage n a).stage)
    rows_full : PastGap → max_rows ≤ n.plan.rows → Says (RowsFull (first_stage n a).stage)
    entries_full : PastRows → max_entries < entries_after n.plan → Says (EntriesFull (first_stage n a).stage)
    cost_beyond : PastEntries → (j : ℕ) → FirstBeyond n.plan j → Says (CostBeyond (first_stage n a).stage j)
    found_beyond : PastCosts → max_right_side < nat_abs (found n a) → Says (FoundBeyond (first_stage n a).stage)
    first_stands_holds : PastFound → Stands (second_stage n a).stage.audit
        → Says (FirstStands (first_stage n a).stage (second_stage n a).stage)
    hands : PastFound → ¬ Stands (second_stage n a).stage.audit
        → Says (Hands (first_stage n a).stage (second_stage n a).stage)

-- "hands out no amounts"
abbrev pub hands_none : NightAnswer → Bool
hands_none ShortMemory = true
hands_none (NoGap f) = true
hands_none (RowsFull f) = true
hands_none (EntriesFull f) = true
hands_none (CostBeyond f j) = true
hands_none (FoundBeyond f) = true
hands_none (FirstStands f s) = false
hands_none (Hands f s) = false

-- ---- the whole numbers: w as lent, u as they are left

-- where the second stage's coefficients end
abbrev pub coefs_end : NightPlan → ℕ
coefs_end n = coefs_at + (n.plan.rows + 1) * n.plan.cols

-- of a stage: its section is written exactly when its sheet is opened
pub record Section (place budget : ℕ) (tolerance : Float) (p : Plan) (a : Arrays) (w u : List ℤ) : Type 0 where
  pub filled : Opens budget tolerance p a
      → section place section_cells u ≡ section_of (stage_of budget tolerance p a).sheet
  pub left : ¬ Opens budget tolerance p a → section place section_cells u ≡ section place section_cells w

module _ (n : NightPlan) (a : Arrays) (w : List ℤ) where
  abbrev pub FirstSection : List ℤ → Type 0
  FirstSection u = Section 0 n.budget n.tolerance n.plan a w u

  abbrev pub SecondSection : List ℤ → Type 0
  SecondSection u = Section second_at n.budget n.tolerance (second_plan_of n a) (first_stage n a).arrays w u

  -- "hands out no amounts and stops": nothing past the first stage's section is written
  pub record Stopped (u : List ℤ) : Type 0 where
    pub first_section : FirstSection u
    pub rest : drop section_cells u ≡ drop section_cells w

  -- the amounts x are handed out
  pub record HandsOut (x u : List ℤ) : Type 0 where
    pub first_section : FirstSection u
    pub second_section : SecondSection u
    pub amounts : section handed_at max_columns u ≡ x
    pub coefs : section coefs_at ((n.plan.rows + 1) * n.plan.cols) u ≡ (second_plan_of n a).coefs
    pub rest : drop (coefs_end n) u ≡ drop (coefs_end n) w

  -- by the answer
  abbrev pub Leaves : NightAnswer → List ℤ → Type 0
  Leaves ShortMemory u = u ≡ w
  Leaves (NoGap f) u = Stopped u
  Leaves (RowsFull f) u = Stopped u
  Leaves (EntriesFull f) u = Stopped u
  Leaves (CostBeyond f j) u = Stopped u
  Leaves (FoundBeyond f) u = Stopped u
  Leaves (FirstStands f s) u = HandsOut (first_stage n a).sheet.plan.amounts u
  Leaves (Hands f s) u = HandsOut (second_stage n a).sheet.plan.amounts u

  -- the solver's arrays, which serve both stages
  abbrev pub arrays_left : NightAnswer → Arrays
  arrays_left ShortMemory = a
  arrays_left (NoGap f) = (first_stage n a).arrays
  arrays_left (RowsFull f) = (first_stage n a).arrays
  arrays_left (EntriesFull f) = (first_stage n a).arrays
  arrays_left (CostBeyond f j) = (first_stage n a).arrays
  arrays_left (FoundBeyond f) = (first_stage n a).arrays
  arrays_left (FirstStands f s) = (second_stage n a).arrays
  arrays_left (Hands f s) = (second_stage n a).arrays

-- ---- the amounts z that are handed out; the plan's costs are the alarm costs, x are the first stage's amounts and g
-- is its gap
pub record AlarmsFirst (p : Plan) (x : ℕ → ℤ) (g : ℤ) (z : ℕ → ℤ) : Type 0 where
  -- "never have a higher alarm cost than the first stage's"
  pub not_higher : cost p z ≤ℤ cost p x
  -- "their alarm cost lies within the first gap of the least possible", as demand 3 says it of a gap: no amounts y / k
  -- that keep every row and bound have an alarm cost that is lower by more
  pub near_least : (k : ℕ) (y : ℕ → ℤ) → Keeps p k y
      → (pos unit *ℤ (pos k *ℤ cost p z -ℤ cost p y)) ≤ℤ (pos k *ℤ g)
