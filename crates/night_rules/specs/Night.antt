-- The night: alarms first, then the rest (02, Ask 14). From what is lent to the answer and what is lent afterwards.
-- Assumes nothing.
use Rattle.std.specs.Prelude.{Bool, true, false, not, ◌&&◌, ◌||◌, List, ℕ, ◌+◌, ◌*◌, ltb, leb, eqb, length, ℤ, Float, Option, Some, None}
use Rattle.doubles.specs.Limits.{max_rows, max_columns, max_entries, max_coefficient, max_right_side}
use Rattle.doubles.specs.Loop.{first}
use Rattle.lu_factor_rules.specs.Packed.{all_factor_numbers, all_factor_coeffs}
use Rattle.lu_packed.specs.Written.{written}
use Rattle.sheet_rules.specs.Sum.{◌‼◌}
use Rattle.sheet_rules.specs.Sheet.{Plan, c}
use Rattle.sheet_rules.specs.Opening.{within}
use Rattle.sheet_rules.specs.declared.Verdict.TheVariants.{NoneExists, NotPlan, NoFloor, Gap, Refused}
use Rattle.state.specs.Memory.{numbers_end, doubles_end}
use Rattle.night_rules.specs.Doubles.{nonzeros, entry_count}
use Rattle.night_rules.specs.Arrays.{Arrays}
use Rattle.night_rules.specs.Second.{second_plan}
use Rattle.night_rules.specs.Stage.{Staged, stage_of, section_cells, section_into}
use Rattle.night_rules.specs.declared.Audit.{Audit}
use Rattle.night_rules.specs.declared.Audit.TheVariants.{NotRun, NotWhole, NotOpened, Judged}
use Rattle.night_rules.specs.declared.Stage.{Stage}
use Rattle.night_rules.specs.declared.NightAnswer.{NightAnswer}
use Rattle.night_rules.specs.declared.NightAnswer.TheVariants.{ShortMemory, NoGap, RowsFull, EntriesFull}
use Rattle.night_rules.specs.declared.NightAnswer.TheVariants.{CostBeyond, FoundBeyond, FirstStands, Handed}

-- ---- as lent. The plan has the alarm costs, and no amounts and multipliers
pub record NightPlan : Type 0 where
  pub plan : Plan
  pub report_costs : List ℤ
  pub budget : ℕ
  pub tolerance : Float

abbrev pub night_of : Plan → List ℤ → ℕ → Float → NightPlan
night_of p r b t = record { plan = p; report_costs = r; budget = b; tolerance = t }

-- where the sections of `whole` begin; the first stage's begins at 0
abbrev pub second_at : ℕ
second_at = section_cells

abbrev pub handed_at : ℕ
handed_at = second_at + section_cells

abbrev pub coefs_at : ℕ
coefs_at = handed_at + max_columns

abbrev pub whole_end : ℕ
whole_end = coefs_at + max_rows * max_columns

-- ---- short memory: a lent array is too short for sizes that are within their limits
unfoldable pub sizes_in : ℕ → ℕ → Bool
sizes_in rows columns = leb rows max_rows && leb columns max_columns

unfoldable pub plan_long : Plan → List ℤ → Bool
plan_long p report_costs =
    leb (p.rows * p.cols) (length p.coefs)
    && leb p.cols (length p.costs) && leb p.cols (length report_costs)
    && leb p.cols (length p.lowers) && leb p.cols (length p.uppers)
    && leb p.cols (length p.lower_marks) && leb p.cols (length p.upper_marks)
    && leb p.rows (length p.rhs) && leb p.rows (length p.ops)

-- "values" for the second stage's rows too
unfoldable pub memory_long : ℕ → ℕ → Arrays → List ℤ → Bool
memory_long rows columns a w =
    leb (columns + rows + 1) (length a.values)
    && leb numbers_end (length a.numbers) && leb doubles_end (length a.doubles)
    && leb all_factor_numbers (length a.all_factor_numbers) && leb all_factor_coeffs (length a.all_factor_coeffs)
    && leb whole_end (length w)

unfoldable pub enough : NightPlan → Arrays → List ℤ → Bool
enough n a w =
    let p = n.plan in
    not (sizes_in p.rows p.cols) || (plan_long p n.report_costs && memory_long p.rows p.cols a w)

-- ---- the tests after the first stage: "the answer names the first of these, hands out no amounts and stops"
unfoldable pub shows_gap : Audit → Bool
shows_gap NotRun = false
shows_gap (NotWhole a) = false
shows_gap (NotOpened n) = false
shows_gap (Judged NoneExists) = false
shows_gap (Judged NotPlan) = false
shows_gap (Judged NoFloor) = false
shows_gap (Judged (Gap g)) = true
shows_gap (Judged (Refused n)) = false

-- "the new row (nonzero costs) would pass 2,048 entries": those of both
unfoldable pub entries_after : Plan → ℕ
entries_after p = entry_count p + nonzeros (c p) p.cols

-- the first alarm cost over 4,096 in size, and the number of columns where there is none
unfoldable pub first_beyond : Plan → ℕ
first_beyond p = first p.cols (λ j. not (within max_coefficient (c p j)))

abbrev pub or_stop : Bool → NightAnswer → Option NightAnswer → Option NightAnswer
or_stop b a r = elim b [ true ↦ r | false ↦ Some a ]

unfoldable pub tests_after : Stage → Plan → ℤ → Option NightAnswer
tests_after f p found =
    let j = first_beyond p in
    or_stop (shows_gap f.audit) (NoGap f)
    (or_stop (ltb p.rows max_rows) (RowsFull f)
    (or_stop (leb (entries_after p) max_entries) (EntriesFull f)
    (or_stop (eqb j p.cols) (CostBeyond f j)
    (or_stop (within max_right_side found) (FoundBeyond f) None))))

-- ---- the second stage: whose amounts are handed out
-- "isn't opened, or says "not a plan" or "none exists""
unfoldable pub first_stands : Audit → Bool
first_stands NotRun = true
first_stands (NotWhole a) = true
first_stands (NotOpened n) = true
first_stands (Judged NoneExists) = true
first_stands (Judged NotPlan) = true
first_stands (Judged NoFloor) = false
first_stands (Judged (Gap g)) = false
first_stands (Judged (Refused n)) = false

-- the answer and every lent cell
pub record Called : Type 0 where
  pub answer : NightAnswer
  pub arrays : Arrays
  pub whole : List ℤ

abbrev pub called : NightAnswer → Arrays → List ℤ → Called
called r a w = record { answer = r; arrays = a; whole = w }

-- x are the first stage's amounts, s is the second stage
unfoldable pub hand_out : Stage → List ℤ → Staged → List ℤ → Called
hand_out f x s w =
    elim (first_stands s.stage.audit) [
      | true ↦ called (FirstStands f s.stage) s.arrays (written handed_at x w)
      | false ↦ called (Handed f s.stage) s.arrays (written handed_at s.sheet.plan.amounts w)
    ]

unfoldable pub second_part : NightPlan → Stage → List ℤ → ℤ → Arrays → List ℤ → Called
second_part n f x found a w =
    let q = second_plan n.plan n.report_costs found in
    let s = stage_of n.budget n.tolerance q a in
    hand_out f x s (section_into second_at s (written coefs_at q.coefs w))

-- ---- the whole call. The found cost is the first sheet's kept C
unfoldable pub after_first : NightPlan → Staged → List ℤ → Called
after_first n f w =
    let found = f.sheet.kept.C ‼ 0 in
    let u = section_into 0 f w in
    elim (tests_after f.stage n.plan found) [
      | Some r ↦ called r f.arrays u
      | None ↦ second_part n f.stage f.sheet.plan.amounts found f.arrays u
    ]

unfoldable pub night_plan : NightPlan → Arrays → List ℤ → Called
night_plan n a w =
    elim (enough n a w) [
      | true ↦ after_first n (stage_of n.budget n.tolerance n.plan a) w
      | false ↦ called ShortMemory a w
    ]
