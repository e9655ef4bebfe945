-- 01, "Night cases": the twelve starred ones, in one list, each with what 01 gives for it. Assumes nothing.
use Rattle.std.specs.Prelude.{List, [], ◌∷◌, ℕ, ℤ, pos, Float}
use Rattle.doubles.specs.Num.{f0}
use Rattle.rules.specs.Plan.{Plan}
use Rattle.rules.specs.Answers.{Row, row, nowhere, as_row}
use Rattle.rules.specs.Solve.{solve_plan}
use Rattle.sheet_rules.specs.Sheet.{Sheet}
use Rattle.sheet_rules.specs.Opening.{opening, opened}
use Rattle.sheet_rules.specs.Verdict.{verdict}
use Rattle.sheet_rules.specs.Night.{n2, minus}
use Rattle.sheet_rules.specs.declared.Verdict.{Verdict}
use Rattle.sheet_rules.specs.declared.Verdict.TheVariants.{NotPlan, NoFloor, Gap}
use Rattle.night.specs.Plans.{num, minus as below, N1, N2, N3, N4, room_for, Kind, flips, exchanges, exchanges_dually, kinds_of}

-- what a case shows: of a plan the answer as 01's table has it, the values array afterwards and the kinds of the steps taken;
-- of a sheet what opening answers, the prices D, the floor B and the verdict
pub data Shown : Type 0 where
  solves : Row → List Float → List Kind → Shown
  judges : ℕ → List ℤ → List ℤ → Verdict → Shown

pub data Case : Type 0 where
  plan : Plan → Shown → Case
  sheet : Sheet → Shown → Case

unfoldable pub shown : Case → Shown
shown (plan p w) =
    let r = solve_plan p (room_for p) in
    let a = as_row r.answer in
    solves a r.memory.values (kinds_of p a.steps)
shown (sheet s w) = let t = opened s in judges (opening s) t.kept.D t.kept.B (verdict t)

unfoldable pub wanted : Case → Shown
wanted (plan p w) = w
wanted (sheet s w) = w

unfoldable pub cases : List Case
cases =
    -- "N1: … Optimal -4, x 4, slack 0, 1 step. * Budget 0: 21, 0 steps"
    plan (N1 10) (solves (row 0 (below 4) 1 f0 nowhere) (num 4 ∷ f0 ∷ []) (exchanges ∷ []))
    ∷ plan (N1 0) (solves (row 21 f0 0 f0 nowhere) (f0 ∷ f0 ∷ []) [])
    -- "N2: … exchange, flip; Optimal -12, amounts 4, 0, 2 steps. * Budget 1: 21, objective -8"
    ∷ plan (N2 10) (solves (row 0 (below 12) 2 f0 nowhere) (num 4 ∷ f0 ∷ f0 ∷ []) (exchanges ∷ flips ∷ []))
    ∷ plan (N2 1) (solves (row 21 (below 8) 1 f0 nowhere) (f0 ∷ f0 ∷ f0 ∷ []) (exchanges ∷ []))
    -- "N3: … 20, 0 steps"
    ∷ plan N3 (solves (row 20 f0 0 f0 nowhere) (f0 ∷ f0 ∷ []) [])
    -- "N4: cost 1, 0 to +inf, x >= 1: 7; x >= 0: Optimal 0". 02: "N4's first plan becomes Optimal 1 after 1 step"
    ∷ plan (N4 1) (solves (row 0 (num 1) 1 f0 nowhere) (num 1 ∷ f0 ∷ []) (exchanges_dually ∷ []))
    ∷ plan (N4 0) (solves (row 0 f0 0 f0 nowhere) (f0 ∷ f0 ∷ []) [])
    -- "N5: N2 as a sheet, amounts 4, 0, Y -3072: D 0, 2048; B -12288; gap 0. * Y -4096: gap 4096. * Y -2048: no floor"
    ∷ sheet (n2 (pos 4) (minus 3072)) (judges 0 (pos 0 ∷ pos 2048 ∷ []) (minus 12288 ∷ []) (Gap (pos 0)))
    ∷ sheet (n2 (pos 4) (minus 4096)) (judges 0 (pos 1024 ∷ pos 3072 ∷ []) (minus 16384 ∷ []) (Gap (pos 4096)))
    ∷ sheet (n2 (pos 4) (minus 2048)) (judges 0 (minus 1024 ∷ pos 1024 ∷ []) (minus 8192 ∷ []) NoFloor)
    -- "* Y -3072, amount 3: gap 3072; * amount 5: not a plan"
    ∷ sheet (n2 (pos 3) (minus 3072)) (judges 0 (pos 0 ∷ pos 2048 ∷ []) (minus 12288 ∷ []) (Gap (pos 3072)))
    ∷ sheet (n2 (pos 5) (minus 3072)) (judges 0 (pos 0 ∷ pos 2048 ∷ []) (minus 12288 ∷ []) NotPlan)
    ∷ []
