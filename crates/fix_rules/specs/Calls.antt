-- The two calls as a whole: from the plan, the lent memory and the column to the answer and what is lent afterwards. 02: "Refuse,
-- lowest first and changing nothing: 41 …, 42 an unknown column, 43 a value outside bounds or not finite, 44 unfixing a column
-- that isn't fixed". Assumes nothing.
use Rattle.std.specs.Prelude.{Bool, true, false, not, ◌&&◌, ℕ, ◌+◌, ◌%◌, ◌^◌, ltb, set, Float}
use Rattle.std.specs.Float.Ieee.{lt}
use Rattle.doubles.specs.Num.{f0, finite}
use Rattle.doubles.specs.Lists.{◌!◌, ◌#◌}
use Rattle.rules.specs.Plan.{Plan, Problem, Memory, problem_of}
use Rattle.rules.specs.Parts.{memory_of}
use Rattle.rules.specs.Step.{Ended}
use Rattle.rules.specs.Answers.{Row, row, nowhere, as_row}
use Rattle.rules.specs.Solve.{Solved, close, or_else, or_refused}
use Rattle.rules.specs.declared.Answer.{Answer}
use Rattle.fix_rules.specs.declared.FixAnswer.{FixAnswer}
use Rattle.fix_rules.specs.declared.FixAnswer.TheVariants.{Told, NotKept, BadColumn, BadValue, NotFixed}
use Rattle.fix_rules.specs.Kept.{kept_state, passes41}
use Rattle.fix_rules.specs.Fix.{fixed, is_fixed, unfixed}

pub record Called : Type 0 where
  pub answer : FixAnswer
  pub memory : Memory

abbrev pub called : FixAnswer → Memory → Called
called a m = record { answer = a; memory = m }

-- an answer as 01's table has it. "A refused call answers no place (1 to 5: as solve does), objective +0.0 and 0 steps"
unfoldable pub as_fix_row : FixAnswer → Row
as_fix_row (Told a) = as_row a
as_fix_row NotKept = row 41 f0 0 f0 nowhere
as_fix_row BadColumn = row 42 f0 0 f0 nowhere
as_fix_row BadValue = row 43 f0 0 f0 nowhere
as_fix_row NotFixed = row 44 f0 0 f0 nowhere

-- ---- the end of a call is that of a run. "factorings since the start (going on through later calls)": those of the call are
-- added to the cell, which is free and wraps round
abbrev pub factorings_after : ℕ → ℕ → ℕ
factorings_after before k = (before + k) % 2 ^ 64

abbrev pub with_factorings : ℕ → Memory → Memory
with_factorings k m = memory_of m.values m.kept m.ws (set m.counts 6 k) m.objective m.all_factor_numbers m.all_factor_coeffs

unfoldable pub close_call : Problem → Memory → Ended → Called
close_call P m e =
    let r = close P m e in
    called (Told r.answer) (with_factorings (factorings_after (m.counts # 6) e.state.factor.times) r.memory)

-- ---- 42: "column not below the plan's columns"
abbrev pub passes42 : Plan → ℕ → Bool
passes42 p j = ltb j p.columns

-- 43: "value not finite, below lower or above upper"
unfoldable pub passes43 : Plan → ℕ → Float → Bool
passes43 p j value = finite value && (not (lt value (p.lowers ! j)) && not (lt (p.uppers ! j) value))

-- 44: "the column is basic or not marked fixed"
abbrev pub passes44 : Plan → Memory → ℕ → Bool
passes44 p m j = is_fixed (problem_of p) m.ws j

-- ---- "1 to 5 as solve gives them (6 and 7 are about a start)", 41, 42
abbrev pub or_refused_call : Plan → Memory → ℕ → Called → Called
or_refused_call p m j r =
    or_refused p m (λ a. called (Told a) m)
    (or_else (passes41 p m) (called NotKept m)
    (or_else (passes42 p j) (called BadColumn m) r))

unfoldable pub fix_plan : Plan → ℕ → Float → Memory → Called
fix_plan p j value m =
    let P = problem_of p in
    or_refused_call p m j
    (or_else (passes43 p j value) (called BadValue m)
    (close_call P m (fixed P (kept_state P m) j value)))

unfoldable pub unfix_plan : Plan → ℕ → Memory → Called
unfix_plan p j m =
    let P = problem_of p in
    or_refused_call p m j
    (or_else (passes44 p m j) (called NotFixed m)
    (close_call P m (unfixed P (kept_state P m) j)))
