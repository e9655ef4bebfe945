-- A solve from any start: `solve`; on 7, `solve` with costs 0 over the same memory, whose start is dual feasible; and
-- where that is Optimal, the basis that it left priced anew with the plan's own costs. Each call has its own rules
-- about the memory: the values array holds what the last Optimal run wrote, and a run with costs 0 that isn't Optimal
-- leaves its state, its status and an objective of costs 0. Assumes nothing.
use Rattle.std.specs.Prelude.{true, false, List, ℕ, eqb, replicate, Float}
use Rattle.doubles.specs.Num.{f0}
use Rattle.doubles.specs.Limits.{max_columns}
use Rattle.rules.specs.Plan.{Plan, Memory}
use Rattle.rules.specs.Parts.{plan_of}
use Rattle.rules.specs.Answers.{Row, as_row, number_of}
use Rattle.rules.specs.Solve.{Solved, solve_plan}
use Rattle.fix_rules.specs.Calls.{as_fix_row}
use Rattle.reprice_rules.specs.declared.AnyAnswer.{AnyAnswer}
use Rattle.reprice_rules.specs.declared.AnyAnswer.TheVariants.{Direct, Halted, Repriced}
use Rattle.reprice_rules.specs.Calls.{reprice_plan}

pub record AnyCalled : Type 0 where
  pub answer : AnyAnswer
  pub memory : Memory

abbrev pub any_called : AnyAnswer → Memory → AnyCalled
any_called a m = record { answer = a; memory = m }

-- the plan with costs 0, in an array as long as there may be columns
abbrev pub zero_costs : List Float
zero_costs = replicate max_columns f0

abbrev pub costless : Plan → Plan
costless p =
    plan_of p.columns p.rows p.entries p.budget p.tolerance zero_costs p.lowers p.uppers p.starts p.cols p.coeffs p.ops p.rhs

-- behind the run with costs 0
unfoldable pub then_reprice : Plan → Solved → AnyCalled
then_reprice p r =
    let u = reprice_plan p r.memory in
    elim (eqb (number_of r.answer) 0) [
      | true ↦ any_called (Repriced (as_row r.answer).steps u.answer) u.memory
      | false ↦ any_called (Halted r.answer) r.memory
    ]

-- on 7 the memory is as it was lent
unfoldable pub any_plan : Plan → Memory → AnyCalled
any_plan p m =
    let r = solve_plan p m in
    elim (eqb (number_of r.answer) 7) [
      | true ↦ then_reprice p (solve_plan (costless p) r.memory)
      | false ↦ any_called (Direct r.answer) r.memory
    ]

-- ---- the answer as 01's table has it: that of the last run
unfoldable pub as_any_row : AnyAnswer → Row
as_any_row (Direct a) = as_row a
as_any_row (Halted a) = as_row a
as_any_row (Repriced k b) = as_fix_row b

-- the steps of the run with costs 0, and of that with the plan's own
unfoldable pub steps_of_costless : AnyAnswer → ℕ
steps_of_costless (Direct a) = 0
steps_of_costless (Halted a) = (as_row a).steps
steps_of_costless (Repriced k b) = k

unfoldable pub own_steps : AnyAnswer → ℕ
own_steps (Direct a) = (as_row a).steps
own_steps (Halted a) = 0
own_steps (Repriced k b) = (as_fix_row b).steps
