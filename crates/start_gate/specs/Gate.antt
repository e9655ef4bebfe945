-- What the gateway answers: 1 to 5 from what is lent, 6 and 7 from the start's numbers in scratch. Assumes nothing.
use Rattle.std.specs.Prelude.{true, false, ◌&&◌, ◌||◌, List, Float, Option, Result, Err, Ok}
use Rattle.rules.specs.Plan.{Plan, Memory, Problem}
use Rattle.rules.specs.Refusals.{sizes_fit, plan_long, memory_long}
use Rattle.rules.specs.Start.{passes6, passes7, dual_feasible}
use Rattle.rules.specs.declared.Answer.{Answer}
use Rattle.rules.specs.declared.Answer.TheVariants.{BadSize, StartNotFinite, SlackOutside}
use Rattle.plan.specs.Refused.{passing, refusal_of}
use Rattle.start.specs.Reckoned.{Numbers, numbers, reckoned}

-- 1 to 5 of a plan and of what is lent for it
unfoldable pub refusal_by : Plan → Memory → Option Answer
refusal_by p m = passing (sizes_fit p && plan_long p && memory_long p m) BadSize (refusal_of p)

-- the start in scratch: refused, or the start's numbers
pub data Scratch : Type 0 where
  refused : Answer → Scratch
  filled : Numbers → Scratch

-- 6, then 7, which is given only where the start isn't dual feasible: the numbers over what stood in scratch
unfoldable pub begun : Problem → Numbers → Scratch
begun P s =
    elim (passes6 P) [
      | true ↦ elim (passes7 P || dual_feasible P.plan) [ true ↦ filled (reckoned P s) | false ↦ refused SlackOutside ]
      | false ↦ refused StartNotFinite
    ]

-- the code's answer, with the scratch as it leaves it
abbrev pub begun_by : Result Float Answer → List Float → List Float → List Float → Scratch
begun_by (Err a) xs slacks norms = refused a
begun_by (Ok o) xs slacks norms = filled (numbers xs slacks norms o)
