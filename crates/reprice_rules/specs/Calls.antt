-- The call as a whole: from the plan and the memory that a run left to the answer and what is lent afterwards.
-- docs/RULES-02.md, "Beyond: reprice": "1 to 5 as solve gives them, for the plan with its new costs; then 41 as for
-- fix". Assumes nothing.
use Rattle.std.specs.Prelude.{ℕ, ◌+◌}
use Rattle.doubles.specs.Lists.{◌#◌}
use Rattle.rules.specs.Plan.{Plan, Problem, Memory, problem_of}
use Rattle.rules.specs.Step.{Ended}
use Rattle.rules.specs.Solve.{close, or_else, or_refused}
use Rattle.fix_rules.specs.declared.FixAnswer.TheVariants.{Told, NotKept}
use Rattle.fix_rules.specs.Kept.{kept_state, passes41}
use Rattle.fix_rules.specs.Calls.{Called, called, factorings_after, with_factorings}
use Rattle.reprice_rules.specs.Reprice.{repriced, reprice_end, own_factorings}

-- the end of a call is that of a run; the factorings of its own part and of its steps are added to the cell
unfoldable pub close_repriced : Problem → Memory → ℕ → Ended → Called
close_repriced P m own e =
    let r = close P m e in
    called (Told r.answer) (with_factorings (factorings_after (m.counts # 6) (own + e.state.factor.times)) r.memory)

unfoldable pub reprice_plan : Plan → Memory → Called
reprice_plan p m =
    let P = problem_of p in
    let s = kept_state P m in
    or_refused p m (λ a. called (Told a) m)
    (or_else (passes41 p m) (called NotKept m)
    (close_repriced P m (own_factorings s (repriced P s)) (reprice_end P s)))
