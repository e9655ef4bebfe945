-- 02, Ask 8: the two kinds of step of a run. Assumes nothing.
use Rattle.std.specs.Prelude.{true, false, ℕ, ◌-◌}
use Rattle.rules.specs.Plan.{Plan, Problem, Memory, State}
use Rattle.rules.specs.Start.{start_state, dual_feasible}
use Rattle.rules.specs.Step.{dual_run_of}
use Rattle.rules.specs.declared.Stop.{Stop}
use Rattle.rules.specs.declared.Stop.TheVariants.{Finished, Spent, Unbounded, NotFinite, Singular, Infeasible}

pub data Kind : Type 0 where
  dual : Kind
  primal : Kind

-- "dual steps for starts that are dual feasible"
unfoldable pub first_kind : Plan → Kind
first_kind p = elim (dual_feasible p) [ true ↦ dual | false ↦ primal ]

-- the kind of step that a run stands in at its end: the dual steps turn into primal ones where no row leaves
abbrev pub kind_after : Stop → Kind
kind_after Finished = primal
kind_after Spent = dual
kind_after Unbounded = dual
kind_after NotFinite = dual
kind_after Singular = dual
kind_after (Infeasible r) = dual

unfoldable pub last_kind_by : Problem → ℕ → State → Kind → Kind
last_kind_by P budget s dual = kind_after (dual_run_of P (budget - s.steps) s).why
last_kind_by P budget s primal = primal

abbrev pub last_kind : Problem → Memory → Kind
last_kind P m = last_kind_by P P.plan.budget (start_state P m) (first_kind P.plan)
