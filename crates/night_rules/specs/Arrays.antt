-- The five arrays lent to the solver, whole: what a solve leaves in them, with the cells past the sections. Assumes
-- nothing.
use Rattle.std.specs.Prelude.{List, ◌++◌, ℕ, Float}
use Rattle.rules.specs.Plan.{Plan, Memory}
use Rattle.rules.specs.Solve.{solve_plan}
use Rattle.rules.specs.declared.Answer.{Answer}
use Rattle.state.specs.Memory.{memory_in, Past, past_of, Handed, handed}

pub record Arrays : Type 0 where
  pub values : List Float
  pub numbers : List ℕ
  pub doubles : List Float
  pub all_factor_numbers : List ℕ
  pub all_factor_coeffs : List Float

abbrev pub arrays_of : List Float → List ℕ → List Float → List ℕ → List Float → Arrays
arrays_of v N D F G = record { values = v; numbers = N; doubles = D; all_factor_numbers = F; all_factor_coeffs = G }

abbrev pub memory : Arrays → Memory
memory a = memory_in a.values a.numbers a.doubles a.all_factor_numbers a.all_factor_coeffs

abbrev pub past : Arrays → Past
past a = past_of a.numbers a.doubles

-- the sections in their order, then the cells past them
abbrev pub numbers_of : Memory → Past → List ℕ
numbers_of m past =
    let w = m.ws in
    w.basic_vars ++ (w.nb_vars ++ (w.var_states ++ (w.flags ++ (w.etas.leaving ++ (w.etas.starts ++ (w.etas.rows
    ++ (m.kept ++ (m.counts ++ past.numbers))))))))

abbrev pub doubles_of : Memory → Past → List Float
doubles_of m past =
    let w = m.ws in
    w.basic_var_vals ++ (w.nb_var_vals ++ (w.prices ++ (w.norms ++ (w.etas.coeffs ++ (w.dual_norms ++ (m.objective
    ++ past.doubles))))))

unfoldable pub in_arrays : Memory → Past → Arrays
in_arrays m past = arrays_of m.values (numbers_of m past) (doubles_of m past) m.all_factor_numbers m.all_factor_coeffs

-- ---- a solve: its answer, and the arrays afterwards
pub record Ran : Type 0 where
  pub answer : Answer
  pub arrays : Arrays

abbrev pub ran : Answer → Arrays → Ran
ran r a = record { answer = r; arrays = a }

-- from what solve's contract settles
unfoldable pub ran_by : Handed → Ran
ran_by h = ran h.solved.answer (in_arrays h.solved.memory h.past)

unfoldable pub run_on : Plan → Arrays → Ran
run_on p a = ran_by (handed (solve_plan p (memory a)) (past a))
