-- Everything lent to a solve, read out of the values, the two arrays and the factor's two, which stand whole. The
-- counts and the objective stand last, so an array that has them has every section, whatever the plan's sizes. Assumes
-- nothing.
use Rattle.std.specs.Prelude.{List, ℕ, ◌+◌, drop, Float}
use Rattle.doubles.specs.Limits.{max_rows, count_cells}
use Rattle.rules.specs.Plan.{Memory}
use Rattle.rules.specs.Parts.{memory_of}
use Rattle.rules.specs.Solve.{Solved, solved}
use Rattle.rules.specs.declared.Answer.{Answer}
use Rattle.state.specs.Packed.{section, packed, kept_at, counts_at, objective_at}

-- where the last sections end
abbrev pub numbers_end : ℕ
numbers_end = counts_at + count_cells

abbrev pub doubles_end : ℕ
doubles_end = objective_at + 1

abbrev pub memory_in : List Float → List ℕ → List Float → List ℕ → List Float → Memory
memory_in v N D F G =
    memory_of v (section kept_at max_rows N) (packed N D) (section counts_at count_cells N) (section objective_at 1 D) F G

-- the cells past the sections
pub record Past : Type 0 where
  pub numbers : List ℕ
  pub doubles : List Float

abbrev pub past_of : List ℕ → List Float → Past
past_of N D = record { numbers = drop numbers_end N; doubles = drop doubles_end D }

-- an answer and every lent cell: proofs/Memory.antt shows that no cell is left out
pub record Handed : Type 0 where
  pub solved : Solved
  pub past : Past

abbrev pub handed : Solved → Past → Handed
handed s past = record { solved = s; past = past }

abbrev pub answered : Answer → List Float → List ℕ → List Float → List ℕ → List Float → Handed
answered a v N D F G = handed (solved a (memory_in v N D F G)) (past_of N D)
