-- What a call asks of the kept memory that it takes up, and its answer with every lent cell, as state:Memory has them
-- of a solve. Assumes nothing.
use Rattle.std.specs.Prelude.{◌≡◌, ℕ, ◌≤◌, true, not, ◌||◌, List, length, ◌==◌, Float}
use Rattle.doubles.specs.Limits.{max_rows}
use Rattle.lu_factor_rules.specs.Packed.{all_factor_numbers, all_factor_coeffs}
use Rattle.rules.specs.declared.Answer.{Answer}
use Rattle.state.specs.Packed.{section, counts_at}
use Rattle.state.specs.Memory.{numbers_end, doubles_end, memory_in, Past, past_of}
use Rattle.doubles.specs.Limits.{count_cells}
use Rattle.doubles.specs.Lists.{◌#◌}
use Rattle.fix_rules.specs.Kept.{factor_fine}
use Rattle.fix_rules.specs.Calls.{Called, called}
use Rattle.fix_rules.specs.declared.FixAnswer.{FixAnswer}
use Rattle.fix_rules.specs.declared.FixAnswer.TheVariants.{Told}

-- the arrays are long enough, and a factor that is there has passed 41's test
pub record TakesUp (m : ℕ) (N : List ℕ) (D : List Float) (F : List ℕ) (G : List Float) : Type 0 where
  pub rows_most : m ≤ max_rows
  pub numbers_long : numbers_end ≤ length N
  pub doubles_long : doubles_end ≤ length D
  pub factor_numbers_long : all_factor_numbers ≤ length F
  pub factor_coeffs_long : all_factor_coeffs ≤ length G
  pub factor_pass : not ((section counts_at count_cells N # 5) == 1) || factor_fine m F G ≡ true

-- an answer and every lent cell
pub record HandedCall : Type 0 where
  pub call : Called
  pub past : Past

abbrev pub handed_call : Called → Past → HandedCall
handed_call c past = record { call = c; past = past }

abbrev pub called_by : FixAnswer → List Float → List ℕ → List Float → List ℕ → List Float → HandedCall
called_by a v N D F G = handed_call (called a (memory_in v N D F G)) (past_of N D)

abbrev pub told_by : Answer → List Float → List ℕ → List Float → List ℕ → List Float → HandedCall
told_by a v N D F G = called_by (Told a) v N D F G
