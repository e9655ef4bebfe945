-- The part of a state that the end of a solve reads, and what it asks. Assumes nothing.
use Rattle.std.specs.Prelude.{List, [], ℕ, ◌+◌, ◌≤◌, length, Float}
use Rattle.doubles.specs.Limits.{max_rows, eta_columns}
use Rattle.rules.specs.Plan.{Problem, Workspace, State, n_of, m_of}
use Rattle.rules.specs.Parts.{no_etas, workspace_of, state_of}
use Rattle.state.specs.Packed.{packed}
use Rattle.state.specs.Memory.{numbers_end, doubles_end}
use Rattle.state.specs.declared.Tally.{Tally}
use Rattle.check_final.specs.Lent.{valued_of, sizes_of, Valued, Checkable}

-- an objective and a step count
abbrev pub counted : Float → ℕ → State
counted o k = state_of (workspace_of [] [] [] [] [] [] [] [] [] no_etas) 0 o k

-- what the answer is reckoned from can be read
pub record Answers (P : Problem) (w : Workspace) : Type 0 where
  pub valued : Valued (sizes_of (n_of P) P.kept) (valued_of w.var_states w.basic_var_vals w.nb_var_vals)
  pub checkable : Checkable P

-- and what is written is long enough
pub record Closes (P : Problem) (v : List Float) (N : List ℕ) (D : List Float) (t : Tally) : Type 0 where
  pub answers : Answers P (packed N D)
  pub used : t.eta_count ≤ eta_columns
  pub values_long : n_of P + m_of P ≤ length v
  pub rows_most : m_of P ≤ max_rows
  pub numbers_long : numbers_end ≤ length N
  pub doubles_long : doubles_end ≤ length D
