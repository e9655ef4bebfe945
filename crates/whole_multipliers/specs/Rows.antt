-- The multiplier of each row of a plan, from the prices and maps that a run left. Assumes nothing.
use Rattle.std.specs.Prelude.{true, false, not, List, [], ℕ, ◌+◌, ◌<◌, ◌≤◌, length, ℤ, Float}
use Rattle.doubles.specs.Num.{f0}
use Rattle.doubles.specs.Limits.{max_rows, max_columns}
use Rattle.doubles.specs.Loop.{run, first, table}
use Rattle.doubles.specs.Lists.{◌!◌, ◌#◌}
use Rattle.rules.specs.Plan.{Plan, Memory, Workspace, kept_turn, is_empty, var_state_of}
use Rattle.rules.specs.Parts.{plan_of}
use Rattle.rules.specs.declared.VarState.{VarState}
use Rattle.rules.specs.declared.VarState.TheVariants.{Basic, NonBasic}
use Rattle.state.specs.Memory.{numbers_end, doubles_end}
use Rattle.whole_round.specs.Whole.{multiplier_of, is_whole, number_of}
use Rattle.whole_round.specs.declared.Rounded.{Rounded}

-- how many of the rows before row i are kept: where row i is kept itself, its number among the kept rows
unfoldable pub before : Plan → ℕ → ℕ
before p i = length (run (kept_turn p) i [])

-- a price stands at a non_basic place
unfoldable pub price_in : Workspace → VarState → Float
price_in w (NonBasic c) = w.prices ! c
price_in w (Basic r) = f0

-- 02: "the price of the row's slack, 0 for a basic or dropped one". The slack of kept row k is variable columns + k
unfoldable pub slack_price : Plan → Memory → ℕ → Float
slack_price p m i =
    elim (is_empty p i) [
      | true ↦ f0
      | false ↦ price_in m.ws (var_state_of p.columns (m.ws.var_states # (p.columns + before p i)))
    ]

unfoldable pub multiplier_at : Plan → Memory → ℕ → Rounded
multiplier_at p m i = multiplier_of (p.ops # i) (slack_price p m i)

-- the first row whose multiplier isn't whole, and the number of rows where each is
unfoldable pub first_multiplier : Plan → Memory → ℕ
first_multiplier p m = first p.rows (λ i. not (is_whole (multiplier_at p m i)))

unfoldable pub multipliers : Plan → Memory → List ℤ
multipliers p m = table p.rows (λ i. number_of (multiplier_at p m i))

-- ---- what is read of a plan, and how long what is lent has to be
abbrev pub rows_of : ℕ → ℕ → List ℕ → List ℕ → Plan
rows_of n m starts ops = plan_of n m 0 0 f0 [] [] [] starts [] [] ops []

pub record Long (n m : ℕ) (starts ops numbers : List ℕ) (doubles : List Float) : Type 0 where
  pub columns_fit : n ≤ max_columns
  pub rows_fit : m ≤ max_rows
  pub starts_long : m < length starts
  pub ops_long : m ≤ length ops
  pub numbers_long : numbers_end ≤ length numbers
  pub doubles_long : doubles_end ≤ length doubles
