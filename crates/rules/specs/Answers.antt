-- 01's number, objective, steps and place for each case of the answer. Assumes nothing.
use Rattle.std.specs.Prelude.{ℕ, Float}
use Rattle.doubles.specs.Num.{f0}
use Rattle.rules.specs.declared.Answer.{Answer}
use Rattle.rules.specs.declared.Answer.TheVariants.{Optimal, BadSize, BadNumber, BadEntry, CrossedBounds, FalseEmptyRow, StartNotFinite, SlackOutside, Unbounded, Spent, NotFinite, Singular, Infeasible, ValueRejected, RowRejected}

-- the place that an answer names
pub data Place : Type 0 where
  nowhere : Place
  entry_at : ℕ → ℕ → Place
  column_at : ℕ → Place
  row_at : ℕ → Place
  value_at : ℕ → Place
  kept_row_at : ℕ → Place

-- an answer as 01's table has it: "Answers 0 and 20 to 24 carry the objective and step count"; refusals have "objective
-- 0.0, 0 steps"; 0 and 24 carry the final check's excess, the others 0.0
pub record Row : Type 0 where
  pub number : ℕ
  pub objective : Float
  pub steps : ℕ
  pub excess : Float
  pub place : Place

abbrev pub row : ℕ → Float → ℕ → Float → Place → Row
row n o k x p = record { number = n; objective = o; steps = k; excess = x; place = p }

unfoldable pub as_row : Answer → Row
as_row (Optimal o k x) = row 0 o k x nowhere
as_row BadSize = row 1 f0 0 f0 nowhere
as_row BadNumber = row 2 f0 0 f0 nowhere
as_row (BadEntry r p) = row 3 f0 0 f0 (entry_at r p)
as_row (CrossedBounds c) = row 4 f0 0 f0 (column_at c)
as_row (FalseEmptyRow r) = row 5 f0 0 f0 (row_at r)
as_row StartNotFinite = row 6 f0 0 f0 nowhere
as_row SlackOutside = row 7 f0 0 f0 nowhere
as_row (Unbounded o k) = row 20 o k f0 nowhere
as_row (Spent o k) = row 21 o k f0 nowhere
as_row (NotFinite o k) = row 23 o k f0 nowhere
as_row (Singular o k) = row 25 o k f0 nowhere
as_row (Infeasible o k r) = row 26 o k f0 (kept_row_at r)
as_row (ValueRejected o k v x) = row 24 o k x (value_at v)
as_row (RowRejected o k r x) = row 24 o k x (kept_row_at r)

abbrev pub number_of : Answer → ℕ
number_of a = (as_row a).number
