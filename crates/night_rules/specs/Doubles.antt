-- A sheet's plan as the solver takes it. 02, Ask 14: "handed to the solver as the same numbers in doubles, absent
-- bounds infinite and zero coefficients left out". Assumes nothing.
use Rattle.std.specs.Prelude.{true, false, List, [], ◌∷◌, ◌++◌, ℕ, ◌+◌, replicate, ℤ, Float}
use Rattle.std.specs.Float.{binary64}
use Rattle.std.specs.Float.Ieee.{of_int}
use Rattle.doubles.specs.Num.{f0, +inf, -inf}
use Rattle.doubles.specs.Limits.{max_columns, max_rows, max_entries}
use Rattle.doubles.specs.Loop.{run, table}
use Rattle.doubles.specs.Lists.{over}
use Rattle.sheet_rules.specs.Sheet.{Plan, a, c, lower, upper, lower_mark, upper_mark, present, rhs}
use Rattle.sheet_rules.specs.Verdict.{is_zero}
use Rattle.rules.specs.Plan as Rules
use Rattle.rules.specs.Parts.{plan_of}

-- ---- numbers

-- the double nearest to a whole number; every number of an accepted plan is far below 2 ^ 53 in size, and such a
-- number is its double's exact value (proofs/Doubles.antt)
abbrev pub as_double : ℤ → Float
as_double z = of_int binary64 z

-- a bound, or what stands for an absent one
abbrev pub bound_or : Float → ℕ → ℤ → Float
bound_or absent mark z = elim (present mark) [ true ↦ as_double z | false ↦ absent ]

-- ---- the coefficients that aren't 0, of a row given by its cells

-- one more unless z is 0
abbrev pub count_cell : ℤ → ℕ → ℕ
count_cell z k = elim (is_zero z) [ true ↦ k | false ↦ k + 1 ]

-- how many there are among the first n
unfoldable pub nonzeros : (ℕ → ℤ) → ℕ → ℕ
nonzeros row n = run (λ j k. count_cell (row j) k) n 0

-- columns and values, side by side
pub record Entries : Type 0 where
  pub columns : List ℕ
  pub values : List Float

abbrev pub entries_of : List ℕ → List Float → Entries
entries_of columns values = record { columns = columns; values = values }

abbrev pub entry_cell : ℕ → ℤ → Entries → Entries
entry_cell j z e =
    elim (is_zero z) [ true ↦ e | false ↦ entries_of (e.columns ++ (j ∷ [])) (e.values ++ (as_double z ∷ [])) ]

-- those of the first n columns, behind e
unfoldable pub row_entries : (ℕ → ℤ) → ℕ → Entries → Entries
row_entries row n e = run (λ j s. entry_cell j (row j) s) n e

-- ---- of a plan

-- where row i starts: how many the rows before it have
unfoldable pub start_at : Plan → ℕ → ℕ
start_at p i = run (λ r k. k + nonzeros (a p r) p.cols) i 0

-- row by row, columns rising: those of the first i rows
unfoldable pub entries_to : Plan → ℕ → Entries
entries_to p i = run (λ r e. row_entries (a p r) p.cols e) i (entries_of [] [])

unfoldable pub entry_count : Plan → ℕ
entry_count p = start_at p p.rows

-- ---- the solver's plan. Arrays may be longer than the sizes say: each has the cells of its limit, 0 past what is used
unfoldable pub doubles_plan : ℕ → Float → Plan → Rules.Plan
doubles_plan budget tolerance p =
    let n = p.cols in
    let m = p.rows in
    let e = entries_to p m in
    plan_of n m (entry_count p) budget tolerance
    (over (table n (λ j. as_double (c p j))) (replicate max_columns f0))
    (over (table n (λ j. bound_or -inf (lower_mark p j) (lower p j))) (replicate max_columns f0))
    (over (table n (λ j. bound_or +inf (upper_mark p j) (upper p j))) (replicate max_columns f0))
    (over (table (m + 1) (start_at p)) (replicate (max_rows + 1) 0))
    (over e.columns (replicate max_entries 0))
    (over e.values (replicate max_entries f0))
    p.ops
    (over (table m (λ i. as_double (rhs p i))) (replicate max_rows f0))
