-- The sum of the changes passed. Assumes nothing.
use Rattle.std.proofs.Common.{◌≡◌, ◌+◌, ◌*◌, ℕ, ℤ, List}
use mathlib.Core.Bool.{not}
use lib.IntN.{◌+ℤ◌, ◌-ℤ◌, ◌*ℤ◌}
use Rattle.doubles.specs.Lists.{◌#◌}
use Rattle.sheet_rules.specs.Sum.{◌‼◌, sum, bit}
use Rattle.sheet_rules.specs.Sheet.{holds}
use Rattle.sheet_change_moves.proofs.broken_change.Given as goal

-- row k's change, when the column's amount moves by b
abbrev pub change : (columns column : ℕ) → (coefs rhs : List ℤ) → List ℕ → List ℤ → ℤ → ℕ → ℤ
change columns column coefs rhs ops r b k = bit (not (holds (ops # k) (r ‼ k +ℤ coefs ‼ (k * columns + column) *ℤ b) (rhs ‼ k))) -ℤ bit (not (holds (ops # k) (r ‼ k) (rhs ‼ k)))

abbrev pub invariant-loop-i : goal.invariant-loop-i
invariant-loop-i l = l.total ≡ sum l.i (change l.columns l.column l.coefs l.rhs l.ops l.r l.by)
