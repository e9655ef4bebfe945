-- The sum of the changes passed. Assumes nothing.
use Rattle.std.proofs.Common.{◌≡◌, ◌+◌, ◌*◌, ℕ, ℤ, List}
use lib.IntN.{◌-ℤ◌, ◌*ℤ◌}
use Rattle.doubles.specs.Lists.{◌#◌}
use Rattle.sheet_rules.specs.Sum.{◌‼◌, sum, bit}
use Rattle.sheet_rules.specs.Sheet.{lacks}
use Rattle.sheet_change_moves.proofs.absent_change.Given as goal

-- column k's change, when the row's multiplier moves by b
abbrev pub change : (columns row : ℕ) → List ℤ → List ℕ → List ℕ → List ℤ → ℤ → ℕ → ℤ
change columns row coefs lm um d b k = bit (lacks (d ‼ k -ℤ coefs ‼ (row * columns + k) *ℤ b) (lm # k) (um # k)) -ℤ bit (lacks (d ‼ k) (lm # k) (um # k))

abbrev pub invariant-loop-j : goal.invariant-loop-j
invariant-loop-j l = l.total ≡ sum l.j (change l.columns l.row l.coefs l.lower_marks l.upper_marks l.d l.by)
