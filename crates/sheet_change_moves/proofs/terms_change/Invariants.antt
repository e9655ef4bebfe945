-- The sum of the changes passed. Assumes nothing.
use Rattle.std.proofs.Common.{◌≡◌, ◌+◌, ◌*◌, ℕ, ℤ, List}
use lib.IntN.{◌-ℤ◌, ◌*ℤ◌}
use Rattle.doubles.specs.Lists.{◌#◌}
use Rattle.sheet_rules.specs.Sum.{◌‼◌, sum}
use Rattle.sheet_rules.specs.Sheet.{term}
use Rattle.sheet_change_moves.proofs.terms_change.Given as goal

-- column k's change, when the row's multiplier moves by b
abbrev pub change : (columns row : ℕ) → (coefs l u : List ℤ) → (lm um : List ℕ) → List ℤ → ℤ → ℕ → ℤ
change columns row coefs l u lm um d b k = term (d ‼ k -ℤ coefs ‼ (row * columns + k) *ℤ b) (l ‼ k) (u ‼ k) (lm # k) (um # k) -ℤ term (d ‼ k) (l ‼ k) (u ‼ k) (lm # k) (um # k)

abbrev pub invariant-loop-j : goal.invariant-loop-j
invariant-loop-j l = l.total ≡ sum l.j (change l.columns l.row l.coefs l.lowers l.uppers l.lower_marks l.upper_marks l.d l.by)
