-- Every D passed stays within its size. Assumes nothing.
use Rattle.std.proofs.Common.{◌≡◌, true}
use Rattle.doubles.specs.Limits.{max_d}
use Rattle.doubles.specs.Loop.{all}
use Rattle.sheet_rules.specs.Opening.{within}
use Rattle.sheet_rules.specs.Sheet.{plan_of, kept_of, sheet_of}
use Rattle.sheet_rules.specs.Edit.{moved_d}
use Rattle.sheet_change_after.proofs.prices_stay.Given as goal

abbrev pub invariant-loop-j : goal.invariant-loop-j
invariant-loop-j l = all l.j (λ k. within max_d (moved_d (sheet_of (plan_of l.rows l.columns l.coefs l.costs l.lowers l.uppers l.lower_marks l.upper_marks l.rhs l.ops l.amounts l.mults) (kept_of l.r l.d l.c l.b l.counts)) l.e k)) ≡ true
