-- Every R passed stays within its size. Assumes nothing.
use Rattle.std.proofs.Common.{◌≡◌, true}
use Rattle.doubles.specs.Limits.{max_r}
use Rattle.doubles.specs.Loop.{all}
use Rattle.sheet_rules.specs.Opening.{within}
use Rattle.sheet_rules.specs.Sheet.{plan_of, kept_of, sheet_of}
use Rattle.sheet_rules.specs.Edit.{moved_r}
use Rattle.sheet_change_after.proofs.activities_stay.Given as goal

abbrev pub invariant-loop-i : goal.invariant-loop-i
invariant-loop-i l = all l.i (λ k. within max_r (moved_r (sheet_of (plan_of l.rows l.columns l.coefs l.costs l.lowers l.uppers l.lower_marks l.upper_marks l.rhs l.ops l.amounts l.mults) (kept_of l.r l.d l.c l.b l.counts)) l.e k)) ≡ true
