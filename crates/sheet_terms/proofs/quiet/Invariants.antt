-- The bits are 0 where the coefficients behind all are. Assumes nothing.
use Rattle.std.proofs.Common.{◌≡◌, ◌+◌}
use lib.Dec.{eqb}
use mir.Syntax.{w64}
use mir.Val.{of_z}
use Rattle.doubles.specs.Loop.{all}
use Rattle.sheet_rules.specs.Sum.{◌‼◌}
use Rattle.sheet_rules.specs.Verdict.{is_zero}
use Rattle.sheet_terms.proofs.quiet.Given as goal

abbrev pub invariant-loop-k : goal.invariant-loop-k
invariant-loop-k l = eqb (of_z w64 l.bits) 0 ≡ all l.k (λ i. is_zero (l.row ‼ (l.j + i)))
