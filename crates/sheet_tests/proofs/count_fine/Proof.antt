-- `sheet_tests::count_fine` meets its contract. Assumes nothing.
use borrow.Author.Rules.{rules}
use native.Mathlib.Omega.{arith}
use mir.Syntax.{w64}
use mir.ValLaws.{to_z_pos}
use Rattle.sheet_rules.specs.Verdict.{count_fine}
use Rattle.sheet_terms.proofs.Machine.{of_word}
use Rattle.sheet_tests.proofs.count_fine.Statement.{statement}
use Rattle.sheet_tests.proofs.count_fine.Tie as tie

cast-result : tie.Need-overflow_cast-result
cast-result c = search rules

returns : tie.Need-returns
unfolding count_fine
returns c = rw (of_word c.ranges.z, to_z_pos w64 c.args.n (omega arith))

pub count_fine_spec : {M : Type 1} → statement M
count_fine_spec = tie.close (tie.spec cast-result returns)
