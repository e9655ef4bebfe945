-- `sheet_tests::bound_fine` meets its contract. Assumes nothing.
use mathlib.Core.Path.{sym}
use borrow.Author.Rules.{rules}
use Rattle.sheet_rules.specs.Opening.{bound_fine}
use Rattle.sheet_terms.proofs.Machine.{of_word}
use Rattle.sheet_terms.proofs.Laws.{bound_other}
use Rattle.sheet_tests.proofs.bound_fine.Statement.{statement}
use Rattle.sheet_tests.proofs.bound_fine.Tie as tie

size-requires : tie.Need-size-requires
size-requires c κs = search rules

size-requires-2 : tie.Need-size-requires-in-1
size-requires-2 c κs = search rules

returns : tie.Need-returns-in-0
unfolding bound_fine
returns c = let s = c.before.before in rw (c.in-0.is, c.size.ensures, of_word s.ranges.z)

returns-2 : tie.Need-returns-in-1
unfolding bound_fine
returns-2 c = let s = c.before.before in rw (c.in-1.is, c.size-in-1.ensures, of_word s.ranges.z)

returns-3 : tie.Need-returns-in_default
returns-3 c = sym (bound_other c.args.mark c.args.z c.in_default.in_default-own.rest.0.1 c.in_default.in_default-own.rest.1)

pub bound_fine_spec : {M : Type 1} → statement M
bound_fine_spec = tie.close (tie.spec size-requires size-requires-2 returns returns-2 returns-3)
