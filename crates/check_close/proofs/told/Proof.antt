-- `check_close::told`: by cases. Assumes nothing.
use borrow.Author.Rules.{rules}
use Rattle.rules.specs.Solve.{checked_answer}
use Rattle.check_close.proofs.told.Statement.{statement}
use Rattle.check_close.proofs.told.Tie as tie

enum-known-c : tie.Need-enum_known-c
enum-known-c c = search rules

enum-known-c-2 : tie.Need-enum_known-c-in-Value-1
enum-known-c-2 c = search rules

enum-known-c-3 : tie.Need-enum_known-c-in-Row-1
enum-known-c-3 c = search rules

returns : tie.Need-returns-in-Passed
unfolding checked_answer
returns c = rw c.in-Passed.is

returns-2 : tie.Need-returns-in-Value
unfolding checked_answer
returns-2 c = rw c.in-Value.is

returns-3 : tie.Need-returns-in-Row
unfolding checked_answer
returns-3 c = rw c.in-Row.is

pub told_spec : {M : Type 1} → statement M
told_spec = tie.close (tie.spec enum-known-c enum-known-c-2 enum-known-c-3 returns returns-2 returns-3)
