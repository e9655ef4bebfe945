-- `whole_round::is_whole`: by cases. Assumes nothing.
use Rattle.std.proofs.Common.{rules}
use Rattle.whole_round.specs.Whole.{is_whole}
use Rattle.whole_round.proofs.is_whole.Statement.{statement}
use Rattle.whole_round.proofs.is_whole.Tie as tie

enum_told : tie.Need-enum_told-1
enum_told c = search rules

enum-told-2 : tie.Need-enum_told-in-Beyond
enum-told-2 c = search rules

enum-told-3 : tie.Need-enum_told-in-NotANumber
enum-told-3 c = search rules

returns : tie.Need-returns-in-Whole
unfolding is_whole
returns c = rw c.in-Whole.is

returns-2 : tie.Need-returns-in-Beyond
unfolding is_whole
returns-2 c = rw c.in-Beyond.is

returns-3 : tie.Need-returns-in-NotANumber
unfolding is_whole
returns-3 c = rw c.in-NotANumber.is

pub is_whole_spec : {M : Type 1} → statement M
is_whole_spec = tie.close (tie.spec enum_told enum-told-2 enum-told-3 returns returns-2 returns-3)
