-- `night_second::is_judged`: by cases. Assumes nothing.
use borrow.Author.Rules.{rules}
use Rattle.night_rules.specs.Stage.{is_judged}
use Rattle.night_second.proofs.is_judged.Statement.{statement}
use Rattle.night_second.proofs.is_judged.Tie as tie

enum_told : tie.Need-enum_told-1
enum_told c = search rules

enum-told-2 : tie.Need-enum_told-in-NotWhole
enum-told-2 c = search rules

enum-told-3 : tie.Need-enum_told-in-NotOpened
enum-told-3 c = search rules

enum-told-4 : tie.Need-enum_told-in-Judged
enum-told-4 c = search rules

returns : tie.Need-returns-in-NotRun
unfolding is_judged
returns c = rw c.in-NotRun.is

returns-2 : tie.Need-returns-in-NotWhole
unfolding is_judged
returns-2 c = rw c.in-NotWhole.is

returns-3 : tie.Need-returns-in-NotOpened
unfolding is_judged
returns-3 c = rw c.in-NotOpened.is

returns-4 : tie.Need-returns-in-Judged
unfolding is_judged
returns-4 c = rw c.in-Judged.is

pub is_judged_spec : {M : Type 1} → statement M
is_judged_spec =
    tie.close
    (tie.spec enum_told enum-told-2 enum-told-3 enum-told-4 returns returns-2 returns-3 returns-4)
