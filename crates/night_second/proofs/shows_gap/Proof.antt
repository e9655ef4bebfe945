-- `night_second::shows_gap`: by cases. Assumes nothing.
use mathlib.Core.Path.{sym, ap, ◌∙◌}
use borrow.Author.Rules.{rules}
use Rattle.night_rules.specs.Night.{shows_gap}
use Rattle.night_second.proofs.shows_gap.Statement.{statement}
use Rattle.night_second.proofs.shows_gap.Tie as tie

enum_told : tie.Need-enum_told-1
enum_told c = search rules

enum-told-2 : tie.Need-enum_told-in-NotWhole
enum-told-2 c = search rules

enum-told-3 : tie.Need-enum_told-in-NotOpened
enum-told-3 c = search rules

enum-known-a : tie.Need-enum_known-a
enum-known-a c = search rules

is-gap-requires : tie.Need-is_gap-requires
is-gap-requires c κs = search rules

returns : tie.Need-returns-in-NotRun
unfolding shows_gap
returns c = rw c.in-NotRun.is

returns-2 : tie.Need-returns-in-NotWhole
unfolding shows_gap
returns-2 c = rw c.in-NotWhole.is

returns-3 : tie.Need-returns-in-NotOpened
unfolding shows_gap
returns-3 c = rw c.in-NotOpened.is

returns-4 : tie.Need-returns-in-Judged
returns-4 c = c.is_gap.ensures ∙ sym (ap shows_gap c.in-Judged.is)

pub shows_gap_spec : {M : Type 1} → statement M
shows_gap_spec =
    tie.close
    (tie.spec
    enum_told
    enum-told-2
    enum-told-3
    enum-known-a
    is-gap-requires
    returns
    returns-2
    returns-3
    returns-4)
