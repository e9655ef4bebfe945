-- `night_second::first_stands`: by cases. Assumes nothing.
use mathlib.Core.Path.{sym, ap, ◌∙◌}
use borrow.Author.Rules.{rules}
use Rattle.night_rules.specs.Night.{first_stands}
use Rattle.night_second.proofs.first_stands.Statement.{statement}
use Rattle.night_second.proofs.first_stands.Tie as tie

enum_told : tie.Need-enum_told-1
enum_told c = search rules

enum-told-2 : tie.Need-enum_told-in-NotWhole
enum-told-2 c = search rules

enum-told-3 : tie.Need-enum_told-in-NotOpened
enum-told-3 c = search rules

enum-known-a : tie.Need-enum_known-a
enum-known-a c = search rules

is-no-plan-requires : tie.Need-is_no_plan-requires
is-no-plan-requires c κs = search rules

returns : tie.Need-returns-in-NotRun
unfolding first_stands
returns c = rw c.in-NotRun.is

returns-2 : tie.Need-returns-in-NotWhole
unfolding first_stands
returns-2 c = rw c.in-NotWhole.is

returns-3 : tie.Need-returns-in-NotOpened
unfolding first_stands
returns-3 c = rw c.in-NotOpened.is

returns-4 : tie.Need-returns-in-Judged
returns-4 c = c.is_no_plan.ensures ∙ sym (ap first_stands c.in-Judged.is)

pub first_stands_spec : {M : Type 1} → statement M
first_stands_spec =
    tie.close
    (tie.spec
    enum_told
    enum-told-2
    enum-told-3
    enum-known-a
    is-no-plan-requires
    returns
    returns-2
    returns-3
    returns-4)
