-- `night_second::is_no_plan`: by cases. Assumes nothing.
use borrow.Author.Rules.{rules}
use Rattle.night_rules.specs.Night.{first_stands}
use Rattle.night_second.proofs.is_no_plan.Statement.{statement}
use Rattle.night_second.proofs.is_no_plan.Tie as tie

enum_told : tie.Need-enum_told-1
enum_told c = search rules

enum-told-2 : tie.Need-enum_told-in-NotPlan
enum-told-2 c = search rules

enum-told-3 : tie.Need-enum_told-in-NoFloor
enum-told-3 c = search rules

enum-told-4 : tie.Need-enum_told-in-Gap
enum-told-4 c = search rules

enum-told-5 : tie.Need-enum_told-in-Refused
enum-told-5 c = search rules

returns : tie.Need-returns-in-NoneExists
unfolding first_stands
returns c = rw c.in-NoneExists.is

returns-2 : tie.Need-returns-in-NotPlan
unfolding first_stands
returns-2 c = rw c.in-NotPlan.is

returns-3 : tie.Need-returns-in-NoFloor
unfolding first_stands
returns-3 c = rw c.in-NoFloor.is

returns-4 : tie.Need-returns-in-Gap
unfolding first_stands
returns-4 c = rw c.in-Gap.is

returns-5 : tie.Need-returns-in-Refused
unfolding first_stands
returns-5 c = rw c.in-Refused.is

pub is_no_plan_spec : {M : Type 1} → statement M
is_no_plan_spec =
    tie.close
    (tie.spec
    enum_told
    enum-told-2
    enum-told-3
    enum-told-4
    enum-told-5
    returns
    returns-2
    returns-3
    returns-4
    returns-5)
