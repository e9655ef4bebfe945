-- `whole_propose::is_proposed`: by cases. Assumes nothing.
use borrow.Author.Rules.{rules}
use Rattle.whole_propose.specs.Propose.{is_proposed}
use Rattle.whole_propose.proofs.is_proposed.Statement.{statement}
use Rattle.whole_propose.proofs.is_proposed.Tie as tie

enum_told : tie.Need-enum_told-1
enum_told c = search rules

enum-told-2 : tie.Need-enum_told-in-Nothing
enum-told-2 c = search rules

enum-told-3 : tie.Need-enum_told-in-Refused
enum-told-3 c = search rules

enum-told-4 : tie.Need-enum_told-in-AmountNotWhole
enum-told-4 c = search rules

enum-told-5 : tie.Need-enum_told-in-MultiplierNotWhole
enum-told-5 c = search rules

returns : tie.Need-returns-in-Proposed
unfolding is_proposed
returns c = rw c.in-Proposed.is

returns-2 : tie.Need-returns-in-Nothing
unfolding is_proposed
returns-2 c = rw c.in-Nothing.is

returns-3 : tie.Need-returns-in-Refused
unfolding is_proposed
returns-3 c = rw c.in-Refused.is

returns-4 : tie.Need-returns-in-AmountNotWhole
unfolding is_proposed
returns-4 c = rw c.in-AmountNotWhole.is

returns-5 : tie.Need-returns-in-MultiplierNotWhole
unfolding is_proposed
returns-5 c = rw c.in-MultiplierNotWhole.is

pub is_proposed_spec : {M : Type 1} → statement M
is_proposed_spec =
    tie.close
    (tie.spec
    enum_told
    enum-told-2
    enum-told-3
    enum-told-4
    enum-told-5
    returns
    returns-2
    returns-3
    returns-4
    returns-5)
