-- `whole_round::number_of`: by cases. Assumes nothing.
use Rattle.std.proofs.Common.{w64, rules}
use mir.ValLaws.{to_z-of_z}
use Rattle.whole_round.specs.Whole.{number_of}
use Rattle.whole_round.proofs.number_of.Statement.{statement}
use Rattle.whole_round.proofs.number_of.Tie as tie

enum-known-r : tie.Need-enum_known-r
enum-known-r c = search rules

enum_told : tie.Need-enum_told-1
enum_told c = search rules

enum-told-2 : tie.Need-enum_told-in-NotANumber
enum-told-2 c = search rules

returns : tie.Need-returns-in-Whole
unfolding number_of
returns c =
    rw c.in-Whole.is
    (to_z-of_z w64 c.in-Whole.w (record { sfits = c.in-Whole.known_told-1-own.given.0.1 }))

returns-2 : tie.Need-returns-in-Beyond
unfolding number_of
returns-2 c = rw c.in-Beyond.is

returns-3 : tie.Need-returns-in-NotANumber
unfolding number_of
returns-3 c = rw c.in-NotANumber.is

pub number_of_spec : {M : Type 1} → statement M
number_of_spec =
    tie.close (tie.spec enum-known-r enum_told enum-told-2 returns returns-2 returns-3)
