-- `whole_round::right_sign`: by cases, and of a whole number by its sign. Assumes nothing.
use Rattle.std.proofs.Common.{◌≡◌, w64, to_z, of_z, rules}
use mir.ValLaws.{to_z-of_z}
use Rattle.whole_round.specs.Whole.{right_sign}
use Rattle.whole_round.proofs.Answers.{drops, stays}
use Rattle.whole_round.proofs.right_sign.Statement.{statement}
use Rattle.whole_round.proofs.right_sign.Tie as tie

-- the number as the machine holds it
read : (c : tie.In-Whole) → to_z w64 (of_z w64 c.in-Whole.w) ≡ c.in-Whole.w
read c = to_z-of_z w64 c.in-Whole.w (record { sfits = c.in-Whole.known_told-1-own.given.0.1 })

enum-known-r : tie.Need-enum_known-r
enum-known-r c = search rules

wrong-requires : tie.Need-wrong-requires
wrong-requires c κs = search rules

returns : tie.Need-returns-then-wrong
returns c =
    rw c.in-Whole.is
    (drops _ (read c.before.before) c.wrong.ensures c.if-wrong.true)

enum-known-r-2 : tie.Need-enum_known-r-in-Beyond-1
enum-known-r-2 c = search rules

enum_told : tie.Need-enum_told-1
enum_told c = search rules

returns-2 : tie.Need-returns-else-wrong
returns-2 c =
    rw c.in-Whole.is
    (stays _ (read c.before.before) c.wrong.ensures c.if-wrong.false)

returns-3 : tie.Need-returns-in-Beyond
unfolding right_sign
returns-3 c = rw c.in-Beyond.is

returns-4 : tie.Need-returns-in-NotANumber
unfolding right_sign
returns-4 c = search rules

pub right_sign_spec : {M : Type 1} → statement M
right_sign_spec =
    tie.close (tie.spec enum-known-r wrong-requires returns enum-known-r-2 enum_told returns-2 returns-3 returns-4)
