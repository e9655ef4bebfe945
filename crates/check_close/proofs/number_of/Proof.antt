-- `check_close::number_of`: by cases. Assumes nothing.
use borrow.Author.Rules.{rules}
use Rattle.rules.specs.Answers.{as_row}
use Rattle.check_close.proofs.number_of.Statement.{statement}
use Rattle.check_close.proofs.number_of.Tie as tie

enum_told : tie.Need-enum_told-1
enum_told c = search rules

enum-told-2 : tie.Need-enum_told-in-BadSize
enum-told-2 c = search rules

enum-told-3 : tie.Need-enum_told-in-BadNumber
enum-told-3 c = search rules

enum-told-4 : tie.Need-enum_told-in-BadEntry
enum-told-4 c = search rules

enum-told-5 : tie.Need-enum_told-in-CrossedBounds
enum-told-5 c = search rules

enum-told-6 : tie.Need-enum_told-in-FalseEmptyRow
enum-told-6 c = search rules

enum-told-7 : tie.Need-enum_told-in-StartNotFinite
enum-told-7 c = search rules

enum-told-8 : tie.Need-enum_told-in-SlackOutside
enum-told-8 c = search rules

enum-told-9 : tie.Need-enum_told-in-Unbounded
enum-told-9 c = search rules

enum-told-10 : tie.Need-enum_told-in-Spent
enum-told-10 c = search rules

enum-told-11 : tie.Need-enum_told-in-NotFinite
enum-told-11 c = search rules

enum-told-12 : tie.Need-enum_told-in-Singular
enum-told-12 c = search rules

enum-told-13 : tie.Need-enum_told-in-Infeasible
enum-told-13 c = search rules

enum-told-14 : tie.Need-enum_told-in-ValueRejected
enum-told-14 c = search rules

enum-told-15 : tie.Need-enum_told-in-RowRejected
enum-told-15 c = search rules

returns : tie.Need-returns-in-Optimal
unfolding as_row
returns c = rw c.in-Optimal.is

returns-2 : tie.Need-returns-in-BadSize
unfolding as_row
returns-2 c = rw c.in-BadSize.is

returns-3 : tie.Need-returns-in-BadNumber
unfolding as_row
returns-3 c = rw c.in-BadNumber.is

returns-4 : tie.Need-returns-in-BadEntry
unfolding as_row
returns-4 c = rw c.in-BadEntry.is

returns-5 : tie.Need-returns-in-CrossedBounds
unfolding as_row
returns-5 c = rw c.in-CrossedBounds.is

returns-6 : tie.Need-returns-in-FalseEmptyRow
unfolding as_row
returns-6 c = rw c.in-FalseEmptyRow.is

returns-7 : tie.Need-returns-in-StartNotFinite
unfolding as_row
returns-7 c = rw c.in-StartNotFinite.is

returns-8 : tie.Need-returns-in-SlackOutside
unfolding as_row
returns-8 c = rw c.in-SlackOutside.is

returns-9 : tie.Need-returns-in-Unbounded
unfolding as_row
returns-9 c = rw c.in-Unbounded.is

returns-10 : tie.Need-returns-in-Spent
unfolding as_row
returns-10 c = rw c.in-Spent.is

returns-11 : tie.Need-returns-in-NotFinite
unfolding as_row
returns-11 c = rw c.in-NotFinite.is

returns-12 : tie.Need-returns-in-Singular
unfolding as_row
returns-12 c = rw c.in-Singular.is

returns-13 : tie.Need-returns-in-Infeasible
unfolding as_row
returns-13 c = rw c.in-Infeasible.is

returns-14 : tie.Need-returns-in-ValueRejected
unfolding as_row
returns-14 c = rw c.in-ValueRejected.is

returns-15 : tie.Need-returns-in-RowRejected
unfolding as_row
returns-15 c = rw c.in-RowRejected.is

pub number_of_spec : {M : Type 1} → statement M
number_of_spec =
    tie.close
    (tie.spec
    enum_told
    enum-told-2
    enum-told-3
    enum-told-4
    enum-told-5
    enum-told-6
    enum-told-7
    enum-told-8
    enum-told-9
    enum-told-10
    enum-told-11
    enum-told-12
    enum-told-13
    enum-told-14
    enum-told-15
    returns
    returns-2
    returns-3
    returns-4
    returns-5
    returns-6
    returns-7
    returns-8
    returns-9
    returns-10
    returns-11
    returns-12
    returns-13
    returns-14
    returns-15)
