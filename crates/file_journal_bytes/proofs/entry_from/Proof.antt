-- `file_journal_bytes::entry_from` meets its contract. Assumes nothing.
use mathlib.Core.Path.{ap, ◌∙◌}
use Rattle.sheet_terms.proofs.Machine.{result}
use Rattle.file_rules.specs.Bytes.{number_of}
use Rattle.file_journal_bytes.proofs.Laws.{entry_is}
use borrow.Author.Rules.{rules}
use Rattle.file_journal_bytes.proofs.entry_from.Statement.{statement}
use Rattle.file_journal_bytes.proofs.entry_from.Tie as tie

shared-slice-read-size-of : tie.Need-bounds-b-at
shared-slice-read-size-of c = search rules

size-of-requires : tie.Need-size_of-kind-requires
size-of-requires c κs = search rules

add-get-little : tie.Need-overflow_add-at
add-get-little c = search rules

get-little-requires : tie.Need-get_little-row-requires
get-little-requires c κs = search rules

add-get-little-2 : tie.Need-overflow_add-at-2
add-get-little-2 c = search rules

get-little-requires-2 : tie.Need-get_little-column-requires
get-little-requires-2 c κs = search rules

add-get-little-3 : tie.Need-overflow_add-at-3
add-get-little-3 c = search rules

get-little-requires-3 : tie.Need-get_little-requires
get-little-requires-3 c κs = search rules

number-of-requires : tie.Need-number_of-old-requires
number-of-requires c κs = search rules

add-get-little-4 : tie.Need-overflow_add-at-4
add-get-little-4 c = search rules

get-little-requires-4 : tie.Need-get_little-requires-2
get-little-requires-4 c κs = search rules

number-of-requires-2 : tie.Need-number_of-new-requires
number-of-requires-2 c κs = search rules

add-size-of : tie.Need-overflow_add-at-5
add-size-of c = search rules

shared-slice-read-size-of-2 : tie.Need-bounds-b-at-2
shared-slice-read-size-of-2 c = search rules

size-of-requires-2 : tie.Need-size_of-before-requires
size-of-requires-2 c κs = search rules

returns : tie.Need-returns
returns c =
    let b = c.args.b.now in
    entry_is b c.args.at _ c.size_of-kind.ensures.0 c.get_little-row.ensures c.get_little-column.ensures
    (result c.number_of-old.result c.number_of-old.type_inv ∙ c.number_of-old.ensures ∙ ap number_of c.get_little.ensures)
    (result c.number_of-new.result c.number_of-new.type_inv ∙ c.number_of-new.ensures ∙ ap number_of c.get_little-2.ensures)
    c.size_of-before.ensures.0

pub entry_from_spec : {M : Type 1} → statement M
entry_from_spec =
    tie.close
    (tie.spec
    shared-slice-read-size-of
    size-of-requires
    add-get-little
    get-little-requires
    add-get-little-2
    get-little-requires-2
    add-get-little-3
    get-little-requires-3
    number-of-requires
    add-get-little-4
    get-little-requires-4
    number-of-requires-2
    add-size-of
    shared-slice-read-size-of-2
    size-of-requires-2
    returns)
