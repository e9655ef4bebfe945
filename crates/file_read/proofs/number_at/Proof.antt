-- `file_read::number_at` meets its contract. Assumes nothing.
use mathlib.Core.Path.{ap, ◌∙◌}
use borrow.Author.Rules.{rules}
use Rattle.sheet_terms.proofs.Machine.{result}
use Rattle.file_rules.specs.Bytes.{number_of}
use Rattle.file_read.proofs.number_at.Statement.{statement}
use Rattle.file_read.proofs.number_at.Tie as tie

mul-j : tie.Need-overflow_mul-j
mul-j c = search rules

add-get-little : tie.Need-overflow_add-place
add-get-little c = search rules

mul-get-little : tie.Need-overflow_mul-place
mul-get-little c = search rules

add-get-little-2 : tie.Need-overflow_add-place-2
add-get-little-2 c = search rules

add-get-little-3 : tie.Need-overflow_add-place-3
add-get-little-3 c = search rules

get-little-requires : tie.Need-get_little-requires
get-little-requires c κs = search rules

number-of-requires : tie.Need-number_of-requires
number-of-requires c κs = search rules

returns : tie.Need-returns
returns c = let g : tie.After-get_little = search in result c.number_of.result c.number_of.type_inv ∙ c.number_of.ensures ∙ ap number_of g.get_little.ensures

pub number_at_spec : {M : Type 1} → statement M
number_at_spec =
    tie.close
    (tie.spec
    mul-j
    add-get-little
    mul-get-little
    add-get-little-2
    add-get-little-3
    get-little-requires
    number-of-requires
    returns)
