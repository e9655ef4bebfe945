-- `cells::pack_flags`: the definition's own sum, of bits. Assumes nothing.
use borrow.Author.Rules.{rules}
use Rattle.rules.specs.Plan.{flags_cell}
use Rattle.cells.proofs.pack_flags.Statement.{statement}
use Rattle.cells.proofs.pack_flags.Tie as tie

bit-requires : tie.Need-bit-at_min-requires
bit-requires c κs = search rules

bit-requires-2 : tie.Need-bit-at_max-requires
bit-requires-2 c κs = search rules

bit-requires-3 : tie.Need-bit-fixed-requires
bit-requires-3 c κs = search rules

mul-result : tie.Need-overflow_mul-result
mul-result c = search rules

add-result : tie.Need-overflow_add-result
add-result c = search rules

mul-result-2 : tie.Need-overflow_mul-result-2
mul-result-2 c = search rules

add-result-2 : tie.Need-overflow_add-result-2
add-result-2 c = search rules

returns : tie.Need-returns
unfolding flags_cell
returns c = search rules

pub pack_flags_spec : {M : Type 1} → statement M
pack_flags_spec =
    tie.close
    (tie.spec
    bit-requires
    bit-requires-2
    bit-requires-3
    mul-result
    add-result
    mul-result-2
    add-result-2
    returns)
