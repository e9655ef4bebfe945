-- `sheet_tests::numbers_fine` meets its contract. Assumes nothing.
use borrow.Author.Rules.{rules}
use Rattle.sheet_rules.specs.Opening.{numbers_fine}
use Rattle.sheet_tests.proofs.numbers_fine.Statement.{statement}
use Rattle.sheet_tests.proofs.numbers_fine.Tie as tie

mul-all-within : tie.Need-overflow_mul-rows
mul-all-within c = search rules

all-within-requires : tie.Need-all_within-requires
all-within-requires c κs = search rules

arrays-fine-requires : tie.Need-arrays_fine-requires
arrays-fine-requires c κs = search rules

returns : tie.Need-returns
unfolding numbers_fine
returns c = rw (c.all_within.ensures, c.arrays_fine.ensures)

pub numbers_fine_spec : {M : Type 1} → statement M
numbers_fine_spec =
    tie.close (tie.spec mul-all-within all-within-requires arrays-fine-requires returns)
