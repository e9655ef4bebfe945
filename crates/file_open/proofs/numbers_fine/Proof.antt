-- `file_open::numbers_fine` meets its contract. Assumes nothing.
use mathlib.Core.Path.{◌≡◌}
use mathlib.Core.Bool.{◌&&◌}
use borrow.Author.Rules.{rules}
use Rattle.sheet_rules.specs.Opening.{numbers_fine, arrays_fine}
use Rattle.file_open.specs.Places.{plan_at}
use Rattle.file_open.proofs.Laws.{within_table}
use Rattle.file_open.proofs.numbers_fine.Statement.{statement}
use Rattle.file_open.proofs.numbers_fine.Tie as tie

mul-all-within : tie.Need-overflow_mul-rows
mul-all-within c = search rules

all-within-requires : tie.Need-all_within-requires
all-within-requires c κs = search rules

arrays-fine-requires : tie.Need-arrays_fine-requires
arrays-fine-requires c κs = search rules

returns : tie.Need-returns
unfolding numbers_fine plan_at
returns c = let a : tie.After-all_within = search in rw (a.all_within.ensures, c.arrays_fine.ensures) (simp within_table)

pub numbers_fine_spec : {M : Type 1} → statement M
numbers_fine_spec =
    tie.close (tie.spec mul-all-within all-within-requires arrays-fine-requires returns)
