-- `night_run::memory_long`: every length. Assumes nothing.
use mathlib.Core.Path.{refl}
use Rattle.night_rules.specs.Night.{memory_long}
use borrow.Author.Rules.{rules}
use Rattle.night_run.proofs.memory_long.Statement.{statement}
use Rattle.night_run.proofs.memory_long.Tie as tie

add-count : tie.Need-overflow_add-count
add-count c = search rules

add-count-2 : tie.Need-overflow_add-count-2
add-count-2 c = search rules

returns : tie.Need-returns
unfolding memory_long
returns c = refl

pub memory_long_spec : {M : Type 1} → statement M
memory_long_spec = tie.close (tie.spec add-count add-count-2 returns)
