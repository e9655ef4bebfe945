-- `sheet_terms::lacks` meets its contract. Assumes nothing.
use Rattle.sheet_rules.specs.Sheet.{lacks_by, lacks}
use Rattle.sheet_terms.proofs.Machine.{of_word}
use Rattle.sheet_terms.proofs.lacks.Statement.{statement}
use Rattle.sheet_terms.proofs.lacks.Tie as tie

returns : tie.Need-returns-then-d-gt0
unfolding lacks lacks_by
returns c = rw (← of_word c.ranges.d, c.if-d-gt0.true)

returns-2 : tie.Need-returns-then-d-lt0
unfolding lacks lacks_by
returns-2 c = rw (← of_word c.ranges.d, c.if-d-gt0.false, c.if-d-lt0.true)

returns-3 : tie.Need-returns
unfolding lacks lacks_by
returns-3 c = rw (← of_word c.ranges.d, c.if-d-gt0.false, c.if-d-lt0.false)

pub lacks_spec : {M : Type 1} → statement M
lacks_spec = tie.close (tie.spec returns returns-2 returns-3)
