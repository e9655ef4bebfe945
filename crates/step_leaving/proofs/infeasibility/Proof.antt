-- `step_leaving::infeasibility`: by its test. Assumes nothing.
use mathlib.Core.Path.{sym, ◌∙◌}
use borrow.Author.Rules.{rules}
use Rattle.rules.specs.DualRow.{infeasibility_of}
use Rattle.step_leaving.proofs.infeasibility.Statement.{statement}
use Rattle.step_leaving.proofs.infeasibility.Tie as tie

too-low-requires : tie.Need-too_low-requires
too-low-requires c κs = search rules

returns : tie.Need-returns-then-too_low
unfolding infeasibility_of
returns c = rw (sym c.too_low.ensures ∙ c.if-too_low.true, infeasibility_of)

returns-2 : tie.Need-returns
unfolding infeasibility_of
returns-2 c = rw (sym c.too_low.ensures ∙ c.if-too_low.false, infeasibility_of)

pub infeasibility_spec : {M : Type 1} → statement M
infeasibility_spec = tie.close (tie.spec too-low-requires returns returns-2)
