-- `step_choose::may_enter`: the definition's own test. Assumes nothing.
use borrow.Author.Rules.{rules}
use Rattle.rules.specs.Choose.{may_enter}
use Rattle.step_choose.proofs.may_enter.Statement.{statement}
use Rattle.step_choose.proofs.may_enter.Tie as tie

under-eps-requires : tie.Need-under_eps-requires
under-eps-requires c κs = search rules

returns : tie.Need-returns
unfolding may_enter
returns c = rw c.under_eps.ensures

pub may_enter_spec : {M : Type 1} → statement M
may_enter_spec = tie.close (tie.spec under-eps-requires returns)
