-- `check_final::worst` meets its contract. Assumes nothing.
use mathlib.Core.Path.{refl, ap, ◌∙◌}
use Rattle.doubles.specs.Loop.{run}
use Rattle.doubles.proofs.Loops.{next, done}
use Rattle.rules.specs.FinalCheck.{worst_turn, worst}
use Rattle.check_final.specs.Lent.{worse_of}
use Rattle.check_final.proofs.worst.Goals as goal

pub loop-k-init : goal.loop-k-init
unfolding run
loop-k-init c = refl

pub loop-k-preserved : goal.loop-k-preserved
unfolding worst_turn worse_of
loop-k-preserved c =
    next _ _ c.loop-k.k c.loop-k.invariant (c.worse-w.ensures ∙ ap (λ x. worse_of c.loop-k.k x c.loop-k.w) c.excess_at.ensures)

pub returns : goal.returns
unfolding worst
returns c = done _ _ _ _ c.loop-k.auto.k-end c.loop-k-test.false c.loop-k.invariant
