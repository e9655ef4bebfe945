-- `check_close::write_kept` meets its contract. Assumes nothing.
use Rattle.std.proofs.Common.{refl, ap, ◌∙◌, List, ℕ, arith}
use Rattle.doubles.specs.Lists.{over}
use Rattle.doubles.proofs.Loops.{filled_none, filled_more, filled_done}
use Rattle.check_close.proofs.Laws.{table_whole}
use Rattle.check_close.proofs.write_kept.Goals as goal

pub loop-r-init : goal.loop-r-init
loop-r-init c = filled_none

pub loop-r-preserved : goal.loop-r-preserved
loop-r-preserved c = filled_more c.loop-r.invariant (omega arith) refl

pub returns : goal.returns
returns c =
    filled_done _ c.loop-r.auto.r-end c.loop-r-test.false c.loop-r.invariant
    ∙ ap (λ (l : List ℕ). over l c.args.to.now) (table_whole c.args.kept.now)
