-- After k turns the row is the definition's after k turns. Assumes nothing.
use mathlib.Core.Path.{◌≡◌}
use mathlib.Core.List.{[]}
use Rattle.doubles.specs.Num as Num
use Rattle.doubles.specs.Loop.{run}
use Rattle.sparse.specs.Scattered.{sv}
use Rattle.rules.specs.Parts.{bounded}
use Rattle.rules.specs.Ratio.{leaving_of, pass_two_turn}
use Rattle.step_ratio.specs.Lent.{basic_of}
use Rattle.step_ratio.proofs.pass_two.Given as goal

abbrev pub invariant-loop-k : goal.invariant-loop-k
invariant-loop-k l =
    let P = bounded l.n l.lowers l.uppers l.ops l.kept in
    let w = basic_of l.basic_vars l.basic_var_vals in
    leaving_of l.at l.best ≡ run (pass_two_turn P w l.up (sv l.values [] l.list l.count) l.max_step) l.k (leaving_of l.count Num.-inf)
