-- After k turns the step is the definition's, and the rows so far are sound. Assumes nothing.
use mathlib.Core.Path.{◌≡◌}
use mathlib.Core.Bool.{true}
use mathlib.Core.List.{[]}
use Rattle.doubles.specs.Loop.{run, all}
use Rattle.sparse.specs.Scattered.{sv}
use Rattle.rules.specs.Parts.{bounded}
use Rattle.rules.specs.Ratio.{sound_at, pass_one_turn}
use Rattle.step_ratio.specs.Lent.{basic_of}
use Rattle.step_ratio.proofs.pass_one.Given as goal

abbrev pub invariant-loop-r : goal.invariant-loop-r
invariant-loop-r l =
    let P = bounded l.n l.lowers l.uppers l.ops l.kept in
    let w = basic_of l.basic_vars l.basic_var_vals in
    let column = sv l.values [] l.list l.count in
    record {
      sound : all l.r-index (sound_at P w l.up column) ≡ true;
      so_far : l.step ≡ run (pass_one_turn P w l.up column) l.r-index l.initial.step;
    }
