-- After k turns the step is the definition's, and the columns so far are sound. Assumes nothing.
use mathlib.Core.Path.{◌≡◌}
use mathlib.Core.Bool.{true}
use mathlib.Core.List.{[]}
use Rattle.doubles.specs.Num as Num
use Rattle.doubles.specs.Loop.{run, all}
use Rattle.sparse.specs.Scattered.{sv}
use Rattle.rules.specs.DualRatio.{test_by, dual_sound_at, dual_pass_one_turn}
use Rattle.step_prices.specs.Lent.{priced_of}
use Rattle.step_prices.proofs.pass_one.Given as goal

abbrev pub invariant-loop-c : goal.invariant-loop-c
invariant-loop-c l =
    let w = priced_of l.prices l.flags in
    let test = test_by l.still l.up in
    let row = sv l.values [] l.list l.count in
    record {
      sound : all l.c-index (dual_sound_at w test row) ≡ true;
      so_far : l.step ≡ run (dual_pass_one_turn w test row) l.c-index Num.+inf;
    }
