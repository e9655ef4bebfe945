-- `sheet_tests::bounds_fine` meets its contract. Assumes nothing.
use Rattle.std.proofs.Common.{refl}
use mathlib.Core.Path.{sym, ap, ◌∙◌}
use native.Mathlib.Omega.{arith}
use Rattle.doubles.specs.Lists.{◌#◌}
use Rattle.doubles.specs.Loop.{all}
use Rattle.doubles.proofs.Loops.{all_next, all_fails, all_done}
use Rattle.sheet_rules.specs.Sum.{◌‼◌}
use Rattle.sheet_rules.specs.Opening.{bound_fine, bounds_fine}
use Rattle.sheet_terms.proofs.Machine.{result}
use Rattle.sheet_tests.proofs.bounds_fine.Goals as goal

pub loop-i-init : goal.loop-i-init
unfolding all
loop-i-init c = refl

pub returns-then-not-bound_fine : goal.returns-then-not-bound_fine
unfolding bounds_fine
returns-then-not-bound_fine c =
    let own = c.bound_fine.ensures ∙ ap (bound_fine (c.args.marks.now # c.loop-i.i)) (result (c.args.xs.now ‼ c.loop-i.i) (omega arith)) in
    sym (all_fails _ _ c.loop-i.i c.loop-i-test.true (sym (own) ∙ c.if-not-bound_fine.true))

pub loop-i-preserved : goal.loop-i-preserved
loop-i-preserved c =
    let own = c.bound_fine.ensures ∙ ap (bound_fine (c.args.marks.now # c.loop-i.i)) (result (c.args.xs.now ‼ c.loop-i.i) (omega arith)) in
    all_next _ _ c.loop-i.invariant (sym (own) ∙ c.if-not-bound_fine.false)

pub returns : goal.returns
unfolding bounds_fine
returns c = sym (all_done _ _ _ c.loop-i.auto.i-end c.loop-i-test.false c.loop-i.invariant)
