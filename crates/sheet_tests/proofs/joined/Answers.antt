-- `sheet_tests::joined` meets its contract. Assumes nothing.
use Rattle.std.proofs.Common.{refl}
use mathlib.Core.Path.{ap, ◌∙◌}
use native.Mathlib.Omega.{arith}
use lib.Bits.{bit_or}
use lib.Signed.{mag}
use Rattle.doubles.specs.Loop.{run}
use Rattle.doubles.proofs.Loops.{next}
use Rattle.doubles.proofs.Items.{done_items}
use Rattle.sheet_terms.proofs.Machine.{result_item}
use Rattle.sheet_tests.specs.Joined.{joined}
use Rattle.sheet_tests.proofs.joined.Goals as goal

pub loop-x-init : goal.loop-x-init
unfolding run
loop-x-init c = refl

pub loop-x-preserved : goal.loop-x-preserved
loop-x-preserved c =
    let own = result_item c.args.n c.args.xs.now (omega arith) c.loop-x-test.true (omega arith) in
    next _ _ _ c.loop-x.invariant (ap (bit_or c.loop-x.bits) (c.depth-bits.ensures ∙ ap mag own))

pub returns : goal.returns
unfolding joined
returns c = done_items _ c.args.xs.now _ _ c.loop-x.x-index (omega arith) c.loop-x.auto.x-index-end c.loop-x-test.false c.loop-x.invariant
