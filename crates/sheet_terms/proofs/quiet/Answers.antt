-- `sheet_terms::quiet` meets its contract. Assumes nothing.
use Rattle.std.proofs.Common.{◌+◌, add-one, refl}
use native.Mathlib.Omega.{arith}
use Rattle.doubles.specs.Loop.{all}
use Rattle.sheet_rules.specs.Sum.{◌‼◌}
use Rattle.sheet_terms.proofs.Word.{zero_more}
use Rattle.sheet_terms.proofs.quiet.Goals as goal

pub loop-k-init : goal.loop-k-init
unfolding all
loop-k-init c = refl

pub loop-k-preserved : goal.loop-k-preserved
unfolding all
loop-k-preserved c =
    let more = zero_more c.loop-k.bits-bits (c.args.row.now ‼ (c.args.j + c.loop-k.k)) c.loop-k.auto.bits (record { sfits = omega arith }) in
    rw (add-one, more, c.loop-k.invariant)
