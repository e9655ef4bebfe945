-- `file_bytes::block_sum` meets its contract. Assumes nothing.
use Rattle.std.proofs.Common.{◌≡◌, refl, ap₂, ◌∙◌, ◌+◌, ◌*◌, ◌≤◌, ℕ, length, take, arith}
use lib.Seq.{get_or-take, length-take-le}
use Rattle.doubles.specs.Lists.{◌#◌}
use Rattle.file_rules.specs.Block.{weigh}
use Rattle.file_bytes.proofs.Laws.{weigh_next, term_small}
use Rattle.file_bytes.proofs.block_sum.Goals as goal

module _ (c : goal.After-wide) where
  size : length (take 508 c.args.b.now) ≡ 508
  size = length-take-le 508 c.args.b.now (omega arith)

  byte : c.wide.result ≡ c.args.b.now # c.loop-i.i
  byte = c.wide.ensures ∙ get_or-take 508 c.args.b.now c.loop-i.i 0 (omega (arith, size))

  small : (c.loop-i.i + 1) * c.wide.result ≤ 129540
  small = term_small c.loop-i.i c.wide.result (omega (arith, size)) (omega (arith, byte, c.type_inv.b c.loop-i.i))

pub loop-i-init : goal.loop-i-init
unfolding weigh
loop-i-init c = (refl, omega arith)

pub overflow_mul-sum : goal.overflow_mul-sum
overflow_mul-sum c = omega (arith, small c)

pub overflow_add-sum-in-loop-i : goal.overflow_add-sum-in-loop-i
overflow_add-sum-in-loop-i c = omega (arith, small c, size c)

pub loop-i-preserved : goal.loop-i-preserved
loop-i-preserved c = (ap₂ (λ (x y : ℕ). x + (c.loop-i.i + 1) * y) c.loop-i.invariant.0 (byte c) ∙ weigh_next c.args.b.now c.loop-i.i (omega (arith, size c)), omega (arith, small c))

pub returns : goal.returns
returns c =
    let size : length (take 508 c.args.b.now) ≡ 508 = length-take-le 508 c.args.b.now (omega arith) in
    let e : c.loop-i.i ≡ 508 = omega arith in
    rw e at c.loop-i.invariant.0
