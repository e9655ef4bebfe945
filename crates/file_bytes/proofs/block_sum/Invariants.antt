-- The weighted sum of the bytes passed. Assumes nothing.
use Rattle.std.proofs.Common.{◌≡◌, ◌*◌, ◌≤◌, take}
use Rattle.file_rules.specs.Block.{weigh}
use Rattle.file_bytes.proofs.block_sum.Given as goal

abbrev pub invariant-loop-i : goal.invariant-loop-i
invariant-loop-i l = (l.sum ≡ weigh 1 (take l.i l.b)) × (l.sum ≤ 129540 * l.i)
