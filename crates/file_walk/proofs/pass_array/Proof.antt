-- `file_walk::pass_array` meets its contract. The invariant: the blocks that are left, passed from here, give the whole. Assumes nothing.
use mathlib.Core.Path.{◌≡◌, refl, sym, ap, ◌∙◌}
use Prim.Native.Nat.{◌+◌, ◌-◌, ◌/◌, ◌≤◌}
use native.Mathlib.Omega.{arith}
use borrow.Author.Rules.{rules}
use Rattle.doubles.specs.Loop.{each}
use Rattle.file_rules.specs.Block.{slot}
use Rattle.file_rules.specs.PlanFile.{array}
use Rattle.file_walk.specs.Stop.{turn}
use Rattle.file_walk.specs.declared.Stop.{Stop}
use Rattle.file_walk.proofs.Laws.{array_turn, array_done, turn_place}
use Rattle.file_walk.proofs.pass_array.Statement.{statement}
use Rattle.file_walk.proofs.pass_array.Tie as tie

abbrev invariant-loop : tie.invariant-loop-left
invariant-loop file kind bytes left₀ at₀ left at = (left ≤ bytes) × (at.place + (left + 503) / 504 ≤ 65536) × (each (array kind left) (turn file) at ≡ each (array kind bytes) (turn file) at₀)

abbrev decreases-loop : tie.decreases-loop-left
decreases-loop file kind bytes left₀ at₀ left at = left

loop-holds : tie.Need-loop-left-init invariant-loop decreases-loop
loop-holds c = (omega arith, omega arith, refl)

least-requires : tie.Need-least-count-requires invariant-loop decreases-loop
least-requires c κs = search rules

pass-block-requires : tie.Need-pass_block-at-requires invariant-loop decreases-loop
pass-block-requires c κs = search rules

sub-left : tie.Need-overflow_sub-left invariant-loop decreases-loop
sub-left c = search rules

loop-less : tie.Need-loop-left-smaller invariant-loop decreases-loop
loop-less c = search rules

loop-again : tie.Need-loop-left-preserved invariant-loop decreases-loop
loop-again c =
    let s : tie.Start invariant-loop decreases-loop = search in
    let t : tie.At-loop-left invariant-loop decreases-loop = search in
    let n : tie.After-least-count invariant-loop decreases-loop = search in
    let h : c.pass_block-at.result.place ≤ t.loop-left.at.place + 1 = rw c.pass_block-at.ensures (omega (arith, turn_place s.args.file.now (slot s.args.kind n.least-count.result) t.loop-left.at.number t.loop-left.at.place)) in (
      omega arith,
      omega (arith, h),
      ap (λ (r : Stop). each (array s.args.kind (t.loop-left.left - n.least-count.result)) (turn s.args.file.now) r) c.pass_block-at.ensures
          ∙ sym (array_turn s.args.file.now s.args.kind t.loop-left.left n.least-count.result t.loop-left.at (omega arith) n.least-count.ensures)
          ∙ t.loop-left.invariant.2,
    )

returns : tie.Need-returns invariant-loop decreases-loop
returns c = let t : tie.At-loop-left invariant-loop decreases-loop = search in sym (array_done _ _ _ _ (omega arith)) ∙ t.loop-left.invariant.2

pub pass_array_spec : {M : Type 1} → statement M
pass_array_spec =
    tie.close
    (tie.spec
    invariant-loop
    decreases-loop
    loop-holds
    least-requires
    pass-block-requires
    sub-left
    loop-less
    loop-again
    returns)
