-- `file_walk::block_at` meets its contract. Assumes nothing.
use mathlib.Core.Path.{ap, ◌∙◌}
use mathlib.Core.List.{List}
use Prim.Native.Nat.{ℕ}
use native.Mathlib.Omega.{arith}
use borrow.Author.Rules.{rules}
use Rattle.file_rules.specs.Block.{slot, block_refusal}
use Rattle.file_rules.specs.PlanFile.{plan_kind}
use Rattle.file_block.proofs.Laws.{says_cut}
use Rattle.file_walk.proofs.Laws.{cut_short, whole_part}
use Rattle.file_walk.proofs.block_at.Statement.{statement}
use Rattle.file_walk.proofs.block_at.Tie as tie

mul-start : tie.Need-overflow_mul-start
mul-start c = search rules

add-end : tie.Need-overflow_add-end
add-end c = search rules

returns : tie.Need-returns-then-file-end
returns c = let s : tie.Start = search in says_cut plan_kind _ _ _ (cut_short s.args.file.now s.args.place (omega arith))

sub-check-block : tie.Need-slice_bounds-check_block-count
sub-check-block c = search rules

part-check-block-start : tie.Need-slice_bounds-check_block-start
part-check-block-start c = search rules

part-check-block-end : tie.Need-slice_bounds-check_block-end
part-check-block-end c = search rules

check-block-requires : tie.Need-check_block-requires
check-block-requires c κs = search rules

returns-2 : tie.Need-returns
returns-2 c = let s : tie.Start = search in c.check_block.ensures ∙ ap (λ (b : List ℕ). block_refusal plan_kind (slot s.args.kind s.args.used) s.args.place b) (whole_part s.args.file.now s.args.place)

pub block_at_spec : {M : Type 1} → statement M
block_at_spec =
    tie.close
    (tie.spec
    mul-start
    add-end
    returns
    sub-check-block
    part-check-block-start
    part-check-block-end
    check-block-requires
    returns-2)
