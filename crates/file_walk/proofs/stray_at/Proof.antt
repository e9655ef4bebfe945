-- `file_walk::stray_at` meets its contract. Assumes nothing.
use mathlib.Core.Path.{ap, ◌∙◌}
use mathlib.Core.List.{List}
use Prim.Native.Nat.{ℕ}
use native.Mathlib.Omega.{arith}
use borrow.Author.Rules.{rules}
use Rattle.file_rules.specs.Block.{stray_refusal}
use Rattle.file_rules.specs.PlanFile.{plan_kind}
use Rattle.file_block.proofs.Laws.{stray_cut}
use Rattle.file_walk.proofs.Laws.{cut_short, whole_part}
use Rattle.file_walk.proofs.stray_at.Statement.{statement}
use Rattle.file_walk.proofs.stray_at.Tie as tie

mul-start : tie.Need-overflow_mul-start
mul-start c = search rules

add-end : tie.Need-overflow_add-end
add-end c = search rules

returns : tie.Need-returns-then-file-end
returns c = let s : tie.Start = search in stray_cut plan_kind _ (cut_short s.args.file.now s.args.place (omega arith))

sub-check-stray : tie.Need-slice_bounds-check_stray-count
sub-check-stray c = search rules

part-check-stray-start : tie.Need-slice_bounds-check_stray-start
part-check-stray-start c = search rules

part-check-stray-end : tie.Need-slice_bounds-check_stray-end
part-check-stray-end c = search rules

check-stray-requires : tie.Need-check_stray-requires
check-stray-requires c κs = search rules

returns-2 : tie.Need-returns
returns-2 c = let s : tie.Start = search in c.check_stray.ensures ∙ ap (λ (b : List ℕ). stray_refusal plan_kind b) (whole_part s.args.file.now s.args.place)

pub stray_at_spec : {M : Type 1} → statement M
stray_at_spec =
    tie.close
    (tie.spec
    mul-start
    add-end
    returns
    sub-check-stray
    part-check-stray-start
    part-check-stray-end
    check-stray-requires
    returns-2)
