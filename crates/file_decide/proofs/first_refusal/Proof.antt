-- `file_decide::first_refusal` meets its contract. Assumes nothing.
use mathlib.Core.Path.{◌≡◌}
use native.Mathlib.Omega.{arith}
use lib.ListN.{length-take}
use borrow.Author.Rules.{rules}
use Rattle.file_rules.specs.PlanFile.{plan_kind}
use Rattle.file_block.proofs.Laws.{says_cut}
use Rattle.file_decide.proofs.first_refusal.Statement.{statement}
use Rattle.file_decide.proofs.first_refusal.Tie as tie

returns : tie.Need-returns-then-file-lt512
returns c = says_cut plan_kind _ _ _ (rw length-take (omega arith))

sub-check-block : tie.Need-slice_bounds-check_block-count
sub-check-block c = search rules

part-check-block-start : tie.Need-slice_bounds-check_block-start
part-check-block-start c = search rules

part-check-block-end : tie.Need-slice_bounds-check_block-end
part-check-block-end c = search rules

check-block-requires : tie.Need-check_block-requires
check-block-requires c κs = search rules

returns-2 : tie.Need-returns
returns-2 c = search rules

pub first_refusal_spec : {M : Type 1} → statement M
first_refusal_spec =
    tie.close
    (tie.spec
    returns
    sub-check-block
    part-check-block-start
    part-check-block-end
    check-block-requires
    returns-2)
