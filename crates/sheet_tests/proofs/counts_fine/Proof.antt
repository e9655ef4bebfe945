-- `sheet_tests::counts_fine` meets its contract. Assumes nothing.
use borrow.Author.Rules.{rules}
use Rattle.sheet_rules.specs.Verdict.{counts_fine}
use Rattle.sheet_terms.proofs.Machine.{result}
use Rattle.sheet_tests.proofs.counts_fine.Statement.{statement}
use Rattle.sheet_tests.proofs.counts_fine.Tie as tie

shared-slice-copy-out-count-fine : tie.Need-bounds-counts-0
shared-slice-copy-out-count-fine c = search rules

count-fine-requires : tie.Need-count_fine-requires
count-fine-requires c κs = search rules

shared-slice-copy-out-count-fine-2 : tie.Need-bounds-counts-1
shared-slice-copy-out-count-fine-2 c = search rules

count-fine-requires-2 : tie.Need-count_fine-requires-2
count-fine-requires-2 c κs = search rules

shared-slice-copy-out-count-fine-3 : tie.Need-bounds-counts-2
shared-slice-copy-out-count-fine-3 c = search rules

count-fine-requires-3 : tie.Need-count_fine-requires-3
count-fine-requires-3 c κs = search rules

shared-slice-copy-out-count-fine-4 : tie.Need-bounds-counts-3
shared-slice-copy-out-count-fine-4 c = search rules

count-fine-requires-4 : tie.Need-count_fine-requires-4
count-fine-requires-4 c κs = search rules

returns : tie.Need-returns
unfolding counts_fine
returns c =
    let at-count-fine-arg3 : tie.After-count_fine-arg-3-1 = search in
    let at-count-fine2 : tie.After-count_fine-2 = search in
    let at-count-fine-arg2 : tie.After-count_fine-arg-2-1 = search in
    let at-count-fine : tie.After-count_fine = search in
    let at-count-fine-arg : tie.After-count_fine-arg-1 = search in
    rw (
      at-count-fine.count_fine.ensures,
      at-count-fine2.count_fine-2.ensures,
      c.count_fine-3.ensures,
      c.count_fine-4.ensures,
      result _ at-count-fine-arg.count_fine-arg-1.given,
      result _ at-count-fine-arg2.count_fine-arg-2-1.given,
      result _ at-count-fine-arg3.count_fine-arg-3-1.given,
      result _ c.count_fine-arg-4-1.given,
    )

pub counts_fine_spec : {M : Type 1} → statement M
counts_fine_spec =
    tie.close
    (tie.spec
    shared-slice-copy-out-count-fine
    count-fine-requires
    shared-slice-copy-out-count-fine-2
    count-fine-requires-2
    shared-slice-copy-out-count-fine-3
    count-fine-requires-3
    shared-slice-copy-out-count-fine-4
    count-fine-requires-4
    returns)
