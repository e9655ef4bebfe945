-- `sheet_tests::kept_fine` meets its contract. Assumes nothing.
use borrow.Author.Rules.{rules}
use Rattle.sheet_rules.specs.Verdict.{kept_fine, counts_fine}
use Rattle.sheet_tests.proofs.kept_fine.Statement.{statement}
use Rattle.sheet_tests.proofs.kept_fine.Tie as tie

all-within-requires : tie.Need-all_within-requires
all-within-requires c κs = search rules

all-within-requires-2 : tie.Need-all_within-requires-2
all-within-requires-2 c κs = search rules

all-within-requires-3 : tie.Need-all_within-requires-3
all-within-requires-3 c κs = search rules

all-within-requires-4 : tie.Need-all_within-requires-4
all-within-requires-4 c κs = search rules

counts-fine-requires : tie.Need-counts_fine-requires
counts-fine-requires c κs = search rules

returns : tie.Need-returns
unfolding kept_fine counts_fine
returns c =
    let at-all-within2 : tie.After-all_within-2 = search in
    let at-all-within : tie.After-all_within = search in
    rw (at-all-within.all_within.ensures, at-all-within2.all_within-2.ensures, c.all_within-3.ensures, c.all_within-4.ensures, c.counts_fine.ensures)

pub kept_fine_spec : {M : Type 1} → statement M
kept_fine_spec =
    tie.close
    (tie.spec
    all-within-requires
    all-within-requires-2
    all-within-requires-3
    all-within-requires-4
    counts-fine-requires
    returns)
