-- `sheet_change_totals::totals_now` meets its contract. Assumes nothing.
use borrow.Author.Rules.{rules}
use Rattle.sheet_change_totals.specs.Parts.{totals_now}
use Rattle.sheet_change_totals.proofs.totals_now.Statement.{statement}
use Rattle.sheet_change_totals.proofs.totals_now.Tie as tie

shared-slice-copy-out-t5 : tie.Need-bounds-c-0
shared-slice-copy-out-t5 c = search rules

shared-slice-copy-out-t7 : tie.Need-bounds-b-0
shared-slice-copy-out-t7 c = search rules

shared-slice-copy-out-t9 : tie.Need-bounds-counts-0
shared-slice-copy-out-t9 c = search rules

shared-slice-copy-out-t11 : tie.Need-bounds-counts-1
shared-slice-copy-out-t11 c = search rules

shared-slice-copy-out-t13 : tie.Need-bounds-counts-2
shared-slice-copy-out-t13 c = search rules

shared-slice-copy-out-t15 : tie.Need-bounds-counts-3
shared-slice-copy-out-t15 c = search rules

returns : tie.Need-returns
unfolding totals_now
returns c = search rules

pub totals_now_spec : {M : Type 1} → statement M
totals_now_spec =
    tie.close
    (tie.spec
    shared-slice-copy-out-t5
    shared-slice-copy-out-t7
    shared-slice-copy-out-t9
    shared-slice-copy-out-t11
    shared-slice-copy-out-t13
    shared-slice-copy-out-t15
    returns)
