-- `sheet_change_totals::column_at` meets its contract. Assumes nothing.
use borrow.Author.Rules.{rules}
use Rattle.sheet_change_totals.specs.Parts.{column_at}
use borrow.Author.Tests.{lt-ltb, le-ltb}
use Rattle.sheet_change_totals.proofs.column_at.Statement.{statement}
use Rattle.sheet_change_totals.proofs.column_at.Tie as tie

mul-t11 : tie.Need-offset_bounds-costs-j
mul-t11 c = search rules

shared-slice-copy-out-t13 : tie.Need-bounds-costs-j
shared-slice-copy-out-t13 c = search rules

mul-t14 : tie.Need-offset_bounds-lowers-j
mul-t14 c = search rules

shared-slice-copy-out-t16 : tie.Need-bounds-lowers-j
shared-slice-copy-out-t16 c = search rules

mul-t17 : tie.Need-offset_bounds-uppers-j
mul-t17 c = search rules

shared-slice-copy-out-t19 : tie.Need-bounds-uppers-j
shared-slice-copy-out-t19 c = search rules

shared-slice-read-t21 : tie.Need-bounds-lower_marks-j
shared-slice-read-t21 c = search rules

shared-slice-read-t23 : tie.Need-bounds-upper_marks-j
shared-slice-read-t23 c = search rules

mul-t24 : tie.Need-offset_bounds-amounts-j
mul-t24 c = search rules

shared-slice-copy-out-t26 : tie.Need-bounds-amounts-j
shared-slice-copy-out-t26 c = search rules

mul-t27 : tie.Need-offset_bounds-d-j
mul-t27 c = search rules

shared-slice-copy-out-t29 : tie.Need-bounds-d-j
shared-slice-copy-out-t29 c = search rules

returns : tie.Need-returns-then-j-columns
unfolding column_at
returns c = let s : tie.Start = search in let t : tie.Then-j-columns = search in rw (lt-ltb s.args.j s.args.columns t.if-j-columns.true) (search rules)

returns-2 : tie.Need-returns
unfolding column_at
returns-2 c = let s = c.before in rw (le-ltb s.args.j s.args.columns c.if-j-columns.false)

pub column_at_spec : {M : Type 1} → statement M
column_at_spec =
    tie.close
    (tie.spec
    mul-t11
    shared-slice-copy-out-t13
    mul-t14
    shared-slice-copy-out-t16
    mul-t17
    shared-slice-copy-out-t19
    shared-slice-read-t21
    shared-slice-read-t23
    mul-t24
    shared-slice-copy-out-t26
    mul-t27
    shared-slice-copy-out-t29
    returns
    returns-2)
