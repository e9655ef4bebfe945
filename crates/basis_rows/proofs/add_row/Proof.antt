-- `basis_rows::add_row` meets its contract: the row is a part of the plan's entries, and its columns have cells. Assumes nothing.
use borrow.Author.Rules.{rules}
use mathlib.Core.Path.{sym, subst}
use lib.ListN.{length}
use Rattle.sparse.specs.Scattered.{Good}
use Rattle.rules.specs.Basis.{add_row}
use Rattle.plan.proofs.Kept.{row_read}
use Rattle.basis_rows.proofs.Laws.{good_adding}
use Rattle.basis_rows.proofs.add_row.Statement.{statement}
use Rattle.basis_rows.proofs.add_row.Tie as tie

mul-i : tie.Need-offset_bounds-kept-r
mul-i c = search rules

shared-slice-read-i : tie.Need-bounds-kept-r
shared-slice-read-i c = search rules

row-cols-requires : tie.Need-row_cols-row_cols-requires
row-cols-requires c κs = search rules

row-coeffs-requires : tie.Need-row_coeffs-row_coeffs-requires
row-coeffs-requires c κs = search rules

add-entries-requires : tie.Need-add_entries-c-requires
add-entries-requires c κs =
    let s : tie.Start = search in
    let a : tie.After-row_cols-row_cols = search in
    let b : tie.After-row_coeffs-row_coeffs = search in
    (s.requires.0, rw (a.row_cols-row_cols.ensures, b.row_coeffs-row_coeffs.ensures) (row_read _ _ _ s.requires.1.reads))

add-add-entry : tie.Need-overflow_add-n
add-add-entry c = search rules

add-entry-requires : tie.Need-add_entry-requires
add-entry-requires c κs =
    let s : tie.Start = search in
    let a : tie.After-row_cols-row_cols = search in
    let b : tie.After-row_coeffs-row_coeffs = search in
    let d : tie.After-add_entries-c = search in
    let cols = a.row_cols-row_cols.result.now in
    let g = good_adding _ s.requires.0.1 _ cols b.row_coeffs-row_coeffs.result.now s.args.y _ s.requires.0.0 (length cols) in
    (subst (Good _) (sym d.add_entries-c.ensures.0) g, s.requires.0.1, d.add_entries-c.ensures.1, s.requires.1.slack)

returns : tie.Need-returns
unfolding add_row
returns c =
    let a : tie.After-row_cols-row_cols = search in
    let b : tie.After-row_coeffs-row_coeffs = search in
    let d : tie.After-add_entries-c = search in
    let e = c.add_entry.ensures in
    (rw (e.0, d.add_entries-c.ensures.0, a.row_cols-row_cols.ensures, b.row_coeffs-row_coeffs.ensures), e.1)

pub add_row_spec : {M : Type 1} → statement M
add_row_spec =
    tie.close
    (tie.spec
    mul-i
    shared-slice-read-i
    row-cols-requires
    row-coeffs-requires
    add-entries-requires
    add-add-entry
    add-entry-requires
    returns)
