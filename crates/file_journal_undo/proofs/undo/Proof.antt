-- `file_journal_undo::undo` meets its contract. Assumes nothing.
use mathlib.Core.Path.{refl}
use Prim.Native.Nat.{◌+◌, ◌-◌, ◌*◌, ◌/◌, ◌≤◌}
use native.Mathlib.Omega.{arith}
use lib.ListN.{length}
use Rattle.sheet_rules.specs.Sheet.{Sheet, plan_of, kept_of, sheet_of}
use Rattle.sheet_store_apply.proofs.Laws.{edited_so}
use Rattle.file_journal_decide.proofs.Laws.{last_in, some, passed_test, has_entry, back_accepted, undoes_new, undoes_old}
use Rattle.file_journal_undo.proofs.undo.Statement.{statement}
use Rattle.file_journal_undo.proofs.undo.Tie as tie

abbrev sheet : tie.Start → Sheet
sheet s =
    sheet_of
    (plan_of s.args.rows s.args.columns s.args.coefs.now s.args.costs.now s.args.lowers.now s.args.uppers.now s.args.lower_marks.now s.args.upper_marks.now s.args.rhs.now s.args.ops.now s.args.amounts.now s.args.mults.now)
    (kept_of s.args.r.now s.args.d.now s.args.c.now s.args.b.now s.args.counts.now)

-- the way back: from before a call, or from the end, to where the call or the test before it left off

abbrev start : tie.After-test-t → tie.Start
start c = search

abbrev tested : tie.After-undo_refusal-refusal → tie.After-test-t
tested c = search

abbrev answered : tie.After-entry_at-n → tie.Then-refusal-eq0
answered c = search

abbrev made : tie.After-apply_edit → tie.After-take_back-e
made c = search

abbrev applied-at : tie.After-pop → tie.After-apply_edit
applied-at c = search

abbrev popped-at : tie.After-slice_known-then-refusal-eq0-3-1 → tie.After-pop
popped-at c = search

-- an answer of 0: the journal has a last entry
last : (b : tie.Then-refusal-eq0) → let t = tested b.before in 512 * ((t.test-t.result.entries - 1) / 22) + 512 ≤ length t.args.journal.now
last b =
    let u = b.before in
    let t = tested u in
    let s = start t in
    last_in s.args.journal.now t.test-t.result t.test-t.ensures (passed_test (sheet s) s.args.journal.now t.test-t.result u.undo_refusal-refusal.result t.test-t.ensures u.undo_refusal-refusal.ensures b.if-refusal-eq0.true) (has_entry (sheet s) s.args.journal.now t.test-t.result u.undo_refusal-refusal.result t.test-t.ensures u.undo_refusal-refusal.ensures b.if-refusal-eq0.true)

test-requires : tie.Need-test-t-requires
test-requires c κs = tt

undo-refusal-requires : tie.Need-undo_refusal-refusal-requires
undo-refusal-requires c κs =
    c.test-t.ensures

sub-last : tie.Need-overflow_sub-last
sub-last c =
    let b : tie.Then-refusal-eq0 = search in
    let u = b.before in
    let t = tested u in
    let s = start t in
    omega (arith, some t.test-t.result.entries (has_entry (sheet s) s.args.journal.now t.test-t.result u.undo_refusal-refusal.result t.test-t.ensures u.undo_refusal-refusal.ensures b.if-refusal-eq0.true))

entry-at-requires : tie.Need-entry_at-n-requires
entry-at-requires c κs = last search

take-back-requires : tie.Need-take_back-e-requires
take-back-requires c κs = tt

apply-edit-requires : tie.Need-apply_edit-requires
apply-edit-requires c κs =
    let k : tie.After-take_back-e = search in
    let n = k.before in
    let b = answered n in
    let u = b.before in
    let t = tested u in
    let s = start t in
    edited_so (sheet s) k.take_back-e.result (back_accepted (sheet s) s.args.journal.now t.test-t.result u.undo_refusal-refusal.result t.test-t.ensures u.undo_refusal-refusal.ensures b.if-refusal-eq0.true n.entry_at-n.result k.take_back-e.result n.entry_at-n.ensures k.take_back-e.ensures)

pop-requires : tie.Need-pop-requires
pop-requires c κs =
    last search

same_length : tie.Need-shape_of-coefs-then-refusal-eq0
same_length c = c.apply_edit.auto.coefs

same-length-2 : tie.Need-shape_of-costs-then-refusal-eq0
same-length-2 c = c.apply_edit.auto.costs

same-length-3 : tie.Need-shape_of-lowers-then-refusal-eq0
same-length-3 c = c.apply_edit.auto.lowers

same-length-4 : tie.Need-shape_of-uppers-then-refusal-eq0
same-length-4 c = c.apply_edit.auto.uppers

same-length-5 : tie.Need-shape_of-lower_marks-then-refusal-eq0
same-length-5 c = c.apply_edit.auto.lower_marks

same-length-6 : tie.Need-shape_of-upper_marks-then-refusal-eq0
same-length-6 c = c.apply_edit.auto.upper_marks

same-length-7 : tie.Need-shape_of-rhs-then-refusal-eq0
same-length-7 c = c.apply_edit.auto.rhs

same-length-8 : tie.Need-shape_of-amounts-then-refusal-eq0
same-length-8 c = c.apply_edit.auto.amounts

same-length-9 : tie.Need-shape_of-mults-then-refusal-eq0
same-length-9 c = c.apply_edit.auto.mults

same-length-10 : tie.Need-shape_of-r-then-refusal-eq0
same-length-10 c = c.apply_edit.auto.r

same-length-11 : tie.Need-shape_of-d-then-refusal-eq0
same-length-11 c = c.apply_edit.auto.d

same-length-12 : tie.Need-shape_of-c-then-refusal-eq0
same-length-12 c = c.apply_edit.auto.c

same-length-13 : tie.Need-shape_of-b-then-refusal-eq0
same-length-13 c = c.apply_edit.auto.b

same-length-14 : tie.Need-shape_of-counts-then-refusal-eq0
same-length-14 c = c.apply_edit.auto.counts

same-length-15 : tie.Need-shape_of-journal-then-refusal-eq0
same-length-15 c = c.pop.auto.journal

returns : tie.Need-returns-then-refusal-eq0
returns c =
    let p = popped-at c in
    let x = applied-at p in
    let k = made x in
    let n = k.before in
    let b = answered n in
    let u = b.before in
    let t = tested u in
    let s = start t in
    undoes_new (sheet s) s.args.journal.now t.test-t.result u.undo_refusal-refusal.result t.test-t.ensures u.undo_refusal-refusal.ensures b.if-refusal-eq0.true n.entry_at-n.result k.take_back-e.result _ _ n.entry_at-n.ensures k.take_back-e.ensures x.apply_edit.ensures p.pop.ensures

same-length-16 : tie.Need-shape_of-coefs-else-refusal-eq0
same-length-16 c = refl

same-length-17 : tie.Need-shape_of-costs-else-refusal-eq0
same-length-17 c = refl

same-length-18 : tie.Need-shape_of-lowers-else-refusal-eq0
same-length-18 c = refl

same-length-19 : tie.Need-shape_of-uppers-else-refusal-eq0
same-length-19 c = refl

same-length-20 : tie.Need-shape_of-lower_marks-else-refusal-eq0
same-length-20 c = refl

same-length-21 : tie.Need-shape_of-upper_marks-else-refusal-eq0
same-length-21 c = refl

same-length-22 : tie.Need-shape_of-rhs-else-refusal-eq0
same-length-22 c = refl

same-length-23 : tie.Need-shape_of-amounts-else-refusal-eq0
same-length-23 c = refl

same-length-24 : tie.Need-shape_of-mults-else-refusal-eq0
same-length-24 c = refl

same-length-25 : tie.Need-shape_of-r-else-refusal-eq0
same-length-25 c = refl

same-length-26 : tie.Need-shape_of-d-else-refusal-eq0
same-length-26 c = refl

same-length-27 : tie.Need-shape_of-c-else-refusal-eq0
same-length-27 c = refl

same-length-28 : tie.Need-shape_of-b-else-refusal-eq0
same-length-28 c = refl

same-length-29 : tie.Need-shape_of-counts-else-refusal-eq0
same-length-29 c = refl

same-length-30 : tie.Need-shape_of-journal-else-refusal-eq0
same-length-30 c = refl

returns-2 : tie.Need-returns-else-refusal-eq0
returns-2 c =
    let u = c.before in
    let s = start (tested u) in
    undoes_old (sheet s) s.args.journal.now u.undo_refusal-refusal.result u.undo_refusal-refusal.ensures c.if-refusal-eq0.false

pub undo_spec : {M : Type 1} → statement M
undo_spec =
    tie.close
    (tie.spec
    test-requires
    undo-refusal-requires
    sub-last
    entry-at-requires
    take-back-requires
    apply-edit-requires
    pop-requires
    same_length
    same-length-2
    same-length-3
    same-length-4
    same-length-5
    same-length-6
    same-length-7
    same-length-8
    same-length-9
    same-length-10
    same-length-11
    same-length-12
    same-length-13
    same-length-14
    same-length-15
    returns
    same-length-16
    same-length-17
    same-length-18
    same-length-19
    same-length-20
    same-length-21
    same-length-22
    same-length-23
    same-length-24
    same-length-25
    same-length-26
    same-length-27
    same-length-28
    same-length-29
    same-length-30
    returns-2)
