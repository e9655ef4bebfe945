-- `file_journal::edit` meets its contract. Assumes nothing.
use mathlib.Core.Path.{◌≡◌, refl}
use Rattle.sheet_rules.specs.Sheet.{Sheet, plan_of, kept_of, sheet_of}
use Rattle.sheet_rules.specs.Edit.{edit_refusal}
use Rattle.sheet_rules.specs.declared.Edit.{Edit}
use Rattle.sheet_terms.proofs.Machine.{word, of_word}
use Rattle.sheet_store_apply.proofs.Laws.{edited_so}
use Rattle.file_journal_rules.specs.Lent.{lent}
use Rattle.file_journal_entry.proofs.Laws.{plan_sized_holds, index_of}
use Rattle.file_journal_decide.proofs.Laws.{accepted, push_asks, keeps_new, keeps_old, handed}
use Rattle.file_journal.proofs.edit.Statement.{statement}
use Rattle.file_journal.proofs.edit.Tie as tie

abbrev sheet : tie.Start → Sheet
sheet s =
    sheet_of
    (plan_of s.args.rows s.args.columns s.args.coefs.now s.args.costs.now s.args.lowers.now s.args.uppers.now s.args.lower_marks.now s.args.upper_marks.now s.args.rhs.now s.args.ops.now s.args.amounts.now s.args.mults.now)
    (kept_of s.args.r.now s.args.d.now s.args.c.now s.args.b.now s.args.counts.now)

-- the edit, as it is handed on
abbrev e : tie.Start → Edit
e s = record { kind = s.args.kind; row = s.args.row; column = s.args.column; number = word s.args.number }

-- the way back: from before a call, or from the end, to where the call or the test before it left off

abbrev start : tie.After-test-t → tie.Start
start c = search

abbrev tested : tie.After-room_of-room → tie.After-test-t
tested c = search

abbrev roomed : tie.After-keep_refusal-refusal → tie.After-room_of-room
roomed c = search

abbrev kept_at : tie.After-entry_of-n → tie.Then-refusal-eq0
kept_at c = search

abbrev made : tie.After-apply_edit → tie.After-entry_of-n
made c = search

abbrev applied-at : tie.After-push → tie.After-apply_edit
applied-at c = search

abbrev pushed_at : tie.After-slice_known-then-refusal-eq0-3-1 → tie.After-push
pushed_at c = search

abbrev from : tie.After-keep_refusal-refusal → tie.Start
from k = start (tested (roomed k))

-- an answer of 0: the sheet accepts the edit
gives : (c : tie.Then-refusal-eq0) → edit_refusal (sheet (from c.before)) (e (from c.before)) ≡ 0
gives c =
    let k = c.before in
    let r = roomed k in
    let t = tested r in
    let s = start t in
    accepted (sheet s) s.args.journal.now (e s) t.test-t.result r.room_of-room.result k.keep_refusal-refusal.result t.test-t.ensures r.room_of-room.ensures k.keep_refusal-refusal.ensures c.if-refusal-eq0.true

test-requires : tie.Need-test-t-requires
test-requires c κs = tt

room-of-requires : tie.Need-room_of-room-requires
room-of-requires c κs = tt

keep-refusal-requires : tie.Need-keep_refusal-refusal-requires
keep-refusal-requires c κs = tt

entry-of-requires : tie.Need-entry_of-n-requires
entry-of-requires c κs =
    let t : tie.Then-refusal-eq0 = search in
    let s = from t.before in
    (plan_sized_holds (sheet s) (e s) (gives t), index_of (sheet s) (e s) (gives t))

apply-edit-requires : tie.Need-apply_edit-requires
apply-edit-requires c κs =
    let t : tie.Then-refusal-eq0 = search in
    let s = from t.before in
    edited_so (sheet s) (e s) (gives t)

push-requires : tie.Need-push-requires
push-requires c κs =
    let n : tie.After-entry_of-n = search in
    let b = kept_at n in
    let k = b.before in
    let r = roomed k in
    let t = tested r in
    let s = start t in
    push_asks (sheet s) s.args.journal.now (e s) t.test-t.result r.room_of-room.result k.keep_refusal-refusal.result t.test-t.ensures r.room_of-room.ensures k.keep_refusal-refusal.ensures n.entry_of-n.result n.entry_of-n.ensures b.if-refusal-eq0.true

same_length : tie.Need-shape_of-coefs-then-refusal-eq0
same_length c = c.apply_edit.auto.coefs

same-length-2 : tie.Need-shape_of-costs-then-refusal-eq0
same-length-2 c = c.apply_edit.auto.costs

same-length-3 : tie.Need-shape_of-lowers-then-refusal-eq0
same-length-3 c = c.apply_edit.auto.lowers

same-length-4 : tie.Need-shape_of-uppers-then-refusal-eq0
same-length-4 c = c.apply_edit.auto.uppers

same-length-5 : tie.Need-shape_of-lower_marks-then-refusal-eq0
same-length-5 c = c.apply_edit.auto.lower_marks

same-length-6 : tie.Need-shape_of-upper_marks-then-refusal-eq0
same-length-6 c = c.apply_edit.auto.upper_marks

same-length-7 : tie.Need-shape_of-rhs-then-refusal-eq0
same-length-7 c = c.apply_edit.auto.rhs

same-length-8 : tie.Need-shape_of-amounts-then-refusal-eq0
same-length-8 c = c.apply_edit.auto.amounts

same-length-9 : tie.Need-shape_of-mults-then-refusal-eq0
same-length-9 c = c.apply_edit.auto.mults

same-length-10 : tie.Need-shape_of-r-then-refusal-eq0
same-length-10 c = c.apply_edit.auto.r

same-length-11 : tie.Need-shape_of-d-then-refusal-eq0
same-length-11 c = c.apply_edit.auto.d

same-length-12 : tie.Need-shape_of-c-then-refusal-eq0
same-length-12 c = c.apply_edit.auto.c

same-length-13 : tie.Need-shape_of-b-then-refusal-eq0
same-length-13 c = c.apply_edit.auto.b

same-length-14 : tie.Need-shape_of-counts-then-refusal-eq0
same-length-14 c = c.apply_edit.auto.counts

same-length-15 : tie.Need-shape_of-journal-then-refusal-eq0
same-length-15 c = c.push.auto.journal

returns : tie.Need-returns-then-refusal-eq0
returns c =
    let p = pushed_at c in
    let x = applied-at p in
    let n = made x in
    let b = kept_at n in
    let k = b.before in
    let r = roomed k in
    let t = tested r in
    let s = start t in
    handed (lent (sheet s) s.args.journal.now) s.args.kind s.args.row s.args.column (word s.args.number) s.args.number (of_word s.ranges.number) _ _
    (keeps_new (sheet s) s.args.journal.now (e s) t.test-t.result r.room_of-room.result k.keep_refusal-refusal.result t.test-t.ensures r.room_of-room.ensures k.keep_refusal-refusal.ensures n.entry_of-n.result _ _ n.entry_of-n.ensures b.if-refusal-eq0.true x.apply_edit.ensures p.push.ensures)

same-length-16 : tie.Need-shape_of-coefs-else-refusal-eq0
same-length-16 c = refl

same-length-17 : tie.Need-shape_of-costs-else-refusal-eq0
same-length-17 c = refl

same-length-18 : tie.Need-shape_of-lowers-else-refusal-eq0
same-length-18 c = refl

same-length-19 : tie.Need-shape_of-uppers-else-refusal-eq0
same-length-19 c = refl

same-length-20 : tie.Need-shape_of-lower_marks-else-refusal-eq0
same-length-20 c = refl

same-length-21 : tie.Need-shape_of-upper_marks-else-refusal-eq0
same-length-21 c = refl

same-length-22 : tie.Need-shape_of-rhs-else-refusal-eq0
same-length-22 c = refl

same-length-23 : tie.Need-shape_of-amounts-else-refusal-eq0
same-length-23 c = refl

same-length-24 : tie.Need-shape_of-mults-else-refusal-eq0
same-length-24 c = refl

same-length-25 : tie.Need-shape_of-r-else-refusal-eq0
same-length-25 c = refl

same-length-26 : tie.Need-shape_of-d-else-refusal-eq0
same-length-26 c = refl

same-length-27 : tie.Need-shape_of-c-else-refusal-eq0
same-length-27 c = refl

same-length-28 : tie.Need-shape_of-b-else-refusal-eq0
same-length-28 c = refl

same-length-29 : tie.Need-shape_of-counts-else-refusal-eq0
same-length-29 c = refl

same-length-30 : tie.Need-shape_of-journal-else-refusal-eq0
same-length-30 c = refl

returns-2 : tie.Need-returns-else-refusal-eq0
returns-2 c =
    let k = c.before in
    let r = roomed k in
    let t = tested r in
    let s = start t in
    handed (lent (sheet s) s.args.journal.now) s.args.kind s.args.row s.args.column (word s.args.number) s.args.number (of_word s.ranges.number) _ _
    (keeps_old (sheet s) s.args.journal.now (e s) t.test-t.result r.room_of-room.result k.keep_refusal-refusal.result t.test-t.ensures r.room_of-room.ensures k.keep_refusal-refusal.ensures c.if-refusal-eq0.false)

pub edit_spec : {M : Type 1} → statement M
edit_spec =
    tie.close
    (tie.spec
    test-requires
    room-of-requires
    keep-refusal-requires
    entry-of-requires
    apply-edit-requires
    push-requires
    same_length
    same-length-2
    same-length-3
    same-length-4
    same-length-5
    same-length-6
    same-length-7
    same-length-8
    same-length-9
    same-length-10
    same-length-11
    same-length-12
    same-length-13
    same-length-14
    same-length-15
    returns
    same-length-16
    same-length-17
    same-length-18
    same-length-19
    same-length-20
    same-length-21
    same-length-22
    same-length-23
    same-length-24
    same-length-25
    same-length-26
    same-length-27
    same-length-28
    same-length-29
    same-length-30
    returns-2)
