-- `file_journal_take::feed_entry` meets its contract. Assumes nothing.
use mathlib.Core.Path.{◌≡◌, refl}
use Rattle.sheet_rules.specs.Sheet.{Sheet, plan_of, kept_of, sheet_of}
use Rattle.sheet_rules.specs.Edit.{edit_refusal}
use Rattle.sheet_store_apply.proofs.Laws.{edited_so}
use Rattle.file_journal_take.proofs.Laws.{entry_accepted, fed_new, fed_old}
use Rattle.file_journal_take.proofs.feed_entry.Statement.{statement}
use Rattle.file_journal_take.proofs.feed_entry.Tie as tie

abbrev sheet : tie.Start → Sheet
sheet s =
    sheet_of
    (plan_of s.args.rows s.args.columns s.args.coefs.now s.args.costs.now s.args.lowers.now s.args.uppers.now s.args.lower_marks.now s.args.upper_marks.now s.args.rhs.now s.args.ops.now s.args.amounts.now s.args.mults.now)
    (kept_of s.args.r.now s.args.d.now s.args.c.now s.args.b.now s.args.counts.now)

-- the way back: from before a call, or from the end, to where the call or the test before it left off

abbrev start : tie.After-feed_refusal-refusal → tie.Start
start c = search

abbrev made : tie.After-apply_edit-arg-then-refusal-eq0-13-1 → tie.After-forth-e
made c = search

abbrev apply_at : tie.After-counts-1 → tie.After-apply_edit
apply_at c = search

-- an answer of 0: the sheet accepts the entry's edit
gives : (f : tie.After-forth-e) → edit_refusal (sheet (start f.before.before)) f.forth-e.result ≡ 0
gives f =
    let a = f.before.before in
    entry_accepted (sheet (start a)) (start a).args.n f.forth-e.result a.feed_refusal-refusal.result f.forth-e.ensures a.feed_refusal-refusal.ensures f.if-refusal-eq0.true

feed-refusal-requires : tie.Need-feed_refusal-refusal-requires
feed-refusal-requires c κs = tt

forth-requires : tie.Need-forth-e-requires
forth-requires c κs = tt

apply-edit-requires : tie.Need-apply_edit-requires
apply-edit-requires c κs = let f = made c in edited_so (sheet (start f.before.before)) f.forth-e.result (gives f)

same_length : tie.Need-shape_of-coefs-then-refusal-eq0
same_length c = c.apply_edit.auto.coefs

same-length-2 : tie.Need-shape_of-costs-then-refusal-eq0
same-length-2 c = c.apply_edit.auto.costs

same-length-3 : tie.Need-shape_of-lowers-then-refusal-eq0
same-length-3 c = c.apply_edit.auto.lowers

same-length-4 : tie.Need-shape_of-uppers-then-refusal-eq0
same-length-4 c = c.apply_edit.auto.uppers

same-length-5 : tie.Need-shape_of-lower_marks-then-refusal-eq0
same-length-5 c = c.apply_edit.auto.lower_marks

same-length-6 : tie.Need-shape_of-upper_marks-then-refusal-eq0
same-length-6 c = c.apply_edit.auto.upper_marks

same-length-7 : tie.Need-shape_of-rhs-then-refusal-eq0
same-length-7 c = c.apply_edit.auto.rhs

same-length-8 : tie.Need-shape_of-amounts-then-refusal-eq0
same-length-8 c = c.apply_edit.auto.amounts

same-length-9 : tie.Need-shape_of-mults-then-refusal-eq0
same-length-9 c = c.apply_edit.auto.mults

same-length-10 : tie.Need-shape_of-r-then-refusal-eq0
same-length-10 c = c.apply_edit.auto.r

same-length-11 : tie.Need-shape_of-d-then-refusal-eq0
same-length-11 c = c.apply_edit.auto.d

same-length-12 : tie.Need-shape_of-c-then-refusal-eq0
same-length-12 c = c.apply_edit.auto.c

same-length-13 : tie.Need-shape_of-b-then-refusal-eq0
same-length-13 c = c.apply_edit.auto.b

same-length-14 : tie.Need-shape_of-counts-then-refusal-eq0
same-length-14 c = c.apply_edit.auto.counts

returns : tie.Need-returns-then-refusal-eq0
returns c =
    let x = apply_at c in
    let f = made x.before in
    let a = f.before.before in
    let s = start a in
    fed_new (sheet s) s.args.n f.forth-e.result a.feed_refusal-refusal.result _ f.forth-e.ensures a.feed_refusal-refusal.ensures f.if-refusal-eq0.true x.apply_edit.ensures

same-length-15 : tie.Need-shape_of-coefs-else-refusal-eq0
same-length-15 c = refl

same-length-16 : tie.Need-shape_of-costs-else-refusal-eq0
same-length-16 c = refl

same-length-17 : tie.Need-shape_of-lowers-else-refusal-eq0
same-length-17 c = refl

same-length-18 : tie.Need-shape_of-uppers-else-refusal-eq0
same-length-18 c = refl

same-length-19 : tie.Need-shape_of-lower_marks-else-refusal-eq0
same-length-19 c = refl

same-length-20 : tie.Need-shape_of-upper_marks-else-refusal-eq0
same-length-20 c = refl

same-length-21 : tie.Need-shape_of-rhs-else-refusal-eq0
same-length-21 c = refl

same-length-22 : tie.Need-shape_of-amounts-else-refusal-eq0
same-length-22 c = refl

same-length-23 : tie.Need-shape_of-mults-else-refusal-eq0
same-length-23 c = refl

same-length-24 : tie.Need-shape_of-r-else-refusal-eq0
same-length-24 c = refl

same-length-25 : tie.Need-shape_of-d-else-refusal-eq0
same-length-25 c = refl

same-length-26 : tie.Need-shape_of-c-else-refusal-eq0
same-length-26 c = refl

same-length-27 : tie.Need-shape_of-b-else-refusal-eq0
same-length-27 c = refl

same-length-28 : tie.Need-shape_of-counts-else-refusal-eq0
same-length-28 c = refl

returns-2 : tie.Need-returns-else-refusal-eq0
returns-2 c =
    let a = c.before in
    fed_old (sheet (start a)) (start a).args.n a.feed_refusal-refusal.result a.feed_refusal-refusal.ensures c.if-refusal-eq0.false

pub feed_entry_spec : {M : Type 1} → statement M
feed_entry_spec =
    tie.close
    (tie.spec
    feed-refusal-requires
    forth-requires
    apply-edit-requires
    same_length
    same-length-2
    same-length-3
    same-length-4
    same-length-5
    same-length-6
    same-length-7
    same-length-8
    same-length-9
    same-length-10
    same-length-11
    same-length-12
    same-length-13
    same-length-14
    returns
    same-length-15
    same-length-16
    same-length-17
    same-length-18
    same-length-19
    same-length-20
    same-length-21
    same-length-22
    same-length-23
    same-length-24
    same-length-25
    same-length-26
    same-length-27
    same-length-28
    returns-2)
