-- `file_journal_feed::feed` meets its contract. Assumes nothing.
use mathlib.Core.Path.{◌≡◌, refl, sym, ◌∙◌}
use mathlib.Core.Bool.{true}
use borrow.Author.Tests.{not-true, not-false}
use Rattle.sheet_rules.specs.Sheet.{Sheet, plan_of, kept_of, sheet_of}
use Rattle.file_journal_rules.specs.Feed.{feed_fine}
use Rattle.file_journal_cells.proofs.Laws.{fine_so}
use Rattle.file_journal_piece.proofs.Laws.{feeds_bad, feeds}
use Rattle.file_journal_feed.proofs.feed.Statement.{statement}
use Rattle.file_journal_feed.proofs.feed.Tie as tie

abbrev sheet : tie.Start → Sheet
sheet s =
    sheet_of
    (plan_of s.args.rows s.args.columns s.args.coefs.now s.args.costs.now s.args.lowers.now s.args.uppers.now s.args.lower_marks.now s.args.upper_marks.now s.args.rhs.now s.args.ops.now s.args.amounts.now s.args.mults.now)
    (kept_of s.args.r.now s.args.d.now s.args.c.now s.args.b.now s.args.counts.now)

abbrev start : tie.After-feed_fine → tie.Start
start c = search

abbrev tested : tie.After-feed_bytes-arg-16-1 → tie.Else-not-feed_fine
tested c = search

abbrev fed-at : tie.After-slice_known-8-1 → tie.After-feed_bytes
fed-at c = search

fine : (c : tie.Else-not-feed_fine) → let s = start c.before in feed_fine s.args.waiting.now s.args.cells.now ≡ true
fine c = sym c.feed_fine.ensures ∙ not-false _ c.if-not-feed_fine.false-raw

feed-fine-requires : tie.Need-feed_fine-requires
feed-fine-requires c κs = tt

same_length : tie.Need-shape_of-waiting-then-not-feed_fine
same_length c = refl

same-length-2 : tie.Need-shape_of-cells-then-not-feed_fine
same-length-2 c = refl

returns : tie.Need-returns-then-not-feed_fine
returns c =
    let s = start c.before in
    feeds_bad s.args.piece.now (sheet s) s.args.waiting.now s.args.cells.now (sym c.feed_fine.ensures ∙ not-true _ c.if-not-feed_fine.true-raw)

feed-bytes-requires : tie.Need-feed_bytes-requires
feed-bytes-requires c κs =
    let t = tested c in let s = start t.before in fine_so s.args.waiting.now s.args.cells.now (fine t)

same-length-3 : tie.Need-shape_of-coefs
same-length-3 c = c.feed_bytes.auto.coefs

same-length-4 : tie.Need-shape_of-costs
same-length-4 c = c.feed_bytes.auto.costs

same-length-5 : tie.Need-shape_of-lowers
same-length-5 c = c.feed_bytes.auto.lowers

same-length-6 : tie.Need-shape_of-uppers
same-length-6 c = c.feed_bytes.auto.uppers

same-length-7 : tie.Need-shape_of-lower_marks
same-length-7 c = c.feed_bytes.auto.lower_marks

same-length-8 : tie.Need-shape_of-upper_marks
same-length-8 c = c.feed_bytes.auto.upper_marks

same-length-9 : tie.Need-shape_of-rhs
same-length-9 c = c.feed_bytes.auto.rhs

same-length-10 : tie.Need-shape_of-amounts
same-length-10 c = c.feed_bytes.auto.amounts

same-length-11 : tie.Need-shape_of-mults
same-length-11 c = c.feed_bytes.auto.mults

same-length-12 : tie.Need-shape_of-r
same-length-12 c = c.feed_bytes.auto.r

same-length-13 : tie.Need-shape_of-d
same-length-13 c = c.feed_bytes.auto.d

same-length-14 : tie.Need-shape_of-c
same-length-14 c = c.feed_bytes.auto.c

same-length-15 : tie.Need-shape_of-b
same-length-15 c = c.feed_bytes.auto.b

same-length-16 : tie.Need-shape_of-counts
same-length-16 c = c.feed_bytes.auto.counts

same-length-17 : tie.Need-shape_of-waiting
same-length-17 c = c.feed_bytes.auto.waiting

same-length-18 : tie.Need-shape_of-cells
same-length-18 c = c.feed_bytes.auto.cells

returns-2 : tie.Need-returns
returns-2 c =
    let x = fed-at c in
    let t = tested x.before in
    let s = start t.before in
    feeds s.args.piece.now (sheet s) s.args.waiting.now s.args.cells.now _ (fine t) x.feed_bytes.ensures

pub feed_spec : {M : Type 1} → statement M
feed_spec =
    tie.close
    (tie.spec
    feed-fine-requires
    same_length
    same-length-2
    returns
    feed-bytes-requires
    same-length-3
    same-length-4
    same-length-5
    same-length-6
    same-length-7
    same-length-8
    same-length-9
    same-length-10
    same-length-11
    same-length-12
    same-length-13
    same-length-14
    same-length-15
    same-length-16
    same-length-17
    same-length-18
    returns-2)
