-- `file_journal_take::take_block` meets its contract. Assumes nothing.
use mathlib.Core.Path.{◌≡◌}
use mathlib.Core.List.{List}
use Prim.Native.Nat.{ℕ}
use native.Mathlib.Omega.{arith}
use lib.ListN.{length, take, length-take}
use borrow.Author.Rules.{rules}
use Rattle.doubles.specs.Lists.{◌#◌}
use Rattle.sheet_rules.specs.Sheet.{Sheet, plan_of, kept_of, sheet_of}
use Rattle.file_journal_cells.proofs.Laws.{taken_few, place_is}
use Rattle.file_journal_take.proofs.Laws.{block_leaves}
use Rattle.file_journal_take.proofs.take_block.Statement.{statement}
use Rattle.file_journal_take.proofs.take_block.Tie as tie

abbrev sheet : tie.Start → Sheet
sheet s =
    sheet_of
    (plan_of s.args.rows s.args.columns s.args.coefs.now s.args.costs.now s.args.lowers.now s.args.uppers.now s.args.lower_marks.now s.args.upper_marks.now s.args.rhs.now s.args.ops.now s.args.amounts.now s.args.mults.now)
    (kept_of s.args.r.now s.args.d.now s.args.c.now s.args.b.now s.args.counts.now)

abbrev start : tie.After-block_says-says → tie.Start
start c = c.before.before.before.before.before.before.before.before.before

abbrev says_at : tie.After-entries_taken-count → tie.After-block_says-says
says_at c = c.before.before

abbrev taken_at : tie.After-feed_entries-refused → tie.After-entries_taken-count
taken_at c = c.before.before.before.before.before.before.before.before.before.before.before.before.before.before.before.before

abbrev fed-at : tie.After-counts-1 → tie.After-feed_entries-refused
fed-at c = c.before.before.before.before.before.before.before.before.before.before.before.before.before.before.before.before

abbrev settled_at : tie.After-slice_known-8-1 → tie.After-settle
settled_at c = c.before.before

abbrev block : tie.Start → List ℕ
block s = take 512 s.args.waiting.now

long : (s : tie.Start) → length (block s) ≡ 512
long s = omega (arith, length-take 512 s.args.waiting.now, s.requires.0)

sub-block-says : tie.Need-slice_bounds-block_says-count
sub-block-says c = search rules

part-block-says-start : tie.Need-slice_bounds-block_says-start
part-block-says-start c = search rules

part-block-says-end : tie.Need-slice_bounds-block_says-end
part-block-says-end c = c.requires.0

slice-read-block-says : tie.Need-bounds-cells-3
slice-read-block-says c = omega (arith, c.requires.1)

slice-read-block-says-2 : tie.Need-bounds-cells-0
slice-read-block-says-2 c = omega (arith, c.requires.1)

block-says-requires : tie.Need-block_says-says-requires
block-says-requires c κs = long c.before.before.before.before.before.before.before.before

sub-entries-taken : tie.Need-slice_bounds-entries_taken-count
sub-entries-taken c = search rules

part-entries-taken-start : tie.Need-slice_bounds-entries_taken-start
part-entries-taken-start c = search rules

part-entries-taken-end : tie.Need-slice_bounds-entries_taken-end
part-entries-taken-end c = (start c).requires.0

entries-taken-requires : tie.Need-entries_taken-count-requires
entries-taken-requires c κs = long (start c.before)

sub-feed-entries : tie.Need-slice_bounds-feed_entries-count
sub-feed-entries c = search rules

part-feed-entries-start : tie.Need-slice_bounds-feed_entries-start
part-feed-entries-start c = search rules

part-feed-entries-end : tie.Need-slice_bounds-feed_entries-end
part-feed-entries-end c = (start (says_at c)).requires.0

feed-entries-requires : tie.Need-feed_entries-refused-requires
feed-entries-requires c κs =
    let t = c.before.before.before.before.before.before.before.before.before.before.before.before.before.before.before in
    let a = says_at t in
    let s = start a in
    let few = taken_few (block s) (long s) (s.args.cells.now # 3) (s.args.cells.now # 0) a.block_says-says.result a.block_says-says.ensures in
    (long s, omega (arith, t.entries_taken-count.ensures, few))

sub-settle : tie.Need-slice_bounds-settle-count
sub-settle c = search rules

part-settle-start : tie.Need-slice_bounds-settle-start
part-settle-start c = search rules

part-settle-end : tie.Need-slice_bounds-settle-end
part-settle-end c = (start (says_at (taken_at (fed-at c)))).requires.0

settle-requires : tie.Need-settle-requires
settle-requires c κs =
    let a = says_at (taken_at (fed-at c.before.before)) in
    let s = start a in
    (long s, s.requires.1, s.requires.2, place_is (block s) (long s) (s.args.cells.now # 3) (s.args.cells.now # 0) a.block_says-says.result a.block_says-says.ensures)

same_length : tie.Need-shape_of-coefs
same_length c = (fed-at (settled_at c).before.before.before).feed_entries-refused.auto.coefs

same-length-2 : tie.Need-shape_of-costs
same-length-2 c = (fed-at (settled_at c).before.before.before).feed_entries-refused.auto.costs

same-length-3 : tie.Need-shape_of-lowers
same-length-3 c = (fed-at (settled_at c).before.before.before).feed_entries-refused.auto.lowers

same-length-4 : tie.Need-shape_of-uppers
same-length-4 c = (fed-at (settled_at c).before.before.before).feed_entries-refused.auto.uppers

same-length-5 : tie.Need-shape_of-lower_marks
same-length-5 c = (fed-at (settled_at c).before.before.before).feed_entries-refused.auto.lower_marks

same-length-6 : tie.Need-shape_of-upper_marks
same-length-6 c = (fed-at (settled_at c).before.before.before).feed_entries-refused.auto.upper_marks

same-length-7 : tie.Need-shape_of-rhs
same-length-7 c = (fed-at (settled_at c).before.before.before).feed_entries-refused.auto.rhs

same-length-8 : tie.Need-shape_of-amounts
same-length-8 c =
    (fed-at (settled_at c).before.before.before).feed_entries-refused.auto.amounts

same-length-9 : tie.Need-shape_of-mults
same-length-9 c =
    (fed-at (settled_at c).before.before.before).feed_entries-refused.auto.mults

same-length-10 : tie.Need-shape_of-r
same-length-10 c =
    (fed-at (settled_at c).before.before.before).feed_entries-refused.auto.r

same-length-11 : tie.Need-shape_of-d
same-length-11 c =
    (fed-at (settled_at c).before.before.before).feed_entries-refused.auto.d

same-length-12 : tie.Need-shape_of-c
same-length-12 c =
    (fed-at (settled_at c).before.before.before).feed_entries-refused.auto.c

same-length-13 : tie.Need-shape_of-b
same-length-13 c =
    (fed-at (settled_at c).before.before.before).feed_entries-refused.auto.b

same-length-14 : tie.Need-shape_of-counts
same-length-14 c =
    (fed-at (settled_at c).before.before.before).feed_entries-refused.auto.counts

same-length-15 : tie.Need-shape_of-cells
same-length-15 c = (settled_at c).settle.auto.feed

returns : tie.Need-returns
returns c =
    let z = settled_at c in
    let x = fed-at z.before.before.before in
    let t = taken_at x in
    let a = says_at t in
    let s = start a in
    block_leaves (sheet s) s.args.waiting.now s.args.cells.now a.block_says-says.result t.entries_taken-count.result x.feed_entries-refused.result _ _ a.block_says-says.ensures t.entries_taken-count.ensures x.feed_entries-refused.ensures z.settle.ensures

pub take_block_spec : {M : Type 1} → statement M
take_block_spec =
    tie.close
    (tie.spec
    sub-block-says
    part-block-says-start
    part-block-says-end
    slice-read-block-says
    slice-read-block-says-2
    block-says-requires
    sub-entries-taken
    part-entries-taken-start
    part-entries-taken-end
    entries-taken-requires
    sub-feed-entries
    part-feed-entries-start
    part-feed-entries-end
    feed-entries-requires
    sub-settle
    part-settle-start
    part-settle-end
    settle-requires
    same_length
    same-length-2
    same-length-3
    same-length-4
    same-length-5
    same-length-6
    same-length-7
    same-length-8
    same-length-9
    same-length-10
    same-length-11
    same-length-12
    same-length-13
    same-length-14
    same-length-15
    returns)
