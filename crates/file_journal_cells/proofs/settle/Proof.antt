-- `file_journal_cells::settle` meets its contract. Assumes nothing.
use mathlib.Core.Path.{◌∙◌}
use Prim.Native.Nat.{◌+◌}
use native.Mathlib.Omega.{arith}
use lib.ListN.{set, length-set}
use Rattle.doubles.specs.Lists.{◌#◌}
use Rattle.file_journal_cells.proofs.Laws.{settled_refused, settled_end, settled_part, settled_full}
use borrow.Author.Rules.{rules}
use Rattle.file_journal_cells.proofs.settle.Statement.{statement}
use Rattle.file_journal_cells.proofs.settle.Tie as tie

slice-write-feed : tie.Need-bounds-feed-1
slice-write-feed c = search rules

slice-write-feed-2 : tie.Need-bounds-feed-2
slice-write-feed-2 c = let s : tie.Start = search in omega (arith, length-set s.args.feed.now 1 0)

same_length : tie.Need-shape_of-feed-then-says-ne0
same_length c = search rules

returns : tie.Need-returns-then-says-ne0
returns c = let s : tie.Start = search in settled_refused s.args.feed.now _ _ s.args.r s.args.says s.requires.1 c.if-says-ne0.true

place-of-requires : tie.Need-place_of-requires
place-of-requires c κs = search rules

add-feed : tie.Need-overflow_add-feed
add-feed c = search rules

slice-write-feed-3 : tie.Need-bounds-feed-0
slice-write-feed-3 c = let s : tie.Start = search in omega (arith, length-set s.args.feed.now 1 0)

shared-slice-read-if2 : tie.Need-bounds-b-0
shared-slice-read-if2 c = search rules

slice-write-feed-4 : tie.Need-bounds-feed-3
slice-write-feed-4 c = search rules

same-length-2 : tie.Need-shape_of-feed-then-b
same-length-2 c = search rules

returns-2 : tie.Need-returns-then-b
returns-2 c = let s : tie.Start = search in let p : tie.After-place_of = search in let t : tie.Else-says-ne0 = search in settled_end s.args.feed.now s.args.says p.place_of.result _ s.args.r (s.args.b.now # 0) s.requires.1 t.if-says-ne0.false (p.place_of.ensures.0 ∙ s.requires.3 t.if-says-ne0.false) s.requires.2 (omega arith)

slice-write-feed-5 : tie.Need-bounds-feed-2-2
slice-write-feed-5 c = let s : tie.Start = search in let p : tie.After-place_of = search in omega (arith, length-set s.args.feed.now 1 0, length-set (set s.args.feed.now 1 0) 0 (p.place_of.result + 1))

shared-slice-read-if3 : tie.Need-bounds-b-3
shared-slice-read-if3 c = search rules

slice-write-feed-6 : tie.Need-bounds-feed-3-then-b-lt22
slice-write-feed-6 c = search rules

same-length-3 : tie.Need-shape_of-feed-then-b-lt22
same-length-3 c = search rules

returns-3 : tie.Need-returns-then-b-lt22
returns-3 c = let s : tie.Start = search in let p : tie.After-place_of = search in let t : tie.Else-says-ne0 = search in let u : tie.Else-b = search in settled_part s.args.feed.now s.args.says p.place_of.result _ s.args.r _ s.requires.1 t.if-says-ne0.false (p.place_of.ensures.0 ∙ s.requires.3 t.if-says-ne0.false) u.if-b.false c.if-b-lt22.true

slice-write-feed-7 : tie.Need-bounds-feed-3-2
slice-write-feed-7 c = search rules

same-length-4 : tie.Need-shape_of-feed
same-length-4 c = search rules

returns-4 : tie.Need-returns
returns-4 c = let s : tie.Start = search in let p : tie.After-place_of = search in let t : tie.Else-says-ne0 = search in let u : tie.Else-b = search in settled_full s.args.feed.now s.args.says p.place_of.result _ s.args.r _ s.requires.1 t.if-says-ne0.false (p.place_of.ensures.0 ∙ s.requires.3 t.if-says-ne0.false) u.if-b.false (omega arith)

pub settle_spec : {M : Type 1} → statement M
settle_spec =
    tie.close
    (tie.spec
    slice-write-feed
    slice-write-feed-2
    same_length
    returns
    place-of-requires
    add-feed
    slice-write-feed-3
    shared-slice-read-if2
    slice-write-feed-4
    same-length-2
    returns-2
    slice-write-feed-5
    shared-slice-read-if3
    slice-write-feed-6
    same-length-3
    returns-3
    slice-write-feed-7
    same-length-4
    returns-4)
