-- `file_journal_piece::feed_byte` meets its contract. Assumes nothing.
use mathlib.Core.Path.{◌∙◌}
use native.Mathlib.Omega.{arith}
use Rattle.sheet_rules.specs.Sheet.{Sheet, plan_of, kept_of, sheet_of}
use Rattle.file_journal_piece.proofs.Laws.{still_fine, byte_waits, byte_whole}
use Rattle.file_journal_piece.proofs.feed_byte.Statement.{statement}
use Rattle.file_journal_piece.proofs.feed_byte.Tie as tie

abbrev sheet : tie.Start → Sheet
sheet s =
    sheet_of
    (plan_of s.args.rows s.args.columns s.args.coefs.now s.args.costs.now s.args.lowers.now s.args.uppers.now s.args.lower_marks.now s.args.upper_marks.now s.args.rhs.now s.args.ops.now s.args.amounts.now s.args.mults.now)
    (kept_of s.args.r.now s.args.d.now s.args.c.now s.args.b.now s.args.counts.now)

put-byte-requires : tie.Need-put_byte-requires
put-byte-requires c κs =
    let s : tie.Start = search in (s.requires.0, s.requires.1, s.requires.3)

take-block-requires : tie.Need-take_block-requires
take-block-requires c κs =
    let p : tie.After-put_byte = search in
    let s : tie.Start = search in
    let d = still_fine (sheet s) s.args.waiting.now s.args.cells.now s.args.x s.requires.1 s.requires.2 _ _ p.put_byte.ensures.1 p.put_byte.ensures.2 in
    (omega (arith, p.put_byte.auto.waiting, s.requires.0), d.0, d.1)

same_length : tie.Need-shape_of-coefs
same_length c = c.take_block.auto.coefs

same-length-2 : tie.Need-shape_of-costs
same-length-2 c = c.take_block.auto.costs

same-length-3 : tie.Need-shape_of-lowers
same-length-3 c = c.take_block.auto.lowers

same-length-4 : tie.Need-shape_of-uppers
same-length-4 c = c.take_block.auto.uppers

same-length-5 : tie.Need-shape_of-lower_marks
same-length-5 c = c.take_block.auto.lower_marks

same-length-6 : tie.Need-shape_of-upper_marks
same-length-6 c = c.take_block.auto.upper_marks

same-length-7 : tie.Need-shape_of-rhs
same-length-7 c = c.take_block.auto.rhs

same-length-8 : tie.Need-shape_of-amounts
same-length-8 c = c.take_block.auto.amounts

same-length-9 : tie.Need-shape_of-mults
same-length-9 c = c.take_block.auto.mults

same-length-10 : tie.Need-shape_of-r
same-length-10 c = c.take_block.auto.r

same-length-11 : tie.Need-shape_of-d
same-length-11 c = c.take_block.auto.d

same-length-12 : tie.Need-shape_of-c
same-length-12 c = c.take_block.auto.c

same-length-13 : tie.Need-shape_of-b
same-length-13 c = c.take_block.auto.b

same-length-14 : tie.Need-shape_of-counts
same-length-14 c = c.take_block.auto.counts

same-length-15 : tie.Need-shape_of-waiting-then-put_byte
same-length-15 c = c.put_byte.auto.waiting

same-length-16 : tie.Need-shape_of-cells-then-put_byte
same-length-16 c =
    let x : tie.After-take_block = search in x.take_block.auto.cells ∙ c.put_byte.auto.feed

returns : tie.Need-returns-then-put_byte
returns c =
    let x : tie.After-take_block = search in
    let t : tie.Then-put_byte = search in
    let p : tie.After-put_byte = search in
    let s : tie.Start = search in
    byte_whole (sheet s) s.args.waiting.now s.args.cells.now s.args.x s.requires.1 s.requires.2 _ _ p.put_byte.ensures.1 p.put_byte.ensures.2 p.put_byte.result _ _ _ p.put_byte.ensures.0 t.if-put_byte.true x.take_block.ensures

same-length-17 : tie.Need-shape_of-waiting-else-put_byte
same-length-17 c = c.put_byte.auto.waiting

same-length-18 : tie.Need-shape_of-cells-else-put_byte
same-length-18 c = c.put_byte.auto.feed

returns-2 : tie.Need-returns-else-put_byte
returns-2 c =
    let p : tie.After-put_byte = search in
    let s : tie.Start = search in
    byte_waits (sheet s) s.args.waiting.now s.args.cells.now s.args.x s.requires.1 s.requires.2 _ _ p.put_byte.ensures.1 p.put_byte.ensures.2 p.put_byte.result p.put_byte.ensures.0 c.if-put_byte.false

pub feed_byte_spec : {M : Type 1} → statement M
feed_byte_spec =
    tie.close
    (tie.spec
    put-byte-requires
    take-block-requires
    same_length
    same-length-2
    same-length-3
    same-length-4
    same-length-5
    same-length-6
    same-length-7
    same-length-8
    same-length-9
    same-length-10
    same-length-11
    same-length-12
    same-length-13
    same-length-14
    same-length-15
    same-length-16
    returns
    same-length-17
    same-length-18
    returns-2)
