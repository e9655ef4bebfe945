-- `lu_gate::column_ok` meets its contract. Assumes nothing.
use Rattle.std.proofs.Common.{◌≡◌, ℕ, ◌<◌, ◌≤◌, get_or, length, take, drop, arith, refl, sym, ◌∙◌}
use lib.ListN.{length-drop}
use lib.Seq.{get_or-drop}
use Rattle.doubles.specs.Loop.{all}
use Rattle.doubles.specs.Lists.{◌#◌}
use Rattle.doubles.proofs.Loops.{all_next, all_fails}
use Rattle.lu_walk.specs.Walk.{Shape, shape, many, kid}
use Rattle.doubles.proofs.Items.{within, item, all_done_items}
use Rattle.lu_gate.specs.Gate.{ok_column, Readable}
use Rattle.lu_gate.proofs.column_ok.Goals as goal

-- the column is as long as its starts say, and its k-th row is the definition's
fits : (t : Shape) (col : ℕ) → Readable t → col < t.size → many t col ≤ length (drop (t.starts # col) t.rows)
fits t col r h = rw length-drop (omega (arith, r.rise col h, r.ends col h))

row_is : (t : Shape) (col k : ℕ) → Readable t → col < t.size → k < length (take (many t col) (drop (t.starts # col) t.rows)) → get_or (take (many t col) (drop (t.starts # col) t.rows)) k 0 ≡ kid t col k
row_is t col k r h l = item (many t col) (drop (t.starts # col) t.rows) (fits t col r h) l 0 ∙ get_or-drop (t.starts # col) t.rows k 0

pub loop-row-init : goal.loop-row-init
unfolding all
loop-row-init c = refl

pub returns-then-not-row_ok : goal.returns-then-not-row_ok
unfolding ok_column
returns-then-not-row_ok c =
    let t = shape c.args.lower c.args.size c.args.starts.now c.args.rows.now in
    let q = row_is t c.args.col c.loop-row.row-index c.requires.1 c.requires.0 c.loop-row-test.true in
    sym (all_fails _ _ c.loop-row.row-index (within _ _ (fits t c.args.col c.requires.1 c.requires.0) c.loop-row-test.true) (cc (q, c.row_ok.ensures, c.if-not-row_ok.true)))

pub loop-row-preserved : goal.loop-row-preserved
loop-row-preserved c =
    let t = shape c.args.lower c.args.size c.args.starts.now c.args.rows.now in
    let q = row_is t c.args.col c.loop-row.row-index c.requires.1 c.requires.0 c.loop-row-test.true in
    all_next _ c.loop-row.row-index c.loop-row.invariant (cc (q, c.row_ok.ensures, c.if-not-row_ok.false))

pub returns : goal.returns
unfolding ok_column
returns c =
    let t = shape c.args.lower c.args.size c.args.starts.now c.args.rows.now in
    sym (all_done_items _ _ _ c.loop-row.row-index (fits t c.args.col c.requires.1 c.requires.0) c.loop-row.auto.row-index-end c.loop-row-test.false c.loop-row.invariant)
