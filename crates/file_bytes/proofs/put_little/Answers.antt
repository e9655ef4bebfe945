-- `file_bytes::put_little` meets its contract. Assumes nothing.
use Rattle.std.proofs.Common.{◌≡◌, sym, ◌∙◌, List, ◌+◌, ◌-◌, ◌≤◌, ℕ, length, take, drop, arith}
use native.Mathlib.Nat.{zero-add}
use lib.ListN.{length-drop}
use lib.Seq.{length-take-le}
use Rattle.file_bytes.proofs.Laws.{put_start, put_next, put_none, put_whole}
use Rattle.file_bytes.proofs.put_little.Goals as goal

-- as many bytes as are put
size : (l : List ℕ) (at n : ℕ) → at + n ≤ length l → length (take (at + n - at) (drop at l)) ≡ n
size l at n h = let d = length-drop at l in length-take-le (at + n - at) (drop at l) (omega arith) ∙ omega arith

pub loop-x-init : goal.loop-x-init
loop-x-init c = put_start _ 0 _ _

pub loop-x-preserved : goal.loop-x-preserved
loop-x-preserved c =
    let s = size c.args.out.now c.args.at c.args.n (omega arith) in
    sym (rw (zero-add c.loop-x.x-index, zero-add (c.loop-x.x-index + 1)) at (put_next c.loop-x.x-items 0 c.args.n c.loop-x.left c.loop-x.x-index (omega arith))) ∙ c.loop-x.invariant

pub returns : goal.returns
returns c =
    let s = size c.args.out.now c.args.at c.args.n (omega arith) in
    put_whole c.args.out.now c.loop-x.x-items c.args.at c.args.n c.args.w (omega arith) (sym (rw zero-add at (put_none c.loop-x.x-items 0 c.args.n c.loop-x.left c.loop-x.x-index (omega arith))) ∙ c.loop-x.invariant)
