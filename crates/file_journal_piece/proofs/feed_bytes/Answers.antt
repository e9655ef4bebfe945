-- `file_journal_piece::feed_bytes` meets its contract. Assumes nothing.
use Rattle.std.proofs.Common.{[], ◌∷◌, arith}
use Rattle.sheet_rules.specs.Sheet.{Sheet, plan_of, kept_of, sheet_of}
use Rattle.file_journal_piece.proofs.Laws.{going_start, going_on, going_refused, going_done}
use Rattle.file_journal_piece.proofs.feed_bytes.Goals as goal

pub loop-x-init : goal.loop-x-init
loop-x-init c = going_start _ _ _ _ c.requires.2

pub returns-then-cells-ne0 : goal.returns-then-cells-ne0
returns-then-cells-ne0 c = going_refused c.loop-x.invariant c.requires.1 c.if-cells-ne0.true

pub feed_byte-requires : goal.feed_byte-requires
feed_byte-requires c = (omega arith, omega arith, c.if-cells-ne0.false, c.loop-x.invariant.waits)

pub loop-x-preserved : goal.loop-x-preserved
loop-x-preserved c =
    let s = c.args in
    let n = c.feed_byte.new in
    let k = c.feed_byte.auto in
    let after : Sheet = sheet_of (plan_of s.rows s.columns n.coefs n.costs n.lowers n.uppers n.lower_marks n.upper_marks n.rhs s.ops.now n.amounts n.mults) (kept_of n.r n.d n.c n.b n.counts) in
    going_on c.loop-x.invariant after n.waiting n.cells c.loop-x-test.true c.if-cells-ne0.false c.feed_byte.ensures (λ i. k.coefs i ∷ k.costs i ∷ k.lowers i ∷ k.uppers i ∷ k.lower_marks i ∷ k.upper_marks i ∷ k.rhs i ∷ k.amounts i ∷ k.mults i ∷ k.r i ∷ k.d i ∷ k.c i ∷ k.b i ∷ k.counts i ∷ []) k.waiting k.cells

pub returns : goal.returns
returns c = going_done c.loop-x.invariant c.requires.1 c.loop-x-test.false
