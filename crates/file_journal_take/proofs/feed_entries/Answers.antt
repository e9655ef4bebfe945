-- `file_journal_take::feed_entries` meets its contract. Assumes nothing.
use Rattle.std.proofs.Common.{[], ◌∷◌, arith}
use Rattle.sheet_rules.specs.Sheet.{Sheet, plan_of, kept_of, sheet_of}
use Rattle.file_journal_take.proofs.Laws.{going_start, going_on, going_refused, going_done}
use Rattle.file_journal_take.proofs.feed_entries.Goals as goal

pub loop-k-init : goal.loop-k-init
loop-k-init c = going_start _ _ _

pub returns-then-refusal-ne0 : goal.returns-then-refusal-ne0
returns-then-refusal-ne0 c =
    let s = c.args in
    let n = c.feed_entry-refusal.new in
    let after : Sheet = sheet_of (plan_of s.rows s.columns n.coefs n.costs n.lowers n.uppers n.lower_marks n.upper_marks n.rhs s.ops.now n.amounts n.mults) (kept_of n.r n.d n.c n.b n.counts) in
    going_refused c.loop-k.invariant after c.entry_from-n.result c.feed_entry-refusal.result c.loop-k-test.true c.entry_from-n.ensures c.feed_entry-refusal.ensures c.if-refusal-ne0.true

pub loop-k-preserved : goal.loop-k-preserved
loop-k-preserved c =
    let s = c.args in
    let n = c.feed_entry-refusal.new in
    let k = c.feed_entry-refusal.auto in
    let after : Sheet = sheet_of (plan_of s.rows s.columns n.coefs n.costs n.lowers n.uppers n.lower_marks n.upper_marks n.rhs s.ops.now n.amounts n.mults) (kept_of n.r n.d n.c n.b n.counts) in
    going_on c.loop-k.invariant after c.entry_from-n.result c.feed_entry-refusal.result c.loop-k-test.true c.entry_from-n.ensures c.feed_entry-refusal.ensures c.if-refusal-ne0.false (λ i. k.coefs i ∷ k.costs i ∷ k.lowers i ∷ k.uppers i ∷ k.lower_marks i ∷ k.upper_marks i ∷ k.rhs i ∷ k.amounts i ∷ k.mults i ∷ k.r i ∷ k.d i ∷ k.c i ∷ k.b i ∷ k.counts i ∷ [])

pub returns : goal.returns
returns c = going_done c.loop-k.invariant (omega arith)
