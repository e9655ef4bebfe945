-- `lu_packed::put` meets its contract: one more is copied each turn. Assumes nothing.
use Rattle.std.proofs.Common.{ap, ◌∙◌, ◌+◌, set, arith}
use lib.Seq.{paste-zero}
use Rattle.lu_packed.proofs.Laws.{copied_more, copied_all}
use Rattle.lu_packed.proofs.put.Goals as goal

pub loop-k-init : goal.loop-k-init
loop-k-init g c = paste-zero c.args.to.now c.args.at c.args.from.now

pub loop-k-preserved : goal.loop-k-preserved
loop-k-preserved g c =
    ap (set c.loop-k.to (c.args.at + c.loop-k.k)) c.index-from-k.is
    ∙ copied_more c.args.at c.args.from.now c.args.to.now c.requires c.loop-k.k c.loop-k.invariant c.index-from-k.result c.loop-k-test.true

pub returns : goal.returns
returns g c = copied_all c.args.at c.args.from.now c.args.to.now c.requires c.loop-k.k c.loop-k.invariant (omega (arith, c.loop-k.auto.k-end, c.loop-k-test.false))
