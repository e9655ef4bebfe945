-- `file_write::put_bytes` meets its contract. Assumes nothing.
use Rattle.std.proofs.Common.{sym, ◌∙◌, arith}
use Rattle.file_write.proofs.Laws.{bytes_start, bytes_next, bytes_none}
use Rattle.file_write.proofs.put_bytes.Goals as goal

pub loop-k-init : goal.loop-k-init
loop-k-init c = bytes_start c.args.out.now c.args.bytes.now c.args.from c.args.count

pub loop-k-preserved : goal.loop-k-preserved
loop-k-preserved c =
    sym (bytes_next c.loop-k.out c.args.bytes.now c.args.from c.args.count c.loop-k.k (omega arith) (omega arith)) ∙ c.loop-k.invariant

pub returns : goal.returns
returns c = sym (bytes_none c.loop-k.out c.args.bytes.now c.args.from c.args.count c.loop-k.k (omega arith)) ∙ c.loop-k.invariant
