-- `file_block::clear` meets its contract. Assumes nothing.
use Rattle.std.proofs.Common.{rules, ◌≡◌, List, ◌-◌, ℕ, length, take, drop, replicate, arith}
use Rattle.file_block.proofs.Laws.{clear_whole}
use Rattle.file_block.proofs.clear.Goals as goal

pub returns : goal.returns
returns c =
    let part : List ℕ = take (c.args.to - c.args.from) (drop c.args.from c.args.out.now) in
    let e : c.fill.new.self ≡ replicate (length part) 0 = c.fill.ensures.after (λ y h. search rules) in
    clear_whole c.args.out.now c.fill.new.self c.args.from c.args.to (omega arith) (omega arith) e
