-- `file_bytes::get_little` meets its contract. Assumes nothing.
use Rattle.std.proofs.Common.{◌≡◌, ap₂, ◌∙◌, ◌+◌, ◌*◌, ◌-◌, ◌^◌, ◌≤◌, ◌<◌, ℕ, List, take, drop, get_or, length, arith}
use Rattle.file_rules.specs.Bytes.{value}
use Rattle.file_bytes.proofs.Laws.{get_start, get_next, get_end, get_small}
use Rattle.file_bytes.proofs.get_little.Goals as goal

small : (b : List ℕ) (at n i w : ℕ) → w ≡ value (take (n - i) (drop (at + i) b)) → ((k : ℕ) → get_or b k 0 < 256) → n ≤ 8 → 0 < i → i ≤ n → at + n ≤ length b → w < 256 ^ 7
small b at n i w e k h l g f = rw e (get_small b at n i k h l g f)

pub loop-i-init : goal.loop-i-init
loop-i-init c = get_start c.args.b.now c.args.at c.args.n

pub overflow_mul-w : goal.overflow_mul-w
overflow_mul-w c =
    let s = small c.args.b.now c.args.at c.args.n c.loop-i.i c.loop-i.w c.loop-i.invariant (λ k. omega (arith, c.type_inv.b k)) (omega arith) (omega arith) (omega arith) (omega arith) in
    omega arith

pub overflow_add-w : goal.overflow_add-w
overflow_add-w c =
    let s = small c.args.b.now c.args.at c.args.n c.loop-i.i c.loop-i.w c.loop-i.invariant (λ k. omega (arith, c.type_inv.b k)) (omega arith) (omega arith) (omega arith) (omega arith) in
    omega (arith, c.wide.ensures, c.type_inv.b (c.args.at + (c.loop-i.i - 1)))

pub loop-i-preserved : goal.loop-i-preserved
loop-i-preserved c = ap₂ (λ (x y : ℕ). x * 256 + y) c.loop-i.invariant c.wide.ensures ∙ get_next c.args.b.now c.args.at c.args.n c.loop-i.i (omega arith) (omega arith) (omega arith)

pub returns : goal.returns
returns c = c.loop-i.invariant ∙ get_end c.args.b.now c.args.at c.args.n c.loop-i.i (omega arith)
