-- `file_write::put_numbers` meets its contract. Assumes nothing.
use Rattle.std.proofs.Common.{◌≡◌, sym, ap, ◌∙◌, List, ◌+◌, ◌*◌, ◌-◌, ◌≤◌, ℕ, ℤ, get_or, rules, length, take, drop, arith}
use lib.ListN.{length-drop}
use lib.IntN.{pos}
use lib.Seq.{sets, get_or-take, get_or-drop, length-take-le}
use mir.Syntax.{w64}
use mir.Val.{to_z, of_z}
use Rattle.file_rules.specs.Bytes.{little, word_of, encode}
use Rattle.sheet_rules.specs.Sum.{◌‼◌}
use Rattle.file_write.proofs.Laws.{numbers_start, numbers_next, numbers_none}
use Rattle.file_write.proofs.put_numbers.Goals as goal

-- as many numbers as are put
size : (l : List ℤ) (from count : ℕ) → from + count ≤ length l → length (take (from + count - from) (drop from l)) ≡ count
size l from count h = let d = length-drop from l in length-take-le (from + count - from) (drop from l) (omega arith) ∙ omega arith

pub loop-k-init : goal.loop-k-init
loop-k-init c = numbers_start c.args.out.now c.args.numbers.now c.args.from c.args.count

pub loop-k-preserved : goal.loop-k-preserved
loop-k-preserved c =
    let s = size c.args.numbers.now c.args.from c.args.count (omega arith) in
    let n : ℕ = c.args.from + c.args.count - c.args.from in
    let k : ℕ = c.loop-k.k in
    let z : ℤ = c.args.numbers.now ‼ (c.args.from + k) in
    let i : get_or (take n (drop c.args.from c.args.numbers.now)) k (pos 0) ≡ z = get_or-take n (drop c.args.from c.args.numbers.now) k (pos 0) (omega arith) ∙ get_or-drop c.args.from c.args.numbers.now k (pos 0) in
    let f : to_z w64 (of_z w64 (get_or (take n (drop c.args.from c.args.numbers.now)) k (pos 0))) ≡ get_or (take n (drop c.args.from c.args.numbers.now)) k (pos 0) = search rules in
    let w : c.word_of.result ≡ word_of z = c.word_of.ensures ∙ ap word_of (f ∙ i) in
    let p : c.put_little.new.out ≡ sets c.loop-k.out (3 + 8 * k) (little 8 (word_of z)) = c.put_little.ensures ∙ ap (λ (x : ℕ). sets c.loop-k.out (3 + 8 * k) (little 8 x)) w in
    ap (λ (l : List ℕ). sets l (3 + 8 * (k + 1)) (encode (take (c.args.count - (k + 1)) (drop (c.args.from + (k + 1)) c.args.numbers.now)))) p
    ∙ sym (numbers_next c.loop-k.out c.args.numbers.now c.args.from c.args.count k (omega arith) (omega arith))
    ∙ c.loop-k.invariant

pub returns : goal.returns
returns c =
    let s = size c.args.numbers.now c.args.from c.args.count (omega arith) in
    sym (numbers_none c.loop-k.out c.args.numbers.now c.args.from c.args.count c.loop-k.k (omega arith)) ∙ c.loop-k.invariant
