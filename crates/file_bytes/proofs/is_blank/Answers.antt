-- `file_bytes::is_blank` meets its contract. Assumes nothing.
use Rattle.std.proofs.Common.{rules, ◌≡◌, refl, sym, ap, ◌∙◌, List, [], ◌∷◌, ◌+◌, ◌-◌, ◌≤◌, ℕ, nat_eq, drop, take, arith}
use Rattle.std.proofs.lemmas.List.{drop-take}
use Rattle.std.proofs.lemmas.Iterator.{YieldsList-from_slice}
use Rattle.std.proofs.lemmas.Iterator.Search.{all_from_yields_List}
use Rattle.std.specs.List.{list_all}
use borrow.Author.Tests.{tests}
use mathlib.Core.Bool.{Bool, ◌&&◌}
use Rattle.file_rules.specs.Block.{blank}
use Rattle.file_bytes.proofs.is_blank.Goals as goal

-- a blank is a list of zeros
blank_is : (l : List ℕ) → list_all (λ b. nat_eq b 0) l ≡ blank l
unfolding blank
blank_is [] = refl
blank_is (b ∷ l) = ap (λ (r : Bool). nat_eq b 0 && r) (blank_is l)

part_is : (b : List ℕ) (from to : ℕ) → from ≤ to → take (to - from) (drop from b) ≡ drop from (take to b)
part_is b from to h = let e : to ≡ from + (to - from) = omega arith in sym (ap (λ (k : ℕ). drop from (take k b)) e ∙ drop-take from (to - from) b)

pub returns : goal.returns
returns c =
    let part = take (c.args.to - c.args.from) (drop c.args.from c.args.b.now) in
    all_from_yields_List (λ b. nat_eq b 0) _ _ _ c.all.ensures.ran (YieldsList-from_slice part cc) (λ x b q k. search (rules, tests))
    ∙ blank_is part
    ∙ ap blank (part_is c.args.b.now c.args.from c.args.to (omega arith))
