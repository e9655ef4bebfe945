-- `start_norms::clear_norms` meets its contract. Assumes nothing.
use mathlib.Core.Path.{◌≡◌, refl, sym, ap, ◌∙◌}
use mathlib.Core.List.{List, ◌∷◌, ◌++◌}
use Prim.Native.Nat.{ℕ, zero, suc, ◌≤◌}
use native.Mathlib.Omega.{arith}
use lib.ListN.{length, take, drop, replicate}
use lib.Seq.{length-take-le}
use borrow.Author.Rules.{rules}
use Rattle.doubles.specs.Num.{f0}
use Rattle.doubles.specs.Loop.{tab, table}
use Rattle.doubles.specs.Lists.{over}
use Rattle.doubles.proofs.Loops.{length_tab}
use Rattle.start_norms.proofs.clear_norms.Goals as goal

-- One value written n times is a table of it.
copies : {A : Type 0} (n i : ℕ) (x : A) → replicate n x ≡ tab n i (λ _. x)
unfolding tab
copies zero i x = refl
copies (suc n) i x = ap (λ l. x ∷ l) (copies n (suc i) x)

filled_front : {A : Type 0} (n : ℕ) (x : A) (xs l : List A) → n ≤ length l → xs ≡ replicate (length (take n l)) x → xs ++ drop n l ≡ over (table n (λ _. x)) l
filled_front n x xs l h e =
    ap (λ t. t ++ drop n l) (e ∙ ap (λ (k : ℕ). replicate k x) (length-take-le n l h) ∙ copies n 0 x)
    ∙ ap (λ (k : ℕ). table n (λ _. x) ++ drop k l) (sym (length_tab n 0 (λ _. x)))

pub returns : goal.returns
returns c = filled_front c.args.n f0 c.fill.new.self c.args.norms.now (omega arith) (c.fill.ensures.after (λ y h. search rules))
