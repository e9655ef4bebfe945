-- An array with numbers written over its front: those numbers, and past them what was there. Assumes nothing.
use mathlib.Core.Path.{◌≡◌, refl, sym, ap₂, ◌∙◌}
use mathlib.Core.List.{List, [], ◌∷◌}
use Prim.Native.Nat.{ℕ, suc, ◌+◌, ◌-◌, ◌≤◌, ◌<◌}
use native.Mathlib.Omega.{arith}
use lib.ListN.{length, drop, length-append, length-drop, get_or-append}
use lib.Seq.{get_or-append-add, get_or-drop}
use lib.IntN.{ℤ, pos}
use Rattle.doubles.specs.Loop.{table}
use Rattle.doubles.specs.Lists.{over}
use Rattle.doubles.proofs.Loops.{length_tab, get_d_table}
use Rattle.sheet_rules.specs.Sum.{◌‼◌}

pub over_length : {A : Type 0} (f l : List A) → length f ≤ length l → length (over f l) ≡ length l
over_length f l h = simp (length-append, length-drop) (omega arith)

-- what was written
pub front : (n : ℕ) (f : ℕ → ℤ) (l : List ℤ) (i : ℕ) → i < n → over (table n f) l ‼ i ≡ f i
front n f l i h =
    get_or-append (table n f) (drop (length (table n f)) l) (pos 0) i (rw (length_tab n 0 f) h)
    ∙ get_d_table n f (pos 0) i h

-- what stands past it
pub past : (f l : List ℤ) (k : ℕ) → length f ≤ k → over f l ‼ k ≡ l ‼ k
past f l k h =
    let n : ℕ = k - length f in
    let e : k ≡ length f + n = omega arith in
    rw e (get_or-append-add f (drop (length f) l) n (pos 0) ∙ get_or-drop (length f) l n (pos 0))

-- numbers that stand there already: writing them changes no cell
pub over_there : (f l : List ℤ) → length f ≤ length l
    → ((i : ℕ) → i < length f → l ‼ i ≡ f ‼ i) → over f l ≡ l
over_there [] l h e = refl
over_there (y ∷ f) [] h e = absurd (omega arith)
over_there (y ∷ f) (z ∷ l) h e =
    ap₂ ◌∷◌ (sym (e 0 (omega arith))) (over_there f l (omega arith) (λ i k. e (suc i) (omega arith)))

pub front_there : (n : ℕ) (f : ℕ → ℤ) (l : List ℤ) → n ≤ length l
    → ((i : ℕ) → i < n → l ‼ i ≡ f i) → over (table n f) l ≡ l
front_there n f l h e =
    over_there (table n f) l (rw (length_tab n 0 f) h) (λ i k.
    let j : i < n = rw (length_tab n 0 f) at k in
    e i j ∙ sym (get_d_table n f (pos 0) i j))
