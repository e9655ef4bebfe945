-- A loop over the first n items of a list, beside the loops of `specs/Loop.antt`, which go by indices. Assumes nothing.
use mathlib.Core.Path.{◌≡◌, refl, sym, ap, ◌∙◌}
use mathlib.Core.Bool.{Bool, true, false, ◌&&◌}
use mathlib.Core.List.{List, [], ◌∷◌}
use Prim.Native.Nat.{ℕ, zero, suc, ◌<◌, ◌≤◌}
use native.Mathlib.Omega.{arith}
use lib.ListN.{length, get_or, take}
use lib.Pointwise.{pointwise}
use lib.Seq.{get_or-take, length-take-le, take-length, take-suc}
use Rattle.std.specs.List.{list_all}
use Rattle.std.proofs.lemmas.List.Folds.{list_all-append}
use Rattle.doubles.specs.Loop.{run, all}
use Rattle.doubles.proofs.Loops.{done, all_done}

-- ---- a `for`: the item in hand is the list's own, its index is one of the n, and the loop ends after n of them
module _ {A : Type 0} (n : ℕ) (l : List A) where
  pub within : {k : ℕ} → n ≤ length l → k < length (take n l) → k < n
  within h t = let q : length (take n l) ≡ n = length-take-le n l h in omega arith

  pub upto : {k : ℕ} → n ≤ length l → k ≤ length (take n l) → k ≤ n
  upto h t = let q : length (take n l) ≡ n = length-take-le n l h in omega arith

  pub past : {k : ℕ} → n ≤ length l → length (take n l) ≤ k → n ≤ k
  past h t = let q : length (take n l) ≡ n = length-take-le n l h in omega arith

  pub item : {k : ℕ} → n ≤ length l → k < length (take n l) → (d : A) → get_or (take n l) k d ≡ get_or l k d
  item {k} h t d = get_or-take n l k d (within h t)

  pub done_items : {S : Type 0} (step : ℕ → S → S) (s₀ : S) {s : S} (k : ℕ) → n ≤ length l → k ≤ length (take n l) → length (take n l) ≤ k → s ≡ run step k s₀ → s ≡ run step n s₀
  done_items step s₀ k h a b e = done step s₀ k n (upto h a) (past h b) e

  pub all_done_items : (p : ℕ → Bool) (k : ℕ) → n ≤ length l → k ≤ length (take n l) → length (take n l) ≤ k → all k p ≡ true → all n p ≡ true
  all_done_items p k h a b e = all_done p k n (upto h a) (past h b) e

-- where the first n numbers are below m, so is the one in hand
pub item_below : {n m : ℕ} (l : List ℕ) {k : ℕ} → n ≤ length l → ((i : ℕ) → i < n → get_or l i 0 < m) → k < length (take n l) → get_or (take n l) k 0 < m
item_below {n} l {k} h f t = rw (item n l h t 0) (f k (within n l h t))

-- ---- `all` of the library, over items, is `all` over indices
and_last : (b : Bool) → (b && true) ≡ b
and_last true = refl
and_last false = refl

pub all_items : {A : Type 0} (p : A → Bool) (d : A) (l : List A) (n : ℕ) → n ≤ length l → list_all p (take n l) ≡ all n (λ k. p (get_or l k d))
unfolding all
all_items p d l zero h = refl
all_items p d l (suc n) h = rw (take-suc l n d (omega arith), list_all-append, and_last, all_items p d l n (omega arith)) refl

pub all_of_items : {A : Type 0} (p : A → Bool) (d : A) (l : List A) → list_all p l ≡ all (length l) (λ k. p (get_or l k d))
all_of_items p d l = ap (list_all p) (sym (take-length l)) ∙ all_items p d l (length l) (omega arith)

and_assoc : (a b c : Bool) → (a && b) && c ≡ a && (b && c)
and_assoc true b c = refl
and_assoc false b c = refl

all_front : (n : ℕ) (p : ℕ → Bool) → all (suc n) p ≡ p 0 && all n (λ k. p (suc k))
unfolding all
all_front zero p = sym (and_last (p 0))
all_front (suc n) p = ap (λ (b : Bool). b && p (suc n)) (all_front n p) ∙ and_assoc (p 0) (all n (λ k. p (suc k))) (p (suc n))

-- where the first n items of two lists are the same by a test, so are the items at each index below n
pub same_items : {A : Type 0} (E : A → A → Bool) (d : A) (l m : List A) (n : ℕ) → n ≤ length l → n ≤ length m → pointwise E (take n l) (take n m) ≡ all n (λ k. E (get_or l k d) (get_or m k d))
unfolding all
same_items E d l m zero h t = refl
same_items E d [] m (suc n) h t = absurd (omega arith)
same_items E d (x ∷ l) [] (suc n) h t = absurd (omega arith)
same_items E d (x ∷ l) (y ∷ m) (suc n) h t = ap (λ (b : Bool). E x y && b) (same_items E d l m n (omega arith) (omega arith)) ∙ sym (all_front n (λ k. E (get_or (x ∷ l) k d) (get_or (y ∷ m) k d)))
