-- Laws of lists that the invariants lean on: a part of a list, the front written over, and one more at the end. Assumes nothing.
use mathlib.Core.Path.{◌≡◌, refl, sym, ap, ◌∙◌}
use mathlib.Core.Bool.{Bool, true, false}
use mathlib.Core.List.{List, [], ◌∷◌, ◌++◌}
use mathlib.Core.Logic.{⊎_elim}
use Prim.Native.Nat.{ℕ, ◌+◌, ◌-◌, ◌<◌, ◌≤◌}
use native.Mathlib.Nat.{eq-or-lt_of_le}
use native.Mathlib.Omega.{arith}
use lib.ListN.{length, get_or, set, take, drop, length-append, length-drop, get_or-append}
use lib.Seq.{length-take-le, get_or-take, get_or-drop, get_or-append_seam, drop_at, drop-drop, drop-append-add, get_or-append-add, get_or-set_same, get_or-set_other, set_out}
use lib.Dec.{eqb, ltb}
use borrow.Author.Tests.{eqb-true, eqb-false, ltb-true, ltb-false}
use Rattle.doubles.specs.Loop.{table}
use Rattle.doubles.specs.Lists.{part, over}
use Rattle.doubles.proofs.Loops.{length_tab, get_d_table}

-- what holds at each index below n, and at n
pub below_or_at : (Q : ℕ → Type 0) (n : ℕ) → ((k : ℕ) → k < n → Q k) → Q n → (k : ℕ) → k < n + 1 → Q k
below_or_at Q n a b k h = ⊎_elim (λ (q : k ≡ n). rw q b) (λ l. a k l) (eq-or-lt_of_le (omega arith))

module _ {A : Type 0} where
  pub part_long : (a b : ℕ) (l : List A) → b ≤ length l → length (part a b l) ≡ b - a
  part_long a b l h = length-take-le (b - a) (drop a l) (simp length-drop (omega arith))

  pub part_at : (a b : ℕ) (l : List A) (k : ℕ) (d : A) → k < b - a → get_or (part a b l) k d ≡ get_or l (a + k) d
  part_at a b l k d h = get_or-take (b - a) (drop a l) k d h ∙ get_or-drop a l k d

  -- one more at the end
  pub length_snoc : (l : List A) (x : A) → length (l ++ (x ∷ [])) ≡ length l + 1
  length_snoc l x = length-append l (x ∷ [])

  pub snoc_at : (Q : ℕ → A → Type 0) (l : List A) (x d : A) → ((k : ℕ) → k < length l → Q k (get_or l k d)) → Q (length l) x → (k : ℕ) → k < length (l ++ (x ∷ [])) → Q k (get_or (l ++ (x ∷ [])) k d)
  snoc_at Q l x d a b k h =
      below_or_at (λ k. Q k (get_or (l ++ (x ∷ [])) k d)) (length l)
      (λ k g. rw (get_or-append l (x ∷ []) d k g) (a k g)) (rw (get_or-append_seam l x [] d) b)
      k (omega (arith, length_snoc l x))

  -- a table written over the front
  pub over_long : (n : ℕ) (f : ℕ → A) (l : List A) → n ≤ length l → length (over (table n f) l) ≡ length l
  over_long n f l h = omega (arith, length-append (table n f) (drop (length (table n f)) l), length-drop (length (table n f)) l, length_tab n 0 f)

  pub over_enough : (n : ℕ) (f : ℕ → A) (l : List A) → n ≤ length l → n ≤ length (over (table n f) l)
  over_enough n f l h = omega (arith, over_long n f l h)

  pub over_at : (n : ℕ) (f : ℕ → A) (l : List A) (d : A) (k : ℕ) → k < n → get_or (over (table n f) l) k d ≡ f k
  over_at n f l d k h = get_or-append (table n f) (drop (length (table n f)) l) d k (omega (arith, length_tab n 0 f)) ∙ get_d_table n f d k h

  pub over_tail : (n : ℕ) (f : ℕ → A) (l : List A) → drop n (over (table n f) l) ≡ drop n l
  over_tail n f l = drop_at (table n f) (drop (length (table n f)) l) n (length_tab n 0 f) ∙ ap (λ (k : ℕ). drop k l) (length_tab n 0 f)

  -- f 0, .. f (k - 1) written from u on
  abbrev pub spliced : ℕ → ℕ → (ℕ → A) → List A → List A
  spliced u k f l = take u l ++ over (table k f) (drop u l)

  module _ (u k : ℕ) (f : ℕ → A) (l : List A) (h : u + k ≤ length l) where
    front_long : length (take u l) ≡ u
    front_long = length-take-le u l (omega arith)

    rest_long : k ≤ length (drop u l)
    rest_long = omega (arith, length-drop u l)

    pub spliced_long : length (spliced u k f l) ≡ length l
    spliced_long =
        omega (arith, length-append (take u l) (over (table k f) (drop u l)), front_long, over_long k f (drop u l) rest_long, length-drop u l)

    pub spliced_before : (d : A) (i : ℕ) → i < u → get_or (spliced u k f l) i d ≡ get_or l i d
    spliced_before d i g = get_or-append (take u l) (over (table k f) (drop u l)) d i (omega (arith, front_long)) ∙ get_or-take u l i d g

    pub spliced_at : (d : A) (i : ℕ) → u ≤ i → i < u + k → get_or (spliced u k f l) i d ≡ f (i - u)
    spliced_at d i a b =
        let q : i ≡ length (take u l) + (i - u) = omega (arith, front_long) in
        ap (λ (j : ℕ). get_or (spliced u k f l) j d) q
        ∙ get_or-append-add (take u l) (over (table k f) (drop u l)) (i - u) d
        ∙ over_at k f (drop u l) d (i - u) (omega arith)

    -- what holds of the cells before u, and of what is written, holds of all
    pub spliced_all : (Q : A → Type 0) (d : A) → ((i : ℕ) → i < u → Q (get_or l i d)) → ((i : ℕ) → i < k → Q (f i)) → (i : ℕ) → i < u + k → Q (get_or (spliced u k f l) i d)
    spliced_all Q d a b i g = go (ltb i u) refl
      where
        go : (t : Bool) → ltb i u ≡ t → Q (get_or (spliced u k f l) i d)
        go true e = let p = ltb-true i u e in rw (spliced_before d i p) (a i p)
        go false e = let p = ltb-false i u e in rw (spliced_at d i p g) (b (i - u) (omega arith))

    pub spliced_tail : drop (u + k) (spliced u k f l) ≡ drop (u + k) l
    spliced_tail =
        ap (λ (j : ℕ). drop (j + k) (spliced u k f l)) (sym front_long)
        ∙ drop-append-add (take u l) (over (table k f) (drop u l)) k
        ∙ over_tail k f (drop u l)
        ∙ drop-drop k u l

  -- a cell after a store: the new one, or what was there
  pub set_either : (Q : A → Type 0) (l : List A) (i : ℕ) (x d : A) (k : ℕ) → Q x → Q (get_or l k d) → Q (get_or (set l i x) k d)
  set_either Q l i x d k a b = go (eqb k i) refl (ltb i (length l)) refl
    where
      go : (t : Bool) → eqb k i ≡ t → (u : Bool) → ltb i (length l) ≡ u → Q (get_or (set l i x) k d)
      go false e u f = rw (get_or-set_other l i k x d (eqb-false k i e)) b
      go true e true f = rw (eqb-true k i e, get_or-set_same l i x d (ltb-true i (length l) f)) a
      go true e false f = rw (set_out l i x (ltb-false i (length l) f)) b
