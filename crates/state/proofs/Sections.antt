-- A section of a list that is lent and comes back, or is written at one place: it changes and no other does, and the
-- length stays. Over any element type, place and width. Assumes nothing.
use mathlib.Core.List.{List, ◌++◌}
use mathlib.Core.Path.{◌≡◌, ap, sym, ◌∙◌}
use Prim.Native.Nat.{ℕ, ◌+◌, ◌-◌, ◌<◌, ◌≤◌}
use native.Mathlib.Omega.{arith}
use lib.ListN.{length, get_or, set, take, drop, length-drop, length-set, take-append-drop}
use lib.Seq.{get_or-take, get_or-drop, length-take-le, take_at, drop_at, take-append-le, take-take, take-add, drop-append-le, drop-append-add, drop-drop, drop-set-add, drop-set-lt, take-set-lt, take-set-le}
use borrow.Rule.Slice.PartMut.{put_mid, same_len_mid}
use Rattle.state.specs.Packed.{section}

module _ {A : Type 0} where
  pub early : (p q : List A) (b j : ℕ) → b + j ≤ length p → take j (drop b (p ++ q)) ≡ take j (drop b p)
  early p q b j h =
      let h1 : b ≤ length p = omega arith in
      let h2 : j ≤ length (drop b p) = simp length-drop (omega arith) in
      ap (λ (l : List A). take j l) (drop-append-le b p q h1) ∙ take-append-le j (drop b p) q h2

  late : (p q : List A) (b : ℕ) → length p ≤ b → drop b (p ++ q) ≡ drop (b - length p) q
  late p q b h =
      let z : b ≡ length p + (b - length p) = omega arith in
      ap (λ (n : ℕ). drop n (p ++ q)) z ∙ drop-append-add p q (b - length p)

  pub section_length : (a k : ℕ) (xs : List A) → a + k ≤ length xs → length (section a k xs) ≡ k
  section_length a k xs h = length-take-le k (drop a xs) (simp length-drop (omega arith))

  pub section_at : (a k : ℕ) (xs : List A) (i : ℕ) (d : A) → i < k → get_or (section a k xs) i d ≡ get_or xs (a + i) d
  section_at a k xs i d h = get_or-take k (drop a xs) i d h ∙ get_or-drop a xs i d

  -- what is lent by `&xs[a + u..a + k]` is the section from u on
  pub section_tail : (a k u j : ℕ) (xs : List A) → u + j ≡ k → a + k ≤ length xs → section (a + u) j xs ≡ drop u (section a k xs)
  section_tail a k u j xs e fits =
      sym (ap (λ (n : ℕ). drop u (take n (drop a xs))) (sym e) ∙ ap (drop u) (take-add u j (drop a xs))
      ∙ drop_at (take u (drop a xs)) (take j (drop u (drop a xs))) u (section_length a u xs (omega arith)) ∙ ap (take j) (drop-drop u a xs))

  -- a list is its section and what stands after it
  pub glue : (a k : ℕ) (xs : List A) → drop a xs ≡ section a k xs ++ drop (a + k) xs
  glue a k xs = sym (take-append-drop k (drop a xs)) ∙ ap (λ (l : List A). section a k xs ++ l) (drop-drop k a xs)

  -- a section lent, which comes back as ys
  module _ (a k : ℕ) (ys xs : List A) (fits : a + k ≤ length xs) (same : length ys ≡ k) where
    front : length (take a xs) ≡ a
    front = length-take-le a xs (omega arith)

    put_here : section a k (put_mid a k xs ys) ≡ ys
    put_here = ap (λ (l : List A). take k l) (drop_at (take a xs) (ys ++ drop k (drop a xs)) a front) ∙ take_at ys (drop k (drop a xs)) k same

    put_before : (b j : ℕ) → b + j ≤ a → section b j (put_mid a k xs ys) ≡ section b j xs
    put_before b j h =
        let f : b + j ≤ length (take a xs) = omega (arith, front) in
        early (take a xs) (ys ++ drop k (drop a xs)) b j f ∙ sym (early (take a xs) (drop a xs) b j f) ∙ ap (λ (l : List A). section b j l) (take-append-drop a xs)

    put_after : (b j : ℕ) → a + k ≤ b → section b j (put_mid a k xs ys) ≡ section b j xs
    put_after b j h =
        let f : length (take a xs) ≤ b = omega (arith, front) in
        let g : length ys ≤ b - length (take a xs) = omega (arith, front) in
        let z : a + (k + (b - length (take a xs) - length ys)) ≡ b = omega (arith, front) in
        ap (λ (l : List A). take j l)
        (late (take a xs) (ys ++ drop k (drop a xs)) b f ∙ late ys (drop k (drop a xs)) (b - length (take a xs)) g
        ∙ drop-drop (b - length (take a xs) - length ys) k (drop a xs) ∙ drop-drop (k + (b - length (take a xs) - length ys)) a xs
        ∙ ap (λ (n : ℕ). drop n xs) z)

  -- a cell written
  set_here : (a k i : ℕ) (v : A) (xs : List A) → i < k → section a k (set xs (a + i) v) ≡ set (section a k xs) i v
  set_here a k i v xs h = ap (λ (l : List A). take k l) (drop-set-add a xs i v) ∙ take-set-lt k (drop a xs) i v h

  set_before : (b j i : ℕ) (v : A) (xs : List A) → b + j ≤ i → section b j (set xs i v) ≡ section b j xs
  set_before b j i v xs h =
      let z : i ≡ b + (i - b) = omega arith in
      ap (λ (n : ℕ). section b j (set xs n v)) z ∙ ap (λ (l : List A). take j l) (drop-set-add b xs (i - b) v) ∙ take-set-le j (drop b xs) (i - b) v (omega arith)

  set_after : (b j i : ℕ) (v : A) (xs : List A) → i < b → section b j (set xs i v) ≡ section b j xs
  set_after b j i v xs h = ap (λ (l : List A). take j l) (drop-set-lt b xs i v h)

-- ys is xs with f of the section of k cells from a on in its place
pub record Changed {A : Type 0} (a k : ℕ) (f : List A → List A) (xs ys : List A) : Type 0 where
  pub here : section a k ys ≡ f (section a k xs)
  pub before : (b j : ℕ) → b + j ≤ a → section b j ys ≡ section b j xs
  pub after : (b j : ℕ) → a + k ≤ b → section b j ys ≡ section b j xs
  pub long : length ys ≡ length xs

module _ {A : Type 0} (a k : ℕ) (xs : List A) where
  pub lent : (f : List A → List A) (ys : List A) → a + k ≤ length xs → ys ≡ f (section a k xs) → length ys ≡ length (section a k xs) → Changed a k f xs (put_mid a k xs ys)
  lent f ys fits e same =
      let long : length ys ≡ k = same ∙ section_length a k xs fits in
      record { here = put_here a k ys xs fits long ∙ e; before = put_before a k ys xs fits long; after = put_after a k ys xs fits long; long = same_len_mid a k xs ys same }

  pub written : (i : ℕ) (v : A) → i < k → Changed a k (λ l. set l i v) xs (set xs (a + i) v)
  written i v h =
      record {
        here = set_here a k i v xs h;
        before = λ b j l. set_before b j (a + i) v xs (omega arith);
        after = λ b j l. set_after b j (a + i) v xs (omega arith);
        long = length-set xs (a + i) v;
      }

  -- the tail of a section lent, which comes back as ys
  pub tail_lent : (u j : ℕ) (ys : List A) → u + j ≡ k → a + k ≤ length xs → length ys ≡ length (section (a + u) j xs) → Changed a k (λ l. take u l ++ ys) xs (put_mid (a + u) j xs ys)
  tail_lent u j ys e fits same =
      let w : a + u + j ≤ length xs = omega arith in
      let long : length ys ≡ j = same ∙ section_length (a + u) j xs w in
      record {
        here =
            ap (λ (n : ℕ). section a n (put_mid (a + u) j xs ys)) (sym e) ∙ take-add u j (drop a (put_mid (a + u) j xs ys))
            ∙ ap (λ (l : List A). l ++ take j (drop u (drop a (put_mid (a + u) j xs ys)))) (put_before (a + u) j ys xs w long a u (omega arith) ∙ sym (take-take u k (drop a xs) (omega arith)))
            ∙ ap (λ (l : List A). take u (section a k xs) ++ l) (ap (take j) (drop-drop u a (put_mid (a + u) j xs ys)) ∙ put_here (a + u) j ys xs w long);
        before = λ b i l. put_before (a + u) j ys xs w long b i (omega arith);
        after = λ b i l. put_after (a + u) j ys xs w long b i (omega arith);
        long = same_len_mid (a + u) j xs ys same;
      }
