-- The laws of `Walked`: it leaves one list, it only appends, and the children of a finished place come in stored order.
-- Assumes nothing.
use mathlib.Core.Path.{◌≡◌, refl, sym, ap, ◌∙◌, subst}
use mathlib.Core.Bool.{Bool, true, false, ◌||◌}
use mathlib.Core.List.{List, [], ◌∷◌, ◌++◌, append-nil, append_assoc}
use mathlib.Core.Logic.{◌⊎◌, inl, inr, ⊎_elim}
use Prim.Native.Nat.{ℕ, zero, suc, ◌+◌, ◌<◌, ◌≤◌}
use native.Mathlib.Nat.{le_of_suc-le-suc}
use native.Mathlib.Omega.{arith}
use lib.ListN.{length, take, length-append, get_or-append}
use lib.Seq.{length-take-le, take-append-le, take-append_seam, take-take, get_or-append_seam, get_or-take, append_snoc}
use lib.Dec.{eqb, ltb}
use borrow.Author.Tests.{eqb-true, eqb-false, eq-eqb, ltb-true, ltb-false}
use Rattle.doubles.specs.Lists.{◌#◌}
use Rattle.doubles.proofs.Bools.{by_test, never}
use Rattle.lu_walk.specs.Order.{among, Walked, stop, again, first, Turn}

or_right : (a : Bool) {b : Bool} → b ≡ true → a || b ≡ true
or_right true e = refl
or_right false e = e

or_left : {a b : Bool} → a ≡ false → a || b ≡ true → b ≡ true
or_left {a} {b} f e = rw f at e

-- ---- a place that stands in a list

pub among_at : (l : List ℕ) (k : ℕ) → k < length l → among (l # k) l ≡ true
unfolding among
among_at [] k h = absurd (omega arith)
among_at (q ∷ l) zero h = rw (eq-eqb q q refl)
among_at (q ∷ l) (suc k) h = or_right (eqb (l # k) q) (among_at l k (le_of_suc-le-suc h))

pub among_where : (q : ℕ) (l : List ℕ) → among q l ≡ true → (k : ℕ) × (k < length l) × (l # k ≡ q)
unfolding among
among_where q [] e = never e refl
among_where q (p ∷ l) e = by_test (eqb q p)
    (λ t. (0, omega arith, sym (eqb-true q p t)))
    (λ t. let w = among_where q l (or_left t e) in (suc w.0, omega (arith, w.1), w.2))

-- ---- the walk

joined : (p : ℕ) (l x y : List ℕ) {k m : List ℕ} → k ≡ l ++ x → m ≡ k ++ (p ∷ []) ++ y → m ≡ l ++ (x ++ (p ∷ []) ++ y)
joined p l x y e f = f ∙ rw e (simp append_assoc)

-- the walk of the children of the place that stands at i among the finished ones
record Opened (kids : ℕ → List ℕ) (d : List ℕ) (i : ℕ) : Type 0 where
  begun : ℕ
  upto : begun ≤ i
  walk : Walked kids (take begun d) (kids (d # i)) (take i d)

module _ {kids : ℕ → List ℕ} where
  -- one list is left
  pub walked_same : {l ps m n : List ℕ} → Walked kids l ps m → Walked kids l ps n → m ≡ n
  walked_same stop stop = refl
  walked_same (again h a) (again g b) = walked_same a b
  walked_same (again h a) (first g c b) = never h g
  walked_same (first h c a) (again g b) = never g h
  walked_same (first {ps = ps} {m = m} {p = p} h c a) (first {m = n} g d b) = walked_same a
      (subst (λ (x : List ℕ). Walked kids (x ++ (p ∷ [])) ps n) (sym (walked_same c d)) b)

  -- one walk after another
  pub walked_then : {l ps m qs n : List ℕ} → Walked kids l ps m → Walked kids m qs n → Walked kids l (ps ++ qs) n
  walked_then stop b = b
  walked_then (again h a) b = again h (walked_then a b)
  walked_then (first h c a) b = first h c (walked_then a b)

  -- and the two apart again
  walked_apart : (ps : List ℕ) {l qs n : List ℕ} → Walked kids l (ps ++ qs) n
      → (m : List ℕ) × Walked kids l ps m × Walked kids m qs n
  walked_apart [] {l} w = (l, stop, w)
  walked_apart (p ∷ ps) (again h a) = let r = walked_apart ps a in (r.0, again h r.1, r.2)
  walked_apart (p ∷ ps) (first h c a) = let r = walked_apart ps a in (r.0, first h c r.1, r.2)

  -- what is finished stays where it was
  walked_grows : {l ps m : List ℕ} → Walked kids l ps m → (x : List ℕ) × (m ≡ l ++ x)
  walked_grows (stop {l = l}) = ([], sym (append-nil l))
  walked_grows (again h a) = walked_grows a
  walked_grows (first {l = l} {k = k} {p = p} h c a) =
      let x = walked_grows c in
      let y = walked_grows a in
      (x.0 ++ (p ∷ []) ++ y.0, joined p l x.0 y.0 x.1 y.1)

  length_grows : {l ps m : List ℕ} → Walked kids l ps m → length l ≤ length m
  length_grows {l} w = let x = walked_grows w in omega (arith, ap length x.1, length-append l x.0)

  take_grows : {l ps m : List ℕ} → Walked kids l ps m → take (length l) m ≡ l
  take_grows {l} w = let x = walked_grows w in ap (take (length l)) x.1 ∙ take-append_seam l x.0

  opened_longer : (k x : List ℕ) (i : ℕ) → i < length k → Opened kids k i → Opened kids (k ++ x) i
  opened_longer k x i h o =
      record {
        begun = o.begun;
        upto = o.upto;
        walk = rw (
          take-append-le o.begun k x (omega (arith, o.upto)),
          take-append-le i k x (omega arith),
          get_or-append k x 0 i h,
        ) o.walk;
      }

  opened : {l ps m : List ℕ} → Walked kids l ps m → (i : ℕ) → length l ≤ i → i < length m → Opened kids m i
  opened stop i a b = absurd (omega arith)
  opened (again h w) i a b = opened w i a b
  opened (first {l = l} {k = k} {ps = ps} {m = m} {p = p} h c w) i a b = by (opened c i a) (λ g. opened w i g b)
    where
      more : List ℕ
      more = (walked_grows w).0

      is : m ≡ k ++ (p ∷ more)
      is = (walked_grows w).1 ∙ append_snoc k p more

      end : length (k ++ (p ∷ [])) ≡ length k + 1
      end = length-append k (p ∷ [])

      at_end : i ≡ length k → Opened kids m i
      at_end e =
          record {
            begun = length l;
            upto = a;
            walk = rw (
              e,
              is,
              take-append-le (length l) k (p ∷ more) (length_grows c),
              take_grows c,
              get_or-append_seam k
                  p more 0,
              take-append_seam k (p ∷ more),
            ) c;
          }

      by : (i < length k → Opened kids k i) → (length (k ++ (p ∷ [])) ≤ i → Opened kids m i) → Opened kids m i
      by f g = by_test (ltb i (length k))
          (λ t. subst (λ (x : List ℕ). Opened kids x i) (sym is)
          (opened_longer k (p ∷ more) i (ltb-true _ _ t) (f (ltb-true _ _ t))))
          (λ t. by_test (eqb i (length k)) (λ e. at_end (eqb-true _ _ e))
          (λ e. g (omega (arith, end, ltb-false i (length k) t, eqb-false i (length k) e))))

  -- a place whose turn comes is finished already, or is finished behind what is
  behind : {l : List ℕ} {q : ℕ} {rs m : List ℕ} → Walked kids l (q ∷ rs) m
      → (among q l ≡ true) ⊎ ((k : ℕ) × (length l ≤ k) × (k < length m) × (m # k ≡ q))
  behind (again h w) = inl h
  behind (first {k = k} {p = q} h c w) =
      let x = walked_grows w in
      inr (
        length k,
        length_grows c,
        omega (arith, length_grows w, length-append k (q ∷ [])),
        ap
            (λ (d : List ℕ). d # (length k)) (x.1 ∙ append_snoc k q x.0) ∙ get_or-append_seam k q x.0 0,
      )

  -- the children of a finished place come in stored order
  pub turned : {l ps m : List ℕ} → Walked kids l ps m → (i : ℕ) → length l ≤ i → i < length m
      → (es : List ℕ) (q : ℕ) (rs : List ℕ) → kids (m # i) ≡ es ++ (q ∷ rs) → Turn kids m i es q
  turned {l} {ps} {m} w i a b es q rs e = by (walked_apart es (rw e at o.walk))
    where
      o : Opened kids m i
      o = opened w i a b

      len : (j : ℕ) → j ≤ i → length (take j m) ≡ j
      len j h = length-take-le j m (omega arith)

      by : (k : List ℕ) × Walked kids (take o.begun m) es k × Walked kids k (q ∷ rs) (take i m) → Turn kids m i es q
      by t =
          let k = t.0 in
          let low : o.begun ≤ length k = omega (arith, length_grows t.1, len o.begun o.upto) in
          let high : length k ≤ i = omega (arith, length_grows t.2, len i (omega arith)) in
          let same : take (length k) m ≡ k = sym (take-take (length k) i m high) ∙ take_grows t.2 in
          record {
            begun = o.begun;
            came = length k;
            in_turn = (low, high);
            earlier = rw same t.1;
            later = rw same (⊎_elim
                (λ h. inl h)
                (λ h. let up : h.0 < i = omega (arith, h.2, len i (omega arith)) in inr
                (h.0, h.1, up, sym (get_or-take i m h.0 0 up) ∙ h.3))
                (behind t.2));
          }
