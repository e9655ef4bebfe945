-- 01: "Unlisted places count as 0.0". After an accepted sparse solve every value cell of the triangle is written, and a place that the walk does not
-- reach from a listed one holds 0.0, whatever it held. Assumes nothing.
use mathlib.Core.Path.{◌≡◌, refl, sym, ap, ◌∙◌}
use mathlib.Core.Bool.{Bool, true, false}
use mathlib.Core.List.{List}
use mathlib.Core.Logic.{⊎_elim}
use Prim.Native.Nat.{ℕ, ◌+◌, ◌<◌, ◌≤◌}
use native.Mathlib.Nat.{le_refl, eq-or-lt_of_le}
use native.Mathlib.Omega.{arith}
use lib.ListN.{length, get_or, set, length-set}
use lib.Seq.{get_or-set_same, get_or-set_other}
use lib.Ieee.{Float, nan}
use Rattle.doubles.specs.Num.{f0}
use Rattle.doubles.specs.Lists.{◌!◌, ◌#◌}
use Rattle.doubles.proofs.Loops.{keeps, keeps_down}
use Rattle.lu_walk.specs.Walk.{State, many, kid, graph_of, fresh, reached}
use Rattle.lu_walk.specs.Order.{stored, Reach, here, Has, Ordered}
use Rattle.lu_walk.proofs.Order.{walk_order}
use Rattle.lu_solve.specs.Solve.{Tri, own_of, off_turn, process_col, given, held_by, zero_turn, zeroed, back_turn, processed, sparse}
use Rattle.lu_solve.proofs.Laws.{given_marks, unnamed}
use Rattle.lu.proofs.Accepted.{accepted, at_zero}
use Rattle.lu.specs.Result.{sparse1, sparse2, sparse3, tri_solve_sparse}

-- ---- a place that no column touches keeps its number

other : (u : List Float) (c i : ℕ) (x y : Float) → (i ≡ c → ⊥) → u ! i ≡ y → set u c x ! i ≡ y
other u c i x y h e = get_or-set_other u c i x nan h ∙ e

process_other : (t : Tri) (i c : ℕ) (y : Float) (u : List Float) → (i ≡ c → ⊥) → ((j : ℕ) → j < many t.shape c → i ≡ kid t.shape c j → ⊥) → u ! i ≡ y → process_col t c u ! i ≡ y
unfolding process_col
process_other t i c y u h g e =
    keeps (off_turn t c (own_of t c u)) (set u c (own_of t c u)) (λ _ w. w ! i ≡ y) (many t.shape c)
    (λ j w l a. other w (kid t.shape c j) i _ y (g j l) a) (other u c i _ y h e) (many t.shape c) (le_refl (many t.shape c))

-- none of the finished places is i: neither is a child of one
module _ (t : Tri) (l : List ℕ) (n : ℕ) (o : Ordered (graph_of t.shape) (stored t.shape) l n (reached t.shape l n fresh)) (i : ℕ) (no : Has (reached t.shape l n fresh) i → ⊥) where
  abbrev w : State
  w = reached t.shape l n fresh

  processed_other : (y : Float) (u : List Float) → u ! i ≡ y → processed t w.done w.count u ! i ≡ y
  unfolding processed
  processed_other y u e =
      keeps_down (back_turn t w.done) (λ x. x ! i ≡ y) w.count
      (λ k x h a.
      process_other t i (w.done # k) y x
      (λ q. no (record { at = k; below = h; is = sym q }))
      (λ j g q. let b = o.children_first k j h g in no (record { at = b.0; below = omega (arith, b.1); is = b.2 ∙ sym q })) a)
      u e

-- ---- an unlisted place is made 0.0

record Zeroing (g : List Bool) (v : List Float) (i k : ℕ) (u : List Float) : Type 0 where
  long : length u ≡ length v
  after : i < k → u ! i ≡ held_by (get_or g i false) (v ! i)
  before : k ≤ i → u ! i ≡ v ! i

zeroing_turn : (g : List Bool) (v : List Float) (i k : ℕ) (u : List Float) → k < length v → Zeroing g v i k u → Zeroing g v i (k + 1) (zero_turn g k u)
zeroing_turn g v i k u h z =
    record {
      long = length-set u k _ ∙ z.long;
      after = λ l. ⊎_elim at_k (λ m. other u k i _ _ (λ (q : i ≡ k). omega arith) (z.after m)) (eq-or-lt_of_le (small l));
      before = λ l. other u k i _ _ (λ (q : i ≡ k). omega arith) (z.before (omega arith));
    }
  where
    small : i < k + 1 → i ≤ k
    small l = omega arith

    at_k : i ≡ k → zero_turn g k u ! i ≡ held_by (get_or g i false) (v ! i)
    at_k q = rw q (get_or-set_same u k _ nan (omega (arith, z.long)) ∙ ap (held_by (get_or g k false)) (rw q at (z.before (omega arith))))

zeroed_at : (g : List Bool) (n : ℕ) (v : List Float) (i : ℕ) → n ≤ length v → i < n → zeroed g n v ! i ≡ held_by (get_or g i false) (v ! i)
unfolding zeroed
zeroed_at g n v i h l =
    (keeps (zero_turn g) v (Zeroing g v i) n (λ k u m z. zeroing_turn g v i k u (omega arith) z)
    (record { long = refl; after = λ m. absurd (omega arith); before = λ m. refl }) n (le_refl n)).after l

-- ---- the theorem

pub unvisited_zero : (t : Tri) (e : ℕ) (l : List ℕ) (n : ℕ) (v : List Float) (i : ℕ) → (tri_solve_sparse t e l n v).number ≡ 0 → i < t.shape.size
    → ((j : ℕ) → j < n → Reach (graph_of t.shape) (l # j) i → ⊥) → (tri_solve_sparse t e l n v).values ! i ≡ f0
unfolding tri_solve_sparse sparse
unvisited_zero t e l n v i q h far =
    at_zero (sparse1 t e l n v) (sparse2 t e l n v) (sparse3 t l n) v l (sparse t l n v) (λ r. r.values ! i ≡ f0) q solved
  where
    solved : sparse1 t e l n v ≡ true → sparse3 t l n ≡ true → (sparse t l n v).values ! i ≡ f0
    solved a c =
        let b = accepted t e l n v a c in
        let k = b.numbers in
        let d = b.distinct in
        let o = walk_order t.shape l n k.columns d.listed in
        let m = given_marks l n (record { inside = λ j g. omega (arith, d.listed.places j g, k.columns.small) }) in
        let off : get_or (given l n) i false ≡ false = unnamed i m (λ j g r. far j g (rw r here)) in
        processed_other t l n o i (λ g. let r = o.only_reached g.at g.below in far r.0 r.1 (rw g.is at r.2)) f0 (zeroed (given l n) t.shape.size v)
        (zeroed_at (given l n) t.shape.size v i k.values_long h ∙ ap (λ (b : Bool). held_by b (v ! i)) off)
