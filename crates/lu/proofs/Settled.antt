-- The contracts settle the answer and every lent cell. 01: "Any two results allowed by a promise are shown equal"; "NaN results count as one": a NaN is one
-- datum here, so equal data are equal bits but for a NaN's. Assumes nothing.
use mathlib.Core.Path.{◌≡◌, refl, sym, ap, ◌∙◌}
use mathlib.Core.Bool.{Bool, true, false}
use mathlib.Core.List.{List, []}
use Prim.Native.Nat.{ℕ, ◌<◌, ◌≤◌}
use native.Mathlib.Nat.{le_refl}
use native.Mathlib.Omega.{arith}
use lib.ListN.{length, get_or, set, length-set}
use lib.Seq.{get_or-set_other}
use lib.Ieee.{Float, nan}
use Rattle.doubles.specs.Limits.{max_rows}
use Rattle.doubles.specs.Lists.{◌!◌, ◌#◌}
use Rattle.doubles.proofs.Loops.{both_true, keeps, keeps_down}
use Rattle.sparse.specs.Scattered.{Pat, pat, touched, touched_by}
use Rattle.lu_walk.specs.Walk.{State, many, kid, fresh, reached}
use Rattle.lu_solve.specs.Solve.{Tri, Out, out, own_of, off_turn, process_col, dense_by, dense, given, zero_turn, zeroed, back_turn, processed, grow_turn, grown, sparse, Numbers, Places, Grows}
use Rattle.lu_solve.proofs.Laws.{length_dense, numbers_kept, places_reached, grows_given, grows_touched, room_below}
use Rattle.lu_gate.specs.Gate.{ok_triangle}
use Rattle.lu_gate.proofs.Laws.{told, numbers_told}
use Rattle.lu.proofs.Accepted.{accepted}
use Rattle.lu.specs.Result.{Result, result_of, number_of, places_of, lowest, sparse1, sparse2, sparse3, dense2, factors1, factors2, tri_solve_sparse, tri_solve_dense, solve_dense}
use Rattle.lu.specs.declared.Answer.{Answer}
use Rattle.lu.specs.declared.Answer.TheVariants.{Solved, BadTriangle, NotFinite, BadList}

-- ---- two results that the contract allows are equal

same_answer : (a b : Answer) → number_of a ≡ number_of b → places_of a ≡ places_of b → a ≡ b
same_answer (Solved n) (Solved m) e f = ap Solved f
same_answer BadTriangle BadTriangle e f = refl
same_answer NotFinite NotFinite e f = refl
same_answer BadList BadList e f = refl
same_answer (Solved n) BadTriangle e f = absurd (omega arith)
same_answer (Solved n) NotFinite e f = absurd (omega arith)
same_answer (Solved n) BadList e f = absurd (omega arith)
same_answer BadTriangle (Solved m) e f = absurd (omega arith)
same_answer BadTriangle NotFinite e f = absurd (omega arith)
same_answer BadTriangle BadList e f = absurd (omega arith)
same_answer NotFinite (Solved m) e f = absurd (omega arith)
same_answer NotFinite BadTriangle e f = absurd (omega arith)
same_answer NotFinite BadList e f = absurd (omega arith)
same_answer BadList (Solved m) e f = absurd (omega arith)
same_answer BadList BadTriangle e f = absurd (omega arith)
same_answer BadList NotFinite e f = absurd (omega arith)

equal : (a b : Answer) (v w : List Float) (l m : List ℕ) → result_of a v l ≡ result_of b w m → (a ≡ b) × (v ≡ w) × (l ≡ m)
equal a b v w l m e = (same_answer a b (ap (λ (r : Result). r.number) e) (ap (λ (r : Result). r.places) e), ap (λ (r : Result). r.values) e, ap (λ (r : Result). r.list) e)

module _ (t : Tri) (e : ℕ) (v₀ : List Float) where
  pub sparse_settled : (l₀ : List ℕ) (n : ℕ) (a b : Answer) (v w : List Float) (l m : List ℕ) → result_of a v l ≡ tri_solve_sparse t e l₀ n v₀ → result_of b w m ≡ tri_solve_sparse t e l₀ n v₀
      → (a ≡ b) × (v ≡ w) × (l ≡ m)
  sparse_settled l₀ n a b v w l m p q = equal a b v w l m (p ∙ sym q)

  pub dense_settled : (a b : Answer) (v w : List Float) → result_of a v [] ≡ tri_solve_dense t e v₀ → result_of b w [] ≡ tri_solve_dense t e v₀ → (a ≡ b) × (v ≡ w)
  dense_settled a b v w p q = let r = equal a b v w [] [] (p ∙ sym q) in (r.0, r.1)

  pub solve_dense_settled : (u : Tri) (f : ℕ) (a b : Answer) (v w : List Float) → result_of a v [] ≡ solve_dense t e u f v₀ → result_of b w [] ≡ solve_dense t e u f v₀ → (a ≡ b) × (v ≡ w)
  solve_dense_settled u f a b v w p q = let r = equal a b v w [] [] (p ∙ sym q) in (r.0, r.1)

-- ---- "Refused .. nothing changed"

refusal_keeps : (a b c : Bool) (v : List Float) (l : List ℕ) (s : Out) → ((lowest a b c v l s).number ≡ 0 → ⊥) → ((lowest a b c v l s).values ≡ v) × ((lowest a b c v l s).list ≡ l)
refusal_keeps false b c v l s h = (refl, refl)
refusal_keeps true false c v l s h = (refl, refl)
refusal_keeps true true false v l s h = (refl, refl)
refusal_keeps true true true v l s h = absurd (h refl)

pub sparse_refusal_keeps : (t : Tri) (e : ℕ) (l : List ℕ) (n : ℕ) (v : List Float) → ((tri_solve_sparse t e l n v).number ≡ 0 → ⊥)
    → ((tri_solve_sparse t e l n v).values ≡ v) × ((tri_solve_sparse t e l n v).list ≡ l)
unfolding tri_solve_sparse
sparse_refusal_keeps t e l n v h = refusal_keeps (sparse1 t e l n v) (sparse2 t e l n v) (sparse3 t l n) v l (sparse t l n v) h

pub dense_refusal_keeps : (t : Tri) (e : ℕ) (v : List Float) → ((tri_solve_dense t e v).number ≡ 0 → ⊥) → (tri_solve_dense t e v).values ≡ v
unfolding tri_solve_dense
dense_refusal_keeps t e v h = (refusal_keeps (ok_triangle t e (length v)) (dense2 t e v) true v [] (out (dense t v) [] t.shape.size) h).0

pub solve_dense_refusal_keeps : (t : Tri) (e : ℕ) (u : Tri) (f : ℕ) (v : List Float) → ((solve_dense t e u f v).number ≡ 0 → ⊥) → (solve_dense t e u f v).values ≡ v
unfolding solve_dense
solve_dense_refusal_keeps t e u f v h = (refusal_keeps (factors1 t e u f v) (factors2 t e u f v) true v [] (out (dense u (dense t v)) [] t.shape.size) h).0

-- ---- "cells past what is written never change": i is a cell past the triangle's places

-- a vector of the same length, with the same number at i
record Same (v : List Float) (i : ℕ) (u : List Float) : Type 0 where
  long : length u ≡ length v
  same : u ! i ≡ v ! i

same_set : (v : List Float) (i : ℕ) (u : List Float) (c n : ℕ) (x : Float) → c < n → n ≤ i → Same v i u → Same v i (set u c x)
same_set v i u c n x h g s =
    record { long = length-set u c x ∙ s.long; same = get_or-set_other u c i x nan (λ (q : i ≡ c). omega arith) ∙ s.same }

module _ (t : Tri) (v : List Float) (k : Numbers t v) (i : ℕ) (g : t.shape.size ≤ i) where
  process_same : (c : ℕ) (u : List Float) → c < t.shape.size → Same v i u → Same v i (process_col t c u)
  unfolding process_col
  process_same c u h s =
      keeps (off_turn t c (own_of t c u)) (set u c (own_of t c u)) (λ _. Same v i) (many t.shape c)
      (λ j w l a. same_set v i w (kid t.shape c j) t.shape.size _ (k.columns.inside c j h l) g a)
      (same_set v i u c t.shape.size _ h g s) (many t.shape c) (le_refl (many t.shape c))

  dense_same : (b : Bool) → Same v i (dense_by b t v)
  dense_same true = keeps (process_col t) v (λ _. Same v i) t.shape.size (λ c u h a. process_same c u h a) (record { long = refl; same = refl }) t.shape.size (le_refl t.shape.size)
  dense_same false = keeps_down (process_col t) (Same v i) t.shape.size (λ c u h a. process_same c u h a) v (record { long = refl; same = refl })

  sparse_same : (m : List Bool) (w : State) → Places t.shape.size w.count w.done → Same v i (processed t w.done w.count (zeroed m t.shape.size v))
  unfolding processed zeroed
  sparse_same m w p =
      keeps_down (back_turn t w.done) (Same v i) w.count (λ j u h a. process_same (w.done # j) u (p.places j h) a) _
      (keeps (zero_turn m) v (λ _. Same v i) t.shape.size (λ j u h a. same_set v i u j t.shape.size _ h g a) (record { long = refl; same = refl }) t.shape.size (le_refl t.shape.size))

-- the list: an append is below the triangle's size
grown_same : (n : ℕ) (d : List ℕ) (m : ℕ) (p : Pat) (i : ℕ) → n ≤ max_rows → n ≤ i → Grows n p → Places n m d → (grown d m p).list # i ≡ p.list # i
unfolding grown touched
grown_same n d m p i small past g s =
    (keeps (grow_turn d) p (λ _ q. Grows n q × (q.list # i ≡ p.list # i)) m
    (λ k q h a. (grows_touched small q a.0 (d # k) (s.places k h), touch_same q (d # k) a.0 (s.places k h) ∙ a.1))
    (g, refl) m (le_refl m)).1
  where
    touch_by : (b : Bool) (q : Pat) (c : ℕ) → get_or q.marks c false ≡ b → Grows n q → c < n → (touched_by b q c).list # i ≡ q.list # i
    touch_by true q c e a h = refl
    touch_by false q c e a h = get_or-set_other q.list q.count i c 0 (λ (r : i ≡ q.count). omega (arith, room_below small q a c h e))

    touch_same : (q : Pat) (c : ℕ) → Grows n q → c < n → (touched q c).list # i ≡ q.list # i
    touch_same q c a h = touch_by (get_or q.marks c false) q c refl a h

past_by : (a b c : Bool) (v : List Float) (l : List ℕ) (s : Out) (i : ℕ) → (a ≡ true → c ≡ true → (s.values ! i ≡ v ! i) × (s.list # i ≡ l # i))
    → ((lowest a b c v l s).values ! i ≡ v ! i) × ((lowest a b c v l s).list # i ≡ l # i)
past_by false b c v l s i h = (refl, refl)
past_by true false c v l s i h = (refl, refl)
past_by true true false v l s i h = (refl, refl)
past_by true true true v l s i h = h refl refl

pub sparse_past : (t : Tri) (e : ℕ) (l : List ℕ) (n : ℕ) (v : List Float) (i : ℕ) → t.shape.size ≤ i → ((tri_solve_sparse t e l n v).values ! i ≡ v ! i) × ((tri_solve_sparse t e l n v).list # i ≡ l # i)
unfolding tri_solve_sparse sparse
sparse_past t e l n v i g = past_by (sparse1 t e l n v) (sparse2 t e l n v) (sparse3 t l n) v l (sparse t l n v) i solved
  where
    solved : sparse1 t e l n v ≡ true → sparse3 t l n ≡ true → ((sparse t l n v).values ! i ≡ v ! i) × ((sparse t l n v).list # i ≡ l # i)
    solved a c =
        let h = accepted t e l n v a c in
        let k = h.numbers in
        let d = h.distinct in
        let w = reached t.shape l n fresh in
        let p : Places t.shape.size w.count w.done = places_reached k.columns d.listed refl in
        ((sparse_same t v k i g (given l n) (reached t.shape l n fresh) p).same, grown_same t.shape.size _ _ (pat (given l n) l n) i k.columns.small g (grows_given k.columns.small d) p)

pub dense_past : (t : Tri) (e : ℕ) (v : List Float) (i : ℕ) → t.shape.size ≤ i → (tri_solve_dense t e v).values ! i ≡ v ! i
unfolding tri_solve_dense dense
dense_past t e v i g =
    (past_by (ok_triangle t e (length v)) (dense2 t e v) true v [] (out (dense t v) [] t.shape.size) i
    (λ a _. ((dense_same t v (numbers_told t e v (told t e (length v) a)) i g t.shape.lower).same, refl))).0

pub solve_dense_past : (t : Tri) (e : ℕ) (u : Tri) (f : ℕ) (v : List Float) (i : ℕ) → t.shape.size ≤ i → u.shape.size ≤ i → (solve_dense t e u f v).values ! i ≡ v ! i
unfolding solve_dense dense
solve_dense_past t e u f v i g h =
    (past_by (factors1 t e u f v) (factors2 t e u f v) true v [] (out (dense u (dense t v)) [] t.shape.size) i
    (λ a _.
    let o = both_true (ok_triangle t e (length v)) (ok_triangle u f (length v)) a in
    let k = numbers_told t e v (told t e (length v) o.0) in
    let m = numbers_kept (numbers_told u f v (told u f (length v) o.1)) (length_dense t v) in
    ((dense_same u (dense t v) m i h u.shape.lower).same ∙ (dense_same t v k i g t.shape.lower).same, refl))).0
