-- What the list holds after an accepted sparse solve (specs/Listing.antt). Assumes nothing.
use mathlib.Core.Path.{◌≡◌, refl, sym, ap, ◌∙◌}
use mathlib.Core.Bool.{Bool, true, false}
use mathlib.Core.List.{List, [], ◌∷◌, ◌++◌, append-nil, append_assoc}
use mathlib.Core.Logic.{◌⊎◌, inl, inr, ⊎_elim}
use Prim.Native.Nat.{ℕ, ◌+◌, ◌<◌, ◌≤◌}
use native.Mathlib.Nat.{le_refl}
use native.Mathlib.Numerals.{add-one}
use native.Mathlib.Omega.{arith}
use lib.ListN.{length, get_or, set, take}
use lib.Seq.{get_or-set_same, get_or-set_other, get_or-take, length-take-le, take-suc, take-suc-set}
use lib.Dec.{eqb, ltb}
use lib.Ieee.{Float}
use borrow.Author.Tests.{eqb-true, eqb-false, ltb-true, ltb-false}
use Rattle.doubles.specs.Limits.{max_rows}
use Rattle.doubles.specs.Lists.{◌#◌}
use Rattle.doubles.proofs.Bools.{by_test, never, last?}
use Rattle.doubles.proofs.Loops.{keeps}
use Rattle.sparse.specs.Scattered.{Pat, pat, touched, touched_by}
use Rattle.sparse.proofs.Laws.{no_both}
use Rattle.lu_walk.specs.Walk.{graph_of, fresh, reached}
use Rattle.lu_walk.specs.Order.{finished, among, Reach, here}
use Rattle.lu_walk.proofs.Laws.{fits_reached, fits_fresh}
use Rattle.lu_walk.proofs.Walked.{among_at, among_where}
use Rattle.lu_walk.proofs.Order.{walk_order}
use Rattle.lu_solve.specs.Solve.{Tri, given, grow_turn, grown, sparse, Grows, Places}
use Rattle.lu_solve.proofs.Laws.{given_marks, grows_given, grows_touched, room_below, places_reached}
use Rattle.lu.proofs.Accepted.{accepted, at_zero}
use Rattle.lu.specs.Result.{sparse1, sparse2, sparse3, tri_solve_sparse}
use Rattle.lu.specs.Listing.{unless_in, others, Listing}

-- one more place at the end
others_snoc : (l d : List ℕ) (p : ℕ) → others l (d ++ (p ∷ [])) ≡ others l d ++ unless_in (among p l) p []
unfolding others
others_snoc l [] p = refl
others_snoc l (q ∷ d) p = by (among q l) (others_snoc l d p)
  where
    by : (b : Bool) → others l (d ++ (p ∷ [])) ≡ others l d ++ unless_in (among p l) p []
        → unless_in b q (others l (d ++ (p ∷ []))) ≡ unless_in b q (others l d) ++ unless_in (among p l) p []
    by true e = e
    by false e = ap (λ (x : List ℕ). q ∷ x) e

-- what each append keeps: R is what may be listed, and the first m of d are listed already
record Grown (size : ℕ) (l₀ : List ℕ) (n : ℕ) (R : ℕ → Type 0) (d : List ℕ) (m : ℕ) (p : Pat) : Type 0 where
  grows : Grows size p
  from : n ≤ p.count
  first : (k : ℕ) → k < n → p.list # k ≡ l₀ # k
  marked : (k : ℕ) → k < p.count → get_or p.marks (p.list # k) false ≡ true
  whose : (q : ℕ) → get_or p.marks q false ≡ true → (k : ℕ) × (k < p.count) × (p.list # k ≡ q)
  may : (k : ℕ) → k < p.count → R (p.list # k)
  once : (j k : ℕ) → j < p.count → k < p.count → p.list # j ≡ p.list # k → j ≡ k
  took : (k : ℕ) → k < m → get_or p.marks (d # k) false ≡ true
  from_d : (k : ℕ) → n ≤ k → k < p.count → (j : ℕ) × (j < m) × (d # j ≡ p.list # k)
  order : take p.count p.list ≡ take n l₀ ++ others (take n l₀) (take m d)

module _ {size : ℕ} (small : size ≤ max_rows) {l₀ : List ℕ} {n : ℕ} {R : ℕ → Type 0} {d : List ℕ} (m : ℕ) (p : Pat) (a : Grown size l₀ n R d m p) (h : d # m < size) (r : R (d # m))
    (long : n ≤ length l₀) (left : m < length d) (new-place : (j : ℕ) → j < m → d # j ≡ d # m → ⊥) where
  abbrev i : ℕ
  i = d # m

  inside : i < length p.marks
  inside = omega (arith, a.grows.marks_long, small)

  -- a place is marked where it is among the given ones, or was taken before
  given_long : length (take n l₀) ≡ n
  given_long = length-take-le n l₀ long

  given_marked : among i (take n l₀) ≡ true → get_or p.marks i false ≡ true
  given_marked e =
      let w = among_where i (take n l₀) e in
      let k : w.0 < n = omega (arith, w.1, given_long) in
      ap (λ (q : ℕ). get_or p.marks q false) (sym w.2 ∙ get_or-take n l₀ w.0 0 k ∙ sym (a.first w.0 k)) ∙ a.marked w.0 (omega (arith, a.from))

  marked_given : get_or p.marks i false ≡ true → among i (take n l₀) ≡ true
  marked_given e =
      let w = a.whose i e in
      by_test (ltb w.0 n)
      (λ t. let k = ltb-true w.0 n t in rw (sym w.2 ∙ a.first w.0 k ∙ sym (get_or-take n l₀ w.0 0 k)) (among_at (take n l₀) w.0 (omega (arith, k, given_long))))
      (λ t. let j = a.from_d w.0 (ltb-false w.0 n t) w.1 in absurd (new-place j.0 j.1 (j.2 ∙ w.2)))

  -- the list with the next place of d
  next_order : (b : Bool) → among i (take n l₀) ≡ b → take n l₀ ++ others (take n l₀) (take (m + 1) d) ≡ take p.count p.list ++ unless_in b i []
  next_order b e = rw (add-one m, take-suc d m 0 left, others_snoc (take n l₀) (take m d) i, e, a.order) (sym (append_assoc (take n l₀) (others (take n l₀) (take m d)) (unless_in b i [])))

  grow_by : (b : Bool) → get_or p.marks i false ≡ b → Grows size (touched_by b p i) → Grown size l₀ n R d (m + 1) (touched_by b p i)
  grow_by true e g =
      record {
        grows = g;
        from = a.from;
        first = a.first;
        marked = a.marked;
        whose = a.whose;
        may = a.may;
        once = a.once;
        took = λ k l. ⊎_elim (λ x. a.took k x) (λ x. rw x e) (last? k m l);
        from_d = λ k l u. let j = a.from_d k l u in (j.0, omega (arith, j.1), j.2);
        order = sym (next_order true (marked_given e) ∙ append-nil (take p.count p.list));
      }
  grow_by false e g =
      record {
        grows = g;
        from = omega (arith, a.from);
        first = λ k l. old k (omega (arith, a.from)) ∙ a.first k l;
        marked = λ k l. ⊎_elim (λ x. on _ (ap (λ (q : ℕ). get_or p.marks q false) (old k x) ∙ a.marked k x)) (λ x. ap (λ (q : ℕ). get_or (set p.marks i true) q false) (new k x) ∙ set_here) (last? k p.count l);
        whose = λ q f. whose_by q (eqb q i) refl f;
        may = λ k l. ⊎_elim (λ x. rw (old k x) (a.may k x)) (λ x. rw (new k x) r) (last? k p.count l);
        once = λ j k u v f. once_by j k (last? j p.count u) (last? k p.count v) f;
        took = λ k l. ⊎_elim (λ x. on _ (a.took k x)) (λ x. rw x set_here) (last? k m l);
        from_d = λ k l u. ⊎_elim (λ x. let j = a.from_d k l x in (j.0, omega (arith, j.1), j.2 ∙ sym (old k x))) (λ x. (m, omega arith, sym (new k x))) (last? k p.count u);
        order = rw (add-one p.count, take-suc-set p.list p.count i room) (sym (next_order false (by_test (among i (take n l₀)) (λ t. never (given_marked t) e) (λ t. t))));
      }
    where
      room : p.count < length p.list
      room = omega (arith, room_below small p a.grows i h e, a.grows.list_long)

      set_here : get_or (set p.marks i true) i false ≡ true
      set_here = get_or-set_same p.marks i true false inside

      on : (q : ℕ) → get_or p.marks q false ≡ true → get_or (set p.marks i true) q false ≡ true
      on q f = get_or-set_other p.marks i q true false (λ (x : q ≡ i). no_both (get_or p.marks i false) (ap (λ (y : ℕ). get_or p.marks y false) (sym x) ∙ f) e) ∙ f

      old : (k : ℕ) → k < p.count → set p.list p.count i # k ≡ p.list # k
      old k x = get_or-set_other p.list p.count k i 0 (λ (y : k ≡ p.count). omega arith)

      new : (k : ℕ) → k ≡ p.count → set p.list p.count i # k ≡ i
      new k x = ap (λ (y : ℕ). set p.list p.count i # y) x ∙ get_or-set_same p.list p.count i 0 room

      whose_by : (q : ℕ) (b : Bool) → eqb q i ≡ b → get_or (set p.marks i true) q false ≡ true → (k : ℕ) × (k < p.count + 1) × (set p.list p.count i # k ≡ q)
      whose_by q true x f = (p.count, omega arith, new p.count refl ∙ sym (eqb-true q i x))
      whose_by q false x f = let w = a.whose q (sym (get_or-set_other p.marks i q true false (eqb-false q i x)) ∙ f) in (w.0, omega (arith, w.1), old w.0 w.1 ∙ w.2)

      fresh_place : (k : ℕ) → k < p.count → p.list # k ≡ i → ⊥
      fresh_place k x f = no_both (get_or p.marks i false) (ap (λ (y : ℕ). get_or p.marks y false) (sym f) ∙ a.marked k x) e

      once_by : (j k : ℕ) → (j < p.count) ⊎ (j ≡ p.count) → (k < p.count) ⊎ (k ≡ p.count) → set p.list p.count i # j ≡ set p.list p.count i # k → j ≡ k
      once_by j k (inl x) (inl y) f = a.once j k x y (sym (old j x) ∙ f ∙ old k y)
      once_by j k (inl x) (inr y) f = absurd (fresh_place j x (sym (old j x) ∙ f ∙ new k y))
      once_by j k (inr x) (inl y) f = absurd (fresh_place k y (sym (old k y) ∙ sym f ∙ new j x))
      once_by j k (inr x) (inr y) f = x ∙ sym y

  grow_turn_holds : Grown size l₀ n R d (m + 1) (touched p i)
  unfolding touched
  grow_turn_holds = grow_by (get_or p.marks i false) refl (grows_touched small p a.grows i h)

-- ---- the theorem

pub sparse_listing : (t : Tri) (e : ℕ) (l : List ℕ) (n : ℕ) (v : List Float) → (tri_solve_sparse t e l n v).number ≡ 0
    → Listing t.shape l n (tri_solve_sparse t e l n v).list (tri_solve_sparse t e l n v).places
unfolding tri_solve_sparse sparse grown others
sparse_listing t e l n v z = at_zero (sparse1 t e l n v) (sparse2 t e l n v) (sparse3 t l n) v l (sparse t l n v) (λ r. Listing t.shape l n r.list r.places) z solved
  where
    solved : sparse1 t e l n v ≡ true → sparse3 t l n ≡ true → Listing t.shape l n (sparse t l n v).list (sparse t l n v).count
    solved a c =
        let h = accepted t e l n v a c in
        let k = h.numbers in
        let small = k.columns.small in
        let d = h.distinct in
        let w = reached t.shape l n fresh in
        let s : Places t.shape.size w.count w.done = places_reached k.columns d.listed refl in
        let o = walk_order t.shape l n k.columns d.listed in
        let m = given_marks l n (record { inside = λ j g. omega (arith, d.listed.places j g, small) }) in
        let R : ℕ → Type 0 = λ q. (j : ℕ) × (j < n) × Reach (graph_of t.shape) (l # j) q in
        let base : Grown t.shape.size l n R w.done 0 (pat (given l n) l n) =
        record {
          grows = grows_given small d;
          from = omega arith;
          first = λ j g. refl;
          marked = m.has;
          whose = m.whose;
          may = λ j g. (j, g, here);
          once = d.once;
          took = λ j g. absurd (omega arith);
          from_d = λ j g f. absurd (omega arith);
          order = sym (append-nil (take n l));
        } in
        let g = keeps (grow_turn w.done) (pat (given l n) l n) (Grown t.shape.size l n R w.done) w.count
        (λ j p f b. grow_turn_holds small j p b (s.places j f) (o.only_reached j f) d.listed.listed_long (omega (arith, s.in_list, (fits_reached k.columns d.listed fits_fresh).done_long))
        (λ i x y. omega (arith, o.none_twice i j (omega arith) f y))) base w.count (le_refl w.count) in
        record {
          given_first = g.first;
          only_reached = g.may;
          all_reached = λ j q f r. let b = o.all_reached j q f r in g.whose q (ap (λ (i : ℕ). get_or (grown w.done w.count (pat (given l n) l n)).marks i false) (sym b.is) ∙ g.took b.at b.below);
          none_twice = g.once;
          in_finishing_order = (finished w, o.walked, g.order);
        }
