-- When each number is given. 01: "Refused, lowest first, nothing changed: 1 a bad size or start, an off-diagonal row too large or not below (lower) or above
-- (upper), a diagonal of 0; 2 a number not finite; 3 a listed place too large or repeated". `sparse_exactly`, `dense_exactly` and `solve_dense_exactly` say
-- that a number is given exactly where its condition (specs/Conditions.antt) holds and no lower one's does. Assumes nothing.
use mathlib.Core.Path.{◌≡◌, refl, sym, ap, ◌∙◌}
use mathlib.Core.Bool.{Bool, true, false, not, ◌&&◌, ◌||◌}
use mathlib.Core.List.{List, []}
use mathlib.Core.Logic.{◌⊎◌, inl, inr, ⊎_elim}
use Prim.Native.Nat.{ℕ, ◌+◌, ◌<◌, ◌≤◌}
use native.Mathlib.Omega.{arith}
use lib.ListN.{length}
use lib.Dec.{leb, ltb, eqb}
use lib.Ieee.{Float, eq}
use borrow.Author.Tests.{leb-true, leb-false, ltb-true, ltb-false, lt-ltb, eqb-true, eqb-false, not-true, not-false}
use Rattle.doubles.specs.Num.{f0, finite}
use Rattle.doubles.specs.Limits.{max_rows, max_tri_entries}
use Rattle.doubles.specs.Loop.{all}
use Rattle.doubles.specs.Lists.{◌!◌, ◌#◌}
use Rattle.doubles.proofs.Loops.{both_true, all_at, all_missed}
use Rattle.sparse.proofs.Laws.{no_both}
use Rattle.lu_walk.specs.Walk.{many, kid}
use Rattle.lu_solve.specs.Solve.{Tri, Out, out, sparse, dense}
use Rattle.lu_solve.proofs.Laws.{given_marks}
use Rattle.lu_gate.specs.Gate.{sizes_of, rises_at, ok_starts, beyond, ok_row, ok_column, ok_rows, nonzero_at, ok_diag, ok_triangle, finite_at, ok_numbers, held_at, ok_held, new_at, ok_list}
use Rattle.lu_gate.proofs.Laws.{told, list_inside, list_once}
use Rattle.lu.specs.Result.{lowest, sparse1, sparse2, sparse3, dense2, factors1, factors2, tri_solve_sparse, tri_solve_dense, solve_dense}
use Rattle.lu.specs.Conditions.{NotBeyond, BadTriangle, too_many_places, too_many_entries, starts_short, rows_short, numbers_short, diagonal_short, values_short, begins_elsewhere, ends_elsewhere, falls, row_too_large, row_on_the_wrong_side, diagonal_of_0, BadSparse, of_triangle, list_short, listed_beyond, NotFinite, entry, diagonal, value, BadFactors, FactorsNotFinite, Named, Inside, BadList, too_large, repeated, Exactly}

-- ---- a test that fails exactly where P holds
record Tests (b : Bool) (P : Type 0) : Type 0 where
  fails : b ≡ false → P
  passes : b ≡ true → P → ⊥

clash : ◌≡◌ {A = Bool} true false → ⊥
clash e = no_both true refl e

exactly : (a b c : Bool) (P1 P2 P3 : Type 0) (v : List Float) (l : List ℕ) (s : Out) → Tests a P1 → (a ≡ true → Tests b P2) → (a ≡ true → b ≡ true → Tests c P3)
    → Exactly (lowest a b c v l s) P1 P2 P3
exactly false b c P1 P2 P3 v l s A B C =
    let p = A.fails refl in
    record {
      one = ((λ _. p), (λ _. refl));
      two = ((λ e. absurd (omega arith)), (λ n _. absurd (n p)));
      three = ((λ e. absurd (omega arith)), (λ n _ _. absurd (n p)));
      solved = ((λ e. absurd (omega arith)), (λ n _ _. absurd (n p)));
    }
exactly true false c P1 P2 P3 v l s A B C =
    let n1 = A.passes refl in
    let p = (B refl).fails refl in
    record {
      one = ((λ e. absurd (omega arith)), (λ q. absurd (n1 q)));
      two = ((λ _. (n1, p)), (λ _ _. refl));
      three = ((λ e. absurd (omega arith)), (λ _ n _. absurd (n p)));
      solved = ((λ e. absurd (omega arith)), (λ _ n _. absurd (n p)));
    }
exactly true true false P1 P2 P3 v l s A B C =
    let n1 = A.passes refl in
    let n2 = (B refl).passes refl in
    let p = (C refl refl).fails refl in
    record {
      one = ((λ e. absurd (omega arith)), (λ q. absurd (n1 q)));
      two = ((λ e. absurd (omega arith)), (λ _ q. absurd (n2 q)));
      three = ((λ _. (n1, n2, p)), (λ _ _ _. refl));
      solved = ((λ e. absurd (omega arith)), (λ _ _ n. absurd (n p)));
    }
exactly true true true P1 P2 P3 v l s A B C =
    let n1 = A.passes refl in
    let n2 = (B refl).passes refl in
    let n3 = (C refl refl).passes refl in
    record {
      one = ((λ e. absurd (omega arith)), (λ q. absurd (n1 q)));
      two = ((λ e. absurd (omega arith)), (λ _ q. absurd (n2 q)));
      three = ((λ e. absurd (omega arith)), (λ _ _ q. absurd (n3 q)));
      solved = ((λ _. (n1, n2, n3)), (λ _ _ _. refl));
    }

-- tests put together
t_map : {b : Bool} {P Q : Type 0} → (P → Q) → (Q → P) → Tests b P → Tests b Q
t_map f g a = record { fails = λ e. f (a.fails e); passes = λ e q. a.passes e (g q) }

and_false : (a b : Bool) → a && b ≡ false → (a ≡ false) ⊎ (b ≡ false)
and_false true b e = inr e
and_false false b e = inl refl

t_and : {a b : Bool} {P Q : Type 0} → Tests a P → Tests b Q → Tests (a && b) (P ⊎ Q)
t_and {a} {b} s t =
    record {
      fails = λ e. ⊎_elim (λ x. inl (s.fails x)) (λ x. inr (t.fails x)) (and_false a b e);
      passes = λ e w. let x = both_true a b e in ⊎_elim (λ p. s.passes x.0 p) (λ q. t.passes x.1 q) w;
    }

t_all : (n : ℕ) (p : ℕ → Bool) (P : ℕ → Type 0) → ((k : ℕ) → Tests (p k) (P k)) → Tests (all n p) ((k : ℕ) × (k < n) × P k)
t_all n p P t =
    record {
      fails = λ e. let w = all_missed p n e in (w.0, w.1, (t w.0).fails w.3);
      passes = λ e w. (t w.0).passes (all_at p n e w.0 w.1) w.2;
    }

t_if : (h : Bool) {b : Bool} {P : Type 0} → Tests b P → Tests (not h || b) ((h ≡ true) × P)
t_if true t = record { fails = λ e. (refl, t.fails e); passes = λ e w. t.passes e w.1 }
t_if false t = record { fails = λ e. absurd (clash e); passes = λ e w. clash (sym w.0) }

t_leb : (a b : ℕ) → Tests (leb a b) (b < a)
t_leb a b = record { fails = λ e. leb-false a b e; passes = λ e p. omega (arith, leb-true a b e) }

t_ltb : (a b : ℕ) → Tests (ltb a b) (b ≤ a)
t_ltb a b = record { fails = λ e. ltb-false a b e; passes = λ e p. omega (arith, ltb-true a b e) }

t_eqb : (a b : ℕ) → Tests (eqb a b) (a ≡ b → ⊥)
t_eqb a b = record { fails = λ e. eqb-false a b e; passes = λ e p. p (eqb-true a b e) }

t_is : (b : Bool) → Tests b (b ≡ false)
t_is b = record { fails = λ e. e; passes = λ e p. no_both b e p }

t_not : (b : Bool) → Tests (not b) (b ≡ true)
t_not b = record { fails = λ e. not-false b e; passes = λ e p. no_both b p (not-true b e) }

t_beyond : (b : Bool) (c r : ℕ) → Tests (beyond b c r) (NotBeyond b c r)
t_beyond true c r = t_ltb c r
t_beyond false c r = t_ltb r c

-- ---- the triangle

module _ (t : Tri) (e m : ℕ) where
  abbrev n : ℕ
  n = t.shape.size

  abbrev s : List ℕ
  s = t.shape.starts

  abbrev Sizes : Type 0
  Sizes = ((((((max_rows < n) ⊎ (max_tri_entries < e)) ⊎ (length s ≤ n)) ⊎ (length t.shape.rows < e)) ⊎ (length t.vals < e)) ⊎ ((t.has_diag ≡ true) × (length t.diag < n))) ⊎ (m < n)

  t_sizes : Tests (sizes_of t e m) Sizes
  t_sizes = t_and (t_and (t_and (t_and (t_and (t_and (t_leb _ _) (t_leb _ _)) (t_ltb _ _)) (t_leb _ _)) (t_leb _ _)) (t_if t.has_diag (t_leb _ _))) (t_leb _ _)

  abbrev Starts : Type 0
  Starts = ((s # 0 ≡ 0 → ⊥) ⊎ (s # n ≡ e → ⊥)) ⊎ ((j : ℕ) × (j < n) × (s # (j + 1) < s # j))

  t_starts : Tests (ok_starts n e s) Starts
  unfolding ok_starts
  t_starts = t_and (t_and (t_eqb _ _) (t_eqb _ _)) (t_all n (rises_at s) _ (λ j. t_leb _ _))

  abbrev Rows : Type 0
  Rows = (c : ℕ) × (c < n) × ((i : ℕ) × (i < many t.shape c) × ((n ≤ kid t.shape c i) ⊎ NotBeyond t.shape.lower c (kid t.shape c i)))

  t_rows : Tests (ok_rows t.shape) Rows
  unfolding ok_rows ok_column
  t_rows = t_all n (ok_column t.shape) _ (λ c. t_all (many t.shape c) (ok_row t.shape c) _ (λ i. t_and (t_ltb _ _) (t_beyond t.shape.lower c (kid t.shape c i))))

  abbrev Diagonal : Type 0
  Diagonal = (t.has_diag ≡ true) × ((j : ℕ) × (j < n) × (eq (t.diag ! j) f0 ≡ true))

  t_diag : Tests (ok_diag n t.has_diag t.diag) Diagonal
  unfolding ok_diag
  t_diag = t_if t.has_diag (t_all n (nonzero_at t.diag) _ (λ j. t_not _))

  to_sizes : Sizes → BadTriangle t e m
  to_sizes (inl (inl (inl (inl (inl (inl x)))))) = too_many_places x
  to_sizes (inl (inl (inl (inl (inl (inr x)))))) = too_many_entries x
  to_sizes (inl (inl (inl (inl (inr x))))) = starts_short x
  to_sizes (inl (inl (inl (inr x)))) = rows_short x
  to_sizes (inl (inl (inr x))) = numbers_short x
  to_sizes (inl (inr x)) = diagonal_short x.0 x.1
  to_sizes (inr x) = values_short x

  to_starts : Starts → BadTriangle t e m
  to_starts (inl (inl x)) = begins_elsewhere x
  to_starts (inl (inr x)) = ends_elsewhere x
  to_starts (inr x) = falls x.0 x.1 x.2

  to_rows : Rows → BadTriangle t e m
  to_rows r = ⊎_elim (λ x. row_too_large r.0 r.2.0 r.1 r.2.1 x) (λ x. row_on_the_wrong_side r.0 r.2.0 r.1 r.2.1 x) r.2.2

  to : ((Sizes ⊎ Starts) ⊎ Rows) ⊎ Diagonal → BadTriangle t e m
  to (inl (inl (inl x))) = to_sizes x
  to (inl (inl (inr x))) = to_starts x
  to (inl (inr x)) = to_rows x
  to (inr x) = diagonal_of_0 x.0 x.1.0 x.1.1 x.1.2

  from : BadTriangle t e m → ((Sizes ⊎ Starts) ⊎ Rows) ⊎ Diagonal
  from (too_many_places x) = inl (inl (inl (inl (inl (inl (inl (inl (inl x))))))))
  from (too_many_entries x) = inl (inl (inl (inl (inl (inl (inl (inl (inr x))))))))
  from (starts_short x) = inl (inl (inl (inl (inl (inl (inl (inr x)))))))
  from (rows_short x) = inl (inl (inl (inl (inl (inl (inr x))))))
  from (numbers_short x) = inl (inl (inl (inl (inl (inr x)))))
  from (diagonal_short h x) = inl (inl (inl (inl (inr (h, x)))))
  from (values_short x) = inl (inl (inl (inr x)))
  from (begins_elsewhere x) = inl (inl (inr (inl (inl x))))
  from (ends_elsewhere x) = inl (inl (inr (inl (inr x))))
  from (falls j h x) = inl (inl (inr (inr (j, h, x))))
  from (row_too_large c i h g x) = inl (inr (c, h, (i, g, inl x)))
  from (row_on_the_wrong_side c i h g x) = inl (inr (c, h, (i, g, inr x)))
  from (diagonal_of_0 h j g x) = inr (h, (j, g, x))

  t_triangle : Tests (ok_triangle t e m) (BadTriangle t e m)
  unfolding ok_triangle
  t_triangle = t_map to from (t_and (t_and (t_and t_sizes t_starts) t_rows) t_diag)

-- ---- the numbers

module _ (t : Tri) (e : ℕ) where
  abbrev Numbers : Type 0
  Numbers = ((i : ℕ) × (i < e) × (finite (t.vals ! i) ≡ false)) ⊎ ((t.has_diag ≡ true) × ((j : ℕ) × (j < t.shape.size) × (finite (t.diag ! j) ≡ false)))

  t_numbers : Tests (ok_numbers t.shape.size e t.vals t.has_diag t.diag) Numbers
  unfolding ok_numbers
  t_numbers = t_and (t_all e (finite_at t.vals) _ (λ i. t_is _)) (t_if t.has_diag (t_all t.shape.size (finite_at t.diag) _ (λ j. t_is _)))

-- the values that count, of n places
abbrev Values : ℕ → List Float → (ℕ → Type 0) → Type 0
Values n v Counts = (i : ℕ) × (i < n) × (Counts i × (finite (v ! i) ≡ false))

module _ (t : Tri) (e : ℕ) (v : List Float) (Counts : ℕ → Type 0) where
  to_2 : Numbers t e ⊎ Values t.shape.size v Counts → NotFinite t e v Counts
  to_2 (inl (inl x)) = entry x.0 x.1 x.2
  to_2 (inl (inr x)) = diagonal x.0 x.1.0 x.1.1 x.1.2
  to_2 (inr x) = value x.0 x.1 x.2.0 x.2.1

  from_2 : NotFinite t e v Counts → Numbers t e ⊎ Values t.shape.size v Counts
  from_2 (entry i h x) = inl (inl (i, h, x))
  from_2 (diagonal d j h x) = inl (inr (d, (j, h, x)))
  from_2 (value i h g x) = inr (i, h, (g, x))

  t_finite : (b : Bool) → Tests b (Values t.shape.size v Counts) → Tests (ok_numbers t.shape.size e t.vals t.has_diag t.diag && b) (NotFinite t e v Counts)
  t_finite b c = t_map to_2 from_2 (t_and (t_numbers t e) c)

-- the numbers of listed places that are in range
held_false : (a b : Bool) → not a || b ≡ false → (a ≡ true) × (b ≡ false)
held_false true b e = (refl, e)
held_false false b e = absurd (clash e)

held_true : (a b : Bool) → not a || b ≡ true → a ≡ true → b ≡ true
held_true true b e f = e
held_true false b e f = absurd (clash (sym f))

t_held : (size : ℕ) (l : List ℕ) (n : ℕ) (v : List Float) → Tests (ok_held size l n v) (Values size v (Named l n))
unfolding ok_held
t_held size l n v =
    record {
      fails = λ e.
          let w = all_missed (held_at size l v) n e in
          let k = w.0 in
          let x = held_false (ltb (l # k) size) (finite (v ! (l # k))) w.3 in
          (l # k, ltb-true _ _ x.0, ((k, w.1, refl), x.1));
      passes = λ e w.
          let k = w.2.0.0 in
          let a = all_at (held_at size l v) n e k w.2.0.1 in
          let q = w.2.0.2 in
          let inside : l # k < size = rw q w.1 in
          no_both (finite (v ! (l # k))) (held_true (ltb (l # k) size) _ a (lt-ltb _ _ inside)) (ap (λ (i : ℕ). finite (v ! i)) q ∙ w.2.1);
    }

t_dense : (size : ℕ) (v : List Float) → Tests (all size (finite_at v)) (Values size v (Inside size))
t_dense size v = t_map (λ w. (w.0, w.1, (w.1, w.2))) (λ w. (w.0, w.1, w.2.1)) (t_all size (finite_at v) _ (λ i. t_is _))

-- ---- the list

t_list : (size : ℕ) (l : List ℕ) (n : ℕ) → size ≤ max_rows → Tests (ok_list size l n) (BadList size l n)
unfolding ok_list
t_list size l n small = record { fails = λ e. first_bad (all_missed (new_at size l) n e); passes = λ e b. none e b }
  where
    first_bad : (k : ℕ) × (k < n) × (all k (new_at size l) ≡ true) × (new_at size l k ≡ false) → BadList size l n
    first_bad w =
        let k = w.0 in
        let marks = given_marks l k (record { inside = λ i h. omega (arith, list_inside size k l small w.2 i h, small) }) in
        ⊎_elim
        (λ x. too_large k w.1 (ltb-false _ _ x))
        (λ x. let y = marks.whose (l # k) (not-false _ x) in repeated y.0 k y.1 w.1 y.2)
        (and_false (ltb (l # k) size) _ w.3)

    none : ok_list size l n ≡ true → BadList size l n → ⊥
    none e (too_large k h x) = omega (arith, list_inside size n l small e k h)
    none e (repeated j k h g x) = omega (arith, list_once size n l small e j k (omega arith) g x)

-- a dense solve has none
no_list : Tests true ⊥
no_list = record { fails = λ x. clash x; passes = λ _ x. x }

-- ---- the theorems

module _ (t : Tri) (e : ℕ) (v : List Float) where
  pub sparse_exactly : (l : List ℕ) (n : ℕ)
      → Exactly (tri_solve_sparse t e l n v) (BadSparse t e l n (length v)) (NotFinite t e v (Named l n)) (BadList t.shape.size l n)
  unfolding tri_solve_sparse
  sparse_exactly l n =
      exactly (sparse1 t e l n v) (sparse2 t e l n v) (sparse3 t l n) _ _ _ v l (sparse t l n v)
      (t_map into out_of (t_and (t_and (t_triangle t e (length v)) (t_leb _ _)) (t_leb _ _)))
      (λ _. t_finite t e v (Named l n) _ (t_held t.shape.size l n v))
      (λ a _. t_list t.shape.size l n (told t e (length v) (both_true (ok_triangle t e (length v)) _ (both_true (ok_triangle t e (length v) && leb t.shape.size (length l)) _ a).0).0).sizes.small)
    where
      into : (BadTriangle t e (length v) ⊎ (length l < t.shape.size)) ⊎ (length l < n) → BadSparse t e l n (length v)
      into (inl (inl x)) = of_triangle x
      into (inl (inr x)) = list_short x
      into (inr x) = listed_beyond x

      out_of : BadSparse t e l n (length v) → (BadTriangle t e (length v) ⊎ (length l < t.shape.size)) ⊎ (length l < n)
      out_of (of_triangle x) = inl (inl x)
      out_of (list_short x) = inl (inr x)
      out_of (listed_beyond x) = inr x

  -- the dense call has no list: all places count, and 3 is never given
  pub dense_exactly : Exactly (tri_solve_dense t e v) (BadTriangle t e (length v)) (NotFinite t e v (Inside t.shape.size)) ⊥
  unfolding tri_solve_dense
  dense_exactly =
      exactly (ok_triangle t e (length v)) (dense2 t e v) true _ _ ⊥ v [] (out (dense t v) [] t.shape.size)
      (t_triangle t e (length v))
      (λ _. t_finite t e v (Inside t.shape.size) _ (t_dense t.shape.size v))
      (λ _ _. no_list)

  -- nor has the one with two triangles
  pub solve_dense_exactly : (u : Tri) (f : ℕ) → Exactly (solve_dense t e u f v) (BadFactors t e u f (length v)) (FactorsNotFinite t e u f v (Inside t.shape.size)) ⊥
  unfolding solve_dense
  solve_dense_exactly u f =
      exactly (factors1 t e u f v) (factors2 t e u f v) true _ _ ⊥ v [] (out (dense u (dense t v)) [] t.shape.size)
      (t_and (t_triangle t e (length v)) (t_triangle u f (length v)))
      (λ _. t_map into out_of (t_and (t_and (t_numbers t e) (t_numbers u f)) (t_dense t.shape.size v)))
      (λ _ _. no_list)
    where
      into : (Numbers t e ⊎ Numbers u f) ⊎ Values t.shape.size v (Inside t.shape.size) → FactorsNotFinite t e u f v (Inside t.shape.size)
      into (inl (inl x)) = inl (to_2 t e v (Inside t.shape.size) (inl x))
      into (inl (inr x)) = inr (to_2 u f v (Inside t.shape.size) (inl x))
      into (inr x) = inl (to_2 t e v (Inside t.shape.size) (inr x))

      out_of : FactorsNotFinite t e u f v (Inside t.shape.size) → (Numbers t e ⊎ Numbers u f) ⊎ Values t.shape.size v (Inside t.shape.size)
      out_of (inl (entry i h x)) = inl (inl (inl (i, h, x)))
      out_of (inl (diagonal d j h x)) = inl (inl (inr (d, (j, h, x))))
      out_of (inl (value i h g x)) = inr (i, h, (g, x))
      out_of (inr (entry i h x)) = inl (inr (inl (i, h, x)))
      out_of (inr (diagonal d j h x)) = inl (inr (inr (d, (j, h, x))))
      out_of (inr (value i h g x)) = inr (i, g, (g, x))
