-- Laws of the solves: lengths stay, and an append to the lent list always fits. Assumes nothing.
use mathlib.Core.Path.{◌≡◌, refl, sym, ap, ◌∙◌, subst}
use mathlib.Core.Bool.{Bool, true, false}
use mathlib.Core.List.{List}
use Prim.Native.Nat.{ℕ, ◌+◌, ◌<◌, ◌≤◌}
use native.Mathlib.Nat.{le_refl}
use native.Mathlib.Omega.{arith}
use lib.ListN.{length, get_or, set, length-set, replicate, length-replicate}
use lib.Seq.{get_or-set_same, get_or-set_other}
use lib.Arith.{lt_of_le-ne}
use lib.Dec.{eqb}
use lib.Ieee.{Float}
use borrow.Author.Tests.{eqb-true, eqb-false}
use Rattle.doubles.specs.Limits.{max_rows}
use Rattle.doubles.specs.Loop.{run}
use Rattle.doubles.specs.Lists.{◌#◌}
use Rattle.doubles.proofs.Loops.{keeps, keeps_down}
use Rattle.sparse.specs.Scattered.{Pat, pat, touched, touched_by, trues, Within}
use Rattle.sparse.proofs.Laws.{trues_set, trues_below, trues_le, falses, none_set, no_both}
use Rattle.lu_walk.specs.Walk.{Shape, State, many, fresh, reached, Columns, Fits, Listed}
use Rattle.lu_walk.proofs.Laws.{Finished, fits_reached, finished_reached, fits_fresh, finished_fresh}
use Rattle.lu_solve.specs.Solve.{Tri, own_of, off_turn, process_col, dense_by, dense, given, mark_turn, zeroed, zero_turn, grow_turn, processed, grown, out, sparse, Numbers, Places, Grows, Growable, Touchable, Distinct}

-- ---- lengths

length_off : (t : Tri) (c : ℕ) (x : Float) (k : ℕ) (v : List Float) → length (run (off_turn t c x) k v) ≡ length v
length_off t c x k v = keeps (off_turn t c x) v (λ _ u. length u ≡ length v) k (λ j u h e. simp length-set e) refl k (le_refl k)

pub length_process : (t : Tri) (c : ℕ) (v : List Float) → length (process_col t c v) ≡ length v
unfolding process_col
length_process t c v = length_off t c (own_of t c v) (many t.shape c) (set v c (own_of t c v)) ∙ simp length-set

pub length_zeroed : (g : List Bool) (n : ℕ) (v : List Float) → length (zeroed g n v) ≡ length v
unfolding zeroed
length_zeroed g n v = keeps (zero_turn g) v (λ _ u. length u ≡ length v) n (λ j u h e. simp length-set e) refl n (le_refl n)

pub length_dense : (t : Tri) (v : List Float) → length (dense t v) ≡ length v
unfolding dense
length_dense t v = by t.shape.lower
  where
    by : (b : Bool) → length (dense_by b t v) ≡ length v
    by true = keeps (process_col t) v (λ _ u. length u ≡ length v) t.shape.size (λ c u h e. length_process t c u ∙ e) refl t.shape.size (le_refl t.shape.size)
    by false = keeps_down (process_col t) (λ u. length u ≡ length v) t.shape.size (λ c u h e. length_process t c u ∙ e) v refl

-- what the numbers ask goes by the vector's length
pub numbers_kept : {t : Tri} {u v : List Float} → Numbers t v → length u ≡ length v → Numbers t u
numbers_kept n e = record { columns = n.columns; vals_long = n.vals_long; diag_long = n.diag_long; values_long = omega (arith, n.values_long) }

-- ---- the marks of a list

-- after k marks: each of the first k places is marked, and no other
pub record Marks (l : List ℕ) (k : ℕ) (m : List Bool) : Type 0 where
  pub long : length m ≡ max_rows
  pub has : (j : ℕ) → j < k → get_or m (l # j) false ≡ true
  pub whose : (q : ℕ) → get_or m q false ≡ true → (j : ℕ) × (j < k) × (l # j ≡ q)

marks_none : (l : List ℕ) → Marks l 0 (replicate max_rows false)
marks_none l =
    record {
      long = length-replicate max_rows false;
      has = λ j h. absurd (omega arith);
      whose = λ q e. absurd (no_both (get_or (replicate max_rows false) q false) e (none_set (replicate max_rows false) (falses max_rows) q));
    }

marks_turn : (l : List ℕ) (k : ℕ) (m : List Bool) → l # k < max_rows → Marks l k m → Marks l (k + 1) (mark_turn l k m)
marks_turn l k m h a =
    record {
      long = length-set m (l # k) true ∙ a.long;
      has = λ j g. has_by j (eqb (l # j) (l # k)) refl g;
      whose = λ q e. whose_by q (eqb q (l # k)) refl e;
    }
  where
    here : get_or (set m (l # k) true) (l # k) false ≡ true
    here = get_or-set_same m (l # k) true false (omega (arith, a.long))

    has_by : (j : ℕ) (b : Bool) → eqb (l # j) (l # k) ≡ b → j < k + 1 → get_or (set m (l # k) true) (l # j) false ≡ true
    has_by j true e g = ap (λ (q : ℕ). get_or (set m (l # k) true) q false) (eqb-true _ _ e) ∙ here
    has_by j false e g =
        let other = eqb-false (l # j) (l # k) e in
        get_or-set_other m (l # k) (l # j) true false other ∙ a.has j (lt_of_le-ne (omega arith) (λ (q : j ≡ k). other (ap (λ (i : ℕ). l # i) q)))

    whose_by : (q : ℕ) (b : Bool) → eqb q (l # k) ≡ b → get_or (set m (l # k) true) q false ≡ true → (j : ℕ) × (j < k + 1) × (l # j ≡ q)
    whose_by q true e f = (k, omega arith, sym (eqb-true q (l # k) e))
    whose_by q false e f = let w = a.whose q (sym (get_or-set_other m (l # k) q true false (eqb-false q (l # k) e)) ∙ f) in (w.0, omega (arith, w.1), w.2)

pub given_marks : (l : List ℕ) (n : ℕ) → Within max_rows n l → Marks l n (given l n)
unfolding given
given_marks l n w = keeps (mark_turn l) (replicate max_rows false) (Marks l) n (λ k m h a. marks_turn l k m (w.inside k h) a) (marks_none l) n (le_refl n)

-- a place that none of the first k names is not marked
pub unnamed : {l : List ℕ} {k : ℕ} {m : List Bool} (q : ℕ) → Marks l k m → ((j : ℕ) → j < k → l # j ≡ q → ⊥) → get_or m q false ≡ false
unnamed {l} {k} {m} q a f = by (get_or m q false) refl
  where
    by : (b : Bool) → get_or m q false ≡ b → b ≡ false
    by false e = refl
    by true e = let w = a.whose q e in absurd (f w.0 w.1 w.2)

-- a list without repeats has as many marks as places
module _ {t : Shape} {l : List ℕ} {n : ℕ} (small : t.size ≤ max_rows) (d : Distinct t l n) where
  inside_rows : Within max_rows n l
  inside_rows = record { inside = λ k h. omega (arith, d.listed.places k h, small) }

  counted : (k : ℕ) (m : List Bool) → k < n → Marks l k m × (trues m ≡ k) → Marks l (k + 1) (mark_turn l k m) × (trues (mark_turn l k m) ≡ k + 1)
  counted k m h a =
      let off = unnamed (l # k) a.0 (λ j g e. omega (arith, d.once j k (omega arith) h e)) in
      (marks_turn l k m (inside_rows.inside k h) a.0, trues_set m (l # k) (omega (arith, a.0.long, inside_rows.inside k h)) off ∙ omega (arith, a.1))

  pub grows_given : Grows t.size (pat (given l n) l n)
  unfolding given
  grows_given =
      let a = keeps (mark_turn l) (replicate max_rows false) (λ k m. Marks l k m × (trues m ≡ k)) n counted (marks_none l, falses max_rows) n (le_refl n) in
      record {
        marks_long = a.0.long;
        list_long = d.roomy;
        counted = sym a.1;
        below = λ q e. let w = a.0.whose q e in rw (← w.2) (d.listed.places w.0 w.1);
      }

-- ---- the list

module _ {n : ℕ} (small : n ≤ max_rows) (p : Pat) (g : Grows n p) (i : ℕ) (h : i < n) where
  inside : i < length p.marks
  inside = omega (arith, g.marks_long, small)

  -- the places marked with i are below n
  with_below : (q : ℕ) → get_or (set p.marks i true) q false ≡ true → q < n
  with_below q e = by (eqb q i) refl
    where
      by : (b : Bool) → eqb q i ≡ b → q < n
      by true f = rw (eqb-true q i f) h
      by false f = g.below q (sym (get_or-set_other p.marks i q true false (eqb-false q i f)) ∙ e)

  -- the pigeonhole: where i is not marked, fewer than n places are listed
  pub room_below : get_or p.marks i false ≡ false → p.count < n
  room_below e = omega (arith, trues_set p.marks i inside e, trues_below (set p.marks i true) n with_below, g.counted)

  -- so a first touch has room in the list
  pub touchable : Touchable p i
  touchable = record { inside = omega (arith, small); room = λ e. omega (arith, room_below e, g.list_long) }

  grows_by : (b : Bool) → get_or p.marks i false ≡ b → Grows n (touched_by b p i)
  grows_by true e = g
  grows_by false e =
      record {
        marks_long = length-set p.marks i true ∙ g.marks_long;
        list_long = rw length-set g.list_long;
        counted = omega (arith, trues_set p.marks i inside e, g.counted);
        below = with_below;
      }

  pub grows_touched : Grows n (touched p i)
  unfolding touched
  grows_touched = grows_by (get_or p.marks i false) refl

module _ {d : List ℕ} {m : ℕ} {p : Pat} (g : Growable d m p) where
  pub grows_part : (k : ℕ) → k ≤ m → Grows g.size (run (grow_turn d) k p)
  grows_part k h = keeps (grow_turn d) p (λ _. Grows g.size) m (λ i u l a. grows_touched g.places.in_size u a (d # i) (g.places.places i l)) g.grows k h

  pub next_touch : {u : Pat} {k : ℕ} → u ≡ run (grow_turn d) k p → k < m → Touchable u (d # k)
  next_touch {u} {k} e h = touchable g.places.in_size u (subst (Grows g.size) (sym e) (grows_part k (omega arith))) (d # k) (g.places.places k h)

-- ---- the sparse solve

-- the finished places of a walk are places of the triangle, and few enough
pub places_reached : {t : Shape} {l : List ℕ} {n : ℕ} {w : State} → Columns t → Listed t l n → w ≡ reached t l n fresh → Places t.size w.count w.done
places_reached {t} {l} {n} {w} c r e =
    let f = subst Fits (sym e) (fits_reached c r fits_fresh) in
    let d = subst (Finished t) (sym e) (finished_reached c r fits_fresh finished_fresh) in
    record { in_list = omega (arith, f.counted, trues_le w.marks, f.marks_long); in_size = c.small; places = d.finished }

-- the five parts put together
pub sparse_made : (t : Tri) (l : List ℕ) (n : ℕ) (v : List Float) {u x : List Float} {g : List Bool} {w : State} {p : Pat} → w ≡ reached t.shape l n fresh → g ≡ given l n
    → u ≡ zeroed g t.shape.size v → x ≡ processed t w.done w.count u → p ≡ grown w.done w.count (pat g l n) → out x p.list p.count ≡ sparse t l n v
unfolding sparse
sparse_made t l n v a b c d e = rw (e, d, c, b, a) refl
