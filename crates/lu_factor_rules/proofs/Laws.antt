-- What the parts of factoring a column keep, and that L's columns can be read. No contract cites this file. Assumes
-- nothing.
use mathlib.Core.Path.{◌≡◌, refl, sym, ◌∙◌, subst}
use mathlib.Core.Bool.{Bool, true, false}
use mathlib.Core.List.{List}
use Prim.Native.Nat.{ℕ, ◌+◌, ◌-◌, ◌<◌, ◌≤◌}
use native.Mathlib.Nat.{le_refl}
use native.Mathlib.Omega.{arith}
use lib.ListN.{length, get_or, drop, length-drop}
use lib.Seq.{length-take-le, get_or-take, get_or-drop}
use lib.Ieee.{Float, lt, le, eq}
use borrow.Author.Tests.{lt-ltb, le-ltb, ltb-true, eq-eqb, ne_eqb}
use Rattle.doubles.specs.Num.{◌⊘◌, f0, eps, size}
use Rattle.doubles.specs.Limits.{max_rows, places}
use Rattle.doubles.specs.Loop.{run}
use Rattle.doubles.specs.Lists.{◌!◌, ◌#◌, part}
use Rattle.doubles.proofs.Loops.{keeps, keeps_down}
use Rattle.sparse.specs.Scattered.{Pat, pat, Sv, sv_of, touched, touched_by, Wf, Good, Below, Within, take_off}
use Rattle.sparse.proofs.Laws.{trues_le, wf_touched, untouched, good_take_off, below_take_off}
use Rattle.sparse.proofs.Laws.{set_below}
use Rattle.lu_walk.specs.Walk.{State, many_in, ListedIn, Fits}
use Rattle.lu_walk.proofs.Laws.{fits_in, finished_in, fits_fresh, finished_fresh, FinishedIn}
use Rattle.lu_solve.specs.Solve.{grow_turn, grown, Places}
use Rattle.lu_factor_rules.specs.declared.Best.{Best}
use Rattle.lu_factor_rules.specs.Factor.{is_pivot, back_by, back_one, back_turn, reduced, best, better, Parts, parts}
use Rattle.lu_factor_rules.specs.Factor.{push, gathered_one, gathered, listed_finite, chosen, Outcome, factored}
use Rattle.lu_factor_rules.specs.Factor.{non_finite, singular, Found, found, judged, solved, walked, column}
use Rattle.lu_factor_rules.specs.Ready.{Lower, Roomy, Judgeable, Vector}

module _ {A : Type 0} where
  pub part_long : (a b : ℕ) (l : List A) → b ≤ length l → length (part a b l) ≡ b - a
  part_long a b l h = length-take-le (b - a) (drop a l) (simp length-drop (omega arith))

  pub part_at : (a b : ℕ) (l : List A) (k : ℕ) (d : A) → k < b - a → get_or (part a b l) k d ≡ get_or l (a + k) d
  part_at a b l k d h = get_or-take (b - a) (drop a l) k d h ∙ get_or-drop a l k d

-- ---- the list grows
pub wf_growing : (d : List ℕ) (n : ℕ) (p : Pat) → Places max_rows n d → Wf places p → (k : ℕ) → k ≤ n
    → Wf places (run (grow_turn d) k p)
wf_growing d n p l w k h = keeps (grow_turn d) p (λ _. Wf places) n
    (λ j t g u. wf_touched t u (d # j) (omega (arith, l.places j g))) w k h

pub good_grown : (d : List ℕ) (n : ℕ) (s : Sv) → Places max_rows n d → Good places s
    → Good places (sv_of s.vals (grown d n s.pat))
unfolding grown
good_grown d n s l g =
    keeps (grow_turn d) s.pat (λ _ p. Good places (sv_of s.vals p)) n
    (λ j p h u. record {
      vals_long = u.vals_long;
      wf = wf_touched p u.wf (d # j) (omega (arith, l.places j h));
      zeros = λ q b f. u.zeros q b (untouched p (d # j) q (omega (arith, u.wf.marks_long, l.places j h)) f).1;
    }) g n (le_refl n)

pub below_grown : {m : ℕ} (d : List ℕ) (n : ℕ) (s : Sv) → Places m n d → Below m s
    → Below m (sv_of s.vals (grown d n s.pat))
unfolding grown touched
below_grown {m} d n s l b =
    keeps (grow_turn d) s.pat (λ _ p. Below m (sv_of s.vals p)) n
    (λ j p h u. record { below = go p u (d # j) (l.places j h) (get_or p.marks (d # j) false) }) b n (le_refl n)
  where
    go : (p : Pat) → Below m (sv_of s.vals p) → (r : ℕ) → r < m → (e : Bool) (k : ℕ) → k < (touched_by e p r).count
        → (touched_by e p r).list # k < m
    go p u r h true k g = u.below k g
    go p u r h false k g = set_below p.list p.count r m h u.below k (omega arith)

-- ---- a column of L
module _ {m : ℕ} {number : List ℕ} {i : ℕ} {starts rows : List ℕ} {vals : List Float}
    (l : Lower m number i starts rows vals) (r : ℕ) (h : r < m) (p : number # r < i) where
  abbrev own : ℕ
  own = number # r

  abbrev here : List ℕ
  here = part (starts # own) (starts # (own + 1)) rows

  here_long : length here ≡ starts # (own + 1) - starts # own
  here_long = part_long (starts # own) (starts # (own + 1)) rows (l.columns.ends own p)

  pub within_rows : Within m (length here) here
  unfolding many_in
  within_rows =
      record {
        inside = λ k g.
            let b : k < starts # (own + 1) - starts # own = omega (arith, here_long) in
            rw (part_at (starts # own) (starts # (own + 1)) rows k 0 b)
            (l.columns.falling.inside r k h (at_many k b));
      }
    where
      at_many : (k : ℕ) → k < starts # (own + 1) - starts # own → k < many_in i starts own
      at_many k b = rw (lt-ltb own i p) b

  pub within_places : Within places (length here) here
  within_places = record { inside = λ k g. omega (arith, within_rows.inside k g, l.columns.falling.small) }

  pub column_read : length here ≤ length (part (starts # own) (starts # (own + 1)) vals)
  column_read = omega (arith, here_long, part_long (starts # own) (starts # (own + 1)) vals (l.vals_long own p))

  pub row_limits : (r < max_rows) × (own < max_rows) × (starts # own ≤ starts # (own + 1)) ×
      (starts # (own + 1) ≤ length rows) × (starts # (own + 1) ≤ length vals)
  row_limits = (
    omega (arith, l.columns.falling.small),
    omega (arith, l.starts_few),
    l.columns.rise own p,
    l.columns.ends own p,
    l.vals_long own p,
  )

-- a row that is a pivot row, and one that isn't
module _ (number : List ℕ) (i : ℕ) (starts rows : List ℕ) (vals : List Float) (r : ℕ) (s : Sv) where
  pub back_taken : number # r < i → take_off (s.vals ! r) (part (starts # (number # r)) (starts # (number # r + 1))
      rows) (part (starts # (number # r)) (starts # (number # r + 1)) vals) s ≡ back_one number i starts rows vals r s
  unfolding back_one
  back_taken h = rw (lt-ltb (number # r) i h) refl

  pub back_left : i ≤ number # r → s ≡ back_one number i starts rows vals r s
  unfolding back_one
  back_left h = rw (le-ltb (number # r) i h) refl

module _ {m : ℕ} {number : List ℕ} {i : ℕ} {starts rows : List ℕ} {vals : List Float}
    (l : Lower m number i starts rows vals) (d : List ℕ) where
  pub good_back : (k : ℕ) (s : Sv) → d # k < m → Good places s → Good places (back_turn number i starts rows vals d k s)
  unfolding back_one
  good_back k s h g = by (is_pivot number i (d # k)) refl
    where
      by : (b : Bool) → is_pivot number i (d # k) ≡ b
          → Good places (back_by b (d # k) (number # (d # k)) starts rows vals s)
      by true e = good_take_off _ _ _ (within_places l (d # k) h (ltb-true (number # (d # k)) i e)) s g
      by false e = g

  below_back : (k : ℕ) (s : Sv) → d # k < m → Below m s → Below m (back_turn number i starts rows vals d k s)
  unfolding back_one
  below_back k s h g = by (is_pivot number i (d # k)) refl
    where
      by : (b : Bool) → is_pivot number i (d # k) ≡ b → Below m (back_by b (d # k) (number # (d # k)) starts rows vals s)
      by true e = below_take_off _ _ _ (within_rows l (d # k) h (ltb-true (number # (d # k)) i e)) s g
      by false e = g

  pub good_reduced : (w : State) (s : Sv) → w.done ≡ d → Places m w.count d → Good places s
      → Good places (reduced number i starts rows vals w s)
  unfolding reduced
  good_reduced w s q p g = keeps_down (back_turn number i starts rows vals w.done) (Good places) w.count
      (λ k t h u. rw q (good_back k t (p.places k h) u)) s g

  pub below_reduced : (w : State) (s : Sv) → w.done ≡ d → Places m w.count d → Below m s
      → Below m (reduced number i starts rows vals w s)
  unfolding reduced
  below_reduced w s q p b = keeps_down (back_turn number i starts rows vals w.done) (Below m) w.count
      (λ k t h u. rw q (below_back k t (p.places k h) u)) s b

-- ---- the pivot
module _ (number : List ℕ) (i r : ℕ) (x : Float) (b : Best) where
  pub better_old : number # r < i → b ≡ better number i r x b
  unfolding better
  better_old h = rw (lt-ltb (number # r) i h) refl

  module _ (h : i ≤ number # r) {s : Float} (e : s ≡ size x) where
    pub better_new : lt b.most s ≡ true → best r s ≡ better number i r x b
    unfolding better
    better_new g = rw (le-ltb (number # r) i h, ← e, g) refl

    pub better_kept : lt b.most s ≡ false → b ≡ better number i r x b
    unfolding better
    better_kept g = rw (le-ltb (number # r) i h, ← e, g) refl

-- ---- the entries
module _ (number : List ℕ) (i row : ℕ) (pivot : Float) (r : ℕ) (x : Float) (t : Parts) where
  pub gather_zero : eq x f0 ≡ true → t ≡ gathered_one number i row pivot r x t
  unfolding gathered_one
  gather_zero e = rw e refl

  module _ (e : eq x f0 ≡ false) where
    pub gather_upper : number # r < i → parts t.lower (push t.upper (number # r) x) ≡ gathered_one number i row
        pivot r x t
    unfolding gathered_one
    gather_upper h = rw (e, lt-ltb (number # r) i h) refl

    pub gather_pivot : i ≤ number # r → r ≡ row → t ≡ gathered_one number i row pivot r x t
    unfolding gathered_one
    gather_pivot h q = rw (e, le-ltb (number # r) i h, eq-eqb r row q) refl

    pub gather_lower : i ≤ number # r → (r ≡ row → ⊥)
        → parts (push t.lower r (x ⊘ pivot)) t.upper ≡ gathered_one number i row pivot r x t
    unfolding gathered_one
    gather_lower h q = rw (e, le-ltb (number # r) i h, ne_eqb r row q) refl

-- ---- the answers
module _ (number : List ℕ) (i : ℕ) (v : List Float) (l : List ℕ) (n : ℕ) (t : Parts) where
  pub judged_wild : listed_finite v l n ≡ false → non_finite ≡ judged number i v l n t
  unfolding judged
  judged_wild e = rw e refl

  module _ (e : listed_finite v l n ≡ true) {b : Best} (q : b ≡ chosen number i v l n) where
    pub judged_flat : le eps b.most ≡ false → singular ≡ judged number i v l n t
    unfolding judged
    judged_flat g = rw (e, ← q, g) refl

    pub judged_added : le eps b.most ≡ true → {u : Parts} → u ≡ gathered number i b.row v l n t
        → factored (found b.row (v ! b.row) u) ≡ judged number i v l n t
    unfolding judged
    judged_added g {u} h = rw (e, ← q, g, h) refl

  -- what the code's choice has is what the definition's has
  pub row_of : {b : Best} → b ≡ chosen number i v l n → Judgeable number i v l n t → b.row < max_rows
  row_of e j = rw e j.row

  pub roomy_of : {b : Best} → b ≡ chosen number i v l n → Judgeable number i v l n t → le eps b.most ≡ true
      → Roomy number i b.row v l n t
  roomy_of {b} e j h = subst (λ (x : Best). le eps x.most ≡ true
      → Roomy number i x.row v l n t) (sym e) j.roomy h

-- ---- the walk, the list, and L taken off
module _ {m : ℕ} {number : List ℕ} {i : ℕ} {starts rows : List ℕ} {vals : List Float}
    (l : Lower m number i starts rows vals) {s : Sv} (g : Vector m s) where
  pub listed_rows : ListedIn m s.pat.list s.pat.count
  listed_rows = record {
    listed_long = omega (arith, g.good.wf.within, g.good.wf.list_long);
    places = g.below.below;
  }

  -- the finished rows are rows, and few enough
  pub places_walked : {w : State} → w ≡ walked m number i starts rows s → Places m w.count w.done
  places_walked {w} e =
      let f = subst Fits (sym e) (fits_in l.columns listed_rows fits_fresh) in
      let d = subst (FinishedIn m) (sym e) (finished_in l.columns listed_rows fits_fresh finished_fresh) in
      record {
        in_list = omega (arith, f.counted, trues_le w.marks, f.marks_long);
        in_size = l.columns.falling.small;
        places = d.finished;
      }

  pub places_all : {w : State} → w ≡ walked m number i starts rows s → Places max_rows w.count w.done
  places_all e =
      let p = places_walked e in
      record { in_list = p.in_list; in_size = omega arith; places = λ k h. omega (arith, p.places k h, p.in_size) }

  pub good_list : {w : State} → w ≡ walked m number i starts rows s
      → Good places (sv_of s.vals (grown w.done w.count s.pat))
  good_list {w} e = good_grown w.done w.count s (places_all e) g.good

  pub solved_made : {w : State} {p : Pat} {u : Sv} → w ≡ walked m number i starts rows s
      → p ≡ grown w.done w.count s.pat → u ≡ reduced number i starts rows vals w (sv_of s.vals p)
      → u ≡ solved m number i starts rows vals s
  unfolding solved
  solved_made e f h = rw (h, f, e) refl

  -- what it leaves is in order
  pub vector_solved : Vector m (solved m number i starts rows vals s)
  unfolding solved
  vector_solved =
      let w = walked m number i starts rows s in
      let p = places_walked {w = w} refl in
      record {
        good = good_reduced l w.done w _ refl p (good_list {w = w} refl);
        below = below_reduced l w.done w _ refl p (below_grown w.done w.count s p g.below);
      }

pub column_made : (m i : ℕ) (number starts : List ℕ) (t : Parts) (s : Sv) {u : Sv} {o : Outcome Found}
    → u ≡ solved m number i starts t.lower.rows t.lower.vals s
    → o ≡ judged number i u.vals u.pat.list u.pat.count t → o ≡ column m i number starts t s
unfolding column
column_made m i number starts t s e h = rw (h, e) refl
