-- Laws of the walk: how deep is deep enough, and that more places are marked than finished while one is open, so that
-- an append fits. Assumes nothing.
use mathlib.Core.Path.{◌≡◌, refl, sym, ap, ◌∙◌, subst}
use mathlib.Core.Bool.{Bool, true, false}
use mathlib.Core.Logic.{⊎_elim}
use mathlib.Core.List.{List}
use Prim.Native.Nat.{ℕ, zero, suc, ◌+◌, ◌-◌, ◌<◌, ◌≤◌}
use native.Mathlib.Nat.{le_refl}
use native.Mathlib.Omega.{arith}
use lib.Dec.{ltb}
use lib.ListN.{length, get_or, length-set, length-replicate}
use lib.Seq.{get_or-set_same, get_or-set_other}
use borrow.Author.Tests.{ltb-true, lt-ltb}
use Rattle.doubles.specs.Limits.{max_rows}
use Rattle.doubles.specs.Loop.{run}
use Rattle.doubles.specs.Lists.{◌#◌}
use Rattle.doubles.proofs.Bools.{last?}
use Rattle.doubles.proofs.Loops.{run_same, keeps}
use Rattle.sparse.specs.Scattered.{trues}
use Rattle.sparse.proofs.Laws.{trues_set, trues_le, set_below}
use Rattle.lu_walk.specs.Walk.{Graph, Shape, Mapped, mapped, State, fresh, many, kid, left, left_by, passes}
use Rattle.lu_walk.specs.Walk.{many_if, many_in, graph_of, graph_in, own_turn, own_numbers, mark, finish, unless, walk}
use Rattle.lu_walk.specs.Walk.{walk_of, kid_turn, list_turn, enter_turn, reached, reached_in, Falling, Columns}
use Rattle.lu_walk.specs.Walk.{MapColumns, Fits, Walkable, ListedIn, Listed}

left_by_le : (b : Bool) (n p : ℕ) → p < n → left_by b n p ≤ n
left_by_le true n p h = omega arith
left_by_le false n p h = omega arith

-- a triangle's rows left fall
pub falling_columns : {t : Shape} → Columns t → Falling (graph_of t)
falling_columns {t} c = record {
  small = c.small;
  inside = c.inside;
  falls = c.falls;
  shallow = λ j h. left_by_le
      t.lower t.size j h;
}

-- a place that is marked is left
pub walk_old : (k : ℕ) (g : Graph) (p : ℕ) (s : State) → get_or s.marks p false ≡ true → walk k g p s ≡ s
unfolding walk
walk_old zero g p s e = refl
walk_old (suc k) g p s e = rw e

module _ {g : Graph} (c : Falling g) where
  -- any two depths that are deep enough give the same walk
  enough : (k l p : ℕ) (s : State) → p < g.size → g.left p < k → g.left p < l → walk k g p s ≡ walk l g p s
  unfolding walk
  enough zero l p s h a b = absurd (omega arith)
  enough (suc k) zero p s h a b = absurd (omega arith)
  enough (suc k) (suc l) p s h a b =
      ap (λ (u : State). unless (get_or s.marks p false) s (finish p u))
      (run_same (λ i. walk k g (g.kid p i)) (λ i. walk l g (g.kid p i)) (g.many p)
      (λ i u e. enough k l (g.kid p i) u (c.inside p i h e) (omega (arith, c.falls p i h e))
      (omega (arith, c.falls p i h e))) (mark p s))

  -- a place that is not: marked, its children walked, and finished
  pub walk_new : (p : ℕ) (s : State) → p < g.size → get_or s.marks p false ≡ false
      → walk_of g p s ≡ finish p (run (kid_turn g p) (g.many p) (mark p s))
  unfolding walk
  walk_new p s h e =
      rw e
      (ap (finish p)
      (run_same (λ i. walk g.size g (g.kid p i)) (kid_turn g p) (g.many p)
      (λ i u f. enough g.size (suc g.size) (g.kid p i) u (c.inside p i h f)
      (omega (arith, c.falls p i h f, c.shallow p h)) (omega
      (arith, c.shallow (g.kid p i) (c.inside p i h f)))) (mark p s)))

-- lengths stay, and as many places are finished as marked
pub record Steady (s u : State) : Type 0 where
  pub marks_kept : length u.marks ≡ length s.marks
  pub done_kept : length u.done ≡ length s.done
  pub balance : u.count + trues s.marks ≡ s.count + trues u.marks

steady_refl : (s : State) → Steady s s
steady_refl s = record { marks_kept = refl; done_kept = refl; balance = refl }

steady_trans : {s u v : State} → Steady s u → Steady u v → Steady s v
steady_trans a b = record {
  marks_kept = b.marks_kept ∙ a.marks_kept;
  done_kept = b.done_kept ∙ a.done_kept;
  balance
      = omega (arith, a.balance, b.balance);
}

module _ {g : Graph} (c : Falling g) where
  -- marked, walked and finished
  steady_new : (p : ℕ) (s u : State) → p < length s.marks → get_or s.marks p false ≡ false → Steady (mark p s) u
      → Steady s (finish p u)
  steady_new p s u h e a =
      record {
        marks_kept = a.marks_kept ∙ length-set s.marks p true;
        done_kept = length-set u.done u.count p ∙ a.done_kept;
        balance = omega (arith, a.balance, trues_set s.marks p h e);
      }

  steady_by : (b : Bool) (p : ℕ) (s u : State) → p < length s.marks → get_or s.marks p false ≡ b
      → Steady (mark p s) u → Steady s (unless b s (finish p u))
  steady_by true p s u h e a = steady_refl s
  steady_by false p s u h e a = steady_new p s u h e a

  walk_steady : (k p : ℕ) (s : State) → p < g.size → length s.marks ≡ max_rows → Steady s (walk k g p s)
  unfolding walk
  walk_steady zero p s h e = steady_refl s
  walk_steady (suc k) p s h e =
      steady_by (get_or s.marks p false) p s (run (λ i. walk k g (g.kid p i)) (g.many p) (mark p s))
      (omega (arith, c.small)) refl
      (keeps (λ i. walk k g (g.kid p i)) (mark p s) (λ _. Steady (mark p s)) (g.many p)
      (λ i u f a. steady_trans a (walk_steady k (g.kid p i) u (c.inside p i h f)
      (a.marks_kept ∙ length-set s.marks p true ∙ e)))
      (steady_refl (mark p s)) (g.many p) (le_refl (g.many p)))

  fits_steady : {s u : State} → Fits s → Steady s u → Fits u
  fits_steady f a =
      record {
        marks_long = a.marks_kept ∙ f.marks_long;
        done_long = a.done_kept ∙ f.done_long;
        counted = omega (arith, f.counted, a.balance);
      }

-- ---- a visit of a place that is not marked: u is the state after k of its children
pub record Open (p : ℕ) (s u : State) : Type 0 where
  pub fits : Fits u
  pub room : u.count < max_rows

module _ {t : Mapped} {p : ℕ} {s : State} (w : Walkable t p s) (new : get_or s.marks p false ≡ false) where
  abbrev g : Graph
  g = graph_in t

  steady_kids : (k : ℕ) → k ≤ g.many p → Steady (mark p s) (run (kid_turn g p) k (mark p s))
  steady_kids k h =
      keeps (kid_turn g p) (mark p s) (λ _. Steady (mark p s)) (g.many p)
      (λ i u f a.
      steady_trans a
      (walk_steady w.columns.falling (suc g.size) (g.kid p i) u (w.columns.falling.inside p i w.place f)
      (a.marks_kept ∙ length-set s.marks p true ∙ w.fits.marks_long)))
      (steady_refl (mark p s)) k h

  inside : p < length s.marks
  inside = omega (arith, w.place, w.columns.falling.small, w.fits.marks_long)

  module _ {u : State} {k : ℕ} (e : u ≡ run (kid_turn g p) k (mark p s)) (h : k ≤ g.many p) where
    -- more places are marked than finished: the next cell is free
    pub opened : Open p s u
    opened =
        let a = subst (Steady (mark p s)) (sym e) (steady_kids k h) in
        let long : length u.marks ≡ max_rows = a.marks_kept ∙ length-set s.marks p true ∙ w.fits.marks_long in
        let plus = trues_set s.marks p inside new in
        record {
          fits = record {
            marks_long = long;
            done_long = a.done_kept ∙ w.fits.done_long;
            counted = omega
                (arith, a.balance, plus, w.fits.counted);
          };
          room = omega (arith, a.balance, plus, w.fits.counted, long, trues_le u.marks);
        }

    -- what the visit of a child asks
    pub asks : (j : ℕ) → j < g.many p → Walkable t (g.kid p j) u
    asks j f = record {
      columns = w.columns;
      place = w.columns.falling.inside p j w.place f;
      fits = opened.fits;
    }

    pub closed : g.many p ≤ k → finish p u ≡ walk_of g p s
    closed f = ap (finish p) (e ∙ ap (λ (j : ℕ). run (kid_turn g p) j (mark p s)) same) ∙ sym
        (walk_new w.columns.falling p s w.place new)
      where
        same : k ≡ g.many p
        same = omega arith

-- a place that has a child has a number with a column
many_by : (b : Bool) {j bound n i : ℕ} → ltb j bound ≡ b → i < many_if b n → (j < bound) × (i < n)
many_by true {j} {bound} e h = (ltb-true j bound e, h)
many_by false e h = absurd (omega arith)

pub many_at : (t : Mapped) (p i : ℕ) → i < (graph_in t).many p
    → (t.at # p < t.bound) × (i < t.starts # (t.at # p + 1) - t.starts # (t.at # p))
unfolding many_in
many_at t p i h = many_by (ltb (t.at # p) t.bound) refl h

-- ---- the walk from the listed places

-- every finished place is one of the first m
pub record FinishedIn (m : ℕ) (s : State) : Type 0 where
  pub finished : (i : ℕ) → i < s.count → s.done # i < m

abbrev pub Finished : Shape → State → Type 0
Finished t s = FinishedIn t.size s

module _ {g : Graph} (c : Falling g) where
  finished_by : (b : Bool) (p : ℕ) (s u : State) → p < g.size → FinishedIn g.size s → FinishedIn g.size u
      → FinishedIn g.size (unless b s (finish p u))
  finished_by true p s u h f e = f
  finished_by false p s u h f e = record {
    finished = λ i l. set_below u.done u.count p g.size h e.finished
        i (omega arith);
  }

  walk_finished : (k p : ℕ) (s : State) → p < g.size → FinishedIn g.size s → FinishedIn g.size (walk k g p s)
  unfolding walk
  walk_finished zero p s h f = f
  walk_finished (suc k) p s h f =
      finished_by (get_or s.marks p false) p s (run (λ i. walk k g (g.kid p i)) (g.many p) (mark p s)) h f
      (keeps (λ i. walk k g (g.kid p i)) (mark p s) (λ _. FinishedIn g.size) (g.many p)
      (λ i u e a. walk_finished k (g.kid p i) u (c.inside p i h e) a)
      (record { finished = f.finished }) (g.many p) (le_refl (g.many p)))

  walk_fits : (p : ℕ) (s : State) → p < g.size → Fits s → Fits (walk_of g p s)
  walk_fits p s h a = fits_steady c a (walk_steady c (suc g.size) p s h a.marks_long)

module _ {t : Shape} {l : List ℕ} {n : ℕ} {s : State} (c : Columns t) (r : Listed t l n) (f : Fits s) where
  pub fits_reached : Fits (reached t l n s)
  unfolding reached
  fits_reached = keeps (list_turn (graph_of t) l) s (λ _. Fits) n
      (λ i u h a. walk_fits (falling_columns c) (l # i) u (r.places i h) a) f n (le_refl n)

  pub finished_reached : Finished t s → Finished t (reached t l n s)
  unfolding reached
  finished_reached e = keeps (list_turn (graph_of t) l) s (λ _. Finished t) n
      (λ i u h a. walk_finished (falling_columns c) (suc t.size) (l # i) u (r.places i h) a) e n (le_refl n)

module _ {t : Mapped} (c : MapColumns t) where
  by_filter : (P : State → Type 0) (b : Bool) {s u : State} → P s → P u → P (unless b u s)
  by_filter P true p q = q
  by_filter P false p q = p

  module _ {l : List ℕ} {n : ℕ} {s : State} (r : ListedIn t.size l n) (f : Fits s) where
    pub fits_part : (k : ℕ) → k ≤ n → Fits (run (enter_turn t l) k s)
    fits_part k h = keeps (enter_turn t l) s (λ _. Fits) n (λ i u e a. by_filter Fits
        (passes t.bound (t.at # (l # i))) a (walk_fits c.falling (l # i) u (r.places i e) a)) f k h

    pub fits_in : Fits (reached_in t l n s)
    unfolding reached_in
    fits_in = fits_part n (le_refl n)

    pub finished_in : FinishedIn t.size s → FinishedIn t.size (reached_in t l n s)
    unfolding reached_in
    finished_in e =
        keeps (enter_turn t l) s (λ _. FinishedIn t.size) n
        (λ i u h a. by_filter (FinishedIn t.size) (passes t.bound (t.at # (l # i))) a
        (walk_finished c.falling (suc t.size) (l # i) u (r.places i h) a)) e n (le_refl n)

-- what fresh arrays hold
pub fits_fresh : Fits fresh
fits_fresh = record {
  marks_long = length-replicate max_rows false;
  done_long = length-replicate {A = ℕ} max_rows 0;
  counted = omega arith;
}

pub finished_fresh : {m : ℕ} → FinishedIn m fresh
finished_fresh = record { finished = λ i h. absurd (omega arith) }

-- ---- a triangle's row map: every place is its own number
module _ {t : Shape} (c : Columns t) (at : List ℕ) (own : (p : ℕ) → p < t.size → at # p ≡ p) where
  abbrev plain : Mapped
  plain = mapped t.lower t.size at t.size t.starts t.rows

  pass : (p : ℕ) → p < t.size → passes t.size (at # p) ≡ true
  pass p h = rw (own p h) (lt-ltb p t.size h)

  same_many : (p : ℕ) → p < t.size → (graph_in plain).many p ≡ many t p
  unfolding many_in
  same_many p h = rw (own p h, lt-ltb p t.size h) refl

  same_kid : (p i : ℕ) → p < t.size → (graph_in plain).kid p i ≡ kid t p i
  same_kid p i h = rw (own p h) refl

  same_left : (p : ℕ) → p < t.size → (graph_in plain).left p ≡ left t p
  same_left p h = rw (own p h) refl

  pub map_columns : MapColumns plain
  map_columns =
      record {
        falling = record {
          small = c.small;
          inside = λ j i h g. rw (same_kid j i h) (c.inside j i h (rw (same_many j h) at g));
          falls = λ j i h g.
              let f = rw (same_many j h) at g in
              rw (same_kid j i h, same_left j h, same_left (kid t j i) (c.inside j i h f)) (c.falls j i h f);
          shallow = λ j h. rw (same_left j h) ((falling_columns c).shallow j h);
        };
        long = c.long;
        rise = c.rise;
        ends = c.ends;
      }

  walk_same : (k p : ℕ) (s : State) → p < t.size → walk k (graph_in plain) p s ≡ walk k (graph_of t) p s
  unfolding walk
  walk_same zero p s h = refl
  walk_same (suc k) p s h =
      rw (same_many p h)
      (ap (λ (u : State). unless (get_or s.marks p false) s (finish p u))
      (run_same (λ i. walk k (graph_in plain) ((graph_in plain).kid p i)) (λ i. walk k (graph_of t) (kid t p i)) (many t p)
      (λ i u g. rw (same_kid p i h) (walk_same k (kid t p i) u (c.inside p i h g))) (mark p s)))

  -- so it is walked as the triangle is
  pub reached_plain : (l : List ℕ) (n : ℕ) (s : State) → Listed t l n → reached_in plain l n s ≡ reached t l n s
  unfolding reached_in reached
  reached_plain l n s r =
      run_same (enter_turn plain l) (list_turn (graph_of t) l) n
      (λ i u g. rw (pass (l # i) (r.places i g)) (walk_same (suc t.size) (l # i) u (r.places i g))) s

-- what `own_numbers` leaves
record Owned (n : ℕ) (l : List ℕ) : Type 0 where
  own_long : length l ≡ max_rows
  own_at : (p : ℕ) → p < n → l # p ≡ p

owned : (n : ℕ) (l : List ℕ) → length l ≡ max_rows → n ≤ max_rows → Owned n (run own_turn n l)
owned n l e h =
    keeps own_turn l Owned n
    (λ k m g o. record {
      own_long = length-set m k k ∙ o.own_long;
      own_at = λ p f. ⊎_elim
          (λ (b : p < k). get_or-set_other m k p k 0 (λ (q : p ≡ k). omega arith) ∙ o.own_at p b)
          (λ (b : p ≡ k). rw b (get_or-set_same m k k 0 (omega (arith, o.own_long))))
          (last? p k f);
    })
    (record { own_long = e; own_at = λ p f. absurd (omega arith) }) n (le_refl n)

pub own_numbers_holds : (n : ℕ) {at : List ℕ} (l : List ℕ) → at ≡ own_numbers n l → length l ≡ max_rows → n ≤ max_rows → (p : ℕ)
    → p < n → at # p ≡ p
unfolding own_numbers
own_numbers_holds n l e f h p g = rw e ((owned n l f h).own_at p g)
