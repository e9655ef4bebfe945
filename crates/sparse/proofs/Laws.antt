-- The laws of `specs/Scattered.antt`'s definitions. No contract cites this file. Assumes nothing.
use mathlib.Core.Path.{◌≡◌, refl, sym, ap, ◌∙◌, subst}
use mathlib.Core.Bool.{Bool, true, false}
use mathlib.Core.List.{List, [], ◌∷◌, ◌++◌}
use Prim.Native.Nat.{ℕ, zero, suc, ◌+◌, ◌<◌, ◌≤◌}
use native.Mathlib.Nat.{le_of_suc-le-suc, not-suc-le-zero, le_refl}
use native.Mathlib.Numerals.{add-one}
use native.Mathlib.Omega.{arith}
use lib.ListN.{length, get_or, set, take, drop, length-set, drop_of_length-le, replicate, length-replicate, get_or-replicate}
use lib.Seq.{length-take-le, take-suc-set, get_or-set_same, get_or-set_other, set-set, set_comm, set-get_or, get_or-take, drop-cons}
use lib.Ieee.{Float, nan}
use lib.Dec.{eqb}
use borrow.Author.Tests.{eqb-true, eqb-false}
use Rattle.doubles.specs.Num.{f0}
use Rattle.doubles.specs.Lists.{◌!◌, ◌#◌}
use Rattle.doubles.specs.Limits.{places}
use Rattle.doubles.specs.Loop.{run}
use Rattle.doubles.proofs.Loops.{keeps}
use Rattle.sparse.specs.Scattered.{Pat, Sv, blank, touched, touched_by, trues, Built, Wf, Good, Below, Within, listed, listed_val, put_at, take_turn, take_off, put_turn, loaded, clear_turn, cleared}

-- ---- the count of the marks

pub no_both : (b : Bool) → b ≡ true → b ≡ false → ⊥
no_both b p q = let z : ◌≡◌ {A = ℕ} 0 1 = cc in omega arith

-- to clear a mark takes one off the count
trues_clear : (m : List Bool) (i : ℕ) → i < length m → get_or m i false ≡ true → trues m ≡ suc (trues (set m i false))
unfolding trues
trues_clear [] i h e = absurd (not-suc-le-zero h)
trues_clear (true ∷ m) zero h e = refl
trues_clear (false ∷ m) zero h e = absurd (no_both false e refl)
trues_clear (true ∷ m) (suc i) h e = ap suc (trues_clear m i (le_of_suc-le-suc h) e)
trues_clear (false ∷ m) (suc i) h e = trues_clear m i (le_of_suc-le-suc h) e

pub trues_le : (m : List Bool) → trues m ≤ length m
unfolding trues
trues_le [] = omega arith
trues_le (true ∷ m) = omega (arith, trues_le m)
trues_le (false ∷ m) = omega (arith, trues_le m)

-- to set one adds one
pub trues_set : (m : List Bool) (i : ℕ) → i < length m → get_or m i false ≡ false → trues (set m i true) ≡ suc (trues m)
unfolding trues
trues_set [] i h e = absurd (not-suc-le-zero h)
trues_set (true ∷ m) zero h e = absurd (no_both true refl e)
trues_set (false ∷ m) zero h e = refl
trues_set (true ∷ m) (suc i) h e = ap suc (trues_set m i (le_of_suc-le-suc h) e)
trues_set (false ∷ m) (suc i) h e = trues_set m i (le_of_suc-le-suc h) e

-- the pigeonhole: where a place is not marked, fewer are marked than there are
pub trues_room : (m : List Bool) (i : ℕ) → i < length m → get_or m i false ≡ false → trues m < length m
unfolding trues
trues_room [] i h e = absurd (not-suc-le-zero h)
trues_room (true ∷ m) zero h e = absurd (no_both true refl e)
trues_room (false ∷ m) zero h e = omega (arith, trues_le m)
trues_room (true ∷ m) (suc i) h e = omega (arith, trues_room m i (le_of_suc-le-suc h) e)
trues_room (false ∷ m) (suc i) h e = omega (arith, trues_room m i (le_of_suc-le-suc h) e)

-- and where only places below b are marked, at most b are
pub trues_below : (m : List Bool) (b : ℕ) → ((q : ℕ) → get_or m q false ≡ true → q < b) → trues m ≤ b
unfolding trues
trues_below [] b h = omega arith
trues_below (true ∷ m) zero h = absurd (omega (arith, h 0 refl))
trues_below (true ∷ m) (suc b) h = omega (arith, trues_below m b (λ q e. le_of_suc-le-suc (h (suc q) e)))
trues_below (false ∷ m) zero h = trues_below m zero (λ q e. absurd (omega (arith, h (suc q) e)))
trues_below (false ∷ m) (suc b) h = omega (arith, trues_below m b (λ q e. le_of_suc-le-suc (h (suc q) e)))

-- no mark is set
pub none_set : (m : List Bool) → trues m ≡ 0 → (j : ℕ) → get_or m j false ≡ false
unfolding trues
none_set [] e j = refl
none_set (true ∷ m) e j = absurd (omega arith)
none_set (false ∷ m) e zero = refl
none_set (false ∷ m) e (suc j) = none_set m e j

pub falses : (n : ℕ) → trues (replicate n false) ≡ 0
unfolding trues
falses zero = refl
falses (suc n) = falses n

-- ---- the list

built_count : (l : List ℕ) (m : List Bool) → Built l m → trues m ≡ length l
unfolding Built
built_count [] m b = b
built_count (i ∷ l) m b = trues_clear m i b.0 b.1 ∙ ap suc (built_count l (set m i false) b.2)

-- each place of the list is within the marks
built_within : (l : List ℕ) (m : List Bool) → Built l m → (k : ℕ) → k < length l → get_or l k 0 < length m
unfolding Built
built_within [] m b k h = absurd (not-suc-le-zero h)
built_within (i ∷ l) m b zero h = b.0
built_within (i ∷ l) m b (suc k) h = omega (arith, built_within l (set m i false) b.2 k (le_of_suc-le-suc h), length-set m i false)

-- a mark that is set when the place i is unmarked is another place's
unmarked : (m : List Bool) (i q : ℕ) → i < length m → get_or (set m i false) q false ≡ true → (q ≡ i → ⊥) × (get_or m q false ≡ true)
unmarked m i q h e =
    let other : q ≡ i → ⊥ = λ s. no_both (get_or (set m i false) q false) e (ap (λ (k : ℕ). get_or (set m i false) k false) s ∙ get_or-set_same m i false false h) in
    (other, sym (get_or-set_other m i q false false other) ∙ e)

-- each place of the list is marked
built_marked : (l : List ℕ) (m : List Bool) → Built l m → (k : ℕ) → k < length l → get_or m (get_or l k 0) false ≡ true
unfolding Built
built_marked [] m b k h = absurd (not-suc-le-zero h)
built_marked (i ∷ l) m b zero h = b.1
built_marked (i ∷ l) m b (suc k) h = (unmarked m i (get_or l k 0) b.0 (built_marked l (set m i false) b.2 k (le_of_suc-le-suc h))).1

-- no place is listed twice
built_once : (l : List ℕ) (m : List Bool) → Built l m → (j k : ℕ) → j < length l → k < length l → get_or l j 0 ≡ get_or l k 0 → j ≡ k
unfolding Built
built_once [] m b j k h g e = absurd (not-suc-le-zero h)
built_once (i ∷ l) m b zero zero h g e = refl
built_once (i ∷ l) m b zero (suc k) h g e =
    absurd ((unmarked m i (get_or l k 0) b.0 (built_marked l (set m i false) b.2 k (le_of_suc-le-suc g))).0 (sym e))
built_once (i ∷ l) m b (suc j) zero h g e =
    absurd ((unmarked m i (get_or l j 0) b.0 (built_marked l (set m i false) b.2 j (le_of_suc-le-suc h))).0 e)
built_once (i ∷ l) m b (suc j) (suc k) h g e = ap suc (built_once l (set m i false) b.2 j k (le_of_suc-le-suc h) (le_of_suc-le-suc g) e)

-- every marked place is listed
built_place : (l : List ℕ) (m : List Bool) → Built l m → (q : ℕ) → get_or m q false ≡ true → (k : ℕ) × (k < length l) × (get_or l k 0 ≡ q)
unfolding Built
built_place [] m w q e = absurd (no_both (get_or m q false) e (none_set m w q))
built_place (i ∷ l) m w q e = go (eqb q i) refl (λ (o : q ≡ i → ⊥). built_place l (set m i false) w.2 q (get_or-set_other m i q false false o ∙ e))
  where
    go : (d : Bool) → eqb q i ≡ d → ((q ≡ i → ⊥) → (k : ℕ) × (k < length l) × (get_or l k 0 ≡ q)) → (k : ℕ) × (k < suc (length l)) × (get_or (i ∷ l) k 0 ≡ q)
    go true t f = (0, omega arith, sym (eqb-true q i t))
    go false t f = let r = f (eqb-false q i t) in (suc r.0, omega (arith, r.1), r.2)

-- a place that is not marked, marked and appended
built_snoc : (l : List ℕ) (m : List Bool) (i : ℕ) → i < length m → get_or m i false ≡ false → Built l m → Built (l ++ (i ∷ [])) (set m i true)
unfolding Built
built_snoc [] m i h e b = (
  omega (arith, length-set m i true),
  get_or-set_same m i true false h,
  subst (λ (x : List Bool). trues x ≡ 0) (sym (set-set m i true false ∙ ap (set m i) (sym e) ∙ set-get_or m i false)) b,
)
built_snoc (j ∷ l) m i h e b =
    let other : j ≡ i → ⊥ = λ q. no_both (get_or m j false) b.1 (ap (λ (k : ℕ). get_or m k false) q ∙ e) in (
      omega (arith, b.0, length-set m i true),
      get_or-set_other m i j true false other ∙ b.1,
      subst (λ (x : List Bool). Built (l ++ (i ∷ [])) x) (set_comm m j i false true other)
          (built_snoc l (set m j false) i (omega (arith, length-set m j false)) (get_or-set_other m j i false false (λ q. other (sym q)) ∙ e) b.2),
    )

-- ---- the pattern

module _ {n : ℕ} (p : Pat) (w : Wf n p) where
  abbrev used : List ℕ
  used = take p.count p.list

  used_long : length used ≡ p.count
  used_long = length-take-le p.count p.list (omega (arith, w.within, w.list_long))

  pub wf_count : trues p.marks ≡ p.count
  wf_count = built_count used p.marks w.built ∙ used_long

  -- each listed place is within the marks
  pub wf_listed : (k : ℕ) → k < p.count → p.list # k < n
  wf_listed k h =
      omega (arith, w.marks_long, get_or-take p.count p.list k 0 h, built_within used p.marks w.built k (omega (arith, used_long)))

  -- no place is listed twice
  pub wf_once : (j k : ℕ) → j < p.count → k < p.count → p.list # j ≡ p.list # k → j ≡ k
  wf_once j k h g e =
      built_once used p.marks w.built j k (omega (arith, used_long)) (omega (arith, used_long))
      (get_or-take p.count p.list j 0 h ∙ e ∙ sym (get_or-take p.count p.list k 0 g))

  -- each listed place is marked
  wf_marked : (k : ℕ) → k < p.count → get_or p.marks (p.list # k) false ≡ true
  wf_marked k h = rw (get_or-take p.count p.list k 0 h) at (built_marked used p.marks w.built k (omega (arith, used_long)))

  -- and each marked one is listed
  wf_place : (q : ℕ) → get_or p.marks q false ≡ true → (k : ℕ) × (k < p.count) × (p.list # k ≡ q)
  wf_place q e =
      let r = built_place used p.marks w.built q e in
      let h : r.0 < p.count = omega (arith, r.1, used_long) in
      (r.0, h, sym (get_or-take p.count p.list r.0 0 h) ∙ r.2)

  -- where the listed places are below b, there are at most b of them
  wf_below : (b : ℕ) → ((k : ℕ) → k < p.count → p.list # k < b) → p.count ≤ b
  wf_below b h = omega (arith, wf_count, trues_below p.marks b (λ q e. let r = wf_place q e in rw (← r.2) (h r.0 r.1)))

  module _ (i : ℕ) (h : i < n) where
    below : i < length p.marks
    below = omega (arith, w.marks_long)

    -- a first touch has room in the list
    pub wf_room : get_or p.marks i false ≡ false → p.count < n
    wf_room e = omega (arith, trues_room p.marks i below e, wf_count, w.marks_long)

    wf_touched_by : (b : Bool) → get_or p.marks i false ≡ b → Wf n (touched_by b p i)
    wf_touched_by true e = w
    wf_touched_by false e =
        record {
          marks_long = length-set p.marks i true ∙ w.marks_long;
          list_long = length-set p.list p.count i ∙ w.list_long;
          within = omega (arith, wf_room e);
          built = rw (add-one, take-suc-set p.list p.count i (omega (arith, wf_room e, w.list_long))) (built_snoc used p.marks i below e w.built);
        }

    pub wf_touched : Wf n (touched p i)
    unfolding touched
    wf_touched = wf_touched_by (get_or p.marks i false) refl

-- a place that is not marked after a touch is another place, and was not marked before
untouched_by : (p : Pat) (r j : ℕ) (b : Bool) → r < length p.marks → get_or p.marks r false ≡ b → get_or (touched_by b p r).marks j false ≡ false
    → (j ≡ r → ⊥) × (get_or p.marks j false ≡ false)
untouched_by p r j true h e f = ((λ q. no_both (get_or p.marks r false) e (ap (λ (k : ℕ). get_or p.marks k false) (sym q) ∙ f)), f)
untouched_by p r j false h e f =
    let other : j ≡ r → ⊥ = λ q. no_both (get_or (set p.marks r true) j false) (ap (λ (k : ℕ). get_or (set p.marks r true) k false) q ∙ get_or-set_same p.marks r true false h) f in
    (other, sym (get_or-set_other p.marks r j true false other) ∙ f)

pub untouched : (p : Pat) (r j : ℕ) → r < length p.marks → get_or (touched p r).marks j false ≡ false → (j ≡ r → ⊥) × (get_or p.marks j false ≡ false)
unfolding touched
untouched p r j h f = untouched_by p r j (get_or p.marks r false) h refl f

-- ---- the vector

pub good_put_at : {n : ℕ} (s : Sv) (r : ℕ) (x : Float) → Good n s → r < n → Good n (put_at s r x)
unfolding put_at
good_put_at s r x g h =
    record {
      vals_long = length-set s.vals r x ∙ g.vals_long;
      wf = wf_touched s.pat g.wf r h;
      zeros = λ j l f.
          let u = untouched s.pat r j (omega (arith, g.wf.marks_long)) f in
          get_or-set_other s.vals r j x nan u.0 ∙ g.zeros j l u.1;
    }

-- no place is listed twice
pub listed_once : {n : ℕ} (s : Sv) → Good n s → (j k : ℕ) → j < s.pat.count → k < s.pat.count → listed s j ≡ listed s k → j ≡ k
listed_once s g = wf_once s.pat g.wf

-- a place is listed exactly where it is touched
pub listed_marked : {n : ℕ} (s : Sv) → Good n s → (k : ℕ) → k < s.pat.count → get_or s.pat.marks (listed s k) false ≡ true
listed_marked s g = wf_marked s.pat g.wf

pub marked_listed : {n : ℕ} (s : Sv) → Good n s → (q : ℕ) → get_or s.pat.marks q false ≡ true → (k : ℕ) × (k < s.pat.count) × (listed s k ≡ q)
marked_listed s g = wf_place s.pat g.wf

-- the pigeonhole: a vector that lists only places below m lists at most m
pub count_below : {n m : ℕ} (s : Sv) → Good n s → Below m s → s.pat.count ≤ m
count_below {n} {m} s g b = wf_below s.pat g.wf m b.below

pub set_below : (l : List ℕ) (c i m : ℕ) → i < m → ((k : ℕ) → k < c → get_or l k 0 < m) → (k : ℕ) → k < suc c → get_or (set l c i) k 0 < m
set_below [] c i m h f k g = omega arith
set_below (x ∷ l) zero i m h f zero g = h
set_below (x ∷ l) zero i m h f (suc k) g = absurd (omega arith)
set_below (x ∷ l) (suc c) i m h f zero g = f 0 (omega arith)
set_below (x ∷ l) (suc c) i m h f (suc k) g = set_below l c i m h (λ j d. f (suc j) (omega arith)) k (omega arith)

pub below_put_at : {m : ℕ} (s : Sv) (r : ℕ) (x : Float) → Below m s → r < m → Below m (put_at s r x)
unfolding put_at touched
below_put_at {m} s r x b h = record { below = go (get_or s.pat.marks r false) }
  where
    go : (d : Bool) (k : ℕ) → k < (touched_by d s.pat r).count → (touched_by d s.pat r).list # k < m
    go true k g = b.below k g
    go false k g = set_below s.pat.list s.pat.count r m h b.below k (omega arith)

-- what a column taken off keeps
module _ {n : ℕ} (x : Float) (rows : List ℕ) (coeffs : List Float) (w : Within n (length rows) rows) (s : Sv) (g : Good n s) where
  pub good_taking : (k : ℕ) → k ≤ length rows → Good n (run (take_turn x rows coeffs) k s)
  good_taking k h = keeps (take_turn x rows coeffs) s (λ _. Good n) (length rows) (λ j t l p. good_put_at t _ _ p (w.inside j l)) g k h

  pub good_take_off : Good n (take_off x rows coeffs s)
  unfolding take_off
  good_take_off = good_taking (length rows) (le_refl (length rows))

pub below_take_off : {m : ℕ} (x : Float) (rows : List ℕ) (coeffs : List Float) → Within m (length rows) rows → (s : Sv) → Below m s → Below m (take_off x rows coeffs s)
unfolding take_off
below_take_off {m} x rows coeffs w s b =
    keeps (take_turn x rows coeffs) s (λ _. Below m) (length rows) (λ j t l p. below_put_at t _ _ p (w.inside j l)) b (length rows) (le_refl (length rows))

-- what `load` keeps
module _ {n : ℕ} (at : List ℕ) (xs : List Float) (m : ℕ) (w : Within n m at) where
  pub good_loading : (s : Sv) → Good n s → (k : ℕ) → k ≤ m → Good n (run (put_turn at xs) k s)
  good_loading s g k h = keeps (put_turn at xs) s (λ _. Good n) m (λ j t l p. good_put_at t _ _ p (w.inside j l)) g k h

  pub good_loaded : (s : Sv) → Good n s → Good n (loaded at xs m s)
  unfolding loaded
  good_loaded s g = good_loading s g m (le_refl m)

-- what holds while a vector is cleared: the listed places that are left are those marked
pub record Clearing (n : ℕ) (l : List ℕ) (k : ℕ) (s : Sv) : Type 0 where
  pub vals_long : length s.vals ≡ n
  pub marks_long : length s.pat.marks ≡ n
  pub list_long : length s.pat.list ≡ n
  pub left : Built (drop k l) s.pat.marks
  pub zeros : (j : ℕ) → j < n → get_or s.pat.marks j false ≡ false → s.vals ! j ≡ f0

-- a place unmarked and set to 0.0
zeros_clear : (v : List Float) (m : List Bool) (i j : ℕ) (b : Bool) → eqb j i ≡ b → i < length v → (get_or m j false ≡ false → v ! j ≡ f0)
    → get_or (set m i false) j false ≡ false → set v i f0 ! j ≡ f0
zeros_clear v m i j true e h z f = ap (λ (k : ℕ). set v i f0 ! k) (eqb-true j i e) ∙ get_or-set_same v i f0 nan h
zeros_clear v m i j false e h z f =
    get_or-set_other v i j f0 nan (eqb-false j i e) ∙ z (sym (get_or-set_other m i j false false (eqb-false j i e)) ∙ f)

module _ {n : ℕ} (s : Sv) (g : Good n s) where
  abbrev lst : List ℕ
  lst = take s.pat.count s.pat.list

  clearing_turn : (k : ℕ) (t : Sv) → k < s.pat.count → Clearing n lst k t → Clearing n lst (k + 1) (clear_turn s.pat.list k t)
  unfolding Built
  clearing_turn k t h p =
      let b = subst (λ (l : List ℕ). Built l t.pat.marks) (drop-cons lst k 0 (omega (arith, used_long s.pat g.wf))) p.left in
      record {
        vals_long = simp length-set p.vals_long;
        marks_long = simp length-set p.marks_long;
        list_long = p.list_long;
        left = subst (λ (i : ℕ). Built (drop (k + 1) lst) (set t.pat.marks i false)) (get_or-take s.pat.count s.pat.list k 0 h)
            (subst (λ (j : ℕ). Built (drop j lst) (set t.pat.marks (get_or lst k 0) false)) (sym (add-one k)) b.2);
        zeros = λ j l f. zeros_clear t.vals t.pat.marks (s.pat.list # k) j (eqb j (s.pat.list # k)) refl
            (omega (arith, p.vals_long, wf_listed s.pat g.wf k h)) (λ u. p.zeros j l u) f;
      }

  pub clearing : (k : ℕ) → k ≤ s.pat.count → Clearing n lst k (run (clear_turn s.pat.list) k s)
  clearing k h =
      keeps (clear_turn s.pat.list) s (Clearing n lst) s.pat.count clearing_turn
      (record { vals_long = g.vals_long; marks_long = g.wf.marks_long; list_long = g.wf.list_long; left = g.wf.built; zeros = g.zeros }) k h

  pub good_cleared : Good n (cleared s)
  unfolding cleared Built
  good_cleared =
      let p = clearing s.pat.count (le_refl s.pat.count) in
      record {
        vals_long = p.vals_long;
        wf = record {
          marks_long = p.marks_long;
          list_long = p.list_long;
          within = omega arith;
          built = subst (λ (l : List ℕ). Built l (run (clear_turn s.pat.list) s.pat.count s).pat.marks)
              (drop_of_length-le lst {i = s.pat.count} (omega (arith, used_long s.pat g.wf))) p.left;
        };
        zeros = p.zeros;
      }

-- what fresh arrays hold is in order, and lists nothing
pub good_blank : Good places blank
unfolding Built
good_blank =
    record {
      vals_long = length-replicate places f0;
      wf = record {
        marks_long = length-replicate places false;
        list_long = length-replicate {A = ℕ} places 0;
        within = omega arith;
        built = falses places;
      };
      zeros = λ j h _. get_or-replicate places j f0 nan h;
    }

pub below_blank : {m : ℕ} → Below m blank
below_blank = record { below = λ k h. absurd (omega arith) }

-- a loop that lists a vector anew
pub good_relisting : (c : Sv) → Within places c.pat.count c.pat.list → (k : ℕ) → k ≤ c.pat.count → Good places (run (λ k t. put_at t (listed c k) (listed_val c k)) k blank)
good_relisting c w k h =
    keeps (λ k t. put_at t (listed c k) (listed_val c k)) blank (λ _. Good places) c.pat.count
    (λ j t l p. good_put_at t _ _ p (w.inside j l)) good_blank k h
