-- The laws of `specs/Loop.antt`'s loops, over any state. Assumes nothing.
use mathlib.Core.Path.{◌≡◌, refl, sym, ap, ◌∙◌, subst}
use mathlib.Core.Bool.{Bool, true, false, ◌&&◌}
use mathlib.Core.List.{List, [], ◌∷◌, ◌++◌}
use Prim.Native.Nat.{ℕ, zero, suc, ◌+◌, ◌-◌, ◌<◌, ◌≤◌}
use mathlib.Core.Logic.{⊎_elim}
use native.Mathlib.Nat.{le_antisymm, add-zero, eq-or-lt_of_le, le_of_suc-le-suc}
use native.Mathlib.Numerals.{add-one}
use native.Mathlib.Omega.{arith}
use lib.ListN.{length, get_or, set, drop, length-append, length-drop}
use lib.Seq.{drop-cons, set_at, append_snoc, get_or-append-add, get_or-drop}
use Rattle.doubles.specs.Loop.{run, down, all, seek, first, tab, table, until, Next, done as Next·done, more, each}
use Rattle.doubles.specs.Lists.{over}

-- ---- run: the invariant of a loop that counts up is `s ≡ run step k s₀`
module _ {S : Type 0} (step : ℕ → S → S) (s₀ : S) where
  -- one turn more, at the code's k + 1
  pub next : {s t : S} (k : ℕ) → s ≡ run step k s₀ → t ≡ step k s → t ≡ run step (k + 1) s₀
  unfolding run
  next {s} {t} k e f = f ∙ ap (step k) e ∙ ap (λ (j : ℕ). run step j s₀) (sym (add-one k))

  -- the end
  pub done : {s : S} (k len : ℕ) → k ≤ len → len ≤ k → s ≡ run step k s₀ → s ≡ run step len s₀
  done k len a b e = e ∙ ap (λ (j : ℕ). run step j s₀) (le_antisymm a b)

  -- what each turn keeps, the loop keeps
  pub keeps : (P : ℕ → S → Type 0) (len : ℕ) → ((k : ℕ) (s : S) → k < len → P k s → P (k + 1) (step k s)) → P 0 s₀ → (k : ℕ) → k ≤ len → P k (run step k s₀)
  unfolding run
  keeps P len turn base zero h = base
  keeps P len turn base (suc k) h =
      subst (λ (j : ℕ). P j (step k (run step k s₀))) (add-one k) (turn k (run step k s₀) (omega arith) (keeps P len turn base k (omega arith)))

-- two loops whose turns agree
pub run_same : {S : Type 0} (f g : ℕ → S → S) (n : ℕ) → ((k : ℕ) (s : S) → k < n → f k s ≡ g k s) → (s : S) → run f n s ≡ run g n s
unfolding run
run_same f g zero h s = refl
run_same f g (suc n) h s = h n (run f n s) (omega arith) ∙ ap (g n) (run_same f g n (λ k t l. h k t (omega arith)) s)

-- ---- down: the invariant of a loop that counts down is `down step k s ≡ whole`
module _ {S : Type 0} (step : ℕ → S → S) where
  down_first : (n : ℕ) (s : S) → 0 < n → down step n s ≡ down step (n - 1) (step (n - 1) s)
  unfolding down
  down_first zero s h = absurd (omega arith)
  down_first (suc n) s h = ap (λ (j : ℕ). down step j (step j s)) pre
    where
      pre : n ≡ suc n - 1
      pre = omega arith

  pub back : {s t x : S} (n : ℕ) → 0 < n → t ≡ step (n - 1) s → down step n s ≡ x → down step (n - 1) t ≡ x
  back {s} n h e f = ap (down step (n - 1)) e ∙ sym (down_first n s h) ∙ f

  pub back_done : {s x : S} (n : ℕ) → n ≤ 0 → down step n s ≡ x → s ≡ x
  unfolding down
  back_done zero h f = f
  back_done (suc n) h f = absurd (omega arith)

  pub keeps_down : (P : S → Type 0) (n : ℕ) → ((k : ℕ) (s : S) → k < n → P s → P (step k s)) → (s : S) → P s → P (down step n s)
  unfolding down
  keeps_down P zero turn s p = p
  keeps_down P (suc n) turn s p = keeps_down P n (λ k t h. turn k t (omega arith)) (step n s) (turn n s (omega arith) p)

-- ---- all: the invariant is `all k p ≡ true`
and_true : (a b : Bool) → a ≡ true → b ≡ true → a && b ≡ true
and_true a b e f = rw (e, f)

pub both_true : (a b : Bool) → a && b ≡ true → (a ≡ true) × (b ≡ true)
both_true true b e = (refl, e)
both_true false b e = absurd (let w : ◌≡◌ {A = ℕ} 0 1 = cc in omega arith)

module _ (p : ℕ → Bool) where
  pub all_next : (k : ℕ) → all k p ≡ true → p k ≡ true → all (k + 1) p ≡ true
  unfolding all
  all_next k e f = rw (add-one k) (and_true _ _ e f)

  pub all_done : (k n : ℕ) → k ≤ n → n ≤ k → all k p ≡ true → all n p ≡ true
  all_done k n a b e = ap (λ (j : ℕ). all j p) (sym (le_antisymm a b)) ∙ e

  -- what `all` says of each index
  pub all_at : (n : ℕ) → all n p ≡ true → (k : ℕ) → k < n → p k ≡ true
  unfolding all
  all_at zero e k h = absurd (omega arith)
  all_at (suc n) e k h =
      let b = both_true (all n p) (p n) e in
      ⊎_elim (λ q. rw q b.1) (λ l. all_at n b.0 k l) (eq-or-lt_of_le (le_of_suc-le-suc h))

  pub all_by : (n : ℕ) → ((k : ℕ) → k < n → p k ≡ true) → all n p ≡ true
  unfolding all
  all_by zero h = refl
  all_by (suc n) h = and_true _ _ (all_by n (λ k l. h k (omega arith))) (h n (omega arith))

  -- one index that fails
  pub all_fails : (n k : ℕ) → k < n → p k ≡ false → all n p ≡ false
  all_fails n k h e = go (all n p) refl
    where
      go : (b : Bool) → all n p ≡ b → b ≡ false
      go false q = refl
      go true q = absurd (let w : ◌≡◌ {A = ℕ} 0 1 = cc (all_at n q k h) in omega arith)

-- two tests that agree
pub all_same : (p q : ℕ → Bool) (n : ℕ) → ((k : ℕ) → k < n → p k ≡ q k) → all n p ≡ all n q
unfolding all
all_same p q zero h = refl
all_same p q (suc n) h = rw (all_same p q n (λ k l. h k (omega arith)), h n (omega arith))

-- where not every index passes there is a first that fails
pub all_missed : (p : ℕ → Bool) (n : ℕ) → all n p ≡ false → (k : ℕ) × (k < n) × (all k p ≡ true) × (p k ≡ false)
unfolding all
all_missed p zero e = absurd (let w : ◌≡◌ {A = ℕ} 0 1 = cc in omega arith)
all_missed p (suc n) e = go (all n p) refl (λ (f : all n p ≡ false). all_missed p n f)
  where
    go : (b : Bool) → all n p ≡ b → (all n p ≡ false → (k : ℕ) × (k < n) × (all k p ≡ true) × (p k ≡ false)) → (k : ℕ) × (k < suc n) × (all k p ≡ true) × (p k ≡ false)
    go false q r = let w = r q in (w.0, omega (arith, w.1), w.2, w.3)
    go true q r = (n, omega arith, q, rw q at e)

-- ---- first: the invariant is that what is left to look at gives the whole's answer
pub record Seek (p : ℕ → Bool) (n w i : ℕ) : Type 0 where
  pub seek_rest : seek (n - i) i p ≡ w

pub seeks : (p : ℕ → Bool) (n : ℕ) → Seek p n (first n p) 0
seeks p n = let q : n - 0 ≡ n = omega arith in record { seek_rest = rw q }

module _ {p : ℕ → Bool} {n w i : ℕ} (r : Seek p n w i) where
  pub hit : i < n → p i ≡ true → i ≡ w
  unfolding seek
  hit h t =
      let q : n - i ≡ suc (n - (i + 1)) = omega arith in
      sym (rw (q, t, seek) refl) ∙ r.seek_rest

  pub passed : i < n → p i ≡ false → Seek p n w (i + 1)
  unfolding seek
  passed h t =
      let q : n - i ≡ suc (n - (i + 1)) = omega arith in
      let turn : seek (n - i) i p ≡ seek (n - (i + 1)) (i + 1) p = rw (q, t, seek, add-one) refl in
      record { seek_rest = sym turn ∙ r.seek_rest }

  pub missed : n ≤ i → i ≡ w
  unfolding seek
  missed h =
      let q : n - i ≡ 0 = omega arith in
      sym (rw q refl) ∙ r.seek_rest

-- what `first` means: where it is below n it passes, and no index before it does; else none passes
pub record First (p : ℕ → Bool) (i e w : ℕ) : Type 0 where
  pub from : i ≤ w
  pub upto : w ≤ e
  pub before : (k : ℕ) → i ≤ k → k < w → p k ≡ false
  pub found : w < e → p w ≡ true

pub seek_first : (p : ℕ → Bool) (n i : ℕ) → First p i (i + n) (seek n i p)
unfolding seek
seek_first p zero i = record { from = omega arith; upto = omega arith; before = λ k h l. absurd (omega arith); found = λ h. absurd (omega arith) }
seek_first p (suc n) i = go (p i) refl (seek_first p n (suc i))
  where
    go : (b : Bool) → p i ≡ b → First p (suc i) (suc i + n) (seek n (suc i) p) → First p i (i + suc n) (elim b [ true ↦ i | false ↦ seek n (suc i) p ])
    go true e f = record { from = omega arith; upto = omega arith; before = λ k h l. absurd (omega arith); found = λ h. e }
    go false e f =
        record {
          from = omega (arith, f.from);
          upto = omega (arith, f.upto);
          before = λ k h l. ⊎_elim (λ (q : i ≡ k). rw q at e) (λ l'. f.before k l' l) (eq-or-lt_of_le h);
          found = λ h. f.found (omega arith);
        }

pub first_means : (p : ℕ → Bool) (n : ℕ) → First p 0 n (first n p)
first_means p n = let q : 0 + n ≡ n = omega arith in subst (λ (e : ℕ). First p 0 e (first n p)) q (seek_first p n 0)

-- two tests that agree
seek_same : (p q : ℕ → Bool) (n i : ℕ) → ((k : ℕ) → k < i + n → p k ≡ q k) → seek n i p ≡ seek n i q
unfolding seek
seek_same p q zero i h = refl
seek_same p q (suc n) i h =
    ap (λ (b : Bool). elim b [ true ↦ i | false ↦ seek n (suc i) p ]) (h i (omega arith))
    ∙ ap (λ (t : ℕ). elim (q i) [ true ↦ i | false ↦ t ]) (seek_same p q n (suc i) (λ k l. h k (omega arith)))

pub first_same : (p q : ℕ → Bool) (n : ℕ) → ((k : ℕ) → k < n → p k ≡ q k) → first n p ≡ first n q
first_same p q n h = seek_same p q n 0 (λ k l. h k (omega arith))

-- ---- table: what a loop that stores f i at each i leaves of the list that was there
pub length_tab : {A : Type 0} (n i : ℕ) (f : ℕ → A) → length (tab n i f) ≡ n
unfolding tab
length_tab zero i f = refl
length_tab (suc n) i f = ap suc (length_tab n (suc i) f)

pub get_d_tab : {A : Type 0} (n i : ℕ) (f : ℕ → A) (d : A) (k : ℕ) → k < n → get_or (tab n i f) k d ≡ f (i + k)
unfolding tab
get_d_tab zero i f d k h = absurd (omega arith)
get_d_tab (suc n) i f d zero h = rw add-zero
get_d_tab (suc n) i f d (suc k) h = get_d_tab n (suc i) f d k (le_of_suc-le-suc h) ∙ ap f at
  where
    at : suc i + k ≡ i + suc k
    at = omega arith

pub get_d_table : {A : Type 0} (n : ℕ) (f : ℕ → A) (d : A) (k : ℕ) → k < n → get_or (table n f) k d ≡ f k
get_d_table n f d k h = get_d_tab n 0 f d k h ∙ ap f at
  where
    at : 0 + k ≡ k
    at = omega arith

tab_snoc : {A : Type 0} (n i : ℕ) (f : ℕ → A) → tab (suc n) i f ≡ tab n i f ++ (f (i + n) ∷ [])
unfolding tab
tab_snoc zero i f = rw add-zero
tab_snoc {A} (suc n) i f = ap {B = List A} (λ l. f i ∷ l) (rw (← at) (tab_snoc n (suc i) f))
  where
    at : suc i + n ≡ i + suc n
    at = omega arith

tab_same : {A : Type 0} (f g : ℕ → A) (n i : ℕ) → ((k : ℕ) → k < n → f (i + k) ≡ g (i + k)) → tab n i f ≡ tab n i g
unfolding tab
tab_same f g zero i h = refl
tab_same f g (suc n) i h =
    let z : i + 0 ≡ i = omega arith in
    let rest : (k : ℕ) → k < n → f (suc i + k) ≡ g (suc i + k) = λ k l.
    let q : i + suc k ≡ suc i + k = omega arith in
    rw q at (h (suc k) (omega arith)) in
    rw (tab_same f g n (suc i) rest, rw z at (h 0 (omega arith)))

pub table_same : {A : Type 0} (f g : ℕ → A) (n : ℕ) → ((k : ℕ) → k < n → f k ≡ g k) → table n f ≡ table n g
table_same f g n h =
    tab_same f g n 0 (λ k l.
    let z : k ≡ 0 + k = omega arith in
    rw z at (h k l))

-- two tables that agree, over lists that are the same past them
pub over_same : {A : Type 0} (f g : ℕ → A) (n : ℕ) (l k : List A) → ((i : ℕ) → i < n → f i ≡ g i) → drop n l ≡ drop n k → over (table n f) l ≡ over (table n g) k
over_same f g n l k h e = rw (length_tab n 0 f, length_tab n 0 g, table_same f g n h, e)

-- l is l₀ with f 0, .., f (i - 1) stored at its front
pub record Filled {A : Type 0} (f : ℕ → A) (l₀ : List A) (i : ℕ) (l : List A) : Type 0 where
  pub filled : l ≡ table i f ++ drop i l₀

pub filled_none : {A : Type 0} {f : ℕ → A} {l : List A} → Filled f l 0 l
unfolding tab
filled_none = record { filled = refl }

pub filled_more : {A : Type 0} {f : ℕ → A} {l₀ : List A} {i : ℕ} {l : List A} {v : A} → Filled f l₀ i l → i < length l₀ → v ≡ f i → Filled f l₀ (i + 1) (set l i v)
filled_more {A} {f} {l₀} {i} {l} {v} r h q =
    let z : 0 + i ≡ i = omega arith in
    let stored : set l i v ≡ tab i 0 f ++ v ∷ drop (suc i) l₀ =
    ap (λ (t : List A). set t i v) (r.filled ∙ ap (λ (t : List A). tab i 0 f ++ t) (drop-cons l₀ i v h))
    ∙ set_at (tab i 0 f) (get_or l₀ i v) (drop (suc i) l₀) v i (length_tab i 0 f) in
    let wanted : table (i + 1) f ++ drop (i + 1) l₀ ≡ tab i 0 f ++ f i ∷ drop (suc i) l₀ = rw (add-one, tab_snoc, z, append_snoc) refl in
    record { filled = stored ∙ ap (λ (x : A). tab i 0 f ++ x ∷ drop (suc i) l₀) q ∙ sym wanted }

-- the cell that is next is as it was
pub filled_ahead : {A : Type 0} {f : ℕ → A} {l₀ : List A} {i : ℕ} {l : List A} → Filled f l₀ i l → (d : A) → get_or l i d ≡ get_or l₀ i d
filled_ahead {A} {f} {l₀} {i} r d =
    let q : i ≡ length (tab i 0 f) + 0 = omega (arith, length_tab i 0 f) in
    ap (λ (t : List A). get_or t i d) r.filled
    ∙ ap (λ (k : ℕ). get_or (tab i 0 f ++ drop i l₀) k d) q
    ∙ get_or-append-add (tab i 0 f) (drop i l₀) 0 d
    ∙ get_or-drop i l₀ 0 d
    ∙ ap (λ (k : ℕ). get_or l₀ k d) (add-zero i)

pub filled_over : {A : Type 0} {f : ℕ → A} {l₀ : List A} {i : ℕ} {l : List A} → Filled f l₀ i l → l ≡ over (table i f) l₀
filled_over {A} {f} {l₀} {i} r = r.filled ∙ ap (λ (k : ℕ). table i f ++ drop k l₀) (sym (length_tab i 0 f))

pub filled_done : {A : Type 0} {f : ℕ → A} {l₀ : List A} {i : ℕ} {l : List A} (n : ℕ) → i ≤ n → n ≤ i → Filled f l₀ i l → l ≡ over (table n f) l₀
filled_done {A} {f} {l₀} n a b r = filled_over r ∙ ap (λ (k : ℕ). over (table k f) l₀) (le_antisymm a b)

pub filled_length : {A : Type 0} {f : ℕ → A} {l₀ : List A} {i : ℕ} {l : List A} → Filled f l₀ i l → i ≤ length l₀ → length l ≡ length l₀
filled_length r h = ap length r.filled ∙ simp (length-append, length_tab, length-drop) (omega arith)

-- ---- until: what is left of the loop gives what the whole gives
pub record Until {S R : Type 0} (turn : S → Next S R) (last : S → R) (w : R) (k : ℕ) (s : S) : Type 0 where
  pub until_rest : until turn last k s ≡ w

module _ {S R : Type 0} {turn : S → Next S R} {last : S → R} {w : R} {k : ℕ} {s : S} (r : Until turn last w k s) where
  pub stepped : {t : S} → 0 < k → turn s ≡ more t → Until turn last w (k - 1) t
  unfolding until
  stepped {t} h q =
      let e : k ≡ suc (k - 1) = omega arith in
      let once : until turn last (suc (k - 1)) s ≡ until turn last (k - 1) t = rw (q, until) refl in
      record { until_rest = sym once ∙ ap (λ j. until turn last j s) (sym e) ∙ r.until_rest }

  pub stopped : {a : R} → 0 < k → turn s ≡ Next·done a → a ≡ w
  unfolding until
  stopped {a} h q =
      let e : k ≡ suc (k - 1) = omega arith in
      let once : until turn last (suc (k - 1)) s ≡ a = rw (q, until) refl in
      sym once ∙ ap (λ j. until turn last j s) (sym e) ∙ r.until_rest

  pub spent : k ≡ 0 → last s ≡ w
  unfolding until
  spent h = sym (rw h refl) ∙ r.until_rest

-- ---- each: one more at the end
pub each_snoc : {A S : Type 0} (l : List A) (x : A) (f : A → S → S) (s : S) → each (l ++ (x ∷ [])) f s ≡ f x (each l f s)
unfolding each
each_snoc [] x f s = refl
each_snoc (y ∷ l) x f s = each_snoc l x f (f y s)
