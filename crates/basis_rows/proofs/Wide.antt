-- The vector in the front of wide arrays: what a touch, a store and a whole addition leave of it. Assumes nothing.
use mathlib.Core.Path.{◌≡◌, refl, sym, ap, ◌∙◌, subst}
use mathlib.Core.Bool.{Bool, true, false, not, ◌&&◌}
use mathlib.Core.List.{List, ◌++◌}
use Prim.Native.Nat.{ℕ, suc, ◌+◌, ◌-◌, ◌<◌, ◌≤◌}
use native.Mathlib.Nat.{add-zero, le_refl}
use native.Mathlib.Numerals.{add-one}
use native.Mathlib.Omega.{arith}
use lib.Dec.{ltb}
use lib.ListN.{length, get_or, set, take, drop, replicate, length-append, length-drop, length-replicate}
use lib.ListN.{take-append-drop, replicate-append-replicate, get_or-append}
use lib.Seq.{get_or-take, set-append_left, take-set-lt, take-set-le, take-append-le, length-take-le, ext_get_or}
use lib.Seq.{take-suc-set, append_snoc, drop-cons, set_at, set-get_or}
use lib.Ieee.{Float}
use borrow.Author.Tests.{ltb-true, ltb-false, lt-ltb, le-ltb}
use Rattle.doubles.specs.Num.{◌⊕◌, f0}
use Rattle.doubles.specs.Limits.{places, vars, max_rows}
use Rattle.doubles.specs.Loop.{table}
use Rattle.doubles.specs.Lists.{◌!◌, ◌#◌, over}
use Rattle.doubles.proofs.Loops.{length_tab, get_d_table}
use Rattle.sparse.specs.Scattered.{Pat, pat, Sv, sv, sv_of, touched, touched_by, put_at, Wf, Good, Fresh}
use Rattle.sparse.proofs.Laws.{wf_room}
use Rattle.rules.specs.Plan.{var_state_of, bit}
use Rattle.rules.specs.declared.VarState.TheVariants.{Basic, NonBasic}
use Rattle.rules.specs.Basis.{add_entry}
use Rattle.basis_rows.specs.Wide.{front, narrow, narrow_pat, touched_in, cell_in}

-- ---- the front of a list

table_take : {A : Type 0} (n : ℕ) (l : List A) (d : A) → n ≤ length l → table n (λ j. get_or l j d) ≡ take n l
table_take n l d h =
    ext_get_or d _ _ (length_tab n 0 (λ j. get_or l j d) ∙ sym (length-take-le n l h))
    (λ i f.
    let g : i < n = omega (arith, length_tab n 0 (λ j. get_or l j d)) in
    get_d_table n (λ j. get_or l j d) d i g ∙ sym (get_or-take n l i d g))

pub over_front : {A : Type 0} (n : ℕ) (l b : List A) (d : A) → n ≤ length l
    → over (table n (λ j. get_or l j d)) b ≡ front n l b
over_front n l b d h = rw (length_tab n 0 (λ j. get_or l j d), table_take n l d h)

-- ---- the cell of a number of var_states

cell_below : (w : ℕ) → w < vars → cell_in w ≡ w
cell_below w g = ap (λ (b : Bool). elim b [ true ↦ w | false ↦ places ]) (lt-ltb w vars g)

pub cell_within : (w : ℕ) → cell_in w < vars
cell_within w = go (ltb w vars) refl
  where
    go : (b : Bool) → ltb w vars ≡ b → elim b [ true ↦ w | false ↦ places ] < vars
    go true e = ltb-true w vars e
    go false e = omega arith

module _ (n : ℕ) (h : n ≤ places) where
  module _ {A : Type 0} (x : A) where
    abbrev whole : List A
    whole = replicate places x

    whole_long : length whole ≡ places
    whole_long = length-replicate places x

    -- fresh wide arrays hold a fresh vector
    front_whole : front n (replicate vars x) whole ≡ whole
    front_whole =
        ap (λ (t : List A). t ++ drop n whole)
        (ap (take n) (sym (replicate-append-replicate places max_rows x))
        ∙ take-append-le n whole (replicate max_rows x) (omega (arith, whole_long)))
        ∙ take-append-drop n whole

    module _ (l : List A) (e : length (front n l whole) ≡ places) where
      taken_long : length (take n l) ≡ n
      taken_long = omega (arith, e, length-append (take n l) (drop n whole), length-drop n whole, whole_long)

      front_within : n ≤ length l
      front_within = omega (arith, taken_long, ap length (take-append-drop n l), length-append (take n l) (drop n l))

      front_get : (c : ℕ) (d : A) → c < n → get_or (front n l whole) c d ≡ get_or l c d
      front_get c d g = get_or-append (take n l) (drop n whole) d c (omega (arith, taken_long)) ∙ get_or-take n l c d g

      front_set : (c : ℕ) (y : A) → c < n → front n (set l c y) whole ≡ set (front n l whole) c y
      front_set c y g =
          ap (λ (t : List A). t ++ drop n whole) (take-set-lt n l c y g)
          ∙ sym (set-append_left (take n l) (drop n whole) c y (omega (arith, taken_long)))

    front_past : (l : List A) (c : ℕ) (y : A) → n ≤ c → front n (set l c y) whole ≡ front n l whole
    front_past l c y g = ap (λ (t : List A). t ++ drop n whole) (take-set-le n l c y g)

  -- ---- a touch

  in_place : (p : Pat) (c : ℕ) → c < n → touched_in n p c ≡ touched p c
  in_place p c g = ap (λ (b : Bool). elim b [ true ↦ touched p c | false ↦ p ]) (lt-ltb c n g)

  in_past : (p : Pat) (c : ℕ) → n ≤ c → touched_in n p c ≡ p
  in_past p c g = ap (λ (b : Bool). elim b [ true ↦ touched p c | false ↦ p ]) (le-ltb c n g)

  module _ (m : List Bool) (l : List ℕ) (k c : ℕ) (w : Wf places (narrow_pat n m l k)) where
    abbrev told : Pat
    told = narrow_pat n m l k

    marked : (b : Bool) → c < n → get_or m c false ≡ b → touched told c ≡ touched_by b told c
    unfolding touched
    marked b g e = ap (λ (t : Bool). touched_by t told c) (front_get false m w.marks_long c false g ∙ e)

    touch_room : c < n → get_or m c false ≡ false → k < places
    touch_room g e = wf_room told w c (omega arith) (front_get false m w.marks_long c false g ∙ e)

    -- what is written behind the list doesn't count
    stay : (x : List Bool) → narrow_pat n x (set l k c) (k + 0) ≡ narrow_pat n x l k
    stay x =
        ap (narrow_pat n x (set l k c)) (add-zero k)
        ∙ ap (λ (y : List ℕ). pat (front n x (replicate places false)) (y ++ drop k (replicate places 0)) k)
        (take-set-le k l k c (le_refl k))

    grow : k < length l → k < places
        → front (k + 1) (set l k c) (replicate places 0) ≡ set (front k l (replicate places 0)) k c
    grow g e =
        let zs : List ℕ = replicate places 0 in
        ap (λ (j : ℕ). front j (set l k c) zs) (add-one k)
        ∙ ap (λ (y : List ℕ). y ++ drop (suc k) zs) (take-suc-set l k c g)
        ∙ append_snoc (take k l) c (drop (suc k) zs)
        ∙ sym (ap (λ (y : List ℕ). set (take k l ++ y) k c)
        (drop-cons zs k 0 (omega (arith, length-replicate {A = ℕ} places 0)))
        ∙ set_at (take k l) (get_or zs k 0) (drop (suc k) zs) c k (length-take-le k l (omega arith)))

    touch_old : get_or m c false ≡ true → narrow_pat n (set m c true) (set l k c) (k + 0) ≡ touched_in n told c
    touch_old e =
        stay (set m c true)
        ∙ ap (λ (x : List Bool). narrow_pat n x l k) (ap (set m c) (sym e) ∙ set-get_or m c false)
        ∙ go (ltb c n) refl
      where
        go : (b : Bool) → ltb c n ≡ b → told ≡ elim b [ true ↦ touched told c | false ↦ told ]
        go true f = sym (marked true (ltb-true c n f) e)
        go false f = refl

    touch_new : k < length l → c < n → get_or m c false ≡ false
        → narrow_pat n (set m c true) (set l k c) (k + 1) ≡ touched_in n told c
    touch_new f g e =
        ap (λ (t : List Bool). pat t (front (k + 1) (set l k c) (replicate places 0)) (k + 1))
        (front_set false m w.marks_long c true g)
        ∙ ap (λ (t : List ℕ). pat (set told.marks c true) t (k + 1)) (grow f (touch_room g e))
        ∙ sym (marked false g e)
        ∙ sym (in_place told c g)

    touch_past : n ≤ c → narrow_pat n (set m c true) (set l k c) (k + 0) ≡ touched_in n told c
    touch_past g =
        stay (set m c true)
        ∙ ap (λ (t : List Bool). pat t told.list k) (front_past false m c true g)
        ∙ sym (in_past told c g)

    pub touch_told : (d : ℕ) → length l ≡ vars → d ≡ bit (not (get_or m c false) && ltb c n)
        → narrow_pat n (set m c true) (set l k c) (k + d) ≡ touched_in n told c
    touch_told d e q = rw q (go (get_or m c false) (ltb c n) refl refl)
      where
        go : (b t : Bool) → get_or m c false ≡ b → ltb c n ≡ t
            → narrow_pat n (set m c true) (set l k c) (k + bit (not b && t)) ≡ touched_in n told c
        go true t f g = touch_old f
        go false true f g = touch_new (omega (arith, w.within)) (ltb-true c n g) f
        go false false f g = touch_past (ltb-false c n g)

  -- ---- an addition: the cell is touched, then x is added there

  -- a basic variable's cell is no place
  cell_basic : (w : ℕ) → n ≤ w → n ≤ cell_in w
  cell_basic w g = go (ltb w vars)
    where
      go : (b : Bool) → n ≤ elim b [ true ↦ w | false ↦ places ]
      go true = g
      go false = h

  non_basic : (w : ℕ) → w < n → var_state_of n w ≡ NonBasic w
  unfolding var_state_of
  non_basic w g = rw (lt-ltb w n g, var_state_of)

  basic : (w : ℕ) → n ≤ w → var_state_of n w ≡ Basic (w - n)
  unfolding var_state_of
  basic w g = rw (le-ltb w n g, var_state_of)

  module _ (vs : List ℕ) (i : ℕ) (x : Float) (v : List Float) (m : List Bool) (l : List ℕ) (k : ℕ)
      (g : Good places (narrow n v m l k)) where
    abbrev zeros : List Float
    zeros = replicate places f0

    abbrev held : Pat
    held = narrow_pat n m l k

    abbrev added : ℕ → Pat → Type 0
    added c p = sv_of (front n (set v c (v ! c ⊕ x)) zeros) p ≡ add_entry n vs i x (narrow n v m l k)

    at_place : vs # i < n → added (vs # i) (touched_in n held (vs # i))
    unfolding add_entry put_at
    at_place f =
        let w = vs # i in
        let e : front n (set v w (v ! w ⊕ x)) zeros ≡ set (front n v zeros) w (front n v zeros ! w ⊕ x) =
        front_set f0 v g.vals_long w _ f
        ∙ ap (λ (y : Float). set (front n v zeros) w (y ⊕ x)) (sym (front_get f0 v g.vals_long w _ f)) in
        rw (non_basic (vs # i) f, add_entry)
        (ap (λ (t : List Float). sv_of t (touched_in n held w)) e
        ∙ ap (sv_of (set (front n v zeros) w (front n v zeros ! w ⊕ x))) (in_place held w f))

    at_past : (c : ℕ) → n ≤ vs # i → n ≤ c → added c (touched_in n held c)
    unfolding add_entry
    at_past c f q =
        rw (basic (vs # i) f, add_entry)
        (ap (λ (t : List Float). sv_of t (touched_in n held c)) (front_past f0 v c (v ! c ⊕ x) q)
        ∙ ap (sv_of (front n v zeros)) (in_past held c q))

    pub entry_added : (c : ℕ) (p : Pat) → c ≡ cell_in (vs # i) → p ≡ touched_in n held c → added c p
    entry_added c p e q = rw (q, e) (go (ltb (vs # i) n) refl)
      where
        go : (b : Bool) → ltb (vs # i) n ≡ b → added (cell_in (vs # i)) (touched_in n held (cell_in (vs # i)))
        go true f =
            let a = ltb-true (vs # i) n f in
            subst (λ (c : ℕ). added c (touched_in n held c)) (sym (cell_below (vs # i) (omega arith))) (at_place a)
        go false f =
            let a = ltb-false (vs # i) n f in
            at_past (cell_in (vs # i)) a (cell_basic (vs # i) a)

  -- ---- fresh arrays hold a fresh vector, and the front of wide ones over a fresh vector's is the vector that they hold

  pub narrow_fresh : (l : List ℕ) → Fresh (narrow n (replicate vars f0) (replicate vars false) l 0)
  narrow_fresh l = record { fresh = rw (front_whole f0, front_whole false) }

  module _ (v₀ : List Float) (m₀ : List Bool) (l₀ : List ℕ) (r : Fresh (sv v₀ m₀ l₀ 0)) where
    pub narrow_out : (v w : List Float) (m a : List Bool) (l b : List ℕ) (k : ℕ) → Good places (narrow n v m l k)
        → length l ≡ vars → w ≡ over (table n (λ j. v ! j)) v₀ → a ≡ over (table n (λ j. get_or m j false)) m₀
        → b ≡ over (table k (λ j. l # j)) l₀ → sv w a b k ≡ narrow n v m l k
    narrow_out v w m a l b k g h e f d =
        let p : w ≡ front n v (replicate places f0) =
        e ∙ over_front n v v₀ _ (front_within f0 v g.vals_long) ∙ ap (λ (s : Sv). front n v s.vals) r.fresh in
        let q : a ≡ front n m (replicate places false) =
        f
        ∙ over_front n m m₀ false (front_within false m g.wf.marks_long)
        ∙ ap (λ (s : Sv). front n m s.pat.marks) r.fresh in
        let o : b ≡ front k l (replicate places 0) =
        d ∙ over_front k l l₀ 0 (omega (arith, g.wf.within)) ∙ ap (λ (s : Sv). front k l s.pat.list) r.fresh in
        rw (p, q, o)
