-- What the walk's order means. 01: "columns are walked from each listed place. The walk finishes every child of a place
-- before the place itself; children come in stored order, visited places once". `walk_order`, at the end, says so of
-- the finished places (specs/Order.antt), and that they are exactly what can be reached from the listed ones. Assumes
-- nothing.
use mathlib.Core.Path.{◌≡◌, refl, sym, ap, ◌∙◌, subst}
use mathlib.Core.List.{List, [], ◌∷◌, ◌++◌}
use mathlib.Core.Bool.{Bool, true, false}
use mathlib.Core.Logic.{◌⊎◌, inl, inr, ⊎_elim}
use Prim.Native.Nat.{ℕ, zero, suc, ◌+◌, ◌-◌, ◌<◌, ◌≤◌}
use native.Mathlib.Nat.{le_refl}
use native.Mathlib.Numerals.{add-one}
use native.Mathlib.Omega.{arith}
use lib.ListN.{length, get_or, set, take, drop, length-set, length-take, length-drop, length-append, get_or-append}
use lib.ListN.{replicate, length-replicate}
use borrow.Author.Tests.{ltb-true}
use lib.Seq.{get_or-set_same, get_or-set_other, get_or-take, get_or-drop, length-take-le, take_all, take-suc, take-suc-set}
use lib.Seq.{get_or-append_seam}
use Rattle.doubles.specs.Limits.{max_rows}
use Rattle.doubles.specs.Loop.{run}
use Rattle.doubles.specs.Lists.{◌#◌, part}
use Rattle.doubles.proofs.Bools.{by_test, truth, same?, last?}
use Rattle.doubles.proofs.Loops.{run_same, keeps}
use Rattle.sparse.specs.Scattered.{trues}
use Rattle.sparse.proofs.Laws.{trues_set, trues_le, falses, none_set, no_both}
use Rattle.lu_walk.specs.Walk.{Graph, Shape, Mapped, State, fresh, many_if, many_in, passes, graph_of, graph_in, mark}
use Rattle.lu_walk.specs.Walk.{finish, unless, walk, walk_of, list_turn, enter_turn, reached, reached_in, Falling}
use Rattle.lu_walk.specs.Walk.{Columns, MapColumns, ListedIn, Listed}
use Rattle.lu_walk.specs.Order.{stored, stored_by, stored_in, entering_by, entering, finished, among, Walked, stop}
use Rattle.lu_walk.specs.Order.{again, first, Reach, here, down, Has, Ordered}
use Rattle.lu_walk.proofs.Laws.{falling_columns, walk_old}
use Rattle.lu_walk.proofs.Walked.{walked_same, walked_then, turned, among_at, among_where}

-- what was finished stays where it was, and what was marked stays marked
record Kept (s u : State) : Type 0 where
  grows : s.count ≤ u.count
  same : (i : ℕ) → i < s.count → u.done # i ≡ s.done # i
  stays : (q : ℕ) → get_or s.marks q false ≡ true → get_or u.marks q false ≡ true

kept_refl : (s : State) → Kept s s
kept_refl s = record { grows = omega arith; same = λ i h. refl; stays = λ q h. h }

kept_trans : {s u v : State} → Kept s u → Kept u v → Kept s v
kept_trans p q =
    record {
      grows = omega (arith, p.grows, q.grows);
      same = λ i h. q.same i (omega (arith, p.grows, h)) ∙ p.same i h;
      stays = λ r h. q.stays r (p.stays r h);
    }

has_kept : {s u : State} {q : ℕ} → Kept s u → Has s q → Has u q
has_kept k h = record { at = h.at; below = omega (arith, k.grows, h.below); is = k.same h.at h.below ∙ h.is }

mark_stays : (m : List Bool) (p q : ℕ) → p < length m → get_or m q false ≡ true → get_or (set m p true) q false ≡ true
mark_stays m p q lt h =
    ⊎_elim (λ e. ap (λ (x : ℕ). get_or (set m p true) x false) e ∙ get_or-set_same m p true false lt)
    (λ f. get_or-set_other m p q true false f ∙ h) (same? q p)

module _ (G : Graph) (kids : ℕ → List ℕ) where
  -- s in the midst of a walk: e places, those of U, are marked and not finished
  record Inv (e : ℕ) (U : ℕ → Type 0) (s : State) : Type 0 where
    long : length s.marks ≡ max_rows
    room : length s.done ≡ max_rows
    counted : s.count + e ≤ trues s.marks
    marked : (i : ℕ) → i < s.count → get_or s.marks (s.done # i) false ≡ true
    either : (q : ℕ) → get_or s.marks q false ≡ true → Has s q ⊎ U q
    apart : (q : ℕ) → U q → Has s q → ⊥
    once : (i j : ℕ) → i < s.count → j < s.count → s.done # i ≡ s.done # j → i ≡ j
    order : (i j : ℕ) → i < s.count → j < G.many (s.done # i)
        → (b : ℕ) × (b < i) × (s.done # b ≡ G.kid (s.done # i) j)

  within : {e : ℕ} {U : ℕ → Type 0} {s : State} → Inv e U s → s.count ≤ length s.done
  within {e} {U} {s} v = omega (arith, v.counted, trues_le s.marks, v.long, v.room)

  -- what is finished stands among the finished places, and nothing else does
  has_among : {e : ℕ} {U : ℕ → Type 0} {s : State} {q : ℕ} → Inv e U s → Has s q → among q (finished s) ≡ true
  has_among {e} {U} {s} {q} v h =
      let at : finished s # h.at ≡ q = get_or-take s.count s.done h.at 0 h.below ∙ h.is in
      rw at at (among_at (finished s) h.at (omega (arith, h.below, length-take-le s.count s.done (within v))))

  among_has : {e : ℕ} {U : ℕ → Type 0} {s : State} {q : ℕ} → Inv e U s → among q (finished s) ≡ true → Has s q
  among_has {e} {U} {s} {q} v h =
      let w = among_where q (finished s) h in
      let below : w.0 < s.count = omega (arith, w.1, length-take-le s.count s.done (within v)) in
      record { at = w.0; below = below; is = sym (get_or-take s.count s.done w.0 0 below) ∙ w.2 }

  -- the open places with p
  abbrev With : (ℕ → Type 0) → ℕ → ℕ → Type 0
  With U p q = U q ⊎ (q ≡ p)

  unmarked : {e : ℕ} {U : ℕ → Type 0} {s : State} {p : ℕ} → Inv e U s → get_or s.marks p false ≡ false → Has s p → ⊥
  unmarked {e} {U} {s} {p} v new h = no_both (get_or s.marks p false)
      (ap (λ (q : ℕ). get_or s.marks q false) (sym h.is) ∙ v.marked h.at h.below) new

  mark_inv : {e : ℕ} {U : ℕ → Type 0} {s : State} (p : ℕ) → Inv e U s → p < max_rows → get_or s.marks p false ≡ false
      → Inv (suc e) (With U p) (mark p s)
  mark_inv {e} {U} {s} p v lt new =
      let inside : p < length s.marks = omega (arith, v.long) in
      record {
        long = length-set s.marks p true ∙ v.long;
        room = v.room;
        counted = omega (arith, trues_set s.marks p inside new, v.counted);
        marked = λ i h. mark_stays s.marks p (s.done # i) inside (v.marked i h);
        either = λ q h. ⊎_elim
            (λ w. inr (inr w))
            (λ w. ⊎_elim (λ g. inl (record { at = g.at; below = g.below; is = g.is })) (λ u. inr (inl u))
            (v.either q (sym (get_or-set_other s.marks p q true false w) ∙ h)))
            (same? q p);
        apart = λ q u h.
            let g : Has s q = record { at = h.at; below = h.below; is = h.is } in
            ⊎_elim (λ w. v.apart q w g) (λ w. unmarked v (ap (λ (x : ℕ). get_or s.marks x false) w ∙ new) g) u;
        once = v.once;
        order = v.order;
      }

  -- p, the last of the open places, is finished, where all its children are
  module _ {e : ℕ} {U : ℕ → Type 0} {s : State} (p : ℕ) (v : Inv (suc e) (With U p) s)
      (open-p : get_or s.marks p false ≡ true) (not_u : U p → ⊥)
      (all-kids : (j : ℕ) → j < G.many p → Has s (G.kid p j)) where
    free : s.count < length s.done
    free = omega (arith, v.counted, trues_le s.marks, v.long, v.room)

    at_end : set s.done s.count p # s.count ≡ p
    at_end = get_or-set_same s.done s.count p 0 free

    there : (i : ℕ) → i < s.count → set s.done s.count p # i ≡ s.done # i
    there i h = get_or-set_other s.done s.count i p 0 (λ e. omega arith)

    finish_kept : Kept s (finish p s)
    finish_kept = record { grows = omega arith; same = there; stays = λ q h. h }

    finish_has : Has (finish p s) p
    finish_has = record { at = s.count; below = omega arith; is = at_end }

    -- p itself was not finished before
    not_yet : (i : ℕ) → i < s.count → s.done # i ≡ p → ⊥
    not_yet i h e = v.apart p (inr refl) (record { at = i; below = h; is = e })

    finish_inv : Inv e U (finish p s)
    finish_inv =
        record {
          long = v.long;
          room = length-set s.done s.count p ∙ v.room;
          counted = omega (arith, v.counted);
          marked = λ i h. ⊎_elim
              (λ lt. ap (λ (x : ℕ). get_or s.marks x false) (there i lt) ∙ v.marked i lt)
              (λ e. ap (λ (x : ℕ). get_or s.marks (set s.done s.count p # x) false) e ∙ ap
              (λ (x : ℕ). get_or s.marks x false) at_end ∙ open-p)
              (last? i s.count h);
          either = λ q h. ⊎_elim (λ g. inl (has_kept finish_kept g))
              (λ u. ⊎_elim (λ w. inr w) (λ w. inl (rw w finish_has)) u) (v.either q h);
          apart = λ q u g. ⊎_elim
              (λ lt. v.apart q (inl u) (record { at = g.at; below = lt; is = sym (there g.at lt) ∙ g.is }))
              (λ e. not_u (rw (sym g.is ∙ ap (λ (x : ℕ). set s.done s.count p # x) e ∙ at_end) at u))
              (last? g.at s.count g.below);
          once = λ i j hi hj e. once_of i j (last? i s.count hi) (last? j s.count hj) e;
          order = λ i j h g. order_of i j (last? i s.count h) g;
        }
      where
        once_of : (i j : ℕ) → (i < s.count) ⊎ (i ≡ s.count) → (j < s.count) ⊎ (j ≡ s.count)
            → (finish p s).done # i ≡ (finish p s).done # j → i ≡ j
        once_of i j (inl a) (inl b) e = v.once i j a b (sym (there i a) ∙ e ∙ there j b)
        once_of i j (inl a) (inr b) e = absurd (not_yet i a (sym (there i a) ∙ e ∙ ap
            (λ (x : ℕ). set s.done s.count p # x) b ∙ at_end))
        once_of i j (inr a) (inl b) e = absurd (not_yet j b (sym (there j b) ∙ sym e ∙ ap
            (λ (x : ℕ). set s.done s.count p # x) a ∙ at_end))
        once_of i j (inr a) (inr b) e = a ∙ sym b

        order_of : (i j : ℕ) → (i < s.count) ⊎ (i ≡ s.count) → j < G.many ((finish p s).done # i)
            → (b : ℕ) × (b < i) × ((finish p s).done # b ≡ G.kid ((finish p s).done # i) j)
        order_of i j (inl a) g =
            let o = v.order i j a (subst (λ (x : ℕ). j < G.many x) (there i a) g) in
            (o.0, o.1, there o.0 (omega (arith, o.1, a)) ∙ o.2 ∙ ap (λ (x : ℕ). G.kid x j) (sym (there i a)))
        order_of i j (inr a) g =
            let at_p : (finish p s).done # i ≡ p = ap (λ (x : ℕ). set s.done s.count p # x) a ∙ at_end in
            let k = all-kids j (subst (λ (x : ℕ). j < G.many x) at_p g) in (
              k.at,
              omega (arith, k.below, a),
              there k.at k.below ∙ k.is ∙ ap (λ (x : ℕ). G.kid x j)
                  (sym at_p),
            )

  -- what a walk of p from s to u does, in the midst of the open places of U
  record Done (e : ℕ) (U : ℕ → Type 0) (p : ℕ) (s u : State) : Type 0 where
    inv : Inv e U u
    kept : Kept s u
    has : Has u p
    reach : (q : ℕ) → get_or u.marks q false ≡ true → (get_or s.marks q false ≡ true) ⊎ Reach G p q
    walked : Walked kids (finished s) (p ∷ []) (finished u)

  -- every open place lies above p
  abbrev Above : (ℕ → Type 0) → ℕ → Type 0
  Above U p = (q : ℕ) → U q → G.left p < G.left q

  -- f walks the places that are less than d deep
  abbrev Walks : (ℕ → State → State) → ℕ → Type 1
  Walks f d = (e : ℕ) (U : ℕ → Type 0) (p : ℕ) (s : State) → Inv e U s → p < G.size → Above U p → G.left p < d
      → Done e U p s (f p s)

  -- the places g, which stand in ps
  record Named (g : ℕ → ℕ) (ps : List ℕ) (n : ℕ) : Type 0 where
    long : n ≤ length ps
    names : (j : ℕ) → j < n → ps # j ≡ g j

  -- the first m of the places g are walked
  record All (e : ℕ) (U : ℕ → Type 0) (g : ℕ → ℕ) (ps : List ℕ) (s : State) (m : ℕ) (u : State) : Type 0 where
    inv : Inv e U u
    kept : Kept s u
    has : (j : ℕ) → j < m → Has u (g j)
    reach : (q : ℕ) → get_or u.marks q false ≡ true
        → (get_or s.marks q false ≡ true) ⊎ ((j : ℕ) × (j < m) × Reach G (g j) q)
    walked : Walked kids (finished s) (take m ps) (finished u)

  -- one more of them
  all_turn : (f : ℕ → State → State) (e : ℕ) (U : ℕ → Type 0) (g : ℕ → ℕ) (ps : List ℕ) (s : State) (m : ℕ) (u : State)
      → m < length ps → ps # m ≡ g m
      → All e U g ps s m u → Done e U (g m) u (f (g m) u) → All e U g ps s (m + 1) (f (g m) u)
  all_turn f e U g ps s m u h i a d =
      record {
        inv = d.inv;
        kept = kept_trans a.kept d.kept;
        has = λ j h. ⊎_elim (λ l. has_kept d.kept (a.has j l)) (λ q. rw q d.has) (last? j m h);
        reach = λ q h. ⊎_elim
            (λ old. ⊎_elim (λ w. inl w) (λ w. inr (w.0, omega (arith, w.1), w.2)) (a.reach q old))
            (λ new. inr (m, omega arith, new))
            (d.reach q h);
        walked = rw (add-one, take-suc ps m 0, i) (walked_then a.walked d.walked);
      }

  run_walks : (f : ℕ → State → State) (d : ℕ) → Walks f d → (e : ℕ) (U : ℕ → Type 0) (g : ℕ → ℕ) (ps : List ℕ) (n : ℕ)
      → Named g ps n → (s : State) → Inv e U s
      → ((j : ℕ) → j < n → g j < G.size) → ((j : ℕ) → j < n → Above U (g j)) → ((j : ℕ) → j < n → G.left (g j) < d)
      → All e U g ps s n (run (λ i. f (g i)) n s)
  run_walks f d w e U g ps n z s v inside above small =
      keeps (λ i. f (g i)) s (All e U g ps s) n
      (λ j u h a. all_turn f e U g ps s j u (omega (arith, z.long)) (z.names j h) a
      (w e U (g j) u a.inv (inside j h) (above j h) (small j h)))
      (record { inv = v; kept = kept_refl s; has = λ j h. absurd (omega arith); reach = λ q h. inl h; walked = stop }) n
      (le_refl n)

  -- the children of p stand in stored order
  pub record Stand (p : ℕ) : Type 0 where
    pub long : length (kids p) ≡ G.many p
    pub names : (j : ℕ) → j < G.many p → kids p # j ≡ G.kid p j

  module _ (c : Falling G) (stand : (p : ℕ) → p < G.size → Stand p) where
    -- one place: where a walk k deep is known of the places below it
    module _ (k : ℕ) (ih : Walks (walk k G) k) (e : ℕ) (U : ℕ
        → Type 0) (p : ℕ) (s : State) (v : Inv e U s) (lt : p < G.size) (above : Above U p)
        (small : G.left p < suc k) where
      done_before : get_or s.marks p false ≡ true → Has s p
      done_before m = ⊎_elim (λ h. h) (λ u. absurd (omega (arith, above p u))) (v.either p m)

      old : get_or s.marks p false ≡ true → Done e U p s (walk (suc k) G p s)
      old m = rw (walk_old (suc k) G p s m) (record {
        inv = v;
        kept = kept_refl s;
        has = done_before m;
        reach = λ q h. inl h;
        walked = again (has_among v (done_before m)) stop;
      })

      inside : p < length s.marks
      inside = omega (arith, v.long, lt, c.small)

      mark_kept : Kept s (mark p s)
      mark_kept = record { grows = omega arith; same = λ i h. refl; stays = λ q h. mark_stays s.marks p q inside h }

      not_u : U p → ⊥
      not_u u = omega (arith, above p u)

      abbrev end : State
      end = run (λ i. walk k G (G.kid p i)) (G.many p) (mark p s)

      module _ (m : get_or s.marks p false ≡ false) where
        all : All (suc e) (With U p) (G.kid p) (kids p) (mark p s) (G.many p) end
        all = run_walks (walk k G) k ih (suc e) (With U p) (G.kid p) (kids p) (G.many p)
            (record { long = omega (arith, (stand p lt).long); names = (stand p lt).names }) (mark p s)
            (mark_inv p v (omega (arith, lt, c.small)) m)
            (λ j h. c.inside p j lt h)
            (λ j h q u. ⊎_elim (λ w. omega (arith, c.falls p j lt h, above q w)) (λ w. rw w (c.falls p j lt h)) u)
            (λ j h. omega (arith, c.falls p j lt h, small))

        still : get_or end.marks p false ≡ true
        still = all.kept.stays p (get_or-set_same s.marks p true false inside)

        found : (q : ℕ) → get_or end.marks q false ≡ true → (get_or s.marks q false ≡ true) ⊎ Reach G p q
        found q h = ⊎_elim
            (λ w. ⊎_elim (λ x. inr (rw x here)) (λ x. inl (sym (get_or-set_other s.marks p q true false x) ∙ w))
            (same? q p))
            (λ w. inr (down w.0 w.1 w.2))
            (all.reach q h)

        walked_kids : Walked kids (finished s) (kids p) (finished end)
        walked_kids = rw (take_all (G.many p) (kids p) (omega (arith, (stand p lt).long))) at all.walked

        behind : finished (finish p end) ≡ finished end ++ (p ∷ [])
        behind = rw (add-one end.count) (take-suc-set end.done end.count p
            (free p all.inv still not_u all.has))

        unseen : among p (finished s) ≡ false
        unseen = by_test (among p (finished s)) (λ h. absurd (unmarked v m (among_has v h))) (λ h. h)

        fresh_done : Done e U p s (finish p end)
        fresh_done = record {
          inv = finish_inv p all.inv still not_u all.has;
          kept = kept_trans mark_kept (kept_trans all.kept (finish_kept p all.inv still not_u all.has));
          has = finish_has p all.inv still not_u all.has;
          reach = found;
          walked = rw behind (first unseen walked_kids stop);
        }

        unfolded : walk (suc k) G p s ≡ finish p end
        unfolding walk
        unfolded = rw m refl

        new : Done e U p s (walk (suc k) G p s)
        new = subst (Done e U p s) (sym unfolded) fresh_done

      step : Done e U p s (walk (suc k) G p s)
      step = ⊎_elim old new (truth (get_or s.marks p false))

    walk_walks : (k : ℕ) → Walks (walk k G) k
    walk_walks zero e U p s v lt above small = absurd (omega arith)
    walk_walks (suc k) e U p s v lt above small = step k (walk_walks k) e U p s v lt above small

    -- nothing is marked and nothing finished: where a walk begins
    abbrev None : ℕ → Type 0
    None q = ⊥

    off : (q : ℕ) → get_or fresh.marks q false ≡ false
    off q = none_set (replicate max_rows false) (falses max_rows) q

    begins : Inv 0 None fresh
    begins = record {
      long = length-replicate max_rows false;
      room = length-replicate {A = ℕ} max_rows 0;
      counted = omega arith;
      marked = λ i h. absurd (omega arith);
      either = λ q h. absurd (no_both (get_or fresh.marks q false) h (off q));
      apart = λ q u h. absurd u;
      once = λ i j h g e. absurd (omega arith);
      order = λ i j h g. absurd (omega arith);
    }

    module _ (l : List ℕ) (n : ℕ) (r : ListedIn G.size l n) where
      abbrev ended : State
      ended = run (list_turn G l) n fresh

      all_listed : All 0 None (λ i. l # i) l fresh n ended
      all_listed =
          run_walks (walk (suc G.size) G) (suc G.size) (walk_walks (suc G.size)) 0 None (λ i. l # i) l n
          (record { long = r.listed_long; names = λ j h. refl }) fresh begins r.places
          (λ j h q u. absurd u) (λ j h. omega (arith, c.shallow (l # j) (r.places j h)))

      onward : {p q : ℕ} → Has ended p → Reach G p q → Has ended q
      onward h here = h
      onward {p} {q} h (down i g w) = onward child w
        where
          child : Has ended (G.kid p i)
          child =
              let o = all_listed.inv.order h.at i h.below (subst (λ (x : ℕ). i < G.many x) (sym h.is) g) in
              record {
                at = o.0;
                below = omega (arith, o.1, h.below);
                is = o.2 ∙ ap (λ (x : ℕ). G.kid x i) h.is;
              }

      pub graph_order : Ordered G kids l n ended
      graph_order =
          let a = all_listed in
          record {
            walked = a.walked;
            children_first = a.inv.order;
            stored_order = λ i h ps q rs e.
                turned a.walked i (omega arith) (omega (
                  arith,
                  length-take-le ended.count ended.done
                      (within a.inv),
                )) ps q rs
                (ap kids (get_or-take ended.count ended.done i 0 h) ∙ e);
            none_twice = a.inv.once;
            only_reached = λ i h. ⊎_elim (λ w. absurd (no_both (get_or fresh.marks (ended.done # i) false) w
                (off (ended.done # i)))) (λ w. w) (a.reach (ended.done # i) (a.inv.marked i h));
            all_reached = λ j q h w. onward (a.has j h) w;
          }

-- the part from a up to b of a lent array, which has b cells or more
module _ (a b : ℕ) (l : List ℕ) (rises : a ≤ b) (ends : b ≤ length l) where
  part_length : length (part a b l) ≡ b - a
  part_length = simp (length-take, length-drop) (omega arith)

  part_names : (j : ℕ) → j < b - a → part a b l # j ≡ l # (a + j)
  part_names j h = get_or-take (b - a) (drop a l) j 0 h ∙ get_or-drop a l j 0

-- ---- of a triangle
pub walk_order : (t : Shape) (l : List ℕ) (n : ℕ) → Columns t → Listed t l n
    → Ordered (graph_of t) (stored t) l n (reached t l n fresh)
unfolding reached
walk_order t l n c r = graph_order (graph_of t) (stored t) (falling_columns c)
    (λ p h. let a = t.starts # p in let b = t.starts # (p + 1) in record {
      long = part_length a b t.rows (c.rise p h) (c.ends p h);
      names = part_names a b t.rows (c.rise p h)
          (c.ends p h);
    }) l n r

-- ---- of columns with a row map and a filter: it begins at the listed places that pass, in listed order
module _ (t : Mapped) (c : MapColumns t) where
  stand_by : (p : ℕ) (b : Bool) → passes t.bound (t.at # p) ≡ b
      → (length (stored_by b t p) ≡ many_if b (t.starts # (t.at # p + 1) - t.starts # (t.at # p)))
      × ((j : ℕ) → j < many_if b (t.starts # (t.at # p + 1) - t.starts # (t.at # p))
      → stored_by b t p # j ≡ (graph_in t).kid p j)
  stand_by p true e =
      let j = t.at # p in
      let h = ltb-true j t.bound e in (
        part_length (t.starts # j) (t.starts # (j + 1)) t.rows (c.rise j h) (c.ends j h),
        part_names
            (t.starts # j) (t.starts # (j + 1)) t.rows (c.rise j h) (c.ends j h),
      )
  stand_by p false e = (refl, λ j h. absurd (omega arith))

  stands : (p : ℕ) → Stand (graph_in t) (stored_in t) p
  unfolding many_in
  stands p = let w = stand_by p (passes t.bound (t.at # p)) refl in record { long = w.0; names = w.1 }

  module _ (l : List ℕ) where
    -- one place more to begin at
    one_more : (es : List ℕ) (p : ℕ) (s : State)
        → run (list_turn (graph_in t) (es ++ (p ∷ []))) (length (es ++ (p ∷ []))) s ≡ walk_of (graph_in t) p
        (run (list_turn (graph_in t) es) (length es) s)
    unfolding run
    one_more es p s =
        let end : length (es ++ (p ∷ [])) ≡ suc (length es) = length-append es (p ∷ []) ∙ add-one (length es) in
        rw (end, get_or-append_seam es p [] 0)
        (ap (walk_of (graph_in t) p)
        (run_same (list_turn (graph_in t) (es ++ (p ∷ []))) (list_turn (graph_in t) es) (length es)
        (λ k u h. rw (get_or-append es (p ∷ []) 0 k h) refl) s))

    entering_all : (n : ℕ) (s : State) → reached_in t l n s ≡ run (list_turn (graph_in t) (entering t l n))
        (length (entering t l n)) s
    unfolding reached_in run entering
    entering_all zero s = refl
    entering_all (suc n) s = by (passes t.bound (t.at # (l # n))) (entering_all n s)
      where
        by : (b : Bool) → reached_in t l n s ≡ run (list_turn (graph_in t) (entering t l n)) (length (entering t l n)) s
            → unless b (walk_of (graph_in t) (l # n) (run (enter_turn t l) n s)) (run (enter_turn t l) n s) ≡ run
            (list_turn (graph_in t) (entering_by b (entering t l n) (l # n)))
            (length (entering_by b (entering t l n) (l # n))) s
        by true e = ap (walk_of (graph_in t) (l # n)) e ∙ sym (one_more (entering t l n) (l # n) s)
        by false e = e

    entering_below : (n : ℕ) → ((i : ℕ) → i < n → l # i < t.size) → (k : ℕ) → k < length (entering t l n)
        → entering t l n # k < t.size
    unfolding entering
    entering_below zero h k g = absurd (omega arith)
    entering_below (suc n) h k g = by (passes t.bound (t.at # (l # n))) (entering t l n)
        (entering_below n (λ i f. h i (omega arith))) k g
      where
        by : (b : Bool) (es : List ℕ) → ((i : ℕ) → i < length es → es # i < t.size) → (i : ℕ)
            → i < length (entering_by b es (l # n)) → entering_by b es (l # n) # i < t.size
        by true es ih i f =
            ⊎_elim
            (λ (a : i < length es). rw (get_or-append es (l # n ∷ []) 0 i a) (ih i a))
            (λ (a : i ≡ length es). rw (a, get_or-append_seam es (l # n) [] 0) (h n (omega arith)))
            (last? i (length es) (omega (arith, length-append es (l # n ∷ []))))
        by false es ih i f = ih i f

    pub mapped_order : (n : ℕ) → ListedIn t.size l n
        → Ordered (graph_in t) (stored_in t) (entering t l n) (length (entering t l n)) (reached_in t l n fresh)
    mapped_order n r =
        rw (entering_all n fresh)
        (graph_order (graph_in t) (stored_in t) c.falling (λ p h. stands p) (entering t l n) (length (entering t l n))
        (record { listed_long = le_refl _; places = entering_below n r.places }))

-- what the order leaves open: nothing
pub order_settles : {g : Graph} {kids : ℕ → List ℕ} {l : List ℕ} {n : ℕ} {s u : State} → Ordered g kids l n s
    → Ordered g kids l n u → finished s ≡ finished u
order_settles o p = walked_same o.walked p.walked
