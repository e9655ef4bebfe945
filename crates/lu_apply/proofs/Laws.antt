-- What the solves with a factor keep: a vector in order, and after a sparse solve a list that names places once.
-- Assumes nothing.
use mathlib.Core.Path.{◌≡◌, refl, sym, ap, ◌∙◌, subst}
use mathlib.Core.Bool.{Bool, true, false, not}
use mathlib.Core.Logic.{⊎_elim}
use mathlib.Core.List.{List}
use Prim.Native.Nat.{ℕ, ◌<◌, ◌≤◌}
use native.Mathlib.Nat.{le_refl}
use native.Mathlib.Omega.{arith}
use lib.ListN.{length, get_or, set}
use lib.Seq.{get_or-set_same, get_or-set_other}
use lib.Ieee.{Float}
use Rattle.doubles.specs.Limits.{max_rows, places}
use Rattle.doubles.specs.Loop.{run}
use Rattle.doubles.specs.Lists.{◌#◌}
use Rattle.doubles.proofs.Bools.{last?, same?}
use Rattle.doubles.proofs.Loops.{keeps, keeps_down}
use Rattle.sparse.specs.Scattered.{Pat, pat, Sv, blank, cleared, touched, touched_by, Good, Below}
use Rattle.sparse.proofs.Laws.{good_put_at, below_put_at, good_blank, below_blank, listed_once, trues_below, no_both}
use Rattle.sparse.proofs.Laws.{good_cleared}
use Rattle.lu_walk.specs.Walk.{Shape, shape, fresh, reached}
use Rattle.lu_solve.specs.Solve.{Tri, Out, back_turn, processed, grow_turn, grown, given, zeroed, sparse, Numbers}
use Rattle.lu_solve.specs.Solve.{Places, Grows, Distinct}
use Rattle.lu_solve.proofs.Laws.{length_process, length_zeroed, given_marks, grows_given, grows_touched, room_below}
use Rattle.lu_solve.proofs.Laws.{places_reached}
use Rattle.lu_factor_rules.specs.Factor.{Matrix}
use Rattle.lu_factor_rules.specs.Solves.{tri_of, plain_turn, plain, map_turn, mapped, second, twice, solve_in}
use Rattle.lu_factor_rules.specs.Solves.{solve_transp_in}
use Rattle.lu_factor_rules.specs.Ready.{Vector}
use Rattle.lu_apply.specs.Ask.{Lists, Map, Solid}

-- ---- values put into a vector
pub good_plaining : (v : List Float) (l : List ℕ) (n : ℕ) (s : Sv) → Lists n l → Good places s → (k : ℕ) → k ≤ n
    → Good places (run (plain_turn v l) k s)
good_plaining v l n s a g k h = keeps (plain_turn v l) s (λ _. Good places) n
    (λ j t i u. good_put_at t _ _ u (a.inside j i)) g k h

pub good_mapping : (at : List ℕ) (v : List Float) (l : List ℕ) (n : ℕ) (s : Sv) → Map n l at → Good places s → (k : ℕ)
    → k ≤ n → Good places (run (map_turn at v l) k s)
good_mapping at v l n s a g k h = keeps (map_turn at v l) s (λ _. Good places) n
    (λ j t i u. good_put_at t _ _ u (a.leads j i)) g k h

-- ---- a list that grows names places once
record Once (n : ℕ) (p : Pat) : Type 0 where
  grows : Grows n p
  marked : (k : ℕ) → k < p.count → get_or p.marks (p.list # k) false ≡ true
  once : (j k : ℕ) → j < p.count → k < p.count → p.list # j ≡ p.list # k → j ≡ k

module _ {n : ℕ} (small : n ≤ max_rows) (p : Pat) (o : Once n p) (i : ℕ) (h : i < n) where
  inside : i < length p.marks
  inside = omega (arith, o.grows.marks_long, small)

  module _ (new : get_or p.marks i false ≡ false) where
    room : p.count < length p.list
    room = omega (arith, room_below small p o.grows i h new, o.grows.list_long)

    there : (k : ℕ) → k < p.count → set p.list p.count i # k ≡ p.list # k
    there k g = get_or-set_other p.list p.count k i 0 (λ (q : k ≡ p.count). omega arith)

    end : set p.list p.count i # p.count ≡ i
    end = get_or-set_same p.list p.count i 0 room

    -- i is not listed yet
    unlisted : (k : ℕ) → k < p.count → p.list # k ≡ i → ⊥
    unlisted k g q = no_both (get_or p.marks i false) (ap (λ (j : ℕ). get_or p.marks j false) (sym q) ∙ o.marked k g)
        new

    still : (q : ℕ) → get_or p.marks q false ≡ true → get_or (set p.marks i true) q false ≡ true
    still q m = ⊎_elim (λ (e : q ≡ i). ap (λ (j : ℕ). get_or (set p.marks i true) j false) e ∙ get_or-set_same p.marks
        i true false inside) (λ (d : q ≡ i → ⊥). get_or-set_other p.marks i q true false d ∙ m) (same? q i)

  once_by : (b : Bool) → get_or p.marks i false ≡ b → Grows n (touched_by b p i) → Once n (touched_by b p i)
  once_by true e g = o
  once_by false e g =
      record {
        grows = g;
        marked = λ k l. ⊎_elim
            (λ (a : k < p.count). still e (set p.list p.count i # k) (rw (there e k a) (o.marked k a)))
            (λ (a : k ≡ p.count). rw (a, end e) (get_or-set_same p.marks i true false inside))
            (last? k p.count l);
        once = λ j k a b q. ⊎_elim
            (λ (c : j < p.count). ⊎_elim
            (λ (d : k < p.count). o.once j k c d (sym (there e j c) ∙ q ∙ there e k d))
            (λ (d : k ≡ p.count). absurd (unlisted e j c (sym (there e j c) ∙ q ∙ ap
            (λ (x : ℕ). set p.list p.count i # x) d ∙ end e)))
            (last? k p.count b))
            (λ (c : j ≡ p.count). ⊎_elim
            (λ (d : k < p.count). absurd (unlisted e k d (sym (there e k d) ∙ sym q ∙ ap
            (λ (x : ℕ). set p.list p.count i # x) c ∙ end e)))
            (λ (d : k ≡ p.count). c ∙ sym d)
            (last? k p.count b))
            (last? j p.count a);
      }

  once_touched : Once n (touched p i)
  unfolding touched
  once_touched = once_by (get_or p.marks i false) refl (grows_touched small p o.grows i h)

-- ---- what a sparse solve leaves
module _ {t : Tri} {l : List ℕ} {n : ℕ} {v : List Float} (k : Numbers t v) (d : Distinct t.shape l n) where
  abbrev small : t.shape.size ≤ max_rows
  small = k.columns.small

  once_grown : Once t.shape.size (grown (reached t.shape l n fresh).done (reached t.shape l n fresh).count
      (pat (given l n) l n))
  unfolding grown
  once_grown =
      let w = reached t.shape l n fresh in
      let m = given_marks l n (record { inside = λ j g. omega (arith, d.listed.places j g, small) }) in
      let s : Places t.shape.size w.count w.done = places_reached k.columns d.listed refl in
      keeps (grow_turn w.done) (pat (given l n) l n) (λ _. Once t.shape.size) w.count
      (λ j p f b. once_touched small p b (w.done # j) (s.places j f))
      (record { grows = grows_given small d; marked = m.has; once = d.once }) w.count (le_refl w.count)

  pub distinct_sparse : (u : Shape) → u.size ≡ t.shape.size
      → Distinct u (sparse t l n v).list (sparse t l n v).count
  unfolding sparse
  distinct_sparse u e =
      let o = once_grown in
      record {
        listed = record {
          listed_long = omega (
            arith,
            o.grows.counted,
            o.grows.list_long,
            trues_below
                (grown (reached t.shape l n fresh).done (reached t.shape l n fresh).count (pat (given l n) l n)
                ).marks t.shape.size o.grows.below,
          );
          places = λ i h. omega (arith, e, o.grows.below _ (o.marked i h));
        };
        roomy = omega (arith, e, o.grows.list_long);
        once = o.once;
      }

  pub count_sparse : (sparse t l n v).count ≤ t.shape.size
  unfolding sparse
  count_sparse =
      let o = once_grown in
      omega (
        arith,
        o.grows.counted,
        trues_below (grown (reached t.shape l n fresh).done
            (reached t.shape l n fresh).count (pat (given l n) l n)).marks t.shape.size o.grows.below,
      )

  pub length_sparse : length (sparse t l n v).values ≡ length v
  unfolding sparse processed
  length_sparse =
      let w = reached t.shape l n fresh in
      keeps_down (back_turn t w.done) (λ x. length x ≡ length v) w.count
      (λ j x h q. length_process t (w.done # j) x ∙ q) (zeroed (given l n) t.shape.size v)
      (length_zeroed (given l n) t.shape.size v)

-- ---- the whole
module _ {m : ℕ} {at : List ℕ} {lower upper : Matrix} {diag : List Float} (w : Solid m at lower upper diag) where
  small_rows : m ≤ max_rows
  small_rows = w.lower_columns.small

  pub numbers_lower : (d : Bool) (v : List Float) → m ≤ length v → Numbers (tri_of true m lower d diag) v
  numbers_lower d v h = record {
    columns = w.lower_columns;
    vals_long = w.lower_vals;
    diag_long = λ _. w.diag_long;
    values_long = h;
  }

  pub numbers_upper : (d : Bool) (v : List Float) → m ≤ length v → Numbers (tri_of false m upper d diag) v
  numbers_upper d v h = record {
    columns = w.upper_columns;
    vals_long = w.upper_vals;
    diag_long = λ _. w.diag_long;
    values_long = h;
  }

  -- what a vector over m places gives
  pub values_room : {s : Sv} → Vector m s → m ≤ length s.vals
  values_room g = omega (arith, g.good.vals_long, small_rows)

  pub distinct_vector : {s : Sv} → Vector m s → (u : Shape) → u.size ≡ m → Distinct u s.pat.list s.pat.count
  distinct_vector {s} g u e =
      record {
        listed = record {
          listed_long = omega (arith, g.good.wf.within, g.good.wf.list_long);
          places = λ i h.
              omega (arith, e, g.below.below i h);
        };
        roomy = omega (arith, e, g.good.wf.list_long, small_rows);
        once = listed_once s g.good;
      }

  pub lists_vector : {s : Sv} → Vector m s → Lists s.pat.count s.pat.list
  lists_vector g = record { few = g.good.wf.within; inside = λ k h. omega (arith, g.below.below k h, small_rows) }

  pub map_vector : {s : Sv} → Vector m s → Map s.pat.count s.pat.list at
  map_vector {s} g =
      record {
        few = g.good.wf.within;
        inside = λ k h. omega (arith, g.below.below k h, small_rows);
        in_map = λ k h. omega (arith, g.below.below k h, w.map_long);
        leads = λ k h.
            omega (arith, w.leads (s.pat.list # k) (g.below.below k h), small_rows);
      }

  pub vector_mapped : {s : Sv} → Vector m s → Vector m (mapped at s.vals s.pat.list s.pat.count blank)
  unfolding mapped
  vector_mapped {s} g =
      record {
        good = good_mapping at s.vals s.pat.list s.pat.count blank (map_vector g) good_blank s.pat.count
            (le_refl s.pat.count);
        below = keeps (map_turn at s.vals s.pat.list) blank (λ _. Below m) s.pat.count
            (λ j t h p. below_put_at t _ _ p (w.leads (s.pat.list # j) (g.below.below j h))) below_blank
            s.pat.count (le_refl s.pat.count);
      }

  pub vector_plain : {s : Sv} → Vector m s → Vector m (plain s.vals s.pat.list s.pat.count blank)
  unfolding plain
  vector_plain {s} g =
      record {
        good = good_plaining s.vals s.pat.list s.pat.count blank (lists_vector g) good_blank s.pat.count
            (le_refl s.pat.count);
        below = keeps (plain_turn s.vals s.pat.list) blank (λ _. Below m) s.pat.count
            (λ j t h p. below_put_at t _ _ p (g.below.below j h)) below_blank s.pat.count
            (le_refl s.pat.count);
      }

  -- what both solves leave
  module _ (d : Bool) {s : Sv} (g : Vector m s) {o : Out} (e : o ≡ second (tri_of false m upper (not d) diag)
      (sparse (tri_of true m lower d diag) s.pat.list s.pat.count s.vals)) where
    one : Distinct (shape false m upper.starts upper.rows)
        (sparse (tri_of true m lower d diag) s.pat.list s.pat.count s.vals).list
        (sparse (tri_of true m lower d diag) s.pat.list s.pat.count s.vals).count
    one = distinct_sparse (numbers_lower d s.vals (values_room g))
        (distinct_vector g (shape true m lower.starts lower.rows) refl)
        (shape false m upper.starts upper.rows) refl

    after_one : m ≤ length (sparse (tri_of true m lower d diag) s.pat.list s.pat.count s.vals).values
    after_one = omega (
      arith,
      values_room g,
      length_sparse (numbers_lower d s.vals (values_room g))
          (distinct_vector g (shape true m lower.starts lower.rows) refl),
    )

    both : Distinct (shape false m upper.starts upper.rows) o.list o.count
    both = subst (λ (x : Out). Distinct (shape false m upper.starts upper.rows) x.list x.count) (sym e)
        (distinct_sparse (numbers_upper (not d) _ after_one) one (shape false m upper.starts upper.rows) refl)

    few : o.count ≤ max_rows
    few = omega (
      arith,
      ap (λ (x : Out). x.count) e,
      count_sparse
          (numbers_upper (not d) (sparse (tri_of true m lower d diag) s.pat.list s.pat.count s.vals).values
          after_one) one,
      small_rows,
    )

    pub lists_after : Lists o.count o.list
    lists_after = record {
      few = omega (arith, few);
      inside = λ k h. omega (arith, both.listed.places k h, small_rows);
    }

    pub map_after : Map o.count o.list at
    map_after = record {
      few = omega (arith, few);
      inside = λ k h. omega (arith, both.listed.places k h, small_rows);
      in_map = λ k h. omega (arith, both.listed.places k h, w.map_long);
      leads = λ k h. omega (arith, w.leads (o.list # k) (both.listed.places k h), small_rows);
    }

    -- put into a vector in order, it leaves one
    vector_listed : {c : Sv} → Vector m c → Vector m (plain o.values o.list o.count c)
    unfolding plain
    vector_listed {c} v =
        record {
          good = good_plaining o.values o.list o.count c lists_after v.good o.count (le_refl o.count);
          below = keeps (plain_turn o.values o.list) c (λ _. Below m) o.count
              (λ j t h p. below_put_at t _ _ p (both.listed.places j h)) v.below o.count (le_refl o.count);
        }

    vector_led : {c : Sv} → Vector m c → Vector m (mapped at o.values o.list o.count c)
    unfolding mapped
    vector_led {c} v =
        record {
          good = good_mapping at o.values o.list o.count c map_after v.good o.count (le_refl o.count);
          below = keeps (map_turn at o.values o.list) c (λ _. Below m) o.count
              (λ j t h p. below_put_at t _ _ p (w.leads (o.list # j) (both.listed.places j h))) v.below o.count
              (le_refl o.count);
        }

  vector_cleared : {s : Sv} → Vector m s → Vector m (cleared s)
  unfolding cleared
  vector_cleared {s} g =
      record { good = good_cleared s g.good; below = record { below = λ k h. absurd (omega arith) } }

  -- what a solve leaves is a vector over the same places
  pub vector_solve_in : {s : Sv} → Vector m s → Vector m (solve_in m at lower upper diag s)
  unfolding solve_in twice
  vector_solve_in g = vector_listed false (vector_mapped g) refl (vector_cleared g)

  pub vector_solve_transp_in : {s : Sv} → Vector m s → Vector m (solve_transp_in m at lower upper diag s)
  unfolding solve_transp_in twice
  vector_solve_transp_in g = vector_led true (vector_plain g) refl (vector_cleared g)

  pub solve_made : (s : Sv) {a : Sv} {o : Out} {c r : Sv} → a ≡ mapped at s.vals s.pat.list s.pat.count blank
      → o ≡ second (tri_of false m upper true diag) (sparse (tri_of true m lower false diag) a.pat.list
      a.pat.count a.vals) → c ≡ cleared s
      → r ≡ plain o.values o.list o.count c → r ≡ solve_in m at lower upper diag s
  unfolding solve_in twice
  solve_made s e f g h = rw (h, g, f, e) refl

  pub solve_transp_made : (s : Sv) {a : Sv} {o : Out} {c r : Sv}
      → a ≡ plain s.vals s.pat.list s.pat.count blank
      → o ≡ second (tri_of false m upper false diag) (sparse (tri_of true m lower true diag) a.pat.list
      a.pat.count a.vals) → c ≡ cleared s
      → r ≡ mapped at o.values o.list o.count c → r ≡ solve_transp_in m at lower upper diag s
  unfolding solve_transp_in twice
  solve_transp_made s e f g h = rw (h, g, f, e) refl
