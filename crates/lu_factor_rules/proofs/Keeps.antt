-- What a column keeps: `Sound`, and that its entries fit. Assumes nothing.
use mathlib.Core.Path.{◌≡◌, refl, sym, ap, ◌∙◌, subst}
use mathlib.Core.Bool.{Bool, true, false, not, ◌&&◌}
use mathlib.Core.Logic.{⊎_elim}
use mathlib.Core.List.{List}
use Prim.Native.Nat.{ℕ, zero, suc, ◌+◌, ◌-◌, ◌<◌, ◌≤◌}
use native.Mathlib.Nat.{le_refl}
use native.Mathlib.Numerals.{add-one}
use native.Mathlib.Omega.{arith}
use lib.Dec.{ltb, eqb}
use lib.ListN.{length, set, length-set, length-replicate, get_or-replicate}
use lib.Seq.{get_or-set_same, get_or-set_other}
use lib.Ieee.{Float, lt, le, eq}
use borrow.Author.Tests.{lt-ltb, le-ltb, ltb-true, ltb-false, eq-eqb, ne_eqb}
use Rattle.doubles.specs.Num.{◌⊘◌, f0, eps, finite, size}
use Rattle.doubles.specs.Limits.{max_rows, max_tri_entries}
use Rattle.doubles.specs.Loop.{run, tab, table, until, Next, done as Next·done, more}
use Rattle.doubles.specs.Lists.{◌!◌, ◌#◌}
use Rattle.doubles.proofs.Bools.{same?, last?}
use Rattle.doubles.proofs.Tests.{not_both}
use Rattle.doubles.proofs.Loops.{keeps, all_at}
use Rattle.sparse.specs.Scattered.{Sv, trues}
use Rattle.sparse.proofs.Laws.{set_below, listed_once}
use Rattle.lu_walk.specs.Walk.{Mapped, mapped, graph_in}
use Rattle.lu_walk.proofs.Laws.{many_at}
use Rattle.lu_factor_rules.specs.Factor.{Partial, nothing, Parts, parts, is_pivot, sorted}
use Rattle.lu_factor_rules.specs.Factor.{unless_zero, gathered_one, gather_turn, gathered, chosen, Outcome, factored}
use Rattle.lu_factor_rules.specs.Factor.{non_finite, singular, Found, found, listed_finite, pivoted_by, judged_by}
use Rattle.lu_factor_rules.specs.Factor.{judged, column, added, next_of, factor_turn, factor_part, solved}
use Rattle.lu_factor_rules.specs.Sound.{triangle, Sound}
use Rattle.lu_factor_rules.specs.Ready.{Lower, Rows, Roomy, Vector, Solvable}
use Rattle.lu_factor_rules.specs.Ready.{Renumberable}
use Rattle.lu_factor_rules.proofs.Laws.{vector_solved}
use Rattle.lu_factor_rules.proofs.Choice.{Chosen, choice, chosen_row}
use Rattle.lu_factor_rules.proofs.Entries.{Split, split_all, starts_old, starts_new, starts_next, starts_none}
use Rattle.lu_factor_rules.proofs.Count.{opposites, count_more, room_at, room_all}

-- ---- the triangle
triangle_step : (n : ℕ) → triangle n ≤ triangle (suc n)
unfolding triangle
triangle_step n = omega arith

triangle_by : (n k : ℕ) → triangle n ≤ triangle (n + k)
triangle_by n zero = let q : n + 0 ≡ n = omega arith in rw q (le_refl (triangle n))
triangle_by n (suc k) = let q : n + suc k ≡ suc (n + k) = omega arith in rw q
    (omega (arith, triangle_by n k, triangle_step (n + k)))

triangle_grows : (n m : ℕ) → n ≤ m → triangle n ≤ triangle m
triangle_grows n m h = let q : n + (m - n) ≡ m = omega arith in rw q at (triangle_by n (m - n))

triangle_last : (n : ℕ) → 0 < n → triangle n ≡ triangle (n - 1) + (n - 1)
unfolding triangle
triangle_last zero h = absurd (omega arith)
triangle_last (suc n) h = let q : suc n - 1 ≡ n = omega arith in rw q refl

triangle_suc : (n : ℕ) → triangle (suc n) ≡ triangle n + n
unfolding triangle
triangle_suc n = refl

-- "at most 4,560 entries each"
all_rows : triangle max_rows ≤ max_tri_entries
unfolding triangle
all_rows = omega arith

pub fits_whole : (m : ℕ) → m ≤ max_rows → triangle m ≤ max_tri_entries
fits_whole m h = omega (arith, triangle_grows m max_rows h, all_rows)

-- ---- one listed row
module _ (number : List ℕ) (i row : ℕ) (pivot : Float) (r : ℕ) (x : Float) (t : Parts) where
  -- at most one entry more, in L for a row that is none of the first i pivot rows and not the new one, in U for one of
  -- those
  record Step (p q : Bool) (u : Parts) : Type 0 where
    upper_some : p ≡ true → u.upper.count ≤ t.upper.count + 1
    upper_none : p ≡ false → u.upper.count ≤ t.upper.count
    lower_some : u.lower.count ≤ t.lower.count + 1
    lower_old : p ≡ true → u.lower.count ≤ t.lower.count
    lower_new : q ≡ true → u.lower.count ≤ t.lower.count
    lower_grows : t.lower.count ≤ u.lower.count
    lrows : length u.lower.rows ≡ length t.lower.rows
    lvals : length u.lower.vals ≡ length t.lower.vals
    urows : length u.upper.rows ≡ length t.upper.rows
    uvals : length u.upper.vals ≡ length t.upper.vals
    below : (m : ℕ) → r < m → ((k : ℕ) → k < t.lower.count → t.lower.rows # k < m) → (k : ℕ) → k < u.lower.count
        → u.lower.rows # k < m

  same_step : (p q : Bool) → Step p q t
  same_step p q =
      record {
        upper_some = λ _. omega arith;
        upper_none = λ _. omega arith;
        lower_some = omega arith;
        lower_old = λ _. omega arith;
        lower_new = λ _. omega arith;
        lower_grows = omega arith;
        lrows = refl;
        lvals = refl;
        urows = refl;
        uvals = refl;
        below = λ m h f. f;
      }

  step_by : (p q z : Bool) → Step p q (unless_zero z t (sorted p q (number # r) r x pivot t))
  step_by p q true = same_step p q
  step_by true q false =
      record {
        upper_some = λ _. omega arith;
        upper_none = λ e. absurd (not_both refl e);
        lower_some = omega arith;
        lower_old = λ _. omega arith;
        lower_new = λ _. omega arith;
        lower_grows = omega arith;
        lrows = refl;
        lvals = refl;
        urows = length-set t.upper.rows t.upper.count (number # r);
        uvals = length-set t.upper.vals t.upper.count x;
        below = λ m h f. f;
      }
  step_by false true false = same_step false true
  step_by false false false =
      record {
        upper_some = λ _. omega arith;
        upper_none = λ _. omega arith;
        lower_some = omega arith;
        lower_old = λ e. absurd (not_both e refl);
        lower_new = λ e. absurd (not_both e refl);
        lower_grows = omega arith;
        lrows = length-set t.lower.rows t.lower.count r;
        lvals = length-set t.lower.vals t.lower.count (x ⊘ pivot);
        urows = refl;
        uvals = refl;
        below = λ m h f k g. set_below t.lower.rows t.lower.count r m h f k (omega arith);
      }

  step_one : Step (is_pivot number i r) (eqb r row) (gathered_one number i row pivot r x t)
  unfolding gathered_one
  step_one = step_by (is_pivot number i r) (eqb r row) (eq x f0)

-- ---- the listed rows: n places below m, none twice
module _ (m : ℕ) (f : Partial) (s : Sound m f) (room : f.made < m) (v : List Float) (l : List ℕ) (n : ℕ)
    (below : (k : ℕ) → k < n → l # k < m)
    (once : (j k : ℕ) → j < n → k < n → l # j ≡ l # k
    → j ≡ k) (row : ℕ) (row_within : row < m) (row_free : is_pivot f.number f.made row ≡ false) where
  abbrev start : Parts
  start = parts f.lower f.upper

  abbrev turn : ℕ → Parts → Parts
  turn = gather_turn f.number f.made row v l

  abbrev after : ℕ → Parts
  after k = run turn k start

  stepped : (k : ℕ) → Step f.number f.made row (v ! row) (l # k) (v ! (l # k)) (after k)
      (is_pivot f.number f.made (l # k)) (eqb (l # k) row) (after (k + 1))
  unfolding run
  stepped k = rw (add-one k) (step_one f.number f.made row (v ! row) (l # k) (v ! (l # k)) (after k))

  -- U: the rows that count are the pivot rows
  abbrev old : ℕ → Bool
  old r = is_pivot f.number f.made r

  abbrev upper_at : ℕ → ℕ
  upper_at k = (after k).upper.count

  not_old : trues (table m (λ r. not (old r))) + f.made ≡ m
  not_old = omega (arith, opposites m 0 old, s.pivots)

  pub upper_room : (k : ℕ) → k < n → old (l # k) ≡ true → (after k).upper.count < f.upper.count + f.made
  unfolding run
  upper_room k h t =
      omega (
        arith,
        room_at m n l below once old upper_at (λ j g e. (stepped j).upper_some e)
            (λ j g e. (stepped j).upper_none e) k h t,
        not_old,
      )

  pub upper_all : (k : ℕ) → k ≤ n → (after k).upper.count ≤ f.upper.count + f.made
  unfolding run
  upper_all k h =
      omega (
        arith,
        room_all m n l below once old upper_at (λ j g e. (stepped j).upper_some e)
            (λ j g e. (stepped j).upper_none e) k h,
        not_old,
      )

  -- L: the others, but for the new pivot row
  abbrev other : ℕ → Bool
  other r = not (old r) && not (eqb r row)

  abbrev lower_at : ℕ → ℕ
  lower_at k = (after k).lower.count

  two : (a b : Bool) → not (not a && not b) ≡ elim b [ true ↦ true | false ↦ a ]
  two true true = refl
  two true false = refl
  two false true = refl
  two false false = refl

  taken : trues (table m (λ r. not (other r))) ≡ suc f.made
  taken =
      count_more m row old (λ r. not (other r)) row_within row_free
      (two (old row) (eqb row row) ∙ rw (eq-eqb row row refl) refl)
      (λ k h d. two (old k) (eqb k row) ∙ rw (ne_eqb k row d) refl)
      ∙ ap suc s.pivots

  none : (k : ℕ) → other (l # k) ≡ false → (after (k + 1)).lower.count ≤ (after k).lower.count
  none k e = by (old (l # k)) (eqb (l # k) row) refl refl e
    where
      by : (a b : Bool) → old (l # k) ≡ a → eqb (l # k) row ≡ b → not a && not b ≡ false
          → (after (k + 1)).lower.count ≤ (after k).lower.count
      by true b p q e = (stepped k).lower_old p
      by false true p q e = (stepped k).lower_new q
      by false false p q e = absurd (not_both refl e)

  pub lower_room : (k : ℕ) → k < n → old (l # k) ≡ false → eqb (l # k) row ≡ false
      → (after k).lower.count + suc f.made < f.lower.count + m
  unfolding run
  lower_room k h p q =
      let t : other (l # k) ≡ true = rw (p, q) refl in
      omega (
        arith,
        room_at m n l below once other lower_at (λ j g e. (stepped j).lower_some) (λ j g e. none j e) k h t,
        taken,
      )

  pub lower_all : (k : ℕ) → k ≤ n → (after k).lower.count + suc f.made ≤ f.lower.count + m
  unfolding run
  lower_all k h = omega (
    arith,
    room_all m n l below once other lower_at (λ j g e. (stepped j).lower_some)
        (λ j g e. none j e) k h,
    taken,
  )

  -- so the entries fit
  pub roomy : Roomy f.number f.made row v l n start
  roomy =
      let up : triangle (suc f.made) ≤ triangle m = triangle_grows (suc f.made) m (omega arith) in
      let all = fits_whole m s.small in
      record {
        room = λ k h. record {
          upper_room = λ e. omega (arith, upper_room k h e, s.upper_most, triangle_suc f.made, up, all);
          lower_room = λ e d. omega (
            arith,
            lower_room k h e d,
            s.lower_most,
            triangle_last (m - f.made)
                (omega arith),
            all,
          );
        };
      }

  -- what the gathered parts keep
  record Gathered (k : ℕ) (t : Parts) : Type 0 where
    lrows : length t.lower.rows ≡ max_tri_entries
    lvals : length t.lower.vals ≡ max_tri_entries
    urows : length t.upper.rows ≡ max_tri_entries
    uvals : length t.upper.vals ≡ max_tri_entries
    grows : f.lower.count ≤ t.lower.count
    rows_below : (j : ℕ) → j < t.lower.count → t.lower.rows # j < m

  gathers : (k : ℕ) → k ≤ n → Gathered k (after k)
  gathers k h =
      keeps turn start Gathered n
      (λ j t g u.
      let d = step_one f.number f.made row (v ! row) (l # j) (v ! (l # j)) t in
      record {
        lrows = d.lrows ∙ u.lrows;
        lvals = d.lvals ∙ u.lvals;
        urows = d.urows ∙ u.urows;
        uvals = d.uvals ∙ u.uvals;
        grows = omega (arith, d.lower_grows, u.grows);
        rows_below = d.below m (below j g) u.rows_below;
      })
      (record {
        lrows = s.lrows_long;
        lvals = s.lvals_long;
        urows = s.urows_long;
        uvals = s.uvals_long;
        grows =
            omega arith;
        rows_below = s.lower_rows;
      }) k h

  abbrev end : Parts
  end = gathered f.number f.made row v l n start

  abbrev next : Partial
  next = added f (found row (v ! row) end)

  number_other : (r : ℕ) → (r ≡ row → ⊥) → set f.number row f.made # r ≡ f.number # r
  number_other r d = get_or-set_other f.number row r f.made 0 d

  number_row : set f.number row f.made # row ≡ f.made
  number_row = get_or-set_same f.number row f.made 0 (omega (arith, s.long.number_long, s.small, row_within))

  -- another row is one of the first i + 1 pivot rows where it was one of the first i
  as_before : (r : ℕ) → r < m → (r ≡ row → ⊥) → is_pivot (set f.number row f.made) (f.made + 1) r ≡ old r
  as_before r h d = rw (number_other r d) (by (ltb (f.number # r) f.made) refl)
    where
      by : (b : Bool) → ltb (f.number # r) f.made ≡ b → ltb (f.number # r) (f.made + 1) ≡ b
      by true e = lt-ltb (f.number # r) (f.made + 1) (omega (arith, ltb-true (f.number # r) f.made e))
      by false e = le-ltb (f.number # r) (f.made + 1) (omega
          (arith, s.apart r h (ltb-false (f.number # r) f.made e)))

  cut : Split m f.number f.made row v l n start s.lrows_long s.urows_long below roomy end
  cut = split_all m f.number f.made row v l n start s.lrows_long s.urows_long below roomy

  abbrev ls : List ℕ
  ls = set f.lower_starts (f.made + 1) end.lower.count

  starts_long : f.made + 1 < length f.lower_starts
  starts_long = omega (arith, s.long.lower_starts_long, s.small)

  l_old : (j : ℕ) → j ≤ f.made → ls # j ≡ f.lower_starts # j
  l_old j h = starts_old s.lower_starts_holds cut.lower.grows starts_long j h

  -- a row whose number is above j keeps that
  above_kept : (j r : ℕ) → j < f.made → j < f.number # r → j < set f.number row f.made # r
  above_kept j r h g = ⊎_elim
      (λ (q : r ≡ row). omega (arith, ap (λ (x : ℕ). set f.number row f.made # x) q, number_row))
      (λ (d : r ≡ row → ⊥). omega (arith, number_other r d))
      (same? r row)

  after_old : (j k : ℕ) → j < f.made → ls # j ≤ k → k < ls # (j + 1)
      → j < set f.number row f.made # (end.lower.rows # k)
  after_old j k h a b =
      let c : k < f.lower.count = omega (
        arith,
        l_old (j + 1) (omega arith),
        s.lower_starts_holds.most (j + 1)
            (omega arith),
      ) in
      rw (cut.lower.kept k c) (above_kept j (f.lower.rows # k) h
      (s.after j k h (omega (arith, l_old j (omega arith))) (omega (arith, l_old (j + 1) (omega arith)))))

  after_new : (k : ℕ) → ls # f.made ≤ k → k < ls # (f.made + 1)
      → f.made < set f.number row f.made # (end.lower.rows # k)
  after_new k a b =
      let w = cut.lower.new k (omega (arith, l_old f.made (omega arith), s.lower_starts_holds.last))
      (omega (arith, starts_new s.lower_starts_holds cut.lower.grows starts_long)) in
      let r = end.lower.rows # k in
      omega (arith, number_other r w.other, s.apart r w.inside w.late)

  pub sound_next : Sound m next
  unfolding added gathered
  sound_next =
      let g = gathers n (le_refl n) in
      let less : m - f.made - 1 ≡ m - (f.made + 1) = omega arith in
      record {
        small = s.small;
        made_most = omega arith;
        long = record {
          order_long = length-set f.order f.made row ∙ s.long.order_long;
          number_long = length-set f.number row f.made ∙ s.long.number_long;
          lower_starts_long = length-set f.lower_starts (f.made + 1) end.lower.count ∙ s.long.lower_starts_long;
          upper_starts_long = length-set f.upper_starts (f.made + 1) end.upper.count ∙ s.long.upper_starts_long;
          diag_long = length-set f.diag f.made (v ! row) ∙ s.long.diag_long;
        };
        lrows_long = g.lrows;
        lvals_long = g.lvals;
        urows_long = g.urows;
        uvals_long = g.uvals;
        pivots =
            count_more m row old (λ r. is_pivot (set f.number row f.made) (f.made + 1) r) row_within row_free
            (rw number_row (lt-ltb f.made (f.made + 1) (omega arith))) as_before
            ∙ omega (arith, s.pivots);
        lower_most = omega (
          arith,
          lower_all n (le_refl n),
          s.lower_most,
          triangle_last (m - f.made) (omega arith),
          ap
              triangle less,
          less,
        );
        upper_most = rw (add-one f.made) (omega (
          arith,
          upper_all n (le_refl n),
          s.upper_most,
          triangle_suc
              f.made,
        ));
        apart = λ r h a. ⊎_elim
            (λ (q : r ≡ row). absurd (omega (arith, number_row, ap (λ (x : ℕ). set f.number row f.made # x) q)))
            (λ (d : r ≡ row → ⊥). omega (arith, number_other r d, s.apart r h (omega (arith, number_other r d))))
            (same? r row);
        lower_starts_holds = starts_next s.lower_starts_holds cut.lower.grows starts_long;
        lower_rows = g.rows_below;
        after = λ j k h a b. ⊎_elim (λ (i : j < f.made). after_old j k i a b)
            (λ (q : j ≡ f.made). rw q (after_new k (rw q at a) (rw q at b))) (last? j f.made h);
      }

-- ---- what a column asks

-- the pivot numbers left fall from a pivot row to the rows of its column
module _ {m : ℕ} {f : Partial} (s : Sound m f) where
  abbrev drawn : Mapped
  drawn = mapped true m f.number f.made f.lower_starts f.lower.rows

  used : f.lower.count ≤ max_tri_entries
  used = omega (arith, s.lower_most, fits_whole m s.small)

  child : (r k : ℕ) → k < (graph_in drawn).many r
      → (f.number # r < f.made) × (f.lower_starts # (f.number # r) + k < f.lower.count) ×
      (f.number # r < f.number # ((graph_in drawn).kid r k))
  child r k h =
      let w = many_at drawn r k h in
      let j = f.number # r in (
        w.0,
        omega (arith, w.1, s.lower_starts_holds.most (j + 1) (omega (arith, w.0))),
        s.after j
            (f.lower_starts # j + k) w.0 (omega arith) (omega (arith, w.1)),
      )

  pub lower_of : Lower m f.number f.made f.lower_starts f.lower.rows f.lower.vals
  lower_of =
      record {
        columns = record {
          falling = record {
            small = s.small;
            inside = λ r k h g. s.lower_rows (f.lower_starts # (f.number # r) + k) (child r k g).1;
            falls = λ r k h g. let w = child r k g in omega (arith, w.0, w.2);
            shallow = λ r h. omega (arith, s.made_most);
          };
          long = omega (arith, s.long.lower_starts_long, s.made_most, s.small);
          rise = s.lower_starts_holds.rises;
          ends = λ j h. omega (arith, s.lower_starts_holds.most (j + 1) (omega arith), s.lrows_long, used);
        };
        vals_long = λ j h. omega (arith, s.lower_starts_holds.most (j + 1) (omega arith), s.lvals_long, used);
        starts_few = omega (arith, s.made_most, s.small);
      }

module _ {m : ℕ} {f : Partial} (s : Sound m f) (room : f.made < m) {c : Sv} (w : Vector m c) where
  abbrev made_vector : Sv
  made_vector = solved m f.number f.made f.lower_starts f.lower.rows f.lower.vals c

  vec : Vector m made_vector
  vec = vector_solved (lower_of s) w

  abbrev nth : ℕ → ℕ
  nth k = made_vector.pat.list # k

  rows_in : Rows max_rows made_vector.pat.count made_vector.pat.list
  rows_in = record {
    few = vec.good.wf.within;
    small = omega arith;
    rows = λ k h. omega
        (arith, vec.below.below k h, s.small);
  }

  abbrev pick : ℕ
  pick = (chosen f.number f.made made_vector.vals made_vector.pat.list made_vector.pat.count).row

  module _ (e : le eps (chosen f.number f.made made_vector.vals made_vector.pat.list
      made_vector.pat.count).most ≡ true) where
    which : Chosen f.number f.made made_vector.vals made_vector.pat.list made_vector.pat.count
    which = choice f.number f.made made_vector.vals made_vector.pat.list made_vector.pat.count e

    pick_in : pick < m
    pick_in = rw which.row_is (vec.below.below which.at which.wins.inside)

    not_true : (b : Bool) → not b ≡ true → b ≡ false
    not_true true q = sym q
    not_true false q = refl

    pick_free : is_pivot f.number f.made pick ≡ false
    pick_free = rw which.row_is (not_true _ which.wins.passes)

    roomy_pick : Roomy f.number f.made pick made_vector.vals made_vector.pat.list made_vector.pat.count
        (parts f.lower f.upper)
    roomy_pick =
        roomy m f s room made_vector.vals made_vector.pat.list made_vector.pat.count vec.below.below
        (listed_once made_vector vec.good) pick pick_in pick_free

    pub sound_pick : Sound m (added f (found pick (made_vector.vals ! pick)
        (gathered f.number f.made pick made_vector.vals made_vector.pat.list made_vector.pat.count
        (parts f.lower f.upper))))
    sound_pick =
        sound_next m f s room made_vector.vals made_vector.pat.list made_vector.pat.count vec.below.below
        (listed_once made_vector vec.good) pick pick_in pick_free

  pub solvable : Solvable m f.made f.number f.lower_starts (parts f.lower f.upper) c
  solvable =
      record {
        lower = lower_of s;
        vector = w;
        judgeable = record {
          rows = rows_in;
          row = chosen_row f.number f.made made_vector.vals made_vector.pat.list made_vector.pat.count
              rows_in;
          roomy = roomy_pick;
        };
      }

-- ---- a column that is factored: what it leaves is sound again
module _ {m : ℕ} {f : Partial} (s : Sound m f) (room : f.made < m) {c : Sv} (w : Vector m c) where
  abbrev pub answer : Outcome Found
  answer = column m f.made f.number f.lower_starts (parts f.lower f.upper) c

  -- where it came from: the listed rows of the solved column, of which its row is one that was no pivot row
  pub record Came (x : Found) : Type 0 where
    pub v : List Float
    pub l : List ℕ
    pub n : ℕ
    pub below : (k : ℕ) → k < n → l # k < m
    pub row_within : x.row < m
    pub row_free : is_pivot f.number f.made x.row ≡ false
    pub roomy : Roomy f.number f.made x.row v l n (parts f.lower f.upper)
    pub all_finite_holds : (k : ℕ) → k < n → finite (v ! (l # k)) ≡ true
    pub at : ℕ
    pub at_in : at < n
    pub row_at : x.row ≡ l # at
    pub largest : (k : ℕ) → k < n → is_pivot f.number f.made (l # k) ≡ false
        → lt (size (v ! (l # at))) (size (v ! (l # k))) ≡ false
    pub enough : le eps (size (v ! (l # at))) ≡ true
    pub is : x ≡ found x.row (v ! x.row) (gathered f.number f.made x.row v l n
        (parts f.lower f.upper))
    pub sound : Sound m (added f x)

  abbrev u : Sv
  u = made_vector s room w

  sounds : (x : Found) → answer ≡ factored x → Came x
  unfolding column judged listed_finite
  sounds x e = finite_by (listed_finite u.vals u.pat.list u.pat.count) refl e
    where
      some : {a b : Found} → factored a ≡ factored b → a ≡ b
      some q = cc

      eps_by : listed_finite u.vals u.pat.list u.pat.count ≡ true → (b : Bool)
          → le eps (chosen f.number f.made u.vals u.pat.list u.pat.count).most ≡ b
          → pivoted_by b f.number f.made u.vals u.pat.list u.pat.count (parts f.lower f.upper)
          (pick s room w) ≡ factored x → Came x
      eps_by a true h q = let z = which s room w h in subst Came (some q) (record {
        v = u.vals;
        l = u.pat.list;
        n = u.pat.count;
        below = (vec s room w).below.below;
        row_within = pick_in s room w h;
        row_free = pick_free s room w h;
        roomy = roomy_pick s room w h;
        all_finite_holds = λ k g. all_at (λ j. finite (u.vals ! (u.pat.list # j))) u.pat.count a k g;
        at = z.at;
        at_in = z.wins.inside;
        row_at = z.row_is;
        largest = λ k g e. z.wins.largest k g (ap not e);
        enough = rw z.most_is at h;
        is = refl;
        sound = sound_pick s room w h;
      })
      eps_by a false h q = absurd (let z : ◌≡◌ {A = ℕ} 0 1 = cc in omega arith)

      finite_by : (b : Bool) → listed_finite u.vals u.pat.list u.pat.count ≡ b
          → judged_by b f.number f.made u.vals u.pat.list u.pat.count (parts f.lower f.upper) ≡
          factored x → Came x
      finite_by true a q = eps_by a _ refl q
      finite_by false a q = absurd (let z : ◌≡◌ {A = ℕ} 0 1 = cc in omega arith)

  pub factored_row : {x : Found} → factored x ≡ answer → x.row < m
  factored_row {x} e = (sounds x (sym e)).row_within

  pub came_from : {x : Found} → factored x ≡ answer → Came x
  came_from {x} e = sounds x (sym e)

  pub factored_sound : {x : Found} → factored x ≡ answer → Sound m (added f x)
  factored_sound {x} e = (sounds x (sym e)).sound

-- ---- a turn keeps it, and the start has it
pub sound_more : {m : ℕ} {f g : Partial} (col : ℕ → Sv) → Sound m f → f.made < m → Vector m (col f.made)
    → more g ≡ factor_turn m col f → Sound m g
unfolding factor_turn
sound_more {m} {f} {g} col s room w e = by (answer s room w) refl e
  where
    by : (o : Outcome Found) → o ≡ answer s room w → more g ≡ next_of f o → Sound m g
    by (factored x) q h = let z : g ≡ added f x = cc in rw z (factored_sound s room w {x = x} q)
    by non_finite q h = absurd (let z : ◌≡◌ {A = ℕ} 0 1 = cc in omega arith)
    by singular q h = absurd (let z : ◌≡◌ {A = ℕ} 0 1 = cc in omega arith)

none_yet : (m : ℕ) → m ≤ max_rows → (n i : ℕ) → i + n ≤ m → trues (tab n i (λ r. is_pivot nothing.number 0 r)) ≡ 0
unfolding tab trues
none_yet m h zero i l = refl
none_yet m h (suc n) i l = rw (le-ltb (nothing.number # i) 0 (omega arith)) (none_yet m h n (suc i) (omega arith))

pub sound_nothing : (m : ℕ) → m ≤ max_rows → Sound m nothing
sound_nothing m h =
    let z : m - 0 ≡ m = omega arith in
    record {
      small = h;
      made_most = omega arith;
      long = record {
        order_long = length-replicate {A = ℕ} max_rows 0;
        number_long = length-replicate {A = ℕ} max_rows max_rows;
        lower_starts_long = length-replicate {A = ℕ} (max_rows + 1) 0;
        upper_starts_long = length-replicate {A = ℕ} (max_rows + 1) 0;
        diag_long = length-replicate max_rows f0;
      };
      lrows_long = length-replicate {A = ℕ} max_tri_entries 0;
      lvals_long = length-replicate max_tri_entries f0;
      urows_long = length-replicate {A = ℕ} max_tri_entries 0;
      uvals_long = length-replicate max_tri_entries f0;
      pivots = none_yet m h m 0 (omega arith);
      lower_most = rw z (omega arith);
      upper_most = omega arith;
      apart = λ r g _. let q : nothing.number # r ≡ max_rows = get_or-replicate {A = ℕ} max_rows r max_rows 0 (omega arith)
          in omega (arith, q);
      lower_starts_holds = starts_none;
      lower_rows = λ k g. absurd (omega arith);
      after = λ j k g a b. absurd (omega arith);
    }

-- ---- the whole: what is factored is sound, has all columns, and has what every turn keeps
module _ {m : ℕ} (col : ℕ → Sv) (cols : (i : ℕ) → i < m → Vector m (col i)) (P : Partial → Type 0)
    (turn_keeps : (f t : Partial) → Sound m f → P f → f.made < m → factor_turn m col f ≡ more t → P t) where
  pub record Whole (g : Partial) : Type 0 where
    pub sound : Sound m g
    pub made_all : g.made ≡ m
    pub has : P g

  -- a turn that goes on adds a column, and one that stops answers no factor
  turn_adds : (f t : Partial) → factor_turn m col f ≡ more t → t.made ≡ f.made + 1
  unfolding factor_turn added
  turn_adds f t e = by (column m f.made f.number f.lower_starts (parts f.lower f.upper) (col f.made)) e
    where
      by : (o : Outcome Found) → next_of f o ≡ more t → t.made ≡ f.made + 1
      by (factored x) h = let z : t ≡ added f x = cc in ap (λ (y : Partial). y.made) z
      by non_finite h = absurd (let z : ◌≡◌ {A = ℕ} 0 1 = cc in omega arith)
      by singular h = absurd (let z : ◌≡◌ {A = ℕ} 0 1 = cc in omega arith)

  turn_stops : (f g : Partial) → factor_turn m col f ≡ Next·done (factored g) → ⊥
  unfolding factor_turn
  turn_stops f g e = by (column m f.made f.number f.lower_starts (parts f.lower f.upper) (col f.made))
      e
    where
      by : (o : Outcome Found) → next_of f o ≡ Next·done (factored g) → ⊥
      by (factored x) h = let z : ◌≡◌ {A = ℕ} 0 1 = cc in omega arith
      by non_finite h = let z : ◌≡◌ {A = ℕ} 0 1 = cc in omega arith
      by singular h = let z : ◌≡◌ {A = ℕ} 0 1 = cc in omega arith

  whole_from : (k : ℕ) (f g : Partial) → Sound m f → P f → f.made + k ≡ m
      → until (factor_turn m col) factored k f ≡ factored g → Whole g
  unfolding until
  whole_from zero f g s p e h = let z : f ≡ g = cc in rw (← z) (record { sound = s; made_all = omega arith; has = p })
  whole_from (suc k) f g s p e h = by (factor_turn m col f) refl h (λ t. whole_from k t g)
    where
      by : (x : Next Partial (Outcome Partial)) → factor_turn m col f ≡ x
          → elim x [ Next·done r ↦ r | more t ↦ until (factor_turn m col) factored k t ] ≡ factored g
          → ((t : Partial) → Sound m t → P t → t.made + k ≡ m → until (factor_turn m col) factored k t ≡ factored g
          → Whole g) → Whole g
      by (Next·done r) q w ih = absurd (turn_stops f g (q ∙ ap (λ (y : Outcome Partial). Next·done y) w))
      by (more t) q w ih = ih t (sound_more col s (omega arith) (cols f.made (omega arith)) (sym q))
          (turn_keeps f t s p (omega arith) q) (omega (arith, turn_adds f t q)) w

  pub whole : (g : Partial) → m ≤ max_rows → P nothing → factored g ≡ factor_part m col → Whole g
  unfolding factor_part
  whole g h p e = whole_from m nothing g (sound_nothing m h) p (omega arith) (sym e)

pub part_sound : {m : ℕ} (col : ℕ → Sv) → ((i : ℕ) → i < m → Vector m (col i)) → {g : Partial} → m ≤ max_rows
    → factored g ≡ factor_part m col → Sound m g
part_sound col cols {g} h e = (whole col cols (λ f. 0 ≤ f.made) (λ f t s p l q. omega arith) g h (omega arith) e).sound

pub renumberable : {m : ℕ} {f : Partial} → Sound m f → Renumberable f.lower.count f.lower.rows
renumberable {m} s =
    record {
      few = omega (arith, s.lower_most, fits_whole m s.small);
      held = λ k h. omega
          (arith, s.lower_rows k h, s.small);
    }
