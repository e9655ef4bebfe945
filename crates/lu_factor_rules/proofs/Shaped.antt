-- What a factor is: the pivot order is a permutation with `number` as its inverse, rows of L's column j are pivoted
-- after j, rows of U's before j, and each has at most as many entries as a triangle. `factor_shaped`, at the end, says
-- so of every factor. Assumes nothing.
use mathlib.Core.Path.{◌≡◌, refl, sym, ap, ◌∙◌, subst}
use mathlib.Core.Bool.{Bool, true, false}
use mathlib.Core.Logic.{⊎_elim}
use mathlib.Core.List.{List}
use Prim.Native.Nat.{ℕ, zero, suc, ◌+◌, ◌-◌, ◌<◌, ◌≤◌}
use native.Mathlib.Nat.{le_refl}
use native.Mathlib.Omega.{arith}
use lib.ListN.{length, get_or, set, length-set}
use lib.Seq.{get_or-set_same, get_or-set_other}
use lib.Ieee.{Float}
use borrow.Author.Tests.{ltb-true, ltb-false}
use Rattle.doubles.specs.Limits.{max_rows, max_tri_entries}
use Rattle.doubles.specs.Loop.{run, table, more}
use Rattle.doubles.specs.Lists.{◌!◌, ◌#◌}
use Rattle.doubles.proofs.Bools.{same?, last?}
use Rattle.doubles.proofs.Loops.{keeps, length_tab, get_d_table}
use Rattle.sparse.specs.Scattered.{Sv, trues}
use Rattle.sparse.proofs.Laws.{trues_room}
use Rattle.lu_walk.specs.Walk.{shape, many, Columns}
use Rattle.lu_factor_rules.specs.Factor.{Partial, nothing, Parts, parts, is_pivot}
use Rattle.lu_factor_rules.specs.Factor.{gathered, Outcome, factored}
use Rattle.lu_factor_rules.specs.Factor.{non_finite, singular, Found, found, added, next_of, factor_turn, factor_part}
use Rattle.lu_factor_rules.specs.Factor.{renumber_turn, renumbered, Factor, factor_of, ended, factorize}
use Rattle.lu_factor_rules.specs.Sound.{triangle, Starts, Sound}
use Rattle.lu_factor_rules.specs.Ready.{Roomy, Vector}
use Rattle.lu_factor_rules.proofs.Entries.{Split, split_all, starts_old, starts_new, starts_next, starts_none}
use Rattle.lu_factor_rules.proofs.Keeps.{answer, came_from, whole, fits_whole}
use Rattle.lu_factor_rules.proofs.Turns.{renumber_ahead}

-- ---- the invariant
pub record Shaped (m : ℕ) (f : Partial) : Type 0 where
  pub order_in : (j : ℕ) → j < f.made → f.order # j < m
  pub numbered : (j : ℕ) → j < f.made → f.number # (f.order # j) ≡ j
  pub ordered : (r : ℕ) → r < m → f.number # r < f.made → f.order # (f.number # r) ≡ r
  pub upper_starts_holds : Starts f.made f.upper_starts f.upper.count
  -- rows of U's column j are pivoted before j
  pub before : (j k : ℕ) → j < f.made → f.upper_starts # j ≤ k → k < f.upper_starts # (j + 1) → f.upper.rows # k < j

module _ (m : ℕ) (f : Partial) (s : Sound m f) (sh : Shaped m f) (room : f.made < m) (v : List Float) (l : List ℕ)
    (n : ℕ) (below : (k : ℕ) → k < n → l # k < m)
    (row : ℕ) (row_within : row < m) (row_free : is_pivot f.number f.made row ≡ false)
    (roomy : Roomy f.number f.made row v l n (parts f.lower f.upper)) where
  abbrev i : ℕ
  i = f.made

  abbrev end : Parts
  end = gathered f.number f.made row v l n (parts f.lower f.upper)

  cut : Split m f.number i row v l n (parts f.lower f.upper) s.lrows_long s.urows_long below roomy end
  cut = split_all m f.number i row v l n (parts f.lower f.upper) s.lrows_long s.urows_long below roomy

  late : i ≤ f.number # row
  late = ltb-false (f.number # row) i row_free

  number_other : (r : ℕ) → (r ≡ row → ⊥) → set f.number row i # r ≡ f.number # r
  number_other r d = get_or-set_other f.number row r i 0 d

  number_row : set f.number row i # row ≡ i
  number_row = get_or-set_same f.number row i 0 (omega (arith, s.long.number_long, s.small, row_within))

  order_other : (j : ℕ) → j < i → set f.order i row # j ≡ f.order # j
  order_other j h = get_or-set_other f.order i j row 0 (λ (q : j ≡ i). omega arith)

  order_last : set f.order i row # i ≡ row
  order_last = get_or-set_same f.order i row 0 (omega (arith, s.long.order_long, s.small))

  not_row : (j : ℕ) → j < i → f.order # j ≡ row → ⊥
  not_row j h q = omega (arith, late, sh.numbered j h, ap (λ (r : ℕ). f.number # r) q)

  abbrev us : List ℕ
  us = set f.upper_starts (i + 1) end.upper.count

  upper_long : i + 1 < length f.upper_starts
  upper_long = omega (arith, s.long.upper_starts_long, s.small)

  u_old : (j : ℕ) → j ≤ i → us # j ≡ f.upper_starts # j
  u_old j h = starts_old sh.upper_starts_holds cut.upper.grows upper_long j h

  before_old : (j k : ℕ) → j < i → us # j ≤ k → k < us # (j + 1) → end.upper.rows # k < j
  before_old j k h a b =
      let c : k < f.upper.count = omega (
        arith,
        u_old (j + 1) (omega arith),
        sh.upper_starts_holds.most (j + 1)
            (omega arith),
      ) in
      rw (cut.upper.kept k c) (sh.before j k h (omega (arith, u_old j (omega arith)))
      (omega (arith, u_old (j + 1) (omega arith))))

  before_new : (k : ℕ) → us # i ≤ k → k < us # (i + 1) → end.upper.rows # k < i
  before_new k a b = cut.upper.new k (omega (arith, u_old i (omega arith), sh.upper_starts_holds.last))
      (omega (arith, starts_new sh.upper_starts_holds cut.upper.grows upper_long))

  shaped_next : Shaped m (added f (found row (v ! row) end))
  unfolding added
  shaped_next =
      record {
        order_in = λ j h. ⊎_elim (λ (g : j < i). omega (arith, order_other j g, sh.order_in j g))
            (λ (q : j ≡ i). rw q (omega (arith, order_last))) (last? j i h);
        numbered = λ j h. ⊎_elim
            (λ (g : j < i). ap (λ (r : ℕ). set f.number row i # r) (order_other j g) ∙ number_other (f.order # j)
            (not_row j g) ∙ sh.numbered j g)
            (λ (q : j ≡ i). rw q (ap (λ (r : ℕ). set f.number row i # r) order_last ∙ number_row))
            (last? j i h);
        ordered = λ r h g. ⊎_elim
            (λ (q : r ≡ row). rw q (ap (λ (j : ℕ). set f.order i row # j) number_row ∙ order_last))
            (λ (d : r ≡ row → ⊥).
            let small : f.number # r < i = ⊎_elim (λ (a : f.number # r < i). a)
            (λ (a : f.number # r ≡ i). absurd (omega (arith, s.apart r h (omega arith))))
            (last? (f.number # r) i (omega (arith, number_other r d))) in
            ap (λ (j : ℕ). set f.order i row # j) (number_other r d) ∙ order_other (f.number # r) small ∙ sh.ordered r h small)
            (same? r row);
        upper_starts_holds = starts_next sh.upper_starts_holds cut.upper.grows upper_long;
        before = λ j k h a b. ⊎_elim (λ (g : j < i). before_old j k g a b)
            (λ (q : j ≡ i). rw q (before_new k (rw q at a) (rw q at b))) (last? j i h);
      }

pub shaped_nothing : (m : ℕ) → Shaped m nothing
shaped_nothing m =
    record {
      order_in = λ j h. absurd (omega arith);
      numbered = λ j h. absurd (omega arith);
      ordered = λ r h g. absurd (omega arith);
      upper_starts_holds = starts_none;
      before = λ j k h a b. absurd (omega arith);
    }

-- ---- every factor
pub turn_shapes : {m : ℕ} (col : ℕ → Sv) → ((i : ℕ) → i < m → Vector m (col i)) → (f t : Partial) → Sound m f
    → Shaped m f → f.made < m → factor_turn m col f ≡ more t → Shaped m t
unfolding factor_turn
turn_shapes {m} col cols f t s sh room e = by (answer s room (cols f.made room)) refl e
  where
    by : (o : Outcome Found) → o ≡ answer s room (cols f.made room) → next_of f o ≡ more t → Shaped m t
    by (factored x) q h =
        let z : added f x ≡ t = cc in
        let c = came_from s room (cols f.made room) {x = x} q in
        rw (← z) (subst (λ (y : Found). Shaped m (added f y)) (sym c.is)
        (shaped_next m f s sh room c.v c.l c.n c.below x.row c.row_within c.row_free c.roomy))
    by non_finite q h = absurd (let z : ◌≡◌ {A = ℕ} 0 1 = cc in omega arith)
    by singular q h = absurd (let z : ◌≡◌ {A = ℕ} 0 1 = cc in omega arith)

-- where as many marks are set as there are, every one is
full : (b : List Bool) (k : ℕ) → k < length b → trues b ≡ length b → get_or b k false ≡ true
full b k h e = by (get_or b k false) refl
  where
    by : (c : Bool) → get_or b k false ≡ c → c ≡ true
    by true q = refl
    by false q = absurd (omega (arith, trues_room b k h q))

pub renumber_long : (number : List ℕ) (n : ℕ) (l : List ℕ) → length (renumbered number n l) ≡ length l
unfolding renumbered
renumber_long number n l = keeps (renumber_turn number) l (λ _ x. length x ≡ length l) n
    (λ i x h e. length-set x i _ ∙ e) refl n (le_refl n)

renumber_done : (number : List ℕ) (n : ℕ) (l : List ℕ) (k : ℕ) → k < n → n ≤ length l
    → renumbered number n l # k ≡ number # (l # k)
unfolding renumbered run
renumber_done number n l k h long = go n k h long
  where
    go : (n k : ℕ) → k < n → n ≤ length l → run (renumber_turn number) n l # k ≡ number # (l # k)
    go zero k h b = absurd (omega arith)
    go (suc n) k h b = ⊎_elim
        (λ (g : k < n). get_or-set_other (run (renumber_turn number) n l) n k _ 0 (λ (q : k ≡ n). omega arith) ∙ go n k g
        (omega arith))
        (λ (q : k ≡ n). rw q (get_or-set_same (run (renumber_turn number) n l) n _ 0
        (omega (arith, renumber_long number n l)) ∙ ap (λ (j : ℕ). number # j)
        (renumber_ahead number l n n (le_refl n))))
        (last? k n (omega arith))

-- what a factor of m rows is
pub record IsFactor (m : ℕ) (f : Factor) : Type 0 where
  -- "the order of the pivot rows" is a permutation, and `number` its inverse
  pub order_long : m ≤ length f.order
  pub number_long : m ≤ length f.number
  pub order_in : (j : ℕ) → j < m → f.order # j < m
  pub number_in : (r : ℕ) → r < m → f.number # r < m
  pub numbered : (j : ℕ) → j < m → f.number # (f.order # j) ≡ j
  pub ordered : (r : ℕ) → r < m → f.order # (f.number # r) ≡ r
  -- "rows of L's column i are above i, rows of U's column i below i": triangles, as the sparse solves ask
  pub lower : Columns (shape true m f.lower.starts f.lower.rows)
  pub upper : Columns (shape false m f.upper.starts f.upper.rows)
  pub lower_vals : (j : ℕ) → j < m → f.lower.starts # (j + 1) ≤ length f.lower.vals
  pub upper_vals : (j : ℕ) → j < m → f.upper.starts # (j + 1) ≤ length f.upper.vals
  pub diag_long : m ≤ length f.diag
  pub lower_first_holds : f.lower.starts # 0 ≡ 0
  pub upper_first : f.upper.starts # 0 ≡ 0
  -- "at most 4,560 entries each"
  pub lower_most : f.lower.starts # m ≤ triangle m
  pub upper_most : f.upper.starts # m ≤ triangle m

module _ {m : ℕ} {g : Partial} (s : Sound m g) (sh : Shaped m g) (all : g.made ≡ m) where
  number_small : (r : ℕ) → r < m → g.number # r < m
  number_small r h =
      let long = length_tab m 0 (λ k. is_pivot g.number g.made k) in
      let t : is_pivot g.number g.made r ≡ true = sym (get_d_table m (λ k. is_pivot g.number g.made k) false r
      h) ∙ full (table m (λ k. is_pivot g.number g.made k)) r (omega (arith, long))
      (s.pivots ∙ all ∙ sym long) in
      omega (arith, ltb-true (g.number # r) g.made t)

  lower_used : g.lower.count ≤ triangle m
  lower_used = omega (arith, s.lower_most)

  upper_used : g.upper.count ≤ triangle m
  upper_used = omega (arith, s.upper_most, ap triangle all)

  entries_fit : triangle m ≤ max_tri_entries
  entries_fit = fits_whole m s.small

  l_at : (j i : ℕ) → j < m → i < g.lower_starts # (j + 1) - g.lower_starts # j
      → (j < g.number # (g.lower.rows # (g.lower_starts # j + i))) × (g.lower_starts # j + i < g.lower.count)
  l_at j i h a =
      let b : g.lower_starts # j + i < g.lower.count = omega
      (arith, s.lower_starts_holds.most (j + 1) (omega (arith, all))) in
      (s.after j (g.lower_starts # j + i) (omega (arith, all)) (omega arith) (omega arith), b)

  factor_is : IsFactor m (factor_of m g)
  factor_is =
      record {
        order_long = omega (arith, s.long.order_long, s.small);
        number_long = omega (arith, s.long.number_long, s.small);
        order_in = λ j h. sh.order_in j (omega (arith, all));
        number_in = number_small;
        numbered = λ j h. sh.numbered j (omega (arith, all));
        ordered = λ r h. sh.ordered r h (omega (arith, all, number_small r h));
        lower = record {
          small = s.small;
          long = omega (arith, s.long.lower_starts_long, s.small);
          rise = λ j h. s.lower_starts_holds.rises j (omega (arith, all));
          ends = λ j h. omega (
            arith,
            s.lower_starts_holds.most (j + 1) (omega (arith, all)),
            lower_used,
            entries_fit,
            s.lrows_long,
            renumber_long g.number g.lower.count g.lower.rows,
          );
          inside = λ j i h a. rw (l_row j i h a) (number_small (g.lower.rows # (g.lower_starts # j + i))
              (s.lower_rows (g.lower_starts # j + i) (l_at j i h a).1));
          falls = λ j i h a. rw (l_row j i h a) (let b = number_small (g.lower.rows # (g.lower_starts # j + i))
              (s.lower_rows (g.lower_starts # j + i) (l_at j i h a).1) in omega (arith, b, (l_at j i h a).0));
        };
        upper = record {
          small = s.small;
          long = omega (arith, s.long.upper_starts_long, s.small);
          rise = λ j h. sh.upper_starts_holds.rises j (omega (arith, all));
          ends = λ j h. omega (
            arith,
            sh.upper_starts_holds.most (j + 1) (omega (arith, all)),
            upper_used,
            entries_fit,
            s.urows_long,
          );
          inside = λ j i h a. omega (arith, u_at j i h a);
          falls = λ j i h a. omega (arith, u_at j i h a);
        };
        lower_vals = λ j h. omega (
          arith,
          s.lower_starts_holds.most (j + 1) (omega (arith, all)),
          lower_used,
          entries_fit,
          s.lvals_long,
        );
        upper_vals = λ j h. omega (
          arith,
          sh.upper_starts_holds.most (j + 1) (omega (arith, all)),
          upper_used,
          entries_fit,
          s.uvals_long,
        );
        diag_long = omega (arith, s.long.diag_long, s.small);
        lower_first_holds = s.lower_starts_holds.first;
        upper_first = sh.upper_starts_holds.first;
        lower_most = omega (arith, s.lower_starts_holds.most m (omega (arith, all)), lower_used);
        upper_most = omega (arith, sh.upper_starts_holds.most m (omega (arith, all)), upper_used);
      }
    where
      l_row : (j i : ℕ) → j < m → i < g.lower_starts # (j + 1) - g.lower_starts # j
          → renumbered g.number g.lower.count g.lower.rows # (g.lower_starts # j + i) ≡ g.number #
          (g.lower.rows # (g.lower_starts # j + i))
      l_row j i h a = renumber_done g.number g.lower.count g.lower.rows (g.lower_starts # j + i)
          (l_at j i h a).1 (omega (arith, lower_used, entries_fit, s.lrows_long))

      u_at : (j i : ℕ) → j < m → i < g.upper_starts # (j + 1) - g.upper_starts # j
          → g.upper.rows # (g.upper_starts # j + i) < j
      u_at j i h a = sh.before j (g.upper_starts # j + i) (omega (arith, all)) (omega arith) (omega arith)

-- Every factor of a basis whose columns are vectors over m rows.
pub factor_shaped : {m : ℕ} (col : ℕ → Sv) → ((i : ℕ) → i < m → Vector m (col i)) → m ≤ max_rows → {f : Factor}
    → factored f ≡ factorize m col → IsFactor m f
unfolding factorize
factor_shaped {m} col cols h {f} e = by (factor_part m col) refl e
  where
    by : (o : Outcome Partial) → o ≡ factor_part m col → factored f ≡ ended m o → IsFactor m f
    by (factored g) q w =
        let a = whole col cols (Shaped m) (turn_shapes col cols) g h (shaped_nothing m) q in
        let z : f ≡ factor_of m g = cc in
        rw z (factor_is a.sound a.has a.made_all)
    by non_finite q w = absurd (let z : ◌≡◌ {A = ℕ} 0 1 = cc in omega arith)
    by singular q w = absurd (let z : ◌≡◌ {A = ℕ} 0 1 = cc in omega arith)
