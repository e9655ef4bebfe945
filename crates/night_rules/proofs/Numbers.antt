-- The solver's plan has exactly the sheet's numbers: its arrays, and its entries row by row. Assumes nothing.
use mathlib.Core.Path.{◌≡◌, refl, sym, ap, ◌∙◌, subst}
use mathlib.Core.Logic.{◌⊎◌, ⊎_elim}
use mathlib.Core.Bool.{Bool, true, false}
use mathlib.Core.List.{[], ◌∷◌, ◌++◌}
use Prim.Native.Nat.{ℕ, zero, suc, ◌+◌, ◌<◌, ◌≤◌}
use native.Mathlib.Numerals.{add-one}
use native.Mathlib.Omega.{arith}
use lib.ListN.{length, replicate, get_or-append, length-append}
use lib.Seq.{get_or_at}
use lib.IntN.{ℤ, pos}
use lib.Ieee.{Float, nan}
use borrow.Author.Tests.{eq-eqb, ne_eqb}
use Rattle.doubles.specs.Num.{f0, +inf, -inf}
use Rattle.doubles.specs.Lists.{◌!◌, ◌#◌}
use Rattle.doubles.specs.Limits.{max_columns, max_rows}
use Rattle.doubles.specs.Loop.{run}
use Rattle.doubles.proofs.Bools.{last?, by_test}
use Rattle.rules.specs.Plan as Rules
use Rattle.rules.proofs.Lists.{over_at}
use Rattle.sheet_rules.specs.Sheet.{Plan, Sheet, a, c, lower, upper, lower_mark, upper_mark, rhs}
use Rattle.sheet_rules.specs.Opening.{opening}
use Rattle.sheet_rules.specs.Verdict.{is_zero}
use Rattle.sheet_rules.proofs.Tests.{zero_decides, no_so}
use Rattle.night_rules.specs.Doubles.{as_double, bound_or, nonzeros, Entries, entries_of, row_entries, start_at}
use Rattle.night_rules.specs.Doubles.{entries_to}
use Rattle.night_rules.specs.Doubles.{doubles_plan}
use Rattle.night_rules.proofs.Doubles.{IsExactly, SameNumbers, same_numbers}

-- entry k of the solver's plan q is a coefficient of row i that isn't 0
pub record EntryOf (p : Plan) (q : Rules.Plan) (i k : ℕ) : Type 0 where
  pub column : q.cols # k < p.cols
  pub not_zero : ¬ (a p i (q.cols # k) ≡ pos 0)
  pub number : IsExactly (q.coeffs ! k) (a p i (q.cols # k))

-- "the same numbers in doubles, absent bounds infinite and zero coefficients left out"
pub record HandedOver (p : Plan) (q : Rules.Plan) : Type 0 where
  pub columns : q.columns ≡ p.cols
  pub rows : q.rows ≡ p.rows
  pub costs : (j : ℕ) → j < p.cols → IsExactly (q.costs ! j) (c p j)
  pub lowers : (j : ℕ) → j < p.cols → lower_mark p j ≡ 1 → IsExactly (q.lowers ! j) (lower p j)
  pub no_lower : (j : ℕ) → j < p.cols → ¬ (lower_mark p j ≡ 1) → q.lowers ! j ≡ -inf
  pub uppers : (j : ℕ) → j < p.cols → upper_mark p j ≡ 1 → IsExactly (q.uppers ! j) (upper p j)
  pub no_upper : (j : ℕ) → j < p.cols → ¬ (upper_mark p j ≡ 1) → q.uppers ! j ≡ +inf
  pub rights : (i : ℕ) → i < p.rows → IsExactly (q.rhs ! i) (rhs p i)
  pub comparisons : q.ops ≡ p.ops
  -- each entry of a row is one of its coefficients, columns rise, and each that isn't 0 is an entry
  pub entry : (i k : ℕ) → i < p.rows → q.starts # i ≤ k → k < q.starts # (i + 1) → EntryOf p q i k
  pub rises : (i k : ℕ) → i < p.rows → q.starts # i ≤ k → k + 1 < q.starts # (i + 1)
      → q.cols # k < q.cols # (k + 1)
  pub every : (i j : ℕ) → i < p.rows → j < p.cols → ¬ (a p i j ≡ pos 0)
      → (k : ℕ) × (q.starts # i ≤ k) × (k < q.starts # (i + 1)) × (q.cols # k ≡ j)

-- ---- the entries of a row, in the lists e, from lo up to hi
record Row (row : ℕ → ℤ) (n lo hi : ℕ) (e : Entries) : Type 0 where
  column : (k : ℕ) → lo ≤ k → k < hi → e.columns # k < n
  not_zero : (k : ℕ) → lo ≤ k → k < hi → ¬ (row (e.columns # k) ≡ pos 0)
  number : (k : ℕ) → lo ≤ k → k < hi → e.values ! k ≡ as_double (row (e.columns # k))
  rises : (k : ℕ) → lo ≤ k → k + 1 < hi → e.columns # k < e.columns # (k + 1)
  every : (j : ℕ) → j < n → ¬ (row j ≡ pos 0) → (k : ℕ) × (lo ≤ k) × (k < hi) × (e.columns # k ≡ j)

-- the first cells of e stay
record Stay (e f : Entries) : Type 0 where
  columns_stay : (k : ℕ) → k < length e.columns → f.columns # k ≡ e.columns # k
  values_stay : (k : ℕ) → k < length e.columns → f.values ! k ≡ e.values ! k
  longer : length e.columns ≤ length f.columns

stay_trans : {e f g : Entries} → Stay e f → Stay f g → Stay e g
stay_trans s t = record {
  columns_stay = λ k h. t.columns_stay k (omega (arith, h, s.longer)) ∙ s.columns_stay k h;
  values_stay = λ k h. t.values_stay k (omega (arith, h, s.longer)) ∙ s.values_stay k h;
  longer = omega (arith, s.longer, t.longer);
}

row_stays : {row : ℕ → ℤ} {n lo hi : ℕ} {e f : Entries} → hi ≤ length e.columns → Stay e f → Row row n lo hi e
    → Row row n lo hi f
row_stays {row} {n} {lo} {hi} {e} {f} h s r = record {
  column = λ k l u. rw (s.columns_stay k (omega arith)) (r.column k l u);
  not_zero = λ k l u. rw (s.columns_stay k (omega arith)) (r.not_zero k l u);
  number = λ k l u. rw (s.columns_stay k (omega arith), s.values_stay k (omega arith)) (r.number k l u);
  rises = λ k l u. rw (s.columns_stay k (omega arith), s.columns_stay (k + 1) (omega arith)) (r.rises k l u);
  every = λ j l z. let x = r.every j l z in (x.0, x.1, x.2, s.columns_stay x.0 (omega (arith, x.2)) ∙ x.3);
}

-- one column more
count_by : (row : ℕ → ℤ) (n : ℕ) (b : Bool) → is_zero (row n) ≡ b
    → nonzeros row (suc n) ≡ elim b [ true ↦ nonzeros row n | false ↦ nonzeros row n + 1 ]
unfolding nonzeros run
count_by row n b t = ap (λ (d : Bool). elim d [ true ↦ nonzeros row n | false ↦ nonzeros row n + 1 ]) t

lists_by : (row : ℕ → ℤ) (n : ℕ) (e : Entries) (b : Bool) → is_zero (row n) ≡ b
    → row_entries row (suc n) e ≡ elim b [
      | true ↦ row_entries row n e
      | false ↦ entries_of ((row_entries row n e).columns ++ (n ∷ []))
          ((row_entries row n e).values ++ (as_double (row n) ∷ []))
    ]
unfolding row_entries run
lists_by row n e b t =
    let f = row_entries row n e in
    ap (λ (d : Bool). elim d [
      | true ↦ f
      | false ↦ entries_of (f.columns ++ (n ∷ []))
          (f.values ++ (as_double (row n) ∷ []))
    ]) t

-- ---- a row is laid behind e: after n columns the lists are f
record Laid (row : ℕ → ℤ) (e : Entries) (n : ℕ) (f : Entries) : Type 0 where
  even : length f.columns ≡ length f.values
  long : length f.columns ≡ length e.columns + nonzeros row n
  stays : Stay e f
  its : Row row n (length e.columns) (length f.columns) f

module _ (row : ℕ → ℤ) (e : Entries) where
  passes : (n : ℕ) (f : Entries) → row n ≡ pos 0 → nonzeros row (suc n) ≡ nonzeros row n → Laid row e n f
      → Laid row e (suc n) f
  passes n f z q l = record {
    even = l.even;
    long = l.long ∙ ap (λ (k : ℕ). length e.columns + k) (sym q);
    stays = l.stays;
    its = record {
      column = λ k h u. omega (arith, l.its.column k h u);
      not_zero = l.its.not_zero;
      number = l.its.number;
      rises = l.its.rises;
      every = λ j h y. ⊎_elim (λ b. l.its.every j b y) (λ (b : j ≡ n). absurd (y (ap row b ∙ z)))
          (last? j n (omega (arith, h)));
    };
  }

  module _ (n : ℕ) (f : Entries) (z : ¬ (row n ≡ pos 0)) (q : nonzeros row (suc n) ≡ nonzeros row n + 1)
      (l : Laid row e n f) where
    abbrev g : Entries
    g = entries_of (f.columns ++ (n ∷ [])) (f.values ++ (as_double (row n) ∷ []))

    one_more : length g.columns ≡ length f.columns + 1
    one_more = length-append f.columns (n ∷ [])

    last_column : g.columns # length f.columns ≡ n
    last_column = get_or_at f.columns n [] 0 (length f.columns) refl

    last_value : g.values ! length f.columns ≡ as_double (row n)
    last_value = get_or_at f.values (as_double (row n)) [] nan (length f.columns) (sym l.even)

    behind : Stay f g
    behind = record {
      columns_stay = λ k h. get_or-append f.columns (n ∷ []) 0 k h;
      values_stay = λ k h. get_or-append f.values (as_double (row n) ∷ []) nan k (rw (← l.even) h);
      longer = omega (arith, one_more);
    }

    -- what holds of f's entries and of the new one holds of g's
    below : (Q : ℕ → Type 0) → ((k : ℕ) → length e.columns ≤ k → k < length f.columns → Q k)
        → Q (length f.columns)
        → (k : ℕ) → length e.columns ≤ k → k < length g.columns → Q k
    below Q h y k b u = ⊎_elim (λ v. h k b v) (λ (v : k ≡ length f.columns). rw v y)
        (last? k (length f.columns) (omega (arith, u, one_more)))

    adds : Laid row e (suc n) g
    adds =
        let r = l.its in
        let s = behind in
        record {
          even = one_more ∙ ap (λ (k : ℕ). k + 1) l.even ∙ sym (length-append f.values (as_double (row n) ∷ []));
          long = one_more ∙ omega (arith, l.long, q);
          stays = stay_trans l.stays s;
          its = record {
            column = below (λ k. g.columns # k < suc n)
                (λ k b u. rw (s.columns_stay k u) (omega (arith, r.column k b u))) (rw last_column (omega arith));
            not_zero = below (λ k. ¬ (row (g.columns # k) ≡ pos 0))
                (λ k b u. rw (s.columns_stay k u) (r.not_zero k b u)) (rw last_column z);
            number = below (λ k. g.values ! k ≡ as_double (row (g.columns # k)))
                (λ k b u. rw (s.columns_stay k u, s.values_stay k u) (r.number k b u))
                (rw (last_column, last_value));
            rises = λ k b u. ⊎_elim
                (λ v. rw (s.columns_stay k (omega arith), s.columns_stay (k + 1) v) (r.rises k b v))
                (λ (v : k + 1 ≡ length f.columns).
                rw (v, last_column, s.columns_stay k (omega (arith, v))) (r.column k b (omega (arith, v))))
                (last? (k + 1) (length f.columns) (omega (arith, u, one_more)));
            every = λ j h y. ⊎_elim
                (λ b. let x = r.every j b y in
                (x.0, x.1, omega (arith, x.2, one_more), s.columns_stay x.0 x.2 ∙ x.3))
                (λ (b : j ≡ n).
                (length f.columns, l.stays.longer, omega (arith, one_more), last_column ∙ sym b))
                (last? j n (omega (arith, h)));
          };
        }

  laid : length e.columns ≡ length e.values → (n : ℕ) → Laid row e n (row_entries row n e)
  unfolding row_entries run nonzeros
  laid h zero = record {
    even = h;
    long = omega arith;
    stays = record { columns_stay = λ k u. refl; values_stay = λ k u. refl; longer = omega arith };
    its = record {
      column = λ k b u. absurd (omega arith);
      not_zero = λ k b u. absurd (omega arith);
      number = λ k b u. absurd (omega arith);
      rises = λ k b u. absurd (omega arith);
      every = λ j u. absurd (omega arith);
    };
  }
  laid h (suc n) = by_test (is_zero (row n))
      (λ t. subst (Laid row e (suc n)) (sym (lists_by row n e true t))
      (passes n (row_entries row n e) ((zero_decides (row n)).yes_so t) (count_by row n true t) (laid h n)))
      (λ t. subst (Laid row e (suc n)) (sym (lists_by row n e false t))
      (adds n (row_entries row n e) (no_so (zero_decides (row n)) t) (count_by row n false t) (laid h n)))

-- ---- row by row
record Rows (p : Plan) (i : ℕ) (e : Entries) : Type 0 where
  even : length e.columns ≡ length e.values
  long : length e.columns ≡ start_at p i
  each : (r : ℕ) → r < i → Row (a p r) p.cols (start_at p r) (start_at p (r + 1)) e
  up_to : (r : ℕ) → r < i → start_at p (r + 1) ≤ start_at p i

module _ (p : Plan) where
  start_next : (i : ℕ) → start_at p (i + 1) ≡ start_at p i + nonzeros (a p i) p.cols
  unfolding start_at run
  start_next i = ap (λ (k : ℕ). run (λ r s. s + nonzeros (a p r) p.cols) k 0) (add-one i)

  rows : (i : ℕ) → Rows p i (entries_to p i)
  unfolding entries_to run start_at
  rows zero = record {
    even = refl;
    long = refl;
    each = λ r h. absurd (omega arith);
    up_to = λ r h. absurd (omega arith);
  }
  rows (suc i) = next (rows i)
    where
      next : Rows p i (entries_to p i) → Rows p (suc i) (row_entries (a p i) p.cols (entries_to p i))
      next b =
          let l = laid (a p i) (entries_to p i) b.even p.cols in
          let q : start_at p (suc i) ≡ start_at p (i + 1) = ap (start_at p) (sym (add-one i)) in
          let w : length (row_entries (a p i) p.cols (entries_to p i)).columns ≡ start_at p (i + 1) =
          l.long ∙ ap (λ (k : ℕ). k + nonzeros (a p i) p.cols) b.long ∙ sym (start_next i) in
          record {
            even = l.even;
            long = w ∙ sym q;
            each = λ r h. ⊎_elim
                (λ u. row_stays (omega (arith, b.up_to r u, b.long)) l.stays (b.each r u))
                (λ (u : r ≡ i).
                subst (λ (k : ℕ). Row (a p k) p.cols (start_at p k) (start_at p (k + 1))
                (row_entries (a p i) p.cols (entries_to p i))) (sym u)
                (subst (λ (k : ℕ). Row (a p i) p.cols k (start_at p (i + 1))
                (row_entries (a p i) p.cols (entries_to p i))) b.long
                (subst (λ (k : ℕ). Row (a p i) p.cols (length (entries_to p i).columns) k
                (row_entries (a p i) p.cols (entries_to p i))) w l.its)))
                (last? r i (omega (arith, h)));
            up_to = λ r h. ⊎_elim (λ u. omega (arith, b.up_to r u, q, start_next i))
                (λ (u : r ≡ i). rw u (omega (arith, q))) (last? r i (omega (arith, h)));
          }

-- ---- the plan
bound_there : (x : Float) (m : ℕ) (z : ℤ) → m ≡ 1 → bound_or x m z ≡ as_double z
bound_there x m z e = ap (λ (b : Bool). elim b [ true ↦ as_double z | false ↦ x ]) (eq-eqb m 1 e)

bound_absent : (x : Float) (m : ℕ) (z : ℤ) → ¬ (m ≡ 1) → bound_or x m z ≡ x
bound_absent x m z h = ap (λ (b : Bool). elim b [ true ↦ as_double z | false ↦ x ]) (ne_eqb m 1 h)

module _ (budget : ℕ) (tolerance : Float) (s : Sheet) (o : opening s ≡ 0) where
  abbrev p : Plan
  p = s.plan

  same : SameNumbers p
  same = same_numbers s o

  abbrev q : Rules.Plan
  q = doubles_plan budget tolerance p

  abbrev e : Entries
  e = entries_to p p.rows

  start_at_holds : (i : ℕ) → i < p.rows + 1 → q.starts # i ≡ start_at p i
  unfolding doubles_plan
  start_at_holds i h = over_at (p.rows + 1) (start_at p) (replicate (max_rows + 1) 0) 0 i h

  column_at_holds : (k : ℕ) → k < length e.columns → q.cols # k ≡ e.columns # k
  unfolding doubles_plan
  column_at_holds k h = get_or-append e.columns _ 0 k h

  value_at : (k : ℕ) → k < length e.columns → q.coeffs ! k ≡ e.values ! k
  unfolding doubles_plan
  value_at k h = get_or-append e.values _ nan k (rw (← (rows p p.rows).even) h)

  module _ (i : ℕ) (h : i < p.rows) where
    its : Row (a p i) p.cols (start_at p i) (start_at p (i + 1)) e
    its = (rows p p.rows).each i h

    within : (k : ℕ) → k < start_at p (i + 1) → k < length e.columns
    within k u = omega (arith, u, (rows p p.rows).up_to i h, (rows p p.rows).long)

    entry_of : (k : ℕ) → q.starts # i ≤ k → k < q.starts # (i + 1) → EntryOf p q i k
    entry_of k b u =
        let b' : start_at p i ≤ k = omega (arith, b, start_at_holds i (omega arith)) in
        let u' : k < start_at p (i + 1) = omega (arith, u, start_at_holds (i + 1) (omega arith)) in
        let z = column_at_holds k (within k u') in
        let j = its.column k b' u' in
        record {
          column = rw z j;
          not_zero = rw z (its.not_zero k b' u');
          number = rw (z, value_at k (within k u'), its.number k b' u')
              (same.coefs_same i (e.columns # k) h j);
        }

    rises_at_holds : (k : ℕ) → q.starts # i ≤ k → k + 1 < q.starts # (i + 1) → q.cols # k < q.cols # (k + 1)
    rises_at_holds k b u =
        let u' : k + 1 < start_at p (i + 1) = omega (arith, u, start_at_holds (i + 1) (omega arith)) in
        rw (column_at_holds k (within k (omega arith)), column_at_holds (k + 1) (within (k + 1) u'))
        (its.rises k (omega (arith, b, start_at_holds i (omega arith))) u')

    entry_for : (j : ℕ) → j < p.cols → ¬ (a p i j ≡ pos 0)
        → (k : ℕ) × (q.starts # i ≤ k) × (k < q.starts # (i + 1)) × (q.cols # k ≡ j)
    entry_for j g z =
        let x = its.every j g z in (
          x.0,
          omega (arith, x.1, start_at_holds i (omega arith)),
          omega (arith, x.2, start_at_holds (i + 1) (omega arith)),
          column_at_holds x.0 (within x.0 x.2) ∙ x.3,
        )

  pub handed_over : HandedOver p q
  unfolding doubles_plan
  handed_over = record {
    columns = refl;
    rows = refl;
    costs = λ j h. rw (over_at p.cols (λ j. as_double (c p j)) (replicate max_columns f0) nan j h)
        (same.costs_same j h);
    lowers = λ j h m. rw (lower_at j h ∙ bound_there -inf (lower_mark p j) (lower p j) m)
        (same.lowers_same j h);
    no_lower = λ j h m. lower_at j h ∙ bound_absent -inf (lower_mark p j) (lower p j) m;
    uppers = λ j h m. rw (upper_at j h ∙ bound_there +inf (upper_mark p j) (upper p j) m)
        (same.uppers_same j h);
    no_upper = λ j h m. upper_at j h ∙ bound_absent +inf (upper_mark p j) (upper p j) m;
    rights = λ i h. rw (over_at p.rows (λ i. as_double (rhs p i)) (replicate max_rows f0) nan i h)
        (same.rhs_same i h);
    comparisons = refl;
    entry = λ i k h. entry_of i h k;
    rises = λ i k h. rises_at_holds i h k;
    every = λ i j h. entry_for i h j;
  }
    where
      lower_at : (j : ℕ) → j < p.cols → q.lowers ! j ≡ bound_or -inf (lower_mark p j) (lower p j)
      lower_at j h = over_at p.cols (λ j. bound_or -inf (lower_mark p j) (lower p j)) (replicate max_columns f0) nan j h

      upper_at : (j : ℕ) → j < p.cols → q.uppers ! j ≡ bound_or +inf (upper_mark p j) (upper p j)
      upper_at j h = over_at p.cols (λ j. bound_or +inf (upper_mark p j) (upper p j)) (replicate max_columns f0) nan j h
