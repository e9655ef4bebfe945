-- Counts of the coefficients that aren't 0, and one more entry behind the others. Assumes nothing.
use Rattle.std.proofs.Common.{◌≡◌, ℕ, zero, suc, ◌+◌, ◌-◌, ◌*◌, ◌<◌, ◌≤◌, Bool, true, false, List, [], ◌∷◌, ◌++◌, length, get_or, drop, set, replicate, ℤ, sym, refl, ap, ◌∙◌, suc-mul, add-one, arith, length-append, drop-cons, eq-eqb, ne_eqb}
use lib.ListN.{length-replicate}
use lib.Seq.{set_at, append_snoc}
use lib.Ieee.{Float}
use Rattle.doubles.specs.Num.{f0, +inf, -inf}
use Rattle.doubles.specs.Limits.{max_rows, max_columns, max_entries}
use Rattle.doubles.specs.Lists.{◌#◌, over}
use Rattle.doubles.specs.Loop.{run, table}
use Rattle.doubles.proofs.Loops.{run_same}
use Rattle.sheet_rules.specs.Sum.{◌‼◌}
use Rattle.sheet_rules.specs.Sheet.{Plan, plan_of, a}
use Rattle.sheet_rules.specs.Verdict.{is_zero}
use Rattle.sheet_rules.proofs.Fronts.{over_length}
use Rattle.rules.proofs.Lists.{over_long}
use Rattle.sheet_open.proofs.Laws.{cut, cut_long, cut_at}
use Rattle.night_rules.specs.Doubles.{as_double, bound_or, count_cell, entry_cell, nonzeros, Entries, entries_of, row_entries}
use Rattle.night_rules.specs.Doubles.{start_at, entries_to, entry_count, doubles_plan}
use Rattle.night_doubles.specs.Laid.{cells_of, Blank, Laid, RowLaid}
use Rattle.night_doubles.specs.Converted.{Converts, Zeroed, Long, converted}

-- ---- bounds
module _ (absent : Float) (mark : ℕ) (z : ℤ) where
  abbrev bound : Bool → Float
  bound b = elim b [ true ↦ as_double z | false ↦ absent ]

  pub bound_there : mark ≡ 1 → as_double z ≡ bound_or absent mark z
  bound_there h = ap bound (sym (eq-eqb mark 1 h))

  pub bound_absent : (mark ≡ 1 → ⊥) → absent ≡ bound_or absent mark z
  bound_absent h = ap bound (sym (ne_eqb mark 1 h))

-- ---- counts
pub one_more : (z : ℤ) (k : ℕ) → (k ≤ count_cell z k) × (count_cell z k ≤ k + 1)
one_more z k = go (is_zero z)
  where
    go : (b : Bool) → (k ≤ elim b [ true ↦ k | false ↦ k + 1 ]) × (elim b [ true ↦ k | false ↦ k + 1 ] ≤ k + 1)
    go true = (omega arith, omega arith)
    go false = (omega arith, omega arith)

module _ (row : ℕ → ℤ) where
  pub nonzeros_few : (n : ℕ) → nonzeros row n ≤ n
  unfolding nonzeros run
  nonzeros_few zero = omega arith
  nonzeros_few (suc n) = omega (arith, nonzeros_few n, (one_more (row n) (nonzeros row n)).1)

  pub nonzeros_grow : (d n : ℕ) → nonzeros row n ≤ nonzeros row (n + d)
  unfolding nonzeros run
  nonzeros_grow zero n = let e : n + 0 ≡ n = omega arith in rw e (omega arith)
  nonzeros_grow (suc d) n = let e : n + suc d ≡ suc (n + d) = omega arith in
      rw e (omega (arith, nonzeros_grow d n, (one_more (row (n + d)) (nonzeros row (n + d))).0))

pub nonzeros_upto : (row : ℕ → ℤ) (k n : ℕ) → k ≤ n → nonzeros row k ≤ nonzeros row n
nonzeros_upto row k n h = let e : n ≡ k + (n - k) = omega arith in rw e (nonzeros_grow row (n - k) k)

-- one cell on
pub count_next : (row : ℕ → ℤ) (n : ℕ) → nonzeros row (n + 1) ≡ count_cell (row n) (nonzeros row n)
unfolding nonzeros run
count_next row n = rw add-one

pub count_one : (row : ℕ → ℤ) (n : ℕ) → is_zero (row n) ≡ false → nonzeros row (n + 1) ≡ nonzeros row n + 1
count_one row n h = count_next row n ∙ rw (h, count_cell)

pub count_none : (row : ℕ → ℤ) (n : ℕ) → is_zero (row n) ≡ true → nonzeros row (n + 1) ≡ nonzeros row n
count_none row n h = count_next row n ∙ rw (h, count_cell)

-- ---- one more entry behind the others
module _ {A : Type 0} (xs l : List A) (x : A) where
  over_snoc : length xs < length l → set (over xs l) (length xs) x ≡ over (xs ++ (x ∷ [])) l
  over_snoc h =
      ap (λ (t : List A). set (xs ++ t) (length xs) x) (drop-cons l (length xs) x h)
      ∙ set_at xs (get_or l (length xs) x) (drop (suc (length xs)) l) x (length xs) refl
      ∙ sym (ap (λ (k : ℕ). (xs ++ (x ∷ [])) ++ drop k l) (length-append xs (x ∷ []) ∙ add-one (length xs))
      ∙ append_snoc xs x (drop (suc (length xs)) l))

  -- the front xs of l is k long
  set_behind : (k : ℕ) (l' : List A) → k ≡ length xs → k < length l → l' ≡ over xs l → set l' k x
      ≡ over (xs ++ (x ∷ [])) l
  set_behind k l' e h q = ap (λ (t : List A). set t k x) q ∙ ap (λ (j : ℕ). set (over xs l) j x) e
      ∙ over_snoc (omega arith)

laid_more : (e : Entries) (k : ℕ) (l : List ℕ) (xs : List Float) (j : ℕ) (v : Float) → k < max_entries → Laid e k l xs
    → Laid (entries_of (e.columns ++ (j ∷ [])) (e.values ++ (v ∷ []))) (k + 1) (set l k j) (set xs k v)
laid_more e k l xs j v h r =
    record {
      columns_counted = omega (arith, r.columns_counted, length-append e.columns (j ∷ []));
      values_counted = omega (arith, r.values_counted, length-append e.values (v ∷ []));
      columns_laid =
          set_behind e.columns (replicate max_entries 0) j k l r.columns_counted
          (omega (arith, length-replicate {A = ℕ} max_entries 0)) r.columns_laid;
      values_laid =
          set_behind e.values (replicate max_entries f0) v k xs r.values_counted
          (omega (arith, length-replicate max_entries f0)) r.values_laid;
    }

module _ (row : ℕ → ℤ) (at : ℕ) (l : List ℕ) (xs : List Float) where
  pub row_begun : RowLaid row at l xs 0 at l xs
  unfolding nonzeros row_entries run
  row_begun = record { row_counted = omega arith; row_laid = λ e r. r }

  module _ (n k : ℕ) (l' : List ℕ) (xs' : List Float) (r : RowLaid row at l xs n k l' xs') where
    entry_next : (e : Entries) → row_entries row (n + 1) e ≡ entry_cell n (row n) (row_entries row n e)
    unfolding row_entries run
    entry_next e = rw add-one

    pub cell_passed : is_zero (row n) ≡ true → RowLaid row at l xs (n + 1) k l' xs'
    cell_passed h =
        record {
          row_counted = omega (arith, r.row_counted, count_none row n h);
          row_laid = λ e q. rw (entry_next e) (rw (h, entry_cell) (r.row_laid e q));
        }

    pub cell_laid : (v : Float) → is_zero (row n) ≡ false → k < max_entries → v ≡ as_double (row n)
        → RowLaid row at l xs (n + 1) (k + 1) (set l' k n) (set xs' k v)
    cell_laid v h g f =
        record {
          row_counted = omega (arith, r.row_counted, count_one row n h);
          row_laid = λ e q. rw (entry_next e) (rw (h, entry_cell, f)
              ((laid_more (row_entries row n e) k l' xs' n (as_double (row n)) g (r.row_laid e q))));
        }

-- ---- a row cut out of the coefficients
module _ (co : List ℤ) (m n i : ℕ) (h : i * n + n ≤ length co) where
  abbrev row_cut : ℕ → ℤ
  row_cut j = cut co (i * n) n ‼ j

  pub cut_count : nonzeros row_cut (length (cut co (i * n) n)) ≡ nonzeros (a (cells_of m n co) i) n
  unfolding nonzeros
  cut_count =
      ap (nonzeros row_cut) (cut_long co (i * n) n h)
      ∙ run_same (λ j k. count_cell (row_cut j) k) (λ j k. count_cell (a (cells_of m n co) i j) k) n
      (λ j k g. ap (λ (z : ℤ). count_cell z k) (cut_at co (i * n) n j g)) 0

  pub cut_entries : (e : Entries) → row_entries row_cut (length (cut co (i * n) n)) e
      ≡ row_entries (a (cells_of m n co) i) n e
  unfolding row_entries
  cut_entries e =
      ap (λ (k : ℕ). row_entries row_cut k e) (cut_long co (i * n) n h)
      ∙ run_same (λ j s. entry_cell j (row_cut j) s) (λ j s. entry_cell j (a (cells_of m n co) i j) s) n
      (λ j s g. ap (λ (z : ℤ). entry_cell j z s) (cut_at co (i * n) n j g)) e

-- ---- the rows
module _ (p : Plan) where
  pub start_next : (i : ℕ) → start_at p (i + 1) ≡ start_at p i + nonzeros (a p i) p.cols
  unfolding start_at run
  start_next i = rw add-one

  pub start_few : (i : ℕ) → start_at p i ≤ i * p.cols
  unfolding start_at run
  start_few zero = omega arith
  start_few (suc i) = omega (arith, start_few i, nonzeros_few (a p i) p.cols, suc-mul i p.cols)

  start_grow : (d i : ℕ) → start_at p i ≤ start_at p (i + d)
  unfolding start_at run
  start_grow zero i = let e : i + 0 ≡ i = omega arith in rw e (omega arith)
  start_grow (suc d) i = let e : i + suc d ≡ suc (i + d) = omega arith in rw e (omega (arith, start_grow d i))

  pub start_upto : (i k : ℕ) → i ≤ k → start_at p i ≤ start_at p k
  start_upto i k h = let e : k ≡ i + (k - i) = omega arith in rw e (start_grow (k - i) i)

  pub entries_next : (i : ℕ) → entries_to p (i + 1) ≡ row_entries (a p i) p.cols (entries_to p i)
  unfolding entries_to run
  entries_next i = rw add-one

-- a row more
module _ (co : List ℤ) (m n i : ℕ) (h : i * n + n ≤ length co) (at : ℕ) (l : List ℕ) (xs : List Float) (k : ℕ)
    (l' : List ℕ) (xs' : List Float)
    (r : RowLaid (row_cut co m n i h) at l xs (length (cut co (i * n) n)) k l' xs')
    (e : at ≡ start_at (cells_of m n co) i) where
  pub row_start : k ≡ start_at (cells_of m n co) (i + 1)
  row_start = omega (arith, e, r.row_counted, cut_count co m n i h, start_next (cells_of m n co) i)

  pub row_placed : Laid (entries_to (cells_of m n co) i) at l xs → Laid (entries_to (cells_of m n co) (i + 1)) k l' xs'
  row_placed q =
      rw (entries_next (cells_of m n co) i, ← cut_entries co m n i h (entries_to (cells_of m n co) i))
      (r.row_laid (entries_to (cells_of m n co) i) q)

pub none_laid : (m n : ℕ) (co : List ℤ) (l : List ℕ) (xs : List Float) → Blank l xs
    → Laid (entries_to (cells_of m n co) 0) 0 l xs
unfolding entries_to run
none_laid m n co l xs b =
    record {
      columns_counted = refl;
      values_counted = refl;
      columns_laid = b.columns_blank;
      values_laid = b.values_blank;
    }

-- ---- the whole plan
module _ (p : Plan) {c₀ l₀ u₀ r₀ c l u r : List Float} {s₀ s ks : List ℕ} {xs : List Float} {k₀ : List ℕ}
    {x₀ : List Float}
    (z : Zeroed c₀ l₀ u₀ s₀ k₀ x₀ r₀) {lo hi : Float} (low : lo ≡ -inf) (high : hi ≡ +inf)
    (costs_are : c ≡ over (table p.cols (λ j. as_double (p.costs ‼ j))) c₀)
    (lowers-are : l ≡ over (table p.cols (λ j. bound_or lo (p.lower_marks # j) (p.lowers ‼ j))) l₀)
    (uppers-are : u ≡ over (table p.cols (λ j. bound_or hi (p.upper_marks # j) (p.uppers ‼ j))) u₀)
    (starts-are : s ≡ over (table (p.rows + 1) (start_at (cells_of p.rows p.cols p.coefs))) s₀)
    (q : Laid (entries_to (cells_of p.rows p.cols p.coefs) p.rows)
    (entry_count (cells_of p.rows p.cols p.coefs)) ks xs)
    (rhs-are : r ≡ over (table p.rows (λ i. as_double (p.rhs ‼ i))) r₀) where
  pub converted_is : converted p.cols p.rows (entry_count (cells_of p.rows p.cols p.coefs)) c l u s ks xs r
      ≡ doubles_plan 0 f0 (plan_of p.rows p.cols p.coefs p.costs p.lowers p.uppers p.lower_marks
      p.upper_marks p.rhs [] [] [])
  unfolding doubles_plan entry_count start_at entries_to
  converted_is = λ i.
      converted p.cols p.rows (entry_count (cells_of p.rows p.cols p.coefs))
      ((rw z.costs_zero at costs_are) i)
      ((rw (low, z.lowers_zero) at lowers-are) i) ((rw (high, z.uppers_zero) at uppers-are) i)
      ((rw z.starts_zero at starts-are) i)
      (q.columns_laid i) (q.values_laid i) ((rw z.rhs_zero at rhs-are) i)

  -- what is written fits
  tabled : {A : Type 0} (n : ℕ) (f : ℕ → A) (k : List A) {g g₀ : List A} → g ≡ over (table n f) g₀ → g₀ ≡ k
      → n ≤ length k → length g ≡ length k
  tabled n f k e d h = ap length (rw d at e) ∙ over_long n f k h

  pub converted_long : Converts p → Long c l u ks xs r
  converted_long h =
      let e = entries_to (cells_of p.rows p.cols p.coefs) p.rows in
      record {
        costs_long = tabled p.cols (λ j. as_double (p.costs ‼ j)) (replicate max_columns f0) costs_are
            z.costs_zero h.cols_few;
        lowers_long = tabled p.cols (λ j. bound_or lo (p.lower_marks # j) (p.lowers ‼ j)) (replicate max_columns f0)
            lowers-are z.lowers_zero h.cols_few;
        uppers_long = tabled p.cols (λ j. bound_or hi (p.upper_marks # j) (p.uppers ‼ j)) (replicate max_columns f0)
            uppers-are z.uppers_zero h.cols_few;
        cols_long = ap length q.columns_laid ∙ over_length e.columns (replicate max_entries 0)
            (omega (arith, q.columns_counted, h.entries_few));
        coeffs_long = ap length q.values_laid ∙ over_length e.values (replicate max_entries f0)
            (omega (arith, q.values_counted, h.entries_few));
        rhs_long = tabled p.rows (λ i. as_double (p.rhs ‼ i)) (replicate max_rows f0) rhs-are z.rhs_zero
            h.rows_few;
      }
