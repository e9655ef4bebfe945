-- Passing 1 to 3 gives a plan that fits, and its kept rows with it. Assumes nothing.
use mathlib.Core.Path.{◌≡◌, refl, ◌∙◌}
use mathlib.Core.Bool.{Bool, true, false, ◌&&◌, ◌||◌}
use mathlib.Core.List.{List, [], ◌∷◌, ◌++◌}
use Prim.Native.Nat.{ℕ, zero, suc, ◌+◌, ◌-◌, ◌<◌, ◌≤◌}
use native.Mathlib.Nat.{le_refl}
use native.Mathlib.Omega.{arith}
use lib.Dec.{leb, ltb}
use lib.ListN.{length, get_or-append}
use lib.Seq.{get_or-append_seam}
use borrow.Author.Tests.{leb-true, leb-false, eqb-true, eqb-false, ltb-false, lt-ltb}
use lib.Ieee.{le}
use Rattle.doubles.specs.Num.{f0, f1, finite}
use Rattle.doubles.specs.Limits.{max_columns, max_rows, max_entries, max_budget}
use Rattle.doubles.specs.Lists.{◌!◌, ◌#◌}
use Rattle.rules.proofs.Lists.{below_or_at, part_long, length_snoc, snoc_at}
use Rattle.doubles.proofs.Tests.{not_both}
use Rattle.doubles.proofs.Loops.{both_true, all_at, keeps, first_means}
use Rattle.rules.specs.Plan.{Plan, Memory, problem_of, kept_rows, kept_turn, is_empty, row_cols}
use Rattle.rules.specs.Refusals.{sizes_fit, plan_long, starts_rise, memory_long, workspace_long, store_is_long, passes1, passes2, is_number, is_lower, is_upper, is_op, is_tolerance, bad_at, has_bad, first_bad_in, first_bad_row}
use Rattle.rules.specs.Invariant.{PlanFits, ProblemFits, MemoryFits, Lengths}
use Rattle.rules.proofs.Numbers.{number_exactly}

-- ---- what each test says

or_left : (a b : Bool) → a || b ≡ false → a ≡ false
or_left false b e = refl
or_left true b e = e

or_right : (a b : Bool) → a || b ≡ false → b ≡ false
or_right false b e = e
or_right true b e = cc

and_false : (a b : Bool) → a ≡ true → a && b ≡ false → b ≡ false
and_false a b e f = rw e at f

module _ (p : Plan) where
  record Sizes : Type 0 where
    columns_most : p.columns ≤ max_columns
    rows_most : p.rows ≤ max_rows
    entries_most : p.entries ≤ max_entries
    budget_most : p.budget ≤ max_budget

  sizes : sizes_fit p ≡ true → Sizes
  unfolding sizes_fit
  sizes e =
      let b = both_true _ _ e in
      let r = both_true _ _ b.0 in
      let c = both_true _ _ r.0 in
      record { columns_most = leb-true _ _ c.0; rows_most = leb-true _ _ c.1; entries_most = leb-true _ _ r.1; budget_most = leb-true _ _ b.1 }

  pub record Arrays : Type 0 where
    pub costs_long : p.columns ≤ length p.costs
    pub lowers_long : p.columns ≤ length p.lowers
    pub uppers_long : p.columns ≤ length p.uppers
    pub starts_long : p.rows + 1 ≤ length p.starts
    pub cols_long : p.entries ≤ length p.cols
    pub coeffs_long : p.entries ≤ length p.coeffs
    pub ops_long : p.rows ≤ length p.ops
    pub rhs_long : p.rows ≤ length p.rhs

  pub arrays : plan_long p ≡ true → Arrays
  unfolding plan_long
  arrays e =
      let h = both_true _ _ e in
      let g = both_true _ _ h.0 in
      let f = both_true _ _ g.0 in
      let d = both_true _ _ f.0 in
      let c = both_true _ _ d.0 in
      let b = both_true _ _ c.0 in
      let a = both_true _ _ b.0 in
      record {
        costs_long = leb-true _ _ a.0;
        lowers_long = leb-true _ _ a.1;
        uppers_long = leb-true _ _ b.1;
        starts_long = leb-true _ _ c.1;
        cols_long = leb-true _ _ d.1;
        coeffs_long = leb-true _ _ f.1;
        ops_long = leb-true _ _ g.1;
        rhs_long = leb-true _ _ h.1;
      }

  pub record Rising : Type 0 where
    pub begins : p.starts # 0 ≡ 0
    pub stops : p.starts # p.rows ≡ p.entries
    pub rises : (i : ℕ) → i < p.rows → p.starts # i ≤ p.starts # (i + 1)

  pub rising : starts_rise p ≡ true → Rising
  unfolding starts_rise
  rising e =
      let b = both_true _ _ e in
      let a = both_true _ _ b.0 in
      record {
        begins = eqb-true _ _ a.0;
        stops = eqb-true _ _ b.1;
        rises = λ i h. leb-true _ _ (all_at (λ r. leb (p.starts # r) (p.starts # (r + 1))) p.rows a.1 i h);
      }

  pub record Contents : Type 0 where
    pub cost : (j : ℕ) → j < p.columns → is_number (p.costs ! j) ≡ true
    pub lower : (j : ℕ) → j < p.columns → is_lower (p.lowers ! j) ≡ true
    pub upper : (j : ℕ) → j < p.columns → is_upper (p.uppers ! j) ≡ true
    pub coeff : (k : ℕ) → k < p.entries → is_number (p.coeffs ! k) ≡ true
    pub op : (i : ℕ) → i < p.rows → is_op (p.ops # i) ≡ true
    pub right : (i : ℕ) → i < p.rows → is_number (p.rhs ! i) ≡ true
    pub tolerance : is_tolerance p.tolerance ≡ true

  pub contents : passes2 p ≡ true → Contents
  unfolding passes2
  contents e =
      let f = both_true _ _ e in
      let g = both_true _ _ f.0 in
      let d = both_true _ _ g.0 in
      let c = both_true _ _ d.0 in
      let b = both_true _ _ c.0 in
      let a = both_true _ _ b.0 in
      record {
        cost = all_at (λ j. is_number (p.costs ! j)) p.columns a.0;
        lower = all_at (λ j. is_lower (p.lowers ! j)) p.columns a.1;
        upper = all_at (λ j. is_upper (p.uppers ! j)) p.columns b.1;
        coeff = all_at (λ k. is_number (p.coeffs ! k)) p.entries c.1;
        op = all_at (λ i. is_op (p.ops # i)) p.rows d.1;
        right = all_at (λ i. is_number (p.rhs ! i)) p.rows g.1;
        tolerance = f.1;
      }

  pub tolerance_fits : passes2 p ≡ true → (le f0 p.tolerance ≡ true) × (le p.tolerance f1 ≡ true)
  tolerance_fits e = both_true _ _ (contents e).tolerance

  pub cost_finite : passes2 p ≡ true → (j : ℕ) → j < p.columns → finite (p.costs ! j) ≡ true
  cost_finite two j h = ((number_exactly _).0 ((contents two).cost j h)).is_finite

  -- no start is past the entry count
  pub ends : Rising → (k i : ℕ) → i + k ≡ p.rows → p.starts # i ≤ p.entries
  ends r zero i e = let q : i ≡ p.rows = omega arith in rw q (omega (arith, r.stops))
  ends r (suc k) i e = omega (arith, r.rises i (omega arith), ends r k (i + 1) (omega arith))

  -- no entry of a row is bad
  module _ (i : ℕ) (h : i < p.rows) (e : first_bad_row p ≡ p.rows) where
    no_bad : (k : ℕ) → k < length (row_cols p i) → bad_at p.columns (row_cols p i) k ≡ false
    unfolding first_bad_row
    no_bad k l =
        let row : has_bad p i ≡ false = (first_means (has_bad p) p.rows).before i (omega arith) (omega arith) in
        (first_means (bad_at p.columns (row_cols p i)) (length (row_cols p i))).before k (omega arith)
        (omega (arith, ltb-false (first_bad_in p i) (length (row_cols p i)) row))

    col_below : (k : ℕ) → k < length (row_cols p i) → row_cols p i # k < p.columns
    unfolding bad_at
    col_below k l = leb-false p.columns (row_cols p i # k) (or_left _ _ (no_bad k l))

    col_above : (k : ℕ) → k + 1 < length (row_cols p i) → row_cols p i # k < row_cols p i # (k + 1)
    unfolding bad_at
    col_above k l =
        let q : k + 1 - 1 ≡ k = omega arith in
        let up : leb (row_cols p i # (k + 1)) (row_cols p i # (k + 1 - 1)) ≡ false =
        and_false (ltb 0 (k + 1)) _ (lt-ltb 0 (k + 1) (omega arith)) (or_right (leb p.columns (row_cols p i # (k + 1))) _ (no_bad (k + 1) l)) in
        leb-false (row_cols p i # (k + 1)) (row_cols p i # k) (rw q at up)

  -- ---- the plan
  module _ (m : Memory) (one : passes1 p m ≡ true) where
    record Passed1 : Type 0 where
      sizes_pass : Sizes
      arrays_pass : Arrays
      memory_pass : memory_long p m ≡ true
      rising_pass : Rising

    passed1 : Passed1
    unfolding passes1
    passed1 =
        let c = both_true _ _ one in
        let b = both_true _ _ c.0 in
        let a = both_true _ _ b.0 in
        record { sizes_pass = sizes a.0; arrays_pass = arrays a.1; memory_pass = b.1; rising_pass = rising c.1 }

    pub memory_fits : MemoryFits p m
    unfolding memory_long workspace_long store_is_long
    memory_fits =
        let g = both_true _ _ passed1.memory_pass in
        let f = both_true _ _ g.0 in
        let e = both_true _ _ f.0 in
        let d = both_true _ _ e.0 in
        let c = both_true _ _ d.0 in
        let b = both_true _ _ c.0 in
        let w = both_true _ _ c.1 in
        let w9 = both_true _ _ w.0 in
        let w8 = both_true _ _ w9.0 in
        let w7 = both_true _ _ w8.0 in
        let w6 = both_true _ _ w7.0 in
        let w5 = both_true _ _ w6.0 in
        let w4 = both_true _ _ w5.0 in
        let w3 = both_true _ _ w4.0 in
        let w2 = both_true _ _ w3.0 in
        let h4 = both_true _ _ w.1 in
        let h3 = both_true _ _ h4.0 in
        let h2 = both_true _ _ h3.0 in
        record {
          values_long = leb-true _ _ b.0;
          kept_long = leb-true _ _ b.1;
          counts_long = leb-true _ _ d.1;
          objective_long = leb-true _ _ e.1;
          basic_vars_long = leb-true _ _ w2.0;
          basic_var_vals_long = leb-true _ _ w2.1;
          nb_vars_long = leb-true _ _ w3.1;
          nb_var_vals_long = leb-true _ _ w4.1;
          prices_long = leb-true _ _ w5.1;
          norms_long = leb-true _ _ w6.1;
          dual_norms_long = leb-true _ _ w7.1;
          flags_long = leb-true _ _ w8.1;
          var_states_long = leb-true _ _ w9.1;
          leaving_long = leb-true _ _ h2.0;
          starts_long = leb-true _ _ h2.1;
          rows_long = leb-true _ _ h3.1;
          coeffs_long = leb-true _ _ h4.1;
          factor_numbers_long = leb-true _ _ f.1;
          factor_coeffs_long = leb-true _ _ g.1;
        }

    pub plan_fits : passes2 p ≡ true → first_bad_row p ≡ p.rows → PlanFits p
    plan_fits two three =
        let s = passed1.sizes_pass in
        let a = passed1.arrays_pass in
        let u = passed1.rising_pass in
        record {
          columns_most = s.columns_most;
          rows_most = s.rows_most;
          entries_most = s.entries_most;
          budget_most = s.budget_most;
          costs_long = a.costs_long;
          lowers_long = a.lowers_long;
          uppers_long = a.uppers_long;
          starts_long = a.starts_long;
          cols_long = a.cols_long;
          coeffs_long = a.coeffs_long;
          ops_long = a.ops_long;
          rhs_long = a.rhs_long;
          begins = u.begins;
          stops = u.stops;
          row = λ i h.
              let last = ends u (p.rows - (i + 1)) (i + 1) (omega arith) in
              record {
                rises = u.rises i h;
                ends = last;
                op = leb-true (p.ops # i) 2 ((contents two).op i h);
                long = part_long (p.starts # i) (p.starts # (i + 1)) p.cols (omega (arith, a.cols_long));
                col = col_below i h three;
                col_rises = col_above i h three;
              };
        }

-- ---- the kept rows

-- the rows kept of the first k
record Kept (p : Plan) (k : ℕ) (ks : List ℕ) : Type 0 where
  few : length ks ≤ k
  inside : (r : ℕ) → r < length ks → ks # r < k
  filled : (r : ℕ) → r < length ks → p.starts # (ks # r) < p.starts # (ks # r + 1)
  rises : (q r : ℕ) → q < r → r < length ks → ks # q < ks # r
  every : (i : ℕ) → i < k → is_empty p i ≡ false → (r : ℕ) × (r < length ks) × (ks # r ≡ i)

module _ (p : Plan) (f : PlanFits p) where
  kept_one : (k : ℕ) (ks : List ℕ) → k < p.rows → Kept p k ks → is_empty p k ≡ false → Kept p (k + 1) (ks ++ (k ∷ []))
  kept_one k ks h g e =
      let new : p.starts # k < p.starts # (k + 1) = omega (arith, f.row k h, eqb-false (p.starts # k) (p.starts # (k + 1)) e) in
      record {
        few = omega (arith, g.few, length_snoc ks k);
        inside = snoc_at (λ r x. x < k + 1) ks k 0 (λ r l. omega (arith, g.inside r l)) (omega arith);
        filled = snoc_at (λ r x. p.starts # x < p.starts # (x + 1)) ks k 0 g.filled new;
        rises = λ q r l j.
            snoc_at (λ r x. q < r → (ks ++ (k ∷ [])) # q < x) ks k 0
            (λ r h' l'. let t : q < length ks = omega arith in rw (get_or-append ks (k ∷ []) 0 q t) (g.rises q r l' h'))
            (λ l'. rw (get_or-append ks (k ∷ []) 0 q l') (g.inside q l')) r j l;
        every = below_or_at (λ i. is_empty p i ≡ false → (r : ℕ) × (r < length (ks ++ (k ∷ []))) × ((ks ++ (k ∷ [])) # r ≡ i)) k
            (λ i l f. let o = g.every i l f in (o.0, omega (arith, o.1, length_snoc ks k), get_or-append ks (k ∷ []) 0 o.0 o.1 ∙ o.2))
            (λ f. (length ks, omega (arith, length_snoc ks k), get_or-append_seam ks k [] 0));
      }

  kept_turn_holds : (k : ℕ) (ks : List ℕ) → k < p.rows → Kept p k ks → Kept p (k + 1) (kept_turn p k ks)
  kept_turn_holds k ks h g = go (is_empty p k) refl
    where
      go : (b : Bool) → is_empty p k ≡ b → Kept p (k + 1) (kept_turn p k ks)
      go true e =
          rw (e, kept_turn) (record {
            few = omega (arith, g.few);
            inside = λ r l. omega (arith, g.inside r l);
            filled = g.filled;
            rises = g.rises;
            every = below_or_at (λ i. is_empty p i ≡ false → (r : ℕ) × (r < length ks) × (ks # r ≡ i)) k g.every (λ f. absurd (not_both e f));
          })
      go false e = rw (e, kept_turn) (kept_one k ks h g e)

  kept_all : Kept p p.rows (kept_rows p)
  unfolding kept_rows
  kept_all =
      keeps (kept_turn p) [] (Kept p) p.rows kept_turn_holds
      (record { few = omega arith; inside = λ r l. absurd (omega arith); filled = λ r l. absurd (omega arith); rises = λ q r l j. absurd (omega arith); every = λ i l. absurd (omega arith) })
      p.rows (le_refl p.rows)

  pub problem_fits : ProblemFits (problem_of p)
  problem_fits =
      record {
        plan = f;
        few = kept_all.few;
        kept = λ r h. record { inside = kept_all.inside r h; filled = kept_all.filled r h };
        kept_rises = kept_all.rises;
      }

  -- 01: "Empty true rows are dropped": and no others are
  pub kept_every : (i : ℕ) → i < p.rows → is_empty p i ≡ false → (r : ℕ) × (r < length (kept_rows p)) × (kept_rows p # r ≡ i)
  kept_every = kept_all.every

-- what was lent fits the problem
pub lent_long : (p : Plan) (m : Memory) → MemoryFits p m → ProblemFits (problem_of p) → Lengths (problem_of p) m.ws
lent_long p m f g = let k = g.few in omega (arith, f)
