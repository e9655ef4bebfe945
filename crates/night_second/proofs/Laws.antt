-- Cells written one behind another, and each answer of the tests. No contract cites this file. Assumes nothing.
use mathlib.Core.Path.{◌≡◌, refl, sym, ap, ◌∙◌}
use mathlib.Core.Bool.{true, false}
use mathlib.Core.List.{List, [], ◌++◌, append_assoc}
use Prim.Native.Nat.{ℕ, ◌+◌, ◌*◌, ◌<◌, ◌≤◌}
use native.Mathlib.Nat.{mul-le-mul}
use native.Mathlib.Omega.{arith}
use lib.ListN.{length, take, drop, length-append}
use lib.Seq.{length-take-le, take_at, drop_at, drop-drop}
use lib.IntN.{ℤ, nat_abs}
use borrow.Author.Tests.{lt-ltb, le-ltb, le-leb, lt-leb, eq-eqb, ne_eqb}
use Rattle.doubles.specs.Limits.{max_rows, max_columns, max_entries, max_right_side}
use Rattle.doubles.specs.Loop.{run}
use Rattle.doubles.proofs.Loops.{run_same}
use Rattle.lu_packed.specs.Written.{written}
use Rattle.sheet_rules.specs.Sum.{◌‼◌}
use Rattle.sheet_rules.specs.Sheet.{Plan, c}
use Rattle.night_rules.specs.Doubles.{count_cell, nonzeros, start_at, entry_count}
use Rattle.night_rules.specs.Night.{shows_gap, entries_after, first_beyond, tests_after}
use Rattle.night_rules.specs.declared.Stage.{Stage}
use Rattle.night_rules.specs.declared.NightAnswer.TheVariants.{NoGap, RowsFull, EntriesFull, CostBeyond, FoundBeyond}
use Rattle.std.specs.Prelude.{Some, None}
use Rattle.night_doubles.proofs.Laws.{nonzeros_few, start_few}
use Rattle.night_second.specs.Costed.{costed}

module _ {A : Type 0} (a : ℕ) (xs ys d : List A) (fits : a + length xs ≤ length d) where
  head : length (take a d ++ xs) ≡ a + length xs
  head = simp length-append (omega (arith, length-take-le a d (omega arith)))

  -- ys written behind xs
  pub written_behind : written (a + length xs) ys (written a xs d) ≡ written a (xs ++ ys) d
  written_behind =
      let h = take a d ++ xs in
      let r = drop (a + length xs) d in
      let n = length ys in
      let e : a + length xs + n ≡ a + length (xs ++ ys) = simp length-append (omega arith) in
      ap (λ (t : List A). t ++ ys ++ drop (a + length xs + n) (h ++ r)) (take_at h r (a + length xs) head)
      ∙ ap (λ (t : List A). h ++ ys ++ t)
      (sym (drop-drop n (a + length xs) (h ++ r)) ∙ ap (drop n) (drop_at h r (a + length xs) head)
      ∙ drop-drop n (a + length xs) d ∙ ap (λ (k : ℕ). drop k d) e)
      ∙ ap (λ (t : List A). t ++ drop (a + length (xs ++ ys)) d) (append_assoc (take a d) xs ys)

  -- as two calls leave it
  pub written_after : (b : ℕ) → b ≡ a + length xs → {k l : List A} → k ≡ written a xs d → l ≡ written b ys k
      → l ≡ written a (xs ++ ys) d
  written_after b e p q =
      q ∙ ap (λ (t : List A). written b ys t) p ∙ ap (λ (n : ℕ). written n ys (written a xs d)) e ∙ written_behind

-- one row more has its place among the coefficients
pub cells_fit : (m n : ℕ) → m < max_rows → n ≤ max_columns → m * n + n ≤ max_rows * max_columns
cells_fit m n h k = let l : m + 1 ≤ max_rows = omega arith in omega (arith, mul-le-mul l k)

-- ---- the tests, in their order
module _ (f : Stage) (p : Plan) (z : ℤ) where
  pub no_gap : shows_gap f.audit ≡ false → Some (NoGap f) ≡ tests_after f p z
  unfolding tests_after
  no_gap h = rw (h, tests_after)

  module _ (g : shows_gap f.audit ≡ true) where
    pub rows_full : max_rows ≤ p.rows → Some (RowsFull f) ≡ tests_after f p z
    unfolding tests_after
    rows_full h = rw (g, le-ltb p.rows max_rows h, tests_after)

    module _ (r : p.rows < max_rows) where
      pub entries_full : max_entries < entries_after p → Some (EntriesFull f) ≡ tests_after f p z
      unfolding tests_after
      entries_full h = rw (g, lt-ltb p.rows max_rows r, lt-leb (entries_after p) max_entries h, tests_after)

      module _ (e : entries_after p ≤ max_entries) where
        pub cost_beyond : (j : ℕ) → j ≡ first_beyond p → ¬ (j ≡ p.cols) → Some (CostBeyond f j) ≡ tests_after f p z
        unfolding tests_after
        cost_beyond j q h =
            ap (λ (k : ℕ). Some (CostBeyond f k)) q
            ∙ rw (
              g,
              lt-ltb p.rows max_rows r,
              le-leb (entries_after p) max_entries e,
              ne_eqb (first_beyond p) p.cols (λ (t : first_beyond p ≡ p.cols). h (q ∙ t)),
              tests_after,
            )

        module _ (b : first_beyond p ≡ p.cols) where
          pub found_beyond : max_right_side < nat_abs z → Some (FoundBeyond f) ≡ tests_after f p z
          unfolding tests_after
          found_beyond h =
              rw (
                g,
                lt-ltb p.rows max_rows r,
                le-leb (entries_after p) max_entries e,
                eq-eqb (first_beyond p) p.cols b,
                lt-leb (nat_abs z) max_right_side h,
                tests_after,
              )

          pub goes_on : nat_abs z ≤ max_right_side → None ≡ tests_after f p z
          unfolding tests_after
          goes_on h =
              rw (
                g,
                lt-ltb p.rows max_rows r,
                le-leb (entries_after p) max_entries e,
                eq-eqb (first_beyond p) p.cols b,
                le-leb (nat_abs z) max_right_side h,
                tests_after,
              )

-- ---- what the tests read
module _ (m n : ℕ) (co cs : List ℤ) where
  pub same_beyond : first_beyond (costed 0 n [] cs) ≡ first_beyond (costed m n co cs)
  unfolding first_beyond
  same_beyond = refl

  -- the costs counted as a plan of one row
  one_row_holds : entry_count (costed 1 n cs []) ≡ nonzeros (c (costed m n co cs)) n
  unfolding entry_count start_at nonzeros run
  one_row_holds =
      let z : 0 + nonzeros (λ j. cs ‼ (0 * n + j)) n ≡ nonzeros (λ j. cs ‼ (0 * n + j)) n = omega arith in
      z ∙ run_same (λ j k. count_cell (cs ‼ (0 * n + j)) k) (λ j k. count_cell (cs ‼ j) k) n
      (λ j k h. let q : 0 * n + j ≡ j = omega arith in ap (λ (i : ℕ). count_cell (cs ‼ i) k) q) 0

  pub entries_are : {u w : ℕ} → u ≡ entry_count (costed m n co []) → w ≡ entry_count (costed 1 n cs [])
      → u + w ≡ entries_after (costed m n co cs)
  unfolding entries_after entry_count start_at
  entries_are p q = rw (p, q ∙ one_row_holds)

-- no row has more entries than columns
pub entries_most : (p : Plan) → p.rows ≤ max_rows → p.cols ≤ max_columns → entries_after p ≤ (max_rows + 1) * max_columns
unfolding entries_after entry_count
entries_most p h k =
    omega (arith, start_few p p.rows, nonzeros_few (c p) p.cols, mul-le-mul h k)
