-- The second stage's plan: the plan with one row more, "alarm cost at most what was found". Assumes nothing.
use mathlib.Core.Path.{◌≡◌, sym, ap, ap₂, ◌∙◌, subst}
use mathlib.Core.Logic.{◌↔◌, ⊎_elim}
use mathlib.Core.List.{List, [], ◌∷◌, ◌++◌}
use Prim.Native.Nat.{ℕ, ◌+◌, ◌*◌, ◌<◌, ◌≤◌}
use native.Mathlib.Numerals.{add-one}
use native.Mathlib.Omega.{arith}
use lib.ListN.{length, take, get_or, get_or-append}
use lib.Seq.{length-take-le, get_or-take, get_or-append-add, get_or_at}
use lib.IntN.{ℤ, pos, ◌*ℤ◌}
use lib.Signed.{◌≤ℤ◌}
use Rattle.doubles.specs.Loop.{run}
use Rattle.doubles.proofs.Bools.{last?}
use Rattle.doubles.proofs.Loops.{run_same}
use Rattle.sheet_rules.specs.Sum.{◌‼◌}
use Rattle.sheet_rules.specs.Sheet.{Plan, a, c, rhs, op, activity, cost}
use Rattle.sheet_rules.specs.Words.{Keeps}
use Rattle.sheet_rules.proofs.Sums.{sum_ext}
use Rattle.sheet_rules.proofs.Local.{place_in}
use Rattle.night_rules.specs.Doubles.{count_cell, nonzeros, start_at, entry_count}
use Rattle.night_rules.specs.Second.{second_plan}
use Rattle.night_rules.specs.Night.{entries_after}

-- the first k cells of xs, then y
module _ {A : Type 0} (k : ℕ) (xs : List A) (y d : A) (h : k ≤ length xs) where
  same_cell : (i : ℕ) → i < k → get_or (take k xs ++ (y ∷ [])) i d ≡ get_or xs i d
  same_cell i l =
      get_or-append (take k xs) (y ∷ []) d i (omega (arith, length-take-le k xs h)) ∙ get_or-take k xs i d l

  last_cell : get_or (take k xs ++ (y ∷ [])) k d ≡ y
  last_cell = get_or_at (take k xs) y [] d k (length-take-le k xs h)

module _ (p : Plan) (reports : List ℤ) (v : ℤ) (coefs_long : p.rows * p.cols ≤ length p.coefs)
    (rhs_long : p.rows ≤ length p.rhs) (ops_long : p.rows ≤ length p.ops) where
  abbrev q : Plan
  q = second_plan p reports v

  -- ---- the rows of the plan, then the alarm costs
  row_same : (i j : ℕ) → i < p.rows → j < p.cols → a q i j ≡ a p i j
  unfolding second_plan
  row_same i j h l =
      let z = place_in i p.rows j p.cols h l in
      get_or-append (take (p.rows * p.cols) p.coefs) (take p.cols p.costs) (pos 0) (i * p.cols + j)
      (omega (arith, z, length-take-le (p.rows * p.cols) p.coefs coefs_long))
      ∙ get_or-take (p.rows * p.cols) p.coefs (i * p.cols + j) (pos 0) z

  row_last : (j : ℕ) → j < p.cols → a q p.rows j ≡ c p j
  unfolding second_plan
  row_last j l =
      ap (λ (k : ℕ). (take (p.rows * p.cols) p.coefs ++ take p.cols p.costs) ‼ (k + j))
      (sym (length-take-le (p.rows * p.cols) p.coefs coefs_long))
      ∙ get_or-append-add (take (p.rows * p.cols) p.coefs) (take p.cols p.costs) j (pos 0)
      ∙ get_or-take p.cols p.costs j (pos 0) l

  rhs_same : (i : ℕ) → i < p.rows → rhs q i ≡ rhs p i
  unfolding second_plan
  rhs_same i l = same_cell p.rows p.rhs v (pos 0) rhs_long i l

  pub rhs_last : rhs q p.rows ≡ v
  unfolding second_plan
  rhs_last = last_cell p.rows p.rhs v (pos 0) rhs_long

  op_same : (i : ℕ) → i < p.rows → op q i ≡ op p i
  unfolding second_plan
  op_same i l = same_cell p.rows p.ops 0 0 ops_long i l

  pub op_last : op q p.rows ≡ 0
  unfolding second_plan
  op_last = last_cell p.rows p.ops 0 0 ops_long

  module _ (z : ℕ → ℤ) where
    activity_same : (i : ℕ) → i < p.rows → activity q z i ≡ activity p z i
    unfolding activity second_plan
    activity_same i h = sum_ext p.cols _ _ (λ j l. ap (λ (y : ℤ). y *ℤ z j) (row_same i j h l))

    -- the last row's activity is the alarm cost
    pub activity_last : activity q z p.rows ≡ cost p z
    unfolding activity cost second_plan
    activity_last = sum_ext p.cols _ _ (λ j l. ap (λ (y : ℤ). y *ℤ z j) (row_last j l))

  -- amounts y / k keep the second stage's plan exactly when they keep the plan and their alarm cost is at most v
  pub second_exactly : (k : ℕ) (z : ℕ → ℤ) → Keeps q k z ↔ (Keeps p k z × (cost p z ≤ℤ (pos k *ℤ v)))
  unfolding second_plan
  second_exactly k z = (
    λ h. (
      record {
        le_kept = λ i l e. rw (← activity_same z i l, ← rhs_same i l) (h.le_kept i (omega arith) (op_same i l ∙ e));
        eq_kept = λ i l e. sym (activity_same z i l) ∙ h.eq_kept i (omega arith) (op_same i l ∙ e) ∙ ap
            (λ (y : ℤ). pos k *ℤ y) (rhs_same i l);
        ge_kept = λ i l e. rw (← activity_same z i l, ← rhs_same i l) (h.ge_kept i (omega arith) (rw (op_same i l) e));
        lower_kept = h.lower_kept;
        upper_kept = h.upper_kept;
      },
      subst (λ (y : ℤ). cost p z ≤ℤ (pos k *ℤ y)) rhs_last
          (subst (λ (y : ℤ). y ≤ℤ (pos k *ℤ rhs q p.rows)) (activity_last z)
          (h.le_kept p.rows (omega arith) op_last)),
    ),
    λ h. record {
      le_kept = λ i l e. ⊎_elim
          (λ b. rw (activity_same z i b, rhs_same i b) (h.0.le_kept i b (sym (op_same i b) ∙ e)))
          (λ (b : i ≡ p.rows). rw (b, activity_last z, rhs_last) h.1) (last? i p.rows l);
      eq_kept = λ i l e. ⊎_elim
          (λ b. activity_same z i b ∙ h.0.eq_kept i b (sym (op_same i b) ∙ e) ∙ ap (λ (y : ℤ). pos k *ℤ y)
          (sym (rhs_same i b)))
          (λ (b : i ≡ p.rows). absurd (omega (arith, sym op_last ∙ ap (op q) (sym b) ∙ e))) (last? i p.rows l);
      ge_kept = λ i l e. ⊎_elim
          (λ b. rw (activity_same z i b, rhs_same i b) (h.0.ge_kept i b (rw (← op_same i b) e)))
          (λ (b : i ≡ p.rows). absurd (omega (arith, e, ap (op q) b ∙ op_last))) (last? i p.rows l);
      lower_kept = h.0.lower_kept;
      upper_kept = h.0.upper_kept;
    },
  )

  -- and its entries are those of the plan and the alarm costs that aren't 0
  row_count : (f g : ℕ → ℤ) (n : ℕ) → ((j : ℕ) → j < n → f j ≡ g j) → nonzeros f n ≡ nonzeros g n
  unfolding nonzeros
  row_count f g n h = run_same _ _ n (λ j k l. ap (λ (y : ℤ). count_cell y k) (h j l)) 0

  pub second_entries : entry_count q ≡ entries_after p
  unfolding entry_count entries_after start_at run second_plan
  second_entries =
      ap (λ (k : ℕ). run (λ r s. s + nonzeros (a q r) p.cols) k 0) (add-one p.rows)
      ∙ ap₂ ◌+◌
      (run_same _ _ p.rows
      (λ r k l. ap (λ (y : ℕ). k + y) (row_count (a q r) (a p r) p.cols (λ j h. row_same r j l h))) 0)
      (row_count (a q p.rows) (c p) p.cols row_last)
