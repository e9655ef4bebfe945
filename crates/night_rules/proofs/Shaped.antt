-- A stage's sheet: how long its arrays are, and where the amounts and the found cost stand in its section. Assumes
-- nothing.
use mathlib.Core.Path.{◌≡◌, refl, sym, ap, ◌∙◌}
use mathlib.Core.Bool.{Bool, true, false}
use mathlib.Core.List.{List, [], ◌∷◌, ◌++◌}
use Prim.Native.Nat.{ℕ, zero, suc, ◌+◌, ◌≤◌}
use native.Mathlib.Omega.{arith}
use lib.ListN.{length, take, length-append, length-replicate}
use lib.Seq.{take_at, get_or-append-add}
use lib.IntN.{ℤ, pos}
use lib.Ieee.{Float}
use Rattle.doubles.specs.Limits.{max_rows, max_columns}
use Rattle.doubles.specs.Loop.{table}
use Rattle.doubles.specs.Lists.{over}
use Rattle.doubles.proofs.Loops.{length_tab}
use Rattle.rules.specs.Plan as Rules
use Rattle.sheet_rules.specs.Sum.{◌‼◌}
use Rattle.sheet_rules.specs.Sheet.{Plan, Sheet, sheet_of, activity, price, fresh, over_kept, x as amountAt}
use Rattle.sheet_rules.specs.Opening as Opening
use Rattle.sheet_rules.specs.Opening.{opening, opened}
use Rattle.sheet_rules.proofs.Fronts.{over_length}
use Rattle.whole_multipliers.specs.Rows.{multipliers}
use Rattle.whole_propose.specs.Propose as Propose
use Rattle.whole_propose.specs.Propose.{Handed, amounts_of, proposal, is_proposed, proposed, memory}
use Rattle.whole_propose.specs.declared.Proposal.{Proposal}
use Rattle.night_rules.specs.Doubles.{doubles_plan}
use Rattle.night_rules.specs.Arrays.{Arrays, run_on}
use Rattle.night_rules.specs.Stage.{zeros, lent_from, with_amounts, sheet_with, stage_after, stage_of}
use Rattle.night_rules.specs.Stage.{found_at}
use Rattle.night_rules.specs.Stage.{section_cells, section_of}

-- every array has the cells of its limit
pub record Shaped (s : Sheet) : Type 0 where
  pub amounts_long : length s.plan.amounts ≡ max_columns
  pub mults_long : length s.plan.mults ≡ max_rows
  pub r_long : length s.kept.R ≡ max_rows
  pub d_long : length s.kept.D ≡ max_columns
  pub c_long : length s.kept.C ≡ 1
  pub b_long : length s.kept.B ≡ 1
  pub counts_long : length s.kept.counts ≡ 4

-- ---- a proposal keeps the lengths of its arrays
record Handable (h : Handed) : Type 0 where
  amounts_kept : length h.amounts_left ≡ max_columns
  mults_kept : length h.mults_left ≡ max_rows

front : (n k : ℕ) (xs : List ℤ) → length xs ≡ n → n ≤ k → length (over xs (zeros k)) ≡ k
front n k xs e h =
    over_length xs (zeros k) (omega (arith, e, length-replicate k (pos 0))) ∙ length-replicate k (pos 0)

amounts_count : (n : ℕ) (v : List Float) → length (amounts_of n v) ≡ n
unfolding amounts_of
amounts_count n v = length_tab n 0 _

mults_count : (q : Rules.Plan) (m : Rules.Memory) → length (multipliers q m) ≡ q.rows
unfolding multipliers
mults_count q m = length_tab q.rows 0 _

module _ (q : Rules.Plan) (a : Arrays) (h : q.columns ≤ max_columns) (k : q.rows ≤ max_rows) where
  handable : (b : Bool) (z : Proposal) → Handable (Propose.leaves b (lent_from q a) z)
  handable true z =
      let l = lent_from q a in
      record {
        amounts_kept = front q.columns max_columns (amounts_of q.columns a.values) (amounts_count _ _) h;
        mults_kept = front q.rows max_rows (multipliers l.plan (memory l)) (mults_count _ _) k;
      }
  handable false z =
      record {
        amounts_kept = length-replicate max_columns (pos 0);
        mults_kept = length-replicate max_rows (pos 0);
      }

  proposed_long : Handable (proposed (lent_from q a))
  unfolding proposed
  proposed_long = handable (is_proposed (proposal (lent_from q a))) (proposal (lent_from q a))

-- ---- and so does an opening
module _ (p : Plan) (x y : List ℤ) (ex : length x ≡ max_columns) (ey : length y ≡ max_rows) (h : p.rows ≤ max_rows)
    (k : p.cols ≤ max_columns) where
  by_number : (n : ℕ) → let s = sheet_with p x y in
      Shaped (Opening.leaves n (sheet_of s.plan (over_kept (fresh s.plan) s.kept)) s)
  unfolding over_kept fresh
  by_number zero =
      record {
        amounts_long = ex;
        mults_long = ey;
        r_long = let t = with_amounts p x y in
            front p.rows max_rows (table p.rows (activity t (amountAt t))) (length_tab p.rows 0 _) h;
        d_long = front p.cols max_columns (table p.cols (price (with_amounts p x y))) (length_tab p.cols 0 _) k;
        c_long = refl;
        b_long = refl;
        counts_long = refl;
      }
  by_number (suc n) =
      record {
        amounts_long = ex;
        mults_long = ey;
        r_long = length-replicate max_rows (pos 0);
        d_long = length-replicate max_columns (pos 0);
        c_long = refl;
        b_long = refl;
        counts_long = refl;
      }

  opened_shaped : Shaped (opened (sheet_with p x y))
  unfolding opened
  opened_shaped = by_number (opening (sheet_with p x y))

-- ---- a stage's sheet
module _ (budget : ℕ) (tolerance : Float) (p : Plan) (a : Arrays) (h : p.rows ≤ max_rows) (k : p.cols ≤ max_columns)
  where
    abbrev q : Rules.Plan
    q = doubles_plan budget tolerance p

    same_columns : q.columns ≡ p.cols
    unfolding doubles_plan
    same_columns = refl

    same_rows : q.rows ≡ p.rows
    unfolding doubles_plan
    same_rows = refl

    pub stage_shaped : Shaped (stage_of budget tolerance p a).sheet
    unfolding stage_of stage_after
    stage_shaped =
        let l = proposed_long q (run_on q a).arrays (omega (arith, same_columns, k)) (omega (arith, same_rows, h)) in
        opened_shaped p _ _ l.amounts_kept l.mults_kept h k

-- ---- in a section
behind : (xs ys : List ℤ) (n k : ℕ) → length xs ≡ n → (xs ++ ys) ‼ (n + k) ≡ ys ‼ k
behind xs ys n k e = ap (λ (i : ℕ). (xs ++ ys) ‼ (i + k)) (sym e) ∙ get_or-append-add xs ys k (pos 0)

first_of : (xs ys : List ℤ) → length xs ≡ 1 → (xs ++ ys) ‼ 0 ≡ xs ‼ 0
first_of [] ys e = absurd (omega (arith, e))
first_of (x ∷ xs) ys e = refl

module _ (s : Sheet) (z : Shaped s) where
  pub section_count : length (section_of s) ≡ section_cells
  unfolding section_of
  section_count = simp length-append (omega (arith, z))

  pub section_amounts : take max_columns (section_of s) ≡ s.plan.amounts
  unfolding section_of
  section_amounts = take_at s.plan.amounts _ max_columns z.amounts_long

  pub section_found : section_of s ‼ found_at ≡ s.kept.C ‼ 0
  unfolding section_of
  section_found =
      let k = s.kept in
      behind s.plan.amounts _ max_columns (max_rows + (max_rows + max_columns)) z.amounts_long
      ∙ behind s.plan.mults _ max_rows (max_rows + max_columns) z.mults_long
      ∙ behind k.R _ max_rows max_columns z.r_long
      ∙ behind k.D (k.C ++ (k.B ++ k.counts)) max_columns 0 z.d_long
      ∙ first_of k.C (k.B ++ k.counts) z.c_long
