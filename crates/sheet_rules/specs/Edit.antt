-- Edits. 01: "Edits by kind, and cells touched besides the edited number and its mark". Assumes nothing.
use Rattle.std.specs.Prelude.{Bool, true, false, not, ◌&&◌, ◌||◌, List, [], ◌∷◌, ℕ, ◌+◌, ◌*◌, leb, ltb, eqb, get_or, set, ℤ, pos, ◌+ℤ◌, ◌-ℤ◌, ◌*ℤ◌}
use Rattle.doubles.specs.Limits.{max_coefficient, max_cost, max_right_side, max_bound, max_amount, max_multiplier, max_r, max_d, max_c, max_b, unit}
use Rattle.doubles.specs.Loop.{all, table}
use Rattle.sheet_rules.specs.Sum.{◌‼◌, sum, bit}
use Rattle.sheet_rules.specs.Sheet.{Plan, Kept, Sheet, plan_of, kept_of, sheet_of, a, c, lower, upper, lower_mark, upper_mark, rhs, x, Y, broken_at, outside_at, wrong_at, term_at, lacks_at, over_kept}
use Rattle.sheet_rules.specs.Opening.{Test, ◌unless◌, first_failed, leaves, sizes_fine, within, arrays_fine, crosses_at}
use Rattle.sheet_rules.specs.Verdict.{count_fine, kept_fine}
use Rattle.sheet_rules.specs.declared.Edit.{Edit}

-- ---- the edited cell
-- v at place i where the kind is the one that writes there
unfoldable pub put : {A : Type 0} → Bool → ℕ → A → List A → List A
put true i v l = set l i v
put false i v l = l

-- 01: "its cell takes the number handed in (kinds 8 and 9 aside)"; "Kinds 3 and 4 mark the bound present, 8 and 9 absent with number 0"
unfoldable pub edited : Plan → Edit → Plan
edited p e =
    let i = e.row in
    let j = e.column in
    let z = e.number in
    let k = e.kind in
    plan_of p.rows p.cols
    (put (eqb k 6) (i * p.cols + j) z p.coefs)
    (put (eqb k 2) j z p.costs)
    (put (eqb k 8) j (pos 0) (put (eqb k 3) j z p.lowers))
    (put (eqb k 9) j (pos 0) (put (eqb k 4) j z p.uppers))
    (put (eqb k 8) j 0 (put (eqb k 3) j 1 p.lower_marks))
    (put (eqb k 9) j 0 (put (eqb k 4) j 1 p.upper_marks))
    (put (eqb k 5) i z p.rhs)
    p.ops
    (put (eqb k 1) j z p.amounts)
    (put (eqb k 7) i z p.mults)

-- the edited cell's old number and mark, for the journal of 02 (Ask 12); a cell that isn't a bound counts as present
unfoldable pub old_number : Plan → Edit → ℤ
old_number p e =
    let i = e.row in
    let j = e.column in
    (pos 0 ∷ x p j ∷ c p j ∷ lower p j ∷ upper p j ∷ rhs p i ∷ a p i j ∷ Y p i ∷ lower p j ∷ upper p j ∷ []) ‼ e.kind

unfoldable pub old_mark : Plan → Edit → ℕ
old_mark p e =
    let l = lower_mark p e.column in
    let u = upper_mark p e.column in
    get_or (1 ∷ 1 ∷ 1 ∷ l ∷ u ∷ 1 ∷ 1 ∷ 1 ∷ l ∷ u ∷ []) e.kind 1

-- ---- the kept numbers. 01: "Touched sums and counts move by the change in their terms, read from kept cells"
module _ (s : Sheet) (e : Edit) where
  abbrev after : Plan
  after = edited s.plan e

  abbrev change : (Plan → ℤ) → ℤ
  change f = f after -ℤ f s.plan

  -- of a row's terms that of the edited column, of a price's that of its cost and of the edited row
  unfoldable pub moved_r : ℕ → ℤ
  moved_r i = s.kept.R ‼ i +ℤ change (λ p. a p i e.column *ℤ x p e.column)

  unfoldable pub moved_d : ℕ → ℤ
  moved_d j = s.kept.D ‼ j +ℤ change (λ p. pos unit *ℤ c p j -ℤ a p e.row j *ℤ Y p e.row)

  unfoldable pub moved_c : ℤ
  moved_c = s.kept.C ‼ 0 +ℤ change (λ p. c p e.column *ℤ x p e.column)

  -- B by every column whose price or bound moves
  unfoldable pub moved_b : ℤ
  moved_b = s.kept.B ‼ 0 +ℤ change (λ p. Y p e.row *ℤ rhs p e.row) +ℤ sum s.plan.cols (λ j. term_at after j (moved_d j) -ℤ term_at s.plan j (s.kept.D ‼ j))

  unfoldable pub moved_broken : ℤ
  moved_broken = s.kept.counts ‼ 0 +ℤ sum s.plan.rows (λ i. bit (broken_at after i (moved_r i)) -ℤ bit (broken_at s.plan i (s.kept.R ‼ i)))

  unfoldable pub moved_outside : ℤ
  moved_outside = s.kept.counts ‼ 1 +ℤ change (λ p. bit (outside_at p e.column))

  unfoldable pub moved_wrong : ℤ
  moved_wrong = s.kept.counts ‼ 2 +ℤ change (λ p. bit (wrong_at p e.row))

  unfoldable pub moved_absent : ℤ
  moved_absent = s.kept.counts ‼ 3 +ℤ sum s.plan.cols (λ j. bit (lacks_at after j (moved_d j)) -ℤ bit (lacks_at s.plan j (s.kept.D ‼ j)))

  unfoldable pub moved : Kept
  moved = kept_of (table s.plan.rows moved_r) (table s.plan.cols moved_d) (moved_c ∷ []) (moved_b ∷ []) (moved_broken ∷ moved_outside ∷ moved_wrong ∷ moved_absent ∷ [])

  -- what an accepted edit leaves
  unfoldable pub applied : Sheet
  applied = sheet_of after (over_kept moved s.kept)

-- ---- refusals. 01: "Kinds 10 to 31 are kept for later and give 15; 0 and 32 up give 16"
abbrev pub known_kind : ℕ → Bool
known_kind k = leb 1 k && leb k 31

abbrev pub todays_kind : ℕ → Bool
todays_kind k = leb k 9

-- 1 to 4, 8 and 9 use a column, 5 and 7 a row, 6 both
abbrev pub uses_column : ℕ → Bool
uses_column k = not (eqb k 5 || eqb k 7)

abbrev pub uses_row : ℕ → Bool
uses_row k = eqb k 5 || eqb k 6 || eqb k 7

-- 11: "as at opening or a bad index"
unfoldable pub index_fine : Plan → Edit → Bool
index_fine p e = (not (uses_column e.kind) || ltb e.column p.cols) && (not (uses_row e.kind) || ltb e.row p.rows)

-- 12: the limits of kinds 1 to 7; 8 and 9 are accepted "whatever number is handed in"
abbrev pub kind_limit : ℕ → ℕ
kind_limit k = get_or (0 ∷ max_amount ∷ max_cost ∷ max_bound ∷ max_bound ∷ max_right_side ∷ max_coefficient ∷ max_multiplier ∷ []) k 0

unfoldable pub number_fine : Edit → Bool
number_fine e = leb 8 e.kind || within (kind_limit e.kind) e.number

-- 13: "two present bounds would cross". Read as: kinds 3 and 4 alone bring a bound, so 13 looks at these kinds and at
-- that column alone; what crosses in another column is not this edit's
unfoldable pub both_fine : Plan → Edit → Bool
both_fine p e = not ((eqb e.kind 3 || eqb e.kind 4) && crosses_at (edited p e) e.column)

-- 14: "a number or mark in any array but the coefficients, in the edited row's or column's coefficients, or among C, B and the counts breaks its limit"
unfoldable pub column_fine : Plan → ℕ → Bool
column_fine p j = all p.rows (λ i. within max_coefficient (a p i j))

unfoldable pub row_fine : Plan → ℕ → Bool
row_fine p i = all p.cols (λ j. within max_coefficient (a p i j))

unfoldable pub sound_at : Edit → Sheet → Bool
sound_at e s = arrays_fine s.plan && (not (uses_column e.kind) || column_fine s.plan e.column) && (not (uses_row e.kind) || row_fine s.plan e.row) && kept_fine s

-- 14 after an edit that all else lets pass: the plan's own numbers keep their limits then, and the moved ones are left
-- to test
unfoldable pub moved_fine : Sheet → Edit → Bool
moved_fine s e =
    let m = s.plan.rows in
    let n = s.plan.cols in
    all m (λ i. within max_r (moved_r s e i)) && all n (λ j. within max_d (moved_d s e j))
    && within max_c (moved_c s e) && within max_b (moved_b s e)
    && count_fine m (moved_broken s e) && count_fine n (moved_outside s e)
    && count_fine m (moved_wrong s e) && count_fine n (moved_absent s e)

-- ---- the answer, 0 or a refusal's number, and what is lent afterwards. 01: "A refused edit changes nothing"
abbrev pub edit_tests : Sheet → Edit → List Test
edit_tests s e =
    16 unless known_kind e.kind
    ∷ 15 unless todays_kind e.kind
    ∷ 11 unless (sizes_fine s && index_fine s.plan e)
    ∷ 12 unless number_fine e
    ∷ 13 unless both_fine s.plan e
    ∷ 14 unless (sound_at e s && sound_at e (applied s e))
    ∷ []

unfoldable pub edit_refusal : Sheet → Edit → ℕ
edit_refusal s e = first_failed (edit_tests s e)

unfoldable pub edit : Sheet → Edit → Sheet
edit s e = leaves (edit_refusal s e) (applied s e) s
