-- 01's words for each answer, as propositions: what opening, an edit and a verdict say, and exactly when. Assumes nothing.
use Rattle.std.specs.Prelude.{◌≡◌, ◌⊎◌, true, List, ℕ, ◌*◌, ◌<◌, ◌≤◌, length, ℤ, pos, nat_abs, ◌-ℤ◌, ◌*ℤ◌, ◌≤ℤ◌, ◌<ℤ◌}
use Rattle.doubles.specs.Limits.{max_rows, max_columns, max_coefficient, max_cost, max_right_side, max_bound, max_amount, max_multiplier, max_r, max_d, max_c, max_b, unit}
use Rattle.sheet_rules.specs.Sum.{◌‼◌}
use Rattle.sheet_rules.specs.Sheet.{Plan, Kept, Sheet, True, a, c, lower, upper, lower_mark, upper_mark, rhs, op, x, Y, activity, cost}
use Rattle.sheet_rules.specs.Edit.{uses_column, uses_row, applied}
use Rattle.sheet_rules.specs.declared.Edit.{Edit}
use Rattle.sheet_rules.specs.declared.Verdict.{Verdict}
use Rattle.sheet_rules.specs.declared.Verdict.TheVariants.{NoneExists, NotPlan, NoFloor, Gap, Refused}

-- ---- 11: no size is over its limit, no array short
pub record Sized (s : Sheet) : Type 0 where
  pub rows_fit : s.plan.rows ≤ max_rows
  pub cols_fit : s.plan.cols ≤ max_columns
  pub coefs_fit : s.plan.rows * s.plan.cols ≤ length s.plan.coefs
  pub costs_fit : s.plan.cols ≤ length s.plan.costs
  pub lowers_fit : s.plan.cols ≤ length s.plan.lowers
  pub uppers_fit : s.plan.cols ≤ length s.plan.uppers
  pub lower_marks_fit : s.plan.cols ≤ length s.plan.lower_marks
  pub upper_marks_fit : s.plan.cols ≤ length s.plan.upper_marks
  pub rhs_fit : s.plan.rows ≤ length s.plan.rhs
  pub ops_fit : s.plan.rows ≤ length s.plan.ops
  pub amounts_fit : s.plan.cols ≤ length s.plan.amounts
  pub mults_fit : s.plan.rows ≤ length s.plan.mults
  pub r_fits : s.plan.rows ≤ length s.kept.R
  pub d_fits : s.plan.cols ≤ length s.kept.D
  pub c_fits : 1 ≤ length s.kept.C
  pub b_fits : 1 ≤ length s.kept.B
  pub counts_fit : 4 ≤ length s.kept.counts

-- ---- 12: no number is over its limit, no comparison or mark unknown
abbrev pub Within : ℕ → ℕ → List ℤ → Type 0
Within m n l = (k : ℕ) → k < n → nat_abs (l ‼ k) ≤ m

-- 01: "A bound may be absent (mark 0; present is 1); its number's limit is then 0"
pub record Bound (mark : ℕ) (z : ℤ) : Type 0 where
  pub known : mark ≤ 1
  pub small : nat_abs z ≤ max_bound
  pub absent : mark ≡ 0 → nat_abs z ≤ 0

-- every array but the coefficients
pub record Arrays (p : Plan) : Type 0 where
  pub costs_in : Within max_cost p.cols p.costs
  pub lowers_in : (j : ℕ) → j < p.cols → Bound (lower_mark p j) (lower p j)
  pub uppers_in : (j : ℕ) → j < p.cols → Bound (upper_mark p j) (upper p j)
  pub rhs_in : Within max_right_side p.rows p.rhs
  pub ops_in : (i : ℕ) → i < p.rows → op p i ≤ 2
  pub amounts_in : Within max_amount p.cols p.amounts
  pub mults_in : Within max_multiplier p.rows p.mults

pub record Limits (p : Plan) : Type 0 where
  pub coefs_in : Within max_coefficient (p.rows * p.cols) p.coefs
  pub arrays_in : Arrays p

-- ---- 13: lower > upper with both present
pub record Crossed (p : Plan) (j : ℕ) : Type 0 where
  pub lower_present : lower_mark p j ≡ 1
  pub upper_present : upper_mark p j ≡ 1
  pub above : upper p j <ℤ lower p j

abbrev pub Crossing : Plan → Type 0
Crossing p = (j : ℕ) × (j < p.cols) × Crossed p j

-- ---- the kept sizes
pub record Count (n : ℕ) (z : ℤ) : Type 0 where
  pub least : pos 0 ≤ℤ z
  pub most : z ≤ℤ pos n

pub record KeptIn (s : Sheet) : Type 0 where
  pub r_in : Within max_r s.plan.rows s.kept.R
  pub d_in : Within max_d s.plan.cols s.kept.D
  pub c_in : Within max_c 1 s.kept.C
  pub b_in : Within max_b 1 s.kept.B
  pub broken_in : Count s.plan.rows (s.kept.counts ‼ 0)
  pub outside_in : Count s.plan.cols (s.kept.counts ‼ 1)
  pub wrong_in : Count s.plan.rows (s.kept.counts ‼ 2)
  pub absent_in : Count s.plan.cols (s.kept.counts ‼ 3)

-- ---- opening
pub data OpeningSays (s : Sheet) : ℕ → Type 0 where
  size : ¬ Sized s → OpeningSays s 11
  number : Sized s → ¬ Limits s.plan → OpeningSays s 12
  crossed : Sized s → Limits s.plan → Crossing s.plan → OpeningSays s 13
  accepted : Sized s → Limits s.plan → ¬ Crossing s.plan → OpeningSays s 0

-- ---- an edit
pub record Index (p : Plan) (e : Edit) : Type 0 where
  pub column_in_holds : uses_column e.kind ≡ true → e.column < p.cols
  pub row_within : uses_row e.kind ≡ true → e.row < p.rows

pub record NumberIn (e : Edit) : Type 0 where
  pub amount_in : e.kind ≡ 1 → nat_abs e.number ≤ max_amount
  pub cost_in : e.kind ≡ 2 → nat_abs e.number ≤ max_cost
  pub lower_in : e.kind ≡ 3 → nat_abs e.number ≤ max_bound
  pub upper_in : e.kind ≡ 4 → nat_abs e.number ≤ max_bound
  pub right_in : e.kind ≡ 5 → nat_abs e.number ≤ max_right_side
  pub coef_in : e.kind ≡ 6 → nat_abs e.number ≤ max_coefficient
  pub mult_in : e.kind ≡ 7 → nat_abs e.number ≤ max_multiplier

-- 01: "two present bounds would cross": a lower bound (kind 3) or an upper one (kind 4) past that column's other bound
pub data WouldCross (p : Plan) (e : Edit) : Type 0 where
  from_below : e.kind ≡ 3 → upper_mark p e.column ≡ 1 → upper p e.column <ℤ e.number → WouldCross p e
  from_above : e.kind ≡ 4 → lower_mark p e.column ≡ 1 → e.number <ℤ lower p e.column → WouldCross p e

-- 01: "a number or mark in any array but the coefficients, in the edited row's or column's coefficients, or among C, B and the counts" keeps its limit
pub record Sound (e : Edit) (s : Sheet) : Type 0 where
  pub arrays_in : Arrays s.plan
  pub column_in_holds : uses_column e.kind ≡ true → (i : ℕ) → i < s.plan.rows → nat_abs (a s.plan i e.column) ≤ max_coefficient
  pub row_within : uses_row e.kind ≡ true → (j : ℕ) → j < s.plan.cols → nat_abs (a s.plan e.row j) ≤ max_coefficient
  pub kept_in : KeptIn s

-- what comes before 11, 12, 13 and 14
pub record Today (e : Edit) : Type 0 where
  pub first : 1 ≤ e.kind
  pub last : e.kind ≤ 9

pub record Placed (s : Sheet) (e : Edit) : Type 0 where
  pub today : Today e
  pub sized : Sized s
  pub index : Index s.plan e

pub data EditSays (s : Sheet) (e : Edit) : ℕ → Type 0 where
  unknown : (e.kind ≡ 0) ⊎ (32 ≤ e.kind) → EditSays s e 16
  later : 10 ≤ e.kind → e.kind ≤ 31 → EditSays s e 15
  size : Today e → ¬ (Sized s × Index s.plan e) → EditSays s e 11
  number : Placed s e → ¬ NumberIn e → EditSays s e 12
  crossed : Placed s e → NumberIn e → WouldCross s.plan e → EditSays s e 13
  broken : Placed s e → NumberIn e → ¬ WouldCross s.plan e → ¬ (Sound e s × Sound e (applied s e)) → EditSays s e 14
  accepted : Placed s e → NumberIn e → ¬ WouldCross s.plan e → Sound e s → Sound e (applied s e) → EditSays s e 0

-- 01: "Otherwise the edit is accepted and its cell takes the number handed in (kinds 8 and 9 aside)"; "Kinds 3 and 4 mark the bound present, 8 and 9 absent
-- with number 0"
pub record Takes (e : Edit) (p : Plan) : Type 0 where
  pub amount_taken : e.kind ≡ 1 → x p e.column ≡ e.number
  pub cost_taken : e.kind ≡ 2 → c p e.column ≡ e.number
  pub lower_taken : e.kind ≡ 3 → (lower p e.column ≡ e.number) × (lower_mark p e.column ≡ 1)
  pub upper_taken : e.kind ≡ 4 → (upper p e.column ≡ e.number) × (upper_mark p e.column ≡ 1)
  pub right_taken : e.kind ≡ 5 → rhs p e.row ≡ e.number
  pub coef_taken : e.kind ≡ 6 → a p e.row e.column ≡ e.number
  pub mult_taken : e.kind ≡ 7 → Y p e.row ≡ e.number
  pub lower_dropped : e.kind ≡ 8 → (lower p e.column ≡ pos 0) × (lower_mark p e.column ≡ 0)
  pub upper_dropped : e.kind ≡ 9 → (upper p e.column ≡ pos 0) × (upper_mark p e.column ≡ 0)

-- ---- a verdict
-- 01: "not a plan if either of the first two counts isn't 0; else no floor if either of the last isn't; else gap = 1024*C - B"
abbrev pub IsPlan : Kept → Type 0
IsPlan k = (k.counts ‼ 0 ≡ pos 0) × (k.counts ‼ 1 ≡ pos 0)

abbrev pub HasFloor : Kept → Type 0
HasFloor k = (k.counts ‼ 2 ≡ pos 0) × (k.counts ‼ 3 ≡ pos 0)

-- 02: "with all costs 0, right signs, no absent bound needed and B above 0"
pub record ShowsNone (s : Sheet) : Type 0 where
  pub costless : (j : ℕ) → j < s.plan.cols → c s.plan j ≡ pos 0
  pub has_floor : HasFloor s.kept
  pub above : pos 0 <ℤ s.kept.B ‼ 0

pub data VerdictSays (s : Sheet) : Verdict → Type 0 where
  size : ¬ Sized s → VerdictSays s (Refused 11)
  over : Sized s → ¬ KeptIn s → VerdictSays s (Refused 14)
  none : Sized s → KeptIn s → ShowsNone s → VerdictSays s NoneExists
  not_plan : Sized s → KeptIn s → ¬ ShowsNone s → ¬ IsPlan s.kept → VerdictSays s NotPlan
  no_floor : Sized s → KeptIn s → ¬ ShowsNone s → IsPlan s.kept → ¬ HasFloor s.kept → VerdictSays s NoFloor
  gap : Sized s → KeptIn s → ¬ ShowsNone s → IsPlan s.kept → HasFloor s.kept → VerdictSays s (Gap (pos unit *ℤ (s.kept.C ‼ 0) -ℤ s.kept.B ‼ 0))

-- ---- plans
-- 01: "Fractional amounts mean whole multiples of 1/k, any k > 0". The amounts z / k keep every row (Le, Eq, Ge are 0, 1, 2) and every present bound
pub record Keeps (p : Plan) (k : ℕ) (z : ℕ → ℤ) : Type 0 where
  pub le_kept : (i : ℕ) → i < p.rows → op p i ≡ 0 → activity p z i ≤ℤ (pos k *ℤ rhs p i)
  pub eq_kept : (i : ℕ) → i < p.rows → op p i ≡ 1 → activity p z i ≡ pos k *ℤ rhs p i
  pub ge_kept : (i : ℕ) → i < p.rows → 2 ≤ op p i → (pos k *ℤ rhs p i) ≤ℤ activity p z i
  pub lower_kept : (j : ℕ) → j < p.cols → lower_mark p j ≡ 1 → (pos k *ℤ lower p j) ≤ℤ z j
  pub upper_kept : (j : ℕ) → j < p.cols → upper_mark p j ≡ 1 → z j ≤ℤ (pos k *ℤ upper p j)

-- 02: "no amounts, whole or fractional, keep every row and bound". Of k = 0 nothing is said: 0 / 0 is no amount, and
-- `Keeps p 0` holds of zeros on every plan
abbrev pub NoneKeep : Plan → Type 0
NoneKeep p = (k : ℕ) → 1 ≤ k → (z : ℕ → ℤ) → ¬ Keeps p k z

-- what demand 3 says of a shown gap g, which counts 1/1024 of a cost unit: the sheet's own amounts keep every row and
-- bound, g isn't below 0, and no amounts z / k that keep every row and bound are cheaper than ours by more than g:
-- k * 1024 * (cost of ours - cost of z / k) is at most k * g
pub record Gapped (s : Sheet) (g : ℤ) : Type 0 where
  pub plan : Keeps s.plan 1 (x s.plan)
  pub not_below : pos 0 ≤ℤ g
  pub no_cheaper : (k : ℕ) (z : ℕ → ℤ) → Keeps s.plan k z
      → (pos unit *ℤ (pos k *ℤ cost s.plan (x s.plan) -ℤ cost s.plan z)) ≤ℤ (pos k *ℤ g)

-- ---- a true sheet within its sizes and limits; its present bounds may cross, since no limit speaks of that
pub record Good (s : Sheet) : Type 0 where
  pub sized : Sized s
  pub limits : Limits s.plan
  pub true_sheet : True s

-- one that opening would accept
pub record Openable (s : Sheet) : Type 0 where
  pub good : Good s
  pub uncrossed : ¬ Crossing s.plan
