-- The audit sheet as lent, and what its kept numbers are when worked out afresh. 01: "Whole numbers". Assumes nothing.
use Rattle.std.specs.Prelude.{◌≡◌, Bool, true, false, not, ◌&&◌, ◌||◌, List, [], ◌∷◌, ℕ, zero, suc, ◌+◌, ◌*◌, ◌<◌, eqb, length, ℤ, pos, ◌+ℤ◌, ◌-ℤ◌, ◌*ℤ◌}
use Rattle.std.specs.Int.Signed.{lt_z, le_z}
use Rattle.doubles.specs.Limits.{unit}
use Rattle.doubles.specs.Loop.{table}
use Rattle.doubles.specs.Lists.{◌#◌, over}
use Rattle.sheet_rules.specs.Sum.{◌‼◌, sum, dot, count}

-- ---- as lent. Arrays may be longer than needed: what stands past the needed length is no part of the sheet
pub record Plan : Type 0 where
  pub rows : ℕ
  pub cols : ℕ
  pub coefs : List ℤ
  pub costs : List ℤ
  pub lowers : List ℤ
  pub uppers : List ℤ
  pub lower_marks : List ℕ
  pub upper_marks : List ℕ
  pub rhs : List ℤ
  pub ops : List ℕ
  pub amounts : List ℤ
  pub mults : List ℤ

-- C and B are arrays of one cell; the four counts are rows broken, amounts out of bounds, wrong signs, absent bounds needed
pub record Kept : Type 0 where
  pub R : List ℤ
  pub D : List ℤ
  pub C : List ℤ
  pub B : List ℤ
  pub counts : List ℤ

pub record Sheet : Type 0 where
  pub plan : Plan
  pub kept : Kept

abbrev pub plan_of : ℕ → ℕ → List ℤ → List ℤ → List ℤ → List ℤ → List ℕ → List ℕ → List ℤ → List ℕ → List ℤ → List ℤ → Plan
plan_of m n co c l u lm um r o x y = record {
  rows = m;
  cols = n;
  coefs = co;
  costs = c;
  lowers = l;
  uppers = u;
  lower_marks = lm;
  upper_marks = um;
  rhs = r;
  ops = o;
  amounts = x;
  mults = y;
}

abbrev pub kept_of : List ℤ → List ℤ → List ℤ → List ℤ → List ℤ → Kept
kept_of r d c b n = record { R = r; D = d; C = c; B = b; counts = n }

abbrev pub sheet_of : Plan → Kept → Sheet
sheet_of p k = record { plan = p; kept = k }

-- ---- what is read. 01: "coefficients stored in full"
module _ (p : Plan) where
  abbrev pub a : ℕ → ℕ → ℤ
  a i j = p.coefs ‼ (i * p.cols + j)

  abbrev pub c : ℕ → ℤ
  c j = p.costs ‼ j

  abbrev pub lower : ℕ → ℤ
  lower j = p.lowers ‼ j

  abbrev pub upper : ℕ → ℤ
  upper j = p.uppers ‼ j

  abbrev pub lower_mark : ℕ → ℕ
  lower_mark j = p.lower_marks # j

  abbrev pub upper_mark : ℕ → ℕ
  upper_mark j = p.upper_marks # j

  abbrev pub rhs : ℕ → ℤ
  rhs i = p.rhs ‼ i

  abbrev pub op : ℕ → ℕ
  op i = p.ops # i

  abbrev pub x : ℕ → ℤ
  x j = p.amounts ‼ j

  abbrev pub Y : ℕ → ℤ
  Y i = p.mults ‼ i

-- ---- terms, each of a few numbers
-- 01: "A bound may be absent (mark 0; present is 1)"
abbrev pub present : ℕ → Bool
present m = eqb m 1

-- the row r op b holds. 01: "Le, Eq, Ge are 0, 1, 2"
unfoldable pub holds : ℕ → ℤ → ℤ → Bool
holds zero r b = le_z r b
holds (suc zero) r b = le_z r b && le_z b r
holds (suc (suc o)) r b = le_z b r

-- 01: "wrong signs (Le with Y > 0, Ge with Y < 0)"
unfoldable pub wrong : ℕ → ℤ → Bool
wrong zero y = lt_z (pos 0) y
wrong (suc zero) y = false
wrong (suc (suc o)) y = lt_z y (pos 0)

-- an amount below a present lower bound or above a present upper one
unfoldable pub outside : ℤ → ℤ → ℤ → ℕ → ℕ → Bool
outside z l u lm um = (present lm && lt_z z l) || (present um && lt_z u z)

-- 01: "D*lower if D > 0, D*upper if D < 0, else 0, and 0 where that bound is absent"
unfoldable pub term_by : (above below low high : Bool) → ℤ → ℤ → ℤ → ℤ
term_by true below true high d l u = d *ℤ l
term_by true below false high d l u = pos 0
term_by false true low true d l u = d *ℤ u
term_by false true low false d l u = pos 0
term_by false false low high d l u = pos 0

unfoldable pub term : ℤ → ℤ → ℤ → ℕ → ℕ → ℤ
term d l u lm um = term_by (lt_z (pos 0) d) (lt_z d (pos 0)) (present lm) (present um) d l u

-- 01: "absent bounds needed by D"
unfoldable pub lacks_by : (above below low high : Bool) → Bool
lacks_by true below low high = not low
lacks_by false true low high = not high
lacks_by false false low high = false

unfoldable pub lacks : ℤ → ℕ → ℕ → Bool
lacks d lm um = lacks_by (lt_z (pos 0) d) (lt_z d (pos 0)) (present lm) (present um)

-- ---- the same of a row with its activity, and of a column with its price
module _ (p : Plan) where
  abbrev pub broken_at : ℕ → ℤ → Bool
  broken_at i r = not (holds (op p i) r (rhs p i))

  abbrev pub outside_at : ℕ → Bool
  outside_at j = outside (x p j) (lower p j) (upper p j) (lower_mark p j) (upper_mark p j)

  abbrev pub wrong_at : ℕ → Bool
  wrong_at i = wrong (op p i) (Y p i)

  abbrev pub term_at : ℕ → ℤ → ℤ
  term_at j d = term d (lower p j) (upper p j) (lower_mark p j) (upper_mark p j)

  abbrev pub lacks_at : ℕ → ℤ → Bool
  lacks_at j d = lacks d (lower_mark p j) (upper_mark p j)

-- ---- worked out afresh
-- the sum behind R, over a row's slice and the amounts
unfoldable pub row_sum : List ℤ → List ℤ → ℤ
row_sum row xs = dot (length row) (λ j. row ‼ j) (λ j. xs ‼ j)

module _ (p : Plan) where
  -- 01: "row activity R, sum of a*x", at any amounts z
  unfoldable pub activity : (ℕ → ℤ) → ℕ → ℤ
  activity z i = dot p.cols (a p i) z

  -- 01: "price D = 1024*c - sum of a*Y"
  unfoldable pub price : ℕ → ℤ
  price j = pos unit *ℤ c p j -ℤ dot p.rows (λ i. a p i j) (Y p)

  -- 01: "cost C, sum of c*x", at any amounts z
  unfoldable pub cost : (ℕ → ℤ) → ℤ
  cost z = dot p.cols (c p) z

  -- 01: "floor B, sum of Y*rhs plus, for each column, .."
  unfoldable pub floor : ℤ
  floor = dot p.rows (Y p) (rhs p) +ℤ sum p.cols (λ j. term_at p j (price j))

  -- 01: "four counts: rows broken, amounts out of bounds, wrong signs, .., absent bounds needed by D"
  unfoldable pub broken_rows : ℤ
  broken_rows = count p.rows (λ i. broken_at p i (activity (x p) i))

  unfoldable pub outside_amounts : ℤ
  outside_amounts = count p.cols (outside_at p)

  unfoldable pub wrong_signs : ℤ
  wrong_signs = count p.rows (wrong_at p)

  unfoldable pub absent_needed : ℤ
  absent_needed = count p.cols (λ j. lacks_at p j (price j))

  unfoldable pub fresh : Kept
  fresh = kept_of (table p.rows (activity (x p))) (table p.cols price) (cost (x p) ∷ []) (floor ∷ []) (broken_rows ∷ outside_amounts ∷ wrong_signs ∷ absent_needed ∷ [])

-- kept numbers written over the front of the lent arrays: their tails never change
unfoldable pub over_kept : Kept → Kept → Kept
over_kept f k = kept_of (over f.R k.R) (over f.D k.D) (over f.C k.C) (over f.B k.B) (over f.counts k.counts)

-- a true sheet: each kept number equals the fresh one
pub record True (s : Sheet) : Type 0 where
  pub r_true : (i : ℕ) → i < s.plan.rows → s.kept.R ‼ i ≡ activity s.plan (x s.plan) i
  pub d_true : (j : ℕ) → j < s.plan.cols → s.kept.D ‼ j ≡ price s.plan j
  pub c_true : s.kept.C ‼ 0 ≡ cost s.plan (x s.plan)
  pub b_true : s.kept.B ‼ 0 ≡ floor s.plan
  pub broken_true : s.kept.counts ‼ 0 ≡ broken_rows s.plan
  pub outside_true : s.kept.counts ‼ 1 ≡ outside_amounts s.plan
  pub wrong_true : s.kept.counts ‼ 2 ≡ wrong_signs s.plan
  pub absent_true : s.kept.counts ‼ 3 ≡ absent_needed s.plan
