-- Opening a sheet. 01: "11 a size or short array, 12 a number over its limit or an unknown comparison or presence mark, 13 lower > upper with both
-- present, lowest first, nothing changed". Assumes nothing.
use Rattle.std.specs.Prelude.{Bool, true, false, not, ◌&&◌, List, [], ◌∷◌, ℕ, zero, suc, ◌*◌, leb, length, ℤ, nat_abs}
use Rattle.std.specs.Int.Signed.{lt_z}
use Rattle.doubles.specs.Limits.{max_rows, max_columns, max_coefficient, max_cost, max_right_side, max_bound, max_amount, max_multiplier}
use Rattle.doubles.specs.Loop.{all}
use Rattle.doubles.specs.Lists.{◌#◌}
use Rattle.sheet_rules.specs.Sum.{◌‼◌}
use Rattle.sheet_rules.specs.Sheet.{Plan, Sheet, sheet_of, lower, upper, lower_mark, upper_mark, present, fresh, over_kept}

-- a refusal's number, and whether the sheet passes its test
pub record Test : Type 0 where
  pub number : ℕ
  pub passed : Bool

infix 95 ◌unless◌
abbrev pub ◌unless◌ : ℕ → Bool → Test
n unless t = record { number = n; passed = t }

-- the number of the first test that isn't passed, 0 where all are
unfoldable pub first_failed : List Test → ℕ
first_failed [] = 0
first_failed (t ∷ ts) = elim t.passed [ true ↦ first_failed ts | false ↦ t.number ]

-- ---- 11
unfoldable pub sizes_fine : Sheet → Bool
sizes_fine s =
    let p = s.plan in
    let k = s.kept in
    let m = p.rows in
    let n = p.cols in
    leb m max_rows && leb n max_columns && leb (m * n) (length p.coefs)
    && leb n (length p.costs) && leb n (length p.lowers) && leb n (length p.uppers) && leb n (length p.lower_marks) && leb n (length p.upper_marks)
    && leb m (length p.rhs) && leb m (length p.ops) && leb n (length p.amounts) && leb m (length p.mults)
    && leb m (length k.R) && leb n (length k.D) && leb 1 (length k.C) && leb 1 (length k.B) && leb 4 (length k.counts)

-- ---- 12. Limits are inclusive
abbrev pub within : ℕ → ℤ → Bool
within m z = leb (nat_abs z) m

-- the first n numbers of an array
unfoldable pub all_within : ℕ → ℕ → List ℤ → Bool
all_within m n l = all n (λ k. within m (l ‼ k))

-- 01: "A bound may be absent (mark 0; present is 1); its number's limit is then 0"
unfoldable pub bound_fine : ℕ → ℤ → Bool
bound_fine zero z = within 0 z
bound_fine (suc zero) z = within max_bound z
bound_fine (suc (suc k)) z = false

unfoldable pub bounds_fine : ℕ → List ℕ → List ℤ → Bool
bounds_fine n marks l = all n (λ j. bound_fine (marks # j) (l ‼ j))

unfoldable pub ops_fine : ℕ → List ℕ → Bool
ops_fine n l = all n (λ i. leb (l # i) 2)

-- every array but the coefficients
unfoldable pub arrays_fine : Plan → Bool
arrays_fine p =
    all_within max_cost p.cols p.costs
    && bounds_fine p.cols p.lower_marks p.lowers
    && bounds_fine p.cols p.upper_marks p.uppers
    && all_within max_right_side p.rows p.rhs
    && ops_fine p.rows p.ops
    && all_within max_amount p.cols p.amounts
    && all_within max_multiplier p.rows p.mults

unfoldable pub numbers_fine : Plan → Bool
numbers_fine p = all_within max_coefficient (p.rows * p.cols) p.coefs && arrays_fine p

-- ---- 13
unfoldable pub crosses : ℤ → ℤ → ℕ → ℕ → Bool
crosses l u lm um = present lm && present um && lt_z u l

abbrev pub crosses_at : Plan → ℕ → Bool
crosses_at p j = crosses (lower p j) (upper p j) (lower_mark p j) (upper_mark p j)

unfoldable pub uncrossed : Plan → Bool
uncrossed p = all p.cols (λ j. not (crosses_at p j))

-- ---- the answer, 0 or a refusal's number, and what is lent afterwards
abbrev pub opening_tests : Sheet → List Test
opening_tests s = 11 unless sizes_fine s ∷ 12 unless numbers_fine s.plan ∷ 13 unless uncrossed s.plan ∷ []

unfoldable pub opening : Sheet → ℕ
opening s = first_failed (opening_tests s)

-- by the answer: what is lent anew, or as it was
abbrev pub leaves : ℕ → Sheet → Sheet → Sheet
leaves zero new old = new
leaves (suc n) new old = old

unfoldable pub opened : Sheet → Sheet
opened s = leaves (opening s) (sheet_of s.plan (over_kept (fresh s.plan) s.kept)) s
