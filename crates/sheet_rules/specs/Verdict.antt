-- The verdict. Assumes nothing.
use Rattle.std.specs.Prelude.{Bool, true, false, ◌&&◌, List, ℕ, zero, suc, ℤ, pos, negsuc, ◌-ℤ◌, ◌*ℤ◌}
use Rattle.std.specs.Int.Signed.{le_z, lt_z}
use Rattle.doubles.specs.Limits.{max_r, max_d, max_c, max_b, unit}
use Rattle.sheet_rules.specs.Sum.{◌‼◌}
use Rattle.sheet_rules.specs.Sheet.{Kept, Sheet}
use Rattle.sheet_rules.specs.Opening.{all_within, sizes_fine}
use Rattle.sheet_rules.specs.declared.Verdict.{Verdict}
use Rattle.sheet_rules.specs.declared.Verdict.TheVariants.{NoneExists, NotPlan, NoFloor, Gap, Refused}

-- 01: "Kept sizes: R 2^35, D 2^39, C 2^43, B 2^62, counts 0 to their row or column number"
unfoldable pub count_fine : ℕ → ℤ → Bool
count_fine n z = le_z (pos 0) z && le_z z (pos n)

unfoldable pub counts_fine : ℕ → ℕ → Kept → Bool
counts_fine m n k = count_fine m (k.counts ‼ 0) && count_fine n (k.counts ‼ 1) && count_fine m (k.counts ‼ 2) && count_fine n (k.counts ‼ 3)

unfoldable pub kept_fine : Sheet → Bool
kept_fine s =
    let m = s.plan.rows in
    let n = s.plan.cols in
    let k = s.kept in
    all_within max_r m k.R && all_within max_d n k.D && all_within max_c 1 k.C && all_within max_b 1 k.B && counts_fine m n k

unfoldable pub is_zero : ℤ → Bool
is_zero (pos zero) = true
is_zero (pos (suc n)) = false
is_zero (negsuc n) = false

-- 01: "gap = 1024*C - B"
unfoldable pub gap : Kept → ℤ
gap k = pos unit *ℤ (k.C ‼ 0) -ℤ k.B ‼ 0

-- 02: "with all costs 0, right signs, no absent bound needed and B above 0"
unfoldable pub none_exists : ℕ → List ℤ → Kept → Bool
none_exists n costs k = all_within 0 n costs && (is_zero (k.counts ‼ 2) && is_zero (k.counts ‼ 3)) && lt_z (pos 0) (k.B ‼ 0)

-- 01: "not a plan if either of the first two counts isn't 0; else no floor if either of the last isn't; else gap";
-- "A verdict gives 11, or 14 where a kept number is over its size"; 02: "none exists" "takes precedence over the other verdicts"
unfoldable pub verdict_by : (sizes kept none plan floor : Bool) → ℤ → Verdict
verdict_by false k e p f g = Refused 11
verdict_by true false e p f g = Refused 14
verdict_by true true true p f g = NoneExists
verdict_by true true false false f g = NotPlan
verdict_by true true false true false g = NoFloor
verdict_by true true false true true g = Gap g

unfoldable pub verdict : Sheet → Verdict
verdict s =
    let n = s.kept.counts in
    verdict_by (sizes_fine s) (kept_fine s) (none_exists s.plan.cols s.plan.costs s.kept) (is_zero (n ‼ 0) && is_zero (n ‼ 1)) (is_zero (n ‼ 2) && is_zero (n ‼ 3)) (gap s.kept)

-- a verdict as numbers: status 0, 11 or 14; kind 0 not a plan, 1 no floor, 2 gap, 3 none exists; and the gap
pub record Numbers : Type 0 where
  pub status : ℕ
  pub kind : ℕ
  pub value : ℤ

abbrev pub numbers_of : ℕ → ℕ → ℤ → Numbers
numbers_of s k g = record { status = s; kind = k; value = g }

abbrev pub verdict_numbers : Verdict → Numbers
verdict_numbers NoneExists = numbers_of 0 3 (pos 0)
verdict_numbers NotPlan = numbers_of 0 0 (pos 0)
verdict_numbers NoFloor = numbers_of 0 1 (pos 0)
verdict_numbers (Gap g) = numbers_of 0 2 g
verdict_numbers (Refused n) = numbers_of n 0 (pos 0)
