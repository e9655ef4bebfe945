-- 01's table of touched cells. Assumes nothing.
use Rattle.std.specs.Prelude.{Bool, false, not, ◌&&◌, ◌||◌, ℕ, zero, suc, ◌+◌, ◌*◌, ltb, eqb, ℤ, pos}
use Rattle.doubles.specs.Lists.{◌#◌}
use Rattle.sheet_rules.specs.Sum.{◌‼◌}
use Rattle.sheet_rules.specs.Sheet.{Sheet, a}
use Rattle.sheet_rules.specs.Verdict.{is_zero}
use Rattle.sheet_rules.specs.declared.Edit.{Edit}

-- a lent cell: its array, and its place there
pub data Cell : Type 0 where
  coef cost lower upper lower_mark upper_mark right op amount mult R D C B count : ℕ → Cell

-- the number of a cell
unfoldable pub read : Sheet → Cell → ℤ
read s (coef k) = s.plan.coefs ‼ k
read s (cost k) = s.plan.costs ‼ k
read s (lower k) = s.plan.lowers ‼ k
read s (upper k) = s.plan.uppers ‼ k
read s (lower_mark k) = pos (s.plan.lower_marks # k)
read s (upper_mark k) = pos (s.plan.upper_marks # k)
read s (right k) = s.plan.rhs ‼ k
read s (op k) = pos (s.plan.ops # k)
read s (amount k) = s.plan.amounts ‼ k
read s (mult k) = s.plan.mults ‼ k
read s (R k) = s.kept.R ‼ k
read s (D k) = s.kept.D ‼ k
read s (C k) = s.kept.C ‼ k
read s (B k) = s.kept.B ‼ k
read s (count k) = s.kept.counts ‼ k

-- 01's table, read by its cells: the edited number and its mark, and what stands under "Also touched"
module _ (s : Sheet) (e : Edit) where
  abbrev is : ℕ → Bool
  is k = eqb e.kind k

  -- that cell of the edited column, or of the edited row
  abbrev there : ℕ → Bool
  there j = eqb j e.column

  abbrev in_row : ℕ → Bool
  in_row i = eqb i e.row

  unfoldable pub touches : Cell → Bool
  touches (coef k) = is 6 && eqb k (e.row * s.plan.cols + e.column)
  touches (cost j) = is 2 && there j
  touches (lower j) = (is 3 || is 8) && there j
  touches (upper j) = (is 4 || is 9) && there j
  touches (lower_mark j) = (is 3 || is 8) && there j
  touches (upper_mark j) = (is 4 || is 9) && there j
  touches (right i) = is 5 && in_row i
  touches (op i) = false
  touches (amount j) = is 1 && there j
  touches (mult i) = is 7 && in_row i
  -- "R of rows with a nonzero entry there" (1), "that R" (6)
  touches (R i) = (is 1 && ltb i s.plan.rows && not (is_zero (a s.plan i e.column))) || (is 6 && in_row i)
  -- "that D" (2, 6), "D of columns with a nonzero entry there" (7)
  touches (D j) = ((is 2 || is 6) && there j) || (is 7 && ltb j s.plan.cols && not (is_zero (a s.plan e.row j)))
  touches (C zero) = is 1 || is 2
  touches (C (suc k)) = false
  touches (B zero) = not (is 1)
  touches (B (suc k)) = false
  -- the four counts: broken (1, 5, 6), amounts (1, 3, 4, 8, 9), signs (7), absent (2, 3, 4, 6, 7, 8, 9)
  touches (count zero) = is 1 || is 5 || is 6
  touches (count (suc zero)) = is 1 || is 3 || is 4 || is 8 || is 9
  touches (count (suc (suc zero))) = is 7
  touches (count (suc (suc (suc zero)))) = not (is 1 || is 5)
  touches (count (suc (suc (suc (suc k))))) = false
