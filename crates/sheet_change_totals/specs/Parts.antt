-- C, B and the counts over numbers alone: what one column and one row add to them, and how an edit moves them. Assumes nothing.
use Rattle.std.specs.Prelude.{Bool, true, false, not, List, ℕ, ◌+◌, ◌*◌, ◌≤◌, eqb, ltb, ℤ, pos, nat_abs, ◌+ℤ◌, ◌-ℤ◌, ◌*ℤ◌}
use Rattle.doubles.specs.Limits.{max_columns, max_cost, max_right_side, max_bound, max_amount, max_multiplier, max_c, max_b, unit}
use Rattle.doubles.specs.Lists.{◌#◌}
use Rattle.sheet_rules.specs.Sum.{◌‼◌, bit}
use Rattle.sheet_rules.specs.Sheet.{holds, wrong, outside, term, lacks}
use Rattle.sheet_rules.specs.declared.Edit.{Edit}
use Rattle.sheet_terms.specs.Small.{far_d}
use Rattle.sheet_change_moves.specs.declared.Totals.{Totals}
use Rattle.sheet_change_totals.specs.declared.Column.{Column}
use Rattle.sheet_change_totals.specs.declared.Row.{Row}

abbrev pub totals_of : ℤ → ℤ → ℤ → ℤ → ℤ → ℤ → Totals
totals_of c b n0 n1 n2 n3 = record { cost = c; floor = b; broken = n0; outside = n1; wrong = n2; absent = n3 }

abbrev pub column_of : ℤ → ℤ → ℤ → ℕ → ℕ → ℤ → ℤ → Column
column_of c l u lm um x d = record { cost = c; low = l; high = u; lowmark = lm; highmark = um; amount = x; price = d }

abbrev pub row_of : ℤ → ℕ → ℤ → ℤ → Row
row_of b o r y = record { right = b; op = o; activity = r; mult = y }

abbrev pub pick : {A : Type 0} → Bool → A → A → A
pick true new old = new
pick false new old = old

-- ---- as lent; a column or row that is not there is one of zeros
unfoldable pub totals_now : List ℤ → List ℤ → List ℤ → Totals
totals_now c b n = totals_of (c ‼ 0) (b ‼ 0) (n ‼ 0) (n ‼ 1) (n ‼ 2) (n ‼ 3)

unfoldable pub column_at : (n j : ℕ) → List ℤ → List ℤ → List ℤ → List ℕ → List ℕ → List ℤ → List ℤ → Column
column_at n j c l u lm um x d = pick (ltb j n) (column_of (c ‼ j) (l ‼ j) (u ‼ j) (lm # j) (um # j) (x ‼ j) (d ‼ j)) (column_of (pos 0) (pos 0) (pos 0) 0 0 (pos 0) (pos 0))

unfoldable pub row_at : (m i : ℕ) → List ℤ → List ℕ → List ℤ → List ℤ → Row
row_at m i b o r y = pick (ltb i m) (row_of (b ‼ i) (o # i) (r ‼ i) (y ‼ i)) (row_of (pos 0) 0 (pos 0) (pos 0))

-- ---- what a column adds, and what a row adds
unfoldable pub column_part : Column → Totals
column_part x = totals_of (x.cost *ℤ x.amount) (term x.price x.low x.high x.lowmark x.highmark) (pos 0) (bit (outside x.amount x.low x.high x.lowmark x.highmark)) (pos 0) (bit (lacks x.price x.lowmark x.highmark))

unfoldable pub row_part : Row → Totals
row_part y = totals_of (pos 0) (y.mult *ℤ y.right) (bit (not (holds y.op y.activity y.right))) (pos 0) (bit (wrong y.op y.mult)) (pos 0)

-- 01: "Touched sums and counts move by the change in their terms"
unfoldable pub moved_totals : Totals → Totals → Totals → Totals
moved_totals t old new = totals_of (t.cost +ℤ (new.cost -ℤ old.cost)) (t.floor +ℤ (new.floor -ℤ old.floor)) (t.broken +ℤ (new.broken -ℤ old.broken)) (t.outside +ℤ (new.outside -ℤ old.outside)) (t.wrong +ℤ (new.wrong -ℤ old.wrong)) (t.absent +ℤ (new.absent -ℤ old.absent))

-- ---- as the edit leaves them: the column of kinds 1 to 4, 8 and 9, the row of kinds 5 and 7
unfoldable pub column_after : Edit → Column → Column
column_after e x =
    let k = e.kind in
    let v = e.number in
    column_of
    (pick (eqb k 2) v x.cost)
    (pick (eqb k 8) (pos 0) (pick (eqb k 3) v x.low))
    (pick (eqb k 9) (pos 0) (pick (eqb k 4) v x.high))
    (pick (eqb k 8) 0 (pick (eqb k 3) 1 x.lowmark))
    (pick (eqb k 9) 0 (pick (eqb k 4) 1 x.highmark))
    (pick (eqb k 1) v x.amount)
    (pick (eqb k 2) (x.price +ℤ pos unit *ℤ (v -ℤ x.cost)) x.price)

unfoldable pub row_after : Edit → Row → Row
row_after e y = row_of (pick (eqb e.kind 5) e.number y.right) y.op y.activity (pick (eqb e.kind 7) e.number y.mult)

abbrev pub column_totals : Edit → Totals → Column → Totals
column_totals e t x = moved_totals t (column_part x) (column_part (column_after e x))

abbrev pub row_totals : Edit → Totals → Row → Totals
row_totals e t y = moved_totals t (row_part y) (row_part (row_after e y))

-- kind 6: the coefficient moves by z, and with it R and D
abbrev pub risen : Row → ℤ → Row
risen y z = row_of y.right y.op (y.activity +ℤ z) y.mult

abbrev pub fallen : Column → ℤ → Column
fallen x z = column_of x.cost x.low x.high x.lowmark x.highmark x.amount (x.price -ℤ z)

abbrev pub coef_totals : Totals → Column → Row → ℤ → Totals
coef_totals t x y z = moved_totals (moved_totals t (row_part y) (row_part (risen y (z *ℤ x.amount)))) (column_part x) (column_part (fallen x (z *ℤ y.mult)))

-- kind 1 moves R of every row, kind 7 D of every column
abbrev pub with_broken : Totals → ℤ → Totals
with_broken t n = totals_of t.cost t.floor (t.broken +ℤ n) t.outside t.wrong t.absent

abbrev pub with_terms : Totals → ℤ → ℤ → Totals
with_terms t b n = totals_of t.cost (t.floor +ℤ b) t.broken t.outside t.wrong (t.absent +ℤ n)

-- ---- sizes
pub record SmallColumn (limit : ℕ) (x : Column) : Type 0 where
  pub cost_in : nat_abs x.cost ≤ max_cost
  pub low_in : nat_abs x.low ≤ max_bound
  pub high_in : nat_abs x.high ≤ max_bound
  pub amount_in : nat_abs x.amount ≤ max_amount
  pub price_in_holds : nat_abs x.price ≤ limit

pub record SmallRow (y : Row) : Type 0 where
  pub right_in : nat_abs y.right ≤ max_right_side
  pub mult_in : nat_abs y.mult ≤ max_multiplier

pub record SmallTotals (c b n : ℕ) (t : Totals) : Type 0 where
  pub cost_in : nat_abs t.cost ≤ c
  pub floor_in : nat_abs t.floor ≤ b
  pub broken_in : nat_abs t.broken ≤ n
  pub outside_in : nat_abs t.outside ≤ n
  pub wrong_in : nat_abs t.wrong ≤ n
  pub absent_in : nat_abs t.absent ≤ n

abbrev pub Part : Totals → Type 0
Part = SmallTotals (max_cost * max_amount) (far_d * max_bound) 1

abbrev pub Whole : Totals → Type 0
Whole = SmallTotals max_c max_b max_columns

-- a move away from that
abbrev pub Near : Totals → Type 0
Near = SmallTotals (max_c + (max_cost * max_amount + max_cost * max_amount)) (max_b + (far_d * max_bound + far_d * max_bound)) (max_columns + (1 + 1))
