-- `sheet_change_totals::coef_totals` meets its contract. Assumes nothing.
use mathlib.Core.Path.{◌≡◌, ap, ◌∙◌}
use native.Mathlib.Nat.{le_trans}
use lib.Dec.{lit≤}
use Rattle.doubles.specs.Limits.{max_coefficient, max_cost, max_amount, max_bound, max_multiplier, max_right_side, max_r, max_d}
use Rattle.sheet_terms.specs.Small.{far_d}
use Rattle.sheet_terms.proofs.Machine.{E, num, add, sub, mul, val, mach, word, exact, size, fit, seen}
use Rattle.sheet_change_totals.specs.declared.Column.{Column}
use Rattle.sheet_change_totals.specs.declared.Row.{Row}
use Rattle.sheet_change_totals.specs.Parts.{column_of, row_of, column_part, row_part, moved_totals, risen, fallen, SmallColumn, SmallRow, Part}
use Rattle.sheet_change_totals.proofs.Sizes.{wider, near, column_part_small, row_part_small, moved_near}
use Rattle.sheet_change_totals.proofs.coef_totals.Statement.{statement}
use Rattle.sheet_change_totals.proofs.coef_totals.Tie as tie

module _ (s : tie.Start) where
  abbrev x : Column
  x = s.args.x

  abbrev y : Row
  y = s.args.y

  abbrev by : E
  by = sub (num s.args.e.number max_coefficient s.requires.0) (num s.args.coef max_coefficient s.requires.5)

  abbrev lifted : E
  lifted = mul by (num x.amount max_amount s.requires.2.amount_in)

  abbrev activity : E
  activity = add (num y.activity max_r s.requires.4) lifted

  abbrev lowered : E
  lowered = mul by (num y.mult max_multiplier s.requires.3.mult_in)

  abbrev price : E
  price = sub (num x.price max_d s.requires.2.price_in_holds) lowered

  -- the row and the column as the machine has them
  abbrev row : Row
  row = row_of (word y.right) y.op (mach activity) (word y.mult)

  abbrev column : Column
  column = column_of (word x.cost) (word x.low) (word x.high) x.lowmark x.highmark (word x.amount) (mach price)

  risen_is : row ≡ risen y (val lifted)
  risen_is h = row_of (exact (num y.right max_right_side s.requires.3.right_in) tt h) y.op (exact activity tt h) (exact (num y.mult max_multiplier s.requires.3.mult_in) tt h)

  fallen_is : column ≡ fallen x (val lowered)
  fallen_is h = column_of (exact (num x.cost max_cost s.requires.2.cost_in) tt h) (exact (num x.low max_bound s.requires.2.low_in) tt h) (exact (num x.high max_bound s.requires.2.high_in) tt h) x.lowmark x.highmark (exact (num x.amount max_amount s.requires.2.amount_in) tt h) (exact price tt h)

  risen_small : SmallRow row
  risen_small = record { right_in = seen y.right max_right_side s.requires.3.right_in tt; mult_in = seen y.mult max_multiplier s.requires.3.mult_in tt }

  fallen_small : SmallColumn far_d column
  fallen_small = record { cost_in = seen x.cost max_cost s.requires.2.cost_in tt; low_in = seen x.low max_bound s.requires.2.low_in tt; high_in = seen x.high max_bound s.requires.2.high_in tt; amount_in = seen x.amount max_amount s.requires.2.amount_in tt; price_in_holds = rw (exact price tt) (le_trans (size price tt) (lit≤ tt)) }

abbrev start : tie.After-struct_told-11-1 → tie.Start
start c = c.before.before.before.before.before.before.before.before.before.before.before.before.before.before.before.before

module _ (c : tie.After-row_part-2) where
  old_row : Part c.row_part.result
  old_row = rw c.row_part.ensures (row_part_small (start c.before.before).args.y (start c.before.before).requires.3)

  new_row : Part c.row_part-2.result
  new_row = rw c.row_part-2.ensures (row_part_small (row (start c.before.before)) (risen_small (start c.before.before)))

sub_by : tie.Need-overflow_sub-by
sub_by c = let s : tie.Start = search in fit (by s) tt

mul-t10 : tie.Need-overflow_mul-risen
mul-t10 c = let s : tie.Start = search in fit (lifted s) tt

add-t11 : tie.Need-overflow_add-risen
add-t11 c = let s : tie.Start = search in fit (activity s) tt

mul-t10-2 : tie.Need-overflow_mul-fallen
mul-t10-2 c = let s : tie.Start = search in fit (lowered s) tt

sub-t11 : tie.Need-overflow_sub-fallen
sub-t11 c = let s : tie.Start = search in fit (price s) tt

row-part-requires : tie.Need-row_part-requires
row-part-requires c κs = let s = start c in s.requires.3

row-part-requires-2 : tie.Need-row_part-requires-2
row-part-requires-2 c κs = let s = start c.before in risen_small s

moved-requires : tie.Need-moved-z-requires
moved-requires c κs = let s = start c.before.before in (near s.args.t s.requires.1, old_row c, new_row c)

column-part-requires : tie.Need-column_part-requires
column-part-requires c κs = let s = start c.before.before.before in wider s.args.x s.requires.2

column-part-requires-2 : tie.Need-column_part-requires-2
column-part-requires-2 c κs = let s = start c.before.before.before.before in fallen_small s

moved-requires-2 : tie.Need-moved-requires
moved-requires-2 c κs =
    let s = start c.before.before.before.before.before in
    let m = c.before.before in
    (rw m.moved-z.ensures (moved_near s.args.t _ _ s.requires.1 (old_row m.before) (new_row m.before)), rw c.column_part.ensures (column_part_small s.args.x (wider s.args.x s.requires.2)), rw c.column_part-2.ensures (column_part_small _ (fallen_small s)))

returns : tie.Need-returns
returns c =
    let s = start c.before.before.before.before.before.before in
    let m = c.before.before.before in
    let row = m.moved-z.ensures ∙ (λ h. moved_totals s.args.t (m.row_part.ensures h) ((m.row_part-2.ensures ∙ ap row_part (risen_is s)) h)) in
    c.moved.ensures ∙ (λ h. moved_totals (row h) (c.column_part.ensures h) ((c.column_part-2.ensures ∙ ap column_part (fallen_is s)) h))

pub coef_totals_spec : {M : Type 1} → statement M
coef_totals_spec =
    tie.close
    (tie.spec
    sub_by
    mul-t10
    add-t11
    mul-t10-2
    sub-t11
    row-part-requires
    row-part-requires-2
    moved-requires
    column-part-requires
    column-part-requires-2
    moved-requires-2
    returns)
