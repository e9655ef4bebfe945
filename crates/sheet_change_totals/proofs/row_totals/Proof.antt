-- `sheet_change_totals::row_totals` meets its contract. Assumes nothing.
use borrow.Author.Rules.{rules}
use mathlib.Core.Path.{ap, ◌∙◌}
use Rattle.sheet_change_totals.specs.Parts.{row_part, moved_totals, SmallRow}
use Rattle.sheet_change_totals.proofs.Sizes.{near, row_part_small, row_after_small}
use Rattle.sheet_change_totals.proofs.row_totals.Statement.{statement}
use Rattle.sheet_change_totals.proofs.row_totals.Tie as tie

module _ (c : tie.After-row_after-after) where
  old_small : SmallRow c.args.y
  old_small = c.requires.2

  new_small : SmallRow c.row_after-after.result
  new_small = let s = c.before in rw c.row_after-after.ensures (row_after_small s.args.e s.requires.0 s.args.y s.requires.2)

row-after-requires : tie.Need-row_after-after-requires
row-after-requires c κs = search rules

row-part-requires : tie.Need-row_part-requires
row-part-requires c κs = search (old_small c, new_small c)

row-part-requires-2 : tie.Need-row_part-requires-2
row-part-requires-2 c κs = search (old_small c.before, new_small c.before)

moved-requires : tie.Need-moved-requires
moved-requires c κs =
    let m = c.before.before in
    (near m.args.t m.requires.1, rw c.row_part.ensures (row_part_small _ (search (old_small m, new_small m))), rw c.row_part-2.ensures (row_part_small _ (search (old_small m, new_small m))))

returns : tie.Need-returns
returns c = c.moved.ensures ∙ (λ h. moved_totals c.args.t (c.row_part.ensures h) ((c.row_part-2.ensures ∙ ap row_part c.row_after-after.ensures) h))

pub row_totals_spec : {M : Type 1} → statement M
row_totals_spec = tie.close (tie.spec row-after-requires row-part-requires row-part-requires-2 moved-requires returns)
