-- `sheet_change_totals::column_totals` meets its contract. Assumes nothing.
use borrow.Author.Rules.{rules}
use mathlib.Core.Path.{ap, ◌∙◌}
use Rattle.sheet_terms.specs.Small.{far_d}
use Rattle.sheet_change_totals.specs.Parts.{column_part, moved_totals, SmallColumn}
use Rattle.sheet_change_totals.proofs.Sizes.{wider, near, column_part_small, column_after_small}
use Rattle.sheet_change_totals.proofs.column_totals.Statement.{statement}
use Rattle.sheet_change_totals.proofs.column_totals.Tie as tie

module _ (c : tie.After-column_after-after) where
  old_small : SmallColumn far_d c.args.x
  old_small = wider c.args.x c.requires.2

  new_small : SmallColumn far_d c.column_after-after.result
  new_small = let s = c.before in rw c.column_after-after.ensures (column_after_small s.args.e s.requires.0 s.args.x s.requires.2)

column-after-requires : tie.Need-column_after-after-requires
column-after-requires c κs = search rules

column-part-requires : tie.Need-column_part-requires
column-part-requires c κs = search (old_small c, new_small c)

column-part-requires-2 : tie.Need-column_part-requires-2
column-part-requires-2 c κs = search (old_small c.before, new_small c.before)

moved-requires : tie.Need-moved-requires
moved-requires c κs =
    let m = c.before.before in
    (near m.args.t m.requires.1, rw c.column_part.ensures (column_part_small _ (search (old_small m, new_small m))), rw c.column_part-2.ensures (column_part_small _ (search (old_small m, new_small m))))

returns : tie.Need-returns
returns c = c.moved.ensures ∙ (λ h. moved_totals c.args.t (c.column_part.ensures h) ((c.column_part-2.ensures ∙ ap column_part c.column_after-after.ensures) h))

pub column_totals_spec : {M : Type 1} → statement M
column_totals_spec = tie.close (tie.spec column-after-requires column-part-requires column-part-requires-2 moved-requires returns)
