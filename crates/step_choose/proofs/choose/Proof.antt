-- `step_choose::choose`: the best column's numbers, or none. Assumes nothing.
use Rattle.rules.specs.Choose.{better_turn, best_column, other_val}
use Rattle.step_choose.proofs.Answers.{chosen, not_chosen}
use borrow.Author.Rules.{rules}
use Rattle.step_choose.proofs.choose.Statement.{statement}
use Rattle.step_choose.proofs.choose.Tie as tie

best-column-requires : tie.Need-best_column-best-requires
best-column-requires c κs = search rules

other-val-requires : tie.Need-other_val-other-requires
other-val-requires c κs = search rules

mul-t16 : tie.Need-offset_bounds-prices-col
mul-t16 c = search rules

shared-slice-read-t18 : tie.Need-bounds-prices-col
shared-slice-read-t18 c = search rules

mul-abs : tie.Need-offset_bounds-nb_var_vals-col
mul-abs c = search rules

shared-slice-read-abs : tie.Need-bounds-nb_var_vals-col
shared-slice-read-abs c = search rules

abs-requires : tie.Need-abs-requires
abs-requires c κs = search rules

returns : tie.Need-returns-then-col-n
unfolding best_column better_turn other_val
returns c =
    let b : tie.After-best_column-best = search in
    let o : tie.After-other_val-other = search in
    chosen _ _ b.best_column-best.ensures o.if-col-n.true o.other_val-other.ensures c.abs.ensures

returns-2 : tie.Need-returns
unfolding best_column better_turn
returns-2 c = not_chosen _ _ c.best_column-best.ensures c.if-col-n.false

pub choose_spec : {M : Type 1} → statement M
choose_spec =
    tie.close
    (tie.spec
    best-column-requires
    other-val-requires
    mul-t16
    shared-slice-read-t18
    mul-abs
    shared-slice-read-abs
    abs-requires
    returns
    returns-2)
