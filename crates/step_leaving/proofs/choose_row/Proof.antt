-- `step_leaving::choose_row`: the best row's numbers, or none. Assumes nothing.
use borrow.Author.Rules.{rules}
use Rattle.rules.specs.Plan.{var_min, var_max}
use Rattle.rules.specs.DualRow.{better_row_turn, best_row}
use Rattle.step_leaving.proofs.Answers.{chosen, not_chosen}
use Rattle.rules.specs.Parts.{bounded}
use Rattle.step_leaving.specs.Lent.{rows_of}
use Rattle.step_leaving.proofs.choose_row.Statement.{statement}
use Rattle.step_leaving.proofs.choose_row.Tie as tie

best-row-requires : tie.Need-best_row-best-requires
best-row-requires c κs = search rules

mul-v : tie.Need-offset_bounds-basic_vars-row
mul-v c = search rules

shared-slice-read-v : tie.Need-bounds-basic_vars-row
shared-slice-read-v c = search rules

var-min-requires : tie.Need-var_min-lower-requires
var-min-requires c κs = let a : tie.Then-row-kept = search in let s : tie.Start = search in (s.requires.sides.lower, s.requires.row _ a.if-row-kept.true)

var-max-requires : tie.Need-var_max-upper-requires
var-max-requires c κs = let a : tie.Then-row-kept = search in let s : tie.Start = search in (s.requires.sides.upper, s.requires.row _ a.if-row-kept.true)

mul-value : tie.Need-offset_bounds-basic_var_vals-row
mul-value c = search rules

shared-slice-read-value : tie.Need-bounds-basic_var_vals-row
shared-slice-read-value c = search rules

infeasibility-requires : tie.Need-infeasibility-requires
infeasibility-requires c κs = search rules

bound-broken-requires : tie.Need-bound_broken-requires
bound-broken-requires c κs = search rules

returns : tie.Need-returns-then-row-kept
unfolding best_row better_row_turn var_min var_max
returns c =
    let b : tie.After-best_row-best = search in
    let a : tie.Then-row-kept = search in
    let lo : tie.After-var_min-lower = search in
    let hi : tie.After-var_max-upper = search in
    let i : tie.After-infeasibility = search in
    let s : tie.Start = search in
    chosen (bounded s.args.n s.args.lowers.now s.args.uppers.now s.args.ops.now s.args.kept.now)
    (rows_of s.args.basic_vars.now s.args.basic_var_vals.now s.args.dual_norms.now) b.best_row-best.ensures a.if-row-kept.true lo.var_min-lower.ensures hi.var_max-upper.ensures i.infeasibility.ensures c.bound_broken.ensures

returns-2 : tie.Need-returns
unfolding best_row better_row_turn
returns-2 c =
    let b : tie.After-best_row-best = search in
    let s : tie.Start = search in
    not_chosen (bounded s.args.n s.args.lowers.now s.args.uppers.now s.args.ops.now s.args.kept.now)
    (rows_of s.args.basic_vars.now s.args.basic_var_vals.now s.args.dual_norms.now) b.best_row-best.ensures c.if-row-kept.false

pub choose_row_spec : {M : Type 1} → statement M
choose_row_spec =
    tie.close
    (tie.spec
    best-row-requires
    mul-v
    shared-slice-read-v
    var-min-requires
    var-max-requires
    mul-value
    shared-slice-read-value
    infeasibility-requires
    bound-broken-requires
    returns
    returns-2)
