-- `step_prices::dual_ratio` meets its contract: by its tests, after both passes. Assumes nothing.
use mathlib.Core.Path.{◌∙◌}
use Rattle.rules.specs.DualRatio.{leaving_rises}
use Rattle.step_prices.specs.Lent.{columns_of}
use Rattle.step_prices.proofs.Parts.{max_step_part, pass_two_part, passing_part_holds}
use Rattle.step_prices.proofs.Answers.{ratio_23, ratio_none, ratio_exchanges}
use Rattle.step_prices.proofs.dual_ratio.Goals as goal

pub pass_one-requires : goal.pass_one-requires
pass_one-requires c = passing_part_holds c.requires.passing

pub returns-in_default : goal.returns-in_default
unfolding leaving_rises
returns-in_default c =
    let a = c.args in
    let w = columns_of a.basic_var_vals.now a.nb_var_vals.now a.prices.now a.flags.now in
    λ m. ratio_23 _ w _ _ (c.pass_one.ensures m ∙ max_step_part w _ _) c.in_default.is

pub pass_two-at-requires : goal.pass_two-at-requires
pass_two-at-requires c = passing_part_holds c.requires.passing

pub returns-then-at-count : goal.returns-then-at-count
unfolding leaving_rises
returns-then-at-count c =
    let a = c.args in
    let w = columns_of a.basic_var_vals.now a.nb_var_vals.now a.prices.now a.flags.now in
    λ m. ratio_exchanges _ w _ _ (c.pass_one.ensures m ∙ max_step_part w _ _) c.in-Some.is (c.pass_two-at.ensures m ∙ pass_two_part w _ _ _) c.if-at-count.true c.exchange.ensures

pub returns : goal.returns
unfolding leaving_rises
returns c =
    let a = c.args in
    let w = columns_of a.basic_var_vals.now a.nb_var_vals.now a.prices.now a.flags.now in
    λ m. ratio_none _ w _ _ (c.pass_one.ensures m ∙ max_step_part w _ _) c.in-Some.is (c.pass_two-at.ensures m ∙ pass_two_part w _ _ _) c.if-at-count.false
