-- `step_ratio::ratio` meets its contract: by its tests, after both passes. Assumes nothing.
use mathlib.Core.Path.{◌∙◌}
use native.Mathlib.Omega.{arith}
use Rattle.rules.specs.Choose.{other_val}
use Rattle.step_ratio.proofs.Parts.{leaving_part_holds, pivot_part, passing}
use Rattle.step_ratio.proofs.Answers.{ratio_far, ratio_23, ratio_pivots}
use Rattle.step_ratio.proofs.ratio.Goals as goal

pub returns-then-not-is_infinite-is_finite : goal.returns-then-not-is_infinite-is_finite
unfolding other_val
returns-then-not-is_infinite-is_finite c =
    λ m. ratio_far _ _ _ _ c.other_val-other.ensures c.is_infinite.ensures c.is_finite.ensures c.if-not-is_infinite-is_finite.true

pub leaving_row-requires : goal.leaving_row-requires
leaving_row-requires c = passing c.requires

pub returns-in_default : goal.returns-in_default
unfolding other_val
returns-in_default c =
    λ m. ratio_23 _ _ _ _ c.other_val-other.ensures c.is_infinite.ensures c.is_finite.ensures c.if-not-is_infinite-is_finite.false
    (c.leaving_row.ensures m ∙ leaving_part_holds _ _ _ _ _) c.in_default.is

pub pivot_by-requires : goal.pivot_by-requires
pivot_by-requires c = record { passing = passing c.requires; col_in_bounds = omega (arith, c.requires.col_inside, c.requires.vals_long) }

pub returns : goal.returns
unfolding other_val
returns c =
    λ m. ratio_pivots _ _ _ _ c.other_val-other.ensures c.is_infinite.ensures c.is_finite.ensures c.if-not-is_infinite-is_finite.false
    (c.leaving_row.ensures m ∙ leaving_part_holds _ _ _ _ _) c.in-Some.is (c.pivot_by.ensures m ∙ pivot_part _ _ _ _ _ _)
