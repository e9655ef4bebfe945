-- `step_ratio::pivot_by`: the numbers of its case. Assumes nothing.
use Prim.Native.Nat.{◌<◌}
use native.Mathlib.Omega.{arith}
use borrow.Author.Rules.{scaled_Fits, rules}
use lib.ListN.{length, get_or}
use Rattle.rules.specs.Ratio.{ahead}
use Rattle.step_ratio.proofs.Answers.{pivot_exchange, pivot_unbounded, pivot_flip}
use Rattle.step_ratio.proofs.pivot_by.Statement.{statement}
use Rattle.step_ratio.proofs.pivot_by.Tie as tie

-- where a row leaves: the function's entry, and that the listed place is a row
abbrev entry : tie.Then-at-count → tie.Start
entry a = search

inside : (a : tie.Then-at-count) → get_or (entry a).args.list.now (entry a).args.at 0 < length (entry a).args.kept.now
inside a = (entry a).requires.0.listing.rows_listed.inside _ a.if-at-count.true

rises-requires : tie.Need-rises-up-requires
rises-requires c κs = search rules

mul-row : tie.Need-offset_bounds-list-at
mul-row c = search rules

element-copy-out-row : tie.Need-bounds-list-at
element-copy-out-row c = search rules

mul-pivot : tie.Need-offset_bounds-values-row
mul-pivot c = let a : tie.Then-at-count = search in omega (arith, inside a, (entry a).requires.0.listing.rows_fit)

element-copy-out-pivot : tie.Need-bounds-values-row
element-copy-out-pivot c = let a : tie.Then-at-count = search in omega (arith, inside a, (entry a).requires.0.listing.rows_fit)

ahead-requires : tie.Need-ahead-leaving-requires
ahead-requires c κs = let a : tie.Then-at-count = search in (((entry a).requires.0.sides, omega (arith, inside a, (entry a).requires.0.rows.basic_vars_long)), (entry a).requires.0.rows.row _ (inside a))

mul-diff : tie.Need-offset_bounds-basic_var_vals-row
mul-diff c = let a : tie.Then-at-count = search in scaled_Fits _ (length (entry a).args.basic_var_vals.now) 8 (omega (arith, inside a, (entry a).requires.0.rows.basic_var_vals_long)) (entry a).well_formed.1.1.1.1.1.1.1.0.1

shared-slice-read-diff : tie.Need-bounds-basic_var_vals-row
shared-slice-read-diff c = let a : tie.Then-at-count = search in omega (arith, inside a, (entry a).requires.0.rows.basic_var_vals_long)

mul-value : tie.Need-offset_bounds-nb_var_vals-col
mul-value c = search rules

shared-slice-read-value : tie.Need-bounds-nb_var_vals-col
shared-slice-read-value c = search rules

returns : tie.Need-returns-then-at-count
unfolding ahead
returns c =
    let a : tie.Then-at-count = search in
    let h : tie.After-ahead-leaving = search in
    let u : tie.After-rises-up = search in
    λ m. pivot_exchange _ _ _ _ _ _ u.rises-up.ensures a.if-at-count.true h.ahead-leaving.ensures

is-infinite-requires : tie.Need-is_infinite-requires
is-infinite-requires c κs = search rules

returns-2 : tie.Need-returns-then-is_infinite
returns-2 c = λ m. pivot_unbounded _ _ _ _ _ _ c.if-at-count.false c.is_infinite.ensures c.if-is_infinite.true

mul-diff-2 : tie.Need-offset_bounds-nb_var_vals-col-2
mul-diff-2 c = search rules

shared-slice-read-diff-2 : tie.Need-bounds-nb_var_vals-col-2
shared-slice-read-diff-2 c = search rules

returns-3 : tie.Need-returns
returns-3 c =
    let a : tie.Else-is_infinite = search in
    λ m. pivot_flip _ _ _ _ _ _ a.if-at-count.false a.is_infinite.ensures a.if-is_infinite.false

pub pivot_by_spec : {M : Type 1} → statement M
pivot_by_spec =
    tie.close
    (tie.spec
    rises-requires
    mul-row
    element-copy-out-row
    mul-pivot
    element-copy-out-pivot
    ahead-requires
    mul-diff
    shared-slice-read-diff
    mul-value
    shared-slice-read-value
    returns
    is-infinite-requires
    returns-2
    mul-diff-2
    shared-slice-read-diff-2
    returns-3)
