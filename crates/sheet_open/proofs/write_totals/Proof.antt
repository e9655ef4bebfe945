-- `sheet_open::write_totals` meets its contract. Assumes nothing.
use mathlib.Core.Path.{ap, ◌∙◌}
use Prim.Native.Nat.{◌*◌}
use native.Mathlib.Nat.{le_trans, le_refl}
use lib.Dec.{lit≤}
use lib.IntN.{ℤ, ◌+ℤ◌}
use borrow.Author.Rules.{rules}
use Rattle.doubles.specs.Limits.{max_columns, max_multiplier, max_right_side, max_bound}
use Rattle.sheet_terms.specs.Small.{far_d}
use Rattle.sheet_terms.proofs.Machine.{result, E, num, exact, fit, add}
use lib.ListN.{set}
use Rattle.sheet_rules.specs.Sheet.{Plan, plan_of, cost}
use Rattle.sheet_open.specs.At.{floor_at}
use Rattle.sheet_open.proofs.Laws.{weaken, terms_small}
use Rattle.sheet_terms.proofs.Laws.{dot_small, set_one}
use Rattle.sheet_open.proofs.write_totals.Statement.{statement}
use Rattle.sheet_open.proofs.write_totals.Tie as tie

abbrev p : tie.Start → Plan
p s = plan_of s.args.rows s.args.columns s.args.coefs.now s.args.costs.now s.args.lowers.now s.args.uppers.now s.args.lower_marks.now s.args.upper_marks.now s.args.rhs.now s.args.ops.now s.args.amounts.now s.args.mults.now

-- B, as the machine adds it up
abbrev whole : tie.After-column_terms → E
whole c =
    let s = c.before.before.before.before.before.before in
    add
    (num c.dot-sides.result (max_columns * (max_multiplier * max_right_side)) (rw c.dot-sides.ensures (dot_small max_multiplier max_right_side s.args.rows s.args.rows _ _ (le_trans s.requires.0.rows_few (lit≤ tt)) s.requires.1.mults_small s.requires.1.rhs_small (le_refl s.args.rows))))
    (num c.column_terms.result (max_columns * (far_d * max_bound)) (rw c.column_terms.ensures (terms_small (p s) s.args.d.now s.requires.0 s.requires.1 s.requires.2)))

dot-requires : tie.Need-dot-requires
dot-requires c κs = let s = c.before.before.before in (s.requires.0.cols_few, s.requires.1.costs_small, weaken (lit≤ tt) s.requires.1.amounts_small)

slice-set-from-b : tie.Need-bounds-c-0
slice-set-from-b c = search rules

dot-requires-2 : tie.Need-dot-sides-requires
dot-requires-2 c κs = search rules

column-terms-requires : tie.Need-column_terms-requires
column-terms-requires c κs = search rules

add-b : tie.Need-overflow_add-b
add-b c = fit (whole c) tt

slice-set-from-b-2 : tie.Need-bounds-b-0
slice-set-from-b-2 c = search rules

same_length : tie.Need-shape_of-c
same_length c = search rules

same-length-2 : tie.Need-shape_of-b
same-length-2 c = search rules

returns : tie.Need-returns
unfolding cost floor_at
returns c =
    let s = c.before.before.before.before.before.before in (
      ap (λ (z : ℤ). set s.args.c.now 0 z) (result c.dot.result c.dot.type_inv ∙ c.dot.ensures) ∙ set_one s.args.c.now _ s.requires.3,
      ap (λ (z : ℤ). set s.args.b.now 0 z) (exact (whole c) tt ∙ (λ i. c.dot-sides.ensures i +ℤ c.column_terms.ensures i)) ∙ set_one s.args.b.now _ s.requires.4,
    )

pub write_totals_spec : {M : Type 1} → statement M
write_totals_spec =
    tie.close
    (tie.spec
    dot-requires
    slice-set-from-b
    dot-requires-2
    column-terms-requires
    add-b
    slice-set-from-b-2
    same_length
    same-length-2
    returns)
