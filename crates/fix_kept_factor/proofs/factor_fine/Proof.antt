-- `fix_kept_factor::factor_fine` meets its contract: order, L, U, diagonal. Assumes nothing.
use mathlib.Core.Path.{◌≡◌, sym, ◌∙◌}
use mathlib.Core.Bool.{true, false}
use native.Mathlib.Omega.{arith}
use borrow.Author.Rules.{rules}
use borrow.Author.Tests.{not-true, not-false}
use Rattle.lu_factor_rules.specs.Packed.{lower_rows_end, upper_starts_end, upper_rows_end, upper_t_coeffs_end, diag_end, lower_in}
use Rattle.lu_factor_rules.specs.Packed.{upper_in}
use Rattle.rules.proofs.Lists.{part_long}
use Rattle.fix_rules.specs.Kept.{triangle_fine, factor_fine}
use Rattle.fix_kept_factor.proofs.factor_fine.Statement.{statement}
use Rattle.fix_kept_factor.proofs.factor_fine.Tie as tie

-- a triangle's numbers aren't looked at
lower_told : (a : tie.After-triangle_fine) → let s : tie.Start = search in let g = s.args in
    a.triangle_fine.result ≡ triangle_fine true g.m (lower_in g.numbers.now g.coeffs.now)
unfolding triangle_fine
lower_told a = a.triangle_fine.ensures

upper_told : (a : tie.After-triangle_fine-2) → let s : tie.Start = search in let g = s.args in
    a.triangle_fine-2.result ≡ triangle_fine false g.m (upper_in g.numbers.now g.coeffs.now)
unfolding triangle_fine
upper_told a = a.triangle_fine-2.ensures

sub-order-fine : tie.Need-slice_bounds-order_fine-count
sub-order-fine c = search rules

part-order-fine-start : tie.Need-slice_bounds-order_fine-start
part-order-fine-start c = search rules

part-order-fine-end : tie.Need-slice_bounds-order_fine-end
part-order-fine-end c = search rules

sub-order-fine-2 : tie.Need-slice_bounds-order_fine-count-2
sub-order-fine-2 c = search rules

part-order-fine-start-2 : tie.Need-slice_bounds-order_fine-start-2
part-order-fine-start-2 c = search rules

part-order-fine-end-2 : tie.Need-slice_bounds-order_fine-end-2
part-order-fine-end-2 c = search rules

order-fine-requires : tie.Need-order_fine-requires
order-fine-requires c κs = search rules

returns : tie.Need-returns-then-not-order_fine
unfolding factor_fine
returns c = rw (sym c.order_fine.ensures ∙ not-true _ c.if-not-order_fine.true-raw)

sub-triangle-fine : tie.Need-slice_bounds-triangle_fine-count
sub-triangle-fine c = search rules

part-triangle-fine-start : tie.Need-slice_bounds-triangle_fine-start
part-triangle-fine-start c = search rules

part-triangle-fine-end : tie.Need-slice_bounds-triangle_fine-end
part-triangle-fine-end c = search rules

sub-triangle-fine-2 : tie.Need-slice_bounds-triangle_fine-count-2
sub-triangle-fine-2 c = search rules

part-triangle-fine-start-2 : tie.Need-slice_bounds-triangle_fine-start-2
part-triangle-fine-start-2 c = search rules

part-triangle-fine-end-2 : tie.Need-slice_bounds-triangle_fine-end-2
part-triangle-fine-end-2 c = search rules

triangle-fine-requires : tie.Need-triangle_fine-requires
triangle-fine-requires c κs = search rules

returns-2 : tie.Need-returns-then-not-triangle_fine
unfolding factor_fine
returns-2 c =
    let a : tie.Else-not-order_fine = search in
    rw (
      sym a.order_fine.ensures ∙ not-false _ a.if-not-order_fine.false-raw,
      sym (lower_told c.before) ∙ not-true _ c.if-not-triangle_fine.true-raw,
    )

sub-triangle-fine-3 : tie.Need-slice_bounds-triangle_fine-count-3
sub-triangle-fine-3 c = search rules

part-triangle-fine-start-3 : tie.Need-slice_bounds-triangle_fine-start-3
part-triangle-fine-start-3 c = search rules

part-triangle-fine-end-3 : tie.Need-slice_bounds-triangle_fine-end-3
part-triangle-fine-end-3 c = search rules

sub-triangle-fine-4 : tie.Need-slice_bounds-triangle_fine-count-4
sub-triangle-fine-4 c = search rules

part-triangle-fine-start-4 : tie.Need-slice_bounds-triangle_fine-start-4
part-triangle-fine-start-4 c = search rules

part-triangle-fine-end-4 : tie.Need-slice_bounds-triangle_fine-end-4
part-triangle-fine-end-4 c = search rules

triangle-fine-requires-2 : tie.Need-triangle_fine-requires-2
triangle-fine-requires-2 c κs =
    let s : tie.Start = search in
    let N = s.args.numbers.now in (
      s.requires.0,
      omega (arith, s.requires, part_long lower_rows_end upper_starts_end N (omega (arith, s.requires))),
      omega (arith, s.requires, part_long upper_starts_end upper_rows_end N (omega (arith, s.requires))),
    )

returns-3 : tie.Need-returns-then-not-triangle_fine-2
unfolding factor_fine
returns-3 c =
    let a : tie.Else-not-order_fine = search in
    let b : tie.Else-not-triangle_fine = search in
    rw (
      sym a.order_fine.ensures ∙ not-false _ a.if-not-order_fine.false-raw,
      sym (lower_told b.before) ∙ not-false _ b.if-not-triangle_fine.false-raw,
      sym (upper_told c.before) ∙ not-true _ c.if-not-triangle_fine-2.true-raw,
    )

sub-diagonal-fine : tie.Need-slice_bounds-diagonal_fine-count
sub-diagonal-fine c = search rules

part-diagonal-fine-start : tie.Need-slice_bounds-diagonal_fine-start
part-diagonal-fine-start c = search rules

part-diagonal-fine-end : tie.Need-slice_bounds-diagonal_fine-end
part-diagonal-fine-end c = search rules

diagonal-fine-requires : tie.Need-diagonal_fine-requires
diagonal-fine-requires c κs =
    let s : tie.Start = search in
    omega (arith, s.requires, part_long upper_t_coeffs_end diag_end s.args.coeffs.now (omega (arith, s.requires)))

returns-4 : tie.Need-returns
unfolding factor_fine
returns-4 c =
    let a : tie.Else-not-order_fine = search in
    let b : tie.Else-not-triangle_fine = search in
    let d : tie.Else-not-triangle_fine-2 = search in
    rw (
      sym a.order_fine.ensures ∙ not-false _ a.if-not-order_fine.false-raw,
      sym (lower_told b.before) ∙ not-false _ b.if-not-triangle_fine.false-raw,
      sym (upper_told d.before) ∙ not-false _ d.if-not-triangle_fine-2.false-raw,
    ) c.diagonal_fine.ensures

pub factor_fine_spec : {M : Type 1} → statement M
factor_fine_spec =
    tie.close
    (tie.spec
    sub-order-fine
    part-order-fine-start
    part-order-fine-end
    sub-order-fine-2
    part-order-fine-start-2
    part-order-fine-end-2
    order-fine-requires
    returns
    sub-triangle-fine
    part-triangle-fine-start
    part-triangle-fine-end
    sub-triangle-fine-2
    part-triangle-fine-start-2
    part-triangle-fine-end-2
    triangle-fine-requires
    returns-2
    sub-triangle-fine-3
    part-triangle-fine-start-3
    part-triangle-fine-end-3
    sub-triangle-fine-4
    part-triangle-fine-start-4
    part-triangle-fine-end-4
    triangle-fine-requires-2
    returns-3
    sub-diagonal-fine
    part-diagonal-fine-start
    part-diagonal-fine-end
    diagonal-fine-requires
    returns-4)
