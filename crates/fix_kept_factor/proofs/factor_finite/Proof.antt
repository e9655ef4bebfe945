-- `fix_kept_factor::factor_finite` meets its contract: L, U, diagonal. Assumes nothing.
use mathlib.Core.Path.{◌≡◌, sym, ◌∙◌}
use Prim.Native.Nat.{◌+◌}
use native.Mathlib.Omega.{arith}
use borrow.Author.Rules.{rules}
use borrow.Author.Tests.{not-true, not-false}
use Rattle.doubles.specs.Loop.{all}
use Rattle.doubles.specs.Lists.{◌#◌}
use Rattle.lu_gate.specs.Gate.{finite_at}
use Rattle.lu_factor_rules.specs.Packed.{number_end, lower_starts_end, lower_rows_end, upper_starts_end, lower_coeffs_end}
use Rattle.lu_factor_rules.specs.Packed.{upper_coeffs_end, upper_t_coeffs_end, diag_end, lower_in, upper_in}
use Rattle.rules.proofs.Lists.{part_long, part_at}
use Rattle.fix_rules.specs.Kept.{factor_finite}
use Rattle.fix_rules.proofs.Kept.{lower_told, upper_told}
use Rattle.fix_kept_factor.proofs.factor_finite.Statement.{statement}
use Rattle.fix_kept_factor.proofs.factor_finite.Tie as tie

-- the last starts, where they stand
lower_last : (s : tie.Start) → let g = s.args in
    (lower_in g.numbers.now g.coeffs.now).starts # g.m ≡ g.numbers.now # (number_end + g.m)
lower_last s = part_at number_end lower_starts_end s.args.numbers.now s.args.m 0 (omega (arith, s.requires.0))

upper_last : (s : tie.Start) → let g = s.args in
    (upper_in g.numbers.now g.coeffs.now).starts # g.m ≡ g.numbers.now # (lower_rows_end + g.m)
upper_last s = part_at lower_rows_end upper_starts_end s.args.numbers.now s.args.m 0 (omega (arith, s.requires.0))

-- what the tests say
lower_finite : (a : tie.After-all_finite) → let s : tie.Start = search in let g = s.args in
    let l = lower_in g.numbers.now g.coeffs.now in
    a.all_finite.result ≡ all (l.starts # g.m) (finite_at l.vals)
lower_finite a = let s : tie.Start = search in rw (lower_last s) a.all_finite.ensures

upper_finite : (a : tie.After-all_finite-2) → let s : tie.Start = search in let g = s.args in
    let u = upper_in g.numbers.now g.coeffs.now in
    a.all_finite-2.result ≡ all (u.starts # g.m) (finite_at u.vals)
upper_finite a = let s : tie.Start = search in rw (upper_last s) a.all_finite-2.ensures

add-lower : tie.Need-overflow_add-lower
add-lower c = search rules

mul-lower : tie.Need-offset_bounds-numbers-m
mul-lower c = search rules

shared-slice-read-lower : tie.Need-bounds-numbers-m
shared-slice-read-lower c = search rules

sub-all-finite : tie.Need-slice_bounds-all_finite-count
sub-all-finite c = search rules

part-all-finite-start : tie.Need-slice_bounds-all_finite-start
part-all-finite-start c = search rules

part-all-finite-end : tie.Need-slice_bounds-all_finite-end
part-all-finite-end c = search rules

all-finite-requires : tie.Need-all_finite-requires
all-finite-requires c κs =
    let s : tie.Start = search in
    let g = s.args in
    let p = s.requires in
    let most = (lower_told g.m g.numbers.now g.coeffs.now p.0 p.1 p.2 p.3).most in
    omega (arith, most, lower_last s, part_long 0 lower_coeffs_end g.coeffs.now (omega (arith, p.2)))

returns : tie.Need-returns-then-not-all_finite
unfolding factor_finite
returns c = rw (sym (lower_finite c.before) ∙ not-true _ c.if-not-all_finite.true-raw)

add-upper : tie.Need-overflow_add-upper
add-upper c = search rules

mul-upper : tie.Need-offset_bounds-numbers-m-2
mul-upper c = search rules

shared-slice-read-upper : tie.Need-bounds-numbers-m-2
shared-slice-read-upper c = search rules

sub-all-finite-2 : tie.Need-slice_bounds-all_finite-count-2
sub-all-finite-2 c = search rules

part-all-finite-start-2 : tie.Need-slice_bounds-all_finite-start-2
part-all-finite-start-2 c = search rules

part-all-finite-end-2 : tie.Need-slice_bounds-all_finite-end-2
part-all-finite-end-2 c = search rules

all-finite-requires-2 : tie.Need-all_finite-requires-2
all-finite-requires-2 c κs =
    let s : tie.Start = search in
    let g = s.args in
    let p = s.requires in
    let most = (upper_told g.m g.numbers.now g.coeffs.now p.0 p.1 p.2 p.3).most in
    omega (arith, most, upper_last s, part_long lower_coeffs_end upper_coeffs_end g.coeffs.now (omega (arith, p.2)))

returns-2 : tie.Need-returns-then-not-all_finite-2
unfolding factor_finite
returns-2 c =
    let a : tie.Else-not-all_finite = search in
    rw (
      sym (lower_finite a.before) ∙ not-false _ a.if-not-all_finite.false-raw,
      sym (upper_finite c.before) ∙ not-true _ c.if-not-all_finite-2.true-raw,
    )

sub-all-finite-3 : tie.Need-slice_bounds-all_finite-count-3
sub-all-finite-3 c = search rules

part-all-finite-start-3 : tie.Need-slice_bounds-all_finite-start-3
part-all-finite-start-3 c = search rules

part-all-finite-end-3 : tie.Need-slice_bounds-all_finite-end-3
part-all-finite-end-3 c = search rules

all-finite-requires-3 : tie.Need-all_finite-requires-3
all-finite-requires-3 c κs =
    let s : tie.Start = search in
    omega (arith, s.requires.0, part_long upper_t_coeffs_end diag_end s.args.coeffs.now (omega (arith, s.requires.2)))

returns-3 : tie.Need-returns
unfolding factor_finite
returns-3 c =
    let a : tie.Else-not-all_finite = search in
    let b : tie.Else-not-all_finite-2 = search in
    rw (
      sym (lower_finite a.before) ∙ not-false _ a.if-not-all_finite.false-raw,
      sym (upper_finite b.before) ∙ not-false _ b.if-not-all_finite-2.false-raw,
    ) c.all_finite-3.ensures

pub factor_finite_spec : {M : Type 1} → statement M
factor_finite_spec =
    tie.close
    (tie.spec
    add-lower
    mul-lower
    shared-slice-read-lower
    sub-all-finite
    part-all-finite-start
    part-all-finite-end
    all-finite-requires
    returns
    add-upper
    mul-upper
    shared-slice-read-upper
    sub-all-finite-2
    part-all-finite-start-2
    part-all-finite-end-2
    all-finite-requires-2
    returns-2
    sub-all-finite-3
    part-all-finite-start-3
    part-all-finite-end-3
    all-finite-requires-3
    returns-3)
