-- `fix_kept::rest_fine` meets its contract: flags, store, factor, numbers. Assumes nothing.
use mathlib.Core.Path.{◌≡◌, sym, ◌∙◌}
use mathlib.Core.Bool.{true}
use mathlib.Core.List.{[]}
use Prim.Native.Nat.{◌+◌}
use native.Mathlib.Omega.{arith}
use lib.Ieee.{nan}
use borrow.Author.Rules.{rules}
use borrow.Author.Tests.{le-leb, lt-leb, not-true, not-false}
use Rattle.doubles.specs.Limits.{eta_columns, eta_entries}
use Rattle.doubles.specs.Lists.{◌!◌}
use Rattle.rules.specs.Plan.{Memory}
use Rattle.state.specs.Packed.{eta_leaving_at, eta_starts_at, eta_rows_at, objective_at}
use Rattle.state.specs.Memory.{memory_in}
use Rattle.state.proofs.Sections.{section_at, section_length}
use Rattle.fix_rules.specs.Kept.{etas_kept, entries_kept, factor_cell, of_factor, flags_fine, store_fine, factor_fine}
use Rattle.fix_rules.specs.Kept.{workspace_finite}
use Rattle.fix_kept.specs.Rest.{numbers_fine, rest_fine}
use Rattle.fix_kept.proofs.Laws.{entries_fit}
use Rattle.fix_kept.proofs.rest_fine.Statement.{statement}
use Rattle.fix_kept.proofs.rest_fine.Tie as tie

abbrev M : tie.Start → Memory
M s =
    let g = s.args in
    memory_in [] g.numbers.now g.doubles.now g.factor_numbers.now g.factor_coeffs.now

-- what the tests say
of_flags : (e : tie.Else-not-flags_fine) → let s : tie.Start = search in flags_fine s.args.n (M s).ws.flags ≡ true
of_flags e = sym e.flags_fine.ensures ∙ not-false _ e.if-not-flags_fine.false-raw

store_told : (a : tie.After-store_fine) → let s : tie.Start = search in
    a.store_fine.result ≡ store_fine s.args.m (M s).ws.etas (etas_kept (M s)) (entries_kept (M s))
unfolding store_fine
store_told a = a.store_fine.ensures

of_store : (e : tie.Else-not-store_fine) → let s : tie.Start = search in
    store_fine s.args.m (M s).ws.etas (etas_kept (M s)) (entries_kept (M s)) ≡ true
of_store e = sym (store_told e.before) ∙ not-false _ e.if-not-store_fine.false-raw

of_factor_holds : (e : tie.Else-not-kept_fine) → let s : tie.Start = search in
    of_factor (M s) (factor_fine s.args.m s.args.factor_numbers.now s.args.factor_coeffs.now) ≡ true
of_factor_holds e = sym e.kept_fine.ensures ∙ not-false _ e.if-not-kept_fine.false-raw

numbers_told : (a : tie.After-numbers_fine) → let s : tie.Start = search in
    a.numbers_fine.result ≡ numbers_fine s.args.n s.args.m (entries_kept (M s)) (factor_cell (M s)) (M s).ws
    s.args.factor_numbers.now s.args.factor_coeffs.now ((M s).objective ! 0)
unfolding numbers_fine workspace_finite
numbers_told a =
    let s : tie.Start = search in
    rw (section_at objective_at 1 s.args.doubles.now 0 nan (omega arith)) a.numbers_fine.ensures

sub-counts : tie.Need-slice_bounds-counts-count
sub-counts c = search rules

part-counts-start : tie.Need-slice_bounds-counts-start
part-counts-start c = search rules

part-counts-end : tie.Need-slice_bounds-counts-end
part-counts-end c = search rules

shared-slice-read-entries : tie.Need-bounds-counts-2
shared-slice-read-entries c = search rules

shared-slice-read-cell : tie.Need-bounds-counts-5
shared-slice-read-cell c = search rules

sub-flags-fine : tie.Need-slice_bounds-flags_fine-count
sub-flags-fine c = search rules

part-flags-fine-start : tie.Need-slice_bounds-flags_fine-start
part-flags-fine-start c = search rules

part-flags-fine-end : tie.Need-slice_bounds-flags_fine-end
part-flags-fine-end c = search rules

flags-fine-requires : tie.Need-flags_fine-requires
flags-fine-requires c κs = search rules

returns : tie.Need-returns-then-not-flags_fine
unfolding rest_fine
returns c = rw (sym c.flags_fine.ensures ∙ not-true _ c.if-not-flags_fine.true-raw)

shared-slice-read-store-fine : tie.Need-bounds-counts-1
shared-slice-read-store-fine c = search rules

sub-store-fine : tie.Need-slice_bounds-store_fine-count
sub-store-fine c = search rules

part-store-fine-start : tie.Need-slice_bounds-store_fine-start
part-store-fine-start c = search rules

part-store-fine-end : tie.Need-slice_bounds-store_fine-end
part-store-fine-end c = search rules

sub-store-fine-2 : tie.Need-slice_bounds-store_fine-count-2
sub-store-fine-2 c = search rules

part-store-fine-start-2 : tie.Need-slice_bounds-store_fine-start-2
part-store-fine-start-2 c = search rules

part-store-fine-end-2 : tie.Need-slice_bounds-store_fine-end-2
part-store-fine-end-2 c = search rules

sub-store-fine-3 : tie.Need-slice_bounds-store_fine-count-3
sub-store-fine-3 c = search rules

part-store-fine-start-3 : tie.Need-slice_bounds-store_fine-start-3
part-store-fine-start-3 c = search rules

part-store-fine-end-3 : tie.Need-slice_bounds-store_fine-end-3
part-store-fine-end-3 c = search rules

store-fine-requires : tie.Need-store_fine-requires
store-fine-requires c κs =
    let s : tie.Start = search in
    let N = s.args.numbers.now in (
      omega (arith, section_length eta_leaving_at eta_columns N (omega (arith, s.requires.2))),
      omega (arith, section_length eta_starts_at (eta_columns + 1) N (omega (arith, s.requires.2))),
      omega (arith, section_length eta_rows_at eta_entries N (omega (arith, s.requires.2))),
    )

returns-2 : tie.Need-returns-then-not-store_fine
unfolding rest_fine
returns-2 c = let e1 : tie.Else-not-flags_fine = search in rw (of_flags e1, sym (store_told c.before) ∙ not-true _ c.if-not-store_fine.true-raw)

kept-fine-requires : tie.Need-kept_fine-requires
kept-fine-requires c κs = search rules

returns-3 : tie.Need-returns-then-not-kept_fine
unfolding rest_fine
returns-3 c =
    let e1 : tie.Else-not-flags_fine = search in
    let e2 : tie.Else-not-store_fine = search in
    rw (of_flags e1, of_store e2, sym c.kept_fine.ensures ∙ not-true _ c.if-not-kept_fine.true-raw)

returns-4 : tie.Need-returns-then-cell-gt1
unfolding rest_fine
returns-4 c =
    let e1 : tie.Else-not-flags_fine = search in
    let e2 : tie.Else-not-store_fine = search in
    let e3 : tie.Else-not-kept_fine = search in
    rw (of_flags e1, of_store e2, of_factor_holds e3, lt-leb _ _ c.if-cell-gt1.true)

numbers-fine-requires : tie.Need-numbers_fine-requires
numbers-fine-requires c κs =
    let s : tie.Start = search in
    let e2 : tie.Else-not-store_fine = search in
    let e3 : tie.Else-not-kept_fine = search in
    let q = s.requires in
    let m = M s in (
      (q.0, q.1, entries_fit s.args.m m.ws.etas (etas_kept m) (entries_kept m) (of_store e2), q.3),
      (q.4, q.5, of_factor_holds e3),
    )

returns-5 : tie.Need-returns
unfolding rest_fine
returns-5 c =
    let e1 : tie.Else-not-flags_fine = search in
    let e2 : tie.Else-not-store_fine = search in
    let e3 : tie.Else-not-kept_fine = search in
    let e4 : tie.Else-cell-gt1 = search in
    rw (of_flags e1, of_store e2, of_factor_holds e3, le-leb _ _ e4.if-cell-gt1.false) (numbers_told c)

pub rest_fine_spec : {M : Type 1} → statement M
rest_fine_spec =
    tie.close
    (tie.spec
    sub-counts
    part-counts-start
    part-counts-end
    shared-slice-read-entries
    shared-slice-read-cell
    sub-flags-fine
    part-flags-fine-start
    part-flags-fine-end
    flags-fine-requires
    returns
    shared-slice-read-store-fine
    sub-store-fine
    part-store-fine-start
    part-store-fine-end
    sub-store-fine-2
    part-store-fine-start-2
    part-store-fine-end-2
    sub-store-fine-3
    part-store-fine-start-3
    part-store-fine-end-3
    store-fine-requires
    returns-2
    kept-fine-requires
    returns-3
    returns-4
    numbers-fine-requires
    returns-5)
