-- `basis_store::push_eta` meets its contract: the store's tail is lent to the column writer, and comes back. Assumes nothing.
use borrow.Author.Rules.{rules}
use borrow.Rule.Slice.PartMut.{same_len_mid}
use mathlib.Core.Path.{◌≡◌}
use mathlib.Core.List.{List, []}
use Prim.Native.Nat.{ℕ, ◌+◌, ◌-◌, ◌≤◌}
use native.Mathlib.Omega.{arith}
use lib.ListN.{length, length-set}
use lib.Ieee.{Float}
use Rattle.doubles.specs.Limits.{eta_entries}
use Rattle.doubles.specs.Lists.{◌#◌}
use Rattle.sparse.specs.Scattered.{sv}
use Rattle.rules.specs.Basis.{tail}
use Rattle.state.specs.Packed.{section, eta_starts_at, eta_rows_at, kept_at, eta_coeffs_at, dual_norms_at}
use Rattle.state.proofs.Sections.{section_length}
use Rattle.basis_store.proofs.Laws.{used_fits, push_is}
use Rattle.basis_store.proofs.push_eta.Statement.{statement}
use Rattle.basis_store.proofs.push_eta.Tie as tie

-- the entries in use, and the tails that are lent
abbrev used : tie.Start → ℕ
used s = s.args.numbers.now # (eta_starts_at + s.args.n)

abbrev rows : tie.Start → List ℕ
rows s = section (eta_rows_at + used s) (kept_at - (eta_rows_at + used s)) s.args.numbers.now

abbrev coeffs : tie.Start → List Float
coeffs s = section (eta_coeffs_at + used s) (dual_norms_at - (eta_coeffs_at + used s)) s.args.doubles.now

fits : (s : tie.Start) → used s + s.args.count ≤ eta_entries
fits s = used_fits (sv s.args.values.now [] s.args.list.now s.args.count) s.args.row s.args.pivot s.args.n s.args.numbers.now s.args.doubles.now s.requires.0.0 s.requires.0.1

rows_long : (s : tie.Start) → length (rows s) ≡ kept_at - (eta_rows_at + used s)
rows_long s = section_length (eta_rows_at + used s) (kept_at - (eta_rows_at + used s)) s.args.numbers.now (omega (arith, fits s, s.requires.0.0))

coeffs_long : (s : tie.Start) → length (coeffs s) ≡ dual_norms_at - (eta_coeffs_at + used s)
coeffs_long s = section_length (eta_coeffs_at + used s) (dual_norms_at - (eta_coeffs_at + used s)) s.args.doubles.now (omega (arith, fits s, s.requires.0.0))

add-used : tie.Need-overflow_add-used
add-used c = search rules

mul-used : tie.Need-offset_bounds-numbers-n
mul-used c = search rules

slice-read-used : tie.Need-bounds-numbers-n
slice-read-used c = search rules

add-write-column : tie.Need-overflow_add-used-2
add-write-column c = let s : tie.Start = search in omega (arith, fits s)

mul-write-column : tie.Need-offset_bounds-numbers-used
mul-write-column c = let s : tie.Start = search in omega (arith, fits s)

sub-write-column : tie.Need-slice_bounds-write_column-count
sub-write-column c = let s : tie.Start = search in omega (arith, fits s)

part-write-column-start : tie.Need-slice_bounds-write_column-start
part-write-column-start c = let s : tie.Start = search in omega (arith, fits s)

part-write-column-end : tie.Need-slice_bounds-write_column-end
part-write-column-end c = search rules

add-write-column-2 : tie.Need-overflow_add-used-3
add-write-column-2 c = let s : tie.Start = search in omega (arith, fits s)

mul-write-column-2 : tie.Need-offset_bounds-doubles-used
mul-write-column-2 c = let s : tie.Start = search in omega (arith, fits s)

sub-write-column-2 : tie.Need-slice_bounds-write_column-count-2
sub-write-column-2 c = let s : tie.Start = search in omega (arith, fits s)

part-write-column-start-2 : tie.Need-slice_bounds-write_column-start-2
part-write-column-start-2 c = let s : tie.Start = search in omega (arith, fits s)

part-write-column-end-2 : tie.Need-slice_bounds-write_column-end-2
part-write-column-end-2 c = search rules

write-column-requires : tie.Need-write_column-requires
write-column-requires c κs = let s : tie.Start = search in ((omega (arith, fits s, rows_long s), omega (arith, fits s, coeffs_long s)), s.requires.1)

add-numbers : tie.Need-overflow_add-numbers
add-numbers c = search rules

mul-numbers : tie.Need-offset_bounds-numbers-n-2
mul-numbers c = search rules

slice-write-numbers : tie.Need-bounds-numbers-n-2
slice-write-numbers c = search rules

add-numbers-2 : tie.Need-overflow_add-numbers-2
add-numbers-2 c = let s : tie.Start = search in omega (arith, fits s)

add-numbers-3 : tie.Need-overflow_add-numbers-3
add-numbers-3 c = search rules

add-numbers-4 : tie.Need-overflow_add-numbers-4
add-numbers-4 c = search rules

mul-numbers-2 : tie.Need-offset_bounds-numbers-n-3
mul-numbers-2 c = search rules

slice-write-numbers-2 : tie.Need-bounds-numbers-n-3
slice-write-numbers-2 c =
    let s : tie.Start = search in
    let d : tie.After-write_column = search in
    simp length-set (omega (arith, s.requires.0, same_len_mid (eta_rows_at + used s) (kept_at - (eta_rows_at + used s)) s.args.numbers.now d.write_column.new.out_rows d.write_column.auto.out_rows))

same_length : tie.Need-shape_of-numbers
same_length c = search rules

same-length-2 : tie.Need-shape_of-doubles
same-length-2 c = search rules

returns : tie.Need-returns
returns c m =
    let s : tie.Start = search in
    let d : tie.After-write_column = search in
    let a = s.args in
    push_is (sv a.values.now m a.list.now a.count) a.row a.pivot a.n a.numbers.now a.doubles.now s.requires.0.0 s.requires.0.1
    (tail d.write_column.new.out_rows d.write_column.new.out_coeffs) (d.write_column.ensures m) d.write_column.auto.out_rows d.write_column.auto.out_coeffs

pub push_eta_spec : {M : Type 1} → statement M
push_eta_spec =
    tie.close
    (tie.spec
    add-used
    mul-used
    slice-read-used
    add-write-column
    mul-write-column
    sub-write-column
    part-write-column-start
    part-write-column-end
    add-write-column-2
    mul-write-column-2
    sub-write-column-2
    part-write-column-start-2
    part-write-column-end-2
    write-column-requires
    add-numbers
    mul-numbers
    slice-write-numbers
    add-numbers-2
    add-numbers-3
    add-numbers-4
    mul-numbers-2
    slice-write-numbers-2
    same_length
    same-length-2
    returns)
