-- `start_write::write_start` meets its contract: each call writes its section. Assumes nothing.
use mathlib.Core.Path.{◌≡◌, ◌∙◌}
use mathlib.Core.List.{List}
use native.Mathlib.Omega.{arith}
use borrow.Author.Rules.{rules}
use borrow.Rule.Slice.PartMut.{put_mid, same_len_mid}
use lib.ListN.{length, length-set}
use lib.Ieee.{Float}
use Prim.Native.Nat.{ℕ}
use Rattle.doubles.specs.Limits.{max_rows, max_columns, vars}
use Rattle.state.specs.Packed.{basic_vars_at, nb_vars_at, var_states_at, flag_cells_at, basic_var_vals_at, nb_var_vals_at, prices_at, norms_at, dual_norms_at}
use Rattle.state.proofs.Sections.{section_length}
use Rattle.start_write.proofs.Written.{filled, written_is}
use Rattle.start_write.proofs.write_start.Statement.{statement}
use Rattle.start_write.proofs.write_start.Tie as tie

-- the way back
abbrev start : tie.After-count_from → tie.Start
start c = c.before.before.before.before.before.before.before

abbrev first : tie.After-copy_front → tie.After-count_from
first c = c.before.before.before.before.before

abbrev second : tie.After-count_from-2 → tie.After-copy_front
second c = c.before.before.before.before

abbrev third : tie.After-copy_front-2 → tie.After-count_from-2
third c = c.before.before.before.before.before

abbrev fourth : tie.After-copy_front-3 → tie.After-copy_front-2
fourth c = c.before.before.before.before

abbrev fifth : tie.After-copy_front-4 → tie.After-copy_front-3
fifth c = c.before.before.before.before.before

abbrev sixth : tie.After-write_flags → tie.After-copy_front-4
sixth c = c.before.before.before.before.before

abbrev seventh : tie.After-count_from-3 → tie.After-write_flags
seventh c = c.before.before.before.before

abbrev eighth : tie.After-write_dual_norms → tie.After-count_from-3
eighth c = c.before.before.before.before

-- the arrays at entry, and as each call leaves its section
abbrev N : tie.After-count_from → List ℕ
N c = (start c).args.numbers.now

abbrev D : tie.After-count_from → List Float
D c = (start c).args.doubles.now

abbrev N·1 : tie.After-count_from → List ℕ
N·1 c = put_mid basic_vars_at max_rows (N c) c.count_from.new.to

y·1 : (c : tie.After-count_from) → length (N·1 c) ≡ length (N c)
y·1 c = same_len_mid basic_vars_at max_rows (N c) c.count_from.new.to c.count_from.auto.to

abbrev N·2 : tie.After-count_from-2 → List ℕ
N·2 c = put_mid nb_vars_at max_columns (N·1 (first (second c))) c.count_from-2.new.to

y·2 : (c : tie.After-count_from-2) → length (N·2 c) ≡ length (N (first (second c)))
y·2 c = same_len_mid nb_vars_at max_columns (N·1 (first (second c))) c.count_from-2.new.to c.count_from-2.auto.to ∙ y·1 (first (second c))

abbrev N·3 : tie.After-write_flags → List ℕ
N·3 c = put_mid flag_cells_at max_columns (N·2 (third (fourth (fifth (sixth c))))) c.write_flags.new.flags

y·3 : (c : tie.After-write_flags) → length (N·3 c) ≡ length (N (first (second (third (fourth (fifth (sixth c)))))))
y·3 c = same_len_mid flag_cells_at max_columns (N·2 (third (fourth (fifth (sixth c))))) c.write_flags.new.flags c.write_flags.auto.flags ∙ y·2 (third (fourth (fifth (sixth c))))

abbrev N·4 : tie.After-count_from-3 → List ℕ
N·4 c = put_mid var_states_at vars (N·3 (seventh c)) c.count_from-3.new.to

y·4 : (c : tie.After-count_from-3) → length (N·4 c) ≡ length (N (first (second (third (fourth (fifth (sixth (seventh c))))))))
y·4 c = same_len_mid var_states_at vars (N·3 (seventh c)) c.count_from-3.new.to c.count_from-3.auto.to ∙ y·3 (seventh c)

abbrev D·1 : tie.After-copy_front → List Float
D·1 c = put_mid basic_var_vals_at max_rows (D (first c)) c.copy_front.new.to

z·1 : (c : tie.After-copy_front) → length (D·1 c) ≡ length (D (first c))
z·1 c = same_len_mid basic_var_vals_at max_rows (D (first c)) c.copy_front.new.to c.copy_front.auto.to

abbrev D·2 : tie.After-copy_front-2 → List Float
D·2 c = put_mid nb_var_vals_at max_columns (D·1 (second (third c))) c.copy_front-2.new.to

z·2 : (c : tie.After-copy_front-2) → length (D·2 c) ≡ length (D (first (second (third c))))
z·2 c = same_len_mid nb_var_vals_at max_columns (D·1 (second (third c))) c.copy_front-2.new.to c.copy_front-2.auto.to ∙ z·1 (second (third c))

abbrev D·3 : tie.After-copy_front-3 → List Float
D·3 c = put_mid prices_at max_columns (D·2 (fourth c)) c.copy_front-3.new.to

z·3 : (c : tie.After-copy_front-3) → length (D·3 c) ≡ length (D (first (second (third (fourth c)))))
z·3 c = same_len_mid prices_at max_columns (D·2 (fourth c)) c.copy_front-3.new.to c.copy_front-3.auto.to ∙ z·2 (fourth c)

abbrev D·4 : tie.After-copy_front-4 → List Float
D·4 c = put_mid norms_at max_columns (D·3 (fifth c)) c.copy_front-4.new.to

z·4 : (c : tie.After-copy_front-4) → length (D·4 c) ≡ length (D (first (second (third (fourth (fifth c))))))
z·4 c = same_len_mid norms_at max_columns (D·3 (fifth c)) c.copy_front-4.new.to c.copy_front-4.auto.to ∙ z·3 (fifth c)

abbrev D·5 : tie.After-write_dual_norms → List Float
D·5 c = put_mid dual_norms_at max_rows (D·4 (sixth (seventh (eighth c)))) c.write_dual_norms.new.norms

z·5 : (c : tie.After-write_dual_norms) → length (D·5 c) ≡ length (D (first (second (third (fourth (fifth (sixth (seventh (eighth c)))))))))
z·5 c = same_len_mid dual_norms_at max_rows (D·4 (sixth (seventh (eighth c)))) c.write_dual_norms.new.norms c.write_dual_norms.auto.norms ∙ z·4 (sixth (seventh (eighth c)))

sub-count-from : tie.Need-slice_bounds-count_from-count
sub-count-from c = omega arith

part-count-from-start : tie.Need-slice_bounds-count_from-start
part-count-from-start c = omega arith

part-count-from-end : tie.Need-slice_bounds-count_from-end
part-count-from-end c = let s = c.before.before.before.before.before in omega (arith, s.requires.1)

count-from-requires : tie.Need-count_from-requires
count-from-requires c κs =
    let s = c.before.before.before.before.before.before in
    (omega (arith, s.requires.0.0, s.requires.0.1), omega (arith, s.requires.0.1, section_length basic_vars_at max_rows s.args.numbers.now (omega (arith, s.requires.1))))

sub-copy-front : tie.Need-slice_bounds-copy_front-count
sub-copy-front c = omega arith

part-copy-front-start : tie.Need-slice_bounds-copy_front-start
part-copy-front-start c = omega arith

part-copy-front-end : tie.Need-slice_bounds-copy_front-end-2
part-copy-front-end c = let s = c.before.before.before.before.before.before.before.before.before.before in omega (arith, s.requires.1)

copy-front-requires : tie.Need-copy_front-requires
copy-front-requires c κs =
    let s = c.before.before.before.before.before.before.before.before.before.before.before in
    (s.requires.0.3.slacks_long, omega (arith, s.requires.0.1, section_length basic_var_vals_at max_rows s.args.doubles.now (omega (arith, s.requires.1))))

sub-count-from-2 : tie.Need-slice_bounds-count_from-count-2
sub-count-from-2 c = omega arith

part-count-from-start-2 : tie.Need-slice_bounds-count_from-start-2
part-count-from-start-2 c = omega arith

part-count-from-end-2 : tie.Need-slice_bounds-count_from-end-2
part-count-from-end-2 c = let s = c.before.before.before.before.before.before.before.before.before.before.before.before.before.before in omega (arith, s.requires.1, y·1 c.before.before.before.before.before.before.before)

count-from-requires-2 : tie.Need-count_from-requires-2
count-from-requires-2 c κs =
    let s = c.before.before.before.before.before.before.before.before.before.before.before.before.before.before.before in
    let x = c.before.before.before.before.before.before.before.before in
    (omega (arith, s.requires.0.0), omega (arith, s.requires.0.0, section_length nb_vars_at max_columns (N·1 x) (omega (arith, s.requires.1, y·1 x))))

sub-copy-front-2 : tie.Need-slice_bounds-copy_front-count-2
sub-copy-front-2 c = omega arith

part-copy-front-start-2 : tie.Need-slice_bounds-copy_front-start-2
part-copy-front-start-2 c = omega arith

part-copy-front-end-2 : tie.Need-slice_bounds-copy_front-end-4
part-copy-front-end-2 c = let s = c.before.before.before.before.before.before.before.before.before.before.before.before.before.before.before.before.before.before.before in omega (arith, s.requires.1, z·1 c.before.before.before.before.before.before.before)

copy-front-requires-2 : tie.Need-copy_front-requires-2
copy-front-requires-2 c κs =
    let s = c.before.before.before.before.before.before.before.before.before.before.before.before.before.before.before.before.before.before.before.before in
    let x = c.before.before.before.before.before.before.before.before in
    (s.requires.0.3.vals_long, omega (arith, s.requires.0.0, section_length nb_var_vals_at max_columns (D·1 x) (omega (arith, s.requires.1, z·1 x))))

sub-copy-front-3 : tie.Need-slice_bounds-copy_front-count-3
sub-copy-front-3 c = omega arith

part-copy-front-start-3 : tie.Need-slice_bounds-copy_front-start-3
part-copy-front-start-3 c = omega arith

part-copy-front-end-3 : tie.Need-slice_bounds-copy_front-end-5
part-copy-front-end-3 c = let s = c.before.before.before.before.before.before.before.before.before.before.before.before.before.before.before.before.before.before.before.before.before.before.before in omega (arith, s.requires.1, z·2 c.before.before)

copy-front-requires-3 : tie.Need-copy_front-requires-3
copy-front-requires-3 c κs =
    let s = c.before.before.before.before.before.before.before.before.before.before.before.before.before.before.before.before.before.before.before.before.before.before.before.before in
    let x = c.before.before.before in
    (s.requires.0.2.costs_long, omega (arith, s.requires.0.0, section_length prices_at max_columns (D·2 x) (omega (arith, s.requires.1, z·2 x))))

sub-copy-front-4 : tie.Need-slice_bounds-copy_front-count-4
sub-copy-front-4 c = omega arith

part-copy-front-start-4 : tie.Need-slice_bounds-copy_front-start-4
part-copy-front-start-4 c = omega arith

part-copy-front-end-4 : tie.Need-slice_bounds-copy_front-end-7
part-copy-front-end-4 c = let s = c.before.before.before.before.before.before.before.before.before.before.before.before.before.before.before.before.before.before.before.before.before.before.before.before.before.before.before.before in omega (arith, s.requires.1, z·3 c.before.before.before)

copy-front-requires-4 : tie.Need-copy_front-requires-4
copy-front-requires-4 c κs =
    let s = c.before.before.before.before.before.before.before.before.before.before.before.before.before.before.before.before.before.before.before.before.before.before.before.before.before.before.before.before.before in
    let x = c.before.before.before.before in
    (s.requires.0.3.norms_long, omega (arith, s.requires.0.0, section_length norms_at max_columns (D·3 x) (omega (arith, s.requires.1, z·3 x))))

sub-write-flags : tie.Need-slice_bounds-write_flags-count
sub-write-flags c = omega arith

part-write-flags-start : tie.Need-slice_bounds-write_flags-start
part-write-flags-start c = omega arith

part-write-flags-end : tie.Need-slice_bounds-write_flags-end-2
part-write-flags-end c = let s = c.before.before.before.before.before.before.before.before.before.before.before.before.before.before.before.before.before.before.before.before.before.before.before.before.before.before.before.before.before.before.before.before.before in omega (arith, s.requires.1, y·2 c.before.before.before.before.before.before.before.before.before.before.before.before.before.before.before.before.before)

write-flags-requires : tie.Need-write_flags-requires
write-flags-requires c κs =
    let s = c.before.before.before.before.before.before.before.before.before.before.before.before.before.before.before.before.before.before.before.before.before.before.before.before.before.before.before.before.before.before.before.before.before.before in
    let x = c.before.before.before.before.before.before.before.before.before.before.before.before.before.before.before.before.before.before in
    (s.requires.0.2.lowers_long, s.requires.0.2.uppers_long, s.requires.0.3.vals_long, omega (arith, s.requires.0.0, section_length flag_cells_at max_columns (N·2 x) (omega (arith, s.requires.1, y·2 x))))

add-count-from : tie.Need-overflow_add-n
add-count-from c = let s = c.before.before.before.before.before.before.before.before.before.before.before.before.before.before.before.before.before.before.before.before.before.before.before.before.before.before.before.before.before.before.before.before.before.before.before.before.before in omega (arith, s.requires.0.0, s.requires.0.1)

sub-count-from-3 : tie.Need-slice_bounds-count_from-count-3
sub-count-from-3 c = omega arith

part-count-from-start-3 : tie.Need-slice_bounds-count_from-start-3
part-count-from-start-3 c = omega arith

part-count-from-end-3 : tie.Need-slice_bounds-count_from-end-3
part-count-from-end-3 c = let s = c.before.before.before.before.before.before.before.before.before.before.before.before.before.before.before.before.before.before.before.before.before.before.before.before.before.before.before.before.before.before.before.before.before.before.before.before.before in omega (arith, s.requires.1, y·3 c.before.before)

count-from-requires-3 : tie.Need-count_from-requires-3
count-from-requires-3 c κs =
    let s = c.before.before.before.before.before.before.before.before.before.before.before.before.before.before.before.before.before.before.before.before.before.before.before.before.before.before.before.before.before.before.before.before.before.before.before.before.before.before in
    let x = c.before.before.before in
    (omega (arith, s.requires.0.0, s.requires.0.1), omega (arith, s.requires.0.0, s.requires.0.1, section_length var_states_at vars (N·3 x) (omega (arith, s.requires.1, y·3 x))))

slice-write-numbers : tie.Need-bounds-numbers-832
slice-write-numbers c = let s = c.before.before.before.before.before.before.before.before.before.before.before.before.before.before.before.before.before.before.before.before.before.before.before.before.before.before.before.before.before.before.before.before.before.before.before.before.before.before.before.before.before in omega (arith, s.requires.1, y·4 c.before.before)

sub-write-dual-norms : tie.Need-slice_bounds-write_dual_norms-count
sub-write-dual-norms c = omega arith

part-write-dual-norms-start : tie.Need-slice_bounds-write_dual_norms-start
part-write-dual-norms-start c = omega arith

part-write-dual-norms-end : tie.Need-slice_bounds-write_dual_norms-end
part-write-dual-norms-end c =
    let x : tie.After-count_from-3 = search in
    let d = sixth (seventh x) in
    let s = start (first (second (third (fourth (fifth d))))) in
    omega (arith, s.requires.1, z·4 d)

write-dual-norms-requires : tie.Need-write_dual_norms-requires
write-dual-norms-requires c κs =
    let x : tie.After-count_from-3 = search in
    let d = sixth (seventh x) in
    let s = start (first (second (third (fourth (fifth d))))) in
    omega (arith, s.requires.0.1, section_length dual_norms_at max_rows (D·4 d) (omega (arith, s.requires.1, z·4 d)))

same_length : tie.Need-shape_of-numbers
same_length c = let x : tie.After-count_from-3 = search in
    simp length-set (y·4 x)

same-length-2 : tie.Need-shape_of-doubles
same-length-2 c = let x : tie.After-write_dual_norms = search in
    z·5 x

returns : tie.Need-returns
returns c =
    let c9 : tie.After-write_dual_norms = search in
    let c8 = eighth c9 in
    let c7 = seventh c8 in
    let c6 = sixth c7 in
    let c5 = fifth c6 in
    let c4 = fourth c5 in
    let c3 = third c4 in
    let c2 = second c3 in
    let c1 = first c2 in
    let s = start c1 in
    let a = s.args in
    written_is a.n a.m a.costs.now a.lowers.now a.uppers.now a.xs.now a.slacks.now a.norms.now a.numbers.now a.doubles.now s.requires.1
    c1.count_from.new.to c3.count_from-2.new.to c7.write_flags.new.flags c8.count_from-3.new.to
    c2.copy_front.new.to c4.copy_front-2.new.to c5.copy_front-3.new.to c6.copy_front-4.new.to c9.write_dual_norms.new.norms
    (filled c1.count_from.ensures c1.count_from.auto.to)
    (filled c2.copy_front.ensures c2.copy_front.auto.to)
    (filled c3.count_from-2.ensures c3.count_from-2.auto.to)
    (filled c4.copy_front-2.ensures c4.copy_front-2.auto.to)
    (filled c5.copy_front-3.ensures c5.copy_front-3.auto.to)
    (filled c6.copy_front-4.ensures c6.copy_front-4.auto.to)
    (filled c7.write_flags.ensures c7.write_flags.auto.flags)
    (filled c8.count_from-3.ensures c8.count_from-3.auto.to)
    (filled c9.write_dual_norms.ensures c9.write_dual_norms.auto.norms)

pub write_start_spec : {M : Type 1} → statement M
write_start_spec =
    tie.close
    (tie.spec
    sub-count-from
    part-count-from-start
    part-count-from-end
    count-from-requires
    sub-copy-front
    part-copy-front-start
    part-copy-front-end
    copy-front-requires
    sub-count-from-2
    part-count-from-start-2
    part-count-from-end-2
    count-from-requires-2
    sub-copy-front-2
    part-copy-front-start-2
    part-copy-front-end-2
    copy-front-requires-2
    sub-copy-front-3
    part-copy-front-start-3
    part-copy-front-end-3
    copy-front-requires-3
    sub-copy-front-4
    part-copy-front-start-4
    part-copy-front-end-4
    copy-front-requires-4
    sub-write-flags
    part-write-flags-start
    part-write-flags-end
    write-flags-requires
    add-count-from
    sub-count-from-3
    part-count-from-start-3
    part-count-from-end-3
    count-from-requires-3
    slice-write-numbers
    sub-write-dual-norms
    part-write-dual-norms-start
    part-write-dual-norms-end
    write-dual-norms-requires
    same_length
    same-length-2
    returns)
