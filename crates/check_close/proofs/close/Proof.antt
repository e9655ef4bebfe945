-- `check_close::close` meets its contract: the answer, then the values and three sections. Assumes nothing.
use mathlib.Core.Path.{◌≡◌, ◌∙◌}
use mathlib.Core.List.{List}
use Prim.Native.Nat.{ℕ, ◌+◌, ◌≤◌}
use native.Mathlib.Omega.{arith}
use borrow.Author.Rules.{rules}
use borrow.Rule.Slice.PartMut.{put_mid, same_len_mid}
use lib.ListN.{length, length-set}
use Rattle.doubles.specs.Limits.{vars, max_rows, count_cells}
use Rattle.rules.specs.Plan.{Problem}
use Rattle.state.specs.Packed.{packed, kept_at, counts_at}
use Rattle.state.proofs.Sections.{section_length}
use Rattle.check_final.specs.Lent.{checked_of}
use Rattle.check_close.proofs.Laws.{values_are, closes_in}
use Rattle.check_close.proofs.close.Statement.{statement}
use Rattle.check_close.proofs.close.Tie as tie

abbrev P : tie.Start → Problem
P s =
    let a = s.args in
    checked_of a.n a.tolerance a.lowers.now a.uppers.now a.starts.now a.cols.now a.coeffs.now a.ops.now a.rhs.now a.kept.now

-- the way back
abbrev start : tie.After-answer_of-a → tie.Start
start c = let s0 : tie.Start = search in s0

abbrev told : tie.After-values_after → tie.After-answer_of-a
told c = c.before.before.before.before

abbrev valued : tie.After-write_kept → tie.After-values_after
valued c = c.before.before.before.before

abbrev listed : tie.After-write_counts → tie.After-write_kept
listed c = c.before.before.before.before

room : (s : tie.Start) → s.args.n + length s.args.kept.now ≤ vars
room s = s.requires.answers.valued.room

-- numbers with the kept rows, then with the counts
abbrev N1 : tie.After-write_kept → List ℕ
N1 c = put_mid kept_at max_rows (start (told (valued c))).args.numbers.now c.write_kept.new.to

n1 : (c : tie.After-write_kept) → length (N1 c) ≡ length (start (told (valued c))).args.numbers.now
n1 c = same_len_mid kept_at max_rows (start (told (valued c))).args.numbers.now c.write_kept.new.to c.write_kept.auto.to

abbrev cells : tie.After-write_counts → List ℕ
cells c = c.write_counts.new.counts

n2 : (c : tie.After-write_counts)
    → length (put_mid counts_at count_cells (N1 (listed c)) (cells c))
    ≡ length (start (told (valued (listed c)))).args.numbers.now
n2 c =
    same_len_mid counts_at count_cells (N1 (listed c)) (cells c) c.write_counts.auto.counts
    ∙ n1 (listed c)

add-used : tie.Need-overflow_add-used
add-used c = let s = c.before.before.before.before.before.before.before.before.before.before.before.before in omega (arith, s.requires.used)

mul-used : tie.Need-offset_bounds-numbers-at
mul-used c = let s = c.before.before.before.before.before.before.before.before.before.before.before.before in omega (arith, s.requires.used)

slice-read-used : tie.Need-bounds-numbers-at
slice-read-used c = let s = c.before.before.before.before.before.before.before.before.before.before.before.before.before in omega (arith, s.requires.used, s.requires.numbers_long)

answer-of-requires : tie.Need-answer_of-a-requires
answer-of-requires c κs =
    let s0 : tie.Start = search in
    let s = s0 in
    (record { valued = s.requires.answers.valued; checkable = s.requires.answers.checkable }, (omega (arith, s.requires.numbers_long), omega (arith, s.requires.doubles_long), search))

number-of-requires : tie.Need-number_of-status-requires
number-of-requires c κs = search rules

add-values-after : tie.Need-overflow_add-n
add-values-after c = let s0 : tie.Start = search in omega (arith, room s0)

values-after-requires : tie.Need-values_after-requires
values-after-requires c κs = let s0 : tie.Start = search in let s = s0 in (room s, s.requires.values_long)

sub-write-kept : tie.Need-slice_bounds-write_kept-count
sub-write-kept c = omega arith

part-write-kept-start : tie.Need-slice_bounds-write_kept-start
part-write-kept-start c = omega arith

part-write-kept-end : tie.Need-slice_bounds-write_kept-end
part-write-kept-end c = omega (arith, c.requires.numbers_long)

write-kept-requires : tie.Need-write_kept-requires
write-kept-requires c κs =
    let s0 : tie.Start = search in
    let s = s0 in
    omega (arith, s.requires.rows_most, section_length kept_at max_rows s.args.numbers.now (omega (arith, s.requires.numbers_long)))

sub-write-counts : tie.Need-slice_bounds-write_counts-count
sub-write-counts c = omega arith

part-write-counts-start : tie.Need-slice_bounds-write_counts-start
part-write-counts-start c = omega arith

part-write-counts-end : tie.Need-slice_bounds-write_counts-end
part-write-counts-end c = omega (arith, c.requires.numbers_long, n1 c.before.before)

write-counts-requires : tie.Need-write_counts-requires
write-counts-requires c κs =
    let s0 : tie.Start = search in
    let s = s0 in
    let k = c.before.before.before in
    omega (arith, section_length counts_at count_cells (N1 k) (omega (arith, s.requires.numbers_long, n1 k)))

slice-write-doubles : tie.Need-bounds-doubles-4672
slice-write-doubles c = omega (arith, c.requires.doubles_long)

same_length : tie.Need-shape_of-values
same_length c = c.values_after.auto.values

same-length-2 : tie.Need-shape_of-numbers
same-length-2 c = n2 c.before.before

same-length-3 : tie.Need-shape_of-doubles
same-length-3 c = simp length-set

returns : tie.Need-returns
returns c =
    let w = c.before.before in
    let k = listed w in
    let v = valued k in
    let b = c.before.before.before.before.before.before.before.before.before.before.before.before.before in
    let a = told v in
    let s = start a in
    let x = s.args in
    λ F G. closes_in (P s) x.why x.at x.values.now x.numbers.now x.doubles.now s.requires F G
    k.write_kept.new.to (cells w)
    a.answer_of-a.ensures.0
    b.number_of-status.ensures
    (values_are (P s) (packed x.numbers.now x.doubles.now) _ a.answer_of-a.ensures.1 b.number_of-status.result x.values.now v.values_after.ensures)
    k.write_kept.ensures
    k.write_kept.auto.to
    w.write_counts.ensures
    w.write_counts.auto.counts

pub close_spec : {M : Type 1} → statement M
close_spec =
    tie.close
    (tie.spec
    add-used
    mul-used
    slice-read-used
    answer-of-requires
    number-of-requires
    add-values-after
    values-after-requires
    sub-write-kept
    part-write-kept-start
    part-write-kept-end
    write-kept-requires
    sub-write-counts
    part-write-counts-start
    part-write-counts-end
    write-counts-requires
    slice-write-doubles
    same_length
    same-length-2
    same-length-3
    returns)
