-- `fix_renew::renew` meets its contract: L and U copied, then their transposes written. Assumes nothing.
use mathlib.Core.Path.{◌≡◌, sym, subst, ap, ◌∙◌}
use mathlib.Core.List.{List}
use Prim.Native.Nat.{ℕ}
use native.Mathlib.Omega.{arith}
use lib.ListN.{length}
use lib.Ieee.{Float}
use borrow.Author.Rules.{rules}
use Rattle.lu_factor_rules.specs.Factor.{Matrix}
use Rattle.lu_factor_rules.specs.Transpose.{transpose}
use Rattle.lu_factor_rules.specs.Packed.{lower_rows_end, upper_starts_end, upper_rows_end, lower_t_starts_end, lower_t_rows_end}
use Rattle.lu_factor_rules.specs.Packed.{upper_t_starts_end}
use Rattle.lu_factor_rules.specs.Packed.{lower_coeffs_end, upper_coeffs_end, lower_t_coeffs_end}
use Rattle.lu_transpose.specs.Read.{Read}
use Rattle.lu_packed.specs.Written.{lent, matrix_written}
use Rattle.rules.proofs.Lists.{part_long}
use Rattle.fix_renew.proofs.Laws.{lower_read, upper_read, renewed}
use Rattle.fix_renew.proofs.renew.Statement.{statement}
use Rattle.fix_renew.proofs.renew.Tie as tie

-- the way back: to the call before, and to the start
abbrev first : tie.After-copy_matrix-2 → tie.After-copy_matrix
first a = search

abbrev second : tie.After-put_transpose → tie.After-copy_matrix-2
second a = search

abbrev third : tie.After-put_transpose-2 → tie.After-put_transpose
third a = search

abbrev start·1 : tie.After-copy_matrix → tie.Start
start·1 a = search

abbrev start·2 : tie.After-copy_matrix-2 → tie.Start
start·2 a = start·1 (first a)

abbrev start·3 : tie.After-put_transpose → tie.Start
start·3 a = start·2 (second a)

abbrev start·4 : tie.After-put_transpose-2 → tie.Start
start·4 a = start·3 (third a)

-- the arrays after the first transpose, which are as long as they were
abbrev N·1 : tie.After-put_transpose → List ℕ
N·1 a = a.put_transpose.new.numbers

n·1 : (a : tie.After-put_transpose) → length (N·1 a) ≡ length (start·3 a).args.factor_numbers.now
n·1 a = a.put_transpose.auto.numbers

abbrev D·1 : tie.After-put_transpose → List Float
D·1 a = a.put_transpose.new.coeffs

d·1 : (a : tie.After-put_transpose) → length (D·1 a) ≡ length (start·3 a).args.factor_coeffs.now
d·1 a = a.put_transpose.auto.coeffs

sub-copy-matrix : tie.Need-slice_bounds-copy_matrix-count
sub-copy-matrix c = search rules

part-copy-matrix-start : tie.Need-slice_bounds-copy_matrix-start
part-copy-matrix-start c = search rules

part-copy-matrix-end : tie.Need-slice_bounds-copy_matrix-end
part-copy-matrix-end c = search rules

sub-copy-matrix-2 : tie.Need-slice_bounds-copy_matrix-count-2
sub-copy-matrix-2 c = search rules

part-copy-matrix-start-2 : tie.Need-slice_bounds-copy_matrix-start-2
part-copy-matrix-start-2 c = search rules

part-copy-matrix-end-2 : tie.Need-slice_bounds-copy_matrix-end-2
part-copy-matrix-end-2 c = search rules

sub-copy-matrix-3 : tie.Need-slice_bounds-copy_matrix-count-3
sub-copy-matrix-3 c = search rules

part-copy-matrix-start-3 : tie.Need-slice_bounds-copy_matrix-start-3
part-copy-matrix-start-3 c = search rules

part-copy-matrix-end-3 : tie.Need-slice_bounds-copy_matrix-end-3
part-copy-matrix-end-3 c = search rules

slice-aggregate-copy-matrix : tie.Need-slice_bounds-copy_matrix-end-4
slice-aggregate-copy-matrix c = search rules

slice-aggregate-copy-matrix-2 : tie.Need-slice_bounds-copy_matrix-end-5
slice-aggregate-copy-matrix-2 c = search rules

slice-aggregate-copy-matrix-3 : tie.Need-slice_bounds-copy_matrix-end-6
slice-aggregate-copy-matrix-3 c = search rules

copy-matrix-requires : tie.Need-copy_matrix-requires
copy-matrix-requires c κs = search rules

sub-copy-matrix-4 : tie.Need-slice_bounds-copy_matrix-count-4
sub-copy-matrix-4 c = search rules

part-copy-matrix-start-4 : tie.Need-slice_bounds-copy_matrix-start-4
part-copy-matrix-start-4 c = search rules

part-copy-matrix-end-4 : tie.Need-slice_bounds-copy_matrix-end-7
part-copy-matrix-end-4 c = search rules

sub-copy-matrix-5 : tie.Need-slice_bounds-copy_matrix-count-5
sub-copy-matrix-5 c = search rules

part-copy-matrix-start-5 : tie.Need-slice_bounds-copy_matrix-start-5
part-copy-matrix-start-5 c = search rules

part-copy-matrix-end-5 : tie.Need-slice_bounds-copy_matrix-end-8
part-copy-matrix-end-5 c = search rules

sub-copy-matrix-6 : tie.Need-slice_bounds-copy_matrix-count-6
sub-copy-matrix-6 c = search rules

part-copy-matrix-start-6 : tie.Need-slice_bounds-copy_matrix-start-6
part-copy-matrix-start-6 c = search rules

part-copy-matrix-end-6 : tie.Need-slice_bounds-copy_matrix-end-9
part-copy-matrix-end-6 c = search rules

slice-aggregate-copy-matrix-4 : tie.Need-slice_bounds-copy_matrix-end-10
slice-aggregate-copy-matrix-4 c = search rules

slice-aggregate-copy-matrix-5 : tie.Need-slice_bounds-copy_matrix-end-11
slice-aggregate-copy-matrix-5 c = search rules

slice-aggregate-copy-matrix-6 : tie.Need-slice_bounds-copy_matrix-end-12
slice-aggregate-copy-matrix-6 c = search rules

copy-matrix-requires-2 : tie.Need-copy_matrix-requires-2
copy-matrix-requires-2 c κs =
    let a : tie.After-copy_matrix = search in
    let s = start·1 a in
    let N = s.args.factor_numbers.now in (
      part_long lower_rows_end upper_starts_end N (omega (arith, s.requires.1)),
      part_long upper_starts_end upper_rows_end N (omega (arith, s.requires.1)),
      part_long lower_coeffs_end upper_coeffs_end s.args.factor_coeffs.now (omega (arith, s.requires.2)),
    )

put-transpose-requires : tie.Need-put_transpose-requires
put-transpose-requires c κs =
    let b : tie.After-copy_matrix-2 = search in
    let a = first b in
    let s = start·1 a in
    let q = s.requires in
    let g = s.args in (
      subst (Read g.m) (sym a.copy_matrix.ensures)
          (lower_read g.m g.factor_numbers.now g.factor_coeffs.now q.0 q.1 q.2 q.3),
      record { starts = omega (arith, q.1); rows = omega (arith, q.1); vals = omega (arith, q.2) },
    )

put-transpose-requires-2 : tie.Need-put_transpose-requires-2
put-transpose-requires-2 c κs =
    let d : tie.After-put_transpose = search in
    let b = second d in
    let s = start·2 b in
    let q = s.requires in
    let g = s.args in (
      subst (Read g.m) (sym b.copy_matrix-2.ensures)
          (upper_read g.m g.factor_numbers.now g.factor_coeffs.now q.0 q.1 q.2 q.3),
      record {
        starts = omega (arith, q.1, n·1 d);
        rows = omega (arith, q.1, n·1 d);
        vals = omega (arith, q.2, d·1 d);
      },
    )

same_length : tie.Need-shape_of-factor_numbers
same_length c =
    let e : tie.After-put_transpose-2 = search in
    e.put_transpose-2.auto.numbers ∙ n·1 (third e)

same-length-2 : tie.Need-shape_of-factor_coeffs
same-length-2 c =
    let e : tie.After-put_transpose-2 = search in
    e.put_transpose-2.auto.coeffs ∙ d·1 (third e)

returns : tie.Need-returns
returns c =
    let e : tie.After-put_transpose-2 = search in
    let d = third e in
    let b = second d in
    let a = first b in
    let s = start·1 a in
    let q = s.requires in
    let g = s.args in
    let at_first : Matrix → _ = λ t. matrix_written upper_rows_end lower_t_starts_end upper_coeffs_end (transpose g.m t)
    (lent g.factor_numbers.now g.factor_coeffs.now) in
    let at_second : Matrix → _ = λ t. matrix_written lower_t_rows_end upper_t_starts_end lower_t_coeffs_end (transpose g.m t)
    (lent (N·1 d) (D·1 d)) in
    renewed g.m g.factor_numbers.now g.factor_coeffs.now q.0 q.1 q.2
    (d.put_transpose.ensures ∙ ap at_first a.copy_matrix.ensures)
    (e.put_transpose-2.ensures ∙ ap at_second b.copy_matrix-2.ensures)

pub renew_spec : {M : Type 1} → statement M
renew_spec =
    tie.close
    (tie.spec
    sub-copy-matrix
    part-copy-matrix-start
    part-copy-matrix-end
    sub-copy-matrix-2
    part-copy-matrix-start-2
    part-copy-matrix-end-2
    sub-copy-matrix-3
    part-copy-matrix-start-3
    part-copy-matrix-end-3
    slice-aggregate-copy-matrix
    slice-aggregate-copy-matrix-2
    slice-aggregate-copy-matrix-3
    copy-matrix-requires
    sub-copy-matrix-4
    part-copy-matrix-start-4
    part-copy-matrix-end-4
    sub-copy-matrix-5
    part-copy-matrix-start-5
    part-copy-matrix-end-5
    sub-copy-matrix-6
    part-copy-matrix-start-6
    part-copy-matrix-end-6
    slice-aggregate-copy-matrix-4
    slice-aggregate-copy-matrix-5
    slice-aggregate-copy-matrix-6
    copy-matrix-requires-2
    put-transpose-requires
    put-transpose-requires-2
    same_length
    same-length-2
    returns)
