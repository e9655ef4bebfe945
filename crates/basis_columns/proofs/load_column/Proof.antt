-- `basis_columns::load_column` meets its contract: a column of the matrix, or a slack's own row. Assumes nothing.
use mathlib.Core.Path.{sym, subst, ap, ◌∙◌}
use Prim.Native.Nat.{◌-◌}
use native.Mathlib.Omega.{arith}
use Rattle.doubles.specs.Num.{f1}
use borrow.Author.Tests.{lt-ltb, le-ltb}
use borrow.Author.Rules.{rules}
use Rattle.doubles.specs.Limits.{places}
use Rattle.sparse.specs.Scattered.{Sv, Good, loaded, put_at}
use Rattle.sparse.proofs.Laws.{good_blank}
use Rattle.basis_columns.specs.Loading.{column_on}
use Rattle.basis_columns.proofs.Loading.{ColumnRead, column_read, part_asks}
use Rattle.basis_columns.proofs.load_column.Statement.{statement}
use Rattle.basis_columns.proofs.load_column.Tie as tie

-- a column of the matrix can be read
abbrev start : tie.Then-v-n → tie.Start
start t = search

ask : (t : tie.Then-v-n) → let g = (start t).args in
    ColumnRead g.col_starts.now g.col_rows.now g.col_coeffs.now g.v
ask t = column_read _ _ _ _ _ (start t).requires.1 t.if-v-n.true

mul-a : tie.Need-offset_bounds-col_starts-v
mul-a c = let t : tie.Then-v-n = search in omega (arith, ask t)

shared-slice-read-a : tie.Need-bounds-col_starts-v
shared-slice-read-a c = let t : tie.Then-v-n = search in omega (arith, ask t)

add-b : tie.Need-overflow_add-b
add-b c = search rules

mul-b : tie.Need-offset_bounds-col_starts-v-then-v-n
mul-b c = let t : tie.Then-v-n = search in omega (arith, ask t)

shared-slice-read-b : tie.Need-bounds-col_starts-v-then-v-n
shared-slice-read-b c = let t : tie.Then-v-n = search in omega (arith, ask t)

mul-load : tie.Need-offset_bounds-col_rows-a
mul-load c = let t : tie.Then-v-n = search in omega (arith, ask t)

sub-load : tie.Need-slice_bounds-load-count
sub-load c = let t : tie.Then-v-n = search in omega (arith, ask t)

part-load-start : tie.Need-slice_bounds-load-start
part-load-start c = let t : tie.Then-v-n = search in omega (arith, ask t)

part-load-end : tie.Need-slice_bounds-load-end
part-load-end c = let t : tie.Then-v-n = search in omega (arith, ask t)

mul-load-2 : tie.Need-offset_bounds-col_coeffs-a
mul-load-2 c = let t : tie.Then-v-n = search in omega (arith, ask t)

sub-load-2 : tie.Need-slice_bounds-load-count-then-v-n
sub-load-2 c = let t : tie.Then-v-n = search in omega (arith, ask t)

part-load-start-2 : tie.Need-slice_bounds-load-start-then-v-n
part-load-start-2 c = let t : tie.Then-v-n = search in omega (arith, ask t)

part-load-end-2 : tie.Need-slice_bounds-load-end-then-v-n
part-load-end-2 c = let t : tie.Then-v-n = search in omega (arith, ask t)

sub-load-3 : tie.Need-overflow_sub-b
sub-load-3 c = let t : tie.Then-v-n = search in omega (arith, ask t)

load-requires : tie.Need-load-requires
load-requires c κs =
    let t : tie.Then-v-n = search in
    let s : tie.Start = search in
    (subst (Good places) (sym s.requires.0.fresh) good_blank, part_asks _ _ _ _ _ s.requires.1 t.if-v-n.true)

returns : tie.Need-returns-then-v-n
unfolding column_on
returns c =
    let t : tie.Then-v-n = search in
    let s : tie.Start = search in
    c.load.ensures ∙ rw (lt-ltb _ _ t.if-v-n.true, column_on) (ap (loaded _ _ _) s.requires.0.fresh)

put-at-requires : tie.Need-put_at-requires
put-at-requires c κs =
    let t : tie.Else-v-n = search in
    let s : tie.Start = search in
    (s.requires.1.own t.if-v-n.false, subst (Good places) (sym s.requires.0.fresh) good_blank)

returns-2 : tie.Need-returns
unfolding column_on
returns-2 c =
    let t : tie.Else-v-n = search in
    let s : tie.Start = search in
    c.put_at.ensures ∙ rw (le-ltb _ _ t.if-v-n.false, column_on) (ap (λ (z : Sv). put_at z (s.args.v - s.args.n) f1) s.requires.0.fresh)

pub load_column_spec : {M : Type 1} → statement M
load_column_spec =
    tie.close
    (tie.spec
    mul-a
    shared-slice-read-a
    add-b
    mul-b
    shared-slice-read-b
    mul-load
    sub-load
    part-load-start
    part-load-end
    mul-load-2
    sub-load-2
    part-load-start-2
    part-load-end-2
    sub-load-3
    load-requires
    returns
    put-at-requires
    returns-2)
