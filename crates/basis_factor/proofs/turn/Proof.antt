-- `basis_factor::turn` meets its contract: the column is loaded and factored, and its pivot row noted. Assumes nothing.
use mathlib.Core.Path.{refl, sym, subst}
use Prim.Native.Nat.{ℕ, ◌<◌}
use native.Mathlib.Omega.{arith}
use Rattle.doubles.specs.Limits.{max_rows}
use Rattle.sparse.specs.Scattered.{Sv}
use Rattle.lu_factor_rules.specs.Factor.{Partial, added}
use Rattle.lu_factor_rules.specs.Counted.{partial_of, parts_of}
use Rattle.lu_factor_rules.specs.Ready.{Vector}
use Rattle.lu_factor_rules.proofs.Keeps.{solvable, factored_row}
use Rattle.lu_factor_rules.proofs.Turns.{answered, turned}
use Rattle.basis_factor.specs.Basis.{columns_of}
use borrow.Author.Rules.{rules}
use Rattle.basis_factor.proofs.turn.Statement.{statement}
use Rattle.basis_factor.proofs.turn.Tie as tie

-- the places on the way: the entry, the loading, the column, its pivot
abbrev start : tie.After-load_column-c → tie.Start
start l = search

abbrev loading : tie.After-column-r → tie.After-load_column-c
loading k = search

abbrev ask : tie.In-Added → tie.After-column-r
ask v = search

mul-v : tie.Need-offset_bounds-basis-i
mul-v c = let s : tie.Start = search in omega (arith, s.requires.0.0, s.requires.1.small)

element-copy-out-v : tie.Need-bounds-basis-i
element-copy-out-v c = let s : tie.Start = search in omega (arith, s.requires.0.0, s.requires.1.small)

load-column-requires : tie.Need-load_column-c-requires
load-column-requires c κs = let s : tie.Start = search in
    (record { fresh = refl }, s.requires.0.1.lent s.args.i s.requires.0.0)

-- the state before the column, and the columns
abbrev was : tie.Start → Partial
was s =
    let g = s.args in
    partial_of g.i g.order.now g.number.now g.lstarts.now g.ustarts.now g.diag.now
    (parts_of g.lrows.now g.lvals.now g.urows.now g.uvals.now g.from)

abbrev cols : tie.Start → ℕ → Sv
cols s = let g = s.args in columns_of g.col_starts.now g.col_rows.now g.col_coeffs.now g.n
    g.basis.now

vector : (s : tie.Start) → Vector s.args.m (cols s s.args.i)
vector s = s.requires.0.1.vector s.args.i s.requires.0.0

column-requires : tie.Need-column-r-requires
column-requires c κs =
    let l : tie.After-load_column-c = search in
    let s = start l in
    solvable {f = was s} s.requires.1 s.requires.0.0
    (subst (Vector s.args.m) (sym l.load_column-c.ensures) (vector s))

enum_told : tie.Need-enum_told-1
enum_told c = search rules

returns : tie.Need-returns-in-NotFinite
returns c =
    let k : tie.After-column-r = search in
    let l = loading k in
    let s = start l in
    turned s.args.m (cols s) (was s) (answered s.args.m (cols s) (was s) _ _ _ _ l.load_column-c.ensures
    k.column-r.ensures c.in-NotFinite.is)

enum-told-2 : tie.Need-enum_told-in-Singular
enum-told-2 c = search rules

returns-2 : tie.Need-returns-in-Singular
returns-2 c =
    let k : tie.After-column-r = search in
    let l = loading k in
    let s = start l in
    turned s.args.m (cols s) (was s) (answered s.args.m (cols s) (was s) _ _ _ _ l.load_column-c.ensures
    k.column-r.ensures c.in-Singular.is)

enum-known-r : tie.Need-enum_known-r
enum-known-r c = search rules

row_within : (v : tie.In-Added) → v.in-Added.p.row < max_rows
row_within v =
    let k = ask v in
    let l = loading k in
    let s = start l in
    omega (
      arith,
      s.requires.1.small,
      factored_row {f = was s} s.requires.1 s.requires.0.0 (vector s)
          (answered s.args.m (cols s) (was s) _ _ _ _ l.load_column-c.ensures k.column-r.ensures
          v.in-Added.is),
    )

i_in : (v : tie.In-Added) → (start (loading (ask v))).args.i < max_rows
i_in v = let s = start (loading (ask v)) in omega (arith, s.requires.0.0, s.requires.1.small)

mul-order : tie.Need-offset_bounds-order-i
mul-order c = let v : tie.In-Added = search in omega (arith, i_in v)

element-write-order : tie.Need-bounds-order-i
element-write-order c = let v : tie.In-Added = search in omega (arith, i_in v)

mul-number : tie.Need-offset_bounds-number-row
mul-number c = let v : tie.In-Added = search in omega (arith, row_within v)

element-write-number : tie.Need-bounds-number-row
element-write-number c = let v : tie.In-Added = search in omega (arith, row_within v)

add-lstarts : tie.Need-overflow_add-lstarts
add-lstarts c = let v : tie.In-Added = search in omega (arith, i_in v)

mul-lstarts : tie.Need-offset_bounds-lstarts-i
mul-lstarts c = let v : tie.In-Added = search in omega (arith, i_in v)

element-write-lstarts : tie.Need-bounds-lstarts-i
element-write-lstarts c = let v : tie.In-Added = search in omega (arith, i_in v)

add-ustarts : tie.Need-overflow_add-ustarts
add-ustarts c = let v : tie.In-Added = search in omega (arith, i_in v)

mul-ustarts : tie.Need-offset_bounds-ustarts-i
mul-ustarts c = let v : tie.In-Added = search in omega (arith, i_in v)

element-write-ustarts : tie.Need-bounds-ustarts-i
element-write-ustarts c = let v : tie.In-Added = search in omega (arith, i_in v)

mul-diag : tie.Need-offset_bounds-diag-i
mul-diag c = let v : tie.In-Added = search in omega (arith, i_in v)

element-write-diag : tie.Need-bounds-diag-i
element-write-diag c = let v : tie.In-Added = search in omega (arith, i_in v)

returns-3 : tie.Need-returns-in-Added
unfolding added
returns-3 c =
    let v : tie.In-Added = search in
    let k = ask v in
    let l = loading k in
    let s = start l in
    turned s.args.m (cols s) (was s) (answered s.args.m (cols s) (was s) _ _ _ _ l.load_column-c.ensures
    k.column-r.ensures v.in-Added.is)

pub turn_spec : {M : Type 1} → statement M
turn_spec =
    tie.close
    (tie.spec
    mul-v
    element-copy-out-v
    load-column-requires
    column-requires
    enum_told
    returns
    enum-told-2
    returns-2
    enum-known-r
    mul-order
    element-write-order
    mul-number
    element-write-number
    add-lstarts
    mul-lstarts
    element-write-lstarts
    add-ustarts
    mul-ustarts
    element-write-ustarts
    mul-diag
    element-write-diag
    returns-3)
