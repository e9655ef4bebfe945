-- `reprice_numbers::solve_multipliers` meets its contract: the two dense solves, and the map back to rows. Assumes
-- nothing.
use mathlib.Core.Path.{◌≡◌, refl, sym, ap, ◌∙◌, subst}
use mathlib.Core.Bool.{true, false}
use Prim.Native.Nat.{◌≤◌}
use native.Mathlib.Omega.{arith}
use lib.ListN.{length, length-replicate}
use Rattle.doubles.specs.Num.{f0}
use Rattle.doubles.specs.Limits.{max_rows}
use Rattle.lu_solve.specs.Solve.{Tri, dense, Numbers}
use Rattle.lu_solve.proofs.Laws.{length_dense}
use Rattle.lu_factor_rules.specs.Factor.{Matrix, matrix}
use Rattle.lu_factor_rules.specs.Solves.{tri_of}
use Rattle.reprice_rules.specs.Reprice.{by_rows}
use Rattle.reprice_numbers.proofs.Laws.{dense_first, dense_second}
use Rattle.reprice_numbers.proofs.solve_multipliers.Statement.{statement}
use Rattle.reprice_numbers.proofs.solve_multipliers.Tie as tie

-- the transposes
abbrev upper_t : tie.Start → Matrix
upper_t s = matrix s.args.ut_starts.now s.args.ut_rows.now s.args.ut_coeffs.now

abbrev lower_t : tie.Start → Matrix
lower_t s = matrix s.args.lt_starts.now s.args.lt_rows.now s.args.lt_coeffs.now

abbrev first : tie.Start → Tri
first s = tri_of true s.args.m (upper_t s) true s.args.diag.now

abbrev second : tie.Start → Tri
second s = tri_of false s.args.m (lower_t s) false s.args.diag.now

long : (s : tie.Start) → s.args.m ≤ length s.args.y.now
long s = omega (arith, s.requires.0.0, s.requires.0.1)

dense-requires : tie.Need-dense-requires
dense-requires c κs =
    let s : tie.Start = search in
    dense_first s.args.m s.args.number.now (upper_t s) (lower_t s) s.args.diag.now s.requires.1 s.args.y.now (long s)

dense-requires-2 : tie.Need-dense-requires-2
dense-requires-2 c κs =
    let s : tie.Start = search in
    let a : tie.After-dense = search in
    let u = dense (first s) s.args.y.now in
    subst (Numbers (second s)) (sym a.dense.ensures)
    (dense_second s.args.m s.args.number.now (upper_t s) (lower_t s) s.args.diag.now s.requires.1 u
    (omega (arith, length_dense (first s) s.args.y.now, long s)))

by-rows-requires : tie.Need-by_rows-requires
by-rows-requires c κs =
    let s : tie.Start = search in
    let o : length s.args.out.now ≡ max_rows = ap length s.requires.0.2 ∙ length-replicate max_rows f0 in (
      s.requires.0.0,
      s.requires.1.map_long,
      omega (arith, o, s.requires.0.0),
      record { inside = λ k h. omega (arith, s.requires.1.leads k h, s.requires.0.0) },
    )

returns : tie.Need-returns
unfolding by_rows
returns c =
    let s : tie.Start = search in
    let a : tie.After-dense = search in
    let b : tie.After-dense-2 = search in
    rw (c.by_rows.ensures, b.dense-2.ensures, a.dense.ensures, s.requires.0.2, by_rows) refl

pub solve_multipliers_spec : {M : Type 1} → statement M
solve_multipliers_spec = tie.close (tie.spec dense-requires dense-requires-2 by-rows-requires returns)
