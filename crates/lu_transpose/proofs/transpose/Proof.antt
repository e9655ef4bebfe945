-- `lu_transpose::transpose` meets its contract: counts, sums, then places. Assumes nothing.
use mathlib.Core.Path.{ap, subst}
use native.Mathlib.Omega.{arith}
use Rattle.lu_factor_rules.specs.Factor.{Matrix}
use Rattle.lu_transpose.specs.Read.{Roomy}
use Rattle.lu_transpose.proofs.Placed.{countable, sums_fit, roomy, begin_is, transpose_made}
use Rattle.lu_transpose.proofs.transpose.Statement.{statement}
use Rattle.lu_transpose.proofs.transpose.Tie as tie

mul-n : tie.Need-offset_bounds-starts-m
mul-n c = let s : tie.Start = search in omega (arith, s.requires.0.starts_long, s.requires.0.small)

shared-slice-read-n : tie.Need-bounds-starts-m
shared-slice-read-n c = let s : tie.Start = search in s.requires.0.starts_long

count-rows-requires : tie.Need-count_rows-requires
count-rows-requires c κs = let s : tie.Start = search in (
  countable s.requires.0,
  ap (λ (u : Matrix). u.starts)
      s.requires.1,
)

sum-up-requires : tie.Need-sum_up-requires
sum-up-requires c κs = let s : tie.Start = search in let k : tie.After-count_rows = search in sums_fit s.requires.0
    s.requires.1 k.count_rows.ensures

place-requires : tie.Need-place-requires
place-requires c κs =
    let s : tie.Start = search in
    let k : tie.After-count_rows = search in
    let u : tie.After-sum_up = search in (
      s.requires.0,
      subst (Roomy s.args.m _) (begin_is s.requires.0 s.requires.1 k.count_rows.ensures
          u.sum_up.ensures) (roomy s.requires.0),
    )

returns : tie.Need-returns
returns c =
    let s : tie.Start = search in
    let k : tie.After-count_rows = search in
    let u : tie.After-sum_up = search in
    let p : tie.After-place = search in
    transpose_made s.requires.0 (begin_is s.requires.0 s.requires.1 k.count_rows.ensures u.sum_up.ensures)
    p.place.ensures

pub transpose_spec : {M : Type 1} → statement M
transpose_spec =
    tie.close
    (tie.spec
    mul-n
    shared-slice-read-n
    count-rows-requires
    sum-up-requires
    place-requires
    returns)
