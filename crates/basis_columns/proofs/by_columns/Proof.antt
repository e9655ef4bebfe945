-- `basis_columns::by_columns` meets its contract: the counts, the starts and the placed rows, one after the other. Assumes nothing.
use mathlib.Core.Path.{refl}
use lib.ListN.{replicate}
use Rattle.doubles.specs.Limits.{max_columns}
use Rattle.rules.specs.Plan.{Problem}
use Rattle.rules.specs.Parts.{rowed}
use Rattle.basis_columns.proofs.Columns.{counts_part}
use Rattle.basis_columns.proofs.Whole.{fresh, sums_fit, all_placing, all_columns, starts_long}
use Rattle.basis_columns.proofs.by_columns.Statement.{statement}
use Rattle.basis_columns.proofs.by_columns.Tie as tie

abbrev problem_at : tie.Start → Problem
problem_at s = let a = s.args in rowed a.n a.starts.now a.cols.now a.coeffs.now a.kept.now

count-all-requires : tie.Need-count_all-requires
count-all-requires c κs = let s : tie.Start = search in
    (counts_part (problem_at s) s.requires.0.0, fresh)

sum-up-requires : tie.Need-sum_up-requires
sum-up-requires c κs = let s : tie.Start = search in
    let a = s.args in
    let k : tie.After-count_all = search in (
      (s.requires.0.0.columns_most, sums_fit a.n a.starts.now a.cols.now a.coeffs.now a.kept.now (replicate max_columns 0) fresh s.requires.0.0 _ k.count_all.ensures),
      (s.requires.1.0, refl),
    )

place-all-requires : tie.Need-place_all-requires
place-all-requires c κs = let s : tie.Start = search in
    let a = s.args in
    let k : tie.After-count_all = search in
    let u : tie.After-sum_up = search in
    all_placing a.n a.starts.now a.cols.now a.coeffs.now a.kept.now (replicate max_columns 0) fresh s.requires.0.0 _ k.count_all.ensures
    (replicate max_columns 0) a.crows.now a.ccoeffs.now refl s.requires.1.1 s.requires.1.2 _ u.sum_up.ensures.1 s.requires.0.1

returns : tie.Need-returns
returns c = let s : tie.Start = search in
    let a = s.args in
    let k : tie.After-count_all = search in
    let u : tie.After-sum_up = search in (
      all_columns a.n a.starts.now a.cols.now a.coeffs.now a.kept.now (replicate max_columns 0) fresh s.requires.0.0 _ k.count_all.ensures
          (replicate max_columns 0) a.crows.now a.ccoeffs.now refl s.requires.1.1 s.requires.1.2 _ u.sum_up.ensures.1
          a.cstarts.now _ u.sum_up.ensures.0 _ c.place_all.ensures,
      starts_long a.n _ a.cstarts.now _ s.requires.0.0.columns_most s.requires.1.0 u.sum_up.ensures.0,
    )

pub by_columns_spec : {M : Type 1} → statement M
by_columns_spec =
    tie.close (tie.spec count-all-requires sum-up-requires place-all-requires returns)
