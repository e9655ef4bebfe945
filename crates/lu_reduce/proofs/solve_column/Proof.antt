-- `lu_reduce::solve_column` meets its contract: the walk, the list, and L taken off. Assumes nothing.
use mathlib.Core.Path.{sym, subst}
use Rattle.doubles.specs.Limits.{places}
use Rattle.sparse.specs.Scattered.{Pat, Good, sv_of}
use Rattle.lu_walk.proofs.Laws.{fits_fresh}
use Rattle.lu_factor_rules.proofs.Laws.{listed_rows, places_walked, places_all, good_list, solved_made}
use Rattle.lu_reduce.proofs.solve_column.Statement.{statement}
use Rattle.lu_reduce.proofs.solve_column.Tie as tie

reach-in-requires : tie.Need-reach_in-n-requires
reach-in-requires c κs = let s : tie.Start = search in (
  s.requires.0.columns,
  (listed_rows s.requires.0 s.requires.1, fits_fresh),
)

grow-requires : tie.Need-grow-c-requires
grow-requires c κs = let s : tie.Start = search in let w : tie.After-reach_in-n = search in
    (s.requires.1.good.wf, places_all s.requires.0 s.requires.1 w.reach_in-n.ensures)

reduce-requires : tie.Need-reduce-requires
reduce-requires c κs =
    let s : tie.Start = search in
    let w : tie.After-reach_in-n = search in
    let g : tie.After-grow-c = search in (
      (s.requires.0, places_walked s.requires.0 s.requires.1 w.reach_in-n.ensures),
      subst
          (λ (p : Pat). Good places (sv_of s.args.values.now p)) (sym g.grow-c.ensures)
          (good_list s.requires.0 s.requires.1 w.reach_in-n.ensures),
    )

returns : tie.Need-returns
returns c =
    let s : tie.Start = search in
    let w : tie.After-reach_in-n = search in
    let g : tie.After-grow-c = search in
    let r : tie.After-reduce = search in
    solved_made s.requires.0 s.requires.1 w.reach_in-n.ensures g.grow-c.ensures (r.reduce.ensures _)

pub solve_column_spec : {M : Type 1} → statement M
solve_column_spec = tie.close (tie.spec reach-in-requires grow-requires reduce-requires returns)
