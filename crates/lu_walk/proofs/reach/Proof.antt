-- `lu_walk::reach` meets its contract: a triangle is walked with every place as its own number. Assumes nothing.
use mathlib.Core.Path.{◌∙◌}
use Prim.Native.Nat.{ℕ}
use lib.ListN.{length-replicate}
use Rattle.doubles.specs.Limits.{max_rows}
use Rattle.lu_walk.proofs.Laws.{map_columns, reached_plain, own_numbers_holds}
use Rattle.lu_walk.proofs.reach.Statement.{statement}
use Rattle.lu_walk.proofs.reach.Tie as tie

own-numbers-requires : tie.Need-own_numbers-requires
own-numbers-requires c κs = let s : tie.Start = search in s.requires.0.small

reach-in-requires : tie.Need-reach_in-requires
reach-in-requires c κs =
    let s : tie.Start = search in
    let a : tie.After-own_numbers = search in (
      map_columns s.requires.0 _ (own_numbers_holds _ _ a.own_numbers.ensures (length-replicate {A = ℕ} max_rows 0)
          s.requires.0.small),
      s.requires.1,
    )

returns : tie.Need-returns
returns c =
    let s : tie.Start = search in
    let a : tie.After-own_numbers = search in
    c.reach_in.ensures ∙ reached_plain s.requires.0 _ (own_numbers_holds _ _ a.own_numbers.ensures
    (length-replicate {A = ℕ} max_rows 0) s.requires.0.small) _ _ _ s.requires.1.0

pub reach_spec : {M : Type 1} → statement M
reach_spec = tie.close (tie.spec own-numbers-requires reach-in-requires returns)
