-- `lu_apply::solve` meets its contract. Assumes nothing.
use mathlib.Core.Path.{refl, sym, subst}
use mathlib.Core.Bool.{true, false}
use Rattle.doubles.specs.Limits.{places}
use Rattle.sparse.specs.Scattered.{Sv, sv, Good}
use Rattle.sparse.proofs.Laws.{good_blank, good_cleared}
use Rattle.lu_walk.specs.Walk.{shape}
use Rattle.lu_factor_rules.specs.Ready.{Vector}
use Rattle.lu_apply.proofs.Laws.{numbers_lower, numbers_upper, values_room, distinct_vector}
use Rattle.lu_apply.proofs.Laws.{map_vector, vector_mapped, lists_after, solve_made}
use Rattle.lu_apply.proofs.solve.Statement.{statement}
use Rattle.lu_apply.proofs.solve.Tie as tie

abbrev start : tie.After-put_mapped-a → tie.Start
start a = search

abbrev solving : tie.After-two-b → tie.After-put_mapped-a
solving t = search

-- the vector that is solved for
abbrev goes_in : tie.After-put_mapped-a → Sv
goes_in a = sv a.put_mapped-a.new.to_values a.put_mapped-a.new.to_marks
    a.put_mapped-a.new.to_list a.put_mapped-a.result

was : (a : tie.After-put_mapped-a) → Vector (start a).args.m (goes_in a)
was a = subst (Vector (start a).args.m) (sym a.put_mapped-a.ensures)
    (vector_mapped (start a).requires.0 (start a).requires.1)

put-mapped-requires : tie.Need-put_mapped-a-requires
put-mapped-requires c κs = let s : tie.Start = search in (map_vector s.requires.0 s.requires.1, good_blank)

two-requires : tie.Need-two-b-requires
two-requires c κs =
    let a : tie.After-put_mapped-a = search in
    let s = start a in
    let g = was a in (
      numbers_lower s.requires.0 false _ (values_room s.requires.0 g),
      (
        numbers_upper s.requires.0 true _ (values_room s.requires.0 g),
        distinct_vector s.requires.0 g
            (shape true s.args.m s.args.starts.now s.args.rows.now) refl,
      ),
    )

clear-requires : tie.Need-clear-requires
clear-requires c κs = let a : tie.After-put_mapped-a = search in (start a).requires.1.good

put-plain-requires : tie.Need-put_plain-requires
put-plain-requires c κs =
    let t : tie.After-two-b = search in
    let k : tie.After-clear = search in
    let a = solving t in
    let s = start a in (
      lists_after s.requires.0 false (was a) t.two-b.ensures,
      subst (Good places) (sym k.clear.ensures)
          (good_cleared _ s.requires.1.good),
    )

returns : tie.Need-returns
returns c =
    let p : tie.After-put_plain = search in
    let k : tie.After-clear = search in
    let t : tie.After-two-b = search in
    let a = solving t in
    let s = start a in
    solve_made s.requires.0 (sv s.args.values.now s.args.marks.now s.args.list.now s.args.count)
    a.put_mapped-a.ensures t.two-b.ensures k.clear.ensures p.put_plain.ensures

pub solve_spec : {M : Type 1} → statement M
solve_spec =
    tie.close (tie.spec put-mapped-requires two-requires clear-requires put-plain-requires returns)
