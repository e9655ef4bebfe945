-- `lu_solve::sparse` meets its contract: the walk, the marks of the list, unlisted places 0.0, the columns, the list. Assumes nothing.
use borrow.Author.Rules.{rules}
use mathlib.Core.Path.{refl, sym, ap, ◌∙◌, subst}
use native.Mathlib.Omega.{arith}
use mathlib.Core.Bool.{Bool}
use mathlib.Core.List.{List}
use lib.ListN.{length}
use Rattle.sparse.specs.Scattered.{pat}
use Rattle.lu_solve.specs.Solve.{Grows}
use Rattle.lu_walk.proofs.Laws.{fits_fresh}
use Rattle.lu_solve.proofs.Laws.{numbers_kept, length_zeroed, grows_given, places_reached, sparse_made}
use Rattle.lu_solve.proofs.sparse.Statement.{statement}
use Rattle.lu_solve.proofs.sparse.Tie as tie

-- the calls before a call, and the entry
abbrev marked : tie.After-zero_rest → tie.After-mark_listed
marked z = search

abbrev walked : tie.After-mark_listed → tie.After-reach-count
walked m = search

abbrev entry : tie.After-reach-count → tie.Start
entry w = search

reach-requires : tie.Need-reach-count-requires
reach-requires c κs = let s : tie.Start = search in (s.requires.0.columns, (s.requires.1.listed, fits_fresh))

mark-listed-requires : tie.Need-mark_listed-requires
mark-listed-requires c κs = let s : tie.Start = search in ((s.requires.1.listed.listed_long, record { inside = λ k h. omega (arith, s.requires.1.listed.places k h, s.requires.0.columns.small) }), refl)

zero-rest-requires : tie.Need-zero_rest-requires
zero-rest-requires c κs = search rules

process-all-requires : tie.Need-process_all-requires
process-all-requires c κs =
    let z : tie.After-zero_rest = search in
    let w = walked (marked z) in
    let s = entry w in
    (numbers_kept s.requires.0 (ap length z.zero_rest.ensures ∙ length_zeroed _ _ _), places_reached s.requires.0.columns s.requires.1.listed w.reach-count.ensures)

grow-requires : tie.Need-grow-requires
grow-requires c κs =
    let z : tie.After-zero_rest = search in
    let m = marked z in
    let w = walked m in
    let s = entry w in
    record {
      size = s.args.size;
      grows = subst (λ (g : List Bool). Grows s.args.size (pat g s.args.list.now s.args.listed)) (sym m.mark_listed.ensures) (grows_given s.requires.0.columns.small s.requires.1);
      places = places_reached s.requires.0.columns s.requires.1.listed w.reach-count.ensures;
    }

same_length : tie.Need-shape_of-list
same_length c = search rules

same-length-2 : tie.Need-shape_of-values
same-length-2 c = search rules

returns : tie.Need-returns
returns c =
    let g : tie.After-grow = search in
    let p : tie.After-process_all = search in
    let z : tie.After-zero_rest = search in
    let m = marked z in
    let w = walked m in
    sparse_made _ _ _ _ w.reach-count.ensures m.mark_listed.ensures z.zero_rest.ensures p.process_all.ensures g.grow.ensures

pub sparse_spec : {M : Type 1} → statement M
sparse_spec =
    tie.close
    (tie.spec
    reach-requires
    mark-listed-requires
    zero-rest-requires
    process-all-requires
    grow-requires
    same_length
    same-length-2
    returns)
