-- `lu_walk::reach_in` meets its contract. Assumes nothing.
use Rattle.std.proofs.Common.{refl, sym, subst}
use Rattle.doubles.specs.Loop.{run}
use Rattle.doubles.proofs.Loops.{next}
use Rattle.lu_walk.specs.Walk.{reached_in, Fits}
use Rattle.doubles.proofs.Items.{item, within, upto, done_items}
use Rattle.lu_walk.proofs.Laws.{fits_part}
use Rattle.lu_walk.proofs.reach_in.Goals as goal

pub loop-place-init : goal.loop-place-init
unfolding run
loop-place-init c = refl

pub enter-n-requires : goal.enter-n-requires
enter-n-requires c =
    let r = c.requires in
    let b = r.listed_in.listed_long in
    let k = c.loop-place.place-index in
    let h = c.loop-place-test.true in
    record {
      columns = r.map_columns;
      place = rw (item c.args.listed c.args.list.now b h 0) (r.listed_in.places k (within _ _ b h));
      fits = subst Fits (sym c.loop-place.invariant)
          (fits_part r.map_columns r.listed_in r.fits k (upto _ _ b c.loop-place.auto.place-index-end));
    }

pub loop-place-preserved : goal.loop-place-preserved
loop-place-preserved c =
    let b = c.requires.listed_in.listed_long in
    next _ _ c.loop-place.place-index c.loop-place.invariant
    (rw (item c.args.listed c.args.list.now b c.loop-place-test.true 0) at c.enter-n.ensures)

pub returns : goal.returns
unfolding reached_in
returns c =
    done_items _ c.args.list.now _ _ c.loop-place.place-index c.requires.listed_in.listed_long
    c.loop-place.auto.place-index-end c.loop-place-test.false c.loop-place.invariant
