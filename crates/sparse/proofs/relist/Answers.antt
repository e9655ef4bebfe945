-- `sparse::relist` meets its contract. Assumes nothing.
use Rattle.std.proofs.Common.{[], sym, subst}
use native.Mathlib.Omega.{arith}
use Rattle.doubles.specs.Loop.{run}
use Rattle.doubles.proofs.Loops.{next}
use Rattle.doubles.proofs.Items.{item, within, upto, done_items}
use Rattle.sparse.specs.Scattered.{sv, Good, relisted}
use Rattle.sparse.proofs.Laws.{good_relisting}
use Rattle.sparse.proofs.relist.Goals as goal

pub loop-r-init : goal.loop-r-init
unfolding run
loop-r-init c = c.requires.0.fresh

pub put_at-c-requires : goal.put_at-c-requires
put_at-c-requires c =
    let w = c.requires.2 in (
      rw (item c.args.from_count c.args.from_list.now (omega arith) c.loop-r-test.true 0) (w.inside _ (within _ c.args.from_list.now (omega arith) c.loop-r-test.true)),
      subst (Good _) (sym c.loop-r.invariant)
          (good_relisting (sv c.args.from.now [] c.args.from_list.now c.args.from_count) w c.loop-r.r-index (upto _ c.args.from_list.now (omega arith) c.loop-r.auto.r-index-end)),
    )

pub loop-r-preserved : goal.loop-r-preserved
loop-r-preserved c =
    next _ _ c.loop-r.r-index c.loop-r.invariant
    (rw (item c.args.from_count c.args.from_list.now (omega arith) c.loop-r-test.true 0) at c.put_at-c.ensures)

pub returns : goal.returns
unfolding relisted
returns c =
    λ _. done_items _ c.args.from_list.now _ _ c.loop-r.r-index (omega arith) c.loop-r.auto.r-index-end
    c.loop-r-test.false c.loop-r.invariant
