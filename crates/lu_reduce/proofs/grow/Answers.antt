-- `lu_reduce::grow` meets its contract. Assumes nothing.
use Rattle.std.proofs.Common.{◌≤◌, length, arith, refl, sym, subst}
use Rattle.doubles.specs.Limits.{max_rows, places}
use Rattle.doubles.specs.Loop.{run}
use Rattle.doubles.proofs.Loops.{next}
use Rattle.sparse.specs.Scattered.{Wf}
use Rattle.lu_solve.specs.Solve.{grown}
use Rattle.lu_factor_rules.proofs.Laws.{wf_growing}
use Rattle.doubles.proofs.Items.{within, item, item_below, done_items}
use Rattle.lu_reduce.proofs.grow.Goals as goal

pub loop-r-init : goal.loop-r-init
unfolding run
loop-r-init c = refl

pub touch-c-requires : goal.touch-c-requires
touch-c-requires c =
    let h : c.args.n ≤ length c.args.done.now = omega (arith, c.requires.1.in_list) in
    let w = within c.args.n c.args.done.now h c.loop-r-test.true in (
      omega (arith, item_below {m = max_rows} c.args.done.now h c.requires.1.places c.loop-r-test.true),
      subst (Wf places) (sym c.loop-r.invariant) (wf_growing _ _ _ c.requires.1 c.requires.0 c.loop-r.r-index (omega (arith, w))),
    )

pub loop-r-preserved : goal.loop-r-preserved
loop-r-preserved c =
    let h : c.args.n ≤ length c.args.done.now = omega (arith, c.requires.1.in_list) in
    let q = item c.args.n c.args.done.now h c.loop-r-test.true 0 in
    next _ _ c.loop-r.r-index c.loop-r.invariant (rw q at c.touch-c.ensures)

pub returns : goal.returns
unfolding grown
returns c =
    let h : c.args.n ≤ length c.args.done.now = omega (arith, c.requires.1.in_list) in
    done_items _ c.args.done.now _ _ c.loop-r.r-index h c.loop-r.auto.r-index-end c.loop-r-test.false c.loop-r.invariant
