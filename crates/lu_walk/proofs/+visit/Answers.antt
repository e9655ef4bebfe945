-- `lu_walk::visit` meets its contract: a function that calls itself, with a loop over the column's rows in it. Assumes
-- nothing.
use Rattle.std.proofs.Common.{ℕ, ◌+◌, ◌<◌, length, refl, sym}
use native.Mathlib.Omega.{arith}
use Rattle.doubles.specs.Loop.{run}
use Rattle.doubles.specs.Lists.{◌#◌}
use Rattle.doubles.proofs.Loops.{next}
use Rattle.lu_walk.specs.Walk.{Mapped, graph_in, MapColumns}
use Rattle.lu_walk.proofs.Laws.{walk_old, opened, asks, closed, many_at}
use Rattle.lu_walk.proofs.+visit.Goals as goal

-- where a place has a child, its number has a column, and the child is one of the column's rows
module _ {t : Mapped} (w : MapColumns t) (p : ℕ) {k : ℕ} (h : k < (graph_in t).many p) where
  start_in : t.at # p < length t.starts
  start_in = omega (arith, many_at t p k h, w.long)

  row_within : t.starts # (t.at # p) + k < length t.rows
  row_within = let m = many_at t p k h in omega (arith, m.1, w.ends _ m.0, w.rise _ m.0)

pub returns-then-marks-place : goal.returns-then-marks-place
returns-then-marks-place t c = sym (walk_old _ _ _ _ c.if-marks-place.true)

pub loop-k-init : goal.loop-k-init
unfolding run
loop-k-init t c = refl

pub offset_bounds-starts-number : goal.offset_bounds-starts-number
offset_bounds-starts-number t c =
    let h = rw c.many-kids.ensures at c.loop-k-test.true in
    omega (arith, start_in c.requires.columns c.args.place h, c.well_formed)

pub bounds-starts-number : goal.bounds-starts-number
bounds-starts-number t c = start_in c.requires.columns c.args.place (rw c.many-kids.ensures at c.loop-k-test.true)

pub overflow_add-child : goal.overflow_add-child
overflow_add-child t c =
    let h = rw c.many-kids.ensures at c.loop-k-test.true in
    omega (arith, row_within c.requires.columns c.args.place h, c.well_formed)

pub offset_bounds-rows-starts : goal.offset_bounds-rows-starts
offset_bounds-rows-starts t c =
    let h = rw c.many-kids.ensures at c.loop-k-test.true in
    omega (arith, row_within c.requires.columns c.args.place h, c.well_formed)

pub bounds-rows-starts : goal.bounds-rows-starts
bounds-rows-starts t c = row_within c.requires.columns c.args.place (rw c.many-kids.ensures at c.loop-k-test.true)

-- a child that is marked is left
pub loop-k-preserved-then-marks-child : goal.loop-k-preserved-then-marks-child
loop-k-preserved-then-marks-child t c =
    next _ _ c.loop-k.k c.loop-k.invariant (sym (walk_old _ _ _ _ c.if-marks-child.true))

pub visit-n-requires : goal.visit-n-requires
visit-n-requires t c =
    let h = rw c.many-kids.ensures at c.loop-k-test.true in (
      rw (← c.decreases) (c.requires.columns.falling.falls _ _ c.requires.place h),
      asks c.requires c.if-marks-place.false c.loop-k.invariant (rw c.many-kids.ensures at c.loop-k.auto.k-end) _ h,
    )

pub loop-k-preserved : goal.loop-k-preserved
loop-k-preserved t c = next _ _ c.loop-k.k c.loop-k.invariant c.visit-n.ensures

pub offset_bounds-done-n : goal.offset_bounds-done-n
offset_bounds-done-n t c =
    let e = rw c.many-kids.ensures at c.loop-k.auto.k-end in
    omega (arith, (opened c.requires c.if-marks-place.false c.loop-k.invariant e).room)

pub bounds-done-n : goal.bounds-done-n
bounds-done-n t c =
    let e = rw c.many-kids.ensures at c.loop-k.auto.k-end in
    (opened c.requires c.if-marks-place.false c.loop-k.invariant e).room

pub overflow_add-result : goal.overflow_add-result
overflow_add-result t c =
    let e = rw c.many-kids.ensures at c.loop-k.auto.k-end in
    omega (arith, (opened c.requires c.if-marks-place.false c.loop-k.invariant e).room)

pub returns : goal.returns
returns t c =
    let e = rw c.many-kids.ensures at c.loop-k.auto.k-end in
    closed c.requires c.if-marks-place.false c.loop-k.invariant e (rw c.many-kids.ensures at c.loop-k-test.false)
