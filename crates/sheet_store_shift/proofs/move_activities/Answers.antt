-- `sheet_store_shift::move_activities` meets its contract. Assumes nothing.
use Rattle.std.proofs.Common.{◌≡◌, ap, ◌∙◌, ℤ, pos, ◌<◌, length}
use lib.IntN.{◌+ℤ◌}
use native.Mathlib.Omega.{arith}
use Rattle.doubles.specs.Limits.{max_r}
use Rattle.doubles.proofs.Loops.{filled_none, filled_more, filled_ahead, filled_over}
use Rattle.sheet_rules.specs.Sum.{◌‼◌}
use Rattle.sheet_rules.specs.Sheet.{plan_of}
use Rattle.sheet_rules.specs.Edit.{moved_r}
use Rattle.sheet_terms.proofs.Machine.{result, seen}
use Rattle.sheet_change_after.specs.Change.{row_change}
use Rattle.sheet_store_shift.proofs.Laws.{rows_cover, stay}
use Rattle.sheet_store_shift.proofs.move_activities.Goals.{In-loop-i}
use Rattle.sheet_store_shift.proofs.move_activities.Goals as goal

-- this turn's place and its number
module _ (c : In-loop-i) where
  below : c.loop-i.i < c.args.rows
  below = omega (arith, (rows_cover _ _ c.requires.0 c.touched_span-places.ensures).inside, c.loop-i-test.true)

  room : c.loop-i.i < length c.args.r.now
  room = omega (arith, below, c.requires.1.there)

  old : c.loop-i.r ‼ c.loop-i.i ≡ c.args.r.now ‼ c.loop-i.i
  old = filled_ahead c.loop-i.invariant (pos 0)

pub loop-i-init : goal.loop-i-init
loop-i-init c =
    let h = (rows_cover _ _ c.requires.0 c.touched_span-places.ensures) in
    stay _ c.args.r.now c.args.r.now c.touched_span-places.result.from filled_none (omega arith) (omega (arith, h.ordered, h.inside, c.requires.1.there)) (λ k a b. h.before k b)

pub offset_bounds-r-i : goal.offset_bounds-r-i
offset_bounds-r-i c = omega (arith, below c, c.requires.0.ready.sized)

pub slice_copy_out-activity_after : goal.slice_copy_out-activity_after
slice_copy_out-activity_after c = omega (arith, room c, c.loop-i.auto.r)

pub activity_after-requires : goal.activity_after-requires
activity_after-requires c = let o = (goal.at.activity_after-requires c).In-loop-i in (c.requires.0, below o, seen (c.loop-i.r ‼ c.loop-i.i) max_r (rw (old o) (c.requires.1.at c.loop-i.i (below o))) tt)

pub offset_bounds-r-i-in-loop-i : goal.offset_bounds-r-i-in-loop-i
offset_bounds-r-i-in-loop-i c = let o = (goal.at.offset_bounds-r-i-in-loop-i c).In-loop-i in omega (arith, below o, c.requires.0.ready.sized)

pub bounds-r-i : goal.bounds-r-i
bounds-r-i c = let o = (goal.at.bounds-r-i c).In-loop-i in omega (arith, room o, c.loop-i.auto.r)

pub loop-i-preserved : goal.loop-i-preserved
loop-i-preserved c =
    let o = (goal.at.loop-i-preserved c).In-loop-i in
    filled_more c.loop-i.invariant (room o)
    (result c.activity_after.result c.activity_after.type_inv ∙ c.activity_after.ensures ∙ ap (λ (z : ℤ). z +ℤ row_change (plan_of c.args.rows c.args.columns c.args.coefs.now c.args.costs.now c.args.lowers.now c.args.uppers.now c.args.lower_marks.now c.args.upper_marks.now c.args.rhs.now c.args.ops.now c.args.amounts.now c.args.mults.now) c.args.e c.loop-i.i) (result (c.loop-i.r ‼ c.loop-i.i) (search) ∙ old o))

pub returns : goal.returns
unfolding moved_r row_change
returns c =
    let h = (rows_cover _ _ c.requires.0 c.touched_span-places.ensures) in
    filled_over (stay _ c.args.r.now c.loop-i.r c.args.rows c.loop-i.invariant (omega (arith, h.inside, c.loop-i.auto.i-end h.ordered)) c.requires.1.there (λ k a b. h.after k (omega (arith, c.loop-i-test.false)) b))
