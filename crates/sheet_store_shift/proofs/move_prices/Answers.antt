-- `sheet_store_shift::move_prices` meets its contract. Assumes nothing.
use Rattle.std.proofs.Common.{◌≡◌, ap, ◌∙◌, ℤ, pos, ◌<◌, length}
use lib.IntN.{◌+ℤ◌}
use native.Mathlib.Omega.{arith}
use Rattle.doubles.specs.Limits.{max_d}
use Rattle.doubles.proofs.Loops.{filled_none, filled_more, filled_ahead, filled_over}
use Rattle.sheet_rules.specs.Sum.{◌‼◌}
use Rattle.sheet_rules.specs.Sheet.{plan_of}
use Rattle.sheet_rules.specs.Edit.{moved_d}
use Rattle.sheet_terms.proofs.Machine.{result, seen}
use Rattle.sheet_change_after.specs.Change.{price_change}
use Rattle.sheet_store_shift.proofs.Laws.{columns_cover, stay}
use Rattle.sheet_store_shift.proofs.move_prices.Goals.{In-loop-j}
use Rattle.sheet_store_shift.proofs.move_prices.Goals as goal

-- this turn's place and its number
module _ (c : In-loop-j) where
  below : c.loop-j.j < c.args.columns
  below = omega (arith, (columns_cover _ _ c.requires.0 c.touched_span-places.ensures).inside, c.loop-j-test.true)

  room : c.loop-j.j < length c.args.d.now
  room = omega (arith, below, c.requires.1.there)

  old : c.loop-j.d ‼ c.loop-j.j ≡ c.args.d.now ‼ c.loop-j.j
  old = filled_ahead c.loop-j.invariant (pos 0)

pub loop-j-init : goal.loop-j-init
loop-j-init c =
    let h = (columns_cover _ _ c.requires.0 c.touched_span-places.ensures) in
    stay _ c.args.d.now c.args.d.now c.touched_span-places.result.from filled_none (omega arith) (omega (arith, h.ordered, h.inside, c.requires.1.there)) (λ k a b. h.before k b)

pub offset_bounds-d-j : goal.offset_bounds-d-j
offset_bounds-d-j c = omega (arith, below c, c.requires.0.ready.sized)

pub slice_copy_out-price_after : goal.slice_copy_out-price_after
slice_copy_out-price_after c = omega (arith, room c, c.loop-j.auto.d)

pub price_after-requires : goal.price_after-requires
price_after-requires c = let o = (goal.at.price_after-requires c).In-loop-j in (c.requires.0, below o, seen (c.loop-j.d ‼ c.loop-j.j) max_d (rw (old o) (c.requires.1.at c.loop-j.j (below o))) tt)

pub offset_bounds-d-j-in-loop-j : goal.offset_bounds-d-j-in-loop-j
offset_bounds-d-j-in-loop-j c = let o = (goal.at.offset_bounds-d-j-in-loop-j c).In-loop-j in omega (arith, below o, c.requires.0.ready.sized)

pub bounds-d-j : goal.bounds-d-j
bounds-d-j c = let o = (goal.at.bounds-d-j c).In-loop-j in omega (arith, room o, c.loop-j.auto.d)

pub loop-j-preserved : goal.loop-j-preserved
loop-j-preserved c =
    let o = (goal.at.loop-j-preserved c).In-loop-j in
    filled_more c.loop-j.invariant (room o)
    (result c.price_after.result c.price_after.type_inv ∙ c.price_after.ensures ∙ ap (λ (z : ℤ). z +ℤ price_change (plan_of c.args.rows c.args.columns c.args.coefs.now c.args.costs.now c.args.lowers.now c.args.uppers.now c.args.lower_marks.now c.args.upper_marks.now c.args.rhs.now c.args.ops.now c.args.amounts.now c.args.mults.now) c.args.e c.loop-j.j) (result (c.loop-j.d ‼ c.loop-j.j) (search) ∙ old o))

pub returns : goal.returns
unfolding moved_d price_change
returns c =
    let h = (columns_cover _ _ c.requires.0 c.touched_span-places.ensures) in
    filled_over (stay _ c.args.d.now c.loop-j.d c.args.columns c.loop-j.invariant (omega (arith, h.inside, c.loop-j.auto.j-end h.ordered)) c.requires.1.there (λ k a b. h.after k (omega (arith, c.loop-j-test.false)) b))
