-- `sheet_store_shift::touched_span` meets its contract. Assumes nothing.
use native.Mathlib.Omega.{arith}
use Rattle.sheet_store_shift.specs.Span.{span_by}
use Rattle.sheet_store_shift.proofs.touched_span.Statement.{statement}
use Rattle.sheet_store_shift.proofs.touched_span.Tie as tie

returns : tie.Need-returns-then-every
unfolding span_by
returns c = rw c.if-every.true

add-t6 : tie.Need-overflow_add-result
add-t6 c = omega (arith, c.requires c.if-one.true)

returns-2 : tie.Need-returns-then-one
unfolding span_by
returns-2 c = rw (c.if-every.false, c.if-one.true)

returns-3 : tie.Need-returns
unfolding span_by
returns-3 c = rw (c.if-every.false, c.if-one.false)

pub touched_span_spec : {M : Type 1} → statement M
touched_span_spec = tie.close (tie.spec returns add-t6 returns-2 returns-3)
