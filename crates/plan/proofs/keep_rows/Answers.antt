-- `plan::keep_rows` meets its contract. Assumes nothing.
use mathlib.Core.Path.{◌≡◌, refl}
use mathlib.Core.List.{[]}
use native.Mathlib.Omega.{arith}
use Rattle.doubles.specs.Loop.{run}
use Rattle.rules.specs.Plan.{kept_rows}
use Rattle.plan.specs.Lent.{rows_of}
use Rattle.plan.proofs.Laws.{keeps_row, drops_row}
use Rattle.plan.proofs.keep_rows.Goals as goal
use Rattle.plan.proofs.keep_rows.Goals.{then-starts-i, else-starts-i}

pub loop-i-init : goal.loop-i-init
unfolding run
loop-i-init c = record { few = omega arith; front = record { counted = refl; cells = refl } }

pub loop-i-preserved : goal.loop-i-preserved
loop-i-preserved c =
    let p = rows_of 0 c.args.rows c.args.starts.now [] in
    let f = c.loop-i.invariant.front in
    elim c.if-starts-i.branch [
      | then-starts-i w ↦ record { few = omega (arith, w.m-is); front = rw (w.kept-is, w.m-is) (keeps_row p c.loop-i.i f w.if-starts-i.true (omega arith)) }
      | else-starts-i w ↦ record { few = omega (arith, w.m-is); front = rw (w.kept-is, w.m-is) (drops_row p c.loop-i.i f w.if-starts-i.false) }
    ]

pub returns : goal.returns
unfolding kept_rows
returns c = let q : c.loop-i.i ≡ c.args.rows = omega arith in rw q at c.loop-i.invariant.front
