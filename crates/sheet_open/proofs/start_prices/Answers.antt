-- `sheet_open::start_prices` meets its contract. Assumes nothing.
use native.Mathlib.Omega.{arith}
use lib.Dec.{lit≤}
use lib.IntN.{pos}
use Rattle.doubles.specs.Limits.{max_cost, unit}
use Rattle.doubles.proofs.Loops.{filled_none, filled_more}
use Rattle.sheet_rules.specs.Sum.{◌‼◌}
use Rattle.sheet_terms.proofs.Machine.{num, mul, exact}
use Rattle.sheet_open.proofs.start_prices.Goals as goal

pub loop-j-init : goal.loop-j-init
loop-j-init c = filled_none

pub loop-j-preserved : goal.loop-j-preserved
loop-j-preserved c =
    filled_more c.loop-j.invariant (omega arith)
    (exact (mul (num (pos unit) unit (lit≤ tt)) (num (c.args.costs.now ‼ c.loop-j.j) max_cost (c.requires.0.at c.loop-j.j c.loop-j-test.true))) tt)
