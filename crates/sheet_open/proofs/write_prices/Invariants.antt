-- The rows passed are taken off every D. Assumes nothing.
use Rattle.std.proofs.Common.{◌≡◌}
use Rattle.doubles.specs.Lists.{over}
use Rattle.doubles.specs.Loop.{table}
use Rattle.sheet_open.proofs.Prices.{price_at}
use Rattle.sheet_open.proofs.write_prices.Given as goal

abbrev pub invariant-loop-i : goal.invariant-loop-i
invariant-loop-i l = l.d ≡ over (table l.columns (price_at l.coefs l.costs l.mults l.columns l.i)) l.initial.d
