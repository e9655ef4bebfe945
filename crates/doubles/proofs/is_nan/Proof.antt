-- `doubles::is_nan`. Assumes nothing.
use Rattle.doubles.proofs.Floats.{differs}
use Rattle.doubles.proofs.is_nan.Statement.{statement}
use Rattle.doubles.proofs.is_nan.Tie as tie

returns : tie.Need-returns
returns c = differs c.args.x

pub is_nan_spec : {M : Type 1} → statement M
is_nan_spec = tie.close (tie.spec returns)
