-- `night_second::lay_coefs` meets its contract: the costs go behind the coefficients. Assumes nothing.
use Rattle.std.proofs.Common.{ap, sym, ℕ, ◌+◌, ◌*◌, take, arith}
use lib.Seq.{length-take-le}
use Rattle.night_rules.specs.Night.{coefs_at}
use Rattle.night_second.proofs.Laws.{cells_fit, written_after}
use Rattle.night_second.proofs.lay_coefs.Goals as goal

pub put-requires-2 : goal.put-requires-2
put-requires-2 c =
    let a = c.args in
    omega (arith, length-take-le a.columns a.costs.now c.requires.3, cells_fit a.rows a.columns c.requires.0 c.requires.1, c.put.auto.to, c.requires.4)

pub returns : goal.returns
returns c =
    let a = c.args in
    let n = a.rows * a.columns in
    let h = length-take-le n a.coefs.now c.requires.2 in
    written_after coefs_at (take n a.coefs.now) (take a.columns a.costs.now) a.whole.now
    (omega (arith, h, cells_fit a.rows a.columns c.requires.0 c.requires.1, c.requires.4))
    (coefs_at + n) (ap (λ (k : ℕ). coefs_at + k) (sym h)) c.put.ensures c.put-2.ensures
