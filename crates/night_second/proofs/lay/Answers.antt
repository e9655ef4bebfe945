-- `night_second::lay` meets its contract: the last goes behind the others. Assumes nothing.
use Rattle.std.proofs.Common.{[], ◌∷◌, take, arith}
use lib.Seq.{length-take-le}
use Rattle.night_second.proofs.Laws.{written_after}
use Rattle.night_second.proofs.lay.Goals as goal

pub returns : goal.returns
returns g c =
    let a = c.args in
    let h = length-take-le a.rows a.xs.now c.requires.0 in
    written_after 0 (take a.rows a.xs.now) (a.last ∷ []) a.out.now (omega (arith, h, c.requires.1)) a.rows (omega (arith, h))
    c.put.ensures c.put-2.ensures
