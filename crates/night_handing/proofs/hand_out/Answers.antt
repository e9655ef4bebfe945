-- `night_handing::hand_out` meets its contract: by the second audit. Assumes nothing.
use Rattle.std.proofs.Common.{sym, ◌∙◌, arith}
use lib.Seq.{length-take-le}
use Rattle.doubles.specs.Limits.{max_columns}
use Rattle.night_handing.proofs.Laws.{first_handed, second_handed}
use Rattle.night_handing.proofs.hand_out.Goals as goal

pub returns-then-first_stands : goal.returns-then-first_stands
returns-then-first_stands c = λ r.
    let a = c.args in
    first_handed a.first a.second a.amounts.now a.section.now a.whole.now r c.store.ensures
    (sym c.first_stands.ensures ∙ c.if-first_stands.true) c.put.ensures

pub slice_bounds-put-end : goal.slice_bounds-put-end
slice_bounds-put-end c = sym (length-take-le max_columns c.args.section.now (omega (arith, c.requires.1)))

pub put-requires-2 : goal.put-requires-2
put-requires-2 c =
    omega (arith, length-take-le max_columns c.args.section.now (omega (arith, c.requires.1)), c.store.auto.whole, c.requires.2)

pub returns : goal.returns
returns c = λ r.
    let a = c.args in
    second_handed a.first a.second a.amounts.now a.section.now a.whole.now r c.store.ensures
    (sym c.first_stands.ensures ∙ c.if-first_stands.false) c.put-2.ensures
