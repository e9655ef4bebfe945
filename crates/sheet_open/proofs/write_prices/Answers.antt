-- `sheet_open::write_prices` meets its contract. Assumes nothing.
use Rattle.std.proofs.Common.{◌≡◌, length, take}
use mathlib.Core.Path.{ap, sym, ◌∙◌}
use native.Mathlib.Omega.{arith}
use lib.IntN.{pos}
use lib.Seq.{length-take-le}
use Rattle.doubles.specs.Limits.{max_multiplier}
use Rattle.sheet_rules.specs.Sum.{◌‼◌}
use Rattle.sheet_rules.specs.Verdict.{is_zero}
use Rattle.doubles.proofs.Items.{item, within}
use Rattle.sheet_terms.proofs.Machine.{result_item, seen}
use Rattle.sheet_open.proofs.Prices.{none_yet, row_passed, row_off, prices_asked, row_small, all_off}
use Rattle.sheet_open.proofs.write_prices.Goals.{then-not-is_zero, else-not-is_zero}
use Rattle.sheet_open.proofs.write_prices.Goals as goal

pub loop-i-init : goal.loop-i-init
loop-i-init c = none_yet c.args.coefs.now c.args.costs.now c.args.mults.now c.args.columns c.args.d.now _ c.start_prices.ensures

pub take_row-requires : goal.take_row-requires
take_row-requires c =
    let a = c.args in
    let p = c.requires in
    let i = c.loop-i.i in
    let l = within a.rows a.mults.now p.3.there c.loop-i-test.true in (
      row_small a.coefs.now a.costs.now a.mults.now a.columns i a.rows l p.1,
      seen (take a.rows a.mults.now ‼ i) max_multiplier (rw (item a.rows a.mults.now p.3.there c.loop-i-test.true (pos 0)) (p.3.at i l)) tt,
      prices_asked a.coefs.now a.costs.now a.mults.now a.columns _ _ i a.rows p.0 l p.1 p.2 p.3 c.loop-i.invariant,
    )

pub loop-i-preserved : goal.loop-i-preserved
loop-i-preserved c =
    let a = c.args in
    let p = c.requires in
    let i = c.loop-i.i in
    let l = within a.rows a.mults.now p.3.there c.loop-i-test.true in
    let mult = result_item a.rows a.mults.now p.3.there c.loop-i-test.true (omega arith) in
    let was = c.loop-i.invariant in
    elim c.if-not-is_zero.branch [
      | then-not-is_zero w ↦ row_off a.coefs.now a.costs.now a.mults.now a.columns _ _ _ i a.rows _ l p.1.there mult was (w.d-is ∙ w.take_row.ensures)
      | else-not-is_zero w ↦ w.d-is ∙ was ∙ row_passed a.coefs.now a.costs.now a.mults.now a.columns _ i (ap is_zero (sym mult) ∙ sym c.is_zero.ensures ∙ w.if-not-is_zero.false)
    ]

pub returns : goal.returns
returns c =
    let a = c.args in
    let q : length (take a.rows a.mults.now) ≡ a.rows = length-take-le a.rows a.mults.now c.requires.3.there in
    all_off a.coefs.now a.costs.now a.mults.now a.columns a.d.now _ _ _ _ (omega arith) (omega arith) c.start_prices.ensures c.loop-i.invariant
