-- `state_maps::all_lead_back` meets its contract. Assumes nothing.
use Rattle.std.proofs.Common.{refl, sym, ◌∙◌}
use Rattle.doubles.specs.Loop.{all}
use Rattle.doubles.proofs.Loops.{all_next, all_fails}
use Rattle.doubles.proofs.Items.{item, within}
use Rattle.state_maps.proofs.all_lead_back.Goals as goal

pub loop-i-init : goal.loop-i-init
unfolding all
loop-i-init c = refl

pub returns-then-not-leads_back : goal.returns-then-not-leads_back
returns-then-not-leads_back c =
    let own = item c.args.n c.args.at.now c.requires.2 c.loop-i-test.true 0 in
    sym (all_fails _ _ c.loop-i.i (within c.args.n c.args.at.now c.requires.2 c.loop-i-test.true) (rw own at (sym c.leads_back.ensures ∙ c.if-not-leads_back.true)))

pub loop-i-preserved : goal.loop-i-preserved
loop-i-preserved c =
    let own = item c.args.n c.args.at.now c.requires.2 c.loop-i-test.true 0 in
    all_next _ _ c.loop-i.invariant (rw own at (sym c.leads_back.ensures ∙ c.if-not-leads_back.false))
