-- `fix_kept_factor::order_fine` meets its contract: pivot rows, then pivot numbers. Assumes nothing.
use mathlib.Core.Path.{◌≡◌, sym, ◌∙◌}
use borrow.Author.Rules.{rules}
use borrow.Author.Tests.{not-true, not-false}
use Rattle.doubles.specs.Loop.{all}
use Rattle.doubles.specs.Lists.{◌#◌}
use Rattle.state_maps.specs.Maps.{leads_back}
use Rattle.state_maps.proofs.Laws.{from_zero}
use Rattle.fix_rules.specs.Kept.{order_fine}
use Rattle.fix_kept_factor.proofs.order_fine.Statement.{statement}
use Rattle.fix_kept_factor.proofs.order_fine.Tie as tie

abbrev entry : tie.After-all_lead_back → tie.Start
entry a = search

told : (a : tie.After-all_lead_back) → let g = (entry a).args in
    a.all_lead_back.result ≡ all g.m (λ k. leads_back g.m g.number.now k (g.order.now # k))
told a = let g = (entry a).args in a.all_lead_back.ensures ∙ from_zero g.m g.number.now g.m g.order.now

all-lead-back-requires : tie.Need-all_lead_back-requires
all-lead-back-requires c κs = search rules

returns : tie.Need-returns-then-not-all_lead_back
unfolding order_fine
returns c = let a : tie.After-all_lead_back = search in rw (sym (told a) ∙ not-true _ c.if-not-all_lead_back.true-raw)

all-below-requires : tie.Need-all_below-requires
all-below-requires c κs = search rules

returns-2 : tie.Need-returns
unfolding order_fine
returns-2 c =
    let e : tie.Else-not-all_lead_back = search in
    let a : tie.After-all_lead_back = search in
    rw (sym (told a) ∙ not-false _ e.if-not-all_lead_back.false-raw) c.all_below.ensures

pub order_fine_spec : {M : Type 1} → statement M
order_fine_spec = tie.close (tie.spec all-lead-back-requires returns all-below-requires returns-2)
