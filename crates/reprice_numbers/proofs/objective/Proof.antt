-- `reprice_numbers::objective` meets its contract: the basic variables, then the others. Assumes nothing.
use mathlib.Core.Path.{ap, ◌∙◌}
use lib.Ieee.{Float}
use Rattle.doubles.specs.Loop.{run}
use Rattle.reprice_rules.specs.Reprice.{cost_of, objective_of}
use Rattle.reprice_numbers.specs.Lent.{add_turn}
use borrow.Author.Rules.{rules}
use Rattle.reprice_numbers.proofs.objective.Statement.{statement}
use Rattle.reprice_numbers.proofs.objective.Tie as tie

add-costs-requires : tie.Need-add_costs-basics-requires
add-costs-requires c κs = search rules

add-costs-requires-2 : tie.Need-add_costs-requires
add-costs-requires-2 c κs = search rules

returns : tie.Need-returns
unfolding objective_of cost_of
returns c =
    let s : tie.Start = search in
    let a : tie.After-add_costs-basics = search in
    let n = s.args.n in
    c.add_costs.ensures
    ∙ ap (λ (t : Float). run (add_turn n s.args.costs.now s.args.nb_vars.now s.args.nb_vals.now) n t) a.add_costs-basics.ensures

pub objective_spec : {M : Type 1} → statement M
objective_spec = tie.close (tie.spec add-costs-requires add-costs-requires-2 returns)
