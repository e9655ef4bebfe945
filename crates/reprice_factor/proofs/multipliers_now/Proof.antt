-- `reprice_factor::multipliers_now` meets its contract: the costs of the basis, and the solves. Assumes nothing.
use borrow.Author.Rules.{rules}
use mathlib.Core.Path.{ap, ◌∙◌}
use mathlib.Core.List.{List}
use lib.ListN.{length}
use lib.Ieee.{Float}
use Rattle.doubles.specs.Limits.{max_rows}
use Rattle.lu_factor_rules.specs.Factor.{matrix}
use Rattle.reprice_numbers.proofs.Laws.{scratch_long}
use Rattle.reprice_factor.specs.Mults.{multipliers_of}
use Rattle.reprice_factor.proofs.multipliers_now.Statement.{statement}
use Rattle.reprice_factor.proofs.multipliers_now.Tie as tie

basic-costs-requires : tie.Need-basic_costs-requires
basic-costs-requires c κs = search rules

solve-now-requires : tie.Need-solve_now-requires
solve-now-requires c κs =
    let s : tie.Start = search in
    let y : tie.After-basic_costs = search in
    let long = ap length y.basic_costs.ensures ∙ scratch_long s.args.m max_rows _ s.requires.0.0 in
    ((long, s.requires.0.3), s.requires.1)

returns : tie.Need-returns
returns c =
    let s : tie.Start = search in
    let y : tie.After-basic_costs = search in
    let g = s.args in
    c.solve_now.ensures
    ∙ ap (λ (l : List Float). multipliers_of g.m g.number.now
    (matrix g.lstarts.now g.lrows.now g.lvals.now)
    (matrix g.ustarts.now g.urows.now g.uvals.now) g.diag.now l) y.basic_costs.ensures

pub multipliers_now_spec : {M : Type 1} → statement M
multipliers_now_spec = tie.close (tie.spec basic-costs-requires solve-now-requires returns)
