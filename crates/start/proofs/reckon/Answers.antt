-- `start::reckon` meets its contract: the slacks and the objective read the columns' values alone. Assumes nothing.
use Rattle.doubles.specs.Num.{f0}
use Rattle.rules.specs.Plan.{column}
use Rattle.rules.specs.Start.{start_vals, start_slack, start_norm, start_objective}
use Rattle.start_values.specs.Lent.{costed}
use Rattle.start.specs.Lent.{unruled}
use Rattle.start.specs.Reckoned.{numbers}
use Rattle.plan.proofs.Kept.{widened}
use Rattle.start.proofs.Start.{vals_long, reckoned_is}
use Rattle.start.proofs.reckon.Goals as goal

pub start_slacks-requires : goal.start_slacks-requires
start_slacks-requires c =
    let a = c.args in
    let long = vals_long (costed a.n a.costs.now a.lowers.now a.uppers.now) a.xs.now c.requires.scratch.vals_long in
    record {
      kept_len_bound = (c.requires.reckonable.rows_most, c.requires.scratch.slacks_long, c.requires.reckonable.sides);
      rows_read = widened (rw c.start_vals.ensures long) c.requires.reckonable.rows;
    }

pub returns : goal.returns
unfolding start_vals start_slack start_norm column start_objective
returns c =
    let a = c.args in
    reckoned_is (unruled a.n a.costs.now a.lowers.now a.uppers.now a.starts.now a.cols.now a.coeffs.now a.rhs.now a.kept.now)
    (numbers a.xs.now a.slacks.now a.norms.now f0) c.requires.reckonable
    c.start_vals.ensures
    c.start_slacks.ensures
    c.start_norms.ensures
    c.start_objective.ensures
