-- `state_maps::same` meets its contract. Assumes nothing.
use Rattle.std.proofs.Common.{◌∙◌}
use lib.Dec.{eqb}
use Rattle.doubles.proofs.Items.{same_items}
use Rattle.state_maps.proofs.same.Goals as goal

pub returns : goal.returns
returns c = c.eq.ensures ∙ same_items eqb 0 c.args.xs.now c.args.ys.now c.args.n c.requires.0 c.requires.1
