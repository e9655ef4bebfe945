-- `fix_kept_factor::diagonal_fine` meets its contract. Assumes nothing.
use mathlib.Core.Path.{◌∙◌}
use mathlib.Core.Bool.{not}
use native.Mathlib.Omega.{arith}
use lib.ListN.{take}
use lib.Ieee.{lt}
use borrow.Author.Rules.{rules}
use borrow.Author.Tests.{tests}
use Rattle.std.proofs.lemmas.Iterator.{YieldsList-from_slice}
use Rattle.std.proofs.lemmas.Iterator.Search.{all_from_yields_List}
use Rattle.doubles.specs.Num.{eps, size}
use Rattle.fix_rules.specs.Kept.{diagonal_fine}
use Rattle.doubles.proofs.Items.{all_items}
use Rattle.fix_kept_factor.proofs.diagonal_fine.Goals as goal

pub returns : goal.returns
unfolding diagonal_fine
returns c =
    all_from_yields_List (λ x. not (lt (size x) eps)) _ _ _ c.all.ensures.ran (YieldsList-from_slice (take c.args.m c.args.diag.now) cc) (λ x b q k. search (rules, tests))
    ∙ all_items (λ x. not (lt (size x) eps)) _ _ c.args.m (omega arith)
