-- `plan_numbers::all_lowers` meets its contract. Assumes nothing.
use mathlib.Core.Path.{◌∙◌}
use native.Mathlib.Omega.{arith}
use lib.ListN.{take}
use borrow.Author.Rules.{rules}
use borrow.Author.Tests.{tests}
use Rattle.std.proofs.lemmas.Iterator.{YieldsList-from_slice}
use Rattle.std.proofs.lemmas.Iterator.Search.{all_from_yields_List}
use Rattle.rules.specs.Refusals.{is_lower}
use Rattle.doubles.proofs.Items.{all_items}
use Rattle.plan_numbers.proofs.all_lowers.Goals as goal

pub returns : goal.returns
returns c =
    all_from_yields_List (λ x. is_lower x) _ _ _ c.all.ensures.ran (YieldsList-from_slice (take c.args.n c.args.xs.now) cc) (λ x b q k. search (rules, tests))
    ∙ all_items (λ x. is_lower x) _ _ c.args.n (omega arith)
