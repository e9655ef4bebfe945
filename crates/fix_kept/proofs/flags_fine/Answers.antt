-- `fix_kept::flags_fine` meets its contract. Assumes nothing.
use mathlib.Core.Path.{◌∙◌}
use native.Mathlib.Omega.{arith}
use lib.ListN.{take}
use borrow.Author.Rules.{rules}
use borrow.Author.Tests.{tests}
use Rattle.std.proofs.lemmas.Iterator.{YieldsList-from_slice}
use Rattle.std.proofs.lemmas.Iterator.Search.{all_from_yields_List}
use Rattle.fix_rules.specs.Kept.{known_flags, flags_fine}
use Rattle.doubles.proofs.Items.{all_items}
use Rattle.fix_kept.proofs.flags_fine.Goals as goal

pub returns : goal.returns
unfolding flags_fine
returns c =
    all_from_yields_List (λ x. known_flags x) _ _ _ c.all.ensures.ran (YieldsList-from_slice (take c.args.n c.args.flags.now) cc) (λ x b q k. search (rules, tests))
    ∙ all_items (λ x. known_flags x) _ _ c.args.n (omega arith)
