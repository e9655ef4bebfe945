-- `replay_eta::all_places` meets its contract. Assumes nothing.
use mathlib.Core.Path.{◌∙◌}
use lib.Dec.{ltb}
use borrow.Author.Rules.{rules}
use borrow.Author.Tests.{tests}
use Rattle.std.proofs.lemmas.Iterator.{YieldsList-from_slice}
use Rattle.std.proofs.lemmas.Iterator.Search.{all_from_yields_List}
use Rattle.doubles.specs.Limits.{places}
use Rattle.doubles.proofs.Items.{all_of_items}
use Rattle.replay_eta.proofs.all_places.Goals as goal

pub returns : goal.returns
returns c =
    all_from_yields_List (λ x. ltb x places) _ _ _ c.all.ensures.ran (YieldsList-from_slice c.args.at.now cc) (λ x b q k. search (rules, tests))
    ∙ all_of_items (λ x. ltb x places) _ _
