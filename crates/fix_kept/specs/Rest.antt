-- What 41's test asks once the status and the maps have passed, over n columns and the rows that were counted. Assumes
-- nothing.
use Rattle.std.specs.Prelude.{Bool, not, ◌&&◌, ◌||◌, List, ℕ, leb, eqb, Float}
use Rattle.doubles.specs.Num.{finite}
use Rattle.doubles.specs.Lists.{◌!◌}
use Rattle.rules.specs.Plan.{Memory, Workspace}
use Rattle.fix_rules.specs.Kept.{etas_kept, entries_kept, factor_cell, of_factor, flags_fine, store_fine, factor_fine}
use Rattle.fix_rules.specs.Kept.{workspace_finite, factor_finite}

-- the numbers in use are finite: so many eta entries, the factor cell, and the objective x
unfoldable pub numbers_fine : ℕ → ℕ → ℕ → ℕ → Workspace → List ℕ → List Float → Float → Bool
numbers_fine n rows entries cell w N D x =
    workspace_finite n rows entries w && ((not (eqb cell 1) || factor_finite rows N D) && finite x)

unfoldable pub rest_fine : ℕ → ℕ → Memory → Bool
rest_fine n rows m =
    flags_fine n m.ws.flags
    && (store_fine rows m.ws.etas (etas_kept m) (entries_kept m)
    && (of_factor m (factor_fine rows m.all_factor_numbers m.all_factor_coeffs)
    && (leb (factor_cell m) 1
    && numbers_fine n rows (entries_kept m) (factor_cell m) m.ws m.all_factor_numbers m.all_factor_coeffs
    (m.objective ! 0))))
