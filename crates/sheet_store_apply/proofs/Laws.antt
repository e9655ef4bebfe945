-- What the calls of an accepted edit ask, and what they make of the kept numbers together. Assumes nothing.
use mathlib.Core.Path.{◌≡◌, ap, ◌∙◌}
use mathlib.Core.List.{List, []}
use lib.IntN.{ℤ}
use Rattle.doubles.specs.Limits.{max_r, max_d}
use Rattle.doubles.specs.Lists.{over}
use Rattle.doubles.specs.Loop.{table}
use Rattle.sheet_rules.specs.Sheet.{Sheet, kept_of, sheet_of, over_kept}
use Rattle.sheet_rules.specs.Edit.{edit_refusal, moved_r, moved_d, moved}
use Rattle.sheet_rules.specs.Words.{Today}
use Rattle.sheet_rules.specs.declared.Edit.{Edit}
use Rattle.sheet_rules.proofs.Exact.{edit_so}
use Rattle.sheet_terms.specs.Small.{Small}
use Rattle.sheet_change_moves.specs.After.{Ready, totals_after}
use Rattle.sheet_change_moves.specs.declared.Totals.{Totals}
use Rattle.sheet_change_after.specs.Change.{PlanReady}
use Rattle.sheet_store_put.specs.Cells.{cells_of}

-- what an edit that is not refused is ready for
pub edited_so : (s : Sheet) (e : Edit) → edit_refusal s e ≡ 0 → Ready s e × Today e
edited_so s e w =
    let h = edit_so s e w in
    (record { sized = h.0.sized; index = h.0.index; number = h.1; sound = h.3 }, h.0.today)

module _ (s : Sheet) (e : Edit) where
  pub activities_asks : Ready s e → PlanReady s.plan e × Small max_r s.plan.rows s.kept.R
  activities_asks y = (record { kept = s.kept; ready = y }, record { there = y.sized.r_fits; at = y.sound.kept_in.r_in })

  pub prices_asks : Ready s e → PlanReady s.plan e × Small max_d s.plan.cols s.kept.D
  prices_asks y = (record { kept = s.kept; ready = y }, record { there = y.sized.d_fits; at = y.sound.kept_in.d_in })

  pub kept_law : (t : Totals) (r d c b n : List ℤ) → t ≡ totals_after s e
      → r ≡ over (table s.plan.rows (moved_r (sheet_of s.plan (kept_of s.kept.R [] [] [] [])) e)) s.kept.R
      → d ≡ over (table s.plan.cols (moved_d (sheet_of s.plan (kept_of [] s.kept.D [] [] [])) e)) s.kept.D
      → kept_of [] [] c b n ≡ over_kept (cells_of t) (kept_of [] [] s.kept.C s.kept.B s.kept.counts)
      → kept_of r d c b n ≡ over_kept (moved s e) s.kept
  unfolding over_kept moved totals_after moved_r moved_d
  kept_law t r d c b n et er ed en =
      let rest = en ∙ ap (λ (u : Totals). over_kept (cells_of u) (kept_of [] [] s.kept.C s.kept.B s.kept.counts)) et in
      λ h. kept_of (er h) (ed h) (rest h).C (rest h).B (rest h).counts
