-- `sheet_store_put::store_totals` meets its contract. Assumes nothing.
use mathlib.Core.Path.{◌∙◌}
use mathlib.Core.List.{[], ◌∷◌}
use native.Mathlib.Omega.{arith}
use lib.ListN.{length-set}
use borrow.Author.Rules.{rules}
use Rattle.doubles.specs.Lists.{over}
use Rattle.sheet_rules.specs.Sheet.{kept_of, over_kept}
use Rattle.sheet_terms.proofs.Machine.{result}
use Rattle.sheet_terms.proofs.Laws.{set_one, set_four}
use Rattle.sheet_store_put.proofs.store_totals.Statement.{statement}
use Rattle.sheet_store_put.proofs.store_totals.Tie as tie

slice-set-from-cost : tie.Need-bounds-c-0
slice-set-from-cost c = search rules

slice-set-from-floor : tie.Need-bounds-b-0
slice-set-from-floor c = search rules

slice-set-from-broken : tie.Need-bounds-counts-0
slice-set-from-broken c = search rules

slice-set-from-outside : tie.Need-bounds-counts-1
slice-set-from-outside c = let s : tie.Start = search in simp length-set (omega (arith, s.requires.2))

slice-set-from-wrong : tie.Need-bounds-counts-2
slice-set-from-wrong c = let s : tie.Start = search in simp length-set (omega (arith, s.requires.2))

slice-set-from-absent : tie.Need-bounds-counts-3
slice-set-from-absent c = search rules

same_length : tie.Need-shape_of-c
same_length c = search rules

same-length-2 : tie.Need-shape_of-b
same-length-2 c = search rules

same-length-3 : tie.Need-shape_of-counts
same-length-3 c = search rules

returns : tie.Need-returns
unfolding over_kept
returns c =
    let s : tie.Start = search in
    let t = s.args.t in
    let told = c.struct_told-6-1.given in
    let cost = set_one s.args.c.now _ s.requires.0 ∙ (λ h. over (result t.cost told.0.1 h ∷ []) s.args.c.now) in
    let floor = set_one s.args.b.now _ s.requires.1 ∙ (λ h. over (result t.floor told.1.0.1 h ∷ []) s.args.b.now) in
    let counts = set_four s.args.counts.now _ _ _ _ s.requires.2 ∙ (λ h. over (result t.broken told.1.1.0.1 h ∷ result t.outside told.1.1.1.0.1 h ∷ result t.wrong told.1.1.1.1.0.1 h ∷ result t.absent told.1.1.1.1.1.0.1 h ∷ []) s.args.counts.now) in
    λ h. kept_of [] [] (cost h) (floor h) (counts h)

pub store_totals_spec : {M : Type 1} → statement M
store_totals_spec =
    tie.close
    (tie.spec
    slice-set-from-cost
    slice-set-from-floor
    slice-set-from-broken
    slice-set-from-outside
    slice-set-from-wrong
    slice-set-from-absent
    same_length
    same-length-2
    same-length-3
    returns)
