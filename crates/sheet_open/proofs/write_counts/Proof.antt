-- `sheet_open::write_counts` meets its contract. Assumes nothing.
use mathlib.Core.Path.{◌≡◌, ◌∙◌}
use native.Mathlib.Omega.{arith}
use borrow.Author.Rules.{rules}
use Rattle.sheet_terms.proofs.Machine.{word, result}
use Rattle.doubles.specs.Lists.{over}
use mathlib.Core.List.{[], ◌∷◌}
use lib.ListN.{length-set}
use Rattle.sheet_rules.specs.Sheet.{outside_amounts, wrong_signs}
use Rattle.sheet_open.specs.At.{counts_at}
use Rattle.sheet_terms.proofs.Laws.{set_four}
use Rattle.sheet_open.proofs.write_counts.Statement.{statement}
use Rattle.sheet_open.proofs.write_counts.Tie as tie

broken-rows-requires : tie.Need-broken_rows-requires
broken-rows-requires c κs = search rules

slice-set-from-counts : tie.Need-bounds-counts-0
slice-set-from-counts c = search rules

outside-amounts-requires : tie.Need-outside_amounts-requires
outside-amounts-requires c κs = search rules

slice-set-from-counts-2 : tie.Need-bounds-counts-1
slice-set-from-counts-2 c = let s : tie.Start = search in simp length-set (omega (arith, s.requires.3))

wrong-signs-requires : tie.Need-wrong_signs-requires
wrong-signs-requires c κs = search rules

slice-set-from-counts-3 : tie.Need-bounds-counts-2
slice-set-from-counts-3 c = let s : tie.Start = search in simp length-set (omega (arith, s.requires.3))

absent-needed-requires : tie.Need-absent_needed-requires
absent-needed-requires c κs = search rules

slice-set-from-counts-4 : tie.Need-bounds-counts-3
slice-set-from-counts-4 c = let s : tie.Start = search in simp length-set (omega (arith, s.requires.3))

same_length : tie.Need-shape_of-counts
same_length c = search rules

returns : tie.Need-returns
unfolding counts_at outside_amounts wrong_signs
returns c =
    let at-broken-rows : tie.After-broken_rows = search in
    let s : tie.Start = search in
    let b : word at-broken-rows.broken_rows.result ≡ _ = result _ at-broken-rows.broken_rows.type_inv ∙ at-broken-rows.broken_rows.ensures in
    let o : word c.outside_amounts.result ≡ _ = result _ c.outside_amounts.type_inv ∙ c.outside_amounts.ensures in
    let w : word c.wrong_signs.result ≡ _ = result _ c.wrong_signs.type_inv ∙ c.wrong_signs.ensures in
    let a : word c.absent_needed.result ≡ _ = result _ c.absent_needed.type_inv ∙ c.absent_needed.ensures in
    set_four s.args.counts.now _ _ _ _ s.requires.3 ∙ (λ i. over (b i ∷ o i ∷ w i ∷ a i ∷ []) s.args.counts.now)

pub write_counts_spec : {M : Type 1} → statement M
write_counts_spec =
    tie.close
    (tie.spec
    broken-rows-requires
    slice-set-from-counts
    outside-amounts-requires
    slice-set-from-counts-2
    wrong-signs-requires
    slice-set-from-counts-3
    absent-needed-requires
    slice-set-from-counts-4
    same_length
    returns)
