-- `check_close::write_counts`: seven cells, one by one. Assumes nothing.
use mathlib.Core.Path.{◌∙◌, ap}
use mathlib.Core.List.{[], ◌∷◌}
use Prim.Native.Nat.{ℕ, ◌<◌}
use native.Mathlib.Omega.{arith}
use lib.ListN.{length}
use borrow.Author.Rules.{rules}
use Rattle.doubles.specs.Lists.{over}
use Rattle.check_close.proofs.Laws.{counts_set}
use Rattle.check_close.proofs.write_counts.Statement.{statement}
use Rattle.check_close.proofs.write_counts.Tie as tie

bit-of-requires : tie.Need-bit_of-there-requires
bit-of-requires c κs = search rules

slice-write-counts : tie.Need-bounds-counts-0
slice-write-counts c =
    let s : tie.Start = search in
    let h : 0 < length s.args.counts.now = omega (arith, s.requires) in
    search rules

slice-write-counts-2 : tie.Need-bounds-counts-1
slice-write-counts-2 c =
    let s : tie.Start = search in
    let h : 1 < length s.args.counts.now = omega (arith, s.requires) in
    search rules

slice-write-counts-3 : tie.Need-bounds-counts-2
slice-write-counts-3 c =
    let s : tie.Start = search in
    let h : 2 < length s.args.counts.now = omega (arith, s.requires) in
    search rules

slice-write-counts-4 : tie.Need-bounds-counts-3
slice-write-counts-4 c =
    let s : tie.Start = search in
    let h : 3 < length s.args.counts.now = omega (arith, s.requires) in
    search rules

slice-write-counts-5 : tie.Need-bounds-counts-4
slice-write-counts-5 c =
    let s : tie.Start = search in
    let h : 4 < length s.args.counts.now = omega (arith, s.requires) in
    search rules

slice-write-counts-6 : tie.Need-bounds-counts-5
slice-write-counts-6 c =
    let s : tie.Start = search in
    let h : 5 < length s.args.counts.now = omega (arith, s.requires) in
    search rules

slice-write-counts-7 : tie.Need-bounds-counts-6
slice-write-counts-7 c =
    let s : tie.Start = search in
    let h : 6 < length s.args.counts.now = omega (arith, s.requires) in
    search rules depth 8

same_length : tie.Need-shape_of-counts
same_length c = search rules

returns : tie.Need-returns
returns c =
    let a = c.args in
    counts_set _ _ _ _ _ _ _ a.counts.now c.requires
    ∙ ap (λ (b : ℕ). over (a.rows ∷ a.eta_columns ∷ a.eta_entries ∷ a.steps ∷ a.status ∷ b ∷ a.factorings ∷ [])
    a.counts.now) c.bit_of-there.ensures

pub write_counts_spec : {M : Type 1} → statement M
write_counts_spec =
    tie.close
    (tie.spec
    bit-of-requires
    slice-write-counts
    slice-write-counts-2
    slice-write-counts-3
    slice-write-counts-4
    slice-write-counts-5
    slice-write-counts-6
    slice-write-counts-7
    same_length
    returns)
