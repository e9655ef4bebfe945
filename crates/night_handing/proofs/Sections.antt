-- A stage's section as it is written into an array. No contract cites this file. Assumes nothing.
use mathlib.Core.Path.{◌≡◌, sym, ap, ◌∙◌}
use mathlib.Core.Bool.{true}
use mathlib.Core.List.{List, ◌++◌, append-nil}
use Prim.Native.Nat.{ℕ, ◌+◌, ◌<◌}
use native.Mathlib.Omega.{arith}
use lib.ListN.{length, take, drop, length-replicate, get_or-append}
use lib.Seq.{take-append-le, drop-length}
use lib.IntN.{ℤ, pos}
use Rattle.doubles.specs.Limits.{max_columns}
use Rattle.lu_packed.specs.Written.{written}
use Rattle.sheet_rules.specs.Sum.{◌‼◌}
use Rattle.night_rules.specs.Stage.{zeros, is_judged, Staged, found_at, section_cells, section_of, section_into}
use Rattle.night_rules.proofs.Shaped.{Shaped, section_count, section_amounts, section_found}

-- all cells of an array written
pub all_written : {A : Type 0} (xs d : List A) → length xs ≡ length d → written 0 xs d ≡ xs
all_written {A} xs d e =
    let q : 0 + length xs ≡ length d = omega (arith, e) in
    ap (λ (n : ℕ). xs ++ drop n d) q ∙ ap (λ (t : List A). xs ++ t) (drop-length d) ∙ append-nil xs

-- ---- written
module _ (g : Staged) (z : Shaped g.sheet) (h : is_judged g.stage.audit ≡ true) where
  abbrev S : List ℤ
  S = section_of g.sheet

  pub written_in : (at : ℕ) (w : List ℤ) → section_into at g w ≡ written at S w
  unfolding section_into
  written_in at w = rw (h, section_into)

  at_front : (w : List ℤ) → section_into 0 g w ≡ S ++ drop (0 + length S) w
  at_front w = written_in 0 w

  pub front_amounts : (w : List ℤ) → take max_columns (section_into 0 g w) ≡ g.sheet.plan.amounts
  front_amounts w =
      ap (take max_columns) (at_front w)
      ∙ take-append-le max_columns S (drop (0 + length S) w) (omega (arith, section_count g.sheet z))
      ∙ section_amounts g.sheet z

  pub front_found : (w : List ℤ) → section_into 0 g w ‼ found_at ≡ g.sheet.kept.C ‼ 0
  front_found w =
      let l : found_at < length S = omega (arith, section_count g.sheet z) in
      ap (λ (t : List ℤ). t ‼ found_at) (at_front w)
      ∙ get_or-append S (drop (0 + length S) w) (pos 0) found_at l
      ∙ section_found g.sheet z

  -- into a section of its own
  pub fresh_section : section_into 0 g (zeros section_cells) ≡ S
  fresh_section =
      written_in 0 (zeros section_cells)
      ∙ all_written S (zeros section_cells) (section_count g.sheet z ∙ sym (length-replicate section_cells (pos 0)))
