-- 14 after the edit: where all else passes it looks at the moved numbers alone. Assumes nothing.
use mathlib.Core.Path.{◌≡◌, refl, sym}
use mathlib.Core.Bool.{Bool, true, false}
use native.Mathlib.Omega.{arith}
use lib.IntN.{nat_abs}
use Rattle.doubles.specs.Limits.{max_r, max_d, max_c, max_b}
use mathlib.Core.List.{[], ◌∷◌}
use Rattle.doubles.specs.Lists.{over}
use Rattle.sheet_rules.specs.Sheet.{Sheet, over_kept}
use Rattle.sheet_rules.specs.Edit.{edited, moved_r, moved_d, moved_c, moved_b, moved_broken, moved_outside, moved_wrong, moved_absent, moved, applied, sound_at, moved_fine}
use Rattle.sheet_rules.specs.Words.{Sized, NumberIn, KeptIn, Sound}
use Rattle.sheet_rules.specs.declared.Edit.{Edit}
use Rattle.sheet_rules.proofs.Tests.{Decides, and_decides, all_decides, leb_decides, count_decides, in_words, so_no, no_so, sound_decides}
use Rattle.sheet_rules.proofs.Fronts.{front}
use Rattle.sheet_rules.proofs.KeptSizes.{one_cell}
use Rattle.sheet_rules.proofs.Stays.{edited_arrays, edited_coef}

-- two tests of the same
same_test : (b d : Bool) {P Q : Type 0} → Decides b P → Decides d Q → (P → Q) → (Q → P) → b ≡ d
same_test true d f g h k = sym (g.so_yes (h (f.yes_so refl)))
same_test false d f g h k = sym (so_no d g (λ q. no_so f refl (k q)))

moved_decides : (s : Sheet) (e : Edit) → Decides (moved_fine s e) (KeptIn (applied s e))
unfolding moved_fine applied edited moved over_kept
moved_decides s e =
    in_words
    (and_decides _ _
    (and_decides _ _
    (and_decides _ _
    (and_decides _ _
    (and_decides _ _
    (and_decides _ _
    (and_decides _ _ (all_decides s.plan.rows _ (λ i. leb_decides (nat_abs (moved_r s e i)) max_r)) (all_decides s.plan.cols _ (λ j. leb_decides (nat_abs (moved_d s e j)) max_d)))
    (leb_decides (nat_abs (moved_c s e)) max_c))
    (leb_decides (nat_abs (moved_b s e)) max_b))
    (count_decides _ (moved_broken s e)))
    (count_decides _ (moved_outside s e)))
    (count_decides _ (moved_wrong s e)))
    (count_decides _ (moved_absent s e)))
    (λ h. record {
      r_in = λ i l. rw (front s.plan.rows (moved_r s e) s.kept.R i l) (h.0.0.0.0.0.0.0 i l);
      d_in = λ j l. rw (front s.plan.cols (moved_d s e) s.kept.D j l) (h.0.0.0.0.0.0.1 j l);
      c_in = one_cell max_c (over (moved_c s e ∷ []) s.kept.C) h.0.0.0.0.0.1;
      b_in = one_cell max_b (over (moved_b s e ∷ []) s.kept.B) h.0.0.0.0.1;
      broken_in = h.0.0.0.1;
      outside_in = h.0.0.1;
      wrong_in = h.0.1;
      absent_in = h.1;
    })
    (λ r. (((((((λ i l. rw (front s.plan.rows (moved_r s e) s.kept.R i l) at (r.r_in i l), λ j l. rw (front s.plan.cols (moved_d s e) s.kept.D j l) at (r.d_in j l)), r.c_in 0 (omega arith)), r.b_in 0 (omega arith)), r.broken_in), r.outside_in), r.wrong_in), r.absent_in))

pub after_test : (s : Sheet) (e : Edit) → Sized s → NumberIn e → Sound e s → sound_at e (applied s e) ≡ moved_fine s e
unfolding applied edited
after_test s e z n o =
    same_test _ _ (sound_decides e (applied s e)) (moved_decides s e) (λ r. r.kept_in)
    (λ k. record { arrays_in = edited_arrays s e z n o.arrays_in; column_in_holds = λ u i l. edited_coef s.plan e n _ (o.column_in_holds u i l); row_within = λ u j l. edited_coef s.plan e n _ (o.row_within u j l); kept_in = k })
