-- The wrong programs of 01 and 02 about the sheet: each breaks its promise on a night case, or on the sheet on which no plan exists. Assumes nothing.
use mathlib.Core.Path.{◌≡◌, refl, sym, ap, ◌∙◌}
use mathlib.Core.List.{List, []}
use Prim.Native.Nat.{ℕ, zero, suc}
use native.Mathlib.Omega.{arith}
use lib.ListN.{get_or}
use lib.IntN.{ℤ, pos, nat_abs}
use Rattle.doubles.specs.Loop.{run, all, tab}
use Rattle.sheet_rules.specs.Sum.{◌‼◌, sum, bit}
use Rattle.sheet_rules.specs.Sheet.{Plan, Sheet, sheet_of, holds, wrong, outside, term_by, term, lacks_by, lacks, activity, price, cost, floor, broken_rows, outside_amounts, wrong_signs, absent_needed, fresh, over_kept}
use Rattle.sheet_rules.specs.Opening.{leaves, first_failed, sizes_fine, all_within, bound_fine, bounds_fine, ops_fine, arrays_fine, numbers_fine, crosses, uncrossed, opening, opened}
use Rattle.sheet_rules.specs.Verdict.{count_fine, counts_fine, kept_fine, is_zero, gap, none_exists, verdict_by, verdict}
use Rattle.sheet_rules.specs.Edit.{put, edited, moved_r, moved_d, moved_c, moved_b, moved_broken, moved_outside, moved_wrong, moved_absent, moved, applied, index_fine, number_fine, both_fine, column_fine, row_fine, sound_at, edit_refusal, edit}
use Rattle.sheet_rules.specs.Promises.{Edits, Judges}
use Rattle.sheet_rules.specs.Night.{minus, n2, no_plan, amount_to}
use Rattle.night.specs.Cases.{Shown, solves, judges, shown, wanted, cases}
use Rattle.night.proofs.Night.{night}
use Rattle.sheet_rules.specs.declared.Edit.{Edit}
use Rattle.sheet_rules.specs.declared.Verdict.{Verdict}
use Rattle.sheet_rules.specs.declared.Verdict.TheVariants.{NoneExists, NotPlan, Gap}

-- N5's first sheet with its amount edited to 3 is N5's fourth, opened
edited_night : edit (opened (n2 (pos 4) (minus 3072))) (amount_to 3) ≡ opened (n2 (pos 3) (minus 3072))
unfolding run all tab sum bit holds wrong outside term_by term lacks_by lacks activity price cost floor broken_rows outside_amounts wrong_signs absent_needed fresh over_kept first_failed sizes_fine all_within bound_fine bounds_fine ops_fine arrays_fine numbers_fine crosses uncrossed opening opened count_fine counts_fine kept_fine is_zero put edited moved_r moved_d moved_c moved_b moved_broken moved_outside moved_wrong moved_absent moved applied index_fine number_fine both_fine column_fine row_fine sound_at edit_refusal edit
edited_night = refl

-- opening leaves the plan
same_plan : (s : Sheet) → (opened s).plan ≡ s.plan
unfolding opened
same_plan s = at (opening s)
  where
    at : (n : ℕ) → (leaves n (sheet_of s.plan (over_kept (fresh s.plan) s.kept)) s).plan ≡ s.plan
    at zero = refl
    at (suc n) = refl

-- 01: "an edit that does nothing"
pub does_nothing : (program : Sheet → Edit → Sheet) → ((s : Sheet) (e : Edit) → program s e ≡ s) → (answer : ℕ)
    → let s = opened (n2 (pos 4) (minus 3072)) in Edits s (amount_to 3) answer (program s (amount_to 3)) → ⊥
does_nothing program idle answer h =
    let s = opened (n2 (pos 4) (minus 3072)) in
    let e : s ≡ opened (n2 (pos 3) (minus 3072)) = sym (idle s (amount_to 3)) ∙ h.left ∙ edited_night in
    let w : ◌≡◌ {A = ℕ} 4 3 = ap (λ (p : Plan). nat_abs (p.amounts ‼ 0)) (sym (same_plan (n2 (pos 4) (minus 3072))) ∙ ap (λ (t : Sheet). t.plan) e ∙ same_plan (n2 (pos 3) (minus 3072))) in
    omega arith

-- the verdict that a sheet's case shows
abbrev said : Shown → Verdict
said (solves a v k) = NotPlan
said (judges n d b v) = v

-- 01: "a sheet that never shows a gap"
pub never_a_gap : (program : Sheet → Verdict) → ((s : Sheet) (g : ℤ) → program s ≡ Gap g → g ≡ pos 0)
    → let s = opened (n2 (pos 4) (minus 4096)) in Judges s (program s) → ⊥
unfolding cases shown wanted
never_a_gap program none h =
    let s = opened (n2 (pos 4) (minus 4096)) in
    let e : verdict s ≡ Gap (pos 4096) = ap (λ (l : List Shown). said (get_or l 8 (judges 0 [] [] NotPlan))) night in
    let w : ◌≡◌ {A = ℕ} 4096 0 = ap nat_abs (none s (pos 4096) (h.answers ∙ e)) in
    omega arith

-- a sheet that says "none exists" of every plan: N2 has one
pub always_none : (program : Sheet → Verdict) → ((s : Sheet) → program s ≡ NoneExists) → let s = opened (n2 (pos 4) (minus 4096)) in Judges s (program s) → ⊥
unfolding cases shown wanted
always_none program none h =
    let s = opened (n2 (pos 4) (minus 4096)) in
    let e : verdict s ≡ Gap (pos 4096) = ap (λ (l : List Shown). said (get_or l 8 (judges 0 [] [] NotPlan))) night in
    let w : NoneExists ≡ Gap (pos 4096) = sym (none s) ∙ h.answers ∙ e in
    let q : ◌≡◌ {A = ℕ} 0 1 = cc in
    omega arith

none_shown : verdict (opened no_plan) ≡ NoneExists
unfolding run all tab sum bit holds wrong outside term_by term lacks_by lacks activity price cost floor broken_rows outside_amounts wrong_signs absent_needed fresh over_kept first_failed sizes_fine all_within bound_fine bounds_fine ops_fine arrays_fine numbers_fine crosses uncrossed opening opened count_fine counts_fine kept_fine is_zero gap none_exists verdict_by verdict
none_shown = refl

-- a sheet that never says it
pub never_none : (program : Sheet → Verdict) → ((s : Sheet) → ¬ (program s ≡ NoneExists)) → Judges (opened no_plan) (program (opened no_plan)) → ⊥
never_none program never h = never (opened no_plan) (h.answers ∙ none_shown)
