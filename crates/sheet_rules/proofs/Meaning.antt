-- What `open`, `edit` and `verdict` promise: the file to start from. Their contracts are `Opens`, `Edits` and `Judges` of
-- specs/Promises.antt: s is the sheet as lent, t as it is left. Here the theorems are said of any answer and any t that
-- these allow. Assumes nothing.
use mathlib.Core.Path.{◌≡◌, sym, ◌∙◌, subst}
use mathlib.Core.Logic.{◌↔◌}
use mathlib.Core.Bool.{false}
use Prim.Native.Nat.{ℕ}
use Rattle.sheet_rules.specs.Sheet.{Sheet}
use Rattle.sheet_rules.specs.Opening.{opened}
use Rattle.sheet_rules.specs.Edit.{edit}
use Rattle.sheet_rules.specs.Touches.{Cell, read, touches}
use Rattle.sheet_rules.specs.Words.{NoneKeep, Openable, OpeningSays, EditSays, VerdictSays, Takes}
use Rattle.sheet_rules.specs.Promises.{Opens, Edits, Judges}
use Rattle.sheet_rules.specs.Meaning.{Called, Demand3}
use Rattle.sheet_rules.specs.declared.Edit.{Edit}
use Rattle.sheet_rules.specs.declared.Verdict.{Verdict}
use Rattle.sheet_rules.specs.declared.Verdict.TheVariants.{NoneExists, Refused}
use Rattle.sheet_rules.proofs.Exact.{opening_says, opening_only, edit_says, edit_only, verdict_says, verdict_only, left_old}
use Rattle.sheet_rules.proofs.Reached.{opened_good, edit_good, reopens, good_afresh, opened_alike, edit_never_14, verdict_never_14}
use Rattle.sheet_rules.proofs.Touched.{cell_stays, cell_takes}
use Rattle.sheet_rules.proofs.Floor.{gap_theorem, none_theorem}

-- ---- an opening
module _ {s t : Sheet} {n : ℕ} (o : Opens s n t) where
  -- 11, 12 or 13, or 0, exactly when 01's words for it hold and no earlier one's do
  pub opens_exactly : (m : ℕ) → (n ≡ m) ↔ OpeningSays s m
  opens_exactly m =
      (λ w. subst (OpeningSays s) (sym o.answers ∙ w) (opening_says s), λ h. o.answers ∙ opening_only s h)

  -- 01: "nothing changed" where it is refused
  pub opening_keeps : ¬ (n ≡ 0) → t ≡ s
  unfolding opened
  opening_keeps h = o.left ∙ left_old _ _ s (λ w. h (o.answers ∙ w))

-- ---- an edit
module _ {s t : Sheet} {e : Edit} {n : ℕ} (d : Edits s e n t) where
  -- 11 to 16, or 0, exactly when 01's words for it hold and no earlier one's do
  pub edits_exactly : (m : ℕ) → (n ≡ m) ↔ EditSays s e m
  edits_exactly m =
      (λ w. subst (EditSays s e) (sym d.answers ∙ w) (edit_says s e), λ h. d.answers ∙ edit_only s e h)

  -- 01: "A refused edit changes nothing"
  pub edit_keeps : ¬ (n ≡ 0) → t ≡ s
  unfolding edit
  edit_keeps h = d.left ∙ left_old _ _ s (λ w. h (d.answers ∙ w))

  -- a cell that 01's table doesn't list for the edit stays
  pub edit_spares : (z : Cell) → touches s e z ≡ false → read t z ≡ read s z
  edit_spares z h = subst (λ (u : Sheet). read u z ≡ read s z) (sym d.left) (cell_stays s e z h)

  -- 01: "its cell takes the number handed in"
  pub edit_takes : n ≡ 0 → Takes e t.plan
  edit_takes w = subst (λ (u : Sheet). Takes e u.plan) (sym d.left) (cell_takes s e (sym d.answers ∙ w))

-- ---- a verdict: each, and 11 or 14, exactly when 01's words for it hold and no earlier one's do
pub judges_exactly : {s : Sheet} {v : Verdict} → Judges s v → (w : Verdict) → (v ≡ w) ↔ VerdictSays s w
judges_exactly {s} j w =
    (λ e. subst (VerdictSays s) (sym j.answers ∙ e) (verdict_says s), λ h. j.answers ∙ verdict_only s h)

-- ---- demand 3
-- what calls leave is a true sheet within its limits, and opening would accept it
called_openable : {s : Sheet} → Called s → Openable s
called_openable (Called.opened {s} o) = subst Openable (sym o.left) (opened_good s (sym o.answers))
called_openable (Called.edited {s} e n h d) = subst Openable (sym d.left) (edit_good s e (called_openable h))
called_openable (Called.reopened {s} n h o) =
    let k = called_openable h in
    subst Openable (sym (o.left ∙ opened_alike s k)) k

-- whatever calls of `open` and `edit` there were, in any order, refused ones too: demand 3 holds of what they left
pub demand_3 : {s : Sheet} → Called s → Demand3 s
demand_3 {s} h =
    let k = called_openable h in
    record {
      afresh = sym (good_afresh s k.good);
      opens_alike = λ n t o. (o.answers ∙ reopens s k, o.left ∙ opened_alike s k);
      gap_is = λ g j. gap_theorem s k.good.true_sheet g (sym j.answers);
    }

-- 02: where such a sheet says "none exists", "no amounts, whole or fractional, keep every row and bound"
pub none_exists_holds : {s : Sheet} → Called s → Judges s NoneExists → NoneKeep s.plan
none_exists_holds {s} h j = none_theorem s (called_openable h).good.true_sheet (sym j.answers)

-- 01: "14 is never given on a true sheet", by an edit or by a verdict
pub edits_never_14 : {s t : Sheet} {e : Edit} {n : ℕ} → Called s → Edits s e n t → ¬ (n ≡ 14)
edits_never_14 {s} {e = e} h d w = edit_never_14 s e (called_openable h).good (sym d.answers ∙ w)

pub judges_never_14 : {s : Sheet} → Called s → ¬ Judges s (Refused 14)
judges_never_14 {s} h j = verdict_never_14 s (called_openable h).good (sym j.answers)
