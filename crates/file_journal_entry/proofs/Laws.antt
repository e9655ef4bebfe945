-- An entry's edits, and what they find on a sheet. Assumes nothing.
use mathlib.Core.Path.{◌≡◌, refl, ap, ap₂, ◌∙◌}
use mathlib.Core.Logic.{◌⊎◌, inl, inr, ⊎_elim}
use mathlib.Core.Bool.{Bool, true, false, ◌&&◌, ◌||◌}
use Prim.Native.Nat.{ℕ, zero, suc, ◌≤◌}
use native.Mathlib.Omega.{arith}
use lib.Dec.{leb, eqb}
use lib.IntN.{ℤ}
use borrow.Author.Tests.{eqb-true}
use Rattle.doubles.proofs.Bools.{never}
use Rattle.sheet_rules.specs.Sheet.{Plan, Sheet, holds}
use Rattle.sheet_rules.specs.Edit.{uses_column, uses_row, edit_refusal}
use Rattle.sheet_rules.specs.Words.{Index}
use Rattle.sheet_rules.specs.declared.Edit.{Edit}
use Rattle.sheet_tests.specs.Sized.{PlanSized}
use Rattle.sheet_change_edit.specs.Rules.{cell_at}
use Rattle.sheet_change_edit.specs.declared.Cell.{Cell}
use Rattle.file_journal_rules.specs.Undo.{edit_of, if_present, back_kind}
use Rattle.file_journal_rules.specs.Journal.{used, taken, tidy, entry_of, forth, take_back, same, reads, mark_after, else, unless_so, take_refusal, feed_refusal}
use Rattle.file_journal_rules.specs.declared.Entry.{Entry}
use Rattle.file_journal_rules.proofs.Undo.{passed, alike}

-- ---- the edit back
either : (a b : Bool) → (a || b) ≡ true → (a ≡ true) ⊎ (b ≡ true)
either true b h = inl refl
either false b h = inr h

pub lower_dropped : (k m : ℕ) → (eqb k 3 || eqb k 8) ≡ true → m ≡ 0 → 8 ≡ back_kind k m
unfolding back_kind if_present
lower_dropped k m h z = ⊎_elim (λ t. rw (eqb-true k 3 t, z)) (λ t. rw (eqb-true k 8 t, z)) (either (eqb k 3) (eqb k 8) h)

pub lower_put : (k m : ℕ) → (eqb k 3 || eqb k 8) ≡ true → (m ≡ 0 → ⊥) → 3 ≡ back_kind k m
unfolding back_kind if_present
lower_put k zero h f = absurd (f refl)
lower_put k (suc m) h f = ⊎_elim (λ t. rw (eqb-true k 3 t)) (λ t. rw (eqb-true k 8 t)) (either (eqb k 3) (eqb k 8) h)

pub upper_dropped : (k m : ℕ) → (eqb k 4 || eqb k 9) ≡ true → m ≡ 0 → 9 ≡ back_kind k m
unfolding back_kind if_present
upper_dropped k m h z = ⊎_elim (λ t. rw (eqb-true k 4 t, z)) (λ t. rw (eqb-true k 9 t, z)) (either (eqb k 4) (eqb k 9) h)

pub upper_put : (k m : ℕ) → (eqb k 4 || eqb k 9) ≡ true → (m ≡ 0 → ⊥) → 4 ≡ back_kind k m
unfolding back_kind if_present
upper_put k zero h f = absurd (f refl)
upper_put k (suc m) h f = ⊎_elim (λ t. rw (eqb-true k 4 t)) (λ t. rw (eqb-true k 9 t)) (either (eqb k 4) (eqb k 9) h)

pub other_kept : (k m : ℕ) → (eqb k 3 || eqb k 8) ≡ false → (eqb k 4 || eqb k 9) ≡ false → k ≡ back_kind k m
unfolding back_kind
other_kept zero m h g = refl
other_kept (suc zero) m h g = refl
other_kept (suc (suc zero)) m h g = refl
other_kept (suc (suc (suc zero))) m h g = never refl h
other_kept (suc (suc (suc (suc zero)))) m h g = never refl g
other_kept (suc (suc (suc (suc (suc zero))))) m h g = refl
other_kept (suc (suc (suc (suc (suc (suc zero)))))) m h g = refl
other_kept (suc (suc (suc (suc (suc (suc (suc zero))))))) m h g = refl
other_kept (suc (suc (suc (suc (suc (suc (suc (suc zero)))))))) m h g = never refl h
other_kept (suc (suc (suc (suc (suc (suc (suc (suc (suc zero))))))))) m h g = never refl g
other_kept (suc (suc (suc (suc (suc (suc (suc (suc (suc (suc k)))))))))) m h g = refl

pub back_is : (n : Entry) (k : ℕ) (z : ℤ) → k ≡ back_kind n.kind n.before → z ≡ n.old → edit_of k n.row n.column z ≡ take_back n
back_is n k z ek ez = λ i. edit_of (ek i) n.row n.column (ez i)

pub tidy_is : (e : Edit) (i j : ℕ) (z : ℤ) → i ≡ used (uses_row e.kind) e.row → j ≡ used (uses_column e.kind) e.column → z ≡ taken (leb e.kind 7) e.number → edit_of e.kind i j z ≡ tidy e
tidy_is e i j z ei ej ez = λ h. edit_of e.kind (ei h) (ej h) (ez h)

-- ---- the edited cell
pub index_tidy : (p : Plan) (e : Edit) → Index p e → Index p (tidy e)
unfolding used
index_tidy p e x = record { column_in_holds = λ u. rw u (x.column_in_holds u); row_within = λ u. rw u (x.row_within u) }

pub entry_of_is : (p : Plan) (e t : Edit) (cell : Cell) (n : Entry) → t ≡ tidy e → cell ≡ cell_at p t
    → n.kind ≡ t.kind → n.row ≡ t.row → n.column ≡ t.column → n.old ≡ cell.number → n.new ≡ t.number → n.before ≡ cell.mark → n ≡ entry_of p e
unfolding cell_at
entry_of_is p e t cell n et ec k r c o w m =
    let is : cell ≡ cell_at p (tidy e) = ec ∙ ap (cell_at p) et in
    λ i. record {
      kind = (k ∙ ap (λ (x : Edit). x.kind) et) i;
      row = (r ∙ ap (λ (x : Edit). x.row) et) i;
      column = (c ∙ ap (λ (x : Edit). x.column) et) i;
      old = (o ∙ ap (λ (x : Cell). x.number) is) i;
      new = (w ∙ ap (λ (x : Edit). x.number) et) i;
      before = (m ∙ ap (λ (x : Cell). x.mark) is) i;
    }

pub reads_is : (p : Plan) (e : Edit) (z : ℤ) (m : ℕ) (cell : Cell) (t : Bool) (y : ℤ) → cell ≡ cell_at p e → y ≡ cell.number → t ≡ holds 1 y z → (t && eqb cell.mark m) ≡ reads p e z m
unfolding reads same holds cell_at
reads_is p e z m cell t y ec ey et =
    ap (λ (b : Bool). b && eqb cell.mark m) (et ∙ ap (λ (x : ℤ). holds 1 x z) ey)
    ∙ ap (λ (x : Cell). holds 1 x.number z && eqb x.mark m) ec

-- ---- the cell of an entry whose edit back is accepted is there
back_today : (k m : ℕ) → 1 ≤ back_kind k m → back_kind k m ≤ 9 → (1 ≤ k) × (k ≤ 9)
unfolding back_kind
back_today zero m h l = absurd (omega arith)
back_today (suc zero) m h l = (omega arith, omega arith)
back_today (suc (suc zero)) m h l = (omega arith, omega arith)
back_today (suc (suc (suc zero))) m h l = (omega arith, omega arith)
back_today (suc (suc (suc (suc zero)))) m h l = (omega arith, omega arith)
back_today (suc (suc (suc (suc (suc zero))))) m h l = (omega arith, omega arith)
back_today (suc (suc (suc (suc (suc (suc zero)))))) m h l = (omega arith, omega arith)
back_today (suc (suc (suc (suc (suc (suc (suc zero))))))) m h l = (omega arith, omega arith)
back_today (suc (suc (suc (suc (suc (suc (suc (suc zero)))))))) m h l = (omega arith, omega arith)
back_today (suc (suc (suc (suc (suc (suc (suc (suc (suc zero))))))))) m h l = (omega arith, omega arith)
back_today (suc (suc (suc (suc (suc (suc (suc (suc (suc (suc k)))))))))) m h l = (omega arith, l)

pub index_back : (s : Sheet) (n : Entry) → edit_refusal s (take_back n) ≡ 0 → Index s.plan (forth n)
index_back s n w =
    let h = (passed s (take_back n) w).placed in
    let y = back_today n.kind n.before h.today.first h.today.last in
    let a = alike n.kind n.before y.0 y.1 in
    record { column_in_holds = λ u. h.index.column_in_holds (a.column_too ∙ u); row_within = λ u. h.index.row_within (a.row_too ∙ u) }

pub index_of : (s : Sheet) (e : Edit) → edit_refusal s e ≡ 0 → Index s.plan e
index_of s e w = (passed s e w).placed.index

pub plan_sized_holds : (s : Sheet) (e : Edit) → edit_refusal s e ≡ 0 → PlanSized s.plan
plan_sized_holds s e w =
    let z = (passed s e w).placed.sized in
    record {
      rows_few = z.rows_fit;
      cols_few = z.cols_fit;
      coefs_long = z.coefs_fit;
      costs_long = z.costs_fit;
      lowers_long = z.lowers_fit;
      uppers_long = z.uppers_fit;
      lower_marks_long = z.lower_marks_fit;
      upper_marks_long = z.upper_marks_fit;
      rhs_long = z.rhs_fit;
      ops_long = z.ops_fit;
      amounts_long = z.amounts_fit;
      mults_long = z.mults_fit;
    }

-- ---- the sheet's number, else 36
pub else_first : (a b r : ℕ) → r ≡ a → (r ≡ 0 → ⊥) → r ≡ else a b
unfolding else
else_first zero b r e f = absurd (f e)
else_first (suc a) b r e f = e

pub else_then : (a : ℕ) (t u : Bool) (n : ℕ) → a ≡ 0 → t ≡ u → unless_so n t ≡ else a (unless_so n u)
unfolding else
else_then a t u n e f = rw e (ap (unless_so n) f)

pub feed_is : (s : Sheet) (n : Entry) (e : Edit) (z : ℤ) (r : ℕ) → e ≡ forth n → z ≡ n.old → r ≡ else (edit_refusal s e) (unless_so 36 (reads s.plan e z n.before)) → r ≡ feed_refusal s n
unfolding feed_refusal
feed_is s n e z r ee ez q = q ∙ ap₂ (λ (f : Edit) (y : ℤ). else (edit_refusal s f) (unless_so 36 (reads s.plan f y n.before))) ee ez

pub take_is : (s : Sheet) (n : Entry) (e f : Edit) (z : ℤ) (m r : ℕ) → e ≡ take_back n → f ≡ forth n → z ≡ n.new → m ≡ mark_after n.kind
    → r ≡ else (edit_refusal s e) (unless_so 36 (reads s.plan f z m)) → r ≡ take_refusal s n
unfolding take_refusal
take_is s n e f z m r ee ef ez em q = q ∙ (λ i. else (edit_refusal s (ee i)) (unless_so 36 (reads s.plan (ef i) (ez i) (em i))))
