-- 35, 36 and 37 are given exactly when 02's words for them hold, and leave what they say. Assumes nothing.
use mathlib.Core.Path.{◌≡◌, refl, ap}
use mathlib.Core.Bool.{Bool, true, false}
use mathlib.Core.List.{List, [], ◌∷◌}
use Prim.Native.Nat.{ℕ, zero, suc}
use native.Mathlib.Omega.{arith}
use lib.Dec.{leb, ltb}
use lib.ListN.{length}
use lib.IntN.{ℤ, pos, negsuc}
use borrow.Author.Tests.{leb-true, ltb-true, ltb-false, lt-ltb, le-ltb, eqb-true, eq-eqb}
use Rattle.sheet_rules.specs.Sheet.{Plan, Sheet}
use Rattle.sheet_rules.specs.Edit.{edit_refusal, edit, old_number, old_mark}
use Rattle.sheet_rules.specs.declared.Edit.{Edit}
use Rattle.sheet_rules.proofs.Tests.{Decides, no_so, so_no, and_decides}
use Rattle.file_journal_rules.specs.declared.Entry.{Entry}
use Rattle.file_journal_rules.specs.Journal.{entry_of, forth, take_back, same, reads, mark_after, Desk, desk, else, unless_so, left, keep_refusal, keep, take_refusal, undo_refusal, undo, feed_refusal}
use Rattle.file_journal_rules.specs.Feed.{apply_by, fed_entry}
use Rattle.doubles.proofs.Loops.{both_true}
use Rattle.doubles.proofs.Bools.{never}
use Rattle.file_journal_rules.proofs.Journal.{same_self}
use Rattle.file_journal_rules.specs.Words.{Holds, KeepSays, UndoSays, EntrySays}

same_only : (y z : ℤ) → same y z ≡ true → y ≡ z
unfolding same
same_only (pos m) (pos n) h = let t = both_true (leb m n) (leb n m) h in ap pos (let e : m ≡ n = omega (arith, leb-true m n t.0, leb-true n m t.1) in e)
same_only (pos m) (negsuc n) h = never h refl
same_only (negsuc m) (pos n) h = never h refl
same_only (negsuc m) (negsuc n) h = let t = both_true (leb n m) (leb m n) h in ap negsuc (let e : m ≡ n = omega (arith, leb-true n m t.0, leb-true m n t.1) in e)

same_decides : (y z : ℤ) → Decides (same y z) (y ≡ z)
same_decides y z = record { yes_so = same_only y z; so_yes = λ e. rw e (same_self z) }

reads_decides : (p : Plan) (n : Entry) (z : ℤ) (m : ℕ) → Decides (reads p (forth n) z m) (Holds p n z m)
unfolding reads
reads_decides p n z m = and_decides _ _ (same_decides (old_number p (forth n)) z) (record { yes_so = eqb-true (old_mark p (forth n)) m; so_yes = eq-eqb (old_mark p (forth n)) m })

pub keep_says : (room : ℕ) (d : Desk) (e : Edit) → KeepSays room d e (keep_refusal room d e) (keep room d e)
unfolding keep keep_refusal else unless_so left
keep_says room d e = at (edit_refusal d.sheet e) refl (ltb (length d.entries) room) refl
  where
    at : (k : ℕ) → edit_refusal d.sheet e ≡ k → (b : Bool) → ltb (length d.entries) room ≡ b
        → KeepSays room d e (else k (unless_so 37 b)) (left (else k (unless_so 37 b)) (desk (edit d.sheet e) (entry_of d.sheet.plan e ∷ d.entries)) d)
    at (suc k) w b t = KeepSays.refused k w
    at zero w false t = KeepSays.full w (ltb-false _ room t)
    at zero w true t = KeepSays.kept w (ltb-true _ room t)

pub undo_says : (s : Sheet) (es : List Entry) → UndoSays s es (undo_refusal (desk s es)) (undo (desk s es))
unfolding undo undo_refusal take_refusal else unless_so left
undo_says s [] = UndoSays.none
undo_says s (n ∷ es) = at (edit_refusal s (take_back n)) refl (reads s.plan (forth n) n.new (mark_after n.kind)) (reads_decides s.plan n n.new (mark_after n.kind))
  where
    at : (k : ℕ) → edit_refusal s (take_back n) ≡ k → (b : Bool) → Decides b (Holds s.plan n n.new (mark_after n.kind))
        → UndoSays s (n ∷ es) (else k (unless_so 36 b)) (left (else k (unless_so 36 b)) (desk (edit s (take_back n)) es) (desk s (n ∷ es)))
    at (suc k) w b h = UndoSays.refused n es k w
    at zero w false h = UndoSays.differs n es w (no_so h refl)
    at zero w true h = UndoSays.undone n es w (h.yes_so refl)

-- a fed entry: its answer, and the sheet afterwards
pub entry_says : (s : Sheet) (n : Entry) → EntrySays s n (fed_entry s n).0 (fed_entry s n).1
unfolding fed_entry feed_refusal else unless_so apply_by
entry_says s n = at (edit_refusal s (forth n)) refl (reads s.plan (forth n) n.old n.before) (reads_decides s.plan n n.old n.before)
  where
    at : (k : ℕ) → edit_refusal s (forth n) ≡ k → (b : Bool) → Decides b (Holds s.plan n n.old n.before)
        → EntrySays s n (apply_by (else k (unless_so 36 b)) (edit s (forth n)) s).0 (apply_by (else k (unless_so 36 b)) (edit s (forth n)) s).1
    at (suc k) w b h = EntrySays.refused k w
    at zero w false h = EntrySays.differs w (no_so h refl)
    at zero w true h = EntrySays.taken w (h.yes_so refl)

-- ---- and nothing else can be said
pub keep_only : (room : ℕ) (d : Desk) (e : Edit) {n : ℕ} {t : Desk} → KeepSays room d e n t → (keep_refusal room d e ≡ n) × (keep room d e ≡ t)
unfolding keep keep_refusal else unless_so left
keep_only room d e (KeepSays.refused k w) = rw w (refl, refl)
keep_only room d e (KeepSays.full w h) = rw (w, le-ltb (length d.entries) room h) (refl, refl)
keep_only room d e (KeepSays.kept w h) = rw (w, lt-ltb (length d.entries) room h) (refl, refl)

pub undo_only : (s : Sheet) {es : List Entry} {n : ℕ} {t : Desk} → UndoSays s es n t → (undo_refusal (desk s es) ≡ n) × (undo (desk s es) ≡ t)
unfolding undo undo_refusal take_refusal else unless_so left
undo_only s UndoSays.none = (refl, refl)
undo_only s (UndoSays.refused n es k w) = rw w (refl, refl)
undo_only s (UndoSays.differs n es w h) = rw (w, so_no _ (reads_decides s.plan n n.new (mark_after n.kind)) h) (refl, refl)
undo_only s (UndoSays.undone n es w h) = rw (w, (reads_decides s.plan n n.new (mark_after n.kind)).so_yes h) (refl, refl)

pub entry_only : (s : Sheet) (n : Entry) {k : ℕ} {t : Sheet} → EntrySays s n k t → fed_entry s n ≡ (k, t)
unfolding fed_entry feed_refusal else unless_so apply_by
entry_only s n (EntrySays.refused k w) = rw w
entry_only s n (EntrySays.differs w h) = rw (w, so_no _ (reads_decides s.plan n n.old n.before) h)
entry_only s n (EntrySays.taken w h) = rw (w, (reads_decides s.plan n n.old n.before).so_yes h)
