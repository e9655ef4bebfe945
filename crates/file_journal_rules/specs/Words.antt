-- 02's words for 35, 36 and 37, as propositions: what a journaled edit, an undo and a fed entry say, exactly when, and what they leave. Assumes nothing.
use Rattle.std.specs.Prelude.{◌≡◌, List, [], ◌∷◌, ℕ, suc, ◌≤◌, ◌<◌, length, ℤ}
use Rattle.sheet_rules.specs.Sheet.{Plan, Sheet}
use Rattle.sheet_rules.specs.Edit.{old_number, old_mark, edit_refusal, edit}
use Rattle.sheet_rules.specs.declared.Edit.{Edit}
use Rattle.file_journal_rules.specs.declared.Entry.{Entry}
use Rattle.file_journal_rules.specs.Journal.{entry_of, forth, take_back, mark_after, Desk, desk}

-- the entry's cell holds this number with this mark
abbrev pub Holds : Plan → Entry → ℤ → ℕ → Type 0
Holds p n z m = (old_number p (forth n) ≡ z) × (old_mark p (forth n) ≡ m)

-- 02: "An edit that the sheet would accept but that finds the lent journal full gives 37, exactly then, and changes nothing"
pub data KeepSays (room : ℕ) (d : Desk) (e : Edit) : ℕ → Desk → Type 0 where
  refused : (k : ℕ) → edit_refusal d.sheet e ≡ suc k → KeepSays room d e (suc k) d
  full : edit_refusal d.sheet e ≡ 0 → room ≤ length d.entries → KeepSays room d e 37 d
  kept : edit_refusal d.sheet e ≡ 0 → length d.entries < room → KeepSays room d e 0 (desk (edit d.sheet e) (entry_of d.sheet.plan e ∷ d.entries))

-- 02: "answers 35 when none is left"; "gets the sheet's number, else 36 where the new number or presence disagrees; both change nothing"
pub data UndoSays (s : Sheet) : List Entry → ℕ → Desk → Type 0 where
  none : UndoSays s [] 35 (desk s [])
  refused : (n : Entry) (es : List Entry) (k : ℕ) → edit_refusal s (take_back n) ≡ suc k → UndoSays s (n ∷ es) (suc k) (desk s (n ∷ es))
  differs : (n : Entry) (es : List Entry) → edit_refusal s (take_back n) ≡ 0 → ¬ Holds s.plan n n.new (mark_after n.kind) → UndoSays s (n ∷ es) 36 (desk s (n ∷ es))
  undone : (n : Entry) (es : List Entry) → edit_refusal s (take_back n) ≡ 0 → Holds s.plan n n.new (mark_after n.kind) → UndoSays s (n ∷ es) 0 (desk (edit s (take_back n)) es)

-- 02: "A fed entry the sheet refuses gets the sheet's number, else 36 if its old number or presence disagrees"
pub data EntrySays (s : Sheet) (n : Entry) : ℕ → Sheet → Type 0 where
  refused : (k : ℕ) → edit_refusal s (forth n) ≡ suc k → EntrySays s n (suc k) s
  differs : edit_refusal s (forth n) ≡ 0 → ¬ Holds s.plan n n.old n.before → EntrySays s n 36 s
  taken : edit_refusal s (forth n) ≡ 0 → Holds s.plan n n.old n.before → EntrySays s n 0 (edit s (forth n))
