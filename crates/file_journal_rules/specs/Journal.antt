-- The journal: its entries, and the sheet with its journal under edits and undos (02, Ask 12). Assumes nothing.
use Rattle.std.specs.Prelude.{Bool, true, false, ◌&&◌, List, [], ◌∷◌, ℕ, zero, suc, leb, ltb, eqb, length, ℤ, pos}
use Rattle.std.specs.Int.Signed.{le_z}
use Rattle.sheet_rules.specs.Sheet.{Plan, Sheet}
use Rattle.sheet_rules.specs.Edit.{uses_column, uses_row, old_number, old_mark, edit_refusal, edit}
use Rattle.sheet_rules.specs.declared.Edit.{Edit}
use Rattle.file_journal_rules.specs.Undo.{edit_of, back_kind}
use Rattle.file_journal_rules.specs.declared.Entry.{Entry}

-- 02: "Each accepted edit stores its kind, places, old number and new one (0 for kinds 8 and 9), and for a bound whether it was present before". A place that
-- the kind doesn't use is stored as 0; a cell that isn't a bound counts as present
unfoldable pub used : Bool → ℕ → ℕ
used true i = i
used false i = 0

unfoldable pub taken : Bool → ℤ → ℤ
taken true z = z
taken false z = pos 0

-- the edit with what its kind doesn't use put to 0
abbrev pub tidy : Edit → Edit
tidy e = edit_of e.kind (used (uses_row e.kind) e.row) (used (uses_column e.kind) e.column) (taken (leb e.kind 7) e.number)

abbrev pub entry_by : Plan → Edit → Entry
entry_by p e = record { kind = e.kind; row = e.row; column = e.column; old = old_number p e; new = e.number; before = old_mark p e }

abbrev pub entry_of : Plan → Edit → Entry
entry_of p e = entry_by p (tidy e)

-- an entry's edit, and the edit that takes it back
abbrev pub forth : Entry → Edit
forth n = edit_of n.kind n.row n.column n.new

abbrev pub take_back : Entry → Edit
take_back n = edit_of (back_kind n.kind n.before) n.row n.column n.old

-- what stands in the edit's cell is this number with this mark
unfoldable pub same : ℤ → ℤ → Bool
same y z = le_z y z && le_z z y

unfoldable pub reads : Plan → Edit → ℤ → ℕ → Bool
reads p e z m = same (old_number p e) z && eqb (old_mark p e) m

-- the mark that an edit leaves: 0 for kinds 8 and 9
abbrev pub mark_after : ℕ → ℕ
mark_after k = used (leb k 7) 1

-- ---- a sheet and its journal, the last entry first
pub record Desk : Type 0 where
  pub sheet : Sheet
  pub entries : List Entry

abbrev pub desk : Sheet → List Entry → Desk
desk s es = record { sheet = s; entries = es }

-- the first number that isn't 0
unfoldable pub else : ℕ → ℕ → ℕ
else zero n = n
else (suc k) n = suc k

unfoldable pub unless_so : ℕ → Bool → ℕ
unless_so n true = 0
unless_so n false = n

unfoldable pub left : {A : Type 0} → ℕ → A → A → A
left zero new old = new
left (suc k) new old = old

-- 02: "An edit that the sheet would accept but that finds the lent journal full gives 37, exactly then, and changes nothing"
unfoldable pub keep_refusal : ℕ → Desk → Edit → ℕ
keep_refusal room d e = else (edit_refusal d.sheet e) (unless_so 37 (ltb (length d.entries) room))

unfoldable pub keep : ℕ → Desk → Edit → Desk
keep room d e = left (keep_refusal room d e) (desk (edit d.sheet e) (entry_of d.sheet.plan e ∷ d.entries)) d

-- 02: "answers 35 when none is left"; "an undo whose edit back the sheet refuses gets the sheet's number, else 36 where the new number or presence disagrees"
unfoldable pub take_refusal : Sheet → Entry → ℕ
take_refusal s n = else (edit_refusal s (take_back n)) (unless_so 36 (reads s.plan (forth n) n.new (mark_after n.kind)))

unfoldable pub undo_refusal : Desk → ℕ
undo_refusal d = elim d.entries [ [] ↦ 35 | n ∷ es ↦ take_refusal d.sheet n ]

unfoldable pub undo : Desk → Desk
undo d = elim d.entries [ [] ↦ d | n ∷ es ↦ left (undo_refusal d) (desk (edit d.sheet (take_back n)) es) d ]

-- 02: "A fed entry the sheet refuses gets the sheet's number, else 36 if its old number or presence disagrees"
unfoldable pub feed_refusal : Sheet → Entry → ℕ
feed_refusal s n = else (edit_refusal s (forth n)) (unless_so 36 (reads s.plan (forth n) n.old n.before))
