-- Demand 3 over openings, edits, journaled edits, undos and feeds, as one sequence. Assumes nothing.
use Rattle.std.specs.Prelude.{List, ℕ}
use Rattle.sheet_rules.specs.Sheet.{Sheet}
use Rattle.sheet_rules.specs.Promises.{Opens, Edits}
use Rattle.sheet_rules.specs.declared.Edit.{Edit}
use Rattle.file_journal_rules.specs.Lent.{Lent}
use Rattle.file_journal_rules.specs.Feed.{Fed}
use Rattle.file_journal_rules.specs.Promises.{Keeps, Undoes, Feeds}

-- A sheet as calls leave it: an opening that was accepted, and then any of the calls in any order, whatever was lent to them as a journal or a feed and whatever
-- they answered. 02: "Demand 3 then reads edits and undos as one sequence"
pub data Called : Sheet → Type 0 where
  opened : {s t : Sheet} → Opens s 0 t → Called t
  edited : {s t : Sheet} (e : Edit) (answer : ℕ) → Called s → Edits s e answer t → Called t
  reopened : {s t : Sheet} (answer : ℕ) → Called s → Opens s answer t → Called t
  journaled : (l : Lent) {m : Lent} (e : Edit) (answer : ℕ) → Called l.sheet → Keeps l e answer m → Called m.sheet
  undone : (l : Lent) {m : Lent} (answer : ℕ) → Called l.sheet → Undoes l answer m → Called m.sheet
  fed : {s : Sheet} (piece waiting cells : List ℕ) {f : Fed} → Called s → Feeds piece s waiting cells f → Called f.sheet
