-- What each public call of the journal promises: its answer, and every lent cell afterwards, refusals too. Assumes nothing.
use Rattle.std.specs.Prelude.{◌≡◌, List, ℕ}
use Rattle.sheet_rules.specs.Sheet.{Sheet}
use Rattle.sheet_rules.specs.declared.Edit.{Edit}
use Rattle.file_journal_rules.specs.Lent.{Lent, begin_refusal, begun, keeps_refusal, kept, undoes_refusal, undone}
use Rattle.file_journal_rules.specs.Feed.{Fed, fed, closed}

pub record Begins (j : List ℕ) (answer : ℕ) (k : List ℕ) : Type 0 where
  pub answers : answer ≡ begin_refusal j
  pub left : k ≡ begun j

-- l is the sheet and its journal as lent, m as they are left
pub record Keeps (l : Lent) (e : Edit) (answer : ℕ) (m : Lent) : Type 0 where
  pub answers : answer ≡ keeps_refusal l e
  pub left : m ≡ kept l e

pub record Undoes (l : Lent) (answer : ℕ) (m : Lent) : Type 0 where
  pub answers : answer ≡ undoes_refusal l
  pub left : m ≡ undone l

-- a piece of a feed: its answer and the sheet, the lent bytes and the cells afterwards
pub record Feeds (piece : List ℕ) (s : Sheet) (waiting cells : List ℕ) (f : Fed) : Type 0 where
  pub left : f ≡ fed piece s waiting cells

pub record Closes (cells : List ℕ) (answer : ℕ) : Type 0 where
  pub answers : answer ≡ closed cells
