-- What a byte and a whole block of a feed leave in the lent memory. Assumes nothing.
use Rattle.std.specs.Prelude.{◌≡◌, List, ℕ}
use Rattle.doubles.specs.Lists.{over}
use Rattle.sheet_rules.specs.Sheet.{Sheet}
use Rattle.file_journal_rules.specs.Feed.{Feed, cells_of}

-- what a step of a feed leaves is the feed f: its sheet, its bytes, and its cells over the front of those lent
pub record Leaves (c : List ℕ) (f : Feed) (s : Sheet) (w d : List ℕ) : Type 0 where
  pub sheet_is : s ≡ f.sheet
  pub memory_is : w ≡ f.memory
  pub cells_are : d ≡ over (cells_of f) c
