-- What each public call promises: its answer, and every lent cell afterwards, refusals too. s is the sheet as lent, t as it is left. Assumes nothing.
use Rattle.std.specs.Prelude.{◌≡◌, ℕ}
use Rattle.sheet_rules.specs.Sheet.{Sheet}
use Rattle.sheet_rules.specs.Opening.{opening, opened}
use Rattle.sheet_rules.specs.Edit.{edit_refusal, edit}
use Rattle.sheet_rules.specs.Verdict.{verdict}
use Rattle.sheet_rules.specs.declared.Edit.{Edit}
use Rattle.sheet_rules.specs.declared.Verdict.{Verdict}

pub record Opens (s : Sheet) (answer : ℕ) (t : Sheet) : Type 0 where
  pub answers : answer ≡ opening s
  pub left : t ≡ opened s

pub record Edits (s : Sheet) (e : Edit) (answer : ℕ) (t : Sheet) : Type 0 where
  pub answers : answer ≡ edit_refusal s e
  pub left : t ≡ edit s e

-- a verdict only reads
pub record Judges (s : Sheet) (answer : Verdict) : Type 0 where
  pub answers : answer ≡ verdict s
