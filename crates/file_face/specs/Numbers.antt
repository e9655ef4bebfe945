-- The numbers that the face hands out for each answer on a file. Assumes nothing.
use Rattle.std.specs.Prelude.{◌≡◌, List, ℕ}
use Rattle.sheet_rules.specs.Sheet.{Plan}
use Rattle.file_rules.specs.Calls.{writing, written, reading, taken}
use Rattle.file_rules.specs.declared.Writing.{Writing}
use Rattle.file_rules.specs.declared.Writing.TheVariants.{Written, Refused}
use Rattle.file_rules.specs.declared.Reading.{Reading}
use Rattle.file_rules.specs.declared.Reading.TheVariants.{Held, Refused as Reading-as-Refused}
use Rattle.file_face.specs.declared.TevalumiWritten.{TevalumiWritten}
use Rattle.file_face.specs.declared.TevalumiRead.{TevalumiRead}

unfoldable pub written_numbers : Writing → TevalumiWritten
written_numbers (Written n) = record { status = 0; bytes = n }
written_numbers (Refused k) = record { status = k; bytes = 0 }

unfoldable pub read_numbers : Reading → TevalumiRead
read_numbers (Held m n) = record { status = 0; block = 0; rows = m; columns = n }
read_numbers (Reading-as-Refused k b) = record { status = k; block = b; rows = 0; columns = 0 }

-- what the exported calls promise: those numbers, and every lent cell afterwards
pub record WritesNumbers (p : Plan) (out : List ℕ) (answer : TevalumiWritten) (out' : List ℕ) : Type 0 where
  pub answers : answer ≡ written_numbers (writing p out)
  pub left : out' ≡ written p out

pub record ReadsNumbers (f : List ℕ) (l : Plan) (answer : TevalumiRead) (l' : Plan) : Type 0 where
  pub answers : answer ≡ read_numbers (reading l f)
  pub left : l' ≡ taken l f
