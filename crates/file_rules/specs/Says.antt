-- 02's words for each answer of the two calls, as propositions. Assumes nothing.
use Rattle.std.specs.Prelude.{List, ℕ, suc, ◌<◌, ◌≤◌, length, take, drop}
use Rattle.sheet_rules.specs.Sheet.{Plan, sheet_of, fresh}
use Rattle.sheet_rules.specs.Words.{Sized, Limits, Crossing}
use Rattle.file_rules.specs.Bytes.{value}
use Rattle.file_rules.specs.Block.{size_of_block, cells}
use Rattle.file_rules.specs.PlanFile.{plan_kind, shape, sizes_slot, write_file, plan_from, Answer, refused, plan, resized}
use Rattle.file_rules.specs.Words.{BlockSays, FileSays, FileHolds}

-- the sizes and the ten arrays, as opening asks with room for the kept numbers
abbrev pub Fits : Plan → Type 0
Fits p = Sized (sheet_of p (fresh p))

-- ---- writing
pub data WriteSays (p : Plan) (out : List ℕ) : ℕ → Type 0 where
  size : ¬ Fits p → WriteSays p out 11
  short : Fits p → length out < length (write_file p) → WriteSays p out 11
  number : Fits p → length (write_file p) ≤ length out → ¬ Limits p → WriteSays p out 12
  crossed : Fits p → length (write_file p) ≤ length out → Limits p → Crossing p → WriteSays p out 13
  accepted : Fits p → length (write_file p) ≤ length out → Limits p → ¬ Crossing p → WriteSays p out 0

-- ---- reading: the sizes in block 0
abbrev pub rows_in : List ℕ → ℕ
rows_in f = value (take 8 (cells sizes_slot (take size_of_block f)))

abbrev pub columns_in : List ℕ → ℕ
columns_in f = value (drop 8 (cells sizes_slot (take size_of_block f)))

-- block 0 is accepted, and its sizes fit their limits and the lent arrays
pub record Starts (l : Plan) (f : List ℕ) : Type 0 where
  pub first : BlockSays plan_kind sizes_slot 0 (take size_of_block f) 0
  pub sizes : Fits (resized (rows_in f) (columns_in f) l)

abbrev pub slots_in : List ℕ → List ℕ → Type 0
slots_in f bs = FileHolds plan_kind (shape (rows_in f) (columns_in f)) 1 (drop size_of_block f) bs

pub data ReadSays (l : Plan) (f : List ℕ) : Answer → Type 0 where
  first : (n : ℕ) → BlockSays plan_kind sizes_slot 0 (take size_of_block f) (suc n) → ReadSays l f (refused (suc n) 0)
  size : BlockSays plan_kind sizes_slot 0 (take size_of_block f) 0 → ¬ Fits (resized (rows_in f) (columns_in f) l) → ReadSays l f (refused 11 0)
  block : (n b : ℕ) → Starts l f → FileSays plan_kind (shape (rows_in f) (columns_in f)) 1 (drop size_of_block f) n b → ReadSays l f (refused n b)
  number : (bs : List ℕ) → Starts l f → slots_in f bs → ¬ Limits (plan_from (rows_in f) (columns_in f) bs) → ReadSays l f (refused 12 (length (shape (rows_in f) (columns_in f))))
  crossed : (bs : List ℕ) → Starts l f → slots_in f bs → Limits (plan_from (rows_in f) (columns_in f) bs) → Crossing (plan_from (rows_in f) (columns_in f) bs) → ReadSays l f (refused 13 (length (shape (rows_in f) (columns_in f))))
  held : (bs : List ℕ) → Starts l f → slots_in f bs → Limits (plan_from (rows_in f) (columns_in f) bs) → ¬ Crossing (plan_from (rows_in f) (columns_in f) bs) → ReadSays l f (plan (plan_from (rows_in f) (columns_in f) bs))
