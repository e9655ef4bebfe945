-- A sheet and its lent journal (02, Ask 12). The journal is bytes, with its file at the front; behind its end is room. Assumes nothing.
use Rattle.std.specs.Prelude.{Bool, true, false, List, [], ◌∷◌, ◌++◌, ℕ, zero, suc, ◌+◌, ◌-◌, ◌*◌, ◌/◌, ◌%◌, min, ltb, eqb, length, take, drop}
use Rattle.std.proofs.lemmas.List.Edits.{sets}
use Rattle.doubles.specs.Lists.{◌#◌}
use Rattle.sheet_rules.specs.Sheet.{Sheet}
use Rattle.sheet_rules.specs.Edit.{edit_refusal, edit}
use Rattle.sheet_rules.specs.declared.Edit.{Edit}
use Rattle.file_rules.specs.Block.{size_of_block, block}
use Rattle.file_journal_rules.specs.Journal.{entry_of, take_back, else, unless_so, left, take_refusal}
use Rattle.file_journal_rules.specs.File.{entry_size, entry_bytes, entry_from, per_block, journal_refusal}
use Rattle.file_journal_rules.specs.declared.Entry.{Entry}
use Rattle.file_journal_rules.specs.declared.Tested.{Tested}

pub record Lent : Type 0 where
  pub sheet : Sheet
  pub journal : List ℕ

abbrev pub lent : Sheet → List ℕ → Lent
lent s j = record { sheet = s; journal = j }

-- ---- the journal is tested first: its blocks up to the end
abbrev pub tested_of : ℕ → ℕ → Tested
tested_of r n = record { refusal = r; entries = n }

-- by what is said of a block and whether it is the end; n entries stand before it
unfoldable pub test_by : ℕ → Bool → ℕ → Tested → Tested
test_by (suc r) end n t = tested_of (suc r) 0
test_by zero true n t = tested_of 0 n
test_by zero false n t = t

-- so many whole blocks are left; where they are used up the journal is cut
unfoldable pub test : ℕ → ℕ → ℕ → List ℕ → Tested
test zero place n j = tested_of 33 0
test (suc k) place n j =
    let b = take size_of_block j in
    test_by (journal_refusal (ltb n (per_block * place)) place b) (eqb (b # 0) 255) n (test k (suc place) (n + b # 3) (drop size_of_block j))

-- a block's place has two bytes
abbrev pub max_blocks : ℕ
max_blocks = 65536

unfoldable pub whole_blocks : List ℕ → ℕ
whole_blocks j = min max_blocks (length j / size_of_block)

unfoldable pub tested : List ℕ → Tested
tested j = test (whole_blocks j) 0 0 j

-- ---- 02: "Full means that every whole lent block, an end block aside, holds the number of entries that docs/ fixes"
unfoldable pub room_of : List ℕ → ℕ
room_of j = per_block * (whole_blocks j - 1)

-- ---- entry number i stands in block i / 22
abbrev pub block_of : ℕ → ℕ
block_of i = i / per_block

abbrev pub in_block : ℕ → ℕ
in_block i = i % per_block

abbrev pub block_at : ℕ → List ℕ → List ℕ
block_at k j = take size_of_block (drop (size_of_block * k) j)

abbrev pub put_block : ℕ → List ℕ → List ℕ → List ℕ
put_block k b j = sets j (size_of_block * k) b

unfoldable pub entry_at : ℕ → List ℕ → Entry
entry_at i j = entry_from (drop (4 + entry_size * in_block i) (block_at (block_of i) j))

-- the first c entries of a block, as they stand there
abbrev pub front : ℕ → List ℕ → List ℕ
front c b = take (entry_size * c) (drop 4 b)

-- behind n entries one more; where it begins a block the end moves one on
unfoldable pub end_behind : ℕ → ℕ → List ℕ → List ℕ
end_behind zero k j = put_block k (block 255 k []) j
end_behind (suc c) k j = j

unfoldable pub pushed : ℕ → Entry → List ℕ → List ℕ
pushed n e j =
    let k = block_of n in
    let c = in_block n in
    end_behind c (suc k) (put_block k (block 11 k (suc c ∷ (front c (block_at k j) ++ entry_bytes e))) j)

-- entry number m, the last, taken off; where it was the first of its block the end comes there. The old end stays behind it
unfoldable pub shorter : ℕ → ℕ → List ℕ → List ℕ
shorter zero k b = block 255 k []
shorter (suc c) k b = block 11 k (suc c ∷ front (suc c) b)

unfoldable pub popped : ℕ → List ℕ → List ℕ
popped m j =
    let k = block_of m in
    put_block k (shorter (in_block m) k (block_at k j)) j

-- ---- an empty journal: its end alone. 33 where not one whole block is lent
unfoldable pub begin_by : ℕ → ℕ
begin_by zero = 33
begin_by (suc k) = 0

abbrev pub begin_refusal : List ℕ → ℕ
begin_refusal j = begin_by (whole_blocks j)

unfoldable pub begun : List ℕ → List ℕ
begun j = left (begin_refusal j) (put_block 0 (block 255 0 []) j) j

-- ---- an edit with a journal: the journal's number, else the sheet's, else 37
unfoldable pub keeps_refusal : Lent → Edit → ℕ
keeps_refusal l e = else (tested l.journal).refusal (else (edit_refusal l.sheet e) (unless_so 37 (ltb (tested l.journal).entries (room_of l.journal))))

unfoldable pub kept : Lent → Edit → Lent
kept l e = left (keeps_refusal l e) (lent (edit l.sheet e) (pushed (tested l.journal).entries (entry_of l.sheet.plan e) l.journal)) l

-- ---- undo: the journal's number, else 35, else the sheet's for the edit back, else 36
unfoldable pub last_refusal : ℕ → Lent → ℕ
last_refusal zero l = 35
last_refusal (suc m) l = take_refusal l.sheet (entry_at m l.journal)

unfoldable pub undoes_refusal : Lent → ℕ
undoes_refusal l = else (tested l.journal).refusal (last_refusal (tested l.journal).entries l)

unfoldable pub undone : Lent → Lent
undone l =
    let m = (tested l.journal).entries - 1 in
    left (undoes_refusal l) (lent (edit l.sheet (take_back (entry_at m l.journal))) (popped m l.journal)) l
