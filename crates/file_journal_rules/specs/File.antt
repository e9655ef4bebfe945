-- The journal as a file (02, Ask 12). Assumes nothing.
use Rattle.std.specs.Prelude.{Bool, true, false, ◌&&◌, ◌||◌, List, [], ◌∷◌, ◌++◌, ℕ, zero, suc, ◌+◌, ◌*◌, ◌/◌, leb, eqb, length, take, drop}
use Rattle.doubles.specs.Lists.{◌#◌}
use Rattle.sheet_rules.specs.Opening.{first_failed}
use Rattle.sheet_rules.specs.Verdict.{is_zero}
use Rattle.sheet_rules.specs.Edit.{uses_column, uses_row}
use Rattle.file_rules.specs.Bytes.{little, value, word_of, number_of}
use Rattle.file_rules.specs.Block.{Slot, slot, block, blank, stands, rest, block_tests}
use Rattle.file_journal_rules.specs.declared.Entry.{Entry}

-- 02: "a new kind 11 in files of its own"
abbrev pub journal_kind : ℕ → Bool
journal_kind k = eqb k 11 || eqb k 255

-- ---- an entry in 22 bytes: kind, row and column (2 each), old and new number (8 each), presence before
abbrev pub entry_size : ℕ
entry_size = 22

unfoldable pub entry_bytes : Entry → List ℕ
entry_bytes n = n.kind ∷ (little 2 n.row ++ (little 2 n.column ++ (little 8 (word_of n.old) ++ (little 8 (word_of n.new) ++ (n.before ∷ [])))))

unfoldable pub entry_from : List ℕ → Entry
entry_from b = record {
  kind = b # 0;
  row = value (take 2 (drop 1 b));
  column = value (take 2 (drop 3 b));
  old = number_of (value (take 8 (drop 5 b)));
  new = number_of (value (take 8 (drop 13 b)));
  before = b # 21;
}

unfoldable pub entries_bytes : List Entry → List ℕ
entries_bytes [] = []
entries_bytes (n ∷ es) = entry_bytes n ++ entries_bytes es

unfoldable pub entries_from : ℕ → List ℕ → List Entry
entries_from zero b = []
entries_from (suc k) b = entry_from b ∷ entries_from k (drop entry_size b)

-- what the kind doesn't use is 0: a place, and the new number of kinds above 7
unfoldable pub clean : Entry → Bool
clean n = (uses_row n.kind || eqb n.row 0) && (uses_column n.kind || eqb n.column 0) && (leb n.kind 7 || is_zero n.new)

unfoldable pub all_clean : List Entry → Bool
all_clean [] = true
all_clean (n ∷ es) = clean n && all_clean es

-- ---- a block holds 22 entries: behind its place how many, then they, the oldest first
abbrev pub per_block : ℕ
per_block = 22

unfoldable pub journal_blocks : ℕ → ℕ → List Entry → List ℕ
journal_blocks zero place es = block 255 place []
journal_blocks (suc k) place es = block 11 place (length (take per_block es) ∷ entries_bytes (take per_block es)) ++ journal_blocks k (suc place) (drop per_block es)

unfoldable pub journal_file : List Entry → List ℕ
journal_file es = journal_blocks ((length es + 21) / 22) 0 es

-- ---- a block's tests
-- the end belongs behind a block that isn't full (`only`), and where a block would have no entry
abbrev pub ends : Bool → List ℕ → Bool
ends only b = eqb (b # 0) 255 || only || eqb (b # 3) 0

-- the kind that belongs there, and how many bytes are used: none of the end's; a count above 22 is no count, so that its byte is an unused one
unfoldable pub slot_kind : Bool → ℕ
slot_kind true = 255
slot_kind false = 11

unfoldable pub used_by : (end fits : Bool) → ℕ → ℕ
used_by true fits c = 0
used_by false false c = 0
used_by false true c = 1 + entry_size * c

abbrev pub slot_used : Bool → ℕ → ℕ
slot_used end c = used_by end (leb c per_block) c

abbrev pub journal_slot : Bool → List ℕ → Slot
journal_slot end b = slot (slot_kind end) (slot_used end (b # 3))

-- 0, or 31 to 34 as for a block of a plan's file. What an entry's kind doesn't use is unused too
abbrev pub slot_refusal : Slot → ℕ → List ℕ → ℕ
slot_refusal s place b = first_failed (block_tests journal_kind (stands s place b) (blank (rest s b) && all_clean (entries_from (b # 3) (drop 4 b))) b)

unfoldable pub journal_refusal : Bool → ℕ → List ℕ → ℕ
journal_refusal only place b = slot_refusal (journal_slot (ends only b) b) place b
