-- A feed of a journal's file in pieces (02, Ask 12). Assumes nothing.
use Rattle.std.specs.Prelude.{Bool, true, false, ◌&&◌, List, [], ◌∷◌, ℕ, zero, suc, leb, eqb, length, take, drop, set}
use Rattle.doubles.specs.Loop.{each}
use Rattle.doubles.specs.Lists.{◌#◌, over}
use Rattle.sheet_rules.specs.Sheet.{Sheet}
use Rattle.sheet_rules.specs.Edit.{edit}
use Rattle.file_rules.specs.Block.{size_of_block, stray_refusal}
use Rattle.file_journal_rules.specs.Journal.{forth, unless_so, feed_refusal}
use Rattle.file_journal_rules.specs.File.{journal_kind, entries_from, per_block, journal_refusal}
use Rattle.file_journal_rules.specs.declared.Entry.{Entry}

-- ---- a feed: the sheet, the next block's place, how many bytes wait, the refusal (0 while there is none), the phase (0 a block may come, 1 the end alone, 2 the
-- end has come), and the lent bytes, at whose front they wait
pub record Feed : Type 0 where
  pub sheet : Sheet
  pub place : ℕ
  pub waits : ℕ
  pub refusal : ℕ
  pub phase : ℕ
  pub memory : List ℕ

abbrev pub feed_of : Sheet → ℕ → ℕ → ℕ → ℕ → List ℕ → Feed
feed_of s p w r h m = record { sheet = s; place = p; waits = w; refusal = r; phase = h; memory = m }

-- entries in their order, up to the first that is refused: "what came before stays, and nothing after it is applied"
unfoldable pub apply_by : ℕ → Sheet → Sheet → ℕ × Sheet
apply_by zero new old = (0, new)
apply_by (suc k) new old = (suc k, old)

unfoldable pub fed_entry : Sheet → Entry → ℕ × Sheet
fed_entry s n = apply_by (feed_refusal s n) (edit s (forth n)) s

unfoldable pub go_on_with : ℕ → Sheet → (Sheet → ℕ × Sheet) → ℕ × Sheet
go_on_with zero t f = f t
go_on_with (suc k) t f = (suc k, t)

unfoldable pub apply_all : List Entry → Sheet → ℕ × Sheet
apply_all [] s = (0, s)
apply_all (n ∷ es) s = go_on_with (fed_entry s n).0 (fed_entry s n).1 (λ t. apply_all es t)

-- ---- a block: what is said of it by the phase, and what it leaves
unfoldable pub says_by : Bool → ℕ → ℕ → List ℕ → ℕ
says_by true phase place b = stray_refusal journal_kind b
says_by false phase place b = journal_refusal (eqb phase 1) place b

unfoldable pub after_block : ℕ → Bool → Feed → List ℕ → Feed
after_block (suc k) end f b = feed_of f.sheet f.place 0 (suc k) f.phase f.memory
after_block zero true f b = feed_of f.sheet (suc f.place) 0 0 2 f.memory
after_block zero false f b =
    let r = apply_all (entries_from (b # 3) (drop 4 b)) f.sheet in
    feed_of r.1 (suc f.place) 0 r.0 (unless_so 1 (leb per_block (b # 3))) f.memory

unfoldable pub take_block : Feed → Feed
take_block f =
    let b = take size_of_block f.memory in
    after_block (says_by (leb 2 f.phase) f.phase f.place b) (eqb (b # 0) 255) f b

-- ---- one byte: it waits, or makes the block whole. 02: "nothing after it is applied, in later pieces either"
unfoldable pub take_whole : Bool → Feed → Feed
take_whole true f = take_block f
take_whole false f = f

unfoldable pub feed_by : ℕ → ℕ → Feed → Feed
feed_by (suc r) x f = f
feed_by zero x f = take_whole (leb size_of_block (suc f.waits)) (feed_of f.sheet f.place (suc f.waits) 0 f.phase (set f.memory f.waits x))

abbrev pub feed_byte : ℕ → Feed → Feed
feed_byte x f = feed_by f.refusal x f

abbrev pub feed : List ℕ → Feed → Feed
feed bs f = each bs feed_byte f

-- 02: "part of a block waits for the rest, and is 33 only when the feed is closed"
unfoldable pub close_by : ℕ → ℕ → ℕ → ℕ
close_by (suc k) w h = suc k
close_by zero (suc w) h = 33
close_by zero zero h = unless_so 33 (leb 2 h)

-- ---- the calls: the four cells, and the lent bytes. 11 where these aren't a feed's
unfoldable pub cells_fine : List ℕ → Bool
cells_fine c = leb 4 (length c) && leb (suc (c # 1)) size_of_block && leb (c # 3) 2

unfoldable pub feed_fine : List ℕ → List ℕ → Bool
feed_fine w c = leb size_of_block (length w) && cells_fine c

abbrev pub feed_from : Sheet → List ℕ → List ℕ → Feed
feed_from s w c = feed_of s (c # 0) (c # 1) (c # 2) (c # 3) w

abbrev pub cells_of : Feed → List ℕ
cells_of f = f.place ∷ f.waits ∷ f.refusal ∷ f.phase ∷ []

-- a feed's answer, and what is lent afterwards
pub record Fed : Type 0 where
  pub answer : ℕ
  pub sheet : Sheet
  pub waiting : List ℕ
  pub cells : List ℕ

abbrev pub fed_of : ℕ → Sheet → List ℕ → List ℕ → Fed
fed_of r s w c = record { answer = r; sheet = s; waiting = w; cells = c }

abbrev pub left_by : Feed → List ℕ → Fed
left_by f c = fed_of f.refusal f.sheet f.memory (over (cells_of f) c)

unfoldable pub fed_by : Bool → List ℕ → Sheet → List ℕ → List ℕ → Fed
fed_by false p s w c = fed_of 11 s w c
fed_by true p s w c = left_by (feed p (feed_from s w c)) c

abbrev pub fed : List ℕ → Sheet → List ℕ → List ℕ → Fed
fed p s w c = fed_by (feed_fine w c) p s w c

unfoldable pub closed_by : Bool → List ℕ → ℕ
closed_by false c = 11
closed_by true c = close_by (c # 2) (c # 1) (c # 3)

abbrev pub closed : List ℕ → ℕ
closed c = closed_by (cells_fine c) c
