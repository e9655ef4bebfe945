-- The journal's blocks: what is written is accepted and read again. Assumes nothing.
use mathlib.Core.Path.{◌≡◌, refl, ap, ◌∙◌}
use mathlib.Core.Bool.{Bool, true, false}
use mathlib.Core.List.{List, [], ◌∷◌, ◌++◌, append_assoc}
use Prim.Native.Nat.{ℕ, zero, suc, ◌+◌, ◌-◌, ◌*◌, ◌^◌, ◌≤◌, ◌<◌}
use native.Mathlib.Omega.{arith}
use lib.ListN.{length, take, drop, replicate, length-append}
use lib.Seq.{drop_at}
use lib.IntN.{ℤ}
use lib.Signed.{mag}
use borrow.Author.Tests.{le-leb, ne_eqb}
use Rattle.doubles.specs.Lists.{◌#◌}
use Rattle.sheet_rules.specs.Opening.{first_failed}
use Rattle.file_rules.specs.Bytes.{Bytes, none as no_bytes, byte, little, value, word_of, number_of}
use Rattle.file_rules.specs.Block.{room, weigh, body, block, Slot, slot, block_refusal}
use Rattle.file_rules.proofs.Bytes.{bytes_append, little_bytes, value_little, word_small, number_word}
use Rattle.file_rules.proofs.Block.{block_length, block_reads, accepted}
use Rattle.file_journal_rules.specs.File.{journal_kind, entry_size, entry_bytes, entry_from, entries_bytes, entries_from, clean, all_clean, per_block, ends, slot_kind, used_by, journal_slot, slot_refusal, journal_refusal}
use Rattle.file_journal_rules.specs.declared.Entry.{Entry}

-- ---- an entry's bytes
pub record Fits (n : Entry) : Type 0 where
  pub kind_fits : n.kind < 256
  pub row_fits : n.row < 65536
  pub column_fits : n.column < 65536
  pub old_fits : mag n.old < 2 ^ 63
  pub new_fits : mag n.new < 2 ^ 63
  pub before_fits : n.before < 256
  pub is_clean : clean n ≡ true

word_back : (z : ℤ) → mag z < 2 ^ 63 → number_of (value (little 8 (word_of z))) ≡ z
word_back z h = ap number_of (value_little 8 (word_of z) (word_small z h)) ∙ number_word z h

pub entry_back : (n : Entry) → Fits n → (r : List ℕ) → entry_from (entry_bytes n ++ r) ≡ n
unfolding entry_from entry_bytes little
entry_back n h r = λ i. record {
  kind = n.kind;
  row = value_little 2 n.row h.row_fits i;
  column = value_little 2 n.column h.column_fits i;
  old = word_back n.old h.old_fits i;
  new = word_back n.new h.new_fits i;
  before = n.before;
}

pub entry_length : (n : Entry) → length (entry_bytes n) ≡ entry_size
unfolding entry_bytes little
entry_length n = refl

entry_bytes_holds : (n : Entry) → Fits n → Bytes (entry_bytes n)
unfolding entry_bytes
entry_bytes_holds n h = byte h.kind_fits (bytes_append (little_bytes 2 _) (bytes_append (little_bytes 2 _) (bytes_append (little_bytes 8 _) (bytes_append (little_bytes 8 _) (byte h.before_fits no_bytes)))))

-- ---- entries
pub data AllFit : List Entry → Type 0 where
  none : AllFit []
  more : {n : Entry} {es : List Entry} → Fits n → AllFit es → AllFit (n ∷ es)

pub fit_take : (k : ℕ) {es : List Entry} → AllFit es → AllFit (take k es)
fit_take zero g = none
fit_take (suc k) none = none
fit_take (suc k) (more h g) = more h (fit_take k g)

pub fit_drop : (k : ℕ) {es : List Entry} → AllFit es → AllFit (drop k es)
fit_drop zero g = g
fit_drop (suc k) none = none
fit_drop (suc k) (more h g) = fit_drop k g

pub fit_append : {es fs : List Entry} → AllFit es → AllFit fs → AllFit (es ++ fs)
fit_append none g = g
fit_append (more h f) g = more h (fit_append f g)

pub entries_back : {es : List Entry} → AllFit es → (r : List ℕ) → entries_from (length es) (entries_bytes es ++ r) ≡ es
unfolding entries_from entries_bytes
entries_back none r = refl
entries_back (more {n} {es} h g) r =
    let e : entry_bytes n ++ entries_bytes es ++ r ≡ entry_bytes n ++ (entries_bytes es ++ r) = append_assoc (entry_bytes n) (entries_bytes es) r in
    rw (e, entry_back n h (entries_bytes es ++ r), drop_at (entry_bytes n) (entries_bytes es ++ r) entry_size (entry_length n), entries_back g r)

pub entries_length : (es : List Entry) → length (entries_bytes es) ≡ entry_size * length es
unfolding entries_bytes
entries_length [] = refl
entries_length (n ∷ es) = let i = entries_length es in rw (length-append, entry_length n) (omega arith)

pub entries_bytes_holds : {es : List Entry} → AllFit es → Bytes (entries_bytes es)
unfolding entries_bytes
entries_bytes_holds none = no_bytes
entries_bytes_holds (more {n} h g) = bytes_append (entry_bytes_holds n h) (entries_bytes_holds g)

entries_clean : {es : List Entry} → AllFit es → all_clean es ≡ true
unfolding all_clean
entries_clean none = refl
entries_clean (more h g) = rw (h.is_clean, entries_clean g)

-- ---- a block is accepted where its slot's tests are passed and its entries are clean
pub fine_by : (only : Bool) (place : ℕ) (b : List ℕ) (s : Slot) → journal_slot (ends only b) b ≡ s → block_refusal journal_kind s place b ≡ 0 → all_clean (entries_from (b # 3) (drop 4 b)) ≡ true → journal_refusal only place b ≡ 0
unfolding journal_refusal first_failed
fine_by only place b s e h k =
    let a = accepted journal_kind s place b h in
    let passes : slot_refusal s place b ≡ 0 = rw (a.whole, a.of_kind, a.checked, a.placed, a.rest_blank, k) in
    ap (λ (x : Slot). slot_refusal x place b) e ∙ passes

-- the end
pub end_kind : (place : ℕ) → block 255 place [] # 0 ≡ 255
unfolding block body
end_kind place = refl

end_count : (place : ℕ) → block 255 place [] # 3 ≡ 0
unfolding block body little
end_count place = refl

end_slot : (only : Bool) (b : List ℕ) → b # 0 ≡ 255 → journal_slot (ends only b) b ≡ slot 255 0
unfolding slot_kind used_by
end_slot only b k = rw k

no_entries : (b : List ℕ) → b # 3 ≡ 0 → all_clean (entries_from (b # 3) (drop 4 b)) ≡ true
unfolding all_clean entries_from
no_entries b c = rw c

pub end_fine : (only : Bool) (place : ℕ) → place < 65536 → journal_refusal only place (block 255 place []) ≡ 0
end_fine only place p =
    let b : List ℕ = block 255 place [] in
    fine_by only place b (slot 255 0) (end_slot only b (end_kind place)) (block_reads journal_kind 255 place [] refl (omega arith) p (omega arith) no_bytes) (no_entries b (end_count place))

-- entries
abbrev pub inside : List Entry → List ℕ
inside ds = length ds ∷ entries_bytes ds

pub inside_length : (ds : List Entry) → length (inside ds) ≡ 1 + entry_size * length ds
inside_length ds = rw (entries_length ds) (omega arith)

module _ (place : ℕ) (ds : List Entry) where
  pub count_at : block 11 place (inside ds) # 3 ≡ length ds
  unfolding block body little
  count_at = refl

  pub kind_at : block 11 place (inside ds) # 0 ≡ 11
  unfolding block body
  kind_at = refl

  abbrev pub tail : List ℕ
  tail = replicate (room - length (inside ds)) 0 ++ little 4 (weigh 1 (body 11 place (inside ds)))

  pub behind : drop 4 (block 11 place (inside ds)) ≡ entries_bytes ds ++ tail
  unfolding block body little
  behind = append_assoc (entries_bytes ds) (replicate (room - length (inside ds)) 0) (little 4 (weigh 1 (body 11 place (inside ds))))

  pub inside_back : AllFit ds → entries_from (block 11 place (inside ds) # 3) (drop 4 (block 11 place (inside ds))) ≡ ds
  inside_back g = rw (count_at, behind) (entries_back g tail)

  module _ (g : AllFit ds) (low : 1 ≤ length ds) (high : length ds ≤ per_block) where
    slot_by : (b : List ℕ) → b # 0 ≡ 11 → b # 3 ≡ length ds → journal_slot (ends false b) b ≡ slot 11 (1 + entry_size * length ds)
    unfolding slot_kind used_by
    slot_by b k c =
        let not_end : ends false b ≡ false = rw (k, c) (ne_eqb (length ds) 0 (λ e. omega arith)) in
        let sl : journal_slot false b ≡ slot 11 (1 + entry_size * length ds) = rw (c, le-leb (length ds) per_block high) in
        ap (λ (y : Bool). journal_slot y b) not_end ∙ sl

    pub inside_block : length (block 11 place (inside ds)) ≡ 512
    inside_block = let l = inside_length ds in block_length 11 place (inside ds) (omega arith)

    pub inside_fine : place < 65536 → journal_refusal false place (block 11 place (inside ds)) ≡ 0
    inside_fine p =
        let l = inside_length ds in
        let b : List ℕ = block 11 place (inside ds) in
        let ok : block_refusal journal_kind (slot 11 (1 + entry_size * length ds)) place b ≡ 0 = rw l at (block_reads journal_kind 11 place (inside ds) refl (omega arith) p (omega arith) (byte (omega arith) (entries_bytes_holds g))) in
        fine_by false place b (slot 11 (1 + entry_size * length ds)) (slot_by b kind_at count_at) ok (ap all_clean (inside_back g) ∙ entries_clean g)
