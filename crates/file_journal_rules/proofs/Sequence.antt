-- Sequences of the public calls on a sheet and its lent journal (`Begins`, `Keeps`, `Undoes`, `Feeds`, `Closes`). Assumes nothing.
use mathlib.Core.Path.{◌≡◌, refl, sym, ap, ◌∙◌, subst}
use mathlib.Core.List.{List, [], ◌∷◌, ◌++◌}
use Prim.Native.Nat.{ℕ, zero, suc, ◌+◌, ◌/◌, ◌≤◌, ◌<◌}
use native.Mathlib.Omega.{arith}
use lib.ListN.{length, length-append}
use borrow.Author.Tests.{le-leb, lt-ltb}
use Rattle.sheet_rules.specs.Sheet.{Sheet}
use Rattle.sheet_rules.specs.Edit.{edit_refusal, edit}
use Rattle.sheet_rules.specs.Words.{Crossing}
use Rattle.sheet_rules.specs.declared.Edit.{Edit}
use Rattle.file_rules.specs.Block.{size_of_block, block}
use Rattle.file_journal_rules.specs.Journal.{entry_of, take_back, Desk, desk, else, unless_so, left, keep_refusal, keep, undo_refusal, undo}
use Rattle.file_journal_rules.specs.File.{journal_file}
use Rattle.file_journal_rules.specs.Lent.{Lent, lent, whole_blocks, tested, room_of, put_block, begin_by, begun, keeps_refusal, kept, undoes_refusal, undone}
use Rattle.file_journal_rules.specs.Feed.{Feed, feed_of, feed, close_by, cells_fine, feed_fine, Fed, fed_of, left_by, fed_by, closed_by}
use Rattle.file_journal_rules.specs.Promises.{Begins, Keeps, Undoes, Closes}
use Rattle.file_journal_rules.specs.declared.Entry.{Entry}
use Rattle.file_journal_rules.specs.declared.Tested.{Tested}
use Rattle.file_journal_rules.proofs.Journal.{Moves, uncrossed_after, stands, Since-all, kept as kept-so}
use Rattle.file_journal_rules.proofs.Feed.{joined, all_pieces}
use Rattle.file_journal_rules.proofs.Pieces.{FeedsAll, all_one}
use Rattle.file_journal_rules.proofs.Lent.{Holds, blocks_size, whole_more, tested_holds, begun_holds}
use Rattle.file_journal_rules.proofs.Calls.{oldest, oldest_length, Shows, keeps_same, keeps_shows, undoes_none, undoes_same, undoes_shows, lent_undo, replay_theorem, room_kept, room_undone}

-- the calls one after another, whatever they answer; an undo only where the journal's count allows it
pub data Calls (may : ℕ → Type 0) (l : Lent) : Lent → Type 0 where
  none : Calls may l l
  keeps : {m n : Lent} (e : Edit) (answer : ℕ) → Calls may l m → Keeps m e answer n → Calls may l n
  undoes : {m n : Lent} (answer : ℕ) → Calls may l m → may (tested m.journal).entries → Undoes m answer n → Calls may l n

-- ---- each call on lent bytes is the one on a desk
undone_by : (s : Sheet) (j : List ℕ) (es : List Entry) → Holds j (oldest es) → Shows (undone (lent s j)) (undo (desk s es))
unfolding oldest
undone_by s j [] g = (undoes_none s j g).1
undone_by s j (e ∷ es) g = undoes_shows s j e es g

module _ {m n : Lent} {d : Desk} {room : ℕ} (h : Shows m d) (q : room_of m.journal ≡ room) where
  keeps_sim : (e : Edit) (answer : ℕ) → Keeps m e answer n → Shows n (keep room d e) × (room_of n.journal ≡ room)
  keeps_sim e answer k =
      let a = keeps_shows m.sheet m.journal d.entries h.holds e in
      let b = subst (λ (s : Sheet). Shows (kept m e) (keep (room_of m.journal) (desk s d.entries) e)) h.sheet_is a in
      let c = subst (λ (r : ℕ). Shows (kept m e) (keep r d e)) q b in
      (subst (λ (x : Lent). Shows x (keep room d e)) (sym k.left) c, ap (λ (x : Lent). room_of x.journal) k.left ∙ room_kept m e ∙ q)

  undoes_sim : (answer : ℕ) → Undoes m answer n → Shows n (undo d) × (room_of n.journal ≡ room)
  undoes_sim answer k =
      let a = undone_by m.sheet m.journal d.entries h.holds in
      let b = subst (λ (s : Sheet). Shows (undone m) (undo (desk s d.entries))) h.sheet_is a in
      (subst (λ (x : Lent). Shows x (undo d)) (sym k.left) b, ap (λ (x : Lent). room_of x.journal) k.left ∙ room_undone m ∙ q)

counted : (l : Lent) (d : Desk) → Shows l d → (tested l.journal).entries ≡ length d.entries
counted l d h = ap (λ (t : Tested). t.entries) (tested_holds l.journal (oldest d.entries) h.holds) ∙ oldest_length d.entries

-- ---- 02: "sheet and journal were changed since by journaled edits and undos alone"
record Shown (room : ℕ) (s : Sheet) (base : List Entry) (l : Lent) : Type 0 where
  at : Desk
  moved : Moves room base (desk s base) at
  shows : Shows l at
  room_is : room_of l.journal ≡ room

split : (later base es : List Entry) → es ≡ later ++ base → length base < length es → (n : Entry) × ((fs : List Entry) × (es ≡ n ∷ (fs ++ base)))
split [] base es q h = absurd (let e = ap length q in omega (arith, e, h))
split (n ∷ fs) base es q h = (n, (fs, q))

shown : (room : ℕ) (s : Sheet) (base : List Entry) {l m : Lent} → ¬ Crossing s.plan → Shows l (desk s base) → room_of l.journal ≡ room
    → Calls (λ i. length base < i) l m → Shown room s base m
shown room s base free h q none = record { at = desk s base; moved = Moves.none; shows = h; room_is = q }
shown room s base free h q (keeps e answer c k) =
    let g = shown room s base free h q c in
    let r = keeps_sim g.shows g.room_is e answer k in
    record { at = keep room g.at e; moved = Moves.keeps g.moved e; shows = r.0; room_is = r.1 }
shown room s base free h q (undoes {m} answer c b k) =
    let g = shown room s base free h q c in
    let r = undoes_sim g.shows g.room_is answer k in
    let t = stands room s base free g.moved in
    let x = split t.later base g.at.entries t.entries_are (omega (arith, b, counted m g.at g.shows)) in
    record { at = undo g.at; moved = Moves.undoes g.moved x.0 x.1.0 x.1.1; shows = r.0; room_is = r.1 }

none_later : (later base es : List Entry) → es ≡ later ++ base → length es ≡ length base → es ≡ base
none_later [] base es q h = q
none_later (n ∷ fs) base es q h = absurd (let e = ap length q in omega (arith, e, h, length-append fs base))

-- 02: "Where no present bounds crossed before an edit .. the sheet after its undo equals the sheet before it, and that undo is never refused". es: what the
-- journal held before the edit; an undo since may not take the edit's own entry
pub undo_gives_back : {l m n k : Lent} (es : List Entry) (e : Edit) (answer : ℕ) → Holds l.journal (oldest es) → ¬ Crossing l.sheet.plan → Keeps l e 0 m
    → Calls (λ i. suc (length es) < i) m n → (tested n.journal).entries ≡ suc (length es) → Undoes n answer k → (answer ≡ 0) × (k.sheet ≡ l.sheet)
undo_gives_back {l} {m} {n} {k} es e answer h free ke c q u =
    let s : Sheet = l.sheet in
    let room : ℕ = room_of l.journal in
    let base : List Entry = entry_of s.plan e ∷ es in
    let w : keep_refusal room (desk s es) e ≡ 0 = sym (keeps_same s l.journal es h e) ∙ sym ke.answers in
    let z = kept-so room s es e w in
    let f = keeps_sim {n = m} {d = desk s es} (record { sheet_is = refl; holds = h }) refl e 0 ke in
    let g = shown room (edit s e) base (uncrossed_after s e z.0 free) (subst (Shows m) z.1 f.0) f.1 c in
    let t = stands room (edit s e) base (uncrossed_after s e z.0 free) g.moved in
    let d : Desk = g.at in
    let is : d.entries ≡ base = none_later t.later base d.entries t.entries_are (omega (arith, q, counted n d g.shows)) in
    let held : Holds n.journal (oldest base) = subst (λ (x : List Entry). Holds n.journal (oldest x)) is g.shows.holds in
    let moves : Moves room base (keep room (desk s es) e) d = subst (λ (x : Desk). Moves room base x d) (sym z.1) g.moved in
    let r = lent_undo room s es e {d = d} n.journal w free moves is held in
    let same : n ≡ lent d.sheet n.journal = λ i. lent (g.shows.sheet_is i) n.journal in
    (u.answers ∙ ap undoes_refusal same ∙ r.0, ap (λ (x : Lent). x.sheet) (u.left ∙ ap undone same) ∙ r.1.sheet_is)

-- ---- 02: "undone room is used again": behind an undo no edit that the sheet accepts finds the journal full
else_none : (n : ℕ) → else n 0 ≡ n
unfolding else
else_none zero = refl
else_none (suc n) = refl

has_room : (j : List ℕ) (es : List Entry) → Holds j es → length es ≤ room_of j
unfolding room_of journal_file
has_room j es h =
    let k : ℕ = (length es + 21) / 22 in
    let n = ap length h.is ∙ length-append (journal_file es) h.room in
    let w = whole_more j k h.few (omega (arith, n, blocks_size k 0 es)) in
    omega (arith, w)

taken_off : {l m : Lent} (n : Entry) (es : List Entry) → Holds l.journal (oldest (n ∷ es)) → Undoes l 0 m → Holds m.journal (oldest es)
unfolding oldest undo left
taken_off {l} {m} n es h u =
    let z : undo_refusal (desk l.sheet (n ∷ es)) ≡ 0 = sym (undoes_same l.sheet l.journal n es h) ∙ sym u.answers in
    let g = (undoes_sim {m = l} {n = m} {d = desk l.sheet (n ∷ es)} (record { sheet_is = refl; holds = h }) refl 0 u).0 in
    let is : undo (desk l.sheet (n ∷ es)) ≡ desk (edit l.sheet (take_back n)) es = rw z in
    subst (λ (d : Desk). Holds m.journal (oldest d.entries)) is g.holds

pub room_again : {l m : Lent} (es : List Entry) (e : Edit) → Holds l.journal (oldest es) → Undoes l 0 m → keeps_refusal m e ≡ edit_refusal m.sheet e
unfolding oldest undo_refusal keep_refusal unless_so
room_again {l} [] e h u = absurd (let z = u.answers ∙ (undoes_none l.sheet l.journal h).0 in omega (arith, z))
room_again {l} {m} (n ∷ es) e h u =
    let same : room_of m.journal ≡ room_of l.journal = ap (λ (x : Lent). room_of x.journal) u.left ∙ room_undone l in
    let free : length es < room_of m.journal = omega (arith, same, has_room l.journal (oldest (n ∷ es)) h, oldest_length (n ∷ es)) in
    keeps_same m.sheet m.journal es (taken_off n es h u) e ∙ (rw (lt-ltb (length es) (room_of m.journal) free) (else_none (edit_refusal m.sheet e)))

-- ---- a journal begun, and every call since: its file, fed in pieces cut anywhere to the sheet that it began with, gives the sheet they left
record Since (room : ℕ) (s : Sheet) (l : Lent) : Type 0 where
  at : Desk
  moved : Since-all room s at
  shows : Shows l at
  room_is : room_of l.journal ≡ room

since : (s : Sheet) {l m : Lent} → Shows l (desk s []) → Calls (λ i. Unit) l m → Since (room_of l.journal) s m
since s h none = record { at = desk s []; moved = Since-all.none; shows = h; room_is = refl }
since s h (keeps e answer c k) =
    let g = since s h c in
    let r = keeps_sim g.shows g.room_is e answer k in
    record { at = keep _ g.at e; moved = Since-all.keeps g.moved e; shows = r.0; room_is = r.1 }
since s h (undoes answer c b k) =
    let g = since s h c in
    let r = undoes_sim g.shows g.room_is answer k in
    record { at = undo g.at; moved = Since-all.undoes g.moved; shows = r.0; room_is = r.1 }

some_block : (j : List ℕ) (n : ℕ) → begin_by n ≡ 0 → whole_blocks j ≡ n → 512 ≤ length j
unfolding begin_by whole_blocks
some_block j zero e q = absurd (omega arith)
some_block j (suc n) e q = omega (arith, q)

begun_shows : (s : Sheet) {j k : List ℕ} → Begins j 0 k → Shows (lent s k) (desk s [])
unfolding begun left oldest
begun_shows s {j} b =
    let e : begin_by (whole_blocks j) ≡ 0 = sym b.answers in
    let front : left (begin_by (whole_blocks j)) (put_block 0 (block 255 0 []) j) j ≡ put_block 0 (block 255 0 []) j = rw e in
    let is = b.left ∙ front in
    record { sheet_is = refl; holds = subst (λ (x : List ℕ). Holds x []) (sym is) (begun_holds j (some_block j (whole_blocks j) e refl)) }

-- the feed of that file: it answers 0, gives the sheet t, and closes with 0
pub record Rebuilds (s t : Sheet) (file : List ℕ) : Type 0 where
  pub rebuilt : {p : List ℕ} {ps : List (List ℕ)} {w c : List ℕ} {answer : ℕ} {f : Fed} → joined (p ∷ ps) ≡ file → size_of_block ≤ length w
      → FeedsAll (p ∷ ps) (fed_of answer s w (0 ∷ 0 ∷ 0 ∷ 0 ∷ c)) f → (f.answer ≡ 0) × (f.sheet ≡ t) × Closes f.cells 0

fed_so : (s t : Sheet) (place : ℕ) (n w c : List ℕ) (file : List ℕ) → size_of_block ≤ length w → feed file (feed_of s 0 0 0 0 w) ≡ feed_of t place 0 0 2 n
    → fed_by (feed_fine w (0 ∷ 0 ∷ 0 ∷ 0 ∷ c)) file s w (0 ∷ 0 ∷ 0 ∷ 0 ∷ c) ≡ fed_of 0 t n (place ∷ 0 ∷ 0 ∷ 2 ∷ c)
unfolding fed_by feed_fine cells_fine
fed_so s t place n w c file h e = rw (le-leb size_of_block (length w) h, le-leb 4 (length (0 ∷ 0 ∷ 0 ∷ 0 ∷ c)) (omega arith)) (ap (λ (x : Feed). left_by x (0 ∷ 0 ∷ 0 ∷ 0 ∷ c)) e)

closes_so : (place : ℕ) (c : List ℕ) → closed_by (cells_fine (place ∷ 0 ∷ 0 ∷ 2 ∷ c)) (place ∷ 0 ∷ 0 ∷ 2 ∷ c) ≡ 0
unfolding closed_by cells_fine close_by unless_so
closes_so place c = rw (le-leb 4 (length (place ∷ 0 ∷ 0 ∷ 2 ∷ c)) (omega arith))

pub replay_rebuilds : {s : Sheet} {j k : List ℕ} {l : Lent} → Begins j 0 k → Calls (λ i. Unit) (lent s k) l → (es : List Entry) × (Holds l.journal es × Rebuilds s l.sheet (journal_file es))
replay_rebuilds {s} {j} {k} {l} b c =
    let g = since s (begun_shows s b) c in
    let d : Desk = g.at in
    let es : List Entry = oldest d.entries in (
      es,
      (
        g.shows.holds,
        record {
          rebuilt = λ {p} {ps} {w} {c} {answer} {f} e h a.
              let r = replay_theorem _ s {d = d} l.journal w g.moved g.shows.holds h (p ∷ ps) e in
              let whole : feed (journal_file es) (feed_of s 0 0 0 0 w) ≡ feed_of d.sheet _ 0 0 2 r.0 = ap (λ (x : List ℕ). feed x (feed_of s 0 0 0 0 w)) (sym e) ∙ sym (all_pieces (p ∷ ps) (feed_of s 0 0 0 0 w)) ∙ r.1 in
              let is : f ≡ fed_of 0 d.sheet r.0 (_ ∷ 0 ∷ 0 ∷ 2 ∷ c) = all_one a ∙ ap (λ (x : List ℕ). fed_by (feed_fine w (0 ∷ 0 ∷ 0 ∷ 0 ∷ c)) x s w (0 ∷ 0 ∷ 0 ∷ 0 ∷ c)) e ∙ fed_so s d.sheet _ r.0 w c (journal_file es) h whole in
              (ap (λ (x : Fed). x.answer) is, ap (λ (x : Fed). x.sheet) is ∙ sym g.shows.sheet_is, record { answers = sym (ap (λ (x : Fed). closed_by (cells_fine x.cells) x.cells) is ∙ closes_so _ c) });
        },
      ),
    )
