-- Demand 3 over one sequence of openings, edits, journaled edits, undos and feeds. Assumes nothing.
use mathlib.Core.Path.{refl, sym, subst}
use mathlib.Core.Bool.{Bool, true, false}
use mathlib.Core.List.{List, [], ◌∷◌}
use Prim.Native.Nat.{ℕ, zero, suc}
use lib.ListN.{take, drop}
use Rattle.doubles.specs.Loop.{each}
use Rattle.doubles.specs.Lists.{◌#◌}
use Rattle.file_rules.specs.Block.{size_of_block}
use Rattle.sheet_rules.specs.Sheet.{Sheet}
use Rattle.sheet_rules.specs.Edit.{edit_refusal, edit}
use Rattle.sheet_rules.specs.Meaning.{Demand3}
use Rattle.sheet_rules.specs.Meaning as Base
use Rattle.sheet_rules.specs.declared.Edit.{Edit}
use Rattle.sheet_rules.proofs.Meaning.{demand_3}
use Rattle.file_journal_rules.specs.Journal.{forth, left, feed_refusal}
use Rattle.file_journal_rules.specs.File.{entries_from}
use Rattle.file_journal_rules.specs.Lent.{Lent, kept, undone, keeps_refusal, undoes_refusal}
use Rattle.file_journal_rules.specs.Feed.{Feed, apply_by, fed_entry, go_on_with, apply_all, after_block, take_block, take_whole, feed_by, feed_byte, feed, feed_fine, feed_from, Fed, fed_by}
use Rattle.file_journal_rules.specs.Meaning.{Called}
use Rattle.file_journal_rules.specs.declared.Entry.{Entry}

-- any edit of such a sheet leaves such a sheet
edits : {s : Sheet} (e : Edit) → Base.Called s → Base.Called (edit s e)
edits {s} e h = Base.Called.edited e (edit_refusal s e) h (record { answers = refl; left = refl })

by_left : (n : ℕ) (a b : Lent) → Base.Called a.sheet → Base.Called b.sheet → Base.Called (left n a b).sheet
unfolding left
by_left zero a b h g = h
by_left (suc n) a b h g = g

-- ---- a feed
by_answer : {s t : Sheet} (k : ℕ) → Base.Called t → Base.Called s → Base.Called (apply_by k t s).1
unfolding apply_by
by_answer zero h g = h
by_answer (suc k) h g = g

go_on : (k : ℕ) (t : Sheet) (f : Sheet → ℕ × Sheet) → ((u : Sheet) → Base.Called u → Base.Called (f u).1) → Base.Called t → Base.Called (go_on_with k t f).1
unfolding go_on_with
go_on zero t f h g = h t g
go_on (suc k) t f h g = g

entry_called : {s : Sheet} (n : Entry) → Base.Called s → Base.Called (fed_entry s n).1
unfolding fed_entry
entry_called {s} n h = by_answer (feed_refusal s n) (edits (forth n) h) h

all_called : (es : List Entry) {s : Sheet} → Base.Called s → Base.Called (apply_all es s).1
unfolding apply_all
all_called [] h = h
all_called (n ∷ es) {s} h = go_on (fed_entry s n).0 (fed_entry s n).1 (λ t. apply_all es t) (λ t g. all_called es g) (entry_called n h)

after_called : (k : ℕ) (end : Bool) (f : Feed) (b : List ℕ) → Base.Called f.sheet → Base.Called (after_block k end f b).sheet
unfolding after_block
after_called (suc k) end f b h = h
after_called zero true f b h = h
after_called zero false f b h = all_called (entries_from (b # 3) (drop 4 b)) h

whole_called : (t : Bool) (f : Feed) → Base.Called f.sheet → Base.Called (take_whole t f).sheet
unfolding take_whole take_block
whole_called true f h = after_called _ _ f (take size_of_block f.memory) h
whole_called false f h = h

byte_called : (r x : ℕ) (f : Feed) → Base.Called f.sheet → Base.Called (feed_by r x f).sheet
unfolding feed_by
byte_called (suc r) x f h = h
byte_called zero x f h = whole_called _ _ h

feed_called : (bs : List ℕ) (f : Feed) → Base.Called f.sheet → Base.Called (feed bs f).sheet
unfolding each
feed_called [] f h = h
feed_called (x ∷ bs) f h = feed_called bs (feed_byte x f) (byte_called f.refusal x f h)

fed_called : (t : Bool) (p : List ℕ) {s : Sheet} (w c : List ℕ) → Base.Called s → Base.Called (fed_by t p s w c).sheet
unfolding fed_by
fed_called false p w c h = h
fed_called true p {s} w c h = feed_called p (feed_from s w c) h

-- ---- the sequence
called : {s : Sheet} → Called s → Base.Called s
unfolding kept undone
called (Called.opened o) = Base.Called.opened o
called (Called.edited e n h d) = Base.Called.edited e n (called h) d
called (Called.reopened n h o) = Base.Called.reopened n (called h) o
called (Called.journaled l e n h k) = subst (λ (m : Lent). Base.Called m.sheet) (sym k.left) (by_left (keeps_refusal l e) _ l (edits e (called h)) (called h))
called (Called.undone l n h k) = subst (λ (m : Lent). Base.Called m.sheet) (sym k.left) (by_left (undoes_refusal l) _ l (edits _ (called h)) (called h))
called (Called.fed p w c h k) = subst (λ (f : Fed). Base.Called f.sheet) (sym k.left) (fed_called (feed_fine w c) p w c (called h))

pub demand_3_journal : {s : Sheet} → Called s → Demand3 s
demand_3_journal h = demand_3 (called h)
