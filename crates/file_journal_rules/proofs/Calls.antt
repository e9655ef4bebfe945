-- The calls on lent bytes are those on a desk, and what a sequence of them leaves. Assumes nothing.
use mathlib.Core.Path.{◌≡◌, refl, sym, ap, ◌∙◌, subst}
use mathlib.Core.Bool.{Bool, true, false}
use mathlib.Core.List.{List, [], ◌∷◌, ◌++◌}
use Prim.Native.Nat.{ℕ, zero, suc, ◌+◌, ◌-◌, ◌/◌, ◌≤◌}
use native.Mathlib.Omega.{arith}
use lib.Dec.{ltb}
use lib.ListN.{length, length-append}
use borrow.Author.Tests.{ltb-true}
use Rattle.doubles.specs.Loop.{each}
use Rattle.sheet_rules.specs.Sheet.{Sheet}
use Rattle.sheet_rules.specs.Edit.{edit_refusal, edit}
use Rattle.sheet_rules.specs.Words.{Crossing}
use Rattle.sheet_rules.specs.declared.Edit.{Edit}
use Rattle.file_rules.specs.Block.{size_of_block}
use Rattle.file_journal_rules.specs.Journal.{entry_of, take_back, Desk, desk, else, unless_so, left, keep_refusal, keep, take_refusal, undo_refusal, undo}
use Rattle.file_journal_rules.specs.File.{journal_file}
use Rattle.file_journal_rules.specs.Lent.{Lent, lent, tested_of, whole_blocks, tested, room_of, entry_at, pushed, popped, keeps_refusal, kept, last_refusal, undoes_refusal, undone}
use Rattle.file_journal_rules.specs.Feed.{feed_of, feed}
use Rattle.file_journal_rules.specs.declared.Entry.{Entry}
use Rattle.file_journal_rules.specs.declared.Tested.{Tested}
use Rattle.file_journal_rules.proofs.Journal.{Moves, Since, start, more, Since-all, since_all, undo_theorem}
use Rattle.file_journal_rules.proofs.Feed.{joined}
use Rattle.file_journal_rules.proofs.Replay.{Recorded, done, next, entry_fits, journal_theorem}
use Rattle.file_journal_rules.proofs.Lent.{Holds, pushed_holds, popped_holds, last_entry, tested_holds, pushed_length, popped_length}

-- a desk's entries, the oldest first
unfoldable pub oldest : List Entry → List Entry
oldest [] = []
oldest (n ∷ es) = oldest es ++ (n ∷ [])

pub oldest_length : (es : List Entry) → length (oldest es) ≡ length es
unfolding oldest
oldest_length [] = refl
oldest_length (n ∷ es) = omega (arith, length-append (oldest es) (n ∷ []), oldest_length es)

-- the lent bytes hold the desk's entries
pub record Shows (l : Lent) (d : Desk) : Type 0 where
  pub sheet_is : l.sheet ≡ d.sheet
  pub holds : Holds l.journal (oldest d.entries)

module _ (s : Sheet) (j : List ℕ) where
  -- ---- an edit with a journal
  module _ (es : List Entry) (h : Holds j (oldest es)) (e : Edit) where
    count_is : tested j ≡ tested_of 0 (length es)
    count_is = tested_holds j (oldest es) h ∙ ap (tested_of 0) (oldest_length es)

    pub keeps_same : keeps_refusal (lent s j) e ≡ keep_refusal (room_of j) (desk s es) e
    unfolding keeps_refusal keep_refusal else
    keeps_same = ap (λ (t : Tested). else t.refusal (else (edit_refusal s e) (unless_so 37 (ltb t.entries (room_of j))))) count_is

    zero_else : (a b : ℕ) → else a b ≡ 0 → (a ≡ 0) × (b ≡ 0)
    unfolding else
    zero_else zero b w = (refl, w)
    zero_else (suc a) b w = absurd (omega arith)

    zero_so : (n : ℕ) (t : Bool) → unless_so (suc n) t ≡ 0 → t ≡ true
    unfolding unless_so
    zero_so n true w = refl
    zero_so n false w = absurd (omega arith)

    pushed_shows : keep_refusal (room_of j) (desk s es) e ≡ 0 → Holds (pushed (tested j).entries (entry_of s.plan e) j) (oldest (entry_of s.plan e ∷ es))
    unfolding keep_refusal oldest
    pushed_shows w =
        let z = zero_else (edit_refusal s e) _ w in
        let free = ltb-true (length es) (room_of j) (zero_so 36 _ z.1) in
        let n : (tested j).entries ≡ length (oldest es) = ap (λ (t : Tested). t.entries) count_is ∙ sym (oldest_length es) in
        subst (λ (k : ℕ). Holds (pushed k (entry_of s.plan e) j) (oldest es ++ (entry_of s.plan e ∷ []))) (sym n) (pushed_holds j (oldest es) (entry_of s.plan e) h (entry_fits s e z.0) (omega (arith, oldest_length es)))

    pub keeps_shows : Shows (kept (lent s j) e) (keep (room_of j) (desk s es) e)
    unfolding kept keep left
    keeps_shows = rw keeps_same (at (keep_refusal (room_of j) (desk s es) e) refl)
      where
        at : (n : ℕ) → keep_refusal (room_of j) (desk s es) e ≡ n
            → Shows (left n (lent (edit s e) (pushed (tested j).entries (entry_of s.plan e) j)) (lent s j)) (left n (desk (edit s e) (entry_of s.plan e ∷ es)) (desk s es))
        at zero w = record { sheet_is = refl; holds = pushed_shows w }
        at (suc n) w = record { sheet_is = refl; holds = h }

  -- ---- an undo
  pub undoes_none : Holds j [] → (undoes_refusal (lent s j) ≡ undo_refusal (desk s [])) × Shows (undone (lent s j)) (undo (desk s []))
  unfolding undoes_refusal undo_refusal last_refusal else undone undo left oldest
  undoes_none h =
      let t = tested_holds j [] h in
      let r : undoes_refusal (lent s j) ≡ 35 = ap (λ (x : Tested). else x.refusal (last_refusal x.entries (lent s j))) t in
      (r, rw r (record { sheet_is = refl; holds = h }))

  module _ (n : Entry) (es : List Entry) (h : Holds j (oldest es ++ (n ∷ []))) where
    count_more : tested j ≡ tested_of 0 (suc (length (oldest es)))
    count_more = tested_holds j (oldest es ++ (n ∷ [])) h ∙ ap (tested_of 0) (let e : length (oldest es ++ (n ∷ [])) ≡ suc (length (oldest es)) = omega (arith, length-append (oldest es) (n ∷ [])) in e)

    pub undoes_same : undoes_refusal (lent s j) ≡ undo_refusal (desk s (n ∷ es))
    unfolding undoes_refusal undo_refusal last_refusal else
    undoes_same = ap (λ (x : Tested). else x.refusal (last_refusal x.entries (lent s j))) count_more ∙ ap (take_refusal s) (last_entry j (oldest es) n h)

    pub undoes_shows : Shows (undone (lent s j)) (undo (desk s (n ∷ es)))
    unfolding undone undo left oldest
    undoes_shows = rw undoes_same (at (undo_refusal (desk s (n ∷ es))))
      where
        m : (tested j).entries - 1 ≡ length (oldest es)
        m = ap (λ (x : Tested). x.entries - 1) count_more ∙ (let e : suc (length (oldest es)) - 1 ≡ length (oldest es) = omega arith in e)

        at : (r : ℕ) → Shows (left r (lent (edit s (take_back (entry_at ((tested j).entries - 1) j))) (popped ((tested j).entries - 1) j)) (lent s j)) (left r (desk (edit s (take_back n)) es) (desk s (n ∷ es)))
        at zero = rw m (record { sheet_is = ap (λ (x : Entry). edit s (take_back x)) (last_entry j (oldest es) n h); holds = popped_holds j (oldest es) n h })
        at (suc r) = record { sheet_is = refl; holds = h }

-- ---- 02: "the sheet after its undo equals the sheet before it, and that undo is never refused": of any lent bytes that show the desk
pub lent_undo : (room : ℕ) (s : Sheet) (es : List Entry) (e : Edit) {d : Desk} (j : List ℕ) → keep_refusal room (desk s es) e ≡ 0 → ¬ Crossing s.plan
    → Moves room (entry_of s.plan e ∷ es) (keep room (desk s es) e) d → d.entries ≡ entry_of s.plan e ∷ es → Holds j (oldest (entry_of s.plan e ∷ es))
    → (undoes_refusal (lent d.sheet j) ≡ 0) × Shows (undone (lent d.sheet j)) (desk s es)
unfolding oldest
lent_undo room s es e {d} j w free m q h =
    let u = undo_theorem room s es e w free m q in
    let is : d ≡ desk d.sheet (entry_of s.plan e ∷ es) = λ i. desk d.sheet (q i) in (
      undoes_same d.sheet j (entry_of s.plan e) es h ∙ ap undo_refusal (sym is) ∙ u.0,
      subst (Shows (undone (lent d.sheet j))) (ap undo (sym is) ∙ u.1) (undoes_shows d.sheet j (entry_of s.plan e) es h),
    )

-- ---- feeding the journal that edits and undos wrote, on the sheet they began with, gives the sheet they left
recorded_more : {s t : Sheet} {es : List Entry} → Recorded s es t → (e : Edit) → edit_refusal t e ≡ 0 → Recorded s (es ++ (entry_of t.plan e ∷ [])) (edit t e)
recorded_more done e w = next e w done
recorded_more (next f v g) e w = next f v (recorded_more g e w)

pub since_recorded : {s t : Sheet} {es : List Entry} → Since s t es → Recorded s (oldest es) t
unfolding oldest
since_recorded start = done
since_recorded (more g e w) = recorded_more (since_recorded g) e w

pub replay_theorem : (room : ℕ) (s : Sheet) {d : Desk} (j m : List ℕ) → Since-all room s d → Holds j (oldest d.entries) → size_of_block ≤ length m → (ps : List (List ℕ)) → joined ps ≡ journal_file (oldest d.entries)
    → (n : List ℕ) × (each ps feed (feed_of s 0 0 0 0 m) ≡ feed_of d.sheet (suc ((length (oldest d.entries) + 21) / 22)) 0 0 2 n)
replay_theorem room s j m g h long ps e = journal_theorem m long (since_recorded (since_all room s g)) h.few ps e

-- ---- the lent bytes stay as many, and so does their room
left_length : (n : ℕ) (a b : Lent) → length a.journal ≡ length b.journal → length (left n a b).journal ≡ length b.journal
unfolding left
left_length zero a b e = e
left_length (suc n) a b e = refl

same_room : (a b : List ℕ) → length a ≡ length b → room_of a ≡ room_of b
unfolding room_of whole_blocks
same_room a b e = rw e

pub room_kept : (l : Lent) (e : Edit) → room_of (kept l e).journal ≡ room_of l.journal
unfolding kept
room_kept l e = same_room _ _ (left_length (keeps_refusal l e) _ l (pushed_length (tested l.journal).entries (entry_of l.sheet.plan e) l.journal))

pub room_undone : (l : Lent) → room_of (undone l).journal ≡ room_of l.journal
unfolding undone
room_undone l = same_room _ _ (left_length (undoes_refusal l) _ l (popped_length ((tested l.journal).entries - 1) l.journal))
