-- A sheet and its journal under edits and undos. Assumes nothing.
use mathlib.Core.Path.{◌≡◌, refl, sym, ap, ◌∙◌, subst}
use mathlib.Core.Bool.{true}
use mathlib.Core.List.{List, [], ◌∷◌, ◌++◌}
use Prim.Native.Nat.{ℕ, zero, suc, ◌≤◌}
use native.Mathlib.Omega.{arith}
use lib.Dec.{leb, ltb}
use lib.ListN.{length, length-append}
use lib.IntN.{ℤ, pos, negsuc}
use borrow.Author.Tests.{leb-true, leb-false, le-leb, eq-eqb}
use Rattle.doubles.proofs.Bools.{by_test}
use Rattle.sheet_rules.specs.Sheet.{Plan, Sheet}
use Rattle.sheet_rules.specs.Edit.{applied, uses_column, uses_row, edit_refusal, edit, old_number, old_mark}
use Rattle.sheet_rules.specs.Words.{Crossing, WouldCross, Sound}
use Rattle.sheet_rules.specs.declared.Edit.{Edit}
use Rattle.sheet_rules.proofs.Stays.{edited_uncrossed}
use Rattle.sheet_rules.proofs.Touched.{reader_reads}
use Rattle.file_journal_rules.specs.Undo.{back}
use Rattle.file_journal_rules.specs.declared.Entry.{Entry}
use Rattle.file_journal_rules.specs.Journal.{used, taken, tidy, entry_of, forth, take_back, same, reads, mark_after, Desk, desk, else, unless_so, left, keep_refusal, keep, take_refusal, undo_refusal, undo, feed_refusal}
use Rattle.file_journal_rules.proofs.Undo.{Passed, passed, accepts, leaves_applied, undo_accepted, undo_gives, undo_restores}
use Rattle.file_journal_rules.proofs.Unused.{tidied}

-- ---- an edit and its tidy form are accepted together, with one effect
module _ (s : Sheet) (e : Edit) (h : Passed s e) where
  column_kept : uses_column e.kind ≡ true → (tidy e).column ≡ e.column
  unfolding used
  column_kept u = rw u

  row_kept : uses_row e.kind ≡ true → (tidy e).row ≡ e.row
  unfolding used
  row_kept u = rw u

  number_kept : e.kind ≤ 7 → (tidy e).number ≡ e.number
  unfolding taken
  number_kept l = rw (le-leb e.kind 7 l)

  sound_tidy : (t : Sheet) → Sound e t → Sound (tidy e) t
  sound_tidy t o = record { arrays_in = o.arrays_in; column_in_holds = λ u. rw (column_kept u) (o.column_in_holds u); row_within = λ u. rw (row_kept u) (o.row_within u); kept_in = o.kept_in }

  cross_tidy : WouldCross s.plan (tidy e) → WouldCross s.plan e
  unfolding used taken
  cross_tidy (WouldCross.from_below k m l) = WouldCross.from_below k (rw k at m) (rw k at l)
  cross_tidy (WouldCross.from_above k m l) = WouldCross.from_above k (rw k at m) (rw k at l)

  passed_tidy : Passed s (tidy e)
  passed_tidy =
      let n = h.number in
      let x = h.placed.index in
      record {
        placed = record { today = record { first = h.placed.today.first; last = h.placed.today.last }; sized = h.placed.sized; index = record { column_in_holds = λ u. rw (column_kept u) (x.column_in_holds u); row_within = λ u. rw (row_kept u) (x.row_within u) } };
        number = record {
          amount_in = λ k. rw (number_kept (omega arith)) (n.amount_in k);
          cost_in = λ k. rw (number_kept (omega arith)) (n.cost_in k);
          lower_in = λ k. rw (number_kept (omega arith)) (n.lower_in k);
          upper_in = λ k. rw (number_kept (omega arith)) (n.upper_in k);
          right_in = λ k. rw (number_kept (omega arith)) (n.right_in k);
          coef_in = λ k. rw (number_kept (omega arith)) (n.coef_in k);
          mult_in = λ k. rw (number_kept (omega arith)) (n.mult_in k);
        };
        crosses_not = λ w. h.crosses_not (cross_tidy w);
        before = sound_tidy s h.before;
        after = subst (Sound (tidy e)) (sym (tidied s e h.placed.today.first h.placed.today.last)) (sound_tidy (applied s e) h.after);
      }

pub tidy_accepted : (s : Sheet) (e : Edit) → edit_refusal s e ≡ 0 → edit_refusal s (tidy e) ≡ 0
tidy_accepted s e w = accepts s (tidy e) (passed_tidy s e (passed s e w))

pub tidy_same : (s : Sheet) (e : Edit) → edit_refusal s e ≡ 0 → edit s (tidy e) ≡ edit s e
tidy_same s e w =
    let y = (passed s e w).placed.today in
    leaves_applied s (tidy e) (tidy_accepted s e w) ∙ tidied s e y.first y.last ∙ sym (leaves_applied s e w)

-- ---- the undo of a journaled edit: what is taken back is the edit back of its tidy form
pub taken_back : (s : Sheet) (e : Edit) → edit_refusal s e ≡ 0 → ¬ Crossing s.plan → (edit_refusal (edit s e) (take_back (entry_of s.plan e)) ≡ 0) × (edit (edit s e) (take_back (entry_of s.plan e)) ≡ s)
taken_back s e w free = (
  rw (tidy_same s e w) at (undo_accepted s (tidy e) (tidy_accepted s e w) free),
  rw (tidy_same s e w) at (undo_restores s (tidy e) (tidy_accepted s e w) free),
)

-- ---- the cell holds what the entry says
pub same_self : (z : ℤ) → same z z ≡ true
unfolding same
same_self (pos n) = rw (le-leb n n (omega arith))
same_self (negsuc n) = rw (le-leb n n (omega arith))

pub reads_so : (p : Plan) (e : Edit) (z : ℤ) (m : ℕ) → old_number p e ≡ z → old_mark p e ≡ m → reads p e z m ≡ true
unfolding reads
reads_so p e z m h f = rw (h, same_self z, eq-eqb _ _ f)

says_new : (s : Sheet) (e : Edit) → edit_refusal s e ≡ 0 → reads (edit s e).plan (tidy e) (tidy e).number (mark_after e.kind) ≡ true
unfolding used taken
says_new s e w =
    let r = reader_reads s (tidy e) (tidy_accepted s e w) in
    let is : edit s (tidy e) ≡ edit s e = tidy_same s e w in
    by_test (leb e.kind 7)
    (λ t. let g = r.0 (leb-true e.kind 7 t) in reads_so (edit s e).plan (tidy e) (tidy e).number (mark_after e.kind) (rw is at g.0) ((rw is at g.1) ∙ rw t))
    (λ t. let g = r.1 (leb-false e.kind 7 t) in reads_so (edit s e).plan (tidy e) (tidy e).number (mark_after e.kind) ((rw is at g.0) ∙ rw t) ((rw is at g.1) ∙ rw t))

-- a fed entry that was just written agrees: feeding it does what the edit did
pub feeds : (s : Sheet) (e : Edit) → edit_refusal s e ≡ 0 → (feed_refusal s (entry_of s.plan e) ≡ 0) × (edit s (forth (entry_of s.plan e)) ≡ edit s e)
unfolding feed_refusal else unless_so
feeds s e w = (rw (tidy_accepted s e w, reads_so s.plan (tidy e) (old_number s.plan (tidy e)) (old_mark s.plan (tidy e)) refl refl), tidy_same s e w)

-- ---- one undo
module _ (s : Sheet) (e : Edit) (es : List Entry) (w : edit_refusal s e ≡ 0) (free : ¬ Crossing s.plan) where
  abbrev after : Desk
  after = desk (edit s e) (entry_of s.plan e ∷ es)

  pub undo_answers : undo_refusal after ≡ 0
  unfolding undo_refusal take_refusal else unless_so
  undo_answers = rw ((taken_back s e w free).0, says_new s e w)

  pub undo_leaves : undo after ≡ desk s es
  unfolding undo left
  undo_leaves = rw undo_answers (ap (λ (t : Sheet). desk t es) (taken_back s e w free).1)

-- an undo that is answered with 0 gives the sheet before the edit, whatever crossed
pub taken_gives : (s : Sheet) (e : Edit) → edit_refusal s e ≡ 0 → edit_refusal (edit s e) (take_back (entry_of s.plan e)) ≡ 0 → edit (edit s e) (take_back (entry_of s.plan e)) ≡ s
taken_gives s e w v =
    let is = tidy_same s e w in
    let u : edit_refusal (edit s (tidy e)) (back s.plan (tidy e)) ≡ 0 = rw is v in
    rw is at (undo_gives s (tidy e) (tidy_accepted s e w) u)

-- ---- a sequence of journaled edits and undos above the entries that were there
pub data Moves (room : ℕ) (base : List Entry) (d₀ : Desk) : Desk → Type 0 where
  none : Moves room base d₀ d₀
  keeps : {d : Desk} → Moves room base d₀ d → (e : Edit) → Moves room base d₀ (keep room d e)
  undoes : {d : Desk} → Moves room base d₀ d → (n : Entry) (es : List Entry) → d.entries ≡ n ∷ (es ++ base) → Moves room base d₀ (undo d)

-- what stands above them: each entry's edit was accepted by the sheet below it
pub data Since (s : Sheet) : Sheet → List Entry → Type 0 where
  start : Since s s []
  more : {t : Sheet} {es : List Entry} → Since s t es → (e : Edit) → edit_refusal t e ≡ 0 → Since s (edit t e) (entry_of t.plan e ∷ es)

pub uncrossed_after : (t : Sheet) (e : Edit) → edit_refusal t e ≡ 0 → ¬ Crossing t.plan → ¬ Crossing (edit t e).plan
unfolding applied
uncrossed_after t e w h = let q = passed t e w in rw (leaves_applied t e w) (edited_uncrossed t e q.placed.sized q.placed.index q.crosses_not h)

pub uncrossed_since : {s t : Sheet} {es : List Entry} → ¬ Crossing s.plan → Since s t es → ¬ Crossing t.plan
uncrossed_since h start = h
uncrossed_since h (more {t} g e w) = uncrossed_after t e w (uncrossed_since h g)

pub record Stands (s : Sheet) (base : List Entry) (d : Desk) : Type 0 where
  pub later : List Entry
  pub entries_are : d.entries ≡ later ++ base
  pub since : Since s d.sheet later

stands_keep : (room : ℕ) (s : Sheet) (base : List Entry) (d : Desk) (e : Edit) → Stands s base d → Stands s base (keep room d e)
unfolding keep left keep_refusal else
stands_keep room s base d e h = at (edit_refusal d.sheet e) refl (unless_so 37 (ltb (length d.entries) room))
  where
    at : (k : ℕ) → edit_refusal d.sheet e ≡ k → (n : ℕ) → Stands s base (left (else k n) (desk (edit d.sheet e) (entry_of d.sheet.plan e ∷ d.entries)) d)
    at (suc k) w n = h
    at zero w (suc n) = h
    at zero w zero = record { later = entry_of d.sheet.plan e ∷ h.later; entries_are = ap (λ (l : List Entry). entry_of d.sheet.plan e ∷ l) h.entries_are; since = more h.since e w }

-- two ways to split a list whose end is known
no_shorter : (base : List Entry) (n : Entry) (es : List Entry) → base ≡ n ∷ (es ++ base) → ⊥
no_shorter base n es e = let g = ap length e in omega (arith, g, length-append es base)

stands_undo : (s : Sheet) (base : List Entry) (d : Desk) (n : Entry) (es : List Entry) → ¬ Crossing s.plan → d.entries ≡ n ∷ (es ++ base) → Stands s base d → Stands s base (undo d)
stands_undo s base d n es free e h = at d.sheet d.entries h.later h.since h.entries_are e
  where
    at : (t : Sheet) (l later : List Entry) → Since s t later → l ≡ later ++ base → l ≡ n ∷ (es ++ base) → Stands s base (undo (desk t l))
    at t l _ start q r = absurd (no_shorter base n es (sym q ∙ r))
    at _ l _ (more {t} {es = fs} g f w) q r = rw (q, undo_leaves t f (fs ++ base) w (uncrossed_since free g)) (record { later = fs; entries_are = refl; since = g })

pub stands : (room : ℕ) (s : Sheet) (base : List Entry) {d : Desk} → ¬ Crossing s.plan → Moves room base (desk s base) d → Stands s base d
stands room s base free none = record { later = []; entries_are = refl; since = start }
stands room s base free (keeps {d} m e) = stands_keep room s base d e (stands room s base free m)
stands room s base free (undoes {d} m n es q) = stands_undo s base d n es free q (stands room s base free m)

-- ---- 02: "Where no present bounds crossed before an edit, and sheet and journal were changed since by journaled edits and undos alone, the sheet after its
-- undo equals the sheet before it, and that undo is never refused"
none_later : (later base : List Entry) → base ≡ later ++ base → later ≡ []
none_later [] base e = refl
none_later (n ∷ es) base e = absurd (no_shorter base n es e)

since_none : {s t : Sheet} {es : List Entry} → Since s t es → es ≡ [] → t ≡ s
since_none start e = refl
since_none (more g f w) e = absurd (let z : ◌≡◌ {A = ℕ} 0 1 = sym (ap length e) ∙ cc in omega arith)

pub kept : (room : ℕ) (s : Sheet) (es : List Entry) (e : Edit) → keep_refusal room (desk s es) e ≡ 0 → (edit_refusal s e ≡ 0) × (keep room (desk s es) e ≡ desk (edit s e) (entry_of s.plan e ∷ es))
unfolding keep left keep_refusal else
kept room s es e w = (at (edit_refusal s e) w, rw w)
  where
    at : (k : ℕ) → else k (unless_so 37 (ltb (length es) room)) ≡ 0 → k ≡ 0
    at zero h = refl
    at (suc k) h = absurd (omega arith)

pub undo_theorem : (room : ℕ) (s : Sheet) (es : List Entry) (e : Edit) {d : Desk} → keep_refusal room (desk s es) e ≡ 0 → ¬ Crossing s.plan
    → Moves room (entry_of s.plan e ∷ es) (keep room (desk s es) e) d → d.entries ≡ entry_of s.plan e ∷ es
    → (undo_refusal d ≡ 0) × (undo d ≡ desk s es)
undo_theorem room s es e {d} w free m q =
    let k = kept room s es e w in
    let base : List Entry = entry_of s.plan e ∷ es in
    let h = stands room (edit s e) base (uncrossed_after s e k.0 free) (subst (λ (c : Desk). Moves room base c d) k.1 m) in
    let none_above : h.later ≡ [] = none_later h.later base (sym q ∙ h.entries_are) in
    let same : d.sheet ≡ edit s e = since_none h.since none_above in
    let is : d ≡ desk (edit s e) base = λ i. desk (same i) (q i) in
    rw is (undo_answers s e es k.0 free, undo_leaves s e es k.0 free)

-- ---- whatever crossed, and whatever the calls answered: what stands in the journal was accepted, one edit after the other
pub data Since-all (room : ℕ) (s : Sheet) : Desk → Type 0 where
  none : Since-all room s (desk s [])
  keeps : {d : Desk} → Since-all room s d → (e : Edit) → Since-all room s (keep room d e)
  undoes : {d : Desk} → Since-all room s d → Since-all room s (undo d)

since_undo : (s : Sheet) {t : Sheet} {es : List Entry} → Since s t es → Since s (undo (desk t es)).sheet (undo (desk t es)).entries
unfolding undo left undo_refusal take_refusal else
since_undo s start = start
since_undo s (more {t} {es} g e w) = at (edit_refusal (edit t e) (take_back n)) refl (unless_so 36 (reads (edit t e).plan (forth n) n.new (mark_after n.kind)))
  where
    n : Entry
    n = entry_of t.plan e

    at : (k : ℕ) → edit_refusal (edit t e) (take_back n) ≡ k → (m : ℕ)
        → Since s (left (else k m) (desk (edit (edit t e) (take_back n)) es) (desk (edit t e) (n ∷ es))).sheet (left (else k m) (desk (edit (edit t e) (take_back n)) es) (desk (edit t e) (n ∷ es))).entries
    at (suc k) v m = more g e w
    at zero v (suc m) = more g e w
    at zero v zero = rw (taken_gives t e w v) g

since_keep : (room : ℕ) (s : Sheet) {t : Sheet} {es : List Entry} (e : Edit) → Since s t es → Since s (keep room (desk t es) e).sheet (keep room (desk t es) e).entries
unfolding keep left keep_refusal else
since_keep room s {t} {es} e g = at (edit_refusal t e) refl (unless_so 37 (ltb (length es) room))
  where
    at : (k : ℕ) → edit_refusal t e ≡ k → (n : ℕ)
        → Since s (left (else k n) (desk (edit t e) (entry_of t.plan e ∷ es)) (desk t es)).sheet (left (else k n) (desk (edit t e) (entry_of t.plan e ∷ es)) (desk t es)).entries
    at (suc k) w n = g
    at zero w (suc n) = g
    at zero w zero = more g e w

pub since_all : (room : ℕ) (s : Sheet) {d : Desk} → Since-all room s d → Since s d.sheet d.entries
since_all room s none = start
since_all room s (keeps {d} h e) = since_keep room s e (since_all room s h)
since_all room s (undoes {d} h) = since_undo s (since_all room s h)
