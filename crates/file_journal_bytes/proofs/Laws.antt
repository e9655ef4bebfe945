-- Entries in a block's bytes, and the tests of a block. Assumes nothing.
use mathlib.Core.Path.{◌≡◌, refl, sym, ap, ap₂, ◌∙◌}
use mathlib.Core.Bool.{Bool, true, false, ◌&&◌}
use mathlib.Core.List.{List, [], ◌∷◌, ◌++◌}
use Prim.Native.Nat.{ℕ, suc, ◌+◌, ◌-◌, ◌*◌, ◌<◌, ◌≤◌}
use native.Mathlib.Nat.{add-zero, sub-zero}
use native.Mathlib.Omega.{arith}
use lib.Dec.{leb, eqb}
use lib.ListN.{length, take, drop, set, length-set}
use lib.Seq.{get_or-drop, drop-drop, sets, length-sets}
use borrow.Author.Tests.{le-leb, leb-true, eqb-true}
use Rattle.doubles.specs.Lists.{◌#◌}
use Rattle.doubles.proofs.Loops.{both_true}
use Rattle.doubles.proofs.Bools.{by_test}
use Rattle.sheet_rules.specs.Opening.{first_failed}
use Rattle.file_rules.specs.Bytes.{little, value, word_of, number_of}
use Rattle.file_rules.specs.Block.{size_of_block, weighed, Slot, slot, is_whole, blank, checks, stands, rest}
use Rattle.file_rules.proofs.Bytes.{little_length}
use Rattle.file_block.proofs.Laws.{rest_is}
use Rattle.file_journal_rules.specs.File.{journal_kind, entry_bytes, entry_from, entries_from, clean, all_clean, per_block, ends, slot_kind, used_by, slot_used, journal_slot, slot_refusal, journal_refusal}
use Rattle.file_journal_rules.specs.declared.Entry.{Entry}

-- ---- an entry read
pub entry_is : (b : List ℕ) (at : ℕ) (n : Entry)
    → n.kind ≡ b # at → n.row ≡ value (take 2 (drop (at + 1) b)) → n.column ≡ value (take 2 (drop (at + 3) b))
    → n.old ≡ number_of (value (take 8 (drop (at + 5) b))) → n.new ≡ number_of (value (take 8 (drop (at + 13) b))) → n.before ≡ b # (at + 21)
    → n ≡ entry_from (drop at b)
unfolding entry_from
entry_is b at n ek er ec eo en eb =
    let first : drop at b # 0 ≡ b # at = get_or-drop at b 0 0 ∙ ap (λ (j : ℕ). b # j) (add-zero at) in
    λ i. record {
      kind = (ek ∙ sym first) i;
      row = (er ∙ ap (λ (l : List ℕ). value (take 2 l)) (sym (drop-drop 1 at b))) i;
      column = (ec ∙ ap (λ (l : List ℕ). value (take 2 l)) (sym (drop-drop 3 at b))) i;
      old = (eo ∙ ap (λ (l : List ℕ). number_of (value (take 8 l))) (sym (drop-drop 5 at b))) i;
      new = (en ∙ ap (λ (l : List ℕ). number_of (value (take 8 l))) (sym (drop-drop 13 at b))) i;
      before = (eb ∙ sym (get_or-drop at b 21 0)) i;
    }

pub place_is : (b : List ℕ) → 3 ≤ length b → b # 1 + 256 * b # 2 ≡ value (take 2 (drop 1 b))
unfolding value
place_is [] h = absurd (omega arith)
place_is (x ∷ []) h = absurd (omega arith)
place_is (x ∷ y ∷ []) h = absurd (omega arith)
place_is (x ∷ y ∷ z ∷ r) h = omega arith

-- ---- an entry written: its bytes, part by part
sets_append : (l : List ℕ) (i : ℕ) (a b : List ℕ) (j : ℕ) → i + length a ≡ j → sets l i (a ++ b) ≡ sets (sets l i a) j b
sets_append l i [] b j e = let q : i ≡ j = sym (add-zero i) ∙ e in rw q
sets_append l i (x ∷ a) b j e = sets_append (set l i x) (suc i) a b j (omega arith)

module _ (out : List ℕ) (at : ℕ) (n : Entry) where
  abbrev pub with_kind : List ℕ
  with_kind = set out at n.kind

  abbrev pub with_row : List ℕ
  with_row = sets with_kind (at + 1) (little 2 n.row)

  abbrev pub with_column_holds : List ℕ
  with_column_holds = sets with_row (at + 3) (little 2 n.column)

  abbrev pub with_old : List ℕ
  with_old = sets with_column_holds (at + 5) (little 8 (word_of n.old))

  abbrev pub with_new : List ℕ
  with_new = sets with_old (at + 13) (little 8 (word_of n.new))

  pub kind_long : length with_kind ≡ length out
  kind_long = length-set out at n.kind

  pub row_long : length with_row ≡ length out
  row_long = length-sets with_kind (at + 1) (little 2 n.row) ∙ kind_long

  pub column_long : length with_column_holds ≡ length out
  column_long = length-sets with_row (at + 3) (little 2 n.column) ∙ row_long

  pub old_long : length with_old ≡ length out
  old_long = length-sets with_column_holds (at + 5) (little 8 (word_of n.old)) ∙ column_long

  pub new_long : length with_new ≡ length out
  new_long = length-sets with_old (at + 13) (little 8 (word_of n.new)) ∙ old_long

  part : (l : List ℕ) (i k w : ℕ) (b : List ℕ) (j : ℕ) → i + k ≡ j → sets l i (little k w ++ b) ≡ sets (sets l i (little k w)) j b
  part l i k w b j e = sets_append l i (little k w) b j (ap (λ (m : ℕ). i + m) (little_length k w) ∙ e)

  pub put_is : set with_new (at + 21) n.before ≡ sets out at (entry_bytes n)
  unfolding entry_bytes
  put_is =
      let e : at + 1 ≡ suc at = omega arith in
      let tail : List ℕ = n.before ∷ [] in
      let c : List ℕ = little 8 (word_of n.new) ++ tail in
      let b : List ℕ = little 8 (word_of n.old) ++ c in
      let a : List ℕ = little 2 n.column ++ b in
      sym (ap (λ (i : ℕ). sets with_kind i (little 2 n.row ++ a)) (sym e)
      ∙ part with_kind (at + 1) 2 n.row a (at + 3) (omega arith)
      ∙ part with_row (at + 3) 2 n.column b (at + 5) (omega arith)
      ∙ part with_column_holds (at + 5) 8 (word_of n.old) c (at + 13) (omega arith)
      ∙ part with_old (at + 13) 8 (word_of n.new) tail (at + 21) (omega arith))

-- ---- clean entries, one after the other
pub clean_next : (b : List ℕ) (count k : ℕ) → k < count
    → all_clean (entries_from (count - k) (drop (4 + 22 * k) b)) ≡ (clean (entry_from (drop (4 + 22 * k) b)) && all_clean (entries_from (count - (k + 1)) (drop (4 + 22 * (k + 1)) b)))
unfolding all_clean entries_from
clean_next b count k h =
    let e : count - k ≡ suc (count - (k + 1)) = omega arith in
    let p : 4 + 22 * (k + 1) ≡ 4 + 22 * k + 22 = omega arith in
    rw (e, p, drop-drop 22 (4 + 22 * k) b)

pub clean_start : (b : List ℕ) (count : ℕ) → all_clean (entries_from (count - 0) (drop 4 b)) ≡ all_clean (entries_from count (drop 4 b))
clean_start b count = rw sub-zero

pub clean_none : (b : List ℕ) (count k : ℕ) → count ≤ k → all_clean (entries_from (count - k) (drop (4 + 22 * k) b)) ≡ true
unfolding all_clean entries_from
clean_none b count k h = let e : count - k ≡ 0 = omega arith in rw e

pub clean_not : (b : List ℕ) (count k : ℕ) → k < count → clean (entry_from (drop (4 + 22 * k) b)) ≡ false → all_clean (entries_from (count - k) (drop (4 + 22 * k) b)) ≡ false
clean_not b count k h f = clean_next b count k h ∙ rw f

pub clean_so : (b : List ℕ) (count k : ℕ) → k < count → clean (entry_from (drop (4 + 22 * k) b)) ≡ true
    → all_clean (entries_from (count - k) (drop (4 + 22 * k) b)) ≡ all_clean (entries_from (count - (k + 1)) (drop (4 + 22 * (k + 1)) b))
clean_so b count k h f = clean_next b count k h ∙ rw f

-- ---- where the unused bytes are 0 the count is one
first_blank : (b : List ℕ) → 4 ≤ length b → blank (drop 3 (take weighed b)) ≡ true → b # 3 ≡ 0
unfolding blank
first_blank [] h z = absurd (omega arith)
first_blank (x ∷ []) h z = absurd (omega arith)
first_blank (x ∷ y ∷ []) h z = absurd (omega arith)
first_blank (x ∷ y ∷ w ∷ []) h z = absurd (omega arith)
first_blank (x ∷ y ∷ w ∷ v ∷ r) h z = eqb-true v 0 (both_true (eqb v 0) (blank (take 504 r)) z).0

none_used : (end : Bool) (c : ℕ) → used_by end false c ≡ 0
unfolding used_by
none_used true c = refl
none_used false c = refl

pub counted : (b : List ℕ) (end : Bool) (used : ℕ) → length b ≡ size_of_block → used ≡ slot_used end (b # 3) → blank (drop (used + 3) (take weighed b)) ≡ true → b # 3 ≤ 22
counted b end used l e z =
    by_test (leb (b # 3) per_block) (leb-true (b # 3) per_block)
    (λ t.
    let u : used ≡ 0 = e ∙ (rw t (none_used end (b # 3))) in
    let y : blank (drop 3 (take weighed b)) ≡ true = rw u at z in
    omega (arith, first_blank b (omega arith) y))

-- ---- each answer on a block
module _ (only : Bool) (place : ℕ) (b : List ℕ) (l : length b ≡ size_of_block) where
  whole : leb size_of_block (length b) ≡ true
  whole = le-leb size_of_block (length b) (omega arith)

  pub says_31 : journal_kind (b # 0) ≡ false → 31 ≡ journal_refusal only place b
  unfolding journal_refusal first_failed
  says_31 k = rw (whole, k)

  pub says_32 : journal_kind (b # 0) ≡ true → checks b ≡ false → 32 ≡ journal_refusal only place b
  unfolding journal_refusal first_failed
  says_32 k c = rw (whole, k, c)

  module _ (kind used : ℕ) (ek : kind ≡ slot_kind (ends only b)) (eu : used ≡ slot_used (ends only b) (b # 3)) (k : journal_kind (b # 0) ≡ true) (c : checks b ≡ true) where
    as_slot : slot_refusal (slot kind used) place b ≡ journal_refusal only place b
    unfolding journal_refusal
    as_slot = ap₂ (λ (x y : ℕ). slot_refusal (slot x y) place b) ek eu

    pub says_33 : stands (slot kind used) place b ≡ false → 33 ≡ journal_refusal only place b
    unfolding first_failed
    says_33 p = (rw (whole, k, c, p)) ∙ as_slot

    pub says_34 : stands (slot kind used) place b ≡ true → blank (drop (used + 3) (take weighed b)) ≡ false → 34 ≡ journal_refusal only place b
    unfolding first_failed
    says_34 p z = let r : blank (rest (slot kind used) b) ≡ false = ap blank (sym (rest_is kind used b)) ∙ z in (rw (whole, k, c, p, r)) ∙ as_slot

    pub says_rest : stands (slot kind used) place b ≡ true → blank (drop (used + 3) (take weighed b)) ≡ true → (y : Bool) → all_clean (entries_from (b # 3) (drop 4 b)) ≡ y → elim y [ true ↦ 0 | false ↦ 34 ] ≡ journal_refusal only place b
    unfolding first_failed
    says_rest p z true y = let r : blank (rest (slot kind used) b) ≡ true = ap blank (sym (rest_is kind used b)) ∙ z in (rw (whole, k, c, p, r, y)) ∙ as_slot
    says_rest p z false y = let r : blank (rest (slot kind used) b) ≡ true = ap blank (sym (rest_is kind used b)) ∙ z in (rw (whole, k, c, p, r, y)) ∙ as_slot

-- ---- an accepted block has passed each test: its place is its own, and it has at most 22 entries
module _ (only : Bool) (place : ℕ) (b : List ℕ) where
  abbrev S : Slot
  S = journal_slot (ends only b) b

  abbrev unused : Bool
  unused = blank (rest S b) && all_clean (entries_from (b # 3) (drop 4 b))

  passed : journal_refusal only place b ≡ 0 → (is_whole b ≡ true) × (stands S place b ≡ true) × (unused ≡ true)
  unfolding journal_refusal first_failed
  passed h =
      by_test (is_whole b) (λ a.
      by_test (journal_kind (b # 0)) (λ k.
      by_test (checks b) (λ c.
      by_test (stands S place b) (λ p.
      by_test unused
      (λ z. (a, p, z))
      (λ z. absurd (some (rw (a, k, c, p, z) at h))))
      (λ z. absurd (some (rw (a, k, c, z) at h))))
      (λ z. absurd (some (rw (a, k, z) at h))))
      (λ z. absurd (some (rw (a, z) at h))))
      (λ z. absurd (some (rw z at h)))
    where
      some : {n : ℕ} → suc n ≡ 0 → ⊥
      some e = omega arith

  pub few_entries : length b ≤ 512 → journal_refusal only place b ≡ 0 → b # 3 ≤ 22
  few_entries l h =
      let p = passed h in
      let z = ap blank (rest_is (slot_kind (ends only b)) (slot_used (ends only b) (b # 3)) b) ∙ (both_true (blank (rest S b)) _ p.2).0 in
      counted b (ends only b) (slot_used (ends only b) (b # 3)) (omega (arith, leb-true 512 (length b) p.0)) refl z

  pub place_so : journal_refusal only place b ≡ 0 → value (take 2 (drop 1 b)) ≡ place
  place_so h = eqb-true (value (take 2 (drop 1 b))) place (both_true (eqb (b # 0) S.kind) _ (passed h).1).1
