-- What the journal's calls ask and leave, by their answers. Assumes nothing.
use mathlib.Core.Path.{◌≡◌, refl, sym, ap, ap₂, ◌∙◌, subst}
use mathlib.Core.Bool.{Bool, true, false}
use mathlib.Core.List.{List}
use Prim.Native.Nat.{ℕ, zero, suc, ◌+◌, ◌-◌, ◌*◌, ◌/◌, ◌≤◌, ◌<◌}
use native.Mathlib.Omega.{arith}
use lib.Dec.{ltb, eqb}
use lib.ListN.{length, take, drop, length-take}
use lib.IntN.{ℤ}
use borrow.Author.Tests.{ltb-true, lt-ltb, le-ltb}
use Rattle.doubles.specs.Lists.{◌#◌}
use Rattle.sheet_rules.specs.Sheet.{Sheet}
use Rattle.sheet_rules.specs.Edit.{applied, edit_refusal, edit}
use Rattle.sheet_rules.specs.declared.Edit.{Edit}
use Rattle.file_journal_rules.specs.Journal.{entry_of, take_back, else, unless_so, left, take_refusal}
use Rattle.file_journal_rules.specs.File.{journal_refusal}
use Rattle.file_journal_rules.specs.Lent.{Lent, lent, test_by, test, whole_blocks, tested, room_of, entry_at, pushed, popped, keeps_refusal, kept, last_refusal, undoes_refusal, undone}
use Rattle.file_journal_rules.specs.Promises.{Keeps, Undoes}
use Rattle.file_journal_rules.specs.declared.Entry.{Entry}
use Rattle.file_journal_rules.specs.declared.Tested.{Tested}
use Rattle.file_journal_rules.proofs.Undo.{leaves_applied}
use Rattle.file_journal_rules.proofs.Replay.{entry_fits}
use Rattle.file_journal_bytes.proofs.Laws.{few_entries}
use Rattle.file_journal_walk.proofs.Laws.{whole_in}

-- ---- the last entry of a journal that passed its test is there
test_in : (k place n : ℕ) (j : List ℕ) → n ≤ 22 * place → (test k place n j).refusal ≡ 0 → (test k place n j).entries + 22 ≤ 22 * (place + k)
unfolding test test_by
test_in zero place n j h w = absurd (omega arith)
test_in (suc k) place n j h w =
    at (λ a b. test_in k (suc place) (n + take 512 j # 3) (drop 512 j) a b) (journal_refusal (ltb n (22 * place)) place (take 512 j)) refl (eqb (take 512 j # 0) 255) w
  where
    T : Tested
    T = test k (suc place) (n + take 512 j # 3) (drop 512 j)

    at : (n + take 512 j # 3 ≤ 22 * suc place → T.refusal ≡ 0 → T.entries + 22 ≤ 22 * (suc place + k))
        → (r : ℕ) → journal_refusal (ltb n (22 * place)) place (take 512 j) ≡ r → (end : Bool) → (test_by r end n T).refusal ≡ 0 → (test_by r end n T).entries + 22 ≤ 22 * (place + suc k)
    at ih (suc r) q end w = absurd (omega arith)
    at ih zero q true w = omega arith
    at ih zero q false w =
        let few = few_entries (ltb n (22 * place)) place (take 512 j) (omega (arith, length-take 512 j)) q in
        let i = ih (omega arith) w in
        omega arith

tested_in : (j : List ℕ) → (tested j).refusal ≡ 0 → (tested j).entries + 22 ≤ 22 * whole_blocks j
unfolding tested
tested_in j w = let i = test_in (whole_blocks j) 0 0 j (omega arith) w in omega arith

pub last_in : (j : List ℕ) (t : Tested) → t ≡ tested j → t.refusal ≡ 0 → (t.entries ≡ 0 → ⊥) → 512 * ((t.entries - 1) / 22) + 512 ≤ length j
last_in j t e w f =
    let r : (tested j).refusal ≡ 0 = ap (λ (x : Tested). x.refusal) (sym e) ∙ w in
    let n : t.entries + 22 ≤ 22 * whole_blocks j = omega (arith, ap (λ (x : Tested). x.entries) e, tested_in j r) in
    by t.entries f n
  where
    by : (n : ℕ) → (n ≡ 0 → ⊥) → n + 22 ≤ 22 * whole_blocks j → 512 * ((n - 1) / 22) + 512 ≤ length j
    by zero f h = absurd (f refl)
    by (suc n) f h = omega (arith, whole_in j)

-- ---- the numbers
pub else_first : (a b r : ℕ) → r ≡ a → (r ≡ 0 → ⊥) → r ≡ else a b
unfolding else
else_first zero b r e f = absurd (f e)
else_first (suc a) b r e f = e

pub else_then : (a b r : ℕ) → a ≡ 0 → r ≡ b → r ≡ else a b
unfolding else
else_then a b r z e = rw z e

else_none : (a b : ℕ) → else a b ≡ 0 → (a ≡ 0) × (b ≡ 0)
unfolding else
else_none zero b w = (refl, w)
else_none (suc a) b w = absurd (omega arith)

pub has_room : (n k : ℕ) → n < k → 0 ≡ unless_so 37 (ltb n k)
unfolding unless_so
has_room n k h = rw (lt-ltb n k h)

pub is_full : (n k : ℕ) → k ≤ n → 37 ≡ unless_so 37 (ltb n k)
unfolding unless_so
is_full n k h = rw (le-ltb n k h)

room_so : (n k : ℕ) → unless_so 37 (ltb n k) ≡ 0 → n < k
unfolding unless_so
room_so n k w = by (ltb n k) refl w
  where
    by : (t : Bool) → ltb n k ≡ t → unless_so 37 t ≡ 0 → n < k
    by true e w = ltb-true n k e
    by false e w = absurd (omega arith)

-- ---- an edit with a journal. v is the number handed in, as the machine hands it on
left_new : (n : ℕ) (a b : Lent) → n ≡ 0 → left n a b ≡ a
unfolding left
left_new n a b e = rw e

left_old : (n : ℕ) (a b : Lent) → (n ≡ 0 → ⊥) → left n a b ≡ b
unfolding left
left_old zero a b f = absurd (f refl)
left_old (suc n) a b f = refl

module _ (s : Sheet) (j : List ℕ) where
  module _ (e : Edit) (t : Tested) (room r : ℕ) (et : t ≡ tested j) (em : room ≡ room_of j) (q : r ≡ else t.refusal (else (edit_refusal s e) (unless_so 37 (ltb t.entries room)))) where
    pub keeps_is : r ≡ keeps_refusal (lent s j) e
    unfolding keeps_refusal
    keeps_is = q ∙ ap₂ (λ (x : Tested) (k : ℕ). else x.refusal (else (edit_refusal s e) (unless_so 37 (ltb x.entries k)))) et em

    both_none : r ≡ 0 → (edit_refusal s e ≡ 0) × (unless_so 37 (ltb t.entries room) ≡ 0)
    both_none z = else_none (edit_refusal s e) _ (else_none t.refusal _ (sym q ∙ z)).1

    pub accepted : r ≡ 0 → edit_refusal s e ≡ 0
    accepted z = (both_none z).0

    pub push_asks : (n : Entry) → n ≡ entry_of s.plan e → r ≡ 0 → (t.entries < room_of j) × (n.kind < 256) × (n.before < 256)
    push_asks n en z =
        let h = both_none z in
        let f = entry_fits s e h.0 in
        (omega (arith, em, room_so t.entries room h.1), omega (arith, ap (λ (x : Entry). x.kind) en, f.kind_fits), omega (arith, ap (λ (x : Entry). x.before) en, f.before_fits))

    pub keeps_new : (n : Entry) (u : Sheet) (k : List ℕ) → n ≡ entry_of s.plan e → r ≡ 0 → u ≡ applied s e → k ≡ pushed t.entries n j → Keeps (lent s j) e r (lent u k)
    unfolding kept
    keeps_new n u k en z eu ek = record {
      answers = keeps_is;
      left =
          ap₂ (λ (x : Sheet) (y : List ℕ). lent x y) (eu ∙ sym (leaves_applied s e (accepted z))) (ek ∙ ap₂ (λ (x : Tested) (y : Entry). pushed x.entries y j) et en)
          ∙ sym (left_new (keeps_refusal (lent s j) e) (lent (edit s e) (pushed (tested j).entries (entry_of s.plan e) j)) (lent s j) (sym keeps_is ∙ z));
    }

    pub keeps_old : (r ≡ 0 → ⊥) → Keeps (lent s j) e r (lent s j)
    unfolding kept
    keeps_old f = record { answers = keeps_is; left = sym (left_old (keeps_refusal (lent s j) e) _ (lent s j) (λ w. f (keeps_is ∙ w))) }

  -- ---- an undo
  pub undo_none : (t : Tested) → t ≡ tested j → t.refusal ≡ 0 → t.entries ≡ 0 → 35 ≡ undoes_refusal (lent s j)
  unfolding undoes_refusal last_refusal
  undo_none t e w z =
      let r : (tested j).refusal ≡ 0 = ap (λ (x : Tested). x.refusal) (sym e) ∙ w in
      let n : (tested j).entries ≡ 0 = ap (λ (x : Tested). x.entries) (sym e) ∙ z in
      else_then (tested j).refusal _ 35 r (rw n)

  pub undo_first : (t : Tested) → t ≡ tested j → (t.refusal ≡ 0 → ⊥) → t.refusal ≡ undoes_refusal (lent s j)
  unfolding undoes_refusal
  undo_first t e f = else_first (tested j).refusal _ t.refusal (ap (λ (x : Tested). x.refusal) e) f

  last_by : (m : ℕ) → (m ≡ 0 → ⊥) → take_refusal s (entry_at (m - 1) j) ≡ last_refusal m (lent s j)
  unfolding last_refusal
  last_by zero f = absurd (f refl)
  last_by (suc m) f = let e : suc m - 1 ≡ m = omega arith in rw e

  pub undo_last : (t : Tested) (n : Entry) (r : ℕ) → t ≡ tested j → t.refusal ≡ 0 → (t.entries ≡ 0 → ⊥) → n ≡ entry_at (t.entries - 1) j → r ≡ take_refusal s n → r ≡ undoes_refusal (lent s j)
  unfolding undoes_refusal
  undo_last t n r e w f en q =
      let z : (tested j).refusal ≡ 0 = ap (λ (x : Tested). x.refusal) (sym e) ∙ w in
      else_then (tested j).refusal _ r z (q ∙ ap (take_refusal s) en ∙ last_by t.entries f ∙ ap (λ (x : Tested). last_refusal x.entries (lent s j)) e)

  -- what an undo that is answered with 0 has passed
  module _ (t : Tested) (r : ℕ) (et : t ≡ tested j) (q : r ≡ undoes_refusal (lent s j)) (z : r ≡ 0) where
    parts : (t.refusal ≡ 0) × (last_refusal t.entries (lent s j) ≡ 0)
    unfolding undoes_refusal
    parts = else_none t.refusal _ (ap (λ (x : Tested). else x.refusal (last_refusal x.entries (lent s j))) et ∙ sym q ∙ z)

    pub passed_test : t.refusal ≡ 0
    passed_test = parts.0

    some_by : (m : ℕ) → last_refusal m (lent s j) ≡ 0 → (m ≡ 0 → ⊥)
    unfolding last_refusal
    some_by zero w e = omega arith
    some_by (suc m) w e = omega arith

    pub has_entry : t.entries ≡ 0 → ⊥
    has_entry = some_by t.entries parts.1

    pub back_accepted : (n : Entry) (e : Edit) → n ≡ entry_at (t.entries - 1) j → e ≡ take_back n → edit_refusal s e ≡ 0
    unfolding take_refusal
    back_accepted n e en ee =
        let w : take_refusal s n ≡ 0 = ap (take_refusal s) en ∙ last_by t.entries has_entry ∙ parts.1 in
        ap (edit_refusal s) ee ∙ (else_none (edit_refusal s (take_back n)) _ w).0

    pub undoes_new : (n : Entry) (e : Edit) (u : Sheet) (k : List ℕ) → n ≡ entry_at (t.entries - 1) j → e ≡ take_back n → u ≡ applied s e → k ≡ popped (t.entries - 1) j → Undoes (lent s j) r (lent u k)
    unfolding undone
    undoes_new n e u k en ee eu ek = record {
      answers = q;
      left =
          ap₂ (λ (x : Sheet) (y : List ℕ). lent x y) (eu ∙ sym (leaves_applied s e (back_accepted n e en ee)) ∙ ap (edit s) (ee ∙ ap take_back (en ∙ ap (λ (x : Tested). entry_at (x.entries - 1) j) et))) (ek ∙ ap (λ (x : Tested). popped (x.entries - 1) j) et)
          ∙ sym (left_new (undoes_refusal (lent s j)) (lent (edit s (take_back (entry_at ((tested j).entries - 1) j))) (popped ((tested j).entries - 1) j)) (lent s j) (sym q ∙ z));
    }

  pub undoes_old : (r : ℕ) → r ≡ undoes_refusal (lent s j) → (r ≡ 0 → ⊥) → Undoes (lent s j) r (lent s j)
  unfolding undone
  undoes_old r q f = record { answers = q; left = sym (left_old (undoes_refusal (lent s j)) _ (lent s j) (λ w. f (q ∙ w))) }

-- v is the number handed in, as the machine hands it on
pub handed : (l : Lent) (k i j : ℕ) (v z : ℤ) → v ≡ z → (r : ℕ) (m : Lent) → Keeps l (record { kind = k; row = i; column = j; number = v }) r m → Keeps l (record { kind = k; row = i; column = j; number = z }) r m
handed l k i j v z is r m h = subst (λ (n : ℤ). Keeps l (record { kind = k; row = i; column = j; number = n }) r m) is h

pub some : (n : ℕ) → (n ≡ 0 → ⊥) → 1 ≤ n
some zero f = absurd (f refl)
some (suc n) f = omega arith
