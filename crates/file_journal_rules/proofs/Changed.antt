-- One byte of a journal changed: the test of the lent bytes answers 31 or 32. Assumes nothing.
use mathlib.Core.Path.{◌≡◌, refl, sym, ap, ◌∙◌}
use mathlib.Core.Logic.{◌⊎◌, inl, inr}
use mathlib.Core.Bool.{Bool, true, false}
use mathlib.Core.List.{List, [], ◌∷◌, ◌++◌, append_assoc}
use Prim.Native.Nat.{ℕ, zero, suc, ◌+◌, ◌-◌, ◌*◌, ◌/◌, ◌≤◌, ◌<◌}
use native.Mathlib.Omega.{arith}
use lib.Dec.{leb, ltb, eqb}
use lib.ListN.{length, get_or, take, drop, set, length-append, length-drop, length-take, length-set, get_or-append}
use lib.Seq.{take_at, set-append_left, get_or-append-add}
use borrow.Author.Tests.{le-leb, leb-true, leb-false, le-ltb}
use Rattle.doubles.specs.Lists.{◌#◌}
use Rattle.doubles.proofs.Bools.{by_test}
use Rattle.sheet_rules.specs.Opening.{first_failed}
use Rattle.file_rules.specs.Bytes.{none as no_bytes, byte}
use Rattle.file_rules.specs.Block.{size_of_block, block, checks}
use Rattle.file_rules.proofs.Block.{block_checks, changed_fails}
use Rattle.file_journal_rules.specs.File.{journal_kind, per_block, journal_blocks, journal_file, journal_refusal}
use Rattle.file_journal_rules.specs.Lent.{test_by, test, whole_blocks, tested}
use Rattle.file_journal_rules.specs.declared.Entry.{Entry}
use Rattle.file_journal_rules.specs.declared.Tested.{Tested}
use Rattle.file_journal_rules.proofs.File.{AllFit, fit_take, fit_drop, entries_bytes_holds, inside, inside_length, count_at, kind_at, inside_fine}
use Rattle.file_journal_rules.proofs.Lent.{Holds, block_size, end_size, blocks_size, whole_more, test_one}

abbrev Refuses : Tested → Type 0
Refuses t = (t.refusal ≡ 31) ⊎ (t.refusal ≡ 32)

-- a block that no longer checks
unchecked : (only : Bool) (place : ℕ) (b : List ℕ) → length b ≡ 512 → checks b ≡ false → (journal_refusal only place b ≡ 31) ⊎ (journal_refusal only place b ≡ 32)
unfolding journal_refusal first_failed
unchecked only place b l c =
    let w = le-leb size_of_block (length b) (omega arith) in
    by_test (journal_kind (b # 0)) (λ k. inr (rw (w, k, c))) (λ k. inl (rw (w, k)))

stops : (w place n : ℕ) (b r : List ℕ) → length b ≡ 512 → checks b ≡ false → Refuses (test (suc w) place n (b ++ r))
unfolding test test_by
stops w place n b r l c =
    let t : take 512 (b ++ r) ≡ b = take_at b r 512 l in
    rw t (by (unchecked (ltb n (per_block * place)) place b l c))
  where
    by : (journal_refusal (ltb n (per_block * place)) place b ≡ 31) ⊎ (journal_refusal (ltb n (per_block * place)) place b ≡ 32)
        → Refuses (test_by (journal_refusal (ltb n (per_block * place)) place b) (eqb (b # 0) 255) n (test w (suc place) (n + b # 3) (drop 512 (b ++ r))))
    by (inl e) = inl (rw e)
    by (inr e) = inr (rw e)

set_past : (b r : List ℕ) (i v : ℕ) → set (b ++ r) (length b + i) v ≡ b ++ set r i v
set_past [] r i v = let e : 0 + i ≡ i = omega arith in rw e
set_past (x ∷ b) r i v = let e : suc (length b) + i ≡ suc (length b + i) = omega arith in ap (λ (k : ℕ). set (x ∷ (b ++ r)) k v) e ∙ ap (λ (l : List ℕ). x ∷ l) (set_past b r i v)

-- the byte stands in the first block, or behind it
module _ (w place n : ℕ) (b r : List ℕ) (l : length b ≡ 512) (c : checks b ≡ true) (i v : ℕ) (ne : v ≡ get_or (b ++ r) i 0 → ⊥) where
  in_first : i < 512 → Refuses (test (suc w) place n (set (b ++ r) i v))
  in_first h =
      let e : get_or (b ++ r) i 0 ≡ get_or b i 0 = get_or-append b r 0 i (omega arith) in
      let f = changed_fails b i v l h (λ z. ne (z ∙ sym e)) c in
      rw (set-append_left b r i v (omega arith)) (stops w place n (set b i v) r (length-set b i v ∙ l) f)

  behind_first_holds : 512 ≤ i → ((v ≡ get_or r (i - 512) 0 → ⊥) → Refuses (test w (suc place) (n + b # 3) (set r (i - 512) v)))
      → journal_refusal (ltb n (per_block * place)) place b ≡ 0 → eqb (b # 0) 255 ≡ false → Refuses (test (suc w) place n (set (b ++ r) i v))
  unfolding test_by
  behind_first_holds h ih ok k =
      let q : i ≡ length b + (i - 512) = omega arith in
      let e : get_or (b ++ r) i 0 ≡ get_or r (i - 512) 0 = ap (λ (j : ℕ). get_or (b ++ r) j 0) q ∙ get_or-append-add b r (i - 512) 0 in
      let s : set (b ++ r) i v ≡ b ++ set r (i - 512) v = ap (λ (j : ℕ). set (b ++ r) j v) q ∙ set_past b r (i - 512) v in
      let t : test (suc w) place n (set (b ++ r) i v) ≡ test w (suc place) (n + b # 3) (set r (i - 512) v) = ap (test (suc w) place n) s ∙ test_one w place n b (set r (i - 512) v) false l ok k in
      rw t (ih (λ z. ne (z ∙ sym e)))

changed_blocks : (k w place n : ℕ) {es : List Entry} (r : List ℕ) → AllFit es → length es ≤ per_block * k → per_block * k < length es + per_block → place + k < 65536 → (1 ≤ k → n ≡ per_block * place) → k < w
    → (i v : ℕ) → i < 512 * suc k → (v ≡ get_or (journal_blocks k place es ++ r) i 0 → ⊥) → Refuses (test w place n (set (journal_blocks k place es ++ r) i v))
unfolding journal_blocks
changed_blocks k zero place n r g a b p q l i v h ne = absurd (omega arith)
changed_blocks zero (suc w) place n r g a b p q l i v h ne =
    in_first w place n (block 255 place []) r (end_size place) (block_checks 255 place [] (omega arith) (omega arith) no_bytes) i v ne (omega arith)
changed_blocks (suc k) (suc w) place n {es} r g a b p q l i v h ne =
    let m = length-take per_block es in
    let o = length-drop per_block es in
    let ts : List Entry = take per_block es in
    let B : List ℕ = block 11 place (inside ts) in
    let R : List ℕ = journal_blocks k (suc place) (drop per_block es) in
    let low : 1 ≤ length ts = omega arith in
    let high : length ts ≤ per_block = omega arith in
    let size = block_size place ts high in
    let il = inside_length ts in
    let c = block_checks 11 place (inside ts) (omega arith) (omega arith) (byte (omega arith) (entries_bytes_holds (fit_take per_block g))) in
    let full : ltb n (per_block * place) ≡ false = le-ltb n (per_block * place) (omega (arith, q (omega arith))) in
    let ok : journal_refusal (ltb n (per_block * place)) place B ≡ 0 = rw full (inside_fine place ts (fit_take per_block g) low high (omega arith)) in
    let assoc : B ++ R ++ r ≡ B ++ (R ++ r) = append_assoc B R r in
    let ne' : v ≡ get_or (B ++ (R ++ r)) i 0 → ⊥ = λ z. ne (z ∙ ap (λ (x : List ℕ). get_or x i 0) (sym assoc)) in
    rw assoc (by_test (leb 512 i)
    (λ t. behind_first_holds w place n B (R ++ r) size c i v ne' (leb-true 512 i t)
    (λ f. rw (count_at place ts) (changed_blocks k w (suc place) (n + length ts) r (fit_drop per_block g) (omega arith) (omega arith) (omega arith) (λ y. omega (arith, q (omega arith))) (omega arith) (i - 512) v (omega (arith, leb-true 512 i t)) f))
    ok (rw (kind_at place ts)))
    (λ t. in_first w place n B (R ++ r) size c i v ne' (leb-false 512 i t)))

same_whole : (a b : List ℕ) → length a ≡ length b → whole_blocks a ≡ whole_blocks b
unfolding whole_blocks
same_whole a b e = rw e

-- 02: "changing any one byte of a block is always refused": any byte of a journal's file in the lent bytes
pub byte_changed : (j : List ℕ) (es : List Entry) → Holds j es → (i v : ℕ) → i < length (journal_file es) → (v ≡ get_or j i 0 → ⊥) → Refuses (tested (set j i v))
unfolding tested journal_file
byte_changed j es h i v l ne =
    let k : ℕ = (length es + 21) / 22 in
    let z = blocks_size k 0 es in
    let n : length j ≡ 512 * suc k + length h.room = ap length h.is ∙ length-append (journal_blocks k 0 es) h.room ∙ ap (λ (x : ℕ). x + length h.room) z in
    let e : whole_blocks (set j i v) ≡ whole_blocks j = same_whole (set j i v) j (length-set j i v) in
    let is : set j i v ≡ set (journal_blocks k 0 es ++ h.room) i v = ap (λ (x : List ℕ). set x i v) h.is in
    let ne' : v ≡ get_or (journal_blocks k 0 es ++ h.room) i 0 → ⊥ = λ y. ne (y ∙ ap (λ (x : List ℕ). get_or x i 0) (sym h.is)) in
    rw e (rw is (changed_blocks k (whole_blocks j) 0 0 h.room h.fit (omega arith) (omega arith) (omega (arith, h.few)) (λ y. refl) (whole_more j k h.few (omega arith)) i v (omega arith) ne'))
