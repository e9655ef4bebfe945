-- The walk over a lent journal's blocks. Assumes nothing.
use mathlib.Core.Path.{◌≡◌, refl, sym, ap, ap₂, ◌∙◌}
use mathlib.Core.Bool.{Bool, true, false}
use mathlib.Core.List.{List}
use Prim.Native.Nat.{ℕ, zero, suc, ◌+◌, ◌-◌, ◌*◌, ◌/◌, ◌%◌, ◌<◌, ◌≤◌}
use native.Mathlib.Nat.{add-zero, sub-zero}
use native.Mathlib.Omega.{arith}
use lib.Dec.{ltb, eqb}
use lib.ListN.{length, take, drop}
use lib.Seq.{get_or-take, get_or-drop, drop-drop}
use borrow.Author.Tests.{eq-eqb, ne_eqb}
use Rattle.doubles.specs.Lists.{◌#◌}
use Rattle.file_journal_rules.specs.File.{entry_from, journal_refusal}
use Rattle.file_journal_rules.specs.Lent.{tested_of, test_by, test, whole_blocks, tested, room_of, entry_at}
use Rattle.file_journal_rules.specs.declared.Tested.{Tested}

-- ---- the whole blocks
module _ (j : List ℕ) where
  pub whole_many : 65536 < length j / 512 → 65536 ≡ whole_blocks j
  unfolding whole_blocks
  whole_many h = omega arith

  pub whole_all : length j / 512 ≤ 65536 → length j / 512 ≡ whole_blocks j
  unfolding whole_blocks
  whole_all h = omega arith

  pub whole_in : 512 * whole_blocks j ≤ length j
  unfolding whole_blocks
  whole_in = omega arith

  pub whole_few : whole_blocks j ≤ 65536
  unfolding whole_blocks
  whole_few = omega arith

  pub no_room : (n : ℕ) → n ≡ whole_blocks j → n ≡ 0 → 0 ≡ room_of j
  unfolding room_of
  no_room n e z = let w : whole_blocks j ≡ 0 = sym e ∙ z in rw w

  pub room_is : (n : ℕ) → n ≡ whole_blocks j → 22 * (n - 1) ≡ room_of j
  unfolding room_of
  room_is n e = ap (λ (k : ℕ). 22 * (k - 1)) e

  -- ---- an entry
  pub entry_is : (i : ℕ) → entry_from (drop (4 + 22 * (i % 22)) (take (512 * (i / 22) + 512 - 512 * (i / 22)) (drop (512 * (i / 22)) j))) ≡ entry_at i j
  unfolding entry_at
  entry_is i = let e : 512 * (i / 22) + 512 - 512 * (i / 22) ≡ 512 = omega arith in rw e

-- ---- one block of the test
module _ (j : List ℕ) (blocks place n : ℕ) (h : place < blocks) where
  abbrev b : List ℕ
  b = take (512 * place + 512 - 512 * place) (drop (512 * place) j)

  abbrev behind : Tested
  behind = test (blocks - (place + 1)) (place + 1) (n + j # (512 * place + 3)) (drop (512 * (place + 1)) j)

  first : take 512 (drop (512 * place) j) # 0 ≡ j # (512 * place)
  first = get_or-take 512 (drop (512 * place) j) 0 0 (omega arith) ∙ get_or-drop (512 * place) j 0 0 ∙ ap (λ (i : ℕ). j # i) (add-zero (512 * place))

  -- a turn of the test, with what is said of the block and whether it is the end
  turn : (r : ℕ) (end : Bool) → r ≡ journal_refusal (ltb n (22 * place)) place b → eqb (j # (512 * place)) 255 ≡ end → test_by r end n behind ≡ test (blocks - place) place n (drop (512 * place) j)
  unfolding test
  turn r end q k =
      let e : blocks - place ≡ suc (blocks - (place + 1)) = omega arith in
      let s : 512 * place + 512 - 512 * place ≡ 512 = omega arith in
      let p : place + 1 ≡ suc place = omega arith in
      let d : drop (512 * (place + 1)) j ≡ drop 512 (drop (512 * place) j) = ap (λ (i : ℕ). drop i j) (let z : 512 * (place + 1) ≡ 512 * place + 512 = omega arith in z) ∙ sym (drop-drop 512 (512 * place) j) in
      let c : j # (512 * place + 3) ≡ take 512 (drop (512 * place) j) # 3 = sym (get_or-take 512 (drop (512 * place) j) 3 0 (omega arith) ∙ get_or-drop (512 * place) j 3 0) in
      let q' : r ≡ journal_refusal (ltb n (22 * place)) place (take 512 (drop (512 * place) j)) = q ∙ ap (λ (i : ℕ). journal_refusal (ltb n (22 * place)) place (take i (drop (512 * place) j))) s in
      let k' : end ≡ eqb (take 512 (drop (512 * place) j) # 0) 255 = sym k ∙ ap (λ (i : ℕ). eqb i 255) (sym first) in
      let t : behind ≡ test (blocks - (place + 1)) (suc place) (n + take 512 (drop (512 * place) j) # 3) (drop 512 (drop (512 * place) j)) =
      ap (λ (i : ℕ). test (blocks - (place + 1)) i (n + j # (512 * place + 3)) (drop (512 * (place + 1)) j)) p
      ∙ ap₂ (λ (i : ℕ) (l : List ℕ). test (blocks - (place + 1)) (suc place) (n + i) l) c d
      in
      rw e (ap₂ (λ (x : ℕ) (y : Bool). test_by x y n behind) q' k' ∙ ap (test_by (journal_refusal (ltb n (22 * place)) place (take 512 (drop (512 * place) j))) (eqb (take 512 (drop (512 * place) j) # 0) 255) n) t)

  pub refused_here : (r : ℕ) → r ≡ journal_refusal (ltb n (22 * place)) place b → (r ≡ 0 → ⊥) → tested_of r 0 ≡ test (blocks - place) place n (drop (512 * place) j)
  unfolding test_by
  refused_here zero q f = absurd (f refl)
  refused_here (suc r) q f = turn (suc r) _ q refl

  pub ends_here : (r : ℕ) → r ≡ journal_refusal (ltb n (22 * place)) place b → r ≡ 0 → j # (512 * place) ≡ 255 → tested_of 0 n ≡ test (blocks - place) place n (drop (512 * place) j)
  unfolding test_by
  ends_here r q z k = turn 0 true (sym z ∙ q) (eq-eqb (j # (512 * place)) 255 k)

  pub goes_on : (r : ℕ) → r ≡ journal_refusal (ltb n (22 * place)) place b → r ≡ 0 → (j # (512 * place) ≡ 255 → ⊥) → (c : ℕ) → c ≡ j # (512 * place + 3)
      → test (blocks - (place + 1)) (place + 1) (n + c) (drop (512 * (place + 1)) j) ≡ test (blocks - place) place n (drop (512 * place) j)
  unfolding test_by
  goes_on r q z k c e = ap (λ (i : ℕ). test (blocks - (place + 1)) (place + 1) (n + i) (drop (512 * (place + 1)) j)) e ∙ turn 0 false (sym z ∙ q) (ne_eqb (j # (512 * place)) 255 k)

pub test_start : (j : List ℕ) (blocks : ℕ) → blocks ≡ whole_blocks j → test (blocks - 0) 0 0 (drop (512 * 0) j) ≡ tested j
unfolding tested
test_start j blocks e = rw (sub-zero, e)

pub test_none : (j : List ℕ) (blocks place n : ℕ) → blocks ≤ place → tested_of 33 0 ≡ test (blocks - place) place n (drop (512 * place) j)
unfolding test
test_none j blocks place n h = let e : blocks - place ≡ 0 = omega arith in rw e
