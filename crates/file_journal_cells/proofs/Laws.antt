-- A feed's cells: the tests on them, what is said of a block, and how they are settled behind it. Assumes nothing.
use mathlib.Core.Path.{◌≡◌, refl, sym, ap, ap₂, ◌∙◌}
use mathlib.Core.Bool.{Bool, true, false, ◌&&◌}
use mathlib.Core.List.{List, [], ◌∷◌}
use Prim.Native.Nat.{ℕ, zero, suc, ◌+◌, ◌≤◌, ◌<◌}
use native.Mathlib.Omega.{arith}
use lib.Dec.{leb, ltb, eqb}
use lib.ListN.{length, take, drop, set}
use borrow.Author.Tests.{le-leb, lt-leb, ltb-true, ltb-false, leb-true, eq-eqb, ne_eqb}
use Rattle.doubles.specs.Lists.{◌#◌}
use Rattle.doubles.proofs.Loops.{both_true}
use Rattle.doubles.proofs.Bools.{by_test, never}
use Rattle.sheet_rules.specs.Opening.{first_failed}
use Rattle.file_rules.specs.Bytes.{value}
use Rattle.file_rules.specs.Block.{size_of_block, checks, stray_refusal}
use Rattle.file_journal_rules.specs.Journal.{unless_so}
use Rattle.file_journal_rules.specs.File.{journal_kind, per_block, journal_refusal}
use Rattle.file_journal_rules.specs.Feed.{says_by, close_by, cells_fine, feed_fine, closed_by}
use Rattle.file_journal_rules.specs.Promises.{Closes}
use Rattle.file_journal_bytes.proofs.Laws.{few_entries, place_so}
use Rattle.file_journal_cells.specs.Cells.{takes, settled}

-- ---- the cells
lt_le : (a b : ℕ) → ltb a b ≡ leb (suc a) b
lt_le a b = by_test (ltb a b) (λ t. t ∙ sym (le-leb (suc a) b (ltb-true a b t))) (λ t. t ∙ sym (lt-leb (suc a) b (omega (arith, ltb-false a b t))))

pub few_cells : (c : List ℕ) → length c < 4 → false ≡ cells_fine c
unfolding cells_fine
few_cells c h = rw (lt-leb 4 (length c) h)

pub fine_is : (c : List ℕ) → 4 ≤ length c → (ltb (c # 1) 512 && leb (c # 3) 2) ≡ cells_fine c
unfolding cells_fine
fine_is c h = rw (le-leb 4 (length c) h) (ap (λ (t : Bool). t && leb (c # 3) 2) (lt_le (c # 1) 512))

pub long_enough : (c : List ℕ) → cells_fine c ≡ true → 4 ≤ length c
unfolding cells_fine
long_enough c h = by_test (leb 4 (length c)) (leb-true 4 (length c)) (λ t. never h (rw t))

-- ---- the close
refused_by_holds : (r w h : ℕ) → (r ≡ 0 → ⊥) → r ≡ close_by r w h
unfolding close_by
refused_by_holds zero w h f = absurd (f refl)
refused_by_holds (suc r) w h f = refl

waiting_by : (w h : ℕ) → (w ≡ 0 → ⊥) → 33 ≡ close_by 0 w h
unfolding close_by
waiting_by zero h f = absurd (f refl)
waiting_by (suc w) h f = refl

module _ (c : List ℕ) where
  pub closes_bad : cells_fine c ≡ false → Closes c 11
  unfolding closed_by
  closes_bad h = record { answers = rw h }

  module _ (h : cells_fine c ≡ true) where
    as_by : (r : ℕ) → r ≡ close_by (c # 2) (c # 1) (c # 3) → Closes c r
    unfolding closed_by
    as_by r e = record { answers = rw h e }

    pub closes_refused : (c # 2 ≡ 0 → ⊥) → Closes c (c # 2)
    closes_refused f = as_by (c # 2) (refused_by_holds (c # 2) (c # 1) (c # 3) f)

    pub closes_waiting : c # 2 ≡ 0 → (c # 1 ≡ 0 → ⊥) → Closes c 33
    closes_waiting z f = as_by 33 (rw z (waiting_by (c # 1) (c # 3) f))

    pub closes_open : c # 2 ≡ 0 → c # 1 ≡ 0 → c # 3 < 2 → Closes c 33
    unfolding close_by unless_so
    closes_open z y l = as_by 33 (rw (z, y, lt-leb 2 (c # 3) l))

    pub closes_ended : c # 2 ≡ 0 → c # 1 ≡ 0 → 2 ≤ c # 3 → Closes c 0
    unfolding close_by unless_so
    closes_ended z y l = as_by 0 (rw (z, y, le-leb 2 (c # 3) l))

-- ---- what is said of a block
module _ (b : List ℕ) (l : length b ≡ 512) where
  whole : leb size_of_block (length b) ≡ true
  whole = le-leb size_of_block (length b) (omega arith)

  pub stray_31 : journal_kind (b # 0) ≡ false → 31 ≡ stray_refusal journal_kind b
  unfolding stray_refusal first_failed
  stray_31 k = rw (whole, k)

  pub stray_32 : journal_kind (b # 0) ≡ true → checks b ≡ false → 32 ≡ stray_refusal journal_kind b
  unfolding stray_refusal first_failed
  stray_32 k c = rw (whole, k, c)

  pub stray_33 : journal_kind (b # 0) ≡ true → checks b ≡ true → 33 ≡ stray_refusal journal_kind b
  unfolding stray_refusal first_failed
  stray_33 k c = rw (whole, k, c)

  stray_some : stray_refusal journal_kind b ≡ 0 → ⊥
  stray_some z =
      by_test (journal_kind (b # 0))
      (λ k. by_test (checks b) (λ c. omega (arith, stray_33 k c)) (λ c. omega (arith, stray_32 k c)))
      (λ k. omega (arith, stray_31 k))

  module _ (phase place : ℕ) where
    pub says_stray : (r : ℕ) → 2 ≤ phase → r ≡ stray_refusal journal_kind b → r ≡ says_by (leb 2 phase) phase place b
    unfolding says_by
    says_stray r h e = rw (le-leb 2 phase h) e

    pub says_block : (r : ℕ) → phase < 2 → r ≡ journal_refusal (eqb phase 1) place b → r ≡ says_by (leb 2 phase) phase place b
    unfolding says_by
    says_block r h e = rw (lt-leb 2 phase h) e

    -- a block that is accepted stands before the end
    before_end : says_by (leb 2 phase) phase place b ≡ 0 → journal_refusal (eqb phase 1) place b ≡ 0
    unfolding says_by
    before_end e = by (leb 2 phase) e
      where
        by : (t : Bool) → says_by t phase place b ≡ 0 → journal_refusal (eqb phase 1) place b ≡ 0
        by true e = absurd (stray_some e)
        by false e = e

    pub place_is : (r : ℕ) → r ≡ says_by (leb 2 phase) phase place b → r ≡ 0 → value (take 2 (drop 1 b)) ≡ place
    place_is r e z = place_so (eqb phase 1) place b (before_end (sym e ∙ z))

    pub taken_few : (r : ℕ) → r ≡ says_by (leb 2 phase) phase place b → takes r (eqb (b # 0) 255) (b # 3) ≤ 22
    unfolding takes
    taken_few zero e = by (eqb (b # 0) 255)
      where
        by : (t : Bool) → takes 0 t (b # 3) ≤ 22
        by true = omega arith
        by false = few_entries (eqb phase 1) place b (omega arith) (before_end (sym e))
    taken_few (suc r) e = omega arith

pub takes_none : (r n : ℕ) (t : Bool) → (r ≡ 0 → ⊥) → 0 ≡ takes r t n
unfolding takes
takes_none zero n t f = absurd (f refl)
takes_none (suc r) n t f = refl

pub takes_end : (r n k : ℕ) → r ≡ 0 → k ≡ 255 → 0 ≡ takes r (eqb k 255) n
unfolding takes
takes_end r n k z e = rw (z, eq-eqb k 255 e)

pub takes_all : (r n m k : ℕ) → r ≡ 0 → (k ≡ 255 → ⊥) → m ≡ n → m ≡ takes r (eqb k 255) n
unfolding takes
takes_all r n m k z f e = rw (z, ne_eqb k 255 f) e

-- ---- the cells behind a block
pub settled_refused : (c : List ℕ) (t : Bool) (n r says : ℕ) → 4 ≤ length c → (says ≡ 0 → ⊥) → set (set c 1 0) 2 says ≡ settled says t n r c
unfolding settled
settled_refused c t n r zero h f = absurd (f refl)
settled_refused [] t n r (suc k) h f = absurd (omega arith)
settled_refused (a ∷ []) t n r (suc k) h f = absurd (omega arith)
settled_refused (a ∷ b ∷ []) t n r (suc k) h f = absurd (omega arith)
settled_refused (a ∷ b ∷ d ∷ []) t n r (suc k) h f = absurd (omega arith)
settled_refused (a ∷ b ∷ d ∷ e ∷ l) t n r (suc k) h f = refl

end_by : (c : List ℕ) (v n r : ℕ) → 4 ≤ length c → c # 2 ≡ 0 → v ≡ c # 0 → set (set (set c 1 0) 0 (v + 1)) 3 2 ≡ settled 0 true n r c
unfolding settled
end_by [] v n r h z q = absurd (omega arith)
end_by (a ∷ []) v n r h z q = absurd (omega arith)
end_by (a ∷ b ∷ []) v n r h z q = absurd (omega arith)
end_by (a ∷ b ∷ d ∷ []) v n r h z q = absurd (omega arith)
end_by (a ∷ b ∷ d ∷ e ∷ l) v n r h z q = let s : v + 1 ≡ suc a = omega (arith, q) in λ i. s i ∷ 0 ∷ z i ∷ 2 ∷ l

more_by : (c : List ℕ) (v n r p : ℕ) → 4 ≤ length c → v ≡ c # 0 → p ≡ unless_so 1 (leb per_block n) → set (set (set (set c 1 0) 0 (v + 1)) 2 r) 3 p ≡ settled 0 false n r c
unfolding settled
more_by [] v n r p h q e = absurd (omega arith)
more_by (a ∷ []) v n r p h q e = absurd (omega arith)
more_by (a ∷ b ∷ []) v n r p h q e = absurd (omega arith)
more_by (a ∷ b ∷ d ∷ []) v n r p h q e = absurd (omega arith)
more_by (a ∷ b ∷ d ∷ f ∷ l) v n r p h q e = let s : v + 1 ≡ suc a = omega (arith, q) in λ i. s i ∷ 0 ∷ r ∷ e i ∷ l

module _ (c : List ℕ) (says v n r k : ℕ) (h : 4 ≤ length c) (z : says ≡ 0) (q : v ≡ c # 0) where
  pub settled_end : c # 2 ≡ 0 → k ≡ 255 → set (set (set c 1 0) 0 (v + 1)) 3 2 ≡ settled says (eqb k 255) n r c
  settled_end y e = end_by c v n r h y q ∙ ap₂ (λ (x : ℕ) (t : Bool). settled x t n r c) (sym z) (sym (eq-eqb k 255 e))

  pub settled_part : (k ≡ 255 → ⊥) → n < 22 → set (set (set (set c 1 0) 0 (v + 1)) 2 r) 3 1 ≡ settled says (eqb k 255) n r c
  unfolding unless_so
  settled_part f l = more_by c v n r 1 h q (rw (lt-leb per_block n l)) ∙ ap₂ (λ (x : ℕ) (t : Bool). settled x t n r c) (sym z) (sym (ne_eqb k 255 f))

  pub settled_full : (k ≡ 255 → ⊥) → 22 ≤ n → set (set (set (set c 1 0) 0 (v + 1)) 2 r) 3 0 ≡ settled says (eqb k 255) n r c
  unfolding unless_so
  settled_full f l = more_by c v n r 0 h q (rw (le-leb per_block n l)) ∙ ap₂ (λ (x : ℕ) (t : Bool). settled x t n r c) (sym z) (sym (ne_eqb k 255 f))

-- ---- the lent memory
pub fine_so : (w c : List ℕ) → feed_fine w c ≡ true → (512 ≤ length w) × (4 ≤ length c) × (c # 1 < 512)
unfolding feed_fine cells_fine
fine_so w c h =
    let a = both_true (leb size_of_block (length w)) (cells_fine c) h in
    let b = both_true _ _ a.1 in
    let d = both_true _ _ b.0 in
    (leb-true _ _ a.0, leb-true _ _ d.0, leb-true _ _ d.1)

pub short_memory : (w c : List ℕ) → length w < 512 → false ≡ feed_fine w c
unfolding feed_fine
short_memory w c h = rw (lt-leb size_of_block (length w) h)

pub long_memory_holds : (w c : List ℕ) (t : Bool) → 512 ≤ length w → t ≡ cells_fine c → t ≡ feed_fine w c
unfolding feed_fine
long_memory_holds w c t h e = rw (le-leb size_of_block (length w) h) e
