-- Blocks of a lent journal, written. Assumes nothing.
use mathlib.Core.Path.{◌≡◌, refl, sym, ap, ap₂, ◌∙◌}
use mathlib.Core.List.{List, [], ◌∷◌, ◌++◌}
use Prim.Native.Nat.{ℕ, zero, suc, ◌+◌, ◌-◌, ◌*◌, ◌/◌, ◌%◌, ◌<◌, ◌≤◌}
use native.Mathlib.Omega.{arith}
use lib.ListN.{length, take, drop, set, length-append, length-take}
use lib.Seq.{take_at, length-take-le, sets, sets-eq, length-sets}
use borrow.Rule.Slice.PartMut.{put_mid}
use Rattle.file_rules.specs.Block.{block}
use Rattle.file_rules.proofs.Block.{block_length}
use Rattle.file_write.proofs.Laws.{mid_is}
use Rattle.file_journal_rules.specs.File.{entry_bytes}
use Rattle.file_journal_rules.specs.Lent.{whole_blocks, room_of, put_block, front, end_behind, pushed, shorter, popped, begin_by, begun}
use Rattle.file_journal_rules.specs.Journal.{left}
use Rattle.file_journal_rules.specs.Promises.{Begins}
use Rattle.file_journal_rules.specs.declared.Entry.{Entry}
use Rattle.file_journal_rules.proofs.File.{entry_length}

-- ---- a part of the lent bytes that was lent on
pub mid_sets : (at m : ℕ) (out b : List ℕ) → m ≡ 512 → length b ≡ 512 → at + 512 ≤ length out → put_mid at m out b ≡ sets out at b
mid_sets at m out b e l h = mid_is at m out b e ∙ ap (λ (k : ℕ). take at out ++ b ++ drop (at + k) out) (sym l) ∙ sym (sets-eq b out at (omega arith))

-- ---- an empty journal
whole_none : (j : List ℕ) → length j < 512 → whole_blocks j ≡ 0
unfolding whole_blocks
whole_none j h = omega arith

whole_some : (j : List ℕ) → 512 ≤ length j → whole_blocks j ≡ suc (whole_blocks j - 1)
unfolding whole_blocks
whole_some j h = omega arith

pub begins_short : (j : List ℕ) → length j < 512 → Begins j 33 j
unfolding begun begin_by left
begins_short j h = let z = whole_none j h in record { answers = rw z; left = rw z }

pub begins : (j ys : List ℕ) → 512 ≤ length j → ys ≡ block 255 0 [] → Begins j 0 (put_mid 0 512 j ys)
unfolding begun begin_by left
begins j ys h e =
    let z = whole_some j h in
    let l : length ys ≡ 512 = ap length e ∙ block_length 255 0 [] (omega arith) in
    record { answers = rw z; left = mid_sets 0 512 j ys refl l (omega arith) ∙ ap (sets j 0) e ∙ rw z }

-- ---- one entry more, and fewer entries, in a block
sets_past : (vs l : List ℕ) (i x : ℕ) → sets (x ∷ l) (suc i) vs ≡ x ∷ sets l i vs
sets_past [] l i x = refl
sets_past (v ∷ vs) l i x = sets_past vs (set l i v) (suc i) x

four_past : (vs r : List ℕ) (i x y z w : ℕ) → sets (x ∷ y ∷ z ∷ w ∷ r) (4 + i) vs ≡ x ∷ y ∷ z ∷ w ∷ sets r i vs
four_past vs r i x y z w =
    let e : 4 + i ≡ suc (suc (suc (suc i))) = omega arith in
    ap (λ (k : ℕ). sets (x ∷ y ∷ z ∷ w ∷ r) k vs) e
    ∙ sets_past vs (y ∷ z ∷ w ∷ r) (suc (suc (suc i))) x
    ∙ ap (λ (l : List ℕ). x ∷ l) (sets_past vs (z ∷ w ∷ r) (suc (suc i)) y)
    ∙ ap (λ (l : List ℕ). x ∷ y ∷ l) (sets_past vs (w ∷ r) (suc i) z)
    ∙ ap (λ (l : List ℕ). x ∷ y ∷ z ∷ l) (sets_past vs r i w)

front_sets : (r vs : List ℕ) (n : ℕ) → n + length vs ≤ length r → take (n + length vs) (sets r n vs) ≡ take n r ++ vs
front_sets r vs n h =
    let l : length (take n r ++ vs) ≡ n + length vs = rw (length-append, length-take-le n r (omega arith)) in
    ap (take (n + length vs)) (sets-eq vs r n h) ∙ take_at (take n r ++ vs) (drop (n + length vs) r) (n + length vs) l

pub added : (b : List ℕ) (c : ℕ) (e : Entry) → length b ≡ 512 → c < 22
    → take (23 + 22 * c) (drop 3 (set (sets b (4 + 22 * c) (entry_bytes e)) 3 (c + 1))) ≡ suc c ∷ (front c b ++ entry_bytes e)
added [] c e l h = absurd (omega arith)
added (x ∷ []) c e l h = absurd (omega arith)
added (x ∷ y ∷ []) c e l h = absurd (omega arith)
added (x ∷ y ∷ z ∷ []) c e l h = absurd (omega arith)
added (x ∷ y ∷ z ∷ w ∷ r) c e l h =
    let n = entry_length e in
    let p : 23 + 22 * c ≡ suc (22 * c + length (entry_bytes e)) = omega (arith, n) in
    let q : c + 1 ≡ suc c = omega arith in
    ap (λ (s : List ℕ). take (23 + 22 * c) (drop 3 (set s 3 (c + 1)))) (four_past (entry_bytes e) r (22 * c) x y z w)
    ∙ ap₂ (λ (k v : ℕ). take k (v ∷ sets r (22 * c) (entry_bytes e))) p q
    ∙ ap (λ (s : List ℕ). suc c ∷ s) (front_sets r (entry_bytes e) (22 * c) (omega (arith, n)))

pub cut : (b : List ℕ) (place c : ℕ) → length b ≡ 512 → (c ≡ 0 → ⊥) → block 11 place (take (1 + 22 * c) (drop 3 (set b 3 c))) ≡ shorter c place b
unfolding shorter
cut b place zero l h = absurd (h refl)
cut [] place (suc c) l h = absurd (omega arith)
cut (x ∷ []) place (suc c) l h = absurd (omega arith)
cut (x ∷ y ∷ []) place (suc c) l h = absurd (omega arith)
cut (x ∷ y ∷ z ∷ []) place (suc c) l h = absurd (omega arith)
cut (x ∷ y ∷ z ∷ w ∷ r) place (suc c) l h =
    let p : 1 + 22 * suc c ≡ suc (22 * suc c) = omega arith in
    ap (λ (k : ℕ). block 11 place (take k (suc c ∷ r))) p

-- ---- the last entry taken off
front_few : (c : ℕ) (b : List ℕ) → length (front c b) ≤ 22 * c
front_few c b = omega (arith, length-take (22 * c) (drop 4 b))

pub shorter_length : (c place : ℕ) (b : List ℕ) → c < 22 → length (shorter c place b) ≡ 512
unfolding shorter
shorter_length zero place b h = block_length 255 place [] (omega arith)
shorter_length (suc c) place b h = block_length 11 place (suc c ∷ front (suc c) b) (omega (arith, front_few (suc c) b))

pub popped_is : (j : List ℕ) (m : ℕ) (ys : List ℕ) → 512 * (m / 22) + 512 ≤ length j
    → ys ≡ shorter (m % 22) (m / 22) (take (512 * (m / 22) + 512 - 512 * (m / 22)) (drop (512 * (m / 22)) j))
    → put_mid (512 * (m / 22)) (512 * (m / 22) + 512 - 512 * (m / 22)) j ys ≡ popped m j
unfolding popped
popped_is j m ys h e =
    let s : 512 * (m / 22) + 512 - 512 * (m / 22) ≡ 512 = omega arith in
    let l : length ys ≡ 512 = ap length e ∙ shorter_length (m % 22) (m / 22) (take (512 * (m / 22) + 512 - 512 * (m / 22)) (drop (512 * (m / 22)) j)) (omega arith) in
    mid_sets (512 * (m / 22)) _ j ys s l h ∙ ap (sets j (512 * (m / 22))) (e ∙ ap (λ (k : ℕ). shorter (m % 22) (m / 22) (take k (drop (512 * (m / 22)) j))) s)

-- ---- one entry more
pub added_length : (b : List ℕ) (place c : ℕ) (e : Entry) → c < 22 → length (block 11 place (suc c ∷ (front c b ++ entry_bytes e))) ≡ 512
added_length b place c e h = block_length 11 place (suc c ∷ (front c b ++ entry_bytes e)) (omega (arith, length-append (front c b) (entry_bytes e), front_few c b, entry_length e))

pub two_blocks : (j : List ℕ) (n : ℕ) → n < room_of j → 512 * (n / 22) + 1024 ≤ length j
unfolding room_of whole_blocks
two_blocks j n h = omega arith

module _ (j : List ℕ) (n : ℕ) (e : Entry) (h : n < room_of j) where
  abbrev k : ℕ
  k = n / 22

  abbrev c : ℕ
  c = n % 22

  abbrev longer : List ℕ → List ℕ
  longer b = block 11 k (suc c ∷ (front c b ++ entry_bytes e))

  longer_length : (b : List ℕ) → length (longer b) ≡ 512
  longer_length b = added_length b k c e (omega arith)

  -- the journal with the block of the entry
  pub put_there : (ys : List ℕ) → ys ≡ longer (take (512 * k + 512 - 512 * k) (drop (512 * k) j)) → put_mid (512 * k) (512 * k + 512 - 512 * k) j ys ≡ put_block k (longer (take 512 (drop (512 * k) j))) j
  put_there ys q =
      let s : 512 * k + 512 - 512 * k ≡ 512 = omega arith in
      let l : length ys ≡ 512 = ap length q ∙ longer_length (take (512 * k + 512 - 512 * k) (drop (512 * k) j)) in
      mid_sets (512 * k) _ j ys s l (omega (arith, two_blocks j n h)) ∙ ap (sets j (512 * k)) (q ∙ ap (λ (i : ℕ). longer (take i (drop (512 * k) j))) s)

  pub same_there : (ys : List ℕ) → ys ≡ longer (take (512 * k + 512 - 512 * k) (drop (512 * k) j)) → length (put_mid (512 * k) (512 * k + 512 - 512 * k) j ys) ≡ length j
  same_there ys q = ap length (put_there ys q) ∙ length-sets j (512 * k) (longer (take 512 (drop (512 * k) j)))

  pub pushed_more : (ys : List ℕ) → (c ≡ 0 → ⊥) → ys ≡ longer (take (512 * k + 512 - 512 * k) (drop (512 * k) j)) → put_mid (512 * k) (512 * k + 512 - 512 * k) j ys ≡ pushed n e j
  unfolding pushed end_behind
  pushed_more ys f q = put_there ys q ∙ by c f
    where
      by : (d : ℕ) → (d ≡ 0 → ⊥) → put_block k (longer (take 512 (drop (512 * k) j))) j ≡ end_behind d (suc k) (put_block k (longer (take 512 (drop (512 * k) j))) j)
      by zero f = absurd (f refl)
      by (suc d) f = refl

  pub pushed_first : (ys zs : List ℕ) → c ≡ 0 → ys ≡ longer (take (512 * k + 512 - 512 * k) (drop (512 * k) j)) → zs ≡ block 255 (k + 1) []
      → put_mid (512 * k + 512) (512 * k + 512 + 512 - (512 * k + 512)) (put_mid (512 * k) (512 * k + 512 - 512 * k) j ys) zs ≡ pushed n e j
  unfolding pushed end_behind
  pushed_first ys zs z q w =
      let s : 512 * k + 512 + 512 - (512 * k + 512) ≡ 512 = omega arith in
      let p : 512 * k + 512 ≡ 512 * suc k = omega arith in
      let o : k + 1 ≡ suc k = omega arith in
      let J : List ℕ = put_mid (512 * k) (512 * k + 512 - 512 * k) j ys in
      let l : length zs ≡ 512 = ap length w ∙ block_length 255 (k + 1) [] (omega arith) in
      mid_sets (512 * k + 512) _ J zs s l (omega (arith, two_blocks j n h, same_there ys q))
      ∙ ap₂ (λ (i : ℕ) (x : List ℕ). sets J i x) p (w ∙ ap (λ (i : ℕ). block 255 i []) o)
      ∙ ap (λ (x : List ℕ). sets x (512 * suc k) (block 255 (suc k) [])) (put_there ys q)
      ∙ ap (λ (d : ℕ). end_behind d (suc k) (put_block k (longer (take 512 (drop (512 * k) j))) j)) (sym z)
