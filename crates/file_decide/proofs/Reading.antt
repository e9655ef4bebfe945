-- What a read answers, and what it leaves. Assumes nothing.
use mathlib.Core.Path.{◌≡◌, refl, sym, ap, ap₂, ◌∙◌}
use mathlib.Core.Bool.{Bool, true, false}
use mathlib.Core.List.{List, [], ◌∷◌, ◌++◌}
use Prim.Native.Nat.{ℕ, zero, suc, ◌+◌, ◌-◌, ◌*◌, ◌<◌, ◌≤◌}
use native.Mathlib.Omega.{arith}
use lib.ListN.{length, take, drop, length-take, length-drop}
use lib.Seq.{take_all, drop-drop, length-take-le}
use borrow.Author.Tests.{leb-true}
use Rattle.doubles.specs.Limits.{max_rows, max_columns}
use Rattle.sheet_rules.specs.Sheet.{Plan, plan_of}
use Rattle.sheet_rules.specs.Opening.{◌unless◌, first_failed, numbers_fine, uncrossed}
use Rattle.sheet_tests.specs.Sized.{PlanSized}
use Rattle.file_rules.specs.Bytes.{value}
use Rattle.file_rules.specs.Block.{size_of_block, Slot, cells, block_refusal, Walked, refused as Walked·refused, stream, walk}
use Rattle.file_rules.specs.PlanFile.{plan_kind, shape, sizes_slot, plan_from, Answer, refused, plan, answer, opens_as, plan_sized, resized, sized_by, read_file}
use Rattle.file_rules.specs.Words.{StraySays, FileSays}
use Rattle.file_rules.specs.Calls.{reading_of, over_plan, left_of, Reads}
use Rattle.file_rules.specs.declared.Reading.{Reading}
use Rattle.file_rules.specs.declared.Reading.TheVariants.{Held, Refused}
use Rattle.file_rules.proofs.Block.{accepted}
use Rattle.file_rules.proofs.Exact.{file_says}
use Rattle.file_rules.proofs.File.{fits}
use Rattle.file_rules.proofs.Says.{read_first, read_sized}
use Rattle.file_walk.specs.Stop.{stop_at, stood_at}
use Rattle.file_walk.specs.declared.Stop.{Stop}
use Rattle.file_open.specs.Places.{places_of, plan_at, Whole}
use Rattle.file_open.proofs.Payload.{inner, shape_end, walk_payload, plan_payload}
use Rattle.file_decide.proofs.Writing.{sized_plan}

-- ---- the blocks behind the first: a refusal has a number
stray_number : {known : ℕ → Bool} {b : List ℕ} {n : ℕ} → StraySays known b n → n ≡ 0 → ⊥
stray_number (StraySays.cut h) e = omega arith
stray_number (StraySays.unknown w h) e = omega arith
stray_number (StraySays.wrong k h) e = omega arith
stray_number (StraySays.after c) e = omega arith

says_number : {known : ℕ → Bool} {ss : List Slot} {place : ℕ} {f : List ℕ} {n k : ℕ} → FileSays known ss place f n k → n ≡ 0 → ⊥
says_number (FileSays.stray h) e = stray_number h e
says_number (FileSays.stops h) e = omega arith
says_number (FileSays.goes_on h g) e = says_number g e

rows_at : (f : List ℕ) (m n : ℕ) → (plan_at f m n).rows ≡ m
unfolding plan_at
rows_at f m n = refl

columns_at : (f : List ℕ) (m n : ℕ) → (plan_at f m n).cols ≡ n
unfolding plan_at
columns_at f m n = refl

-- where all blocks are accepted, the plan stands in the file
standing : (f : List ℕ) (m n : ℕ) (bs : List ℕ) → m ≤ max_rows → n ≤ max_columns → size_of_block ≤ length f → walk plan_kind (shape m n) 1 (drop size_of_block f) ≡ stream bs → (plan_from m n bs ≡ plan_at f m n) × Whole m n f
standing f m n bs mh nh l q =
    let p = walk_payload f (shape m n) 1 bs (omega arith) q in
    let t : size_of_block * suc (places_of m n).end ≤ length f = omega (arith, p.1, shape_end m n) in
    (ap (plan_from m n) p.0 ∙ plan_payload f m n t, record { rows_few = mh; cols_few = nh; there = t })

module _ (f : List ℕ) (m n : ℕ) (s : Stop) (e : s ≡ stood_at (1 + length (shape m n)) (walk plan_kind (shape m n) 1 (drop size_of_block f))) where
  abbrev w : Walked
  w = walk plan_kind (shape m n) 1 (drop size_of_block f)

  pub blocks_refused : (s.number ≡ 0 → ⊥) → Refused s.number s.place ≡ reading_of (opens_as m n w)
  unfolding stood_at opens_as reading_of
  blocks_refused h = at w e
    where
      at : (v : Walked) → s ≡ stood_at (1 + length (shape m n)) v → Refused s.number s.place ≡ reading_of (opens_as m n v)
      at (Walked·refused k b) q = rw q
      at (stream bs) q = absurd (h (ap (λ (t : Stop). t.number) q))

  pub record Stood : Type 0 where
    pub bs : List ℕ
    pub is : w ≡ stream bs
    pub plan_is : plan_from m n bs ≡ plan_at f m n
    pub whole : Whole m n f
    pub last : s.place ≡ suc (length (shape m n))

  pub stood : m ≤ max_rows → n ≤ max_columns → size_of_block ≤ length f → s.number ≡ 0 → Stood
  unfolding stood_at
  stood mh nh l z = at w refl e
    where
      at : (v : Walked) → w ≡ v → s ≡ stood_at (1 + length (shape m n)) v → Stood
      at (Walked·refused k b) q r = absurd (says_number (file_says plan_kind (shape m n) 1 (drop size_of_block f) k b q) (sym (ap (λ (t : Stop). t.number) r) ∙ z))
      at (stream bs) q r =
          let p = standing f m n bs mh nh l q in
          record { bs = bs; is = q; plan_is = p.0; whole = p.1; last = omega (arith, ap (λ (t : Stop). t.place) r) }

  module _ (t : Stood) where
    before : s.place - 1 ≡ length (shape m n)
    before = omega (arith, t.last)

    pub blocks_number : numbers_fine (plan_at f m n) ≡ false → Refused 12 (s.place - 1) ≡ reading_of (opens_as m n w)
    unfolding opens_as reading_of answer first_failed
    blocks_number h = rw (t.is, t.plan_is, h, before)

    pub blocks_crossed : numbers_fine (plan_at f m n) ≡ true → uncrossed (plan_at f m n) ≡ false → Refused 13 (s.place - 1) ≡ reading_of (opens_as m n w)
    unfolding opens_as reading_of answer first_failed
    blocks_crossed h g = rw (t.is, t.plan_is, h, g, before)

    pub blocks_held : numbers_fine (plan_at f m n) ≡ true → uncrossed (plan_at f m n) ≡ true → Held m n ≡ reading_of (opens_as m n w)
    unfolding opens_as reading_of answer first_failed
    blocks_held h g = rw (t.is, t.plan_is, h, g, rows_at f m n, columns_at f m n)

-- ---- the first block
module _ (f : List ℕ) where
  abbrev pub first : ℕ
  first = block_refusal plan_kind sizes_slot 0 (take size_of_block f)

  pub first_whole : first ≡ 0 → size_of_block ≤ length f
  first_whole z = omega (arith, leb-true size_of_block (length (take size_of_block f)) (accepted plan_kind sizes_slot 0 (take size_of_block f) z).whole, length-take size_of_block f)

  pub first_refused : (l : Plan) (k : ℕ) → k ≡ first → (k ≡ 0 → ⊥) → Refused k 0 ≡ reading_of (read_file l f)
  unfolding reading_of
  first_refused l zero e h = absurd (h refl)
  first_refused l (suc k) e h = rw (read_first l f k (sym e))

  -- block 0 accepted: its sizes, as they stand in the file
  module _ (z : first ≡ 0) where
    abbrev sizes : List ℕ
    sizes = cells sizes_slot (take size_of_block f)

    sizes_at : (j : ℕ) → j + 8 ≤ 16 → take 8 (drop j sizes) ≡ take 8 (drop (3 + j) f)
    sizes_at j h = inner 8 j 16 (drop 3 (take size_of_block f)) h ∙ ap (take 8) (drop-drop j 3 (take size_of_block f)) ∙ inner 8 (3 + j) size_of_block f (omega arith)

    sizes_length : length sizes ≡ 16
    sizes_length = length-take-le 16 (drop 3 (take size_of_block f)) (omega (arith, length-drop 3 (take size_of_block f), length-take size_of_block f, first_whole z))

    pub first_sized : (l : Plan) (m n : ℕ) (t : Bool) → m ≡ value (take 8 (drop 3 f)) → n ≡ value (take 8 (drop 11 f)) → t ≡ plan_sized (resized m n l) → read_file l f ≡ sized_by t m n (drop size_of_block f)
    first_sized l m n t a b c =
        let r : value (take 8 sizes) ≡ m = ap value (sizes_at 0 (omega arith)) ∙ sym a in
        let k : value (drop 8 sizes) ≡ n = ap value (sym (take_all 8 (drop 8 sizes) (omega (arith, length-drop 8 sizes, sizes_length))) ∙ sizes_at 8 (omega arith)) ∙ sym b in
        read_sized l f z ∙ rw (r, k, c)

-- ---- what the answer says of the file and the arrays
pub record Gives (l : Plan) (f : List ℕ) (m n : ℕ) : Type 0 where
  pub gives : read_file l f ≡ plan (plan_at f m n)
  pub there : Whole m n f
  pub fit : plan_sized (resized m n l) ≡ true

differ : {C : Type 0} {m n k b : ℕ} → Refused k b ≡ Held m n → C
differ e = absurd (let z : ◌≡◌ {A = ℕ} 0 1 = cc in omega arith)

opens_held : (m n i j : ℕ) (v : Walked) → reading_of (opens_as i j v) ≡ Held m n → (bs : List ℕ) × (v ≡ stream bs) × (opens_as i j v ≡ plan (plan_from i j bs)) × (i ≡ m) × (j ≡ n)
unfolding opens_as reading_of answer plan_from
opens_held m n i j (Walked·refused k b) e = differ e
opens_held m n i j (stream bs) e = at (first_failed (12 unless numbers_fine (plan_from i j bs) ∷ 13 unless uncrossed (plan_from i j bs) ∷ [])) e
  where
    at : (k : ℕ) → reading_of (answer k (length (shape i j)) (plan_from i j bs)) ≡ Held m n → (d : List ℕ) × (stream bs ≡ stream d) × (answer k (length (shape i j)) (plan_from i j bs) ≡ plan (plan_from i j d)) × (i ≡ m) × (j ≡ n)
    at zero e = let p : i ≡ m = cc in let q : j ≡ n = cc in (bs, refl, refl, p, q)
    at (suc k) e = differ e

module _ (l : Plan) (f : List ℕ) (m n : ℕ) where
  sized_held : (i j : ℕ) (t : Bool) → size_of_block ≤ length f → plan_sized (resized i j l) ≡ t → read_file l f ≡ sized_by t i j (drop size_of_block f) → reading_of (sized_by t i j (drop size_of_block f)) ≡ Held m n → Gives l f m n
  unfolding sized_by reading_of resized
  sized_held i j false w t r e = differ e
  sized_held i j true w t r e =
      let k = fits (resized i j l) t in
      let o = opens_held m n i j (walk plan_kind (shape i j) 1 (drop size_of_block f)) e in
      let p = standing f i j o.0 k.rows_fit k.cols_fit w o.1 in
      rw (← o.3, ← o.4) (record { gives = r ∙ o.2 ∙ ap plan p.0; there = p.1; fit = t })

  pub held : reading_of (read_file l f) ≡ Held m n → Gives l f m n
  held e = at (first f) refl
    where
      at : (k : ℕ) → first f ≡ k → Gives l f m n
      at zero z =
          let i : ℕ = value (take 8 (drop 3 f)) in
          let j : ℕ = value (take 8 (drop 11 f)) in
          let r = first_sized f z l i j (plan_sized (resized i j l)) refl refl refl in
          sized_held i j (plan_sized (resized i j l)) (first_whole f z) refl r (ap reading_of (sym r) ∙ e)
      at (suc k) z = differ (first_refused f l (suc k) (sym z) (λ q. omega arith) ∙ e)

refused_only : (a : Answer) (n b : ℕ) → reading_of a ≡ Refused n b → a ≡ refused n b
unfolding reading_of
refused_only (refused i j) n b e = let p : i ≡ n = cc in let q : j ≡ b = cc in rw (p, q)
refused_only (plan p) n b e = differ (sym e)

-- ---- what is left
pub reads_held : (l : Plan) (f : List ℕ) (m n : ℕ) (l' : Plan) → Held m n ≡ reading_of (read_file l f) → l' ≡ over_plan (plan_at f m n) l → Reads f l (Held m n) l'
unfolding left_of
reads_held l f m n l' e h = record { answers = e; left = h ∙ ap (λ (a : Answer). left_of a l) (sym (held l f m n (sym e)).gives) }

pub reads_refused : (l : Plan) (f : List ℕ) (n b : ℕ) → Refused n b ≡ reading_of (read_file l f) → Reads f l (Refused n b) l
unfolding left_of
reads_refused l f n b e = record { answers = e; left = ap (λ (a : Answer). left_of a l) (sym (refused_only (read_file l f) n b (sym e))) }
