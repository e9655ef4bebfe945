-- Each answer of the two calls is given exactly when its words hold: what is given holds (`-says`), and nothing else can be said (`-only`). Assumes nothing.
use mathlib.Core.Path.{◌≡◌, refl, sym, ap, ◌∙◌}
use mathlib.Core.Bool.{Bool, true, false, ◌&&◌}
use mathlib.Core.List.{List, [], ◌∷◌, ◌++◌, append-nil}
use Prim.Native.Nat.{ℕ, zero, suc, ◌<◌, ◌≤◌}
use native.Mathlib.Omega.{arith}
use lib.Dec.{leb}
use lib.ListN.{length, take, drop, length-take, drop_of_length-le}
use lib.Seq.{take-take}
use borrow.Author.Tests.{le-leb, lt-leb, leb-true, leb-false}
use Rattle.sheet_rules.specs.Sheet.{Plan, sheet_of, fresh}
use Rattle.sheet_rules.specs.Opening.{◌unless◌, first_failed, sizes_fine, numbers_fine, uncrossed}
use Rattle.sheet_rules.specs.Words.{Sized, Limits, Crossing}
use Rattle.sheet_rules.proofs.Tests.{Decides, no_so, so_no, sizes_decide, numbers_decide, uncrossed_decides, crossing_found}
use Rattle.file_rules.specs.Bytes.{value}
use Rattle.file_rules.specs.Block.{size_of_block, cells, block_refusal, Walked, refused as Walked·refused, stream, join, walk}
use Rattle.file_rules.specs.PlanFile.{plan_kind, shape, sizes_slot, write_file, plan_from, Answer, refused, plan, answer, opens_as, plan_sized, resized, sized_by, starts, read_file}
use Rattle.file_rules.specs.Calls.{write_refusal}
use Rattle.file_rules.specs.Words.{BlockSays, FileSays, FileHolds}
use Rattle.file_rules.specs.Says.{Fits, WriteSays, rows_in, columns_in, Starts, slots_in, ReadSays}
use Rattle.file_rules.proofs.Exact.{block_says, block_only_says, file_says, file_only_says, file_holds, file_only_holds}

pub fits_decides : (p : Plan) → Decides (plan_sized p) (Fits p)
unfolding plan_sized
fits_decides p = sizes_decide (sheet_of p (fresh p))

-- ---- writing
module _ (p : Plan) (out : List ℕ) where
  pub write_says : WriteSays p out (write_refusal p out)
  unfolding write_refusal first_failed
  write_says = at (plan_sized p) (fits_decides p) (leb (length (write_file p)) (length out)) refl (numbers_fine p) (numbers_decide p) (uncrossed p) (uncrossed_decides p) (crossing_found p)
    where
      at : (b : Bool) → Decides b (Fits p) → (r : Bool) → leb (length (write_file p)) (length out) ≡ r → (d : Bool) → Decides d (Limits p) → (u : Bool) → Decides u (¬ Crossing p) → (u ≡ false → Crossing p)
          → WriteSays p out (first_failed (11 unless (b && r) ∷ 12 unless d ∷ 13 unless u ∷ []))
      at false z r q d l u v w = WriteSays.size (no_so z refl)
      at true z false q d l u v w = WriteSays.short (z.yes_so refl) (leb-false _ _ q)
      at true z true q false l u v w = WriteSays.number (z.yes_so refl) (leb-true _ _ q) (no_so l refl)
      at true z true q true l false v w = WriteSays.crossed (z.yes_so refl) (leb-true _ _ q) (l.yes_so refl) (w refl)
      at true z true q true l true v w = WriteSays.accepted (z.yes_so refl) (leb-true _ _ q) (l.yes_so refl) (v.yes_so refl)

  pub write_only : {n : ℕ} → WriteSays p out n → write_refusal p out ≡ n
  unfolding write_refusal first_failed
  write_only (WriteSays.size h) = rw (so_no _ (fits_decides p) h)
  write_only (WriteSays.short z h) = rw ((fits_decides p).so_yes z, lt-leb _ _ h)
  write_only (WriteSays.number z r h) = rw ((fits_decides p).so_yes z, le-leb _ _ r, so_no _ (numbers_decide p) h)
  write_only (WriteSays.crossed z r l w) = rw ((fits_decides p).so_yes z, le-leb _ _ r, (numbers_decide p).so_yes l, so_no _ (uncrossed_decides p) (λ h. h w))
  write_only (WriteSays.accepted z r l h) = rw ((fits_decides p).so_yes z, le-leb _ _ r, (numbers_decide p).so_yes l, (uncrossed_decides p).so_yes h)

-- ---- reading: the walk of block 0 alone
first_walk : (f : List ℕ) → walk plan_kind (sizes_slot ∷ []) 0 (take size_of_block f) ≡ join (block_refusal plan_kind sizes_slot 0 (take size_of_block f)) 0 (cells sizes_slot (take size_of_block f)) (stream [])
unfolding walk
first_walk f =
    let d : drop size_of_block (take size_of_block f) ≡ [] = drop_of_length-le (take size_of_block f) {i = size_of_block} (rw length-take (omega arith)) in
    rw (take-take size_of_block size_of_block f (omega arith), d)

module _ (l : Plan) (f : List ℕ) where
  abbrev m : ℕ
  m = rows_in f

  abbrev n : ℕ
  n = columns_in f

  pub read_first : (k : ℕ) → block_refusal plan_kind sizes_slot 0 (take size_of_block f) ≡ suc k → read_file l f ≡ refused (suc k) 0
  unfolding read_file starts join
  read_first k z = rw (first_walk f, z)

  pub read_sized : block_refusal plan_kind sizes_slot 0 (take size_of_block f) ≡ 0 → read_file l f ≡ sized_by (plan_sized (resized m n l)) m n (drop size_of_block f)
  unfolding read_file starts join
  read_sized z = rw (first_walk f, z) (ap (λ (c : List ℕ). starts l (stream c) (drop size_of_block f)) (append-nil (cells sizes_slot (take size_of_block f))))

  numbers_says : Starts l f → (bs : List ℕ) → slots_in f bs → (d : Bool) → Decides d (Limits (plan_from m n bs)) → (u : Bool) → Decides u (¬ Crossing (plan_from m n bs)) → (u ≡ false → Crossing (plan_from m n bs))
      → ReadSays l f (answer (first_failed (12 unless d ∷ 13 unless u ∷ [])) (length (shape m n)) (plan_from m n bs))
  unfolding answer first_failed
  numbers_says s bs h false d u e w = ReadSays.number bs s h (no_so d refl)
  numbers_says s bs h true d false e w = ReadSays.crossed bs s h (d.yes_so refl) (w refl)
  numbers_says s bs h true d true e w = ReadSays.held bs s h (d.yes_so refl) (e.yes_so refl)

  opens_says : Starts l f → (v : Walked) → walk plan_kind (shape m n) 1 (drop size_of_block f) ≡ v → ReadSays l f (opens_as m n v)
  unfolding opens_as
  opens_says s (Walked·refused k b) q = ReadSays.block k b s (file_says plan_kind (shape m n) 1 (drop size_of_block f) k b q)
  opens_says s (stream bs) q =
      numbers_says s bs (file_holds plan_kind (shape m n) 1 (drop size_of_block f) bs q) (numbers_fine (plan_from m n bs)) (numbers_decide (plan_from m n bs)) (uncrossed (plan_from m n bs)) (uncrossed_decides (plan_from m n bs)) (crossing_found (plan_from m n bs))

  sized_says : BlockSays plan_kind sizes_slot 0 (take size_of_block f) 0 → (b : Bool) → Decides b (Fits (resized m n l)) → ReadSays l f (sized_by b m n (drop size_of_block f))
  unfolding sized_by
  sized_says h true z = opens_says (record { first = h; sizes = z.yes_so refl }) (walk plan_kind (shape m n) 1 (drop size_of_block f)) refl
  sized_says h false z = ReadSays.size h (no_so z refl)

  pub read_says : ReadSays l f (read_file l f)
  read_says = at (block_refusal plan_kind sizes_slot 0 (take size_of_block f)) refl
    where
      at : (k : ℕ) → block_refusal plan_kind sizes_slot 0 (take size_of_block f) ≡ k → ReadSays l f (read_file l f)
      at zero z = rw (read_sized z) (sized_says (rw z at (block_says plan_kind sizes_slot 0 (take size_of_block f))) (plan_sized (resized m n l)) (fits_decides (resized m n l)))
      at (suc k) z = rw (read_first k z) (ReadSays.first k (rw z at (block_says plan_kind sizes_slot 0 (take size_of_block f))))

  starts_on : Starts l f → read_file l f ≡ opens_as m n (walk plan_kind (shape m n) 1 (drop size_of_block f))
  unfolding sized_by
  starts_on s = read_sized (block_only_says plan_kind sizes_slot 0 (take size_of_block f) s.first) ∙ rw ((fits_decides (resized m n l)).so_yes s.sizes)

  pub read_only : {a : Answer} → ReadSays l f a → read_file l f ≡ a
  unfolding sized_by opens_as answer first_failed
  read_only (ReadSays.first k h) = read_first k (block_only_says plan_kind sizes_slot 0 (take size_of_block f) h)
  read_only (ReadSays.size h z) = read_sized (block_only_says plan_kind sizes_slot 0 (take size_of_block f) h) ∙ rw (so_no _ (fits_decides (resized m n l)) z)
  read_only (ReadSays.block k b s h) = starts_on s ∙ rw (file_only_says plan_kind h)
  read_only (ReadSays.number bs s h d) = starts_on s ∙ rw (file_only_holds plan_kind h, so_no _ (numbers_decide (plan_from m n bs)) d)
  read_only (ReadSays.crossed bs s h d w) = starts_on s ∙ rw (file_only_holds plan_kind h, (numbers_decide (plan_from m n bs)).so_yes d, so_no _ (uncrossed_decides (plan_from m n bs)) (λ u. u w))
  read_only (ReadSays.held bs s h d u) = starts_on s ∙ rw (file_only_holds plan_kind h, (numbers_decide (plan_from m n bs)).so_yes d, (uncrossed_decides (plan_from m n bs)).so_yes u)
