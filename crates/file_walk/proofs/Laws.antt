-- The loop over the slots is the walk. Assumes nothing.
use mathlib.Core.Path.{◌≡◌, refl, sym, ap, ◌∙◌}
use mathlib.Core.List.{List, [], ◌∷◌, ◌++◌}
use Prim.Native.Nat.{ℕ, zero, suc, ◌+◌, ◌-◌, ◌*◌, ◌/◌, ◌<◌, ◌≤◌, min}
use native.Mathlib.Nat.{add-zero, mul-le-mul}
use native.Mathlib.Omega.{arith}
use lib.ListN.{length, take, drop, length-drop, length-take, drop_of_length-le}
use lib.Seq.{drop-drop}
use Rattle.doubles.specs.Limits.{max_rows, max_columns}
use Rattle.doubles.specs.Loop.{each}
use Rattle.file_rules.specs.Block.{size_of_block, Slot, slot, block_refusal, stray_refusal, Walked, refused, stream, join, walk}
use Rattle.file_rules.specs.PlanFile.{plan_kind, pieces, array, shape}
use Rattle.file_rules.proofs.Shape.{pieces_length, shape_length}
use Rattle.file_walk.specs.Stop.{stop_at, cut, onward, turn_by, turn, behind_by, behind, stood_at}
use Rattle.file_walk.specs.declared.Stop.{Stop}

-- ---- a loop over two runs of slots
pub each_append : {A S : Type 0} (a b : List A) (f : A → S → S) (s : S) → each (a ++ b) f s ≡ each b f (each a f s)
unfolding each
each_append [] b f s = refl
each_append (x ∷ a) b f s = each_append a b f (f x s)

-- ---- the bytes at a place
pub cut_short : (f : List ℕ) (place : ℕ) → length f < size_of_block * place + size_of_block → length (take size_of_block (cut f place)) < size_of_block
cut_short f place h = rw (length-take, length-drop) (omega arith)

pub whole_part : (f : List ℕ) (place : ℕ) → take (size_of_block * place + size_of_block - size_of_block * place) (cut f place) ≡ take size_of_block (cut f place)
whole_part f place = let e : size_of_block * place + size_of_block - size_of_block * place ≡ size_of_block = omega arith in rw e

-- ---- a refusal stays; a turn goes on by one place at most
module _ (f : List ℕ) where
  stays : (ss : List Slot) (n place : ℕ) → each ss (turn f) (stop_at (suc n) place) ≡ stop_at (suc n) place
  unfolding each turn_by
  stays [] n place = refl
  stays (s ∷ ss) n place = stays ss n place

  onward_place : (n place : ℕ) → (onward n place).place ≤ suc place
  unfolding onward
  onward_place zero place = omega arith
  onward_place (suc n) place = omega arith

  pub turn_place : (s : Slot) (n place : ℕ) → (turn_by n place f s).place ≤ suc place
  unfolding turn_by
  turn_place s zero place = onward_place (block_refusal plan_kind s place (take size_of_block (cut f place))) place
  turn_place s (suc n) place = omega arith

  pub each_place : (ss : List Slot) (t : Stop) → (each ss (turn f) t).place ≤ t.place + length ss
  unfolding each
  each_place [] t = omega arith
  each_place (s ∷ ss) t = let i = each_place ss (turn f s t) in let h = turn_place s t.number t.place in omega arith

  -- ---- the loop is the walk
  cut_next : (place : ℕ) → drop size_of_block (cut f place) ≡ cut f (suc place)
  cut_next place = let e : size_of_block * suc place ≡ size_of_block * place + size_of_block = omega arith in drop-drop size_of_block (size_of_block * place) f ∙ ap (λ (k : ℕ). drop k f) (sym e)

  stood_join : (end place : ℕ) (c : List ℕ) (w : Walked) → stood_at end (join 0 place c w) ≡ stood_at end w
  unfolding join stood_at
  stood_join end place c (refused n k) = refl
  stood_join end place c (stream bs) = refl

  pub walk_stood : (ss : List Slot) (place end : ℕ) → end ≡ place + length ss → behind f (each ss (turn f) (stop_at 0 place)) ≡ stood_at end (walk plan_kind ss place (cut f place))
  unfolding each turn_by onward behind_by walk stood_at join
  walk_stood [] place end e = at (cut f place)
    where
      at : (r : List ℕ) → behind_by 0 place r ≡ stood_at end (walk plan_kind [] place r)
      at [] = ap (stop_at 0) (sym (e ∙ add-zero place))
      at (b ∷ r) = refl
  walk_stood (s ∷ ss) place end e = at (block_refusal plan_kind s place (take size_of_block (cut f place))) refl (walk_stood ss (suc place) end (omega arith))
    where
      at : (n : ℕ) → block_refusal plan_kind s place (take size_of_block (cut f place)) ≡ n → behind f (each ss (turn f) (stop_at 0 (suc place))) ≡ stood_at end (walk plan_kind ss (suc place) (cut f (suc place)))
          → behind f (each ss (turn f) (turn_by 0 place f s)) ≡ stood_at end (walk plan_kind (s ∷ ss) place (cut f place))
      at zero q i = rw q (i ∙ ap (λ (r : List ℕ). stood_at end (walk plan_kind ss (suc place) r)) (sym (cut_next place)) ∙ sym (stood_join end place _ (walk plan_kind ss (suc place) (drop size_of_block (cut f place)))))
      at (suc n) q i = rw (q, stays ss n place)

-- ---- the blocks of an array, one by one
array_next : (kind u : ℕ) → 0 < u → array kind u ≡ slot kind (min 504 u) ∷ array kind (u - min 504 u)
unfolding pieces
array_next kind u h =
    let e : (u + 503) / 504 ≡ suc ((u - min 504 u + 503) / 504) = omega arith in
    let d : u - 504 ≡ u - min 504 u = omega arith in
    rw (e, d)

pub array_turn : (f : List ℕ) (kind u count : ℕ) (t : Stop) → 0 < u → count ≡ min 504 u → each (array kind u) (turn f) t ≡ each (array kind (u - count)) (turn f) (turn f (slot kind count) t)
unfolding each
array_turn f kind u count t h e = rw (e, array_next kind u h)

pub array_done : (f : List ℕ) (kind u : ℕ) (t : Stop) → u ≡ 0 → each (array kind u) (turn f) t ≡ t
unfolding each pieces
array_done f kind u t e = rw e

pub array_place : (f : List ℕ) (kind u : ℕ) (s t : Stop) → t ≡ each (array kind u) (turn f) s → t.place ≤ s.place + (u + 503) / 504
array_place f kind u s t e = rw e (let h = each_place f (array kind u) s in let l = pieces_length kind ((u + 503) / 504) u in omega arith)

pub cells_few : (m n : ℕ) → m ≤ max_rows → n ≤ max_columns → m * n ≤ 12288
cells_few m n h g = mul-le-mul h g

-- ---- all of them
pub all_passed : (f : List ℕ) (m n : ℕ) (a b c d e g h i j k l r : Stop) → b ≡ each (array 2 (8 * (m * n))) (turn f) a → c ≡ each (array 3 (8 * n)) (turn f) b → d ≡ each (array 4 (8 * n)) (turn f) c → e ≡ each (array 5 (8 * n)) (turn f) d
    → g ≡ each (array 6 n) (turn f) e → h ≡ each (array 7 n) (turn f) g → i ≡ each (array 8 (8 * m)) (turn f) h → j ≡ each (array 9 m) (turn f) i → k ≡ each (array 10 (8 * n)) (turn f) j → l ≡ each (array 10 (8 * m)) (turn f) k → r ≡ turn f (slot 255 0) l
    → r ≡ each (shape m n) (turn f) a
unfolding shape each
all_passed f m n a b c d e g h i j k l r e1 e2 e3 e4 e5 e6 e7 e8 e9 e10 e11 =
    rw (each_append, ← e1, each_append, ← e2, each_append, ← e3, each_append, ← e4, each_append, ← e5, each_append, ← e6, each_append, ← e7, each_append, ← e8, each_append, ← e9, each_append, ← e10) e11

-- ---- each answer on the next block
module _ (f : List ℕ) (s : Slot) where
  pub turn_stays : (n place : ℕ) → (n ≡ 0 → ⊥) → stop_at n place ≡ turn_by n place f s
  unfolding turn_by
  turn_stays zero place h = absurd (h refl)
  turn_stays (suc n) place h = refl

  pub turn_stops : (n place k : ℕ) → n ≡ 0 → k ≡ block_refusal plan_kind s place (take size_of_block (cut f place)) → (k ≡ 0 → ⊥) → stop_at k place ≡ turn_by n place f s
  unfolding turn_by onward
  turn_stops n place zero e q h = absurd (h refl)
  turn_stops n place (suc k) e q h = rw (e, ← q)

  pub turn_goes : (n place k : ℕ) → n ≡ 0 → k ≡ block_refusal plan_kind s place (take size_of_block (cut f place)) → k ≡ 0 → stop_at 0 (place + 1) ≡ turn_by n place f s
  unfolding turn_by onward
  turn_goes n place k e q h = let t : place + 1 ≡ suc place = omega arith in rw (e, ← q, h, t)

-- ---- and behind the last
pub behind_stays : (n place : ℕ) (r : List ℕ) → (n ≡ 0 → ⊥) → stop_at n place ≡ behind_by n place r
unfolding behind_by
behind_stays zero place r h = absurd (h refl)
behind_stays (suc n) place r h = refl

pub behind_none : (n place : ℕ) (f : List ℕ) → n ≡ 0 → length f ≤ size_of_block * place → stop_at n place ≡ behind_by n place (cut f place)
unfolding behind_by
behind_none n place f e h = rw (e, drop_of_length-le f {i = size_of_block * place} h)

pub behind_some : (n place k : ℕ) (f : List ℕ) → n ≡ 0 → size_of_block * place < length f → k ≡ stray_refusal plan_kind (take size_of_block (cut f place)) → stop_at k place ≡ behind_by n place (cut f place)
unfolding behind_by
behind_some n place k f e h q = rw e (at (cut f place) (rw length-drop (omega arith)) q)
  where
    at : (r : List ℕ) → 0 < length r → k ≡ stray_refusal plan_kind (take size_of_block r) → stop_at k place ≡ behind_by 0 place r
    at [] l q = absurd (omega arith)
    at (b ∷ r) l q = ap (λ (i : ℕ). stop_at i place) q

-- ---- and the end: the whole walk
pub walked : (f : List ℕ) (m n : ℕ) (s r : Stop) → s ≡ each (shape m n) (turn f) (stop_at 0 1) → r ≡ behind f s → r ≡ stood_at (1 + length (shape m n)) (walk plan_kind (shape m n) 1 (drop size_of_block f))
walked f m n s r e h = h ∙ rw e (walk_stood f (shape m n) 1 (1 + length (shape m n)) refl)

pub walked_place : (f : List ℕ) (m n : ℕ) (s : Stop) → m ≤ max_rows → n ≤ max_columns → s ≡ each (shape m n) (turn f) (stop_at 0 1) → s.place ≤ 65536
walked_place f m n s h g e = rw e (omega (arith, each_place f (shape m n) (stop_at 0 1), shape_length m n h g))
