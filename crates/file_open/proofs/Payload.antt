-- The bytes that a walk hands out are those that stand at the places. Assumes nothing.
use mathlib.Core.Path.{◌≡◌, refl, sym, ap, ap₂, ◌∙◌}
use mathlib.Core.Bool.{Bool, true, false}
use mathlib.Core.List.{List, [], ◌∷◌, ◌++◌, append_assoc}
use Prim.Native.Nat.{ℕ, zero, suc, ◌+◌, ◌-◌, ◌*◌, ◌/◌, ◌%◌, ◌<◌, ◌≤◌, min}
use native.Mathlib.Nat.{add-zero, mul-le-mul}
use native.Mathlib.Omega.{arith}
use lib.Dec.{leb}
use lib.ListN.{length, get_or, take, drop, length-append, length-drop, length-take}
use lib.Seq.{take-nil, drop-nil, take-take, drop-drop, take_all, take-append-le, drop-append-le, drop-append-add, drop_at, drop-cons, length-take-le, get_or-take, get_or-drop}
use lib.IntN.{ℤ}
use borrow.Author.Tests.{leb-true, leb-false}
use Rattle.doubles.specs.Limits.{max_rows, max_columns}
use Rattle.doubles.specs.Loop.{tab, table}
use Rattle.doubles.specs.Lists.{◌#◌}
use Rattle.doubles.proofs.Bools.{by_test}
use Rattle.doubles.proofs.Loops.{table_same}
use Rattle.sheet_rules.specs.Sheet.{Plan, plan_of}
use Rattle.file_rules.specs.Bytes.{value, number_of, decode}
use Rattle.file_rules.specs.Block.{size_of_block, room, Slot, slot, cells, block_refusal, Walked, refused, stream, join, walk}
use Rattle.file_rules.specs.PlanFile.{plan_kind, ceil, pieces, array, shape, plan_from}
use Rattle.file_rules.proofs.Block.{accepted}
use Rattle.file_rules.proofs.Walk.{joined}
use Rattle.file_rules.proofs.Shape.{pieces_length}
use Rattle.file_read.specs.Cells.{spot, number_at, byte_at}
use Rattle.file_open.specs.Places.{places_of, plan_at}
use Rattle.file_open.specs.declared.Places.{Places}
use Rattle.file_open.proofs.Laws.{placed}

-- the end stands behind all arrays
pub shape_end : (m n : ℕ) → length (shape m n) ≡ (places_of m n).end
unfolding shape
shape_end m n = simp (length-append, pieces_length) (omega arith)

-- a stretch that stands within a longer one
pub inner : {A : Type 0} (w j m : ℕ) (l : List A) → j + w ≤ m → take w (drop j (take m l)) ≡ take w (drop j l)
inner w zero m l h = take-take w m l (omega arith)
inner w (suc j) zero l h = absurd (omega arith)
inner w (suc j) (suc m) [] h = refl
inner w (suc j) (suc m) (x ∷ l) h = inner w j m l (omega arith)

module _ (f : List ℕ) where
  abbrev cut : ℕ → List ℕ
  cut place = drop (size_of_block * place) f

  -- the cells of the slots, from a place on
  unfoldable pub payload : List Slot → ℕ → List ℕ
  payload [] place = []
  payload (s ∷ ss) place = cells s (take size_of_block (cut place)) ++ payload ss (suc place)

  -- ---- what a walk hands out
  cut_next : (place : ℕ) → drop size_of_block (cut place) ≡ cut (suc place)
  cut_next place = let e : size_of_block * suc place ≡ size_of_block * place + size_of_block = omega arith in drop-drop size_of_block (size_of_block * place) f ∙ ap (λ (k : ℕ). drop k f) (sym e)

  pub walk_payload : (ss : List Slot) (place : ℕ) (bs : List ℕ) → size_of_block * place ≤ length f → walk plan_kind ss place (cut place) ≡ stream bs → (bs ≡ payload ss place) × (size_of_block * (place + length ss) ≤ length f)
  unfolding walk payload
  walk_payload [] place bs l e = at (cut place) e
    where
      at : (r : List ℕ) → walk plan_kind [] place r ≡ stream bs → (bs ≡ []) × (size_of_block * (place + 0) ≤ length f)
      at [] e = (cc, rw (add-zero place) l)
      at (b ∷ r) e = absurd (let z : ◌≡◌ {A = ℕ} 0 1 = cc in omega arith)
  walk_payload (s ∷ ss) place bs l e =
      let b : List ℕ = take size_of_block (cut place) in
      let g = joined plan_kind (block_refusal plan_kind s place b) place (cells s b) (walk plan_kind ss (suc place) (drop size_of_block (cut place))) bs e in
      let w : size_of_block ≤ length b = leb-true size_of_block (length b) (accepted plan_kind s place b g.0).whole in
      let t = length-take size_of_block (cut place) in
      let d = length-drop (size_of_block * place) f in
      let i = walk_payload ss (suc place) g.1.0 (omega arith) (ap (walk plan_kind ss (suc place)) (sym (cut_next place)) ∙ g.1.1) in
      let q : place + suc (length ss) ≡ suc place + length ss = omega arith in
      (g.1.2 ∙ ap (λ (r : List ℕ). cells s b ++ r) i.0, rw q i.1)

  -- ---- an array's bytes, and where each stands
  payload_append : (a b : List Slot) (place : ℕ) → payload (a ++ b) place ≡ payload a place ++ payload b (place + length a)
  unfolding payload
  payload_append [] b place = rw add-zero
  payload_append (s ∷ a) b place = let q : place + suc (length a) ≡ suc place + length a = omega arith in rw (payload_append a b (suc place), q) (sym (append_assoc (cells s (take size_of_block (cut place))) (payload a (suc place)) (payload b (suc place + length a))))

  cells_length : (kind u place : ℕ) → u ≤ room → size_of_block * suc place ≤ length f → length (cells (slot kind u) (take size_of_block (cut place))) ≡ u
  cells_length kind u place h l =
      let t : length (take size_of_block (cut place)) ≡ size_of_block = length-take-le size_of_block (cut place) (rw length-drop (omega arith)) in
      length-take-le u (drop 3 (take size_of_block (cut place))) (rw length-drop (omega arith))

  pieces_bytes : (kind k u place : ℕ) → u ≤ 504 * k → size_of_block * (place + k) ≤ length f → length (payload (pieces kind k u) place) ≡ u
  unfolding payload pieces
  pieces_bytes kind zero u place h l = omega arith
  pieces_bytes kind (suc k) u place h l =
      let c = cells_length kind (min 504 u) place (omega arith) (omega arith) in
      let i = pieces_bytes kind k (u - 504) (suc place) (omega arith) (omega arith) in
      rw (length-append, c, i) (omega arith)

  in_block : (kind u place j w : ℕ) → j + w ≤ u → u ≤ 504 → take w (drop j (cells (slot kind u) (take size_of_block (cut place)))) ≡ take w (drop (size_of_block * place + (3 + j)) f)
  in_block kind u place j w h g =
      inner w j u (drop 3 (take size_of_block (cut place))) h
      ∙ ap (take w) (drop-drop j 3 (take size_of_block (cut place)))
      ∙ inner w (3 + j) size_of_block (cut place) (omega arith)
      ∙ ap (take w) (drop-drop (3 + j) (size_of_block * place) f)

  window : (kind k u place j w : ℕ) (r : List ℕ) → u ≤ 504 * k → size_of_block * (place + k) ≤ length f → j + w ≤ u → j % 504 + w ≤ 504
      → take w (drop j (payload (pieces kind k u) place ++ r)) ≡ take w (drop (spot place j) f)
  unfolding payload pieces
  window kind zero u place j w r h l g i = let z : w ≡ 0 = omega arith in rw z
  window kind (suc k) u place j w r h l g i =
      let c : List ℕ = cells (slot kind (min 504 u)) (take size_of_block (cut place)) in
      let n : length c ≡ min 504 u = cells_length kind (min 504 u) place (omega arith) (omega arith) in
      let p : List ℕ = payload (pieces kind k (u - 504)) (suc place) in
      by_test (leb 504 j)
      (λ t.
      let ge = leb-true 504 j t in
      let m : j ≡ length c + (j - 504) = omega arith in
      let s : spot (suc place) (j - 504) ≡ spot place j = omega arith in
      ap (λ (x : List ℕ). take w (drop j x)) (append_assoc c p r)
      ∙ ap (λ (k : ℕ). take w (drop k (c ++ (p ++ r)))) m
      ∙ ap (take w) (drop-append-add c (p ++ r) (j - 504))
      ∙ window kind k (u - 504) (suc place) (j - 504) w r (omega arith) (omega arith) (omega arith) (omega arith)
      ∙ ap (λ (k : ℕ). take w (drop k f)) s)
      (λ t.
      let lt = leb-false 504 j t in
      let s : size_of_block * place + (3 + j) ≡ spot place j = omega arith in
      ap (λ (x : List ℕ). take w (drop j x)) (append_assoc c p r)
      ∙ ap (take w) (drop-append-le j c (p ++ r) (omega arith))
      ∙ take-append-le w (drop j c) (p ++ r) (rw length-drop (omega arith))
      ∙ in_block kind (min 504 u) place j w (omega arith) (omega arith)
      ∙ ap (λ (k : ℕ). take w (drop k f)) s)

  -- ---- the array's cells
  decode_table : (n i : ℕ) (bs : List ℕ) → decode n (drop (8 * i) bs) ≡ tab n i (λ k. number_of (value (take 8 (drop (8 * k) bs))))
  unfolding decode tab
  decode_table zero i bs = refl
  decode_table (suc n) i bs =
      let e : 8 * suc i ≡ 8 * i + 8 = omega arith in
      let d : drop 8 (drop (8 * i) bs) ≡ drop (8 * suc i) bs = drop-drop 8 (8 * i) bs ∙ ap (λ (k : ℕ). drop k bs) (sym e) in
      ap (λ (r : List ℤ). number_of (value (take 8 (drop (8 * i) bs))) ∷ r) (ap (decode n) d ∙ decode_table n (suc i) bs)

  take_tab : (n i : ℕ) (bs : List ℕ) → i + n ≤ length bs → take n (drop i bs) ≡ tab n i (λ k. bs # k)
  unfolding tab
  take_tab zero i bs h = refl
  take_tab (suc n) i bs h = rw (drop-cons bs i 0 (omega arith)) (ap (λ (r : List ℕ). bs # i ∷ r) (take_tab n (suc i) bs (omega arith)))

  numbers_are : (kind n place : ℕ) (r : List ℕ) → size_of_block * (place + ceil (8 * n)) ≤ length f → decode n (payload (array kind (8 * n)) place ++ r) ≡ table n (number_at f place)
  numbers_are kind n place r l = decode_table n 0 _ ∙ table_same _ _ n (λ k h. ap (λ (w : List ℕ). number_of (value w)) (window kind (ceil (8 * n)) (8 * n) place (8 * k) 8 r (omega arith) l (omega arith) (omega arith)))

  bytes_are : (kind n place : ℕ) (r : List ℕ) → size_of_block * (place + ceil n) ≤ length f → take n (payload (array kind n) place ++ r) ≡ table n (byte_at f place)
  bytes_are kind n place r l =
      let p : List ℕ = payload (array kind n) place in
      let e = pieces_bytes kind (ceil n) n place (omega arith) l in
      take_tab n 0 (p ++ r) (rw length-append (omega arith))
      ∙ table_same _ _ n (λ k h. sym (first_of k (p ++ r)) ∙ ap (λ (w : List ℕ). w # 0) (window kind (ceil n) n place k 1 r (omega arith) l (omega arith) (omega arith)) ∙ first_of (spot place k) f)
    where
      first_of : (k : ℕ) (l : List ℕ) → take 1 (drop k l) # 0 ≡ l # k
      first_of k l = get_or-take 1 (drop k l) 0 0 (omega arith) ∙ get_or-drop k l 0 0 ∙ ap (λ (i : ℕ). l # i) (add-zero k)

  -- an array, and what is known of the slots behind it
  behind : (kind u : ℕ) (ss : List Slot) (place : ℕ) (y : List ℕ) → payload ss (place + ceil u) ≡ y → payload (array kind u ++ ss) place ≡ payload (array kind u) place ++ y
  behind kind u ss place y h = payload_append (array kind u) ss place ∙ ap (λ (r : List ℕ). payload (array kind u) place ++ r) (ap (λ (k : ℕ). payload ss (place + k)) (pieces_length kind (ceil u) u) ∙ h)

  off : (kind u place : ℕ) (y : List ℕ) → size_of_block * (place + ceil u) ≤ length f → drop u (payload (array kind u) place ++ y) ≡ y
  off kind u place y l = drop_at (payload (array kind u) place) y u (pieces_bytes kind (ceil u) u place (omega arith) l)

  -- ---- the plan that stands at the places
  module _ (m n : ℕ) (l : size_of_block * suc (places_of m n).end ≤ length f) where
    abbrev p : Places
    p = places_of m n

    shape_parts : payload (shape m n) 1
        ≡ payload (array 2 (8 * (m * n))) 1 ++ (payload (array 3 (8 * n)) p.costs ++ (payload (array 4 (8 * n)) p.lowers ++ (payload (array 5 (8 * n)) p.uppers ++ (payload (array 6 n) p.lower_marks ++ (payload (array 7 n) p.upper_marks
        ++ (payload (array 8 (8 * m)) p.rhs ++ (payload (array 9 m) p.ops ++ (payload (array 10 (8 * n)) p.amounts ++ (payload (array 10 (8 * m)) p.mults ++ payload (slot 255 0 ∷ []) p.end)))))))))
    unfolding shape
    shape_parts =
        behind 2 (8 * (m * n)) _ 1 _
        (behind 3 (8 * n) _ p.costs _
        (behind 4 (8 * n) _ p.lowers _
        (behind 5 (8 * n) _ p.uppers _
        (behind 6 n _ p.lower_marks _
        (behind 7 n _ p.upper_marks _
        (behind 8 (8 * m) _ p.rhs _
        (behind 9 m _ p.ops _
        (behind 10 (8 * n) _ p.amounts _
        (behind 10 (8 * m) _ p.mults _ refl)))))))))

    pub plan_payload : plan_from m n (payload (shape m n) 1) ≡ plan_at f m n
    unfolding plan_from plan_at
    plan_payload =
        let i = placed m n p (length f) refl l in
        rw (
          shape_parts,
          off 2 (8 * (m * n)) 1 _ i.coefs_in,
          off 3 (8 * n) p.costs _ i.costs_in,
          off 4 (8 * n) p.lowers _ i.lowers_in,
          off 5 (8 * n) p.uppers _ i.uppers_in,
          off 6 n p.lower_marks _ i.lower_marks_in,
          off 7 n p.upper_marks _ i.upper_marks_in,
          off 8 (8 * m) p.rhs _ i.rhs_in,
          off 9 m p.ops _ i.ops_in,
          off 10 (8 * n) p.amounts _ i.amounts_in,
          numbers_are 2 (m * n) 1 _ i.coefs_in,
          numbers_are 3 n p.costs _ i.costs_in,
          numbers_are 4 n p.lowers _ i.lowers_in,
          numbers_are 5 n p.uppers _ i.uppers_in,
          bytes_are 6 n p.lower_marks _ i.lower_marks_in,
          bytes_are 7 n p.upper_marks _ i.upper_marks_in,
          numbers_are 8 m p.rhs _ i.rhs_in,
          bytes_are 9 m p.ops _ i.ops_in,
          numbers_are 10 n p.amounts _ i.amounts_in,
          numbers_are 10 m p.mults _ i.mults_in,
        )
