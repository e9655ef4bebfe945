-- The journal's file, fed to the sheet that it was begun with, gives the sheet that it was kept with. Assumes nothing.
use mathlib.Core.Path.{◌≡◌, refl, sym, ap, ap₂, ◌∙◌, subst}
use mathlib.Core.Bool.{Bool, true, false, ◌||◌}
use mathlib.Core.List.{List, [], ◌∷◌, ◌++◌}
use Prim.Native.Nat.{ℕ, zero, suc, ◌+◌, ◌*◌, ◌/◌, ◌≤◌, ◌<◌}
use native.Mathlib.Omega.{arith}
use lib.Dec.{leb, eqb}
use lib.ListN.{length, take, drop, length-take, length-drop}
use lib.Seq.{sets, length-sets}
use lib.IntN.{ℤ, pos, negsuc, nat_abs}
use lib.Signed.{mag}
use borrow.Author.Tests.{le-leb, lt-leb}
use Rattle.doubles.specs.Lists.{◌#◌}
use Rattle.doubles.specs.Loop.{each}
use Rattle.doubles.specs.Limits.{max_right_side}
use Rattle.doubles.proofs.Bools.{by_test}
use Rattle.sheet_rules.specs.Sheet.{Plan, Sheet}
use Rattle.sheet_rules.specs.Verdict.{is_zero}
use Rattle.sheet_rules.specs.Edit.{edit, edit_refusal, old_number, old_mark, uses_column, uses_row}
use Rattle.sheet_rules.specs.Words.{Index, NumberIn, Sound}
use Rattle.sheet_rules.specs.declared.Edit.{Edit}
use Rattle.file_rules.specs.Block.{size_of_block, block}
use Rattle.file_rules.proofs.Block.{block_length}
use Rattle.file_journal_rules.specs.Undo.{edit_of}
use Rattle.file_journal_rules.specs.Journal.{tidy, entry_of, forth, used, taken, unless_so, feed_refusal}
use Rattle.file_journal_rules.specs.File.{entries_from, clean, per_block, journal_blocks, journal_file}
use Rattle.file_journal_rules.specs.Feed.{Feed, feed_of, apply_by, fed_entry, go_on_with, apply_all, says_by, after_block, take_block, feed}
use Rattle.file_journal_rules.specs.declared.Entry.{Entry}
use Rattle.file_journal_rules.proofs.File.{Fits, AllFit, none as none-fit, more as more-fit, end_kind, end_fine, inside, count_at, kind_at, inside_back, inside_block, inside_fine}
use Rattle.file_journal_rules.proofs.Feed.{pieces, whole, front_is, joined, all_pieces}
use Rattle.file_journal_rules.proofs.Undo.{passed}
use Rattle.file_journal_rules.proofs.Journal.{feeds, tidy_accepted}

-- ---- entries that a sheet takes, one after the other
pub data Replays : Sheet → List Entry → Sheet → Type 0 where
  done : {s : Sheet} → Replays s [] s
  next : {s t : Sheet} {n : Entry} {es : List Entry} → feed_refusal s n ≡ 0 → Fits n → Replays (edit s (forth n)) es t → Replays s (n ∷ es) t

pub replays_fit : {s t : Sheet} {es : List Entry} → Replays s es t → AllFit es
replays_fit done = none-fit
replays_fit (next w h g) = more-fit h (replays_fit g)

applies : {s t : Sheet} {es : List Entry} → Replays s es t → apply_all es s ≡ (0, t)
unfolding apply_all apply_by go_on_with fed_entry
applies done = refl
applies (next w h g) = rw w (applies g)

pub record Split (s : Sheet) (k : ℕ) (es : List Entry) (t : Sheet) : Type 0 where
  pub between : Sheet
  pub front : Replays s (take k es) between
  pub back : Replays between (drop k es) t

split : {s t : Sheet} {es : List Entry} (k : ℕ) → Replays s es t → Split s k es t
split {s} zero g = record { between = s; front = done; back = g }
split {s} (suc k) done = record { between = s; front = done; back = done }
split {s = s} (suc k) (next {n = n} w h g) = let r = split {s = edit s (forth n)} k g in record { between = r.between; front = next w h r.front; back = r.back }

-- ---- one block, and the end
taken_by : (s : Sheet) (place waits phase : ℕ) (m b : List ℕ) (end : Bool) → take size_of_block m ≡ b → says_by (leb 2 phase) phase place b ≡ 0 → eqb (b # 0) 255 ≡ end
    → take_block (feed_of s place waits 0 phase m) ≡ after_block 0 end (feed_of s place waits 0 phase m) b
unfolding take_block
taken_by s place waits phase m b end e ok k =
    let f : Feed = feed_of s place waits 0 phase m in
    ap (λ (d : List ℕ). after_block (says_by (leb 2 phase) phase place d) (eqb (d # 0) 255) f d) e
    ∙ ap (λ (n : ℕ). after_block n (eqb (b # 0) 255) f b) ok
    ∙ ap (λ (y : Bool). after_block 0 y f b) k

module _ (s t : Sheet) (place : ℕ) (m : List ℕ) (long : size_of_block ≤ length m) (p : place < 65536) where
  module _ (ds : List Entry) (low : 1 ≤ length ds) (high : length ds ≤ per_block) (g : Replays s ds t) where
    abbrev b : List ℕ
    b = block 11 place (inside ds)

    after : (f : Feed) → f.sheet ≡ s → after_block 0 false f b ≡ feed_of t (suc f.place) 0 0 (unless_so 1 (leb per_block (length ds))) f.memory
    unfolding after_block
    after f e =
        let all : apply_all (entries_from (b # 3) (drop 4 b)) f.sheet ≡ (0, t) = rw (e, inside_back place ds (replays_fit g)) (applies g) in
        ap₂ (λ (y : ℕ × Sheet) (c : ℕ). feed_of y.1 (suc f.place) 0 y.0 (unless_so 1 (leb per_block c)) f.memory) all (count_at place ds)

    pub fed_block : feed b (feed_of s place 0 0 0 m) ≡ feed_of t (suc place) 0 0 (unless_so 1 (leb per_block (length ds))) (sets m 0 b)
    unfolding says_by
    fed_block =
        let l = inside_block place ds (replays_fit g) low high in
        whole s place 0 b m l
        ∙ taken_by s place size_of_block 0 (sets m 0 b) b false (front_is b m l long) (inside_fine place ds (replays_fit g) low high p) (rw (kind_at place ds))
        ∙ after _ refl

  fed_end : (phase : ℕ) → phase ≤ 1 → feed (block 255 place []) (feed_of s place 0 0 phase m) ≡ feed_of s (suc place) 0 0 2 (sets m 0 (block 255 place []))
  unfolding says_by after_block
  fed_end phase h =
      let l = block_length 255 place [] (omega arith) in
      let e : List ℕ = block 255 place [] in
      whole s place phase e m l
      ∙ taken_by s place size_of_block phase (sets m 0 e) e true (front_is e m l long) (rw (lt-leb 2 phase (omega arith)) (end_fine (eqb phase 1) place p)) (rw (end_kind place))

-- ---- the whole file
-- where more than the end is left a block of c entries is full
later : (k c : ℕ) → (1 ≤ k → per_block ≤ c) → (unless_so 1 (leb per_block c) ≤ 1) × (1 ≤ k → unless_so 1 (leb per_block c) ≡ 0)
unfolding unless_so
later k c h = (by_test (leb per_block c) (λ t. rw t (omega arith)) (λ t. rw t (omega arith)), λ l. rw (le-leb per_block c (h l)))

pub blocks_replay : (k place phase : ℕ) (m : List ℕ) {s t : Sheet} {es : List Entry} → size_of_block ≤ length m → phase ≤ 1 → (1 ≤ k → phase ≡ 0)
    → Replays s es t → length es ≤ per_block * k → per_block * k < length es + per_block → place + k < 65536
    → (n : List ℕ) × (feed (journal_blocks k place es) (feed_of s place 0 0 phase m) ≡ feed_of t (suc (place + k)) 0 0 2 n)
unfolding journal_blocks
blocks_replay zero place phase m {s} {t} {es} long h z g a b p =
    let q : place + 0 ≡ place = omega arith in
    (sets m 0 (block 255 place []), rw q (fed_end s t place m long (omega arith) phase h ∙ ap (λ (y : Sheet). feed_of y (suc place) 0 0 2 (sets m 0 (block 255 place []))) (nothing g (omega arith))))
  where
    nothing : {s t : Sheet} {es : List Entry} → Replays s es t → length es ≤ 0 → s ≡ t
    nothing done h = refl
    nothing (next w f g) h = absurd (omega arith)
blocks_replay (suc k) place phase m {s} {t} {es} long h z g a b p =
    let r = split per_block g in
    let n = length-take per_block es in
    let o = length-drop per_block es in
    let q : place + suc k ≡ suc place + k = omega arith in
    let c : List ℕ = block 11 place (inside (take per_block es)) in
    let y = later k (length (take per_block es)) (λ l. omega arith) in
    let ih = blocks_replay k (suc place) (unless_so 1 (leb per_block (length (take per_block es)))) (sets m 0 c) (rw (length-sets m 0 c) long) y.0 y.1 r.back (omega arith) (omega arith) (omega arith) in (
      ih.0,
      ap (λ (y : ℕ). feed (c ++ journal_blocks k (suc place) (drop per_block es)) (feed_of s place 0 0 y m)) (z (omega arith))
          ∙ pieces c (journal_blocks k (suc place) (drop per_block es)) (feed_of s place 0 0 0 m)
          ∙ ap (feed (journal_blocks k (suc place) (drop per_block es))) (fed_block s r.between place m long (omega arith) (take per_block es) (omega arith) (omega arith) r.front)
          ∙ rw q ih.1,
    )

pub file_replays : (m : List ℕ) {s t : Sheet} {es : List Entry} → size_of_block ≤ length m → Replays s es t → (length es + 21) / 22 < 65536 → (n : List ℕ) × (feed (journal_file es) (feed_of s 0 0 0 0 m) ≡ feed_of t (suc ((length es + 21) / 22)) 0 0 2 n)
unfolding journal_file
file_replays m {s} {t} {es} long g p =
    let k : ℕ = (length es + 21) / 22 in
    let h = blocks_replay k 0 0 m long (omega arith) (λ l. refl) g (omega arith) (omega arith) (omega arith) in
    let q : 0 + k ≡ k = omega arith in
    (h.0, h.1 ∙ ap (λ (y : ℕ). feed_of t (suc y) 0 0 2 h.0) q)

-- ---- the entries of accepted edits can be replayed
pub data Recorded : Sheet → List Entry → Sheet → Type 0 where
  done : {s : Sheet} → Recorded s [] s
  next : {s t : Sheet} {es : List Entry} (e : Edit) → edit_refusal s e ≡ 0 → Recorded (edit s e) es t → Recorded s (entry_of s.plan e ∷ es) t

mag_le : (z : ℤ) → mag z ≤ nat_abs z
mag_le (pos n) = omega arith
mag_le (negsuc n) = omega arith

-- the old number and mark
module _ (s : Sheet) (i j : ℕ) (z : ℤ) where
  old_fits : (k : ℕ) → 1 ≤ k → k ≤ 9 → Index s.plan (edit_of k i j z) → Sound (edit_of k i j z) s → (nat_abs (old_number s.plan (edit_of k i j z)) ≤ max_right_side) × (old_mark s.plan (edit_of k i j z) ≤ 1)
  unfolding old_number old_mark
  old_fits zero h l x o = absurd (omega arith)
  old_fits (suc zero) h l x o = (omega (arith, o.arrays_in.amounts_in j (x.column_in_holds refl)), omega arith)
  old_fits (suc (suc zero)) h l x o = (omega (arith, o.arrays_in.costs_in j (x.column_in_holds refl)), omega arith)
  old_fits (suc (suc (suc zero))) h l x o = let b = o.arrays_in.lowers_in j (x.column_in_holds refl) in (omega (arith, b.small), b.known)
  old_fits (suc (suc (suc (suc zero)))) h l x o = let b = o.arrays_in.uppers_in j (x.column_in_holds refl) in (omega (arith, b.small), b.known)
  old_fits (suc (suc (suc (suc (suc zero))))) h l x o = (omega (arith, o.arrays_in.rhs_in i (x.row_within refl)), omega arith)
  old_fits (suc (suc (suc (suc (suc (suc zero)))))) h l x o = (omega (arith, o.row_within refl j (x.column_in_holds refl)), omega arith)
  old_fits (suc (suc (suc (suc (suc (suc (suc zero))))))) h l x o = (omega (arith, o.arrays_in.mults_in i (x.row_within refl)), omega arith)
  old_fits (suc (suc (suc (suc (suc (suc (suc (suc zero)))))))) h l x o = let b = o.arrays_in.lowers_in j (x.column_in_holds refl) in (omega (arith, b.small), b.known)
  old_fits (suc (suc (suc (suc (suc (suc (suc (suc (suc zero))))))))) h l x o = let b = o.arrays_in.uppers_in j (x.column_in_holds refl) in (omega (arith, b.small), b.known)
  old_fits (suc (suc (suc (suc (suc (suc (suc (suc (suc (suc k)))))))))) h l x o = absurd (omega arith)

  new_fits : (k : ℕ) → 1 ≤ k → k ≤ 9 → NumberIn (edit_of k i j z) → nat_abs (taken (leb k 7) z) ≤ max_right_side
  unfolding taken
  new_fits zero h l n = absurd (omega arith)
  new_fits (suc zero) h l n = omega (arith, n.amount_in refl)
  new_fits (suc (suc zero)) h l n = omega (arith, n.cost_in refl)
  new_fits (suc (suc (suc zero))) h l n = omega (arith, n.lower_in refl)
  new_fits (suc (suc (suc (suc zero)))) h l n = omega (arith, n.upper_in refl)
  new_fits (suc (suc (suc (suc (suc zero))))) h l n = omega (arith, n.right_in refl)
  new_fits (suc (suc (suc (suc (suc (suc zero)))))) h l n = omega (arith, n.coef_in refl)
  new_fits (suc (suc (suc (suc (suc (suc (suc zero))))))) h l n = omega (arith, n.mult_in refl)
  new_fits (suc (suc (suc (suc (suc (suc (suc (suc zero)))))))) h l n = omega arith
  new_fits (suc (suc (suc (suc (suc (suc (suc (suc (suc zero))))))))) h l n = omega arith
  new_fits (suc (suc (suc (suc (suc (suc (suc (suc (suc (suc k)))))))))) h l n = absurd (omega arith)

used_fits : (b : Bool) (i m : ℕ) → m ≤ 65535 → (b ≡ true → i < m) → used b i < 65536
unfolding used
used_fits true i m l h = omega (arith, h refl)
used_fits false i m l h = omega arith

-- what its kind doesn't use is 0
unused_is : (b : Bool) (i : ℕ) → (b || eqb (used b i) 0) ≡ true
unfolding used
unused_is true i = refl
unused_is false i = refl

untaken_is : (b : Bool) (z : ℤ) → (b || is_zero (taken b z)) ≡ true
unfolding taken is_zero
untaken_is true z = refl
untaken_is false z = refl

entry_clean : (p : Plan) (e : Edit) → clean (entry_of p e) ≡ true
unfolding clean
entry_clean p e = rw (unused_is (uses_row e.kind) e.row, unused_is (uses_column e.kind) e.column, untaken_is (leb e.kind 7) e.number)

pub entry_fits : (s : Sheet) (e : Edit) → edit_refusal s e ≡ 0 → Fits (entry_of s.plan e)
entry_fits s e w =
    let h = passed s e w in
    let g = passed s (tidy e) (tidy_accepted s e w) in
    let y = h.placed.today in
    let z = h.placed.sized in
    let o = old_fits s (tidy e).row (tidy e).column (tidy e).number e.kind y.first y.last g.placed.index g.before in
    record {
      kind_fits = omega (arith, y.last);
      row_fits = used_fits (uses_row e.kind) e.row s.plan.rows (omega (arith, z.rows_fit)) h.placed.index.row_within;
      column_fits = used_fits (uses_column e.kind) e.column s.plan.cols (omega (arith, z.cols_fit)) h.placed.index.column_in_holds;
      old_fits = omega (arith, o.0, mag_le (old_number s.plan (tidy e)));
      new_fits = omega (arith, new_fits s e.row e.column e.number e.kind y.first y.last h.number, mag_le (tidy e).number);
      before_fits = omega (arith, o.1);
      is_clean = entry_clean s.plan e;
    }

pub recorded_replays : {s t : Sheet} {es : List Entry} → Recorded s es t → Replays s es t
recorded_replays done = done
recorded_replays (next {s} {t} {es} e w g) =
    let f = feeds s e w in
    next f.0 (entry_fits s e w) (subst (λ (y : Sheet). Replays y es t) (sym f.1) (recorded_replays g))

-- the file of a journal, fed in pieces cut anywhere to the sheet that it was begun with
pub journal_theorem : (m : List ℕ) {s t : Sheet} {es : List Entry} → size_of_block ≤ length m → Recorded s es t → (length es + 21) / 22 < 65536 → (ps : List (List ℕ)) → joined ps ≡ journal_file es
    → (n : List ℕ) × (each ps feed (feed_of s 0 0 0 0 m) ≡ feed_of t (suc ((length es + 21) / 22)) 0 0 2 n)
journal_theorem m {s} long g p ps e =
    let h = file_replays m long (recorded_replays g) p in
    (h.0, all_pieces ps (feed_of s 0 0 0 0 m) ∙ ap (λ (bs : List ℕ). feed bs (feed_of s 0 0 0 0 m)) e ∙ h.1)
