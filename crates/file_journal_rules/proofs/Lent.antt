-- A lent journal whose front is the file of some entries, under the test, an entry more and an entry less. Assumes nothing.
use mathlib.Core.Path.{◌≡◌, refl, sym, ap, ap₂, ◌∙◌}
use mathlib.Core.Logic.{◌⊎◌, inl, inr}
use mathlib.Core.Bool.{Bool, true, false}
use mathlib.Core.List.{List, [], ◌∷◌, ◌++◌, append_assoc, append-nil}
use Prim.Native.Nat.{ℕ, zero, suc, ◌+◌, ◌*◌, ◌/◌, ◌%◌, ◌≤◌, ◌<◌}
use native.Mathlib.Omega.{arith}
use lib.Dec.{ltb, eqb}
use lib.ListN.{length, take, drop, set, length-append, length-take, length-drop, take-append-drop}
use lib.Seq.{take_at, drop_at, take_all, take-append-le, drop-append-le, drop-drop, length-take-le, sets, sets-eq, length-sets}
use borrow.Author.Tests.{le-ltb}
use Rattle.doubles.specs.Lists.{◌#◌}
use Rattle.doubles.proofs.Bools.{same?}
use Rattle.file_rules.specs.Block.{block}
use Rattle.file_rules.proofs.Block.{block_length}
use Rattle.file_journal_rules.specs.File.{entry_size, entry_bytes, entry_from, entries_bytes, per_block, journal_blocks, journal_file, journal_refusal}
use Rattle.file_journal_rules.specs.Lent.{tested_of, test_by, test, whole_blocks, tested, room_of, block_at, put_block, entry_at, front, end_behind, pushed, shorter, popped}
use Rattle.file_journal_rules.specs.declared.Entry.{Entry}
use Rattle.file_journal_rules.proofs.File.{Fits, AllFit, none, more, fit_take, fit_drop, fit_append, entry_back, entries_length, end_kind, end_fine, inside, inside_length, count_at, kind_at, tail, behind, inside_block, inside_fine}

-- ---- stores behind a front
pub sets_past : (vs l : List ℕ) (i x : ℕ) → sets (x ∷ l) (suc i) vs ≡ x ∷ sets l i vs
sets_past [] l i x = refl
sets_past (v ∷ vs) l i x = sets_past vs (set l i v) (suc i) x

sets_skip : (p l vs : List ℕ) (i : ℕ) → sets (p ++ l) (length p + i) vs ≡ p ++ sets l i vs
sets_skip [] l vs i = let e : 0 + i ≡ i = omega arith in rw e
sets_skip (x ∷ p) l vs i =
    let e : suc (length p) + i ≡ suc (length p + i) = omega arith in
    ap (λ (k : ℕ). sets (x ∷ (p ++ l)) k vs) e ∙ sets_past vs (p ++ l) (length p + i) x ∙ ap (λ (t : List ℕ). x ∷ t) (sets_skip p l vs i)

replaced : (b l x : List ℕ) → length b ≡ length x → sets (b ++ l) 0 x ≡ x ++ l
replaced b l x e =
    let n = length-append b l in
    let z : 0 + length x ≡ length b = omega arith in
    sets-eq x (b ++ l) 0 (omega arith) ∙ ap (λ (r : List ℕ). x ++ r) (drop_at b l (0 + length x) (sym z))

module _ (F b l : List ℕ) (k : ℕ) (eF : length F ≡ 512 * k) (eb : length b ≡ 512) where
  pub put_at_holds : (x : List ℕ) → length x ≡ 512 → put_block k x (F ++ (b ++ l)) ≡ F ++ (x ++ l)
  put_at_holds x ex =
      let e : 512 * k ≡ length F + 0 = omega arith in
      ap (λ (i : ℕ). sets (F ++ (b ++ l)) i x) e ∙ sets_skip F (b ++ l) x 0 ∙ ap (λ (t : List ℕ). F ++ t) (replaced b l x (eb ∙ sym ex))

  pub block_there : block_at k (F ++ (b ++ l)) ≡ b
  block_there = ap (take 512) (drop_at F (b ++ l) (512 * k) eF) ∙ take_at b l 512 eb

-- ---- the file in parts: its full blocks, then what is open
pub block_size : (place : ℕ) (ds : List Entry) → length ds ≤ per_block → length (block 11 place (inside ds)) ≡ 512
block_size place ds h = let l = inside_length ds in block_length 11 place (inside ds) (omega arith)

pub end_size : (place : ℕ) → length (block 255 place []) ≡ 512
end_size place = block_length 255 place [] (omega arith)

unfoldable fulls : ℕ → ℕ → List Entry → List ℕ
fulls zero place es = []
fulls (suc k) place es = block 11 place (inside (take per_block es)) ++ fulls k (suc place) (drop per_block es)

fulls_length : (k place : ℕ) (es : List Entry) → length (fulls k place es) ≡ 512 * k
unfolding fulls
fulls_length zero place es = refl
fulls_length (suc k) place es =
    let n = length-take per_block es in
    rw (length-append, block_size place (take per_block es) (omega arith), fulls_length k (suc place) (drop per_block es)) (omega arith)

fulls_same : (k place : ℕ) (es fs : List Entry) → per_block * k ≤ length es → fulls k place (es ++ fs) ≡ fulls k place es
unfolding fulls
fulls_same zero place es fs h = refl
fulls_same (suc k) place es fs h =
    let n = length-drop per_block es in
    rw (take-append-le per_block es fs (omega arith), drop-append-le per_block es fs (omega arith)) (ap (λ (r : List ℕ). block 11 place (inside (take per_block es)) ++ r) (fulls_same k (suc place) (drop per_block es) fs (omega arith)))

split_blocks : (k m place : ℕ) (es : List Entry) → journal_blocks (k + m) place es ≡ fulls k place es ++ journal_blocks m (place + k) (drop (per_block * k) es)
unfolding fulls journal_blocks
split_blocks zero m place es =
    let e : 0 + m ≡ m = omega arith in
    let p : place + 0 ≡ place = omega arith in
    ap₂ (λ (i j : ℕ). journal_blocks i j es) e (sym p)
split_blocks (suc k) m place es =
    let e : suc k + m ≡ suc (k + m) = omega arith in
    let p : suc place + k ≡ place + suc k = omega arith in
    let d : per_block + per_block * k ≡ per_block * suc k = omega arith in
    let b : List ℕ = block 11 place (inside (take per_block es)) in
    let F : List ℕ = fulls k (suc place) (drop per_block es) in
    ap (λ (i : ℕ). journal_blocks i place es) e
    ∙ ap (λ (r : List ℕ). b ++ r) (split_blocks k m (suc place) (drop per_block es))
    ∙ ap₂ (λ (i : ℕ) (l : List Entry). b ++ (F ++ journal_blocks m i l)) p (drop-drop (per_block * k) per_block es ∙ ap (λ (i : ℕ). drop i es) d)
    ∙ sym (append_assoc b F (journal_blocks m (place + suc k) (drop (per_block * suc k) es)))

module _ (es : List Entry) where
  abbrev k : ℕ
  k = length es / 22

  abbrev c : ℕ
  c = length es % 22

  abbrev F : List ℕ
  F = fulls k 0 es

  abbrev ds : List Entry
  ds = drop (per_block * k) es

  f_length : length F ≡ 512 * k
  f_length = fulls_length k 0 es

  ds_length : length ds ≡ c
  ds_length = omega (arith, length-drop (per_block * k) es)

  ends_at : c ≡ 0 → journal_file es ≡ F ++ block 255 k []
  unfolding journal_file journal_blocks
  ends_at z =
      let e : (length es + 21) / 22 ≡ k + 0 = omega arith in
      let p : 0 + k ≡ k = omega arith in
      ap (λ (i : ℕ). journal_blocks i 0 es) e ∙ split_blocks k 0 0 es ∙ ap (λ (i : ℕ). F ++ block 255 i []) p

  open_by : (fs : List Entry) → length fs ≤ per_block → journal_blocks 1 (0 + k) fs ≡ block 11 k (inside fs) ++ block 255 (suc k) []
  unfolding journal_blocks
  open_by fs h = let p : 0 + k ≡ k = omega arith in ap₂ (λ (i : ℕ) (l : List Entry). block 11 i (inside l) ++ block 255 (suc i) []) p (take_all per_block fs h)

  opens_at : (c ≡ 0 → ⊥) → journal_file es ≡ F ++ (block 11 k (inside ds) ++ block 255 (suc k) [])
  unfolding journal_file
  opens_at f =
      let e : (length es + 21) / 22 ≡ k + 1 = some (length es) f in
      ap (λ (i : ℕ). journal_blocks i 0 es) e ∙ split_blocks k 1 0 es ∙ ap (λ (r : List ℕ). F ++ r) (open_by ds (omega (arith, ds_length)))
    where
      some : (n : ℕ) → (n % 22 ≡ 0 → ⊥) → (n + 21) / 22 ≡ n / 22 + 1
      some n f = by (n % 22) refl f
        where
          by : (r : ℕ) → n % 22 ≡ r → (r ≡ 0 → ⊥) → (n + 21) / 22 ≡ n / 22 + 1
          by zero e f = absurd (f refl)
          by (suc r) e f = omega arith

  -- with one entry more
  module _ (e : Entry) where
    abbrev longer : List ℕ
    longer = block 11 k (inside (ds ++ (e ∷ [])))

    longer_few : length (ds ++ (e ∷ [])) ≡ suc c
    longer_few = omega (arith, length-append ds (e ∷ []), ds_length)

    longer_size : length longer ≡ 512
    longer_size = block_size k (ds ++ (e ∷ [])) (omega (arith, longer_few))

    more_at : journal_file (es ++ (e ∷ [])) ≡ F ++ (longer ++ block 255 (suc k) [])
    unfolding journal_file
    more_at =
        let n = length-append es (e ∷ []) in
        let w : (length (es ++ (e ∷ [])) + 21) / 22 ≡ k + 1 = omega arith in
        ap (λ (i : ℕ). journal_blocks i 0 (es ++ (e ∷ []))) w
        ∙ split_blocks k 1 0 (es ++ (e ∷ []))
        ∙ ap₂ (λ (f : List ℕ) (l : List Entry). f ++ journal_blocks 1 (0 + k) l) (fulls_same k 0 es (e ∷ []) (omega arith)) (drop-append-le (per_block * k) es (e ∷ []) (omega arith))
        ∙ ap (λ (r : List ℕ). F ++ r) (open_by (ds ++ (e ∷ [])) (omega (arith, longer_few)))

-- ---- the entries of a block, as bytes
entries_append : (a b : List Entry) → entries_bytes (a ++ b) ≡ entries_bytes a ++ entries_bytes b
unfolding entries_bytes
entries_append [] b = refl
entries_append (n ∷ a) b = ap (λ (r : List ℕ). entry_bytes n ++ r) (entries_append a b) ∙ sym (append_assoc (entry_bytes n) (entries_bytes a) (entries_bytes b))

module _ (place : ℕ) (ds fs : List Entry) where
  abbrev rest : List ℕ
  rest = entries_bytes fs ++ tail place (ds ++ fs)

  behind_count : drop 4 (block 11 place (inside (ds ++ fs))) ≡ entries_bytes ds ++ rest
  behind_count = behind place (ds ++ fs) ∙ ap (λ (r : List ℕ). r ++ tail place (ds ++ fs)) (entries_append ds fs) ∙ append_assoc (entries_bytes ds) (entries_bytes fs) (tail place (ds ++ fs))

  front_is : front (length ds) (block 11 place (inside (ds ++ fs))) ≡ entries_bytes ds
  front_is = ap (take (entry_size * length ds)) behind_count ∙ take_at (entries_bytes ds) rest (entry_size * length ds) (entries_length ds)

  past_is : drop (4 + entry_size * length ds) (block 11 place (inside (ds ++ fs))) ≡ rest
  past_is = sym (drop-drop (entry_size * length ds) 4 (block 11 place (inside (ds ++ fs)))) ∙ ap (drop (entry_size * length ds)) behind_count ∙ drop_at (entries_bytes ds) rest (entry_size * length ds) (entries_length ds)

one_entry : (e : Entry) → entries_bytes (e ∷ []) ≡ entry_bytes e
unfolding entries_bytes
one_entry e = append-nil (entry_bytes e)

-- ---- a lent journal holds these entries, the oldest first
pub record Holds (j : List ℕ) (es : List Entry) : Type 0 where
  pub fit : AllFit es
  pub few : (length es + 21) / 22 < 65536
  pub room : List ℕ
  pub is : j ≡ journal_file es ++ room

fit_split : (fs : List Entry) (e : Entry) → AllFit (fs ++ (e ∷ [])) → AllFit fs × Fits e
fit_split [] e (more h g) = (none, h)
fit_split (n ∷ fs) e (more h g) = let r = fit_split fs e g in (more h r.0, r.1)

behind_none : (c k : ℕ) (j : List ℕ) → (c ≡ 0 → ⊥) → end_behind c k j ≡ j
unfolding end_behind
behind_none zero k j f = absurd (f refl)
behind_none (suc c) k j f = refl

room_few : (j : List ℕ) (n : ℕ) → n < room_of j → (512 * (n / 22) + 1024 ≤ length j) × (n / 22 + 1 < 65536)
unfolding room_of whole_blocks
room_few j n h = (omega arith, omega arith)

-- ---- an entry more
module _ (j : List ℕ) (es : List Entry) (e : Entry) (h : Holds j es) (f : Fits e) (free : length es < room_of j) where
  abbrev K : ℕ
  K = length es / 22

  abbrev C : ℕ
  C = length es % 22

  -- the block of the new entry, where the old one held the others
  inside_more : (b : List ℕ) → front C b ≡ entries_bytes (ds es) → block 11 K (suc C ∷ (front C b ++ entry_bytes e)) ≡ longer es e
  inside_more b q =
      let a : front C b ++ entry_bytes e ≡ entries_bytes (ds es ++ (e ∷ [])) = ap₂ (λ (x y : List ℕ). x ++ y) q (sym (one_entry e)) ∙ sym (entries_append (ds es) (e ∷ [])) in
      ap₂ (λ (n : ℕ) (l : List ℕ). block 11 K (n ∷ l)) (sym (longer_few es e)) a

  few_more : (length (es ++ (e ∷ [])) + 21) / 22 < 65536
  few_more = omega (arith, length-append es (e ∷ []), (room_few j (length es) free).1)

  pushed_open : (C ≡ 0 → ⊥) → Holds (pushed (length es) e j) (es ++ (e ∷ []))
  unfolding pushed
  pushed_open z =
      let r = h.room in
      let E : List ℕ = block 255 (suc K) [] in
      let B : List ℕ = block 11 K (inside (ds es)) in
      let nd : ds es ++ [] ≡ ds es = append-nil (ds es) in
      let J : j ≡ F es ++ (B ++ (E ++ r)) = h.is ∙ ap (λ (x : List ℕ). x ++ r) (opens_at es z) ∙ append_assoc (F es) (B ++ E) r ∙ ap (λ (x : List ℕ). F es ++ x) (append_assoc B E r) in
      let Bl : length B ≡ 512 = block_size K (ds es) (omega (arith, ds_length es)) in
      let bt : block_at K j ≡ B = ap (block_at K) J ∙ block_there (F es) B (E ++ r) K (f_length es) Bl in
      let fr : front C (block_at K j) ≡ entries_bytes (ds es) =
      ap (front C) bt ∙ ap (λ (n : ℕ). front n B) (sym (ds_length es)) ∙ ap (λ (l : List Entry). front (length (ds es)) (block 11 K (inside l))) (sym nd) ∙ front_is K (ds es) []
      in
      let X = inside_more (block_at K j) fr in
      record {
        fit = fit_append h.fit (more f none);
        few = few_more;
        room = r;
        is =
            behind_none C (suc K) _ z
            ∙ ap₂ (λ (x y : List ℕ). put_block K x y) X J
            ∙ put_at_holds (F es) B (E ++ r) K (f_length es) Bl (longer es e) (longer_size es e)
            ∙ ap (λ (x : List ℕ). F es ++ x) (sym (append_assoc (longer es e) E r))
            ∙ sym (append_assoc (F es) (longer es e ++ E) r)
            ∙ ap (λ (x : List ℕ). x ++ r) (sym (more_at es e));
      }

  pushed_first : C ≡ 0 → Holds (pushed (length es) e j) (es ++ (e ∷ []))
  unfolding pushed end_behind entries_bytes
  pushed_first z =
      let r = h.room in
      let E : List ℕ = block 255 (suc K) [] in
      let B : List ℕ = block 255 K [] in
      let J : j ≡ F es ++ (B ++ r) = h.is ∙ ap (λ (x : List ℕ). x ++ r) (ends_at es z) ∙ append_assoc (F es) B r in
      let n : length j ≡ 512 * K + (512 + length r) = ap length J ∙ length-append (F es) (B ++ r) ∙ ap₂ (λ (x y : ℕ). x + y) (f_length es) (length-append B r ∙ ap (λ (x : ℕ). x + length r) (end_size K)) in
      let long : 512 ≤ length r = omega (arith, (room_few j (length es) free).0) in
      let t : List ℕ = take 512 r in
      let u : List ℕ = drop 512 r in
      let no-ds : ds es ≡ [] = empty (ds es) (omega (arith, ds_length es)) in
      let fr : front C (block_at K j) ≡ entries_bytes (ds es) = ap (λ (x : ℕ). front x (block_at K j)) z ∙ ap entries_bytes (sym no-ds) in
      let X = inside_more (block_at K j) fr in
      let L : length (F es ++ longer es e) ≡ 512 * suc K = omega (arith, length-append (F es) (longer es e), f_length es, longer_size es e) in
      record {
        fit = fit_append h.fit (more f none);
        few = few_more;
        room = u;
        is =
            ap (λ (x : ℕ). end_behind x (suc K) (put_block K (block 11 K (suc C ∷ (front C (block_at K j) ++ entry_bytes e))) j)) z
            ∙ ap (put_block (suc K) E) (ap₂ (λ (x y : List ℕ). put_block K x y) X J
            ∙ put_at_holds (F es) B r K (f_length es) (end_size K) (longer es e) (longer_size es e)
            ∙ ap (λ (x : List ℕ). F es ++ (longer es e ++ x)) (sym (take-append-drop 512 r))
            ∙ sym (append_assoc (F es) (longer es e) (t ++ u)))
            ∙ put_at_holds (F es ++ longer es e) t u (suc K) L (length-take-le 512 r long) E (end_size (suc K))
            ∙ append_assoc (F es) (longer es e) (E ++ u)
            ∙ ap (λ (x : List ℕ). F es ++ x) (sym (append_assoc (longer es e) E u))
            ∙ sym (append_assoc (F es) (longer es e ++ E) u)
            ∙ ap (λ (x : List ℕ). x ++ u) (sym (more_at es e));
      }
    where
      empty : (l : List Entry) → length l ≡ 0 → l ≡ []
      empty [] q = refl
      empty (x ∷ l) q = absurd (omega arith)

  pub pushed_holds : Holds (pushed (length es) e j) (es ++ (e ∷ []))
  pushed_holds = by (same? C 0)
    where
      by : (C ≡ 0) ⊎ (C ≡ 0 → ⊥) → Holds (pushed (length es) e j) (es ++ (e ∷ []))
      by (inl z) = pushed_first z
      by (inr z) = pushed_open z

-- ---- an entry less
module _ (j : List ℕ) (es : List Entry) (e : Entry) (h : Holds j (es ++ (e ∷ []))) where
  abbrev K' : ℕ
  K' = length es / 22

  abbrev C' : ℕ
  C' = length es % 22

  abbrev after : List ℕ
  after = block 255 (suc K') [] ++ h.room

  there : j ≡ F es ++ (longer es e ++ after)
  there =
      h.is
      ∙ ap (λ (x : List ℕ). x ++ h.room) (more_at es e)
      ∙ append_assoc (F es) (longer es e ++ block 255 (suc K') []) h.room
      ∙ ap (λ (x : List ℕ). F es ++ x) (append_assoc (longer es e) (block 255 (suc K') []) h.room)

  last_block : block_at K' j ≡ longer es e
  last_block = ap (block_at K') there ∙ block_there (F es) (longer es e) after K' (f_length es) (longer_size es e)

  pub last_entry : entry_at (length es) j ≡ e
  unfolding entry_at
  last_entry =
      let r : List ℕ = tail K' (ds es ++ (e ∷ [])) in
      ap (λ (b : List ℕ). entry_from (drop (4 + entry_size * C') b)) last_block
      ∙ ap (λ (n : ℕ). entry_from (drop (4 + entry_size * n) (longer es e))) (sym (ds_length es))
      ∙ ap entry_from (past_is K' (ds es) (e ∷ []))
      ∙ ap (λ (x : List ℕ). entry_from (x ++ r)) (one_entry e)
      ∙ entry_back e (fit_split es e h.fit).1 r

  few_less : (length es + 21) / 22 < 65536
  few_less = omega (arith, length-append es (e ∷ []), h.few)

  shorter_is : (c : ℕ) → C' ≡ suc c → shorter (suc c) K' (longer es e) ≡ block 11 K' (inside (ds es))
  unfolding shorter
  shorter_is c z =
      let n : suc c ≡ length (ds es) = sym z ∙ sym (ds_length es) in
      ap₂ (λ (x y : ℕ). block 11 K' (x ∷ front y (longer es e))) n n ∙ ap (λ (l : List ℕ). block 11 K' (length (ds es) ∷ l)) (front_is K' (ds es) (e ∷ []))

  -- the journal with another block in the last one's place
  put_last : (x : List ℕ) → length x ≡ 512 → put_block K' x j ≡ F es ++ (x ++ after)
  put_last x q = ap (put_block K' x) there ∙ put_at_holds (F es) (longer es e) after K' (f_length es) (longer_size es e) x q

  pub popped_holds : Holds (popped (length es) j) es
  unfolding popped shorter
  popped_holds = by C' refl
    where
      by : (c : ℕ) → C' ≡ c → Holds (put_block K' (shorter c K' (block_at K' j)) j) es
      by zero z = record {
        fit = (fit_split es e h.fit).0;
        few = few_less;
        room = after;
        is = put_last (block 255 K' []) (end_size K') ∙ sym (append_assoc (F es) (block 255 K' []) after) ∙ ap (λ (x : List ℕ). x ++ after) (sym (ends_at es z));
      }
      by (suc c) z =
          let B : List ℕ = block 11 K' (inside (ds es)) in
          let E : List ℕ = block 255 (suc K') [] in
          let s : shorter (suc c) K' (block_at K' j) ≡ B = ap (shorter (suc c) K') last_block ∙ shorter_is c z in
          record {
            fit = (fit_split es e h.fit).0;
            few = few_less;
            room = h.room;
            is =
                ap (λ (x : List ℕ). put_block K' x j) s
                ∙ put_last B (block_size K' (ds es) (omega (arith, ds_length es)))
                ∙ ap (λ (x : List ℕ). F es ++ x) (sym (append_assoc B E h.room))
                ∙ sym (append_assoc (F es) (B ++ E) h.room)
                ∙ ap (λ (x : List ℕ). x ++ h.room) (sym (opens_at es (λ q. omega arith)));
          }

-- ---- the test finds them
pub test_one : (w place n : ℕ) (b r : List ℕ) (end : Bool) → length b ≡ 512 → journal_refusal (ltb n (per_block * place)) place b ≡ 0 → eqb (b # 0) 255 ≡ end
    → test (suc w) place n (b ++ r) ≡ test_by 0 end n (test w (suc place) (n + b # 3) r)
unfolding test
test_one w place n b r end l ok k =
    let t : take 512 (b ++ r) ≡ b = take_at b r 512 l in
    let d : drop 512 (b ++ r) ≡ r = drop_at b r 512 l in
    ap₂ (λ (x y : List ℕ). test_by (journal_refusal (ltb n (per_block * place)) place x) (eqb (x # 0) 255) n (test w (suc place) (n + x # 3) y)) t d
    ∙ ap₂ (λ (x : ℕ) (y : Bool). test_by x y n (test w (suc place) (n + b # 3) r)) ok k

test_blocks : (k w place n : ℕ) {es : List Entry} (r : List ℕ) → AllFit es → length es ≤ per_block * k → per_block * k < length es + per_block → place + k < 65536 → (1 ≤ k → n ≡ per_block * place) → k < w
    → test w place n (journal_blocks k place es ++ r) ≡ tested_of 0 (n + length es)
unfolding journal_blocks test_by
test_blocks k zero place n r g a b p q l = absurd (omega arith)
test_blocks zero (suc w) place n {es} r g a b p q l =
    let z : n ≡ n + length es = omega arith in
    test_one w place n (block 255 place []) r true (end_size place) (end_fine _ place (omega arith)) (rw (end_kind place)) ∙ ap (tested_of 0) z
test_blocks (suc k) (suc w) place n {es} r g a b p q l =
    let m = length-take per_block es in
    let o = length-drop per_block es in
    let ts : List Entry = take per_block es in
    let B : List ℕ = block 11 place (inside ts) in
    let R : List ℕ = journal_blocks k (suc place) (drop per_block es) in
    let low : 1 ≤ length ts = omega arith in
    let high : length ts ≤ per_block = omega arith in
    let full : ltb n (per_block * place) ≡ false = le-ltb n (per_block * place) (omega (arith, q (omega arith))) in
    let ok : journal_refusal (ltb n (per_block * place)) place B ≡ 0 = rw full (inside_fine place ts (fit_take per_block g) low high (omega arith)) in
    let s : n + length ts + length (drop per_block es) ≡ n + length es = omega arith in
    ap (test (suc w) place n) (append_assoc B R r)
    ∙ test_one w place n B (R ++ r) false (inside_block place ts (fit_take per_block g) low high) ok (rw (kind_at place ts))
    ∙ ap (λ (c : ℕ). test w (suc place) (n + c) (R ++ r)) (count_at place ts)
    ∙ test_blocks k w (suc place) (n + length ts) r (fit_drop per_block g) (omega arith) (omega arith) (omega arith) (λ i. omega (arith, q (omega arith))) (omega arith)
    ∙ ap (tested_of 0) s

pub blocks_size : (k place : ℕ) (es : List Entry) → length (journal_blocks k place es) ≡ 512 * suc k
unfolding journal_blocks
blocks_size zero place es = end_size place
blocks_size (suc k) place es =
    let m = length-take per_block es in
    rw (length-append, block_size place (take per_block es) (omega arith), blocks_size k (suc place) (drop per_block es)) (omega arith)

pub whole_more : (j : List ℕ) (k : ℕ) → k < 65536 → 512 * suc k ≤ length j → k < whole_blocks j
unfolding whole_blocks
whole_more j k h l = omega arith

pub tested_holds : (j : List ℕ) (es : List Entry) → Holds j es → tested j ≡ tested_of 0 (length es)
unfolding tested journal_file
tested_holds j es h =
    let k : ℕ = (length es + 21) / 22 in
    let n : length j ≡ 512 * suc k + length h.room = ap length h.is ∙ length-append (journal_blocks k 0 es) h.room ∙ ap (λ (x : ℕ). x + length h.room) (blocks_size k 0 es) in
    let z : 0 + length es ≡ length es = omega arith in
    ap (test (whole_blocks j) 0 0) h.is
    ∙ test_blocks k (whole_blocks j) 0 0 h.room h.fit (omega arith) (omega arith) (omega (arith, h.few)) (λ i. refl) (whole_more j k h.few (omega arith))
    ∙ ap (tested_of 0) z

-- ---- the lent bytes stay as many
behind_length : (c k : ℕ) (l : List ℕ) → length (end_behind c k l) ≡ length l
unfolding end_behind
behind_length zero k l = length-sets l (512 * k) (block 255 k [])
behind_length (suc c) k l = refl

pub pushed_length : (n : ℕ) (e : Entry) (j : List ℕ) → length (pushed n e j) ≡ length j
unfolding pushed
pushed_length n e j = behind_length (n % 22) (suc (n / 22)) _ ∙ length-sets j (512 * (n / 22)) (block 11 (n / 22) (suc (n % 22) ∷ (front (n % 22) (block_at (n / 22) j) ++ entry_bytes e)))

pub popped_length : (m : ℕ) (j : List ℕ) → length (popped m j) ≡ length j
unfolding popped
popped_length m j = length-sets j (512 * (m / 22)) (shorter (m % 22) (m / 22) (block_at (m / 22) j))

-- ---- an empty journal
pub begun_holds : (j : List ℕ) → 512 ≤ length j → Holds (put_block 0 (block 255 0 []) j) []
unfolding journal_file journal_blocks
begun_holds j l = record {
  fit = none;
  few = omega arith;
  room = drop 512 j;
  is = ap (put_block 0 (block 255 0 [])) (sym (take-append-drop 512 j)) ∙ put_at_holds [] (take 512 j) (drop 512 j) 0 refl (length-take-le 512 j l) (block 255 0 []) (end_size 0);
}
