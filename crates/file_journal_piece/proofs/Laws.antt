-- A feed's bytes, one after another. Assumes nothing.
use mathlib.Core.Path.{◌≡◌, refl, sym, ap, ap₂, ◌∙◌}
use mathlib.Core.Bool.{Bool, true, false}
use mathlib.Core.List.{List, [], ◌∷◌}
use Prim.Native.Nat.{ℕ, zero, suc, ◌+◌, ◌-◌, ◌≤◌, ◌<◌}
use native.Mathlib.Omega.{arith}
use lib.Dec.{leb, eqb}
use lib.ListN.{length, take, drop, set, drop_of_length-le}
use lib.Seq.{drop-cons}
use borrow.Author.Tests.{leb-false}
use Rattle.doubles.specs.Lists.{◌#◌, over}
use Rattle.doubles.specs.Loop.{each}
use Rattle.sheet_rules.specs.Sheet.{Sheet}
use Rattle.file_rules.specs.Block.{size_of_block}
use Rattle.file_journal_rules.specs.Feed.{Feed, feed_of, says_by, after_block, take_block, take_whole, feed_by, feed_byte, feed, feed_fine, feed_from, cells_of, Fed, fed_of, left_by, fed_by}
use Rattle.file_journal_rules.specs.Promises.{Feeds}
use Rattle.file_journal_rules.proofs.Feed.{stays_refused}
use Rattle.file_journal_take.specs.Steps.{Leaves}
use Rattle.file_journal_take.proofs.Laws.{lengths}

-- ---- one byte
waits_by : (s : Sheet) (w c : List ℕ) (x : ℕ) → 4 ≤ length c → c # 2 ≡ 0 → feed_from s (set w (c # 1) x) (set c 1 (c # 1 + 1)) ≡ feed_of s (c # 0) (suc (c # 1)) 0 (c # 3) (set w (c # 1) x)
waits_by s w [] x h z = absurd (omega arith)
waits_by s w (a ∷ []) x h z = absurd (omega arith)
waits_by s w (a ∷ b ∷ []) x h z = absurd (omega arith)
waits_by s w (a ∷ b ∷ d ∷ []) x h z = absurd (omega arith)
waits_by s w (a ∷ b ∷ d ∷ e ∷ l) x h z = let q : b + 1 ≡ suc b = omega arith in λ i. feed_of s a (q i) (z i) e (set w b x)

over_same : (f : Feed) (c : List ℕ) (v : ℕ) → 4 ≤ length c → over (cells_of f) (set c 1 v) ≡ over (cells_of f) c
over_same f [] v h = absurd (omega arith)
over_same f (a ∷ []) v h = absurd (omega arith)
over_same f (a ∷ b ∷ []) v h = absurd (omega arith)
over_same f (a ∷ b ∷ d ∷ []) v h = absurd (omega arith)
over_same f (a ∷ b ∷ d ∷ e ∷ l) v h = refl

over_itself : (s : Sheet) (w c : List ℕ) → 4 ≤ length c → over (cells_of (feed_from s w c)) c ≡ c
over_itself s w [] h = absurd (omega arith)
over_itself s w (a ∷ []) h = absurd (omega arith)
over_itself s w (a ∷ b ∷ []) h = absurd (omega arith)
over_itself s w (a ∷ b ∷ d ∷ []) h = absurd (omega arith)
over_itself s w (a ∷ b ∷ d ∷ e ∷ l) h = refl

module _ (s : Sheet) (w c : List ℕ) (x : ℕ) (h : 4 ≤ length c) (z : c # 2 ≡ 0) (v d : List ℕ) (ev : v ≡ set w (c # 1) x) (ed : d ≡ set c 1 (c # 1 + 1)) where
  waiting_is : feed_from s v d ≡ feed_of s (c # 0) (suc (c # 1)) 0 (c # 3) (set w (c # 1) x)
  waiting_is = ap₂ (λ (a b : List ℕ). feed_from s a b) ev ed ∙ waits_by s w c x h z

  pub still_fine : (4 ≤ length d) × (d # 2 ≡ 0)
  still_fine = rw ed (by c h z)
    where
      by : (c : List ℕ) → 4 ≤ length c → c # 2 ≡ 0 → (4 ≤ length (set c 1 (c # 1 + 1))) × (set c 1 (c # 1 + 1) # 2 ≡ 0)
      by [] h z = absurd (omega arith)
      by (a ∷ []) h z = absurd (omega arith)
      by (a ∷ b ∷ l) h z = (h, z)

  pub byte_waits : (t : Bool) → t ≡ leb size_of_block (suc (c # 1)) → t ≡ false → Leaves c (feed_by 0 x (feed_from s w c)) s v d
  unfolding feed_by take_whole
  byte_waits t e f =
      let q : leb size_of_block (suc (c # 1)) ≡ false = sym e ∙ f in
      let g = waiting_is in
      let o : d ≡ over (cells_of (feed_from s v d)) c = sym (over_itself s v d still_fine.0) ∙ ap (over (cells_of (feed_from s v d))) ed ∙ over_same (feed_from s v d) c (c # 1 + 1) h in
      rw q (record { sheet_is = refl; memory_is = ev; cells_are = o ∙ ap (λ (f : Feed). over (cells_of f) c) g })

  pub byte_whole : (t : Bool) (u : Sheet) (k m : List ℕ) → t ≡ leb size_of_block (suc (c # 1)) → t ≡ true → Leaves d (take_block (feed_from s v d)) u k m → Leaves c (feed_by 0 x (feed_from s w c)) u k m
  unfolding feed_by take_whole
  byte_whole t u k m e f l =
      let q : leb size_of_block (suc (c # 1)) ≡ true = sym e ∙ f in
      let g = ap take_block waiting_is in
      let F : Feed = take_block (feed_from s v d) in
      rw q (record {
        sheet_is = l.sheet_is ∙ ap (λ (f : Feed). f.sheet) g;
        memory_is = l.memory_is ∙ ap (λ (f : Feed). f.memory) g;
        cells_are = l.cells_are ∙ ap (over (cells_of F)) ed ∙ over_same F c (c # 1 + 1) h ∙ ap (λ (f : Feed). over (cells_of f) c) g;
      })

-- ---- a piece, byte by byte
left_as : {c : List ℕ} {f : Feed} {u : Sheet} {v d : List ℕ} → Leaves c f u v d → feed_from u v d ≡ f
left_as l = λ i. feed_from (l.sheet_is i) (l.memory_is i) (l.cells_are i)

left_tail : {c : List ℕ} {f : Feed} {u : Sheet} {v d : List ℕ} → Leaves c f u v d → drop 4 d ≡ drop 4 c
left_tail l = ap (drop 4) l.cells_are

after_waits : (k : ℕ) (t : Bool) (f : Feed) (b : List ℕ) → (after_block k t f b).waits ≡ 0
unfolding after_block
after_waits (suc k) t f b = refl
after_waits zero true f b = refl
after_waits zero false f b = refl

waits_in : {c : List ℕ} {u : Sheet} {v d : List ℕ} (s : Sheet) (w : List ℕ) (x : ℕ) → Leaves c (feed_by 0 x (feed_from s w c)) u v d → d # 1 < 512
unfolding feed_by take_whole take_block
waits_in {c} s w x l = let e : _ ≡ _ = ap (λ (y : List ℕ). y # 1) l.cells_are in rw e (by (leb size_of_block (suc (c # 1))) refl)
  where
    g : Feed
    g = feed_of s (c # 0) (suc (c # 1)) 0 (c # 3) (set w (c # 1) x)

    by : (t : Bool) → leb size_of_block (suc (c # 1)) ≡ t → (take_whole t g).waits < 512
    by true e = omega (arith, after_waits (says_by (leb 2 (c # 3)) (c # 3) (c # 0) (take 512 (set w (c # 1) x))) (eqb (take 512 (set w (c # 1) x) # 0) 255) g (take 512 (set w (c # 1) x)))
    by false e = leb-false size_of_block (suc (c # 1)) e

module _ (p : List ℕ) where
  byte_next : (i : ℕ) (s : Sheet) (w c : List ℕ) {u : Sheet} {v d : List ℕ} → i < length p → c # 2 ≡ 0 → Leaves c (feed_by 0 (p # i) (feed_from s w c)) u v d
      → feed (drop (i + 1) p) (feed_from u v d) ≡ feed (drop i p) (feed_from s w c)
  unfolding each
  byte_next i s w c h z l =
      let e : drop i p ≡ p # i ∷ drop (suc i) p = drop-cons p i 0 h in
      let q : i + 1 ≡ suc i = omega arith in
      let g : feed_byte (p # i) (feed_from s w c) ≡ feed_by 0 (p # i) (feed_from s w c) = ap (λ (r : ℕ). feed_by r (p # i) (feed_from s w c)) z in
      ap₂ (λ (k : ℕ) (f : Feed). feed (drop k p) f) q (left_as l ∙ sym g) ∙ ap (λ (b : List ℕ). feed b (feed_from s w c)) (sym e)

  -- the cells at the end over those at the start
  over_tail : (s : Sheet) (w c d : List ℕ) → 4 ≤ length c → drop 4 c ≡ drop 4 d → c ≡ over (cells_of (feed_from s w c)) d
  over_tail s w c d h e = sym (over_itself s w c h) ∙ ap (λ (t : List ℕ). c # 0 ∷ c # 1 ∷ c # 2 ∷ c # 3 ∷ t) e

  module _ (s : Sheet) (w c d : List ℕ) (f : Feed) (i : ℕ) (h : 4 ≤ length c) (e : drop 4 c ≡ drop 4 d) (g : feed (drop i p) (feed_from s w c) ≡ f) where
    leaves_by : feed_from s w c ≡ f → fed_of (c # 2) s w c ≡ left_by f d
    leaves_by q = (λ k. fed_of (c # 2) s w (over_tail s w c d h e k)) ∙ ap (λ (x : Feed). left_by x d) q

    piece_refused : (c # 2 ≡ 0 → ⊥) → fed_of (c # 2) s w c ≡ left_by f d
    piece_refused y = leaves_by (sym (stays_refused (drop i p) (feed_from s w c) (c # 2 - 1) (less (c # 2) y)) ∙ g)
      where
        less : (r : ℕ) → (r ≡ 0 → ⊥) → r ≡ suc (r - 1)
        less zero y = absurd (y refl)
        less (suc r) y = omega arith

    piece_done : length p ≤ i → fed_of (c # 2) s w c ≡ left_by f d
    unfolding each
    piece_done l = leaves_by (ap (λ (b : List ℕ). feed b (feed_from s w c)) (sym (drop_of_length-le p {i = i} l)) ∙ g)

-- the invariant over the bytes: those still to be fed, to what stands there now, give the whole
pub record Going (p : List ℕ) (s : Sheet) (w c : List ℕ) (i : ℕ) (t : Sheet) (v d : List ℕ) : Type 0 where
  pub inside : i ≤ length p
  pub rest : feed (drop i p) (feed_from t v d) ≡ feed p (feed_from s w c)
  pub tail : drop 4 d ≡ drop 4 c
  pub waits : d # 1 < 512
  pub same : lengths t ≡ lengths s
  pub memory_same : length v ≡ length w
  pub cells_same : length d ≡ length c

pub going_start : (p : List ℕ) (s : Sheet) (w c : List ℕ) → c # 1 < 512 → Going p s w c 0 s w c
going_start p s w c h = record { inside = omega arith; rest = refl; tail = refl; waits = h; same = refl; memory_same = refl; cells_same = refl }

module _ {p : List ℕ} {s : Sheet} {w c : List ℕ} {i : ℕ} {t : Sheet} {v d : List ℕ} (g : Going p s w c i t v d) where
  pub going_on : (u : Sheet) (x y : List ℕ) → i < length p → d # 2 ≡ 0 → Leaves d (feed_by 0 (p # i) (feed_from t v d)) u x y
      → lengths u ≡ lengths t → length x ≡ length v → length y ≡ length d → Going p s w c (i + 1) u x y
  going_on u x y h z l eu ex ey = record {
    inside = omega arith;
    rest = byte_next p i t v d h z l ∙ g.rest;
    tail = left_tail l ∙ g.tail;
    waits = waits_in t v (p # i) l;
    same = eu ∙ g.same;
    memory_same = ex ∙ g.memory_same;
    cells_same = ey ∙ g.cells_same;
  }

  module _ (h : 4 ≤ length c) where
    pub going_refused : (d # 2 ≡ 0 → ⊥) → fed_of (d # 2) t v d ≡ left_by (feed p (feed_from s w c)) c
    going_refused f = piece_refused p t v d c (feed p (feed_from s w c)) i (omega (arith, g.cells_same)) g.tail g.rest f

    pub going_done : length p ≤ i → fed_of (d # 2) t v d ≡ left_by (feed p (feed_from s w c)) c
    going_done l = piece_done p t v d c (feed p (feed_from s w c)) i (omega (arith, g.cells_same)) g.tail g.rest l

-- ---- the call
pub feeds_bad : (p : List ℕ) (s : Sheet) (w c : List ℕ) → feed_fine w c ≡ false → Feeds p s w c (fed_of 11 s w c)
unfolding fed_by
feeds_bad p s w c h = record { left = rw h }

pub feeds : (p : List ℕ) (s : Sheet) (w c : List ℕ) (f : Fed) → feed_fine w c ≡ true → f ≡ left_by (feed p (feed_from s w c)) c → Feeds p s w c f
unfolding fed_by
feeds p s w c f h e = record { left = rw h e }
