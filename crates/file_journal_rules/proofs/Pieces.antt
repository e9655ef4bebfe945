-- A feed through its public call: pieces one after another are one piece. Assumes nothing.
use mathlib.Core.Path.{◌≡◌, refl, sym, ap, ◌∙◌}
use mathlib.Core.Bool.{Bool, true, false, ◌&&◌}
use mathlib.Core.List.{List, [], ◌∷◌, ◌++◌, append-nil}
use Prim.Native.Nat.{ℕ, zero, suc, ◌≤◌, ◌<◌}
use native.Mathlib.Omega.{arith}
use lib.Dec.{leb}
use lib.ListN.{length, drop, set, length-set}
use borrow.Author.Tests.{le-leb, leb-true, leb-false}
use Rattle.doubles.specs.Lists.{◌#◌, over}
use Rattle.doubles.specs.Loop.{each}
use Rattle.doubles.proofs.Loops.{both_true}
use Rattle.sheet_rules.specs.Sheet.{Sheet}
use Rattle.file_rules.specs.Block.{size_of_block}
use Rattle.file_journal_rules.specs.Journal.{unless_so}
use Rattle.file_journal_rules.specs.File.{per_block}
use Rattle.file_journal_rules.specs.Feed.{Feed, feed_of, after_block, take_block, take_whole, feed_by, feed_byte, feed, cells_fine, feed_fine, feed_from, cells_of, Fed, fed_of, left_by, fed_by, fed}
use Rattle.file_journal_rules.specs.Promises.{Feeds}
use Rattle.file_journal_rules.proofs.Feed.{pieces, joined, stays_refused}

-- ---- what a feed leaves is a feed's
pub record Fine (f : Feed) : Type 0 where
  pub long : size_of_block ≤ length f.memory
  pub waits_in : f.waits < size_of_block
  pub phase_in : f.phase ≤ 2

phase_by : (b : Bool) → unless_so 1 b ≤ 2
unfolding unless_so
phase_by true = omega arith
phase_by false = omega arith

block_fine : (k : ℕ) (end : Bool) (f : Feed) (b : List ℕ) → size_of_block ≤ length f.memory → f.phase ≤ 2 → Fine (after_block k end f b)
unfolding after_block
block_fine (suc k) end f b l p = record { long = l; waits_in = omega arith; phase_in = p }
block_fine zero true f b l p = record { long = l; waits_in = omega arith; phase_in = omega arith }
block_fine zero false f b l p = record { long = l; waits_in = omega arith; phase_in = phase_by (leb per_block (b # 3)) }

whole_fine : (t : Bool) (f : Feed) → leb size_of_block f.waits ≡ t → size_of_block ≤ length f.memory → f.phase ≤ 2 → Fine (take_whole t f)
unfolding take_whole take_block
whole_fine true f e l p = block_fine _ _ f _ l p
whole_fine false f e l p = record { long = l; waits_in = leb-false size_of_block f.waits e; phase_in = p }

byte_fine : (r x : ℕ) (f : Feed) → Fine f → Fine (feed_by r x f)
unfolding feed_by
byte_fine (suc r) x f h = h
byte_fine zero x f h =
    whole_fine (leb size_of_block (suc f.waits)) (feed_of f.sheet f.place (suc f.waits) 0 f.phase (set f.memory f.waits x)) refl
    (omega (arith, length-set f.memory f.waits x, h.long)) h.phase_in

feed_fine_holds : (bs : List ℕ) (f : Feed) → Fine f → Fine (feed bs f)
unfolding each
feed_fine_holds [] f h = h
feed_fine_holds (x ∷ bs) f h = feed_fine_holds bs (feed_byte x f) (byte_fine f.refusal x f h)

fine_so : (s : Sheet) (w c : List ℕ) → feed_fine w c ≡ true → Fine (feed_from s w c)
unfolding feed_fine cells_fine
fine_so s w c h =
    let a = both_true (leb size_of_block (length w)) _ h in
    let b = both_true (leb 4 (length c) && leb (suc (c # 1)) size_of_block) _ a.1 in
    let d = both_true (leb 4 (length c)) _ b.0 in
    record { long = leb-true _ _ a.0; waits_in = leb-true _ _ d.1; phase_in = leb-true _ _ b.1 }

fine_cells : (w c : List ℕ) → feed_fine w c ≡ true → 4 ≤ length c
unfolding feed_fine cells_fine
fine_cells w c h =
    let a = both_true (leb size_of_block (length w)) _ h in
    let b = both_true (leb 4 (length c) && leb (suc (c # 1)) size_of_block) _ a.1 in
    leb-true _ _ (both_true (leb 4 (length c)) _ b.0).0

so_fine : (f : Feed) (c : List ℕ) → Fine f → feed_fine f.memory (over (cells_of f) c) ≡ true
unfolding feed_fine cells_fine
so_fine f c h = rw (le-leb size_of_block (length f.memory) h.long, le-leb 4 (length (over (cells_of f) c)) (omega arith), le-leb (suc f.waits) size_of_block h.waits_in, le-leb f.phase 2 h.phase_in)

-- ---- two pieces are one
pub two_pieces : (p q : List ℕ) (s : Sheet) (w c : List ℕ) → let f = fed p s w c in fed q f.sheet f.waiting f.cells ≡ fed (p ++ q) s w c
unfolding fed_by
two_pieces p q s w c = by (feed_fine w c) refl
  where
    F : Feed
    F = feed p (feed_from s w c)

    by : (t : Bool) → feed_fine w c ≡ t → let f = fed_by t p s w c in fed q f.sheet f.waiting f.cells ≡ fed_by t (p ++ q) s w c
    by false e = rw e
    by true e = rw (so_fine F c (feed_fine_holds p (feed_from s w c) (fine_so s w c e))) (ap (λ (g : Feed). left_by g c) (sym (pieces p q (feed_from s w c))))

-- ---- pieces one after another, each lent what the one before it left
pub data FeedsAll : List (List ℕ) → Fed → Fed → Type 0 where
  none : {f : Fed} → FeedsAll [] f f
  next : {p : List ℕ} {ps : List (List ℕ)} {f g h : Fed} → Feeds p f.sheet f.waiting f.cells g → FeedsAll ps g h → FeedsAll (p ∷ ps) f h

abbrev fed_on : List ℕ → Fed → Fed
fed_on p f = fed p f.sheet f.waiting f.cells

pub all_one : {p : List ℕ} {ps : List (List ℕ)} {f g : Fed} → FeedsAll (p ∷ ps) f g → g ≡ fed_on (joined (p ∷ ps)) f
unfolding joined
all_one (next {p} {f = f} h none) = h.left ∙ ap (λ (b : List ℕ). fed_on b f) (sym (append-nil p))
all_one (next {p} {f = f} {g = g} h (next {p = q} {ps = qs} k r)) =
    all_one {f = g} (next k r) ∙ ap (fed_on (joined (q ∷ qs))) h.left ∙ two_pieces p (joined (q ∷ qs)) f.sheet f.waiting f.cells

-- 02: "Feeding the journal cut into pieces anywhere, inside a block too, gives the same sheet": the same answer, sheet and lent memory, whatever is lent
pub cut_anywhere : {p q : List ℕ} {ps qs : List (List ℕ)} {f g h : Fed} → joined (p ∷ ps) ≡ joined (q ∷ qs) → FeedsAll (p ∷ ps) f g → FeedsAll (q ∷ qs) f h → g ≡ h
cut_anywhere {f = f} e a b = all_one a ∙ ap (λ (bs : List ℕ). fed_on bs f) e ∙ sym (all_one b)

-- ---- 02: "nothing after it is applied, in later pieces either": every later piece changes nothing and gets the same number
over_itself : (c : List ℕ) → 4 ≤ length c → c # 0 ∷ c # 1 ∷ c # 2 ∷ c # 3 ∷ drop 4 c ≡ c
over_itself [] h = absurd (omega arith)
over_itself (a ∷ []) h = absurd (omega arith)
over_itself (a ∷ b ∷ []) h = absurd (omega arith)
over_itself (a ∷ b ∷ d ∷ []) h = absurd (omega arith)
over_itself (a ∷ b ∷ d ∷ e ∷ l) h = refl

pub refused_stays : {p w c : List ℕ} {s : Sheet} {f : Fed} (k : ℕ) → feed_fine w c ≡ true → c # 2 ≡ suc k → Feeds p s w c f → f ≡ fed_of (suc k) s w c
unfolding fed_by
refused_stays {p} {w} {c} {s} k h e g =
    let four = fine_cells w c h in
    let same : feed p (feed_from s w c) ≡ feed_from s w c = stays_refused p (feed_from s w c) k e in
    g.left ∙ (rw h (ap (λ (x : Feed). left_by x c) same ∙ (λ i. fed_of (e i) s w (over_itself c four i))))
