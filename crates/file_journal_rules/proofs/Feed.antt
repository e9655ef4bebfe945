-- A feed in pieces. Assumes nothing.
use mathlib.Core.Path.{◌≡◌, refl, sym, ap, ◌∙◌}
use mathlib.Core.List.{List, [], ◌∷◌, ◌++◌}
use Prim.Native.Nat.{ℕ, zero, suc, ◌+◌, ◌≤◌}
use native.Mathlib.Omega.{arith}
use lib.Dec.{leb}
use lib.ListN.{length, take, set}
use lib.Seq.{sets, sets-eq, take_at}
use borrow.Author.Tests.{lt-leb}
use Rattle.doubles.specs.Loop.{each}
use Rattle.file_rules.specs.Block.{size_of_block}
use Rattle.sheet_rules.specs.Sheet.{Sheet}
use Rattle.file_journal_rules.specs.Journal.{feed_refusal}
use Rattle.file_journal_rules.specs.declared.Entry.{Entry}
use Rattle.file_journal_rules.specs.Feed.{Feed, feed_of, apply_by, fed_entry, go_on_with, apply_all, take_block, take_whole, feed_by, feed_byte, feed}

-- ---- 02: "Feeding the journal cut into pieces anywhere, inside a block too, gives the same sheet"
pub pieces : (a b : List ℕ) (f : Feed) → feed (a ++ b) f ≡ feed b (feed a f)
unfolding each
pieces [] b f = refl
pieces (x ∷ a) b f = pieces a b (feed_byte x f)

unfoldable pub joined : List (List ℕ) → List ℕ
joined [] = []
joined (p ∷ ps) = p ++ joined ps

pub all_pieces : (ps : List (List ℕ)) (f : Feed) → each ps feed f ≡ feed (joined ps) f
unfolding each joined
all_pieces [] f = refl
all_pieces (p ∷ ps) f = all_pieces ps (feed p f) ∙ sym (pieces p (joined ps) f)

-- two ways of cutting the same bytes
pub cut_alike : (ps qs : List (List ℕ)) (f : Feed) → joined ps ≡ joined qs → each ps feed f ≡ each qs feed f
cut_alike ps qs f e = all_pieces ps f ∙ ap (λ (bs : List ℕ). feed bs f) e ∙ sym (all_pieces qs f)

-- ---- 02: "In a feed what came before stays, and nothing after it is applied, in later pieces either"
pub stays_refused : (bs : List ℕ) (f : Feed) (k : ℕ) → f.refusal ≡ suc k → feed bs f ≡ f
unfolding each feed_by
stays_refused [] f k e = refl
stays_refused (x ∷ bs) f k e = let same : feed_byte x f ≡ f = rw e in rw same (stays_refused bs f k e)

-- of a block's entries: those before the refused one are taken, and none behind it
go_none : (k : ℕ) (t u : Sheet) (f : Sheet → ℕ × Sheet) → go_on_with k t f ≡ (0, u) → (k ≡ 0) × (f t ≡ (0, u))
unfolding go_on_with
go_none zero t u f e = (refl, e)
go_none (suc k) t u f e = absurd (let z = ap (λ (y : ℕ × Sheet). y.0) e in omega (arith, z))

pub refused_stops : (fs : List Entry) (s t : Sheet) (n : Entry) (es : List Entry) (k : ℕ) → apply_all fs s ≡ (0, t) → feed_refusal t n ≡ suc k → apply_all (fs ++ (n ∷ es)) s ≡ (suc k, t)
unfolding apply_all fed_entry apply_by go_on_with
refused_stops [] s t n es k e w = let is : s ≡ t = ap (λ (y : ℕ × Sheet). y.1) e in rw is (rw w)
refused_stops (m ∷ fs) s t n es k e w =
    let g = go_none (fed_entry s m).0 (fed_entry s m).1 t (λ u. apply_all fs u) e in
    ap (λ (z : ℕ). go_on_with z (fed_entry s m).1 (λ u. apply_all (fs ++ (n ∷ es)) u)) g.0 ∙ refused_stops fs (fed_entry s m).1 t n es k g.1 w

-- ---- a whole block
module _ (s : Sheet) (place phase : ℕ) where
  pub whole_from : (b : List ℕ) (x w : ℕ) (m : List ℕ) → w + length (x ∷ b) ≡ size_of_block → feed (x ∷ b) (feed_of s place w 0 phase m) ≡ take_block (feed_of s place size_of_block 0 phase (sets m w (x ∷ b)))
  unfolding each feed_by take_whole
  whole_from [] x w m e = let q : suc w ≡ size_of_block = omega arith in ap (λ (k : ℕ). take_whole (leb size_of_block k) (feed_of s place k 0 phase (set m w x))) q
  whole_from (y ∷ b) x w m e = rw (lt-leb size_of_block (suc w) (omega arith)) (whole_from b y (suc w) (set m w x) (omega arith))

  pub whole : (b m : List ℕ) → length b ≡ size_of_block → feed b (feed_of s place 0 0 phase m) ≡ take_block (feed_of s place size_of_block 0 phase (sets m 0 b))
  whole [] m e = absurd (omega arith)
  whole (x ∷ b) m e = whole_from b x 0 m (omega arith)

pub front_is : (b m : List ℕ) → length b ≡ size_of_block → size_of_block ≤ length m → take size_of_block (sets m 0 b) ≡ b
front_is b m e h = ap (take size_of_block) (sets-eq b m 0 (omega arith)) ∙ take_at b _ size_of_block e
