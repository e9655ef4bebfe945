-- Each of 11 to 16, and each verdict, is given exactly when 01's words for it hold and no earlier one's do: what is given holds (`-says`), and nothing
-- else can be said (`-only`). Assumes nothing.
use mathlib.Core.Path.{◌≡◌, refl, ◌∙◌}
use mathlib.Core.Logic.{◌⊎◌, inl, inr}
use mathlib.Core.Bool.{Bool, true, false, ◌&&◌}
use mathlib.Core.List.{[], ◌∷◌}
use Prim.Native.Nat.{ℕ, zero, suc, ◌≤◌}
use native.Mathlib.Omega.{arith}
use lib.Dec.{leb}
use borrow.Author.Tests.{leb-true, leb-false, le-leb, lt-leb}
use Rattle.doubles.proofs.Loops.{both_true}
use Rattle.sheet_rules.specs.Sum.{◌‼◌}
use Rattle.sheet_rules.specs.Sheet.{Sheet}
use Rattle.sheet_rules.specs.Opening.{◌unless◌, first_failed, sizes_fine, numbers_fine, uncrossed, opening, leaves}
use Rattle.sheet_rules.specs.Verdict.{kept_fine, is_zero, gap, verdict_by, verdict}
use Rattle.sheet_rules.specs.Edit.{known_kind, todays_kind, index_fine, number_fine, both_fine, sound_at, applied, edit_refusal}
use Rattle.sheet_rules.specs.Words.{Sized, Limits, Crossing, KeptIn, Index, NumberIn, WouldCross, Sound, Today, Placed, IsPlan, HasFloor, ShowsNone, OpeningSays, EditSays, VerdictSays}
use Rattle.sheet_rules.specs.declared.Edit.{Edit}
use Rattle.sheet_rules.specs.declared.Verdict.{Verdict}
use Rattle.sheet_rules.proofs.Tests.{Decides, no_so, so_no, and_decides, sizes_decide, numbers_decide, uncrossed_decides, crossing_found, kept_decides, none_decides, zero_decides, index_decides, number_decides, both_decides, would_cross_found, sound_decides}

-- ---- opening
pub opening_says : (s : Sheet) → OpeningSays s (opening s)
unfolding opening first_failed
opening_says s = at (sizes_fine s) (sizes_decide s) (numbers_fine s.plan) (numbers_decide s.plan) (uncrossed s.plan) (uncrossed_decides s.plan) (crossing_found s.plan)
  where
    at : (b : Bool) → Decides b (Sized s) → (d : Bool) → Decides d (Limits s.plan) → (f : Bool) → Decides f (¬ Crossing s.plan) → (f ≡ false → Crossing s.plan)
        → OpeningSays s (first_failed (11 unless b ∷ 12 unless d ∷ 13 unless f ∷ []))
    at false z d l f u w = OpeningSays.size (no_so z refl)
    at true z false l f u w = OpeningSays.number (z.yes_so refl) (no_so l refl)
    at true z true l false u w = OpeningSays.crossed (z.yes_so refl) (l.yes_so refl) (w refl)
    at true z true l true u w = OpeningSays.accepted (z.yes_so refl) (l.yes_so refl) (u.yes_so refl)

pub opening_only : (s : Sheet) {n : ℕ} → OpeningSays s n → opening s ≡ n
unfolding opening first_failed
opening_only s (OpeningSays.size h) = rw (so_no _ (sizes_decide s) h)
opening_only s (OpeningSays.number z h) = rw ((sizes_decide s).so_yes z, so_no _ (numbers_decide s.plan) h)
opening_only s (OpeningSays.crossed z l w) = rw ((sizes_decide s).so_yes z, (numbers_decide s.plan).so_yes l, so_no _ (uncrossed_decides s.plan) (λ h. h w))
opening_only s (OpeningSays.accepted z l h) = rw ((sizes_decide s).so_yes z, (numbers_decide s.plan).so_yes l, (uncrossed_decides s.plan).so_yes h)

-- what an accepted opening has passed
opening_passed : (s : Sheet) {n : ℕ} → OpeningSays s n → n ≡ 0
    → Sized s × Limits s.plan × (¬ Crossing s.plan)
opening_passed s (OpeningSays.size h) w = absurd (omega arith)
opening_passed s (OpeningSays.number z h) w = absurd (omega arith)
opening_passed s (OpeningSays.crossed z l h) w = absurd (omega arith)
opening_passed s (OpeningSays.accepted z l h) w = (z, l, h)

pub opening_so : (s : Sheet) → opening s ≡ 0 → Sized s × Limits s.plan × (¬ Crossing s.plan)
opening_so s w = opening_passed s (opening_says s) w

-- ---- an edit
pub today : (e : Edit) → known_kind e.kind ≡ true → todays_kind e.kind ≡ true → Today e
today e t u = record { first = leb-true 1 e.kind (both_true (leb 1 e.kind) (leb e.kind 31) t).0; last = leb-true e.kind 9 u }

module _ (s : Sheet) (e : Edit) where
  -- 01: "Kinds 10 to 31 are kept for later and give 15; 0 and 32 up give 16"
  kind_unknown : known_kind e.kind ≡ false → (e.kind ≡ 0) ⊎ (32 ≤ e.kind)
  kind_unknown t = at (leb 1 e.kind) refl t
    where
      at : (b : Bool) → leb 1 e.kind ≡ b → (b && leb e.kind 31) ≡ false → (e.kind ≡ 0) ⊎ (32 ≤ e.kind)
      at true w h = inr (leb-false e.kind 31 h)
      at false w h = inl (omega (arith, leb-false 1 e.kind w))

  kind_known : 1 ≤ e.kind → e.kind ≤ 31 → known_kind e.kind ≡ true
  kind_known l h = rw (le-leb 1 e.kind l, le-leb e.kind 31 h)

  place_decides : Decides (sizes_fine s && index_fine s.plan e) (Sized s × Index s.plan e)
  place_decides = and_decides _ _ (sizes_decide s) (index_decides s.plan e)

  sound_twice : Decides (sound_at e s && sound_at e (applied s e)) (Sound e s × Sound e (applied s e))
  sound_twice = and_decides _ _ (sound_decides e s) (sound_decides e (applied s e))

  pub edit_says : EditSays s e (edit_refusal s e)
  unfolding edit_refusal first_failed
  edit_says = at (known_kind e.kind) refl (todays_kind e.kind) refl (sizes_fine s && index_fine s.plan e) refl (number_fine e) refl (both_fine s.plan e) refl (sound_at e s && sound_at e (applied s e)) refl
    where
      at : (b : Bool) → known_kind e.kind ≡ b → (d : Bool) → todays_kind e.kind ≡ d → (f : Bool) → (sizes_fine s && index_fine s.plan e) ≡ f → (g : Bool) → number_fine e ≡ g → (h : Bool) → both_fine s.plan e ≡ h → (k : Bool) → (sound_at e s && sound_at e (applied s e)) ≡ k
          → EditSays s e (first_failed (16 unless b ∷ 15 unless d ∷ 11 unless f ∷ 12 unless g ∷ 13 unless h ∷ 14 unless k ∷ []))
      at false p d q f r g t h u k v = EditSays.unknown (kind_unknown p)
      at true p false q f r g t h u k v = EditSays.later (leb-false e.kind 9 q) (leb-true e.kind 31 (both_true (leb 1 e.kind) (leb e.kind 31) p).1)
      at true p true q false r g t h u k v = EditSays.size (today e p q) (no_so place_decides r)
      at true p true q true r g t h u k v =
          let y = today e p q in
          let z = place_decides.yes_so r in
          let w : Placed s e = record { today = y; sized = z.0; index = z.1 } in
          rest w g t h u k v
        where
          rest : Placed s e → (g : Bool) → number_fine e ≡ g → (h : Bool) → both_fine s.plan e ≡ h → (k : Bool) → (sound_at e s && sound_at e (applied s e)) ≡ k → EditSays s e (first_failed (12 unless g ∷ 13 unless h ∷ 14 unless k ∷ []))
          rest w false t h u k v = EditSays.number w (no_so (number_decides e w.today.first) t)
          rest w true t false u k v = EditSays.crossed w ((number_decides e w.today.first).yes_so t) (would_cross_found s e w.sized w.index u)
          rest w true t true u false v = EditSays.broken w ((number_decides e w.today.first).yes_so t) ((both_decides s e w.sized w.index).yes_so u) (no_so sound_twice v)
          rest w true t true u true v = let x = sound_twice.yes_so v in EditSays.accepted w ((number_decides e w.today.first).yes_so t) ((both_decides s e w.sized w.index).yes_so u) x.0 x.1

  -- 16, 15 and 11 are not given
  placed : Placed s e → edit_refusal s e ≡ first_failed (12 unless number_fine e ∷ 13 unless both_fine s.plan e ∷ 14 unless (sound_at e s && sound_at e (applied s e)) ∷ [])
  unfolding edit_refusal first_failed
  placed w = rw (kind_known w.today.first (omega (arith, w.today.last)), le-leb e.kind 9 w.today.last, place_decides.so_yes (w.sized, w.index))

  pub edit_only : {n : ℕ} → EditSays s e n → edit_refusal s e ≡ n
  unfolding edit_refusal first_failed
  edit_only (EditSays.unknown h) = rw (at h)
    where
      at : (e.kind ≡ 0) ⊎ (32 ≤ e.kind) → known_kind e.kind ≡ false
      at (inl w) = rw w
      at (inr l) = rw (lt-leb e.kind 31 l, le-leb 1 e.kind (omega arith))
  edit_only (EditSays.later l h) = rw (kind_known (omega arith) h, lt-leb e.kind 9 l)
  edit_only (EditSays.size y h) = rw (kind_known y.first (omega (arith, y.last)), le-leb e.kind 9 y.last, so_no _ place_decides h)
  edit_only (EditSays.number w h) = placed w ∙ rw (so_no _ (number_decides e w.today.first) h)
  edit_only (EditSays.crossed w n h) = placed w ∙ rw ((number_decides e w.today.first).so_yes n, so_no _ (both_decides s e w.sized w.index) (λ f. f h))
  edit_only (EditSays.broken w n c h) = placed w ∙ rw ((number_decides e w.today.first).so_yes n, (both_decides s e w.sized w.index).so_yes c, so_no _ sound_twice h)
  edit_only (EditSays.accepted w n c h k) = placed w ∙ rw ((number_decides e w.today.first).so_yes n, (both_decides s e w.sized w.index).so_yes c, sound_twice.so_yes (h, k))

-- what an accepted edit has passed
edit_passed : (s : Sheet) (e : Edit) {n : ℕ} → EditSays s e n → n ≡ 0
    → Placed s e × NumberIn e × (¬ WouldCross s.plan e) × Sound e s × Sound e (applied s e)
edit_passed s e (EditSays.unknown h) w = absurd (omega arith)
edit_passed s e (EditSays.later h k) w = absurd (omega arith)
edit_passed s e (EditSays.size h k) w = absurd (omega arith)
edit_passed s e (EditSays.number h k) w = absurd (omega arith)
edit_passed s e (EditSays.crossed h n k) w = absurd (omega arith)
edit_passed s e (EditSays.broken h n c k) w = absurd (omega arith)
edit_passed s e (EditSays.accepted h n c k m) w = (h, n, c, k, m)

pub edit_so : (s : Sheet) (e : Edit) → edit_refusal s e ≡ 0
    → Placed s e × NumberIn e × (¬ WouldCross s.plan e) × Sound e s × Sound e (applied s e)
edit_so s e w = edit_passed s e (edit_says s e) w

-- ---- what a call leaves, by its answer
pub left_new : (n : ℕ) (new old : Sheet) → n ≡ 0 → leaves n new old ≡ new
left_new zero new old w = refl
left_new (suc n) new old w = absurd (omega arith)

pub left_old : (n : ℕ) (new old : Sheet) → ¬ (n ≡ 0) → leaves n new old ≡ old
left_old zero new old h = absurd (h refl)
left_old (suc n) new old h = refl

-- ---- a verdict
module _ (s : Sheet) where
  plan_decides : Decides (is_zero (s.kept.counts ‼ 0) && is_zero (s.kept.counts ‼ 1)) (IsPlan s.kept)
  plan_decides = and_decides _ _ (zero_decides (s.kept.counts ‼ 0)) (zero_decides (s.kept.counts ‼ 1))

  floor_decides : Decides (is_zero (s.kept.counts ‼ 2) && is_zero (s.kept.counts ‼ 3)) (HasFloor s.kept)
  floor_decides = and_decides _ _ (zero_decides (s.kept.counts ‼ 2)) (zero_decides (s.kept.counts ‼ 3))

  pub verdict_says : VerdictSays s (verdict s)
  unfolding verdict verdict_by gap
  verdict_says = at (sizes_fine s) (sizes_decide s) (kept_fine s) (kept_decides s) _ (none_decides s) _ plan_decides _ floor_decides
    where
      at : (b : Bool) → Decides b (Sized s) → (d : Bool) → Decides d (KeptIn s) → (e : Bool) → Decides e (ShowsNone s)
          → (f : Bool) → Decides f (IsPlan s.kept) → (g : Bool) → Decides g (HasFloor s.kept) → VerdictSays s (verdict_by b d e f g (gap s.kept))
      at false z d k e n f p g h = VerdictSays.size (no_so z refl)
      at true z false k e n f p g h = VerdictSays.over (z.yes_so refl) (no_so k refl)
      at true z true k true n f p g h = VerdictSays.none (z.yes_so refl) (k.yes_so refl) (n.yes_so refl)
      at true z true k false n false p g h = VerdictSays.not_plan (z.yes_so refl) (k.yes_so refl) (no_so n refl) (no_so p refl)
      at true z true k false n true p false h = VerdictSays.no_floor (z.yes_so refl) (k.yes_so refl) (no_so n refl) (p.yes_so refl) (no_so h refl)
      at true z true k false n true p true h = VerdictSays.gap (z.yes_so refl) (k.yes_so refl) (no_so n refl) (p.yes_so refl) (h.yes_so refl)

  pub verdict_only : {v : Verdict} → VerdictSays s v → verdict s ≡ v
  unfolding verdict verdict_by gap
  verdict_only (VerdictSays.size h) = rw (so_no _ (sizes_decide s) h)
  verdict_only (VerdictSays.over z h) = rw ((sizes_decide s).so_yes z, so_no _ (kept_decides s) h)
  verdict_only (VerdictSays.none z k n) = rw ((sizes_decide s).so_yes z, (kept_decides s).so_yes k, (none_decides s).so_yes n)
  verdict_only (VerdictSays.not_plan z k n h) = rw ((sizes_decide s).so_yes z, (kept_decides s).so_yes k, so_no _ (none_decides s) n, so_no _ plan_decides h)
  verdict_only (VerdictSays.no_floor z k n p h) = rw ((sizes_decide s).so_yes z, (kept_decides s).so_yes k, so_no _ (none_decides s) n, plan_decides.so_yes p, so_no _ floor_decides h)
  verdict_only (VerdictSays.gap z k n p h) = rw ((sizes_decide s).so_yes z, (kept_decides s).so_yes k, so_no _ (none_decides s) n, plan_decides.so_yes p, floor_decides.so_yes h)
