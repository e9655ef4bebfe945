-- 02: "Where no present bounds crossed before an edit .. the sheet after its undo equals the sheet before it, and that undo is never refused". Assumes nothing.
use mathlib.Core.Path.{◌≡◌, refl, sym, ap, ◌∙◌, subst}
use mathlib.Core.Bool.{true}
use Prim.Native.Nat.{ℕ, zero, suc, ◌≤◌}
use native.Mathlib.Omega.{arith}
use lib.IntN.{ℤ, nat_abs}
use lib.Signed.{◌<ℤ◌}
use Rattle.doubles.specs.Limits.{max_bound}
use borrow.Author.Tests.{le-leb}
use Rattle.sheet_rules.specs.Sheet.{Plan, Sheet, lower, upper, lower_mark, upper_mark, x}
use Rattle.sheet_rules.specs.Edit.{put, edited, applied, uses_column, uses_row, number_fine, edit_refusal, edit, old_number, old_mark}
use Rattle.sheet_rules.specs.Words.{Crossed, Crossing, Index, NumberIn, WouldCross, Sound, Placed, EditSays}
use Rattle.sheet_rules.specs.declared.Edit.{Edit}
use Rattle.sheet_rules.proofs.Exact.{edit_says, edit_only}
use Rattle.sheet_rules.proofs.Stays.{applied_sized}
use Rattle.sheet_rules.proofs.Tests.{number_decides}
use Rattle.file_journal_rules.specs.Undo.{edit_of, if_present, back_kind, back}
use Rattle.file_journal_rules.proofs.PlanBack.{Marks, plan_back}
use Rattle.file_journal_rules.proofs.KeptBack.{sheet_back}

-- all that an accepted edit has passed
pub record Passed (s : Sheet) (e : Edit) : Type 0 where
  pub placed : Placed s e
  pub number : NumberIn e
  pub crosses_not : ¬ WouldCross s.plan e
  pub before : Sound e s
  pub after : Sound e (applied s e)

passed_by : (s : Sheet) (e : Edit) {n : ℕ} → EditSays s e n → n ≡ 0 → Passed s e
passed_by s e (EditSays.unknown h) w = absurd (omega arith)
passed_by s e (EditSays.later h k) w = absurd (omega arith)
passed_by s e (EditSays.size h k) w = absurd (omega arith)
passed_by s e (EditSays.number h k) w = absurd (omega arith)
passed_by s e (EditSays.crossed h n k) w = absurd (omega arith)
passed_by s e (EditSays.broken h n d k) w = absurd (omega arith)
passed_by s e (EditSays.accepted h n d k m) w = record { placed = h; number = n; crosses_not = d; before = k; after = m }

pub passed : (s : Sheet) (e : Edit) → edit_refusal s e ≡ 0 → Passed s e
passed s e w = passed_by s e (edit_says s e) w

marks : (s : Sheet) (e : Edit) → Passed s e → uses_column e.kind ≡ true → Marks s.plan e.column
marks s e h u = let l = h.placed.index.column_in_holds u in record { of_lower = h.before.arrays_in.lowers_in e.column l; of_upper = h.before.arrays_in.uppers_in e.column l }

-- ---- the sheet after the undo is the sheet before the edit
pub undone : (s : Sheet) (e : Edit) → Passed s e → applied (applied s e) (back s.plan e) ≡ s
undone s e h =
    let y = h.placed.today in
    sheet_back s e (back_kind e.kind (old_mark s.plan e)) (old_number s.plan e) (plan_back s.plan e y.first y.last (marks s e h)) h.placed.sized

-- ---- the edit back uses the places that the edit used
pub record Alike (k b : ℕ) : Type 0 where
  pub column_too : uses_column b ≡ uses_column k
  pub row_too : uses_row b ≡ uses_row k
  pub first : 1 ≤ b
  pub last : b ≤ 9

pub alike : (k m : ℕ) → 1 ≤ k → k ≤ 9 → Alike k (back_kind k m)
unfolding back_kind if_present
alike zero m h l = absurd (omega arith)
alike (suc zero) m h l = record { column_too = refl; row_too = refl; first = omega arith; last = omega arith }
alike (suc (suc zero)) m h l = record { column_too = refl; row_too = refl; first = omega arith; last = omega arith }
alike (suc (suc (suc zero))) zero h l = record { column_too = refl; row_too = refl; first = omega arith; last = omega arith }
alike (suc (suc (suc zero))) (suc m) h l = record { column_too = refl; row_too = refl; first = omega arith; last = omega arith }
alike (suc (suc (suc (suc zero)))) zero h l = record { column_too = refl; row_too = refl; first = omega arith; last = omega arith }
alike (suc (suc (suc (suc zero)))) (suc m) h l = record { column_too = refl; row_too = refl; first = omega arith; last = omega arith }
alike (suc (suc (suc (suc (suc zero))))) m h l = record { column_too = refl; row_too = refl; first = omega arith; last = omega arith }
alike (suc (suc (suc (suc (suc (suc zero)))))) m h l = record { column_too = refl; row_too = refl; first = omega arith; last = omega arith }
alike (suc (suc (suc (suc (suc (suc (suc zero))))))) m h l = record { column_too = refl; row_too = refl; first = omega arith; last = omega arith }
alike (suc (suc (suc (suc (suc (suc (suc (suc zero)))))))) zero h l = record { column_too = refl; row_too = refl; first = omega arith; last = omega arith }
alike (suc (suc (suc (suc (suc (suc (suc (suc zero)))))))) (suc m) h l = record { column_too = refl; row_too = refl; first = omega arith; last = omega arith }
alike (suc (suc (suc (suc (suc (suc (suc (suc (suc zero))))))))) zero h l = record { column_too = refl; row_too = refl; first = omega arith; last = omega arith }
alike (suc (suc (suc (suc (suc (suc (suc (suc (suc zero))))))))) (suc m) h l = record { column_too = refl; row_too = refl; first = omega arith; last = omega arith }
alike (suc (suc (suc (suc (suc (suc (suc (suc (suc (suc k)))))))))) m h l = absurd (omega arith)

sound_alike : (s : Sheet) (e f : Edit) → Alike e.kind f.kind → f.row ≡ e.row → f.column ≡ e.column → Sound e s → Sound f s
sound_alike s e f k r d o = record {
  arrays_in = o.arrays_in;
  column_in_holds = λ u. rw d (o.column_in_holds (sym k.column_too ∙ u));
  row_within = λ u. rw r (o.row_within (sym k.row_too ∙ u));
  kept_in = o.kept_in;
}

index_kept : (p : Plan) (e : Edit) (f : Edit) → Alike e.kind f.kind → Index p e → (f.row ≡ e.row) → (f.column ≡ e.column) → Index (edited p e) f
unfolding edited
index_kept p e f k x r d = record { column_in_holds = λ u. rw d (x.column_in_holds (sym k.column_too ∙ u)); row_within = λ u. rw r (x.row_within (sym k.row_too ∙ u)) }

-- ---- the old number keeps its limit
module _ (s : Sheet) (i j : ℕ) (z : ℤ) where
  abbrev p : Plan
  p = s.plan

  lower_fine : (m : ℕ) → nat_abs (lower p j) ≤ max_bound → number_fine (edit_of (if_present m 3 8) i j (lower p j)) ≡ true
  unfolding number_fine if_present
  lower_fine zero h = refl
  lower_fine (suc m) h = le-leb _ _ h

  upper_fine : (m : ℕ) → nat_abs (upper p j) ≤ max_bound → number_fine (edit_of (if_present m 4 9) i j (upper p j)) ≡ true
  unfolding number_fine if_present
  upper_fine zero h = refl
  upper_fine (suc m) h = le-leb _ _ h

  fine_back : (k : ℕ) → 1 ≤ k → k ≤ 9 → Index p (edit_of k i j z) → Sound (edit_of k i j z) s → number_fine (back p (edit_of k i j z)) ≡ true
  unfolding number_fine back_kind old_number old_mark
  fine_back zero h l x o = absurd (omega arith)
  fine_back (suc zero) h l x o = le-leb _ _ (o.arrays_in.amounts_in j (x.column_in_holds refl))
  fine_back (suc (suc zero)) h l x o = le-leb _ _ (o.arrays_in.costs_in j (x.column_in_holds refl))
  fine_back (suc (suc (suc zero))) h l x o = lower_fine (lower_mark p j) (o.arrays_in.lowers_in j (x.column_in_holds refl)).small
  fine_back (suc (suc (suc (suc zero)))) h l x o = upper_fine (upper_mark p j) (o.arrays_in.uppers_in j (x.column_in_holds refl)).small
  fine_back (suc (suc (suc (suc (suc zero))))) h l x o = le-leb _ _ (o.arrays_in.rhs_in i (x.row_within refl))
  fine_back (suc (suc (suc (suc (suc (suc zero)))))) h l x o = le-leb _ _ (o.row_within refl j (x.column_in_holds refl))
  fine_back (suc (suc (suc (suc (suc (suc (suc zero))))))) h l x o = le-leb _ _ (o.arrays_in.mults_in i (x.row_within refl))
  fine_back (suc (suc (suc (suc (suc (suc (suc (suc zero)))))))) h l x o = lower_fine (lower_mark p j) (o.arrays_in.lowers_in j (x.column_in_holds refl)).small
  fine_back (suc (suc (suc (suc (suc (suc (suc (suc (suc zero))))))))) h l x o = upper_fine (upper_mark p j) (o.arrays_in.uppers_in j (x.column_in_holds refl)).small
  fine_back (suc (suc (suc (suc (suc (suc (suc (suc (suc (suc k)))))))))) h l x o = absurd (omega arith)

-- ---- no bounds cross
module _ (p : Plan) (i j : ℕ) (z : ℤ) where
  -- an edit of a kind that isn't 3 or 4 crosses nothing
  other_kind : {q : Plan} {f : Edit} → (f.kind ≡ 3 → ⊥) → (f.kind ≡ 4 → ⊥) → ¬ WouldCross q f
  other_kind h g (WouldCross.from_below k m l) = h k
  other_kind h g (WouldCross.from_above k m l) = g k

  lower_free : ¬ Crossed p j → (m : ℕ) → lower_mark p j ≡ m → m ≤ 1 → {q : Plan} → upper_mark q j ≡ upper_mark p j → upper q j ≡ upper p j → ¬ WouldCross q (edit_of (if_present m 3 8) i j (lower p j))
  unfolding if_present
  lower_free free zero e h u v w = other_kind (λ k. omega arith) (λ k. omega arith) w
  lower_free free (suc zero) e h u v (WouldCross.from_below k m l) = free (record { lower_present = e; upper_present = sym u ∙ m; above = subst (λ (y : ℤ). y <ℤ lower p j) v l })
  lower_free free (suc zero) e h u v (WouldCross.from_above k m l) = omega arith
  lower_free free (suc (suc n)) e h u v w = absurd (omega arith)

  upper_free : ¬ Crossed p j → (m : ℕ) → upper_mark p j ≡ m → m ≤ 1 → {q : Plan} → lower_mark q j ≡ lower_mark p j → lower q j ≡ lower p j → ¬ WouldCross q (edit_of (if_present m 4 9) i j (upper p j))
  unfolding if_present
  upper_free free zero e h u v w = other_kind (λ k. omega arith) (λ k. omega arith) w
  upper_free free (suc zero) e h u v (WouldCross.from_below k m l) = omega arith
  upper_free free (suc zero) e h u v (WouldCross.from_above k m l) = free (record { lower_present = sym u ∙ m; upper_present = e; above = subst (λ (y : ℤ). upper p j <ℤ y) v l })
  upper_free free (suc (suc n)) e h u v w = absurd (omega arith)

  free_back : (k : ℕ) → (uses_column k ≡ true → ¬ Crossed p j) → (uses_column k ≡ true → Marks p j) → ¬ WouldCross (edited p (edit_of k i j z)) (back p (edit_of k i j z))
  unfolding edited put back_kind old_number old_mark
  free_back zero f b w = other_kind (λ k. omega arith) (λ k. omega arith) w
  free_back (suc zero) f b w = other_kind (λ k. omega arith) (λ k. omega arith) w
  free_back (suc (suc zero)) f b w = other_kind (λ k. omega arith) (λ k. omega arith) w
  free_back (suc (suc (suc zero))) f b w = lower_free (f refl) (lower_mark p j) refl (b refl).of_lower.known refl refl w
  free_back (suc (suc (suc (suc zero)))) f b w = upper_free (f refl) (upper_mark p j) refl (b refl).of_upper.known refl refl w
  free_back (suc (suc (suc (suc (suc zero))))) f b w = other_kind (λ k. omega arith) (λ k. omega arith) w
  free_back (suc (suc (suc (suc (suc (suc zero)))))) f b w = other_kind (λ k. omega arith) (λ k. omega arith) w
  free_back (suc (suc (suc (suc (suc (suc (suc zero))))))) f b w = other_kind (λ k. omega arith) (λ k. omega arith) w
  free_back (suc (suc (suc (suc (suc (suc (suc (suc zero)))))))) f b w = lower_free (f refl) (lower_mark p j) refl (b refl).of_lower.known refl refl w
  free_back (suc (suc (suc (suc (suc (suc (suc (suc (suc zero))))))))) f b w = upper_free (f refl) (upper_mark p j) refl (b refl).of_upper.known refl refl w
  free_back (suc (suc (suc (suc (suc (suc (suc (suc (suc (suc k)))))))))) f b w = other_kind (λ k. omega arith) (λ k. omega arith) w

-- ---- the undo is accepted, and gives the sheet back
module _ (s : Sheet) (e : Edit) (h : Passed s e) (free : ¬ Crossing s.plan) where
  abbrev b : Edit
  b = back s.plan e

  kinds : Alike e.kind b.kind
  kinds = alike e.kind (old_mark s.plan e) h.placed.today.first h.placed.today.last

  back_passed : Passed (applied s e) b
  unfolding applied
  back_passed =
      let k = kinds in
      let x = h.placed.index in
      let sizes = applied_sized s e h.placed.sized in
      record {
        placed = record {
          today = record { first = k.first; last = k.last };
          sized = sizes;
          index = index_kept s.plan e b k x refl refl;
        };
        number = (number_decides b k.first).yes_so (fine_back s e.row e.column e.number e.kind h.placed.today.first h.placed.today.last x h.before);
        crosses_not = free_back s.plan e.row e.column e.number e.kind (λ u w. free (e.column, x.column_in_holds u, w)) (marks s e h);
        before = sound_alike (applied s e) e b k refl refl h.after;
        after = subst (Sound b) (sym (undone s e h)) (sound_alike s e b k refl refl h.before);
      }

pub accepts : (s : Sheet) (e : Edit) → Passed s e → edit_refusal s e ≡ 0
accepts s e h = edit_only s e (EditSays.accepted h.placed h.number h.crosses_not h.before h.after)

-- an accepted edit leaves what is applied
pub leaves_applied : (s : Sheet) (e : Edit) → edit_refusal s e ≡ 0 → edit s e ≡ applied s e
unfolding edit
leaves_applied s e w = rw w

pub undo_accepted : (s : Sheet) (e : Edit) → edit_refusal s e ≡ 0 → ¬ Crossing s.plan → edit_refusal (edit s e) (back s.plan e) ≡ 0
undo_accepted s e w free = rw (leaves_applied s e w) (accepts (applied s e) (back s.plan e) (back_passed s e (passed s e w) free))

-- wherever it is accepted
pub undo_gives : (s : Sheet) (e : Edit) → edit_refusal s e ≡ 0 → edit_refusal (edit s e) (back s.plan e) ≡ 0 → edit (edit s e) (back s.plan e) ≡ s
undo_gives s e w v =
    leaves_applied (edit s e) (back s.plan e) v
    ∙ ap (λ (t : Sheet). applied t (back s.plan e)) (leaves_applied s e w)
    ∙ undone s e (passed s e w)

pub undo_restores : (s : Sheet) (e : Edit) → edit_refusal s e ≡ 0 → ¬ Crossing s.plan → edit (edit s e) (back s.plan e) ≡ s
undo_restores s e w free = undo_gives s e w (undo_accepted s e w free)
