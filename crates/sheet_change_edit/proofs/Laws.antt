-- Laws of the kinds and of the tests that go by kind. Assumes nothing.
use mathlib.Core.Path.{◌≡◌, refl, sym, ap, ◌∙◌}
use mathlib.Core.Bool.{Bool, true, false, not, ◌&&◌, ◌||◌}
use mathlib.Core.List.{List, [], ◌∷◌}
use Prim.Native.Nat.{ℕ, zero, suc, ◌≤◌, ◌<◌, ◌^◌}
use native.Mathlib.Omega.{arith}
use lib.Dec.{eqb}
use lib.ListN.{get_or, length, drop}
use lib.IntN.{ℤ, pos, negsuc, nat_abs}
use lib.Signed.{mag}
use borrow.Author.Tests.{le-leb, lt-leb, ne_eqb}
use Rattle.doubles.specs.Limits.{max_coefficient, max_cost, max_right_side, max_bound, max_amount, max_multiplier}
use Rattle.sheet_rules.specs.Sum.{◌‼◌}
use Rattle.sheet_rules.specs.Sheet.{Sheet, Plan, a, c, lower, upper, lower_mark, upper_mark, rhs, x, Y}
use Rattle.sheet_rules.specs.Opening.{Test, ◌unless◌, first_failed, sizes_fine, crosses}
use Rattle.sheet_rules.specs.Edit.{put, edited, applied, known_kind, todays_kind, index_fine, both_fine, sound_at, moved_fine, edit_tests, edit_refusal, old_number, old_mark}
use Rattle.sheet_rules.specs.Words.{Sized, Index, NumberIn, WouldCross, Sound, Today, Placed, EditSays}
use Rattle.sheet_rules.specs.declared.Edit.{Edit}
use Rattle.sheet_rules.proofs.Takes.{takes}
use Rattle.sheet_rules.proofs.Tests.{no_so, sizes_decide, index_decides, both_decides, would_cross_found, sound_decides}
use Rattle.sheet_rules.proofs.Exact.{today, edit_only}
use Rattle.sheet_rules.proofs.After.{after_test}
use Rattle.sheet_change_edit.specs.Rules.{kind_refusal, limit_of, rule_of, any_number, cell_at}
use Rattle.sheet_change_edit.specs.declared.Cell.{Cell}
use Rattle.sheet_change_edit.specs.declared.Rule.{Rule}

abbrev pub rule : ℕ → ℕ → Rule
rule r l = record { refusal = r; limit = l }

beyond : (l : List ℕ) (k : ℕ) → length l ≤ k → get_or l k 0 ≡ 0
beyond [] k h = refl
beyond (x ∷ l) zero h = absurd (omega (arith, h))
beyond (x ∷ l) (suc k) h = beyond l k (omega (arith, h))

no_limit : (k : ℕ) → 10 ≤ k → limit_of k ≡ 0
unfolding limit_of
no_limit k h = beyond (0 ∷ max_amount ∷ max_cost ∷ max_bound ∷ max_bound ∷ max_right_side ∷ max_coefficient ∷ max_multiplier ∷ any_number ∷ any_number ∷ []) k h

pub rule_later : (k : ℕ) → 10 ≤ k → k ≤ 31 → rule 15 0 ≡ rule_of k
unfolding rule_of kind_refusal first_failed
rule_later k h l = rw (le-leb 1 k (omega arith), le-leb k 31 l, lt-leb k 9 (omega arith), no_limit k h)

pub rule_unknown : (k : ℕ) → 31 < k → rule 16 0 ≡ rule_of k
unfolding rule_of kind_refusal first_failed
rule_unknown k h = rw (le-leb 1 k (omega arith), lt-leb k 31 h, no_limit k (omega arith))

abbrev both_by : Bool → Bool → Bool
both_by t c = not (t && c)

-- above n, and not n + 1
pub past : (n k : ℕ) → n ≤ k → (k ≡ n → ⊥) → suc n ≤ k
past n k h ne = omega arith

module _ (s : Sheet) (e : Edit) (z : Sized s) (i : Index s.plan e) where
  abbrev p : Plan
  p = s.plan

  upper_same : e.kind ≡ 3 → (upper (edited p e) e.column ≡ upper p e.column) × (upper_mark (edited p e) e.column ≡ upper_mark p e.column)
  unfolding edited put
  upper_same w = (rw w, rw w)

  lower_same : e.kind ≡ 4 → (lower (edited p e) e.column ≡ lower p e.column) × (lower_mark (edited p e) e.column ≡ lower_mark p e.column)
  unfolding edited put
  lower_same w = (rw w, rw w)

  -- whether a kind is 3 or 4, and its bounds cross
  by_test : (t c : Bool) → t ≡ true → both_by t c ≡ not c
  by_test t c e = rw e

  pub both_3 : e.kind ≡ 3 → both_fine p e ≡ not (crosses e.number (upper p e.column) 1 (upper_mark p e.column))
  unfolding both_fine
  both_3 w =
      let t = takes s e z i in
      by_test (eqb e.kind 3 || eqb e.kind 4) _ (rw w) ∙ (λ h. not (crosses ((t.lower_taken w).0 h) ((upper_same w).0 h) ((t.lower_taken w).1 h) ((upper_same w).1 h)))

  pub both_4 : e.kind ≡ 4 → both_fine p e ≡ not (crosses (lower p e.column) e.number (lower_mark p e.column) 1)
  unfolding both_fine
  both_4 w =
      let t = takes s e z i in
      by_test (eqb e.kind 3 || eqb e.kind 4) _ (rw w) ∙ (λ h. not (crosses ((lower_same w).0 h) ((t.upper_taken w).0 h) ((lower_same w).1 h) ((t.upper_taken w).1 h)))

pub both_other : (p : Plan) (e : Edit) → (e.kind ≡ 3 → ⊥) → (e.kind ≡ 4 → ⊥) → both_fine p e ≡ true
unfolding both_fine
both_other p e h k = rw (ne_eqb e.kind 3 h, ne_eqb e.kind 4 k)

-- ---- the refusals in their order
-- no number of an i64 is over the limit of kinds 8 and 9
pub any_number_holds : (z : ℤ) → mag z < 2 ^ 63 → nat_abs z ≤ any_number
any_number_holds (pos n) h = omega arith
any_number_holds (negsuc n) h = omega arith

module _ (e : Edit) where
  pub kind_today : kind_refusal e.kind ≡ 0 → Today e
  unfolding kind_refusal first_failed
  kind_today h = at (known_kind e.kind) refl (todays_kind e.kind) refl h
    where
      at : (a : Bool) → known_kind e.kind ≡ a → (b : Bool) → todays_kind e.kind ≡ b → first_failed (16 unless a ∷ 15 unless b ∷ []) ≡ 0 → Today e
      at true p true q w = today e p q
      at true p false q w = absurd (omega arith)
      at false p b q w = absurd (omega arith)

  pub limit_so : nat_abs e.number ≤ limit_of e.kind → NumberIn e
  unfolding limit_of
  limit_so h = record {
    amount_in = λ w. rw w at h;
    cost_in = λ w. rw w at h;
    lower_in = λ w. rw w at h;
    upper_in = λ w. rw w at h;
    right_in = λ w. rw w at h;
    coef_in = λ w. rw w at h;
    mult_in = λ w. rw w at h;
  }

  pub so_limit : Today e → nat_abs e.number ≤ any_number → NumberIn e → nat_abs e.number ≤ limit_of e.kind
  unfolding limit_of
  so_limit y any n = at e.kind refl y.first y.last
    where
      at : (k : ℕ) → e.kind ≡ k → 1 ≤ k → k ≤ 9 → nat_abs e.number ≤ limit_of k
      at zero w l m = absurd (omega arith)
      at (suc zero) w l m = n.amount_in w
      at (suc (suc zero)) w l m = n.cost_in w
      at (suc (suc (suc zero))) w l m = n.lower_in w
      at (suc (suc (suc (suc zero)))) w l m = n.upper_in w
      at (suc (suc (suc (suc (suc zero))))) w l m = n.right_in w
      at (suc (suc (suc (suc (suc (suc zero)))))) w l m = n.coef_in w
      at (suc (suc (suc (suc (suc (suc (suc zero))))))) w l m = n.mult_in w
      at (suc (suc (suc (suc (suc (suc (suc (suc zero)))))))) w l m = any
      at (suc (suc (suc (suc (suc (suc (suc (suc (suc zero))))))))) w l m = any
      at (suc (suc (suc (suc (suc (suc (suc (suc (suc (suc k)))))))))) w l m = absurd (omega arith)

module _ (s : Sheet) (e : Edit) where
  pub refused_kind : (kind_refusal e.kind ≡ 0 → ⊥) → kind_refusal e.kind ≡ edit_refusal s e
  unfolding kind_refusal edit_refusal first_failed
  refused_kind h = at (known_kind e.kind) (todays_kind e.kind) (drop 2 (edit_tests s e)) h
    where
      at : (a b : Bool) (ts : List Test) → (first_failed (16 unless a ∷ 15 unless b ∷ []) ≡ 0 → ⊥) → first_failed (16 unless a ∷ 15 unless b ∷ []) ≡ first_failed (16 unless a ∷ 15 unless b ∷ ts)
      at true true ts h = absurd (h refl)
      at true false ts h = refl
      at false b ts h = refl

  pub refused_sizes : Today e → sizes_fine s ≡ false → 11 ≡ edit_refusal s e
  refused_sizes y t = sym (edit_only s e (EditSays.size y (λ h. no_so (sizes_decide s) t h.0)))

  pub refused_index : Today e → index_fine s.plan e ≡ false → 11 ≡ edit_refusal s e
  refused_index y t = sym (edit_only s e (EditSays.size y (λ h. no_so (index_decides s.plan e) t h.1)))

  module _ (w : Placed s e) where
    pub refused_number : nat_abs e.number ≤ any_number → limit_of e.kind < nat_abs e.number → 12 ≡ edit_refusal s e
    refused_number any over = sym (edit_only s e (EditSays.number w (λ n. absurd (omega (arith, so_limit e w.today any n)))))

    module _ (n : NumberIn e) where
      pub refused_crossed : both_fine s.plan e ≡ false → 13 ≡ edit_refusal s e
      refused_crossed t = sym (edit_only s e (EditSays.crossed w n (would_cross_found s e w.sized w.index t)))

      module _ (t : both_fine s.plan e ≡ true) where
        abbrev uncrossed : ¬ WouldCross s.plan e
        uncrossed = (both_decides s e w.sized w.index).yes_so t

        pub refused_before : sound_at e s ≡ false → 14 ≡ edit_refusal s e
        refused_before u = sym (edit_only s e (EditSays.broken w n uncrossed (λ h. no_so (sound_decides e s) u h.0)))

        module _ (u : sound_at e s ≡ true) where
          abbrev before : Sound e s
          before = (sound_decides e s).yes_so u

          abbrev after : sound_at e (applied s e) ≡ moved_fine s e
          after = after_test s e w.sized n before

          pub refused_after : moved_fine s e ≡ false → 14 ≡ edit_refusal s e
          refused_after v = sym (edit_only s e (EditSays.broken w n uncrossed (λ h. no_so (sound_decides e (applied s e)) (after ∙ v) h.1)))

          pub passes : moved_fine s e ≡ true → 0 ≡ edit_refusal s e
          passes v = sym (edit_only s e (EditSays.accepted w n uncrossed before ((sound_decides e (applied s e)).yes_so (after ∙ v))))

-- ---- the edited cell as it was, by its kind
module _ (p : Plan) (e : Edit) where
  abbrev cell_by : ℕ → Cell
  cell_by k =
      let i = e.row in
      let j = e.column in
      record {
        number = (pos 0 ∷ x p j ∷ c p j ∷ lower p j ∷ upper p j ∷ rhs p i ∷ a p i j ∷ Y p i ∷ lower p j ∷ upper p j ∷ []) ‼ k;
        mark = get_or (1 ∷ 1 ∷ 1 ∷ lower_mark p j ∷ upper_mark p j ∷ 1 ∷ 1 ∷ 1 ∷ lower_mark p j ∷ upper_mark p j ∷ []) k 1;
      }

  pub cell_is : (k : ℕ) → e.kind ≡ k → cell_by k ≡ cell_at p e
  unfolding cell_at old_number old_mark
  cell_is k w = ap cell_by (sym w)

  pub no_cell : (e.kind ≡ 1 → ⊥) → (e.kind ≡ 2 → ⊥) → (e.kind ≡ 3 → ⊥) → (e.kind ≡ 4 → ⊥) → (e.kind ≡ 5 → ⊥) → (e.kind ≡ 6 → ⊥) → (e.kind ≡ 7 → ⊥) → (e.kind ≡ 8 → ⊥) → (e.kind ≡ 9 → ⊥) → cell_by 0 ≡ cell_at p e
  no_cell n1 n2 n3 n4 n5 n6 n7 n8 n9 = at e.kind refl
    where
      at : (k : ℕ) → e.kind ≡ k → cell_by 0 ≡ cell_at p e
      at zero w = cell_is 0 w
      at (suc zero) w = absurd (n1 w)
      at (suc (suc zero)) w = absurd (n2 w)
      at (suc (suc (suc zero))) w = absurd (n3 w)
      at (suc (suc (suc (suc zero)))) w = absurd (n4 w)
      at (suc (suc (suc (suc (suc zero))))) w = absurd (n5 w)
      at (suc (suc (suc (suc (suc (suc zero)))))) w = absurd (n6 w)
      at (suc (suc (suc (suc (suc (suc (suc zero))))))) w = absurd (n7 w)
      at (suc (suc (suc (suc (suc (suc (suc (suc zero)))))))) w = absurd (n8 w)
      at (suc (suc (suc (suc (suc (suc (suc (suc (suc zero))))))))) w = absurd (n9 w)
      at (suc (suc (suc (suc (suc (suc (suc (suc (suc (suc k)))))))))) w = cell_is (suc (suc (suc (suc (suc (suc (suc (suc (suc (suc k)))))))))) w
