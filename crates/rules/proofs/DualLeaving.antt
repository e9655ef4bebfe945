-- What the choice of a dual step's leaving row means, said apart from its loop. Assumes nothing.
use mathlib.Core.Path.{◌≡◌, refl, sym, ap, ◌∙◌, subst}
use mathlib.Core.Bool.{Bool, true, false, ◌||◌}
use mathlib.Core.Logic.{◌↔◌, ⊎_elim}
use Prim.Native.Nat.{ℕ, ◌<◌}
use native.Mathlib.Omega.{arith}
use borrow.Author.Tests.{lt-ltb, le-ltb}
use lib.Dec.{ltb}
use lib.Ieee.{Float, lt}
use Rattle.doubles.specs.Num.{◌⊕◌, ◌⊖◌, eps, -inf}
use Rattle.doubles.specs.Lists.{◌!◌}
use Rattle.doubles.proofs.Tests.{not_both, either}
use Rattle.doubles.proofs.Order.{lt_number}
use Rattle.doubles.proofs.Largest.{Best, kept, took, best, above, at_least, by_above, only_one}
use Rattle.rules.specs.Plan.{Problem, Workspace, m_of}
use Rattle.rules.specs.Choose.{score_of}
use Rattle.rules.specs.DualRow.{too_low, outside, bound_broken, row_min, row_max, outside_at, infeasibility_at, row_score_at, BestRow, best_row_of, better_row_turn, best_row, leaving_row_of, choose_row}
use Rattle.rules.specs.DualChoices.{OutsideBy, below, above as Above·above, IsLeaving, NoneLeaves}
use Rattle.rules.specs.declared.LeavingVar.{LeavingVar}
use Rattle.std.specs.Prelude.{Option, Some, None}

module _ (P : Problem) (w : Workspace) where
  -- ---- the test
  abbrev tests : ℕ → Bool
  tests r = lt (w.basic_var_vals ! r) (row_min P w r ⊖ eps) || lt (row_max P w r ⊕ eps) (w.basic_var_vals ! r)

  by_outside : (r : ℕ) → OutsideBy P w r → tests r ≡ true
  by_outside r (below h) = rw h
  by_outside r (Above·above h) = go (lt (w.basic_var_vals ! r) (row_min P w r ⊖ eps))
    where
      go : (b : Bool) → b || lt (row_max P w r ⊕ eps) (w.basic_var_vals ! r) ≡ true
      go true = refl
      go false = h

  pub outside_means : (r : ℕ) → outside_at P w r ≡ true ↔ OutsideBy P w r
  unfolding outside too_low
  outside_means r =
      (λ h. ⊎_elim below Above·above (either (lt (w.basic_var_vals ! r) (row_min P w r ⊖ eps)) _ h), by_outside r)

  -- ---- the choice: its row settles it, and no other row is one
  abbrev broken : ℕ → Float
  broken r = bound_broken (row_min P w r) (w.basic_var_vals ! r) (row_max P w r)

  abbrev standing : ℕ → LeavingVar
  standing r = record { row = r; infeasibility = infeasibility_at P w r; score = row_score_at P w r; value = broken r }

  value_settled : (l : LeavingVar) → IsLeaving P w l → l.value ≡ broken l.row
  unfolding bound_broken
  value_settled l a = go (lt (w.basic_var_vals ! l.row) (row_min P w l.row)) refl
    where
      go : (b : Bool) → lt (w.basic_var_vals ! l.row) (row_min P w l.row) ≡ b
          → l.value ≡ elim b [ true ↦ row_min P w l.row | false ↦ row_max P w l.row ]
      go true q = a.lower_is q
      go false q = a.upper_is q

  settled : (l : LeavingVar) → IsLeaving P w l → l ≡ standing l.row
  unfolding score_of
  settled l a =
      let whole : ◌≡◌ {A = LeavingVar} (record { row = l.row; infeasibility = l.infeasibility; score = l.score; value = l.value }) (standing l.row) =
      cc (a.infeasibility_is, a.score_is, value_settled l a) in
      whole

  same : (l k : LeavingVar) → IsLeaving P w l → IsLeaving P w k → l ≡ k
  same l k a b =
      let r : l.row ≡ k.row = only_one a.wins b.wins (lt_number _ _ a.scores) (lt_number _ _ b.scores) in
      settled l a ∙ ap standing r ∙ sym (settled k b)

  not_none : (l : LeavingVar) → IsLeaving P w l → NoneLeaves P w → ⊥
  not_none l a h = not_both a.scores (h l.row a.wins.inside a.wins.passes)

  -- one of the two holds of what `choose_row` gives
  data Chosen : Option LeavingVar → Type 0 where
    leaves : (l : LeavingVar) → IsLeaving P w l → Chosen (Some l)
    none : NoneLeaves P w → Chosen None

  abbrev Kept : BestRow → Type 0
  Kept b = Best above at_least (outside_at P w) (row_score_at P w) (λ r. best_row_of r (row_score_at P w r)) -inf (best_row_of (m_of P) -inf) (m_of P) b

  found : Kept (best_row P w)
  unfolding better_row_turn best_row
  found =
      best by_above (outside_at P w) (row_score_at P w) (λ b. b.score) (λ r. best_row_of r (row_score_at P w r)) (λ r. refl) (better_row_turn P w) (λ r b. refl)
      (best_row_of (m_of P) -inf) (m_of P)

  lower_by : (r : ℕ) → lt (w.basic_var_vals ! r) (row_min P w r) ≡ true → broken r ≡ row_min P w r
  unfolding bound_broken
  lower_by r q = rw (q, bound_broken)

  upper_by : (r : ℕ) → lt (w.basic_var_vals ! r) (row_min P w r) ≡ false → broken r ≡ row_max P w r
  unfolding bound_broken
  upper_by r q = rw (q, bound_broken)

  chosen : Chosen (choose_row P w)
  unfolding choose_row leaving_row_of score_of
  chosen = go (best_row P w) found
    where
      go : (b : BestRow) → Kept b → Chosen (elim (ltb b.row (m_of P)) [ true ↦ Some (leaving_row_of P w b) | false ↦ None ])
      go _ (kept h) = rw (le-ltb (m_of P) (m_of P) (omega arith)) (none h)
      go _ (took r l t a h f) =
          rw (lt-ltb r (m_of P) l)
          (leaves (leaving_row_of P w (best_row_of r (row_score_at P w r)))
          (record {
            wins = record { inside = l; passes = t; largest = h; first = f };
            scores = a;
            infeasibility_is = refl;
            score_is = refl;
            lower_is = lower_by r;
            upper_is = upper_by r;
          }))

  by_leaves : {x : Option LeavingVar} → Chosen x → (l : LeavingVar) → x ≡ Some l → IsLeaving P w l
  by_leaves (leaves k a) l q = let z : k ≡ l = cc in subst (IsLeaving P w) z a
  by_leaves (none h) l q = absurd (let z : ◌≡◌ {A = ℕ} 0 1 = cc in omega arith)

  by_nothing : {x : Option LeavingVar} → Chosen x → x ≡ None → NoneLeaves P w
  by_nothing (leaves k a) q = absurd (let z : ◌≡◌ {A = ℕ} 0 1 = cc in omega arith)
  by_nothing (none h) q = h

  gives_leaves : {x : Option LeavingVar} → Chosen x → (l : LeavingVar) → IsLeaving P w l → x ≡ Some l
  gives_leaves (leaves k a) l b = ap Some (same k l a b)
  gives_leaves (none h) l b = absurd (not_none l b h)

  gives_nothing : {x : Option LeavingVar} → Chosen x → NoneLeaves P w → x ≡ None
  gives_nothing (leaves k a) h = absurd (not_none k a h)
  gives_nothing (none g) h = refl

  -- 02: "the leaving row has the largest squared infeasibility over dual norm, first on a tie"
  pub leaves_exactly : (l : LeavingVar) → choose_row P w ≡ Some l ↔ IsLeaving P w l
  leaves_exactly l = (by_leaves chosen l, gives_leaves chosen l)

  -- "None: the primal steps begin": none leaves exactly when no row that is outside scores above -inf
  pub none_exactly : choose_row P w ≡ None ↔ NoneLeaves P w
  none_exactly = (by_nothing chosen, gives_nothing chosen)

  pub leaves_below : (l : LeavingVar) → choose_row P w ≡ Some l → l.row < m_of P
  leaves_below l q = ((leaves_exactly l).0 q).wins.inside
