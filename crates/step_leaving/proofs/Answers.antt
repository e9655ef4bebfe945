-- What the code's tests say of the choice's answers. Assumes nothing.
use mathlib.Core.Path.{◌≡◌, sym, ap, ◌∙◌}
use mathlib.Core.Bool.{Bool, true, false}
use Prim.Native.Nat.{ℕ, ◌<◌, ◌≤◌}
use borrow.Author.Tests.{lt-ltb, le-ltb}
use lib.Dec.{ltb}
use lib.Ieee.{Float, lt}
use Rattle.doubles.specs.Num.{◌⊗◌, ◌⊘◌}
use Rattle.doubles.specs.Lists.{◌!◌}
use Rattle.rules.specs.Plan.{Problem, Workspace, m_of}
use Rattle.rules.specs.Choose.{score_of}
use Rattle.rules.specs.DualRow.{outside, row_min, row_max, infeasibility_of, bound_broken, BestRow, best_row_of, better_row_turn, best_row, leaving_row_of, choose_row}
use Rattle.std.specs.Prelude.{Option, Some, None}
use Rattle.rules.specs.declared.LeavingVar.{LeavingVar}
use Rattle.step_leaving.specs.Parts.{better_row_of}

-- ---- a turn, by the code's tests
module _ (r : ℕ) (lo x hi norm : Float) (b : BestRow) {o : Bool} (out : o ≡ outside lo x hi) where
  pub turn_inside : o ≡ false → b ≡ better_row_of r lo x hi norm b
  unfolding better_row_of
  turn_inside h = rw (sym out ∙ h, better_row_of)

  module _ {d : Float} (h : o ≡ true) (e : d ≡ infeasibility_of lo x hi) where
    pub turn_takes : lt b.score (d ⊗ d ⊘ norm) ≡ true → best_row_of r (d ⊗ d ⊘ norm) ≡ better_row_of r lo x hi norm b
    unfolding better_row_of score_of
    turn_takes t = rw (sym out ∙ h, ← e, t, better_row_of, e)

    pub turn_keeps : lt b.score (d ⊗ d ⊘ norm) ≡ false → b ≡ better_row_of r lo x hi norm b
    unfolding better_row_of score_of
    turn_keeps t = rw (sym out ∙ h, ← e, t, better_row_of)

-- the loop's turn, from the bounds that were looked up
pub turn : (P : Problem) (w : Workspace) (r : ℕ) (b : BestRow) {lo hi : Float} {c : BestRow} → lo ≡ row_min P w r → hi ≡ row_max P w r
    → c ≡ better_row_of r lo (w.basic_var_vals ! r) hi (w.dual_norms ! r) b → c ≡ better_row_turn P w r b
unfolding better_row_of better_row_turn
turn P w r b e f q = q ∙ rw (e, f)

-- ---- the answer
module _ (P : Problem) (w : Workspace) {b : BestRow} (best : b ≡ best_row P w) where
  abbrev pick : BestRow → Option LeavingVar
  pick b = elim (ltb b.row (m_of P)) [ true ↦ Some (leaving_row_of P w b) | false ↦ None ]

  pub chosen : {lo hi d v : Float} → b.row < m_of P → lo ≡ row_min P w b.row → hi ≡ row_max P w b.row
      → d ≡ infeasibility_of lo (w.basic_var_vals ! b.row) hi → v ≡ bound_broken lo (w.basic_var_vals ! b.row) hi
      → Some (record { row = b.row; infeasibility = d; score = b.score; value = v }) ≡ choose_row P w
  unfolding choose_row leaving_row_of
  chosen {d} {v} l e f g h =
      let this : Some (record { row = b.row; infeasibility = d; score = b.score; value = v }) ≡ pick b =
      rw (lt-ltb b.row (m_of P) l, pick, g, h, e, f) in
      this ∙ ap pick best

  pub not_chosen : m_of P ≤ b.row → None ≡ choose_row P w
  unfolding choose_row
  not_chosen g =
      let this : None ≡ pick b = rw (le-ltb b.row (m_of P) g, pick) in
      this ∙ ap pick best
