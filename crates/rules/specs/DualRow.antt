-- 02, Ask 8: "the leaving row has the largest squared infeasibility over dual norm, first on a tie". From minilp 0.2.2,
-- src/solver.rs, choose_pivot_row_dual, Apache-2.0, changed. Assumes nothing.
use Rattle.std.specs.Prelude.{Bool, true, false, ◌||◌, ◌&&◌, ℕ, ltb, Float, Option, Some, None}
use Rattle.std.specs.Float.Ieee.{lt}
use Rattle.doubles.specs.Num.{◌⊕◌, ◌⊖◌, eps, -inf}
use Rattle.doubles.specs.Loop.{run}
use Rattle.doubles.specs.Lists.{◌!◌, ◌#◌}
use Rattle.rules.specs.Plan.{Problem, Workspace, m_of, var_min, var_max}
use Rattle.rules.specs.Choose.{score_of}
use Rattle.rules.specs.declared.LeavingVar.{LeavingVar}

-- docs/RULES-02.md: "of a basic value below lower - EPS the infeasibility is lower - value, of one above upper + EPS it is
-- value - upper"
unfoldable pub too_low : Float → Float → Bool
too_low lo x = lt x (lo ⊖ eps)

unfoldable pub outside : Float → Float → Float → Bool
outside lo x hi = too_low lo x || lt (hi ⊕ eps) x

unfoldable pub infeasibility_of : Float → Float → Float → Float
infeasibility_of lo x hi = elim (too_low lo x) [ true ↦ lo ⊖ x | false ↦ x ⊖ hi ]

-- "The leaving value is the lower bound where value < lower, else the upper"
unfoldable pub bound_broken : Float → Float → Float → Float
bound_broken lo x hi = elim (lt x lo) [ true ↦ lo | false ↦ hi ]

module _ (P : Problem) (w : Workspace) where
  abbrev pub row_min : ℕ → Float
  row_min r = var_min P (w.basic_vars # r)

  abbrev pub row_max : ℕ → Float
  row_max r = var_max P (w.basic_vars # r)

  abbrev pub outside_at : ℕ → Bool
  outside_at r = outside (row_min r) (w.basic_var_vals ! r) (row_max r)

  abbrev pub infeasibility_at : ℕ → Float
  infeasibility_at r = infeasibility_of (row_min r) (w.basic_var_vals ! r) (row_max r)

  -- "squared infeasibility over dual norm"
  abbrev pub row_score_at : ℕ → Float
  row_score_at r = score_of (infeasibility_at r) (w.dual_norms ! r)

-- the best row so far and its score; `row` is m where there is none
pub record BestRow : Type 0 where
  pub row : ℕ
  pub score : Float

abbrev pub best_row_of : ℕ → Float → BestRow
best_row_of r x = record { row = r; score = x }

-- "strictly largest", "first on a tie"
unfoldable pub better_row_turn : Problem → Workspace → ℕ → BestRow → BestRow
better_row_turn P w r b =
    elim (outside_at P w r && lt b.score (row_score_at P w r)) [ true ↦ best_row_of r (row_score_at P w r) | false ↦ b ]

unfoldable pub best_row : Problem → Workspace → BestRow
best_row P w = run (better_row_turn P w) (m_of P) (best_row_of (m_of P) -inf)

unfoldable pub leaving_row_of : Problem → Workspace → BestRow → LeavingVar
leaving_row_of P w b =
    let r = b.row in
    record {
      row = r;
      infeasibility = infeasibility_at P w r;
      score = b.score;
      value = bound_broken (row_min P w r) (w.basic_var_vals ! r) (row_max P w r);
    }

unfoldable pub choose_row : Problem → Workspace → Option LeavingVar
choose_row P w =
    let b = best_row P w in
    elim (ltb b.row (m_of P)) [ true ↦ Some (leaving_row_of P w b) | false ↦ None ]
