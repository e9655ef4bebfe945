-- 01, "Final check" (ours), its excess as 02 has it, and the values of a state. Assumes nothing.
use Rattle.std.specs.Prelude.{Bool, true, false, List, ℕ, ◌+◌, ◌-◌, ltb, Float}
use Rattle.std.specs.Float.Ieee.{lt, le, is_nan}
use Rattle.doubles.specs.Num.{◌⊕◌, ◌⊖◌, f0, +inf, finite, size}
use Rattle.doubles.specs.Loop.{run, table}
use Rattle.doubles.specs.Lists.{◌!◌, ◌#◌}
use Rattle.rules.specs.Plan.{Problem, Workspace, n_of, m_of, var_min, var_max, var_state_of, row_sum}
use Rattle.rules.specs.declared.VarState.TheVariants.{Basic, NonBasic}
use Rattle.rules.specs.declared.Worst.{Worst}
use Rattle.rules.specs.declared.Checked.{Checked}
use Rattle.rules.specs.declared.Checked.TheVariants.{Passed, Value, Row}

-- get_value, "get_value's reference a value"
unfoldable pub value_of : ℕ → Workspace → ℕ → Float
value_of n w v = elim (var_state_of n (w.var_states # v)) [ Basic r ↦ w.basic_var_vals ! r | NonBasic c ↦ w.nb_var_vals ! c ]

-- the columns, then the slacks of the kept rows
unfoldable pub values_of : Problem → Workspace → List Float
values_of P w = table (n_of P + m_of P) (value_of (n_of P) w)

-- 02: "a NaN or +inf excess of a finite bound or row, counts as +inf"
unfoldable pub counted : Float → Float
counted x = elim (is_nan x) [ true ↦ +inf | false ↦ x ]

-- 02: "An infinite bound gives no excess": 0.0 never wins
unfoldable pub beyond : Float → Float → Float
beyond bound x = elim (finite bound) [ true ↦ counted x | false ↦ f0 ]

unfoldable pub larger : Float → Float → Float
larger x y = elim (lt x y) [ true ↦ y | false ↦ x ]

-- the places of the check: the values, then the kept rows
abbrev pub places_of : Problem → ℕ
places_of P = n_of P + m_of P + m_of P

abbrev pub worst_of : ℕ → Float → Worst
worst_of k x = record { at = k; excess = x }

-- 02: "Acceptance is excess <= tol"; a rejection names the place, a value or a kept row
unfoldable pub judged : Problem → Worst → Checked
judged P w =
    elim (le w.excess P.plan.tolerance) [
      | true ↦ Passed w.excess
      | false ↦ elim (ltb w.at (n_of P + m_of P)) [
        | true ↦ Value w.at w.excess
        | false ↦ Row (w.at - (n_of P + m_of P)) w.excess
      ]
    ]

module _ (P : Problem) (xs : List Float) where
  -- 02: "each excess computed as the value beyond its bound (lower - value or value - upper)"; "a value that isn't
  -- finite … counts as +inf"
  unfoldable pub value_excess : ℕ → Float
  value_excess v =
      elim (finite (xs ! v)) [
        | true ↦ larger (beyond (var_min P v) (var_min P v ⊖ xs ! v)) (beyond (var_max P v) (xs ! v ⊖ var_max P v))
        | false ↦ +inf
      ]

  -- 02: "or the residual's size"; 01: "the size of rhs - (row sum + slack)"
  unfoldable pub row_excess : ℕ → Float
  row_excess r =
      let i = P.kept # r in
      counted (size (P.plan.rhs ! i ⊖ (row_sum P.plan i xs ⊕ xs ! (n_of P + r))))

  -- 01: "columns before slacks", "then, row by row"
  unfoldable pub excess_at : ℕ → Float
  excess_at k = elim (ltb k (n_of P + m_of P)) [ true ↦ value_excess k | false ↦ row_excess (k - (n_of P + m_of P)) ]

  -- 02: "the largest excess over all bounds and rows, with its place, first on a tie, and 0.0 when nothing exceeds 0"
  unfoldable pub worst_turn : ℕ → Worst → Worst
  worst_turn k w = let x = excess_at k in elim (lt w.excess x) [ true ↦ worst_of k x | false ↦ w ]

  unfoldable pub worst : Worst
  worst = run worst_turn (places_of P) (worst_of (places_of P) f0)

  -- 02: "Make it return the largest excess", and acceptance by it
  unfoldable pub final_check : Checked
  final_check = judged P worst
