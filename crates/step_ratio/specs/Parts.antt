-- Parts of the ratio that functions of their own answer. Assumes nothing.
use Rattle.std.specs.Prelude.{Bool, true, false, ◌&&◌, ℕ, ltb, Option, Some, None, Float}
use Rattle.std.specs.Float.Ieee.{lt, le}
use Rattle.doubles.specs.Num.{◌⊖◌, finite, infinite, size}
use Rattle.doubles.specs.Lists.{◌!◌}
use Rattle.sparse.specs.Scattered.{Sv, listed, listed_val}
use Rattle.rules.specs.Plan.{Problem, Workspace}
use Rattle.rules.specs.Ratio.{examined, limit, relaxed, step_to, sound_ratios, pass_one, pass_two, exchange_of}
use Rattle.rules.specs.declared.Entering.{Entering}
use Rattle.rules.specs.declared.PivotInfo.TheVariants.{Flip}
use Rattle.rules.specs.declared.Ratio.{Ratio}
use Rattle.rules.specs.declared.Ratio.TheVariants.{Pivot, Unbounded}

-- the room that an examined row leaves
unfoldable pub room_of : Problem → Workspace → Bool → ℕ → Float → Option Float
room_of P w up r a = elim (examined P w up r a) [ true ↦ Some (limit P w up r a) | false ↦ None ]

-- pass one's turn at a row, with the test of 23
unfoldable pub shrunk : Problem → Workspace → Bool → ℕ → Float → Float → Option Float
shrunk P w up r a t =
    elim (examined P w up r a) [
      | true ↦ elim (finite (relaxed P w up r a)) [
        | true ↦ elim (lt (relaxed P w up r a) t) [ true ↦ Some (relaxed P w up r a) | false ↦ Some t ]
        | false ↦ None
      ]
      | false ↦ Some t
    ]

unfoldable pub max_step_of : Problem → Workspace → Bool → Sv → Float → Option Float
max_step_of P w up c distance = elim (sound_ratios P w up c) [ true ↦ Some (pass_one P w up c distance) | false ↦ None ]

-- pass two's test of a row against the largest size so far
unfoldable pub taken : Problem → Workspace → Bool → ℕ → Float → Float → Float → Bool
taken P w up r a max_step best = (examined P w up r a && le (step_to P w up r a) max_step) && lt best (size a)

-- both passes
unfoldable pub leaving_by : Problem → Workspace → Bool → Sv → Float → Option ℕ
leaving_by P w up c distance =
    elim (sound_ratios P w up c) [ true ↦ Some (pass_two P w up c (pass_one P w up c distance)).at | false ↦ None ]

-- what the row at place `at` of the column's list gives, and where there is none the other bound
unfoldable pub pivot_by : Problem → Workspace → Entering → Sv → Float → ℕ → Ratio
pivot_by P w e c other at =
    elim (ltb at c.pat.count) [
      | true ↦ Pivot (exchange_of P w e (listed c at) (listed_val c at))
      | false ↦ elim (infinite other) [ true ↦ Unbounded | false ↦ Pivot (Flip other (other ⊖ w.nb_var_vals ! e.col)) ]
    ]
