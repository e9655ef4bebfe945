-- Parts of the ratio on prices that functions of their own answer. Assumes nothing.
use Rattle.std.specs.Prelude.{Bool, true, false, ◌&&◌, ℕ, Option, Some, None, Float}
use Rattle.std.specs.Float.Ieee.{lt, le}
use Rattle.doubles.specs.Num.{◌⊕◌, ◌⊖◌, ◌⊘◌, eps, finite, size}
use Rattle.sparse.specs.Scattered.{Sv}
use Rattle.rules.specs.Plan.{Workspace}
use Rattle.rules.specs.DualRatio.{clamped, dual_sound, dual_pass_one}
use Rattle.rules.specs.declared.NonBasicVarState.{NonBasicVarState}
use Rattle.rules.specs.declared.DualRatio.{DualRatio}
use Rattle.rules.specs.declared.DualRatio.TheVariants.{Exchange}

-- the quotients of a column with flags f, price d and coefficient a
abbrev pub relaxed_of : NonBasicVarState → Float → Float → Float
relaxed_of f d a = (size (clamped f d) ⊕ eps) ⊘ size a

abbrev pub step_of : NonBasicVarState → Float → Float → Float
step_of f d a = size (clamped f d) ⊘ size a

-- pass one's turn at such a column, over those that a test lets in, with the test of 23
unfoldable pub shrunk : (NonBasicVarState → Float → Bool) → NonBasicVarState → Float → Float → Float → Option Float
shrunk test f d a t =
    elim (test f a) [
      | true ↦ elim (finite (relaxed_of f d a)) [
        | true ↦ elim (lt (relaxed_of f d a) t) [ true ↦ Some (relaxed_of f d a) | false ↦ Some t ]
        | false ↦ None
      ]
      | false ↦ Some t
    ]

unfoldable pub max_step_of : Workspace → (NonBasicVarState → Float → Bool) → Sv → Option Float
max_step_of w test r = elim (dual_sound w test r) [ true ↦ Some (dual_pass_one w test r) | false ↦ None ]

-- pass two's test of a column against the largest size so far
unfoldable pub taken : (NonBasicVarState → Float → Bool) → NonBasicVarState → Float → Float → Float → Float → Bool
taken test f d a max_step best = (test f a && le (step_of f d a) max_step) && lt best (size a)

-- the exchange of column c, from its numbers and the move of the leaving variable
unfoldable pub exchange_by : ℕ → Float → Float → Float → Float → Float → DualRatio
exchange_by c price value from to pivot =
    let diff = (from ⊖ to) ⊘ pivot in
    Exchange (record { col = c; price = price; score = size pivot; distance = size diff }) (value ⊕ diff) diff pivot
