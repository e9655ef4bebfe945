-- Parts of the choice that functions of their own answer. Assumes nothing.
use Rattle.std.specs.Prelude.{Bool, true, false, ◌&&◌, ℕ, Float}
use Rattle.std.specs.Float.Ieee.{lt}
use Rattle.rules.specs.Plan.{Problem, var_min, var_max, flags_of}
use Rattle.rules.specs.Choose.{may_enter, score_of, Best as Column, best_of}
use Rattle.step_choose.specs.declared.Best.{Best}

-- the code's best column as the definition's
abbrev pub column : Best → Column
column b = best_of b.col b.score

-- the turn at column c: its price, norm and flags
unfoldable pub better_of : ℕ → Float → Float → ℕ → Column → Column
better_of c price norm flags b = elim (may_enter (flags_of flags) price && lt b.score (score_of price norm)) [ true ↦ best_of c (score_of price norm) | false ↦ b ]

-- one of a variable's bounds
abbrev pub side_of : Problem → Bool → ℕ → Float
side_of P max v = elim max [ true ↦ var_max P v | false ↦ var_min P v ]
