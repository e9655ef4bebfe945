-- 01, "One step": the entering column, its filter as 02 has it. From minilp 0.2.2, src/solver.rs, choose_pivot,
-- Apache-2.0, changed. Assumes nothing.
use Rattle.std.specs.Prelude.{Bool, true, false, not, ◌&&◌, ◌||◌, ℕ, ltb, Float, Option, Some, None}
use Rattle.std.specs.Float.Ieee.{lt, neg}
use Rattle.doubles.specs.Num.{◌⊖◌, ◌⊗◌, ◌⊘◌, f0, eps, -inf, size}
use Rattle.doubles.specs.Loop.{run}
use Rattle.doubles.specs.Lists.{◌!◌, ◌#◌}
use Rattle.rules.specs.Plan.{Problem, Workspace, n_of, var_min, var_max, flags_of}
use Rattle.rules.specs.declared.NonBasicVarState.{NonBasicVarState}
use Rattle.rules.specs.declared.Entering.{Entering}

-- "Filter as shown": a column at its lower bound enters only with a price of at most -EPS, one at its upper bound only
-- with one of at least EPS.
-- 02: "a column at neither bound enters only if its price's size is at least EPS"
unfoldable pub may_enter : NonBasicVarState → Float → Bool
may_enter f price =
    not ((f.at_min && lt (neg eps) price)
    || (f.at_max && lt price eps)
    || (not f.at_min && not f.at_max && lt (size price) eps))

-- "score is price * price / norm"
unfoldable pub score_of : Float → Float → Float
score_of price norm = price ⊗ price ⊘ norm

abbrev pub passes_filter : Workspace → ℕ → Bool
passes_filter w c = may_enter (flags_of (w.flags # c)) (w.prices ! c)

abbrev pub score_at : Workspace → ℕ → Float
score_at w c = score_of (w.prices ! c) (w.norms ! c)

-- the best column so far and its score; `col` is n where there is none
pub record Best : Type 0 where
  pub col : ℕ
  pub score : Float

abbrev pub best_of : ℕ → Float → Best
best_of c x = record { col = c; score = x }

-- "strictly largest wins, first on a tie"
unfoldable pub better_turn : Workspace → ℕ → Best → Best
better_turn w c b = elim (passes_filter w c && lt b.score (score_at w c)) [ true ↦ best_of c (score_at w c) | false ↦ b ]

unfoldable pub best_column : ℕ → Workspace → Best
best_column n w = run (better_turn w) n (best_of n -inf)

-- the bound that the entering variable moves to: it rises where its price is below 0.0
unfoldable pub other_val : Problem → Workspace → ℕ → Float
other_val P w c = elim (lt (w.prices ! c) f0) [ true ↦ var_max P (w.nb_vars # c) | false ↦ var_min P (w.nb_vars # c) ]

-- "The entering column travels with its price, score and distance"
unfoldable pub entering_of : Problem → Workspace → Best → Entering
entering_of P w b =
    let c = b.col in
    record { col = c; price = w.prices ! c; score = b.score; distance = size (other_val P w c ⊖ w.nb_var_vals ! c) }

unfoldable pub choose : Problem → Workspace → Option Entering
choose P w =
    let b = best_column (n_of P) w in
    elim (ltb b.col (n_of P)) [ true ↦ Some (entering_of P w b) | false ↦ None ]
