-- The plan of a stage as the solver is lent it. No contract cites this file. Assumes nothing.
use mathlib.Core.Path.{◌≡◌, ap, ◌∙◌}
use mathlib.Core.List.{List, []}
use Prim.Native.Nat.{ℕ}
use lib.Ieee.{Float}
use Rattle.doubles.specs.Num.{f0}
use Rattle.sheet_rules.specs.Sheet.{Plan, plan_of}
use Rattle.rules.specs.Plan as Rules
use Rattle.rules.specs.Parts as Parts
use Rattle.night_rules.specs.Doubles.{start_at, entries_to, entry_count, doubles_plan}
use Rattle.night_doubles.specs.Laid.{cells_of}
use Rattle.night_doubles.specs.Converted.{converted}

-- the comparisons aside
abbrev pub converts : Plan → Plan
converts p = plan_of p.rows p.cols p.coefs p.costs p.lowers p.uppers p.lower_marks p.upper_marks
    p.rhs [] [] []

abbrev pub entries_in : Plan → ℕ
entries_in p = entry_count (cells_of p.rows p.cols p.coefs)

module _ (p : Plan) (budget : ℕ) (tolerance : Float) where
  -- the plan as solve is lent it
  pub plan_is : {k : ℕ} {c l u : List Float} {s v : List ℕ} {x r : List Float} → k ≡ entries_in p
      → converted p.cols p.rows (entries_in p) c l u s v x r ≡ doubles_plan 0 f0 (converts p)
      → Parts.plan_of p.cols p.rows k budget tolerance c l u s v x p.ops r ≡ doubles_plan budget tolerance p
  unfolding doubles_plan entry_count start_at entries_to
  plan_is {k} {c} {l} {u} {s} {v} {x} {r} e f =
      ap (λ (i : ℕ). Parts.plan_of p.cols p.rows i budget tolerance c l u s v x p.ops r) e
      ∙ ap (λ (g : Rules.Plan). Parts.plan_of g.columns g.rows g.entries budget tolerance g.costs
      g.lowers g.uppers g.starts g.cols g.coeffs p.ops g.rhs) f
