-- The part of a problem that has its bounds; a variable's are those of the part that is lent to look it up. Assumes nothing.
use mathlib.Core.Path.{◌≡◌, refl}
use mathlib.Core.List.{[]}
use Prim.Native.Nat.{ℕ}
use Rattle.rules.specs.Plan.{Problem, n_of, var_min, var_max}
use Rattle.rules.specs.Parts.{bounded}

abbrev pub bounds_of : Problem → Problem
bounds_of P = bounded (n_of P) P.plan.lowers P.plan.uppers P.plan.ops P.kept

pub min_part : (P : Problem) (v : ℕ) → var_min P v ≡ var_min (bounded (n_of P) P.plan.lowers [] P.plan.ops P.kept) v
unfolding var_min
min_part P v = refl

pub max_part : (P : Problem) (v : ℕ) → var_max P v ≡ var_max (bounded (n_of P) [] P.plan.uppers P.plan.ops P.kept) v
unfolding var_max
max_part P v = refl
