-- What the code holds and answers, as the definitions have it. Assumes nothing.
use Rattle.std.specs.Prelude.{List, ℕ, Float}
use Rattle.doubles.specs.Loop.{Next, done, more}
use Rattle.lu_factor_rules.specs.Factor.{Parts, parts, entries, Partial, Outcome, factored, non_finite, singular}
use Rattle.lu_factor_rules.specs.Factor.{Found, found, Factor, matrix}
use Rattle.lu_factor_rules.specs.declared.Counts.{Counts}
use Rattle.lu_factor_rules.specs.declared.Factored.{Factored}
use Rattle.lu_factor_rules.specs.declared.Factored.TheVariants.{Added, NotFinite, Singular}
use Rattle.lu_factor_rules.specs.declared.Ended.{Ended}
use Rattle.lu_factor_rules.specs.declared.Ended.TheVariants.{Done, NotFinite as Wild, Singular as Flat}

-- L and U: four arrays and their counts
abbrev pub parts_of : List ℕ → List Float → List ℕ → List Float → Counts → Parts
parts_of lr lv ur uv c = parts (entries lr lv c.lower) (entries ur uv c.upper)

abbrev pub none : Counts
none = record { lower = 0; upper = 0 }

-- a column's answer with the arrays beside it; where there is no pivot they are of no use
abbrev pub outcome_of : List ℕ → List Float → List ℕ → List Float → Factored → Outcome Found
outcome_of lr lv ur uv (Added p) = factored (found p.row p.value (parts_of lr lv ur uv p.counts))
outcome_of lr lv ur uv NotFinite = non_finite
outcome_of lr lv ur uv Singular = singular

-- the state of the making: order, number, starts of L and U, diagonal, L and U
abbrev pub partial_of : ℕ → List ℕ → List ℕ → List ℕ → List ℕ → List Float → Parts → Partial
partial_of i order number lstarts ustarts diag t =
    record {
      made = i;
      order = order;
      number = number;
      lower = t.lower;
      lower_starts = lstarts;
      upper = t.upper;
      upper_starts = ustarts;
      diag = diag;
    }

abbrev pub counts_in : Counts → Factored → Counts
counts_in c (Added p) = p.counts
counts_in c NotFinite = c
counts_in c Singular = c

-- a turn's answer with the state after it
abbrev pub next_in : Factored → Partial → Next Partial (Outcome Partial)
next_in (Added p) f = more f
next_in NotFinite f = done non_finite
next_in Singular f = done singular

-- the whole's answer with the arrays beside it
abbrev pub end_in : Ended → (Counts → Partial) → Outcome Partial
end_in (Done c) f = factored (f c)
end_in Wild f = non_finite
end_in Flat f = singular

abbrev pub factor_in : Ended → (Counts → Factor) → Outcome Factor
factor_in (Done c) f = factored (f c)
factor_in Wild f = non_finite
factor_in Flat f = singular

-- the factor as the code leaves it
abbrev pub factor_at : ℕ → List ℕ → List ℕ → List ℕ → List ℕ → List Float → List ℕ → List Float → List ℕ → List Float
    → Factor
factor_at m order number lstarts ustarts diag lr lv ur uv =
    record {
      size = m;
      order = order;
      number = number;
      lower = matrix lstarts lr lv;
      upper = matrix ustarts ur uv;
      diag
          = diag;
    }
