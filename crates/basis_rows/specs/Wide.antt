-- Wide arrays: a cell for each place, then cells for basic variables, whose numbers start at n. A vector is their first n
-- cells and as much of the list as counts; all that stands behind is as in a fresh vector. Assumes nothing.
use Rattle.std.specs.Prelude.{Bool, true, false, List, ◌++◌, ℕ, ltb, take, drop, replicate, Float}
use Rattle.doubles.specs.Num.{f0}
use Rattle.doubles.specs.Limits.{places, vars}
use Rattle.sparse.specs.Scattered.{Pat, pat, Sv, sv_of, touched}

-- the first n of l over the front of b
abbrev pub front : {A : Type 0} → ℕ → List A → List A → List A
front n l b = take n l ++ drop n b

abbrev pub narrow_pat : ℕ → List Bool → List ℕ → ℕ → Pat
narrow_pat n m l k = pat (front n m (replicate places false)) (front k l (replicate places 0)) k

abbrev pub narrow : ℕ → List Float → List Bool → List ℕ → ℕ → Sv
narrow n v m l k = sv_of (front n v (replicate places f0)) (narrow_pat n m l k)

-- a cell below n is a place
abbrev pub touched_in : ℕ → Pat → ℕ → Pat
touched_in n p c = elim (ltb c n) [ true ↦ touched p c | false ↦ p ]

-- the cell of a number of var_states
abbrev pub cell_in : ℕ → ℕ
cell_in w = elim (ltb w vars) [ true ↦ w | false ↦ places ]
