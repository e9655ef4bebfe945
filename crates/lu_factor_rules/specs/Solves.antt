-- Solves with a factor, over scattered vectors. From minilp 0.2.2, src/lu.rs, LUFactors::solve, Apache-2.0, changed.
-- Assumes nothing.
use Rattle.std.specs.Prelude.{Bool, true, false, List, ℕ, Float}
use Rattle.doubles.specs.Loop.{run}
use Rattle.doubles.specs.Lists.{◌!◌, ◌#◌}
use Rattle.sparse.specs.Scattered.{Sv, blank, put_at, cleared}
use Rattle.lu_solve.specs.Solve.{Tri, tri, Out, sparse}
use Rattle.lu_factor_rules.specs.Factor.{Factor, Matrix}
use Rattle.lu_factor_rules.specs.Transpose.{transpose}

-- a matrix as a triangle over m places: a lower or an upper one, with the diagonal or without
abbrev pub tri_of : Bool → ℕ → Matrix → Bool → List Float → Tri
tri_of l m t h d = tri l m t.starts t.rows t.vals h d

-- the first n of the listed values put into a vector, in listed order, at their places or at those that a map gives
-- them
abbrev pub plain_turn : List Float → List ℕ → ℕ → Sv → Sv
plain_turn v l k t = put_at t (l # k) (v ! (l # k))

unfoldable pub plain : List Float → List ℕ → ℕ → Sv → Sv
plain v l n t = run (plain_turn v l) n t

abbrev pub map_turn : List ℕ → List Float → List ℕ → ℕ → Sv → Sv
map_turn at v l k t = put_at t (at # (l # k)) (v ! (l # k))

unfoldable pub mapped : List ℕ → List Float → List ℕ → ℕ → Sv → Sv
mapped at v l n t = run (map_turn at v l) n t

-- two sparse solves, one after the other
abbrev pub second : Tri → Out → Out
second t o = sparse t o.list o.count o.values

unfoldable pub twice : Tri → Tri → Sv → Out
twice t u s = second u (sparse t s.pat.list s.pat.count s.vals)

-- "mapped to pivot numbers in listed order; sparse solve with L (no diagonal); sparse solve with U; the result's places
-- are basis places"
unfoldable pub solve_in : ℕ → List ℕ → Matrix → Matrix → List Float → Sv → Sv
solve_in m number lower upper diag s =
    let o = twice (tri_of true m lower false diag) (tri_of false m upper true diag)
    (mapped number s.vals s.pat.list s.pat.count blank) in
    plain o.values o.list o.count (cleared s)

-- "sparse solve with the transpose of U (a lower triangle, with the diagonal); sparse solve with the transpose of L;
-- places are mapped back to kept rows in listed order"
unfoldable pub solve_transp_in : ℕ → List ℕ → Matrix → Matrix → List Float → Sv → Sv
solve_transp_in m order upper_t lower_t diag s =
    let o = twice (tri_of true m upper_t true diag) (tri_of false m lower_t false diag)
    (plain s.vals s.pat.list s.pat.count blank) in
    mapped order o.values o.list o.count (cleared s)

abbrev pub solve_by : Factor → Sv → Sv
solve_by f s = solve_in f.size f.number f.lower f.upper f.diag s

abbrev pub solve_transp_by : Factor → Sv → Sv
solve_transp_by f s = solve_transp_in f.size f.order (transpose f.size f.upper) (transpose f.size f.lower)
    f.diag s

-- "none yet (the identity)": "With no factor both maps are the identity: same bits and lists as before"
pub data Held : Type 0 where
  none : Held
  held : Factor → Held

unfoldable pub factor_solve : Held → Sv → Sv
factor_solve none s = s
factor_solve (held f) s = solve_by f s

unfoldable pub factor_solve_transp : Held → Sv → Sv
factor_solve_transp none s = s
factor_solve_transp (held f) s = solve_transp_by f s
