-- What a triangle solve answers and leaves. 01: "Refused, lowest first, nothing changed". Assumes nothing.
use Rattle.std.specs.Prelude.{Bool, true, false, ◌&&◌, List, [], ℕ, length, leb, Float}
use Rattle.doubles.specs.Loop.{all}
use Rattle.lu_solve.specs.Solve.{Tri, Out, out, sparse, dense}
use Rattle.lu_gate.specs.Gate.{ok_triangle, ok_numbers, finite_at, ok_held, ok_list}
use Rattle.lu.specs.declared.Answer.{Answer}
use Rattle.lu.specs.declared.Answer.TheVariants.{Solved, BadTriangle, NotFinite, BadList}

-- 01's number of an answer, and how many places it names: those listed afterwards, or all in a dense solve
abbrev pub number_of : Answer → ℕ
number_of (Solved n) = 0
number_of BadTriangle = 1
number_of NotFinite = 2
number_of BadList = 3

abbrev pub places_of : Answer → ℕ
places_of (Solved n) = n
places_of BadTriangle = 0
places_of NotFinite = 0
places_of BadList = 0

-- the answer as a number, and every lent cell afterwards
pub record Result : Type 0 where
  pub number : ℕ
  pub places : ℕ
  pub values : List Float
  pub list : List ℕ

abbrev pub result_of : Answer → List Float → List ℕ → Result
result_of a v l = record { number = number_of a; places = places_of a; values = v; list = l }

abbrev pub refused : ℕ → List Float → List ℕ → Result
refused k v l = record { number = k; places = 0; values = v; list = l }

abbrev pub solved : Out → Result
solved s = record { number = 0; places = s.count; values = s.values; list = s.list }

-- the lowest number whose test fails
abbrev pub lowest : Bool → Bool → Bool → List Float → List ℕ → Out → Result
lowest false b c v l s = refused 1 v l
lowest true false c v l s = refused 2 v l
lowest true true false v l s = refused 3 v l
lowest true true true v l s = solved s

-- the three tests of a sparse solve: the list's array is as long as the triangle, and as what it lists
abbrev pub sparse1 : Tri → ℕ → List ℕ → ℕ → List Float → Bool
sparse1 t e l n v = (ok_triangle t e (length v) && leb t.shape.size (length l)) && leb n (length l)

abbrev pub sparse2 : Tri → ℕ → List ℕ → ℕ → List Float → Bool
sparse2 t e l n v = ok_numbers t.shape.size e t.vals t.has_diag t.diag && ok_held t.shape.size l n v

abbrev pub sparse3 : Tri → List ℕ → ℕ → Bool
sparse3 t l n = ok_list t.shape.size l n

unfoldable pub tri_solve_sparse : Tri → ℕ → List ℕ → ℕ → List Float → Result
tri_solve_sparse t e l n v = lowest (sparse1 t e l n v) (sparse2 t e l n v) (sparse3 t l n) v l (sparse t l n v)

-- a dense solve has no list: all places count, and none is refused
abbrev pub dense2 : Tri → ℕ → List Float → Bool
dense2 t e v = ok_numbers t.shape.size e t.vals t.has_diag t.diag && all t.shape.size (finite_at v)

unfoldable pub tri_solve_dense : Tri → ℕ → List Float → Result
tri_solve_dense t e v = lowest (ok_triangle t e (length v)) (dense2 t e v) true v [] (out (dense t v) [] t.shape.size)

-- LUFactors::solve_dense, 01's "solve_dense (no permutations)": the lower triangle t, then the upper one u, of the same size. The numbers in between are not
-- tested, as in the shown text
abbrev pub factors1 : Tri → ℕ → Tri → ℕ → List Float → Bool
factors1 t e u f v = ok_triangle t e (length v) && ok_triangle u f (length v)

abbrev pub factors2 : Tri → ℕ → Tri → ℕ → List Float → Bool
factors2 t e u f v =
    (ok_numbers t.shape.size e t.vals t.has_diag t.diag && ok_numbers u.shape.size f u.vals u.has_diag u.diag)
    && all t.shape.size (finite_at v)

unfoldable pub solve_dense : Tri → ℕ → Tri → ℕ → List Float → Result
solve_dense t e u f v = lowest (factors1 t e u f v) (factors2 t e u f v) true v [] (out (dense u (dense t v)) [] t.shape.size)
