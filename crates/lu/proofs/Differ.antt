-- Sparse and dense solves are not equal bit by bit. 01: "Taking sparse and dense solves as bit-equal: the order of subtraction and the sign of zero differ".
-- By computation. Assumes nothing.
use mathlib.Core.Path.{◌≡◌, refl}
use mathlib.Core.Bool.{Bool, true, false}
use mathlib.Core.List.{List, [], ◌∷◌}
use Prim.Native.Nat.{ℕ, zero, suc}
use native.Mathlib.Omega.{arith}
use lib.ListN.{length}
use lib.Ieee.{Float, of_bits, sub, mul, div, eq}
use Rattle.doubles.specs.Num.{f0, f1, finite}
use Rattle.doubles.specs.Loop.{run, down, all}
use Rattle.sparse.specs.Scattered.{touched}
use Rattle.lu_walk.specs.Walk.{walk, reached}
use Rattle.lu_solve.specs.Solve.{Tri, process_col, dense, Out, out, dense_by, given, zeroed, processed, grown, sparse}
use Rattle.lu_gate.specs.Gate.{ok_triangle, ok_starts, ok_rows, ok_column, ok_diag, ok_numbers, ok_held, ok_list}
use Rattle.lu_gate.proofs.Laws.{list_inside}
use Rattle.lu.specs.Result.{result_of, lowest, sparse1, sparse2, sparse3, dense2, tri_solve_sparse, tri_solve_dense}
use Rattle.lu.specs.Triangles.{one_place, three_places, big, -f0}
use Rattle.lu.specs.declared.Answer.TheVariants.{Solved}

-- "the sign of zero": one place, a diagonal of -1.0, nothing listed. The sparse solve leaves 0.0, the dense one 0.0 / -1.0
pub sign_of_zero : (tri_solve_sparse one_place 0 (0 ∷ []) 0 (f0 ∷ []) ≡ result_of (Solved 0) (f0 ∷ []) (0 ∷ [])) × (tri_solve_dense one_place 0 (f0 ∷ []) ≡ result_of (Solved 1) (-f0 ∷ []) [])
unfolding tri_solve_sparse tri_solve_dense ok_triangle ok_starts ok_rows ok_column ok_diag ok_numbers ok_held ok_list all finite eq of_bits div sparse dense given zeroed processed grown touched reached walk run down process_col
sign_of_zero = (refl, refl)

pub zeros_differ : f0 ∷ [] ≡ -f0 ∷ [] → ⊥
unfolding of_bits
zeros_differ e = let w : ◌≡◌ {A = ℕ} 0 1 = cc in omega arith

-- and there is no smaller triangle: without places both solves leave the values as they are
lowest_same : (a b c : Bool) (v : List Float) (l : List ℕ) (s : Out) → (c ≡ true → s.values ≡ v) → (lowest a b c v l s).values ≡ v
lowest_same false b c v l s h = refl
lowest_same true false c v l s h = refl
lowest_same true true false v l s h = refl
lowest_same true true true v l s h = h refl

dense_none : (b : Bool) (t : Tri) (v : List Float) → t.shape.size ≡ 0 → dense_by b t v ≡ v
unfolding run down
dense_none true t v e = rw e refl
dense_none false t v e = rw e refl

sparse_none : (t : Tri) (l : List ℕ) (n : ℕ) (v : List Float) → t.shape.size ≡ 0 → ok_list t.shape.size l n ≡ true → (sparse t l n v).values ≡ v
unfolding sparse processed zeroed reached run down
sparse_none t l zero v e o = rw e refl
sparse_none t l (suc n) v e o = absurd (omega (arith, list_inside t.shape.size (suc n) l (omega arith) o n (omega arith)))

pub none_smaller : (t : Tri) (e : ℕ) (l : List ℕ) (n : ℕ) (v : List Float) → t.shape.size ≡ 0 → ((tri_solve_sparse t e l n v).values ≡ v) × ((tri_solve_dense t e v).values ≡ v)
unfolding tri_solve_sparse tri_solve_dense dense
none_smaller t e l n v z = (
  lowest_same (sparse1 t e l n v) (sparse2 t e l n v) (sparse3 t l n) v l (sparse t l n v) (λ o. sparse_none t l n v z o),
  lowest_same (ok_triangle t e (length v)) (dense2 t e v) true v [] (out (dense t v) [] t.shape.size) (λ _. dense_none t.shape.lower t v z),
)

-- "the order of subtraction": three places without a diagonal, and both place 0 and place 1 are taken off place 2. The walk finishes 2, 0, 1
pub order_of_subtraction :
    (tri_solve_sparse three_places 2 (0 ∷ 1 ∷ 2 ∷ []) 3 (big ∷ big ∷ f1 ∷ []) ≡ result_of (Solved 3) (big ∷ big ∷ f0 ∷ []) (0 ∷ 1 ∷ 2 ∷ []))
    × (tri_solve_dense three_places 2 (big ∷ big ∷ f1 ∷ []) ≡ result_of (Solved 3) (big ∷ big ∷ f1 ∷ []) [])
unfolding tri_solve_sparse tri_solve_dense ok_triangle ok_starts ok_rows ok_column ok_diag ok_numbers ok_held ok_list all finite eq of_bits sub mul sparse dense given zeroed processed grown touched reached walk run down process_col
order_of_subtraction = (refl, refl)
