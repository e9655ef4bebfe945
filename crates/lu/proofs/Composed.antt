-- What `lu::solve_dense` is: the two public solves of one triangle, one after the other. Assumes nothing.
use mathlib.Core.Path.{◌≡◌, refl, sym, ap, ◌∙◌}
use mathlib.Core.Bool.{Bool, true, false, ◌&&◌}
use mathlib.Core.List.{List, []}
use Prim.Native.Nat.{ℕ, ◌<◌}
use native.Mathlib.Omega.{arith}
use lib.ListN.{length}
use lib.Ieee.{Float}
use Rattle.doubles.specs.Num.{finite}
use Rattle.doubles.specs.Loop.{all}
use Rattle.doubles.specs.Lists.{◌!◌}
use Rattle.doubles.proofs.Loops.{both_true, all_by}
use Rattle.lu_solve.specs.Solve.{Tri, Out, out, dense}
use Rattle.lu_solve.proofs.Laws.{length_dense}
use Rattle.lu_gate.specs.Gate.{ok_triangle, ok_numbers, finite_at}
use Rattle.lu.specs.Result.{Result, solved, lowest, dense2, factors1, factors2, tri_solve_dense, solve_dense}

-- a number 0 has passed its tests, and the other way round
record Passed (a b : Bool) (r : Result) (s : Out) : Type 0 where
  first : a ≡ true
  second : b ≡ true
  is : r ≡ solved s

passed : (a b : Bool) (v : List Float) (s : Out) → (lowest a b true v [] s).number ≡ 0 → Passed a b (lowest a b true v [] s) s
passed false b v s e = absurd (omega arith)
passed true false v s e = absurd (omega arith)
passed true true v s e = record { first = refl; second = refl; is = refl }

passes : {a b : Bool} (v : List Float) (s : Out) → a ≡ true → b ≡ true → lowest a b true v [] s ≡ solved s
passes v s e f = rw (e, f) refl

and_true : {a b : Bool} → a ≡ true → b ≡ true → a && b ≡ true
and_true e f = rw e f

module _ (t : Tri) (e : ℕ) (u : Tri) (f : ℕ) (v : List Float) (same : u.shape.size ≡ t.shape.size) where
  abbrev numbers : Tri → ℕ → Bool
  numbers t e = ok_numbers t.shape.size e t.vals t.has_diag t.diag

  abbrev both : Out
  both = out (dense u (dense t v)) [] t.shape.size

  lower_passed : (tri_solve_dense t e v).number ≡ 0 → Passed (ok_triangle t e (length v)) (dense2 t e v) (tri_solve_dense t e v) (out (dense t v) [] t.shape.size)
  unfolding tri_solve_dense
  lower_passed h = passed (ok_triangle t e (length v)) (dense2 t e v) v (out (dense t v) [] t.shape.size) h

  upper_passed : (tri_solve_dense u f (dense t v)).number ≡ 0 → Passed (ok_triangle u f (length (dense t v))) (dense2 u f (dense t v)) (tri_solve_dense u f (dense t v)) (out (dense u (dense t v)) [] u.shape.size)
  unfolding tri_solve_dense
  upper_passed h = passed (ok_triangle u f (length (dense t v))) (dense2 u f (dense t v)) (dense t v) (out (dense u (dense t v)) [] u.shape.size) h

  -- where both public calls answer 0, the one call gives what the second of them gives
  pub solve_dense_is : (tri_solve_dense t e v).number ≡ 0 → (tri_solve_dense u f (tri_solve_dense t e v).values).number ≡ 0 → solve_dense t e u f v ≡ tri_solve_dense u f (tri_solve_dense t e v).values
  unfolding solve_dense
  solve_dense_is h g =
      let a = lower_passed h in
      let middle : (tri_solve_dense t e v).values ≡ dense t v = ap (λ (r : Result). r.values) a.is in
      let b = upper_passed (rw middle at g) in
      let x = both_true (numbers t e) _ a.second in
      let y = both_true (numbers u f) _ b.second in
      passes v both (and_true a.first (rw (length_dense t v) at b.first)) (and_true (and_true x.0 y.0) x.1)
      ∙ ap (λ (n : ℕ). solved (out (dense u (dense t v)) [] n)) (sym same) ∙ sym b.is ∙ ap (tri_solve_dense u f) (sym middle)

  -- and where the one call answers 0, so do both, unless a number in between isn't finite: the second alone would refuse it
  pub solve_dense_by : (solve_dense t e u f v).number ≡ 0
      → ((tri_solve_dense t e v).number ≡ 0) × ((solve_dense t e u f v).values ≡ dense u (tri_solve_dense t e v).values)
      × (((i : ℕ) → i < t.shape.size → finite ((tri_solve_dense t e v).values ! i) ≡ true) → (tri_solve_dense u f (tri_solve_dense t e v).values).number ≡ 0)
  unfolding solve_dense tri_solve_dense
  solve_dense_by h =
      let a = passed (factors1 t e u f v) (factors2 t e u f v) v both h in
      let ok = both_true (ok_triangle t e (length v)) (ok_triangle u f (length v)) a.first in
      let num = both_true (numbers t e && numbers u f) _ a.second in
      let of = both_true (numbers t e) (numbers u f) num.0 in
      let lower : tri_solve_dense t e v ≡ solved (out (dense t v) [] t.shape.size) = passes v (out (dense t v) [] t.shape.size) ok.0 (and_true of.0 num.1) in
      let middle : (tri_solve_dense t e v).values ≡ dense t v = ap (λ (r : Result). r.values) lower in (
        ap (λ (r : Result). r.number) lower,
        ap (λ (r : Result). r.values) a.is ∙ ap (dense u) (sym middle),
        λ g.
            let ok-middle : ok_triangle u f (length (dense t v)) ≡ true = rw (length_dense t v) ok.1 in
            let finite-middle : all u.shape.size (finite_at (dense t v)) ≡ true =
            all_by (finite_at (dense t v)) u.shape.size (λ i l. ap (λ (w : List Float). finite (w ! i)) (sym middle) ∙ g i (rw same at l)) in
            ap (λ (w : List Float). (tri_solve_dense u f w).number) middle ∙ ap (λ (r : Result). r.number) (passes (dense t v) (out (dense u (dense t v)) [] u.shape.size) ok-middle (and_true of.1 finite-middle)),
      )
