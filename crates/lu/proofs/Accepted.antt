-- What is known where a solve is not refused. Assumes nothing.
use mathlib.Core.Path.{◌≡◌, refl}
use mathlib.Core.Bool.{Bool, true, false, ◌&&◌}
use mathlib.Core.List.{List}
use Prim.Native.Nat.{ℕ}
use native.Mathlib.Omega.{arith}
use lib.ListN.{length}
use lib.Dec.{leb}
use lib.Ieee.{Float}
use borrow.Author.Tests.{leb-true}
use Rattle.doubles.proofs.Loops.{both_true}
use Rattle.lu_solve.specs.Solve.{Tri, Out, Numbers, Distinct}
use Rattle.lu_gate.specs.Gate.{ok_triangle}
use Rattle.lu_gate.proofs.Laws.{told, numbers_told, distinct_told}
use Rattle.lu.specs.Result.{Result, solved, lowest, sparse1, sparse3}

pub record Accepted (t : Tri) (l : List ℕ) (n : ℕ) (v : List Float) : Type 0 where
  pub numbers : Numbers t v
  pub distinct : Distinct t.shape l n

pub accepted : (t : Tri) (e : ℕ) (l : List ℕ) (n : ℕ) (v : List Float) → sparse1 t e l n v ≡ true → sparse3 t l n ≡ true → Accepted t l n v
accepted t e l n v a c =
    let x = both_true (ok_triangle t e (length v) && leb t.shape.size (length l)) (leb n (length l)) a in
    let y = both_true (ok_triangle t e (length v)) (leb t.shape.size (length l)) x.0 in
    let k = numbers_told t e v (told t e (length v) y.0) in
    record { numbers = k; distinct = distinct_told t.shape l n k.columns.small (leb-true _ _ y.1) (leb-true _ _ x.1) c }

pub at_zero : (a b c : Bool) (v : List Float) (l : List ℕ) (s : Out) (P : Result → Type 0) → (lowest a b c v l s).number ≡ 0 → (a ≡ true → c ≡ true → P (solved s)) → P (lowest a b c v l s)
at_zero false b c v l s P e h = absurd (omega arith)
at_zero true false c v l s P e h = absurd (omega arith)
at_zero true true false v l s P e h = absurd (omega arith)
at_zero true true true v l s P e h = h refl refl
