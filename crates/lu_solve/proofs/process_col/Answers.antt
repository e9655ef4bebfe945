-- `lu_solve::process_col` meets its contract. Assumes nothing.
use Rattle.std.proofs.Common.{◌≡◌, ℕ, ◌+◌, ◌-◌, ◌<◌, ◌≤◌, List, refl}
use lib.ListN.{length-set}
use native.Mathlib.Omega.{arith}
use lib.Ieee.{Float}
use Rattle.doubles.specs.Lists.{◌#◌}
use Rattle.doubles.specs.Loop.{run}
use Rattle.doubles.proofs.Loops.{next, done}
use Rattle.lu_solve.specs.Solve.{Tri, Numbers, process_col}
use Rattle.lu_solve.proofs.process_col.Goals as goal

-- the row of an entry of a column is one of the triangle's
row_in : {t : Tri} {v : List Float} → Numbers t v → {c k : ℕ} → c < t.shape.size → t.shape.starts # c ≤ k
    → k < t.shape.starts # (c + 1) → t.shape.rows # k < t.shape.size
row_in {t} n {c} {k} h a b =
    let q : t.shape.starts # c + (k - t.shape.starts # c) ≡ k = omega arith in
    rw q at (n.columns.inside c (k - t.shape.starts # c) h (omega arith))

-- one turn more of a loop that counts from a
next_from : {S : Type 0} (step : ℕ → S → S) (s₀ : S) {s t : S} (a k : ℕ) → a ≤ k → s ≡ run step (k - a) s₀
    → t ≡ step (k - a) s → t ≡ run step (k + 1 - a) s₀
next_from step s₀ a k h e f = let q : k + 1 - a ≡ k - a + 1 = omega arith in rw q (next step s₀ (k - a) e f)

pub loop-k-init : goal.loop-k-init
unfolding run
loop-k-init c = let z : c.args.starts.now # c.args.col - c.args.starts.now # c.args.col ≡ 0 = omega arith in rw z refl

pub offset_bounds-values-r : goal.offset_bounds-values-r
offset_bounds-values-r c =
    omega (arith, row_in c.requires.1 c.requires.0 c.loop-k.auto.k c.loop-k-test.true, c.requires.1.columns.small)

pub bounds-values-r : goal.bounds-values-r
bounds-values-r c =
    let r = row_in c.requires.1 c.requires.0 c.loop-k.auto.k c.loop-k-test.true in
    omega (arith, r, c.requires.1.values_long, simp length-set at c.loop-k.auto.values)

pub offset_bounds-values-r-in-loop-k : goal.offset_bounds-values-r-in-loop-k
offset_bounds-values-r-in-loop-k c =
    omega (arith, row_in c.requires.1 c.requires.0 c.loop-k.auto.k c.loop-k-test.true, c.requires.1.columns.small)

pub bounds-values-r-in-loop-k : goal.bounds-values-r-in-loop-k
bounds-values-r-in-loop-k c =
    let r = row_in c.requires.1 c.requires.0 c.loop-k.auto.k c.loop-k-test.true in
    omega (arith, r, c.requires.1.values_long, simp length-set at c.loop-k.auto.values)

pub loop-k-preserved : goal.loop-k-preserved
loop-k-preserved c =
    let a = c.args.starts.now # c.args.col in
    let q : a + (c.loop-k.k - a) ≡ c.loop-k.k = omega arith in
    next_from _ _ a c.loop-k.k c.loop-k.auto.k c.loop-k.invariant (rw q refl)

pub returns : goal.returns
unfolding process_col
returns c =
    let k = c.loop-k.k - c.args.starts.now # c.args.col in
    let r = c.requires.1.columns.rise c.args.col c.requires.0 in
    rw (← c.own-x.ensures) (done _ _ k _ (omega arith) (omega arith) c.loop-k.invariant)
