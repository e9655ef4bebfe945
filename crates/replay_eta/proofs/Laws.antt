-- A store that passes the tests can be read. Assumes nothing.
use mathlib.Core.Path.{◌≡◌}
use mathlib.Core.Bool.{true, ◌&&◌}
use mathlib.Core.List.{List, []}
use Prim.Native.Nat.{ℕ, zero, suc, ◌+◌, ◌-◌, ◌<◌, ◌≤◌}
use native.Mathlib.Nat.{le_refl, le_trans}
use native.Mathlib.Omega.{arith}
use lib.Dec.{ltb, leb, eqb}
use lib.ListN.{length}
use lib.Ieee.{Float}
use borrow.Author.Tests.{ltb-true, leb-true, eqb-true}
use Rattle.doubles.specs.Num.{f0}
use Rattle.doubles.specs.Limits.{places}
use Rattle.doubles.specs.Lists.{◌#◌}
use Rattle.doubles.specs.Loop.{all}
use Rattle.doubles.proofs.Loops.{both_true, all_at}
use Rattle.sparse.specs.Scattered.{Within}
use Rattle.rules.specs.Parts.{plan_of, etas_of}
use Rattle.rules.specs.Refusals.{starts_rise}
use Rattle.basis_etas.specs.Store.{Readable}

-- the arrays are long enough
pub record Long (leaving starts rows : List ℕ) (coeffs : List Float) (n entries : ℕ) (at : List ℕ) (xs : List Float) (listed : ℕ) : Type 0 where
  pub leaving_long : n ≤ length leaving
  pub starts_long : n < length starts
  pub rows_long : entries ≤ length rows
  pub coeffs_long : entries ≤ length coeffs
  pub at_long : listed ≤ length at
  pub xs_long : listed ≤ length xs

pub long : (leaving starts rows : List ℕ) (coeffs : List Float) (n entries : ℕ) (at : List ℕ) (xs : List Float) (listed : ℕ)
    → (leb n (length leaving) && ltb n (length starts) && leb entries (length rows) && leb entries (length coeffs) && leb listed (length at) && leb listed (length xs)) ≡ true
    → Long leaving starts rows coeffs n entries at xs listed
long leaving starts rows coeffs n entries at xs listed h =
    let f = both_true _ _ h in
    let e = both_true _ _ f.0 in
    let d = both_true _ _ e.0 in
    let c = both_true _ _ d.0 in
    let b = both_true _ _ c.0 in
    record {
      leaving_long = leb-true _ _ b.0;
      starts_long = ltb-true _ _ b.1;
      rows_long = leb-true _ _ c.1;
      coeffs_long = leb-true _ _ d.1;
      at_long = leb-true _ _ e.1;
      xs_long = leb-true _ _ f.1;
    }

-- no start is past the last
upto : (S : List ℕ) (n : ℕ) → ((k : ℕ) → k < n → S # k ≤ S # (k + 1)) → (d j : ℕ) → j + d ≡ n → S # j ≤ S # n
upto S n h zero j e = let q : j ≡ n = omega (arith, e) in rw q (le_refl _)
upto S n h (suc d) j e = le_trans (h j (omega (arith, e))) (upto S n h d (j + 1) (omega (arith, e)))

ends : (S : List ℕ) (n e : ℕ) → ((k : ℕ) → k < n → S # k ≤ S # (k + 1)) → S # n ≡ e → (k : ℕ) → k < n → S # (k + 1) ≤ e
ends S n e h q k l = omega (arith, q, upto S n h (n - (k + 1)) (k + 1) (omega arith))

pub all_within_holds : (at : List ℕ) (n : ℕ) → n ≤ length at → all (length at) (λ k. ltb (at # k) places) ≡ true → Within places n at
all_within_holds at n h e = record { inside = λ k l. ltb-true _ _ (all_at _ (length at) e k (omega arith)) }

module _ (leaving starts rows : List ℕ) (coeffs : List Float) (n entries : ℕ) (at : List ℕ) (xs : List Float) (listed : ℕ) (z : Long leaving starts rows coeffs n entries at xs listed) where
  pub readable : starts_rise (plan_of 0 n entries 0 f0 [] [] [] starts [] [] [] []) ≡ true → all (length leaving) (λ k. ltb (leaving # k) places) ≡ true → all (length rows) (λ k. ltb (rows # k) places) ≡ true
      → Readable (etas_of leaving starts rows coeffs) n
  unfolding starts_rise
  readable s l r =
      let parts : ((eqb (starts # 0) 0 && all n (λ k. leb (starts # k) (starts # (k + 1)))) ≡ true) × (eqb (starts # n) entries ≡ true) = both_true (eqb (starts # 0) 0 && all n (λ k. leb (starts # k) (starts # (k + 1)))) (eqb (starts # n) entries) s in
      let rise : all n (λ k. leb (starts # k) (starts # (k + 1))) ≡ true = (both_true (eqb (starts # 0) 0) (all n (λ k. leb (starts # k) (starts # (k + 1)))) parts.0).1 in
      let rises : (k : ℕ) → k < n → starts # k ≤ starts # (k + 1) = λ k h. leb-true _ _ (all_at _ n rise k h) in
      let last : starts # n ≡ entries = eqb-true _ _ parts.1 in
      record {
        column = λ k h. record {
          leaving_long = omega (arith, z.leaving_long);
          starts_long = omega (arith, z.starts_long);
          leaves = ltb-true _ _ (all_at _ (length leaving) l k (omega (arith, z.leaving_long)));
          rises = rises k h;
          rows_long = omega (arith, ends starts n entries rises last k h, z.rows_long);
          coeffs_long = omega (arith, ends starts n entries rises last k h, z.coeffs_long);
          rows = λ i a b. ltb-true _ _ (all_at _ (length rows) r i (omega (arith, ends starts n entries rises last k h, z.rows_long)));
        };
      }
