-- `sheet_terms::go_on` meets its contract. Assumes nothing.
use Rattle.std.proofs.Common.{◌≡◌, ℕ, ◌*◌, ◌≤◌, ◌<◌, List, length}
use native.Mathlib.Omega.{arith}
use lib.IntN.{ℤ, ◌*ℤ◌}
use Rattle.doubles.specs.Limits.{max_columns, max_coefficient, max_amount}
use Rattle.sheet_rules.specs.Sum.{◌‼◌, sum}
use Rattle.sheet_rules.proofs.Sizes.{mul_size}
use Rattle.sheet_terms.specs.Small.{Small}
use Rattle.sheet_terms.proofs.Machine.{E, num, mul, mach, exact, fit}
use Rattle.sheet_terms.proofs.Laws.{Turn, turn}
use Rattle.sheet_terms.proofs.go_on.Goals as goal

-- a turn's product and sum, as the machine has them
module _ (row amounts : List ℤ) (j : ℕ) (a : Small max_coefficient (length row) row) (x : Small max_amount (length row) amounts) (l : j < length row) where
  abbrev product : E
  product = mul (num (row ‼ j) max_coefficient (a.at j l)) (num (amounts ‼ j) max_amount (x.at j l))

  step : (r : ℤ) → length row ≤ max_columns → r ≡ sum j (λ k. row ‼ k *ℤ amounts ‼ k) → Turn (λ k. row ‼ k *ℤ amounts ‼ k) j r (mach product)
  step r few e =
      turn max_columns (max_coefficient * max_amount) (length row) (λ k. row ‼ k *ℤ amounts ‼ k) j r (mach product) tt few l
      (λ k h. mul_size (row ‼ k) (amounts ‼ k) max_coefficient max_amount (a.at k h) (x.at k h)) e (exact product tt)

pub overflow_mul-r : goal.overflow_mul-r
overflow_mul-r c = fit (product c.args.row.now c.args.amounts.now c.loop-j.j c.requires.3 c.requires.4 (omega arith)) tt

pub overflow_add-r : goal.overflow_add-r
overflow_add-r c = (step c.args.row.now c.args.amounts.now c.loop-j.j c.requires.3 c.requires.4 (omega arith) _ c.requires.2 c.loop-j.invariant).add_fits

pub loop-j-preserved : goal.loop-j-preserved
loop-j-preserved c = (step c.args.row.now c.args.amounts.now c.loop-j.j c.requires.3 c.requires.4 (omega arith) _ c.requires.2 c.loop-j.invariant).is
