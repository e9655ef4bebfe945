-- `sheet_sums::dot` meets its contract. Assumes nothing.
use Rattle.std.proofs.Common.{◌≡◌, refl, ℕ, ◌*◌, ◌≤◌, ◌<◌, List, ℤ}
use lib.IntN.{◌*ℤ◌}
use Rattle.doubles.specs.Limits.{max_columns, max_multiplier, max_right_side}
use Rattle.doubles.specs.Loop.{run}
use Rattle.sheet_rules.specs.Sum.{◌‼◌, sum}
use Rattle.sheet_rules.proofs.Sizes.{mul_size}
use Rattle.sheet_terms.specs.Small.{Small}
use Rattle.sheet_terms.proofs.Machine.{E, num, mul, mach, exact, fit}
use Rattle.sheet_terms.proofs.Laws.{Turn, turn}
use Rattle.sheet_sums.proofs.dot.Goals as goal

-- a turn's product and sum, as the machine has them
module _ (xs ys : List ℤ) (n k : ℕ) (a : Small max_multiplier n xs) (b : Small max_right_side n ys) (l : k < n) where
  abbrev product : E
  product = mul (num (xs ‼ k) max_multiplier (a.at k l)) (num (ys ‼ k) max_right_side (b.at k l))

  step : (total : ℤ) → n ≤ max_columns → total ≡ sum k (λ j. xs ‼ j *ℤ ys ‼ j) → Turn (λ j. xs ‼ j *ℤ ys ‼ j) k total (mach product)
  step total few e =
      turn max_columns (max_multiplier * max_right_side) n (λ j. xs ‼ j *ℤ ys ‼ j) k total (mach product) tt few l
      (λ j h. mul_size (xs ‼ j) (ys ‼ j) max_multiplier max_right_side (a.at j h) (b.at j h)) e (exact product tt)

pub loop-k-init : goal.loop-k-init
unfolding sum run
loop-k-init c = refl

pub overflow_mul-total : goal.overflow_mul-total
overflow_mul-total c = fit (product c.args.xs.now c.args.ys.now c.args.n c.loop-k.k c.requires.1 c.requires.2 c.loop-k-test.true) tt

pub overflow_add-total : goal.overflow_add-total
overflow_add-total c = (step c.args.xs.now c.args.ys.now c.args.n c.loop-k.k c.requires.1 c.requires.2 c.loop-k-test.true _ c.requires.0 c.loop-k.invariant).add_fits

pub loop-k-preserved : goal.loop-k-preserved
loop-k-preserved c = (step c.args.xs.now c.args.ys.now c.args.n c.loop-k.k c.requires.1 c.requires.2 c.loop-k-test.true _ c.requires.0 c.loop-k.invariant).is
