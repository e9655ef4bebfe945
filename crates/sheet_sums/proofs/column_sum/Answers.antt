-- `sheet_sums::column_sum` meets its contract. Assumes nothing.
use Rattle.std.proofs.Common.{◌≡◌, refl, ℕ, ◌+◌, ◌*◌, ◌≤◌, ◌<◌, List, ℤ}
use lib.IntN.{◌*ℤ◌}
use Rattle.doubles.specs.Limits.{max_rows, max_coefficient, max_multiplier}
use Rattle.doubles.specs.Loop.{run}
use Rattle.sheet_rules.specs.Sum.{◌‼◌, sum}
use Rattle.sheet_rules.proofs.Local.{place_in}
use Rattle.sheet_rules.proofs.Sizes.{mul_size}
use Rattle.sheet_terms.specs.Small.{Small}
use Rattle.sheet_terms.proofs.Machine.{E, num, mul, mach, exact, fit}
use Rattle.sheet_terms.proofs.Laws.{Turn, turn}
use Rattle.sheet_sums.proofs.column_sum.Goals as goal

-- a turn's product and sum, as the machine has them
module _ (coefs mults : List ℤ) (rows columns column i : ℕ) (inside : column < columns) (a : Small max_coefficient (rows * columns) coefs) (b : Small max_multiplier rows mults) (l : i < rows) where
  abbrev product : E
  product = mul (num (coefs ‼ (i * columns + column)) max_coefficient (a.at _ (place_in i rows column columns l inside))) (num (mults ‼ i) max_multiplier (b.at i l))

  abbrev at : ℕ → ℤ
  at k = coefs ‼ (k * columns + column) *ℤ mults ‼ k

  step : (total : ℤ) → rows ≤ max_rows → total ≡ sum i at → Turn at i total (mach product)
  step total few e =
      turn max_rows (max_coefficient * max_multiplier) rows at i total (mach product) tt few l
      (λ k h. mul_size (coefs ‼ (k * columns + column)) (mults ‼ k) max_coefficient max_multiplier (a.at _ (place_in k rows column columns h inside)) (b.at k h)) e (exact product tt)

pub loop-i-init : goal.loop-i-init
unfolding sum run
loop-i-init c = refl

pub overflow_mul-total-in-loop-i : goal.overflow_mul-total-in-loop-i
overflow_mul-total-in-loop-i c = fit (product c.args.coefs.now c.args.mults.now c.args.rows c.args.columns c.args.column c.loop-i.i c.requires.1 c.requires.2 c.requires.3 c.loop-i-test.true) tt

pub overflow_add-total-in-loop-i : goal.overflow_add-total-in-loop-i
overflow_add-total-in-loop-i c = (step c.args.coefs.now c.args.mults.now c.args.rows c.args.columns c.args.column c.loop-i.i c.requires.1 c.requires.2 c.requires.3 c.loop-i-test.true _ c.requires.0 c.loop-i.invariant).add_fits

pub loop-i-preserved : goal.loop-i-preserved
loop-i-preserved c = (step c.args.coefs.now c.args.mults.now c.args.rows c.args.columns c.args.column c.loop-i.i c.requires.1 c.requires.2 c.requires.3 c.loop-i-test.true _ c.requires.0 c.loop-i.invariant).is
