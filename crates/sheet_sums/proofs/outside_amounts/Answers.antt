-- `sheet_sums::outside_amounts` meets its contract. Assumes nothing.
use Rattle.std.proofs.Common.{◌≡◌, refl, ℕ, ℤ}
use mathlib.Core.Path.{ap, ◌∙◌}
use native.Mathlib.Omega.{arith}
use mir.Syntax.{w64}
use mir.Val.{to_z}
use Rattle.doubles.specs.Limits.{max_columns}
use Rattle.doubles.specs.Lists.{◌#◌}
use Rattle.doubles.specs.Loop.{run}
use Rattle.sheet_rules.specs.Sum.{◌‼◌, sum, bit}
use Rattle.sheet_rules.specs.Sheet.{outside}
use Rattle.sheet_rules.proofs.Sizes.{bit_size}
use Rattle.sheet_terms.proofs.Machine.{word, result}
use Rattle.sheet_terms.proofs.Laws.{Turn, turn}
use Rattle.sheet_sums.proofs.outside_amounts.Goals.{After-bit-total}
use Rattle.sheet_sums.proofs.outside_amounts.Goals as goal

module _ (c : After-bit-total) where
  -- the terms
  abbrev at : ℕ → ℤ
  at k = bit (outside (c.args.amounts.now ‼ k) (c.args.lowers.now ‼ k) (c.args.uppers.now ‼ k) (c.args.lower_marks.now # k) (c.args.upper_marks.now # k))

  -- this turn's, as the machine has it
  now_is : word c.bit-total.result ≡ at c.loop-j.j
  now_is = result c.bit-total.result c.bit-total.type_inv ∙ c.bit-total.ensures ∙ ap bit (c.outside.ensures ∙ rw (result (c.args.amounts.now ‼ c.loop-j.j) (omega arith), result (c.args.lowers.now ‼ c.loop-j.j) (omega arith), result (c.args.uppers.now ‼ c.loop-j.j) (omega arith)))

  step : Turn at c.loop-j.j (to_z w64 c.loop-j.total-bits) (word c.bit-total.result)
  step = turn max_columns 1 c.args.columns at c.loop-j.j _ _ tt c.requires.0 c.loop-j-test.true (λ k _. bit_size _) c.loop-j.invariant now_is

pub loop-j-init : goal.loop-j-init
unfolding sum run
loop-j-init c = refl

pub overflow_add-total : goal.overflow_add-total
overflow_add-total c = (step c).add_fits

pub loop-j-preserved : goal.loop-j-preserved
loop-j-preserved c = (step c).is
