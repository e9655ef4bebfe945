-- `sheet_sums::wrong_signs` meets its contract. Assumes nothing.
use Rattle.std.proofs.Common.{◌≡◌, refl, ℕ, ℤ}
use mathlib.Core.Path.{ap, ◌∙◌}
use native.Mathlib.Omega.{arith}
use mir.Syntax.{w64}
use mir.Val.{to_z}
use Rattle.doubles.specs.Limits.{max_rows}
use Rattle.doubles.specs.Lists.{◌#◌}
use Rattle.doubles.specs.Loop.{run}
use Rattle.sheet_rules.specs.Sum.{◌‼◌, sum, bit}
use Rattle.sheet_rules.specs.Sheet.{wrong}
use Rattle.sheet_rules.proofs.Sizes.{bit_size}
use Rattle.sheet_terms.proofs.Machine.{word, result}
use Rattle.sheet_terms.proofs.Laws.{Turn, turn}
use Rattle.sheet_sums.proofs.wrong_signs.Goals.{After-bit-total}
use Rattle.sheet_sums.proofs.wrong_signs.Goals as goal

module _ (c : After-bit-total) where
  -- the terms
  abbrev at : ℕ → ℤ
  at k = bit (wrong (c.args.ops.now # k) (c.args.mults.now ‼ k))

  -- this turn's, as the machine has it
  now_is : word c.bit-total.result ≡ at c.loop-i.i
  now_is = result c.bit-total.result c.bit-total.type_inv ∙ c.bit-total.ensures ∙ ap bit (c.wrong.ensures ∙ rw (result (c.args.mults.now ‼ c.loop-i.i) (omega arith)))

  step : Turn at c.loop-i.i (to_z w64 c.loop-i.total-bits) (word c.bit-total.result)
  step = turn max_rows 1 c.args.rows at c.loop-i.i _ _ tt c.requires.0 c.loop-i-test.true (λ k _. bit_size _) c.loop-i.invariant now_is

pub loop-i-init : goal.loop-i-init
unfolding sum run
loop-i-init c = refl

pub overflow_add-total : goal.overflow_add-total
overflow_add-total c = (step c).add_fits

pub loop-i-preserved : goal.loop-i-preserved
loop-i-preserved c = (step c).is
