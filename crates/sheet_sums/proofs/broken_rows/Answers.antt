-- `sheet_sums::broken_rows` meets its contract. Assumes nothing.
use Rattle.std.proofs.Common.{◌≡◌, refl, ℕ, ℤ}
use mathlib.Core.Path.{ap, ◌∙◌}
use mathlib.Core.Bool.{Bool, not}
use native.Mathlib.Omega.{arith}
use mir.Syntax.{w64}
use mir.Val.{to_z}
use Rattle.doubles.specs.Limits.{max_rows}
use Rattle.doubles.specs.Lists.{◌#◌}
use Rattle.doubles.specs.Loop.{run}
use Rattle.sheet_rules.specs.Sum.{◌‼◌, sum, bit}
use Rattle.sheet_rules.specs.Sheet.{holds}
use Rattle.sheet_rules.proofs.Sizes.{bit_size}
use Rattle.sheet_terms.proofs.Machine.{word, result}
use Rattle.sheet_terms.proofs.Laws.{Turn, turn}
use Rattle.sheet_sums.proofs.broken_rows.Goals.{After-bit-total}
use Rattle.sheet_sums.proofs.broken_rows.Goals as goal

module _ (c : After-bit-total) where
  -- the terms
  abbrev at : ℕ → ℤ
  at k = bit (not (holds (c.args.ops.now # k) (c.args.r.now ‼ k) (c.args.rhs.now ‼ k)))

  -- this turn's, as the machine has it
  holds_is : c.holds.result ≡ holds (c.args.ops.now # c.loop-i.i) (c.args.r.now ‼ c.loop-i.i) (c.args.rhs.now ‼ c.loop-i.i)
  holds_is = c.holds.ensures ∙ rw (result (c.args.r.now ‼ c.loop-i.i) (omega arith), result (c.args.rhs.now ‼ c.loop-i.i) (omega arith))

  now_is : word c.bit-total.result ≡ at c.loop-i.i
  now_is = result c.bit-total.result c.bit-total.type_inv ∙ c.bit-total.ensures ∙ ap (λ (t : Bool). bit (not t)) holds_is

  step : Turn at c.loop-i.i (to_z w64 c.loop-i.total-bits) (word c.bit-total.result)
  step = turn max_rows 1 c.args.rows at c.loop-i.i _ _ tt c.requires.0 c.loop-i-test.true (λ k _. bit_size _) c.loop-i.invariant now_is

pub loop-i-init : goal.loop-i-init
unfolding sum run
loop-i-init c = refl

pub overflow_add-total : goal.overflow_add-total
overflow_add-total c = (step c).add_fits

pub loop-i-preserved : goal.loop-i-preserved
loop-i-preserved c = (step c).is
