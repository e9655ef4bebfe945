-- `sheet_sums::column_terms` meets its contract. Assumes nothing.
use Rattle.std.proofs.Common.{◌≡◌, refl, ◌*◌, ℕ, ℤ}
use mathlib.Core.Path.{◌∙◌}
use native.Mathlib.Nat.{le_trans}
use native.Mathlib.Omega.{arith}
use lib.Dec.{lit≤}
use mir.Syntax.{w64}
use mir.Val.{to_z}
use Rattle.doubles.specs.Limits.{max_columns, max_bound, max_d}
use Rattle.doubles.specs.Lists.{◌#◌}
use Rattle.doubles.specs.Loop.{run}
use Rattle.sheet_rules.specs.Sum.{◌‼◌, sum}
use Rattle.sheet_rules.specs.Sheet.{term}
use Rattle.sheet_rules.proofs.Sizes.{term_size}
use Rattle.sheet_terms.specs.Small.{far_d}
use Rattle.sheet_terms.proofs.Machine.{word, result, seen}
use Rattle.sheet_terms.proofs.Laws.{Turn, turn}
use Rattle.sheet_sums.proofs.column_terms.Goals.{After-term-total}
use Rattle.sheet_sums.proofs.column_terms.Goals as goal

module _ (c : After-term-total) where
  -- the terms
  abbrev at : ℕ → ℤ
  at k = term (c.args.d.now ‼ k) (c.args.lowers.now ‼ k) (c.args.uppers.now ‼ k) (c.args.lower_marks.now # k) (c.args.upper_marks.now # k)

  -- this turn's, as the machine has it
  now_is : word c.term-total.result ≡ at c.loop-j.j
  now_is = result c.term-total.result c.term-total.type_inv ∙ c.term-total.ensures ∙ rw (result (c.args.d.now ‼ c.loop-j.j) (omega arith), result (c.args.lowers.now ‼ c.loop-j.j) (omega arith), result (c.args.uppers.now ‼ c.loop-j.j) (omega arith))

  step : Turn at c.loop-j.j (to_z w64 c.loop-j.total-bits) (word c.term-total.result)
  step =
      turn max_columns (far_d * max_bound) c.args.columns at c.loop-j.j _ _ tt c.requires.0 c.loop-j-test.true
      (λ k l. term_size far_d max_bound (c.args.d.now ‼ k) (c.args.lowers.now ‼ k) (c.args.uppers.now ‼ k) _ _ (le_trans (c.requires.5.at k l) (lit≤ tt)) (c.requires.1.at k l) (c.requires.2.at k l))
      c.loop-j.invariant now_is

pub loop-j-init : goal.loop-j-init
unfolding sum run
loop-j-init c = refl

pub term-total-requires : goal.term-total-requires
term-total-requires c =
    let j = c.loop-j.j in
    let l = c.loop-j-test.true in (
      le_trans (seen (c.args.d.now ‼ j) max_d (c.requires.5.at j l) tt) (lit≤ tt),
      seen (c.args.lowers.now ‼ j) max_bound (c.requires.1.at j l) tt,
      seen (c.args.uppers.now ‼ j) max_bound (c.requires.2.at j l) tt,
    )

pub overflow_add-total : goal.overflow_add-total
overflow_add-total c = (step c).add_fits

pub loop-j-preserved : goal.loop-j-preserved
loop-j-preserved c = (step c).is
