-- `sheet_change_moves::absent_change` meets its contract. Assumes nothing.
use Rattle.std.proofs.Common.{◌≡◌, refl, sym, ap, ◌∙◌, ℤ, ℕ, ◌+◌, ◌*◌, w64, to_z}
use Rattle.doubles.specs.Limits.{max_columns, max_coefficient, max_d}
use Rattle.doubles.specs.Loop.{run}
use Rattle.sheet_rules.specs.Sum.{◌‼◌, sum}
use Rattle.sheet_terms.proofs.Machine.{of_word, result, word, num, exact}
use Rattle.sheet_terms.proofs.Laws.{Turn, turn}
use Rattle.sheet_change_moves.proofs.Laws.{bits_size}
use Rattle.sheet_change_moves.proofs.absent_change.Invariants.{change}
use Rattle.sheet_change_moves.proofs.absent_change.Goals.{After-lacking_change-total}
use Rattle.sheet_change_moves.proofs.absent_change.Goals as goal

module _ (c : After-lacking_change-total) where
  abbrev terms : ℤ → ℕ → ℤ
  terms b k = change c.args.columns c.args.row c.args.coefs.now c.args.lower_marks.now c.args.upper_marks.now c.args.d.now b k

  -- this column's change, as the machine has it
  now_is : word c.lacking_change-total.result ≡ terms c.args.by c.loop-j.j
  now_is =
      result c.lacking_change-total.result c.lacking_change-total.type_inv
      ∙ c.lacking_change-total.ensures
      ∙ rw (
        exact (num (c.args.coefs.now ‼ (c.args.row * c.args.columns + c.loop-j.j)) max_coefficient (c.requires.1.at c.loop-j.j c.loop-j-test.true)) tt,
        of_word c.ranges.by,
        exact (num (c.args.d.now ‼ c.loop-j.j) max_d (c.requires.4.at c.loop-j.j c.loop-j-test.true)) tt,
      )

  step : Turn (terms c.args.by) c.loop-j.j (to_z w64 c.loop-j.total-bits) (word c.lacking_change-total.result)
  step =
      turn max_columns 2 c.args.columns (terms c.args.by) c.loop-j.j _ _ tt c.requires.0 c.loop-j-test.true (λ k _. bits_size _ _)
      (c.loop-j.invariant ∙ ap (λ (b : ℤ). sum c.loop-j.j (terms b)) (of_word c.ranges.by))
      now_is

pub loop-j-init : goal.loop-j-init
unfolding sum run
loop-j-init c = refl

pub overflow_add-total : goal.overflow_add-total
overflow_add-total c = (step c).add_fits

pub loop-j-preserved : goal.loop-j-preserved
loop-j-preserved c = (step c).is ∙ ap (λ (b : ℤ). sum (c.loop-j.j + 1) (terms c b)) (sym (of_word c.ranges.by))
