-- `sheet_change_moves::terms_change` meets its contract. Assumes nothing.
use Rattle.std.proofs.Common.{◌≡◌, refl, sym, ap, ◌∙◌, ℤ, ℕ, ◌+◌, ◌*◌, w64, to_z}
use lib.IntN.{◌*ℤ◌}
use Rattle.doubles.specs.Limits.{max_columns, max_coefficient, max_multiplier, max_bound, max_d}
use Rattle.doubles.specs.Loop.{run}
use Rattle.sheet_rules.specs.Sum.{◌‼◌, sum}
use Rattle.sheet_rules.proofs.Sizes.{mul_size}
use Rattle.sheet_terms.proofs.Machine.{of_word, result, word, num, exact}
use Rattle.sheet_terms.proofs.Laws.{Turn, turn}
use Rattle.sheet_change_moves.proofs.Laws.{fall_size}
use Rattle.sheet_change_moves.proofs.terms_change.Invariants.{change}
use Rattle.sheet_change_moves.proofs.terms_change.Goals.{After-term_change-total}
use Rattle.sheet_change_moves.proofs.terms_change.Goals as goal

module _ (c : After-term_change-total) where
  abbrev terms : ℤ → ℕ → ℤ
  terms b k = change c.args.columns c.args.row c.args.coefs.now c.args.lowers.now c.args.uppers.now c.args.lower_marks.now c.args.upper_marks.now c.args.d.now b k

  abbrev coef : ℕ → ℤ
  coef k = c.args.coefs.now ‼ (c.args.row * c.args.columns + k)

  -- this column's change, as the machine has it
  now_is : word c.term_change-total.result ≡ terms c.args.by c.loop-j.j
  now_is =
      result c.term_change-total.result c.term_change-total.type_inv
      ∙ c.term_change-total.ensures
      ∙ rw (
        exact (num (coef c.loop-j.j) max_coefficient (c.requires.1.at c.loop-j.j c.loop-j-test.true)) tt,
        of_word c.ranges.by,
        exact (num (c.args.d.now ‼ c.loop-j.j) max_d (c.requires.6.at c.loop-j.j c.loop-j-test.true)) tt,
        exact (num (c.args.lowers.now ‼ c.loop-j.j) max_bound (c.requires.2.at c.loop-j.j c.loop-j-test.true)) tt,
        exact (num (c.args.uppers.now ‼ c.loop-j.j) max_bound (c.requires.3.at c.loop-j.j c.loop-j-test.true)) tt,
      )

  step : Turn (terms c.args.by) c.loop-j.j (to_z w64 c.loop-j.total-bits) (word c.term_change-total.result)
  step =
      turn max_columns ((max_coefficient * (2 * max_multiplier)) * max_bound) c.args.columns (terms c.args.by) c.loop-j.j _ _ tt c.requires.0 c.loop-j-test.true
      (λ k l. fall_size (c.args.lowers.now ‼ k) (c.args.uppers.now ‼ k) _ _ (max_coefficient * (2 * max_multiplier)) max_bound (c.requires.2.at k l) (c.requires.3.at k l) (c.args.d.now ‼ k) (coef k *ℤ c.args.by) (mul_size (coef k) c.args.by max_coefficient (2 * max_multiplier) (c.requires.1.at k l) c.requires.7))
      (c.loop-j.invariant ∙ ap (λ (b : ℤ). sum c.loop-j.j (terms b)) (of_word c.ranges.by))
      now_is

pub loop-j-init : goal.loop-j-init
unfolding sum run
loop-j-init c = refl

pub overflow_add-total : goal.overflow_add-total
overflow_add-total c = (step c).add_fits

pub loop-j-preserved : goal.loop-j-preserved
loop-j-preserved c = (step c).is ∙ ap (λ (b : ℤ). sum (c.loop-j.j + 1) (terms c b)) (sym (of_word c.ranges.by))
