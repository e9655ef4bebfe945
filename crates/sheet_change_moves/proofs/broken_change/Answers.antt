-- `sheet_change_moves::broken_change` meets its contract. Assumes nothing.
use Rattle.std.proofs.Common.{◌≡◌, refl, sym, ap, ◌∙◌, ℤ, ℕ, ◌+◌, ◌*◌, ◌≤◌, w64, to_z, nat_abs}
use mathlib.Core.Bool.{not}
use lib.IntN.{◌+ℤ◌, ◌-ℤ◌, ◌*ℤ◌}
use Rattle.doubles.specs.Limits.{max_rows, max_coefficient, max_amount, max_r}
use Rattle.doubles.specs.Lists.{◌#◌}
use Rattle.doubles.specs.Loop.{run}
use Rattle.sheet_rules.specs.Sum.{◌‼◌, sum, bit}
use Rattle.sheet_rules.specs.Sheet.{holds}
use Rattle.sheet_rules.proofs.Sizes.{sub_size, bit_size}
use Rattle.sheet_terms.proofs.Machine.{of_word, result, E, num, mul, mach, exact, fit, sub, add}
use Rattle.sheet_terms.proofs.Laws.{Turn, turn}
use Rattle.sheet_change_moves.proofs.broken_change.Invariants.{change}
use Rattle.sheet_change_moves.proofs.broken_change.Goals.{After-broken-in-loop-i}
use Rattle.sheet_change_moves.proofs.broken_change.Goals as goal

-- a row's new activity
abbrev product : (a b : ℤ) → nat_abs a ≤ max_coefficient → nat_abs b ≤ 2 * max_amount → E
product a b h k = mul (num a max_coefficient h) (num b (2 * max_amount) k)

abbrev new : (r a b : ℤ) → nat_abs r ≤ max_r → nat_abs a ≤ max_coefficient → nat_abs b ≤ 2 * max_amount → E
new r a b l h k = add (num r max_r l) (product a b h k)

module _ (c : After-broken-in-loop-i) where
  abbrev terms : ℤ → ℕ → ℤ
  terms b k = change c.args.columns c.args.column c.args.coefs.now c.args.rhs.now c.args.ops.now c.args.r.now b k

  -- the new term and the old
  first : c.broken.result ≡ bit (not (holds (c.args.ops.now # c.loop-i.i) (c.args.r.now ‼ c.loop-i.i +ℤ c.args.coefs.now ‼ (c.loop-i.i * c.args.columns + c.args.column) *ℤ c.args.by) (c.args.rhs.now ‼ c.loop-i.i)))
  first = c.broken.ensures ∙ rw (exact (new (c.args.r.now ‼ c.loop-i.i) (c.args.coefs.now ‼ (c.loop-i.i * c.args.columns + c.args.column)) c.args.by (c.requires.4.at c.loop-i.i c.loop-i-test.true) (c.requires.1.at c.loop-i.i c.loop-i-test.true) c.requires.5) tt, result (c.args.rhs.now ‼ c.loop-i.i) search)

  second : c.broken-in-loop-i.result ≡ bit (not (holds (c.args.ops.now # c.loop-i.i) (c.args.r.now ‼ c.loop-i.i) (c.args.rhs.now ‼ c.loop-i.i)))
  second = c.broken-in-loop-i.ensures ∙ rw (exact (num (c.args.r.now ‼ c.loop-i.i) max_r (c.requires.4.at c.loop-i.i c.loop-i-test.true)) tt, result (c.args.rhs.now ‼ c.loop-i.i) search)

  abbrev moved : E
  moved = sub (num c.broken.result 1 (rw first (bit_size _))) (num c.broken-in-loop-i.result 1 (rw second (bit_size _)))

  step : Turn (terms c.args.by) c.loop-i.i (to_z w64 c.loop-i.total-bits) (mach moved)
  step =
      turn max_rows 2 c.args.rows (terms c.args.by) c.loop-i.i _ _ tt c.requires.0 c.loop-i-test.true
      (λ k _. sub_size (bit _) (bit _) 1 1 (bit_size _) (bit_size _))
      (c.loop-i.invariant ∙ ap (λ (b : ℤ). sum c.loop-i.i (terms b)) (of_word c.ranges.by))
      (exact moved tt ∙ (λ t. first t -ℤ second t))

pub loop-i-init : goal.loop-i-init
unfolding sum run
loop-i-init c = refl

pub overflow_mul-new-in-loop-i : goal.overflow_mul-new-in-loop-i
overflow_mul-new-in-loop-i c = fit (product (c.args.coefs.now ‼ (c.loop-i.i * c.args.columns + c.args.column)) c.args.by (c.requires.1.at c.loop-i.i c.loop-i-test.true) c.requires.5) tt

pub overflow_add-new-in-loop-i : goal.overflow_add-new-in-loop-i
overflow_add-new-in-loop-i c = fit (new (c.args.r.now ‼ c.loop-i.i) (c.args.coefs.now ‼ (c.loop-i.i * c.args.columns + c.args.column)) c.args.by (c.requires.4.at c.loop-i.i c.loop-i-test.true) (c.requires.1.at c.loop-i.i c.loop-i-test.true) c.requires.5) tt

pub overflow_sub-total : goal.overflow_sub-total
overflow_sub-total c = fit (moved c) tt

pub overflow_add-total : goal.overflow_add-total
overflow_add-total c = (step c).add_fits

pub loop-i-preserved : goal.loop-i-preserved
loop-i-preserved c = (step c).is ∙ ap (λ (b : ℤ). sum (c.loop-i.i + 1) (terms c b)) (sym (of_word c.ranges.by))
