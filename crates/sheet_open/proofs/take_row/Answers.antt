-- `sheet_open::take_row` meets its contract. Assumes nothing.
use Rattle.std.proofs.Common.{◌≡◌, ℕ, ◌≤◌, ◌<◌, List, length, ℤ}
use mathlib.Core.Path.{ap, sym, ◌∙◌}
use native.Mathlib.Omega.{arith}
use lib.IntN.{nat_abs, pos, ◌-ℤ◌, ◌*ℤ◌}
use Rattle.doubles.specs.Limits.{max_coefficient, max_multiplier, max_d}
use Rattle.doubles.specs.Lists.{over}
use Rattle.doubles.specs.Loop.{table}
use Rattle.doubles.proofs.Loops.{filled_none, filled_more, filled_ahead, filled_done}
use Rattle.sheet_rules.specs.Sum.{◌‼◌}
use Rattle.sheet_terms.specs.Small.{Small}
use Rattle.sheet_terms.proofs.Machine.{E, num, mul, sub, exact, fit, of_word}
use Rattle.sheet_open.proofs.take_row.Goals as goal

-- a turn's product and difference, as the machine has them: this column's D is still as it came
module _ (row d₀ d : List ℤ) (mult : ℤ) (j : ℕ) (a : Small max_coefficient (length row) row) (m : nat_abs mult ≤ max_multiplier) (b : Small max_d (length row) d₀) (l : j < length row) (old : d ‼ j ≡ d₀ ‼ j) where
  abbrev product : E
  product = mul (num (row ‼ j) max_coefficient (a.at j l)) (num mult max_multiplier m)

  abbrev less : E
  less = sub (num (d ‼ j) max_d (rw old (b.at j l))) product

pub loop-j-init : goal.loop-j-init
loop-j-init c = filled_none

pub overflow_mul-d : goal.overflow_mul-d
overflow_mul-d c =
    fit (product c.args.row.now c.args.d.now c.loop-j.d c.args.mult c.loop-j.j c.requires.0 c.requires.1 c.requires.2 c.loop-j-test.true (filled_ahead c.loop-j.invariant (pos 0))) tt

pub overflow_sub-d : goal.overflow_sub-d
overflow_sub-d c =
    fit (less c.args.row.now c.args.d.now c.loop-j.d c.args.mult c.loop-j.j c.requires.0 c.requires.1 c.requires.2 c.loop-j-test.true (filled_ahead c.loop-j.invariant (pos 0))) tt

pub loop-j-preserved : goal.loop-j-preserved
loop-j-preserved c =
    let old = filled_ahead c.loop-j.invariant (pos 0) in
    let e = less c.args.row.now c.args.d.now c.loop-j.d c.args.mult c.loop-j.j c.requires.0 c.requires.1 c.requires.2 c.loop-j-test.true old in
    filled_more c.loop-j.invariant (omega (arith, c.requires.2.there))
    (exact e tt ∙ (λ t. old t -ℤ c.args.row.now ‼ c.loop-j.j *ℤ sym (of_word c.ranges.mult) t))

pub returns : goal.returns
returns c =
    filled_done _ c.loop-j.auto.j-end c.loop-j-test.false c.loop-j.invariant
    ∙ ap (λ (m : ℤ). over (table (length c.args.row.now) (λ k. c.args.d.now ‼ k -ℤ c.args.row.now ‼ k *ℤ m)) c.args.d.now) (of_word c.ranges.mult)
