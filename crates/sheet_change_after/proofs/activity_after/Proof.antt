-- `sheet_change_after::activity_after` meets its contract. Assumes nothing.
use mathlib.Core.Path.{◌≡◌, sym, ap, ◌∙◌}
use Prim.Native.Nat.{◌+◌, ◌*◌, ◌<◌}
use native.Mathlib.Omega.{arith}
use lib.IntN.{ℤ, ◌+ℤ◌, pos, +ℤ_idr}
use Rattle.doubles.specs.Limits.{max_coefficient, max_amount, max_r}
use Rattle.sheet_rules.specs.Sum.{◌‼◌}
use Rattle.sheet_terms.proofs.Machine.{word, of_word, E, num, mul, exact, fit, sub, add}
use Rattle.sheet_rules.specs.Sheet.{Plan, plan_of}
use Rattle.sheet_rules.proofs.Local.{place_in}
use Rattle.sheet_change_after.specs.Change.{row_change}
use Rattle.sheet_change_after.proofs.Laws.{row_1, row_6, row_6_other, row_rest}
use Rattle.sheet_change_after.proofs.activity_after.Statement.{statement}
use Rattle.sheet_change_after.proofs.activity_after.Tie as tie

abbrev plan : tie.Start → Plan
plan s = plan_of s.args.rows s.args.columns s.args.coefs.now s.args.costs.now s.args.lowers.now s.args.uppers.now s.args.lower_marks.now s.args.upper_marks.now s.args.rhs.now s.args.ops.now s.args.amounts.now s.args.mults.now

-- kind 1
module _ (c : tie.In-1) where
  abbrev s₁ : tie.Start
  s₁ = c.before

  column₁ : s₁.args.e.column < s₁.args.columns
  column₁ = s₁.requires.0.ready.index.column_in_holds (rw c.in-1.is)

  inside₁ : s₁.args.i * s₁.args.columns + s₁.args.e.column < s₁.args.rows * s₁.args.columns
  inside₁ = place_in s₁.args.i s₁.args.rows s₁.args.e.column s₁.args.columns s₁.requires.1 column₁

  abbrev by : E
  by = sub (num s₁.args.e.number max_amount (s₁.requires.0.ready.number.amount_in c.in-1.is)) (num (s₁.args.amounts.now ‼ s₁.args.e.column) max_amount (s₁.requires.0.ready.sound.arrays_in.amounts_in s₁.args.e.column column₁))

  abbrev product : E
  product = mul (num (s₁.args.coefs.now ‼ (s₁.args.i * s₁.args.columns + s₁.args.e.column)) max_coefficient (s₁.requires.0.ready.sound.column_in_holds (rw c.in-1.is) s₁.args.i s₁.requires.1)) by

  abbrev moved : E
  moved = add (num s₁.args.old max_r s₁.requires.2) product

-- kind 6, at its row
module _ (c : tie.Then-i-e) where
  abbrev s₆ : tie.Start
  s₆ = c.before.before.before

  column₆ : s₆.args.e.column < s₆.args.columns
  column₆ = s₆.requires.0.ready.index.column_in_holds (rw c.in-6.is)

  inside₆ : s₆.args.i * s₆.args.columns + s₆.args.e.column < s₆.args.rows * s₆.args.columns
  inside₆ = place_in s₆.args.i s₆.args.rows s₆.args.e.column s₆.args.columns s₆.requires.1 column₆

  abbrev by₆ : E
  by₆ = sub (num s₆.args.e.number max_coefficient (s₆.requires.0.ready.number.coef_in c.in-6.is)) (num (s₆.args.coefs.now ‼ (s₆.args.i * s₆.args.columns + s₆.args.e.column)) max_coefficient (s₆.requires.0.ready.sound.column_in_holds (rw c.in-6.is) s₆.args.i s₆.requires.1))

  abbrev product₆ : E
  product₆ = mul by₆ (num (s₆.args.amounts.now ‼ s₆.args.e.column) max_amount (s₆.requires.0.ready.sound.arrays_in.amounts_in s₆.args.e.column column₆))

  abbrev moved₆ : E
  moved₆ = add (num s₆.args.old max_r s₆.requires.2) product₆

-- elsewhere
same : (s : tie.Start) → row_change (plan s) s.args.e s.args.i ≡ pos 0 → word s.args.old ≡ s.args.old +ℤ row_change (plan s) s.args.e s.args.i
same s z = of_word s.ranges.old ∙ sym (ap (λ (t : ℤ). s.args.old +ℤ t) z ∙ +ℤ_idr s.args.old)

mul-result : tie.Need-overflow_mul-result
mul-result c = omega (arith, inside₁ c, column₁ c, c.requires.0.ready.sized)

add-result : tie.Need-overflow_add-result
add-result c = omega (arith, inside₁ c, column₁ c, c.requires.0.ready.sized)

mul-result-2 : tie.Need-offset_bounds-coefs-i
mul-result-2 c = omega (arith, inside₁ c, column₁ c, c.requires.0.ready.sized)

shared-slice-copy-out-result : tie.Need-bounds-coefs-i
shared-slice-copy-out-result c = omega (arith, inside₁ c, column₁ c, c.requires.0.ready.sized)

mul-result-3 : tie.Need-offset_bounds-amounts-j
mul-result-3 c = omega (arith, inside₁ c.before, column₁ c.before, c.requires.0.ready.sized)

shared-slice-copy-out-result-2 : tie.Need-bounds-amounts-j
shared-slice-copy-out-result-2 c = omega (arith, inside₁ c.before, column₁ c.before, c.requires.0.ready.sized)

sub-result : tie.Need-overflow_sub-result
sub-result c = fit (by c.before.before.before.before) tt

mul-result-4 : tie.Need-overflow_mul-result-in-1
mul-result-4 c = fit (product c.before.before.before.before) tt

add-result-2 : tie.Need-overflow_add-result-in-1
add-result-2 c = fit (moved c.before.before.before.before) tt

mul-result-5 : tie.Need-overflow_mul-result-then-i-e
mul-result-5 c = omega (arith, inside₆ c, column₆ c, c.requires.0.ready.sized)

add-result-3 : tie.Need-overflow_add-result-then-i-e
add-result-3 c = omega (arith, inside₆ c, column₆ c, c.requires.0.ready.sized)

mul-result-6 : tie.Need-offset_bounds-coefs-i-then-i-e
mul-result-6 c = omega (arith, inside₆ c, column₆ c, c.requires.0.ready.sized)

shared-slice-copy-out-result-3 : tie.Need-bounds-coefs-i-then-i-e
shared-slice-copy-out-result-3 c = omega (arith, inside₆ c, column₆ c, c.requires.0.ready.sized)

sub-result-2 : tie.Need-overflow_sub-result-then-i-e
sub-result-2 c = fit (by₆ c.before.before.before) tt

mul-result-7 : tie.Need-offset_bounds-amounts-j-then-i-e
mul-result-7 c = omega (arith, inside₆ c.before.before.before, column₆ c.before.before.before, c.requires.0.ready.sized)

shared-slice-copy-out-result-4 : tie.Need-bounds-amounts-j-then-i-e
shared-slice-copy-out-result-4 c = omega (arith, inside₆ c.before.before.before, column₆ c.before.before.before, c.requires.0.ready.sized)

mul-result-8 : tie.Need-overflow_mul-result-then-i-e-2
mul-result-8 c = fit (product₆ c.before.before.before.before) tt

add-result-4 : tie.Need-overflow_add-result-then-i-e-2
add-result-4 c = fit (moved₆ c.before.before.before.before) tt

returns : tie.Need-returns-in-1
returns c = let s = c.before.before.before.before.before in exact (moved c.before.before.before.before) tt ∙ ap (λ (t : ℤ). s.args.old +ℤ t) (sym (row_1 (plan s) s.args.e s.requires.0 c.in-1.is s.args.i))

returns-2 : tie.Need-returns-then-i-e
returns-2 c = let s = c.before.before.before.before.before.before.before in exact (moved₆ c.before.before.before.before) tt ∙ ap (λ (t : ℤ). s.args.old +ℤ t) (sym (row_6 (plan s) s.args.e s.requires.0 c.in-6.is s.args.i c.if-i-e.true))

returns-3 : tie.Need-returns-else-i-e
returns-3 c = let s = c.before.before.before in same s (row_6_other (plan s) s.args.e s.requires.0 c.in-6.is s.args.i s.requires.1 c.if-i-e.false)

returns-4 : tie.Need-returns-in_default
returns-4 c = let s = c.before in same s (row_rest (plan s) s.args.e s.requires.0 c.in_default.in_default-own.rest.0.1 c.in_default.in_default-own.rest.1 s.args.i s.requires.1)

pub activity_after_spec : {M : Type 1} → statement M
activity_after_spec =
    tie.close
    (tie.spec
    mul-result
    add-result
    mul-result-2
    shared-slice-copy-out-result
    mul-result-3
    shared-slice-copy-out-result-2
    sub-result
    mul-result-4
    add-result-2
    mul-result-5
    add-result-3
    mul-result-6
    shared-slice-copy-out-result-3
    sub-result-2
    mul-result-7
    shared-slice-copy-out-result-4
    mul-result-8
    add-result-4
    returns
    returns-2
    returns-3
    returns-4)
