-- `sheet_change_after::price_after` meets its contract. Assumes nothing.
use mathlib.Core.Path.{◌≡◌, sym, ap, ◌∙◌}
use Prim.Native.Nat.{◌+◌, ◌*◌, ◌<◌}
use native.Mathlib.Omega.{arith}
use lib.Dec.{lit≤}
use lib.IntN.{ℤ, ◌+ℤ◌, pos, +ℤ_idr}
use Rattle.doubles.specs.Limits.{max_coefficient, max_cost, max_multiplier, max_d, unit}
use Rattle.sheet_rules.specs.Sum.{◌‼◌}
use Rattle.sheet_terms.proofs.Machine.{word, of_word, E, num, mul, exact, fit, sub, add}
use Rattle.sheet_rules.specs.Sheet.{Plan, plan_of}
use Rattle.sheet_rules.proofs.Local.{place_in}
use Rattle.sheet_change_after.specs.Change.{price_change}
use Rattle.sheet_change_after.proofs.Laws.{price_2, price_2_other, price_6, price_6_other, price_7, price_rest}
use Rattle.sheet_change_after.proofs.price_after.Statement.{statement}
use Rattle.sheet_change_after.proofs.price_after.Tie as tie

abbrev plan : tie.Start → Plan
plan s = plan_of s.args.rows s.args.columns s.args.coefs.now s.args.costs.now s.args.lowers.now s.args.uppers.now s.args.lower_marks.now s.args.upper_marks.now s.args.rhs.now s.args.ops.now s.args.amounts.now s.args.mults.now

-- kind 2, at its column
module _ (c : tie.Then-j-e) where
  abbrev s₂ : tie.Start
  s₂ = c.before.before.before

  abbrev by : E
  by = sub (num s₂.args.e.number max_cost (s₂.requires.0.ready.number.cost_in c.in-2.is)) (num (s₂.args.costs.now ‼ s₂.args.j) max_cost (s₂.requires.0.ready.sound.arrays_in.costs_in s₂.args.j s₂.requires.1))

  abbrev scaled : E
  scaled = mul (num (pos unit) unit (lit≤ tt)) by

  abbrev moved : E
  moved = add (num s₂.args.old max_d s₂.requires.2) scaled

-- kind 6, at its column
module _ (c : tie.Then-j-e-2) where
  abbrev s₆ : tie.Start
  s₆ = c.before.before.before

  row₆ : s₆.args.e.row < s₆.args.rows
  row₆ = s₆.requires.0.ready.index.row_within (rw c.in-6.is)

  inside₆ : s₆.args.e.row * s₆.args.columns + s₆.args.j < s₆.args.rows * s₆.args.columns
  inside₆ = place_in s₆.args.e.row s₆.args.rows s₆.args.j s₆.args.columns row₆ s₆.requires.1

  abbrev by₆ : E
  by₆ = sub (num s₆.args.e.number max_coefficient (s₆.requires.0.ready.number.coef_in c.in-6.is)) (num (s₆.args.coefs.now ‼ (s₆.args.e.row * s₆.args.columns + s₆.args.j)) max_coefficient (s₆.requires.0.ready.sound.row_within (rw c.in-6.is) s₆.args.j s₆.requires.1))

  abbrev product₆ : E
  product₆ = mul by₆ (num (s₆.args.mults.now ‼ s₆.args.e.row) max_multiplier (s₆.requires.0.ready.sound.arrays_in.mults_in s₆.args.e.row row₆))

  abbrev moved₆ : E
  moved₆ = sub (num s₆.args.old max_d s₆.requires.2) product₆

-- kind 7
module _ (c : tie.In-7) where
  abbrev s₇ : tie.Start
  s₇ = c.before

  row₇ : s₇.args.e.row < s₇.args.rows
  row₇ = s₇.requires.0.ready.index.row_within (rw c.in-7.is)

  inside₇ : s₇.args.e.row * s₇.args.columns + s₇.args.j < s₇.args.rows * s₇.args.columns
  inside₇ = place_in s₇.args.e.row s₇.args.rows s₇.args.j s₇.args.columns row₇ s₇.requires.1

  abbrev by₇ : E
  by₇ = sub (num s₇.args.e.number max_multiplier (s₇.requires.0.ready.number.mult_in c.in-7.is)) (num (s₇.args.mults.now ‼ s₇.args.e.row) max_multiplier (s₇.requires.0.ready.sound.arrays_in.mults_in s₇.args.e.row row₇))

  abbrev product₇ : E
  product₇ = mul (num (s₇.args.coefs.now ‼ (s₇.args.e.row * s₇.args.columns + s₇.args.j)) max_coefficient (s₇.requires.0.ready.sound.row_within (rw c.in-7.is) s₇.args.j s₇.requires.1)) by₇

  abbrev moved₇ : E
  moved₇ = sub (num s₇.args.old max_d s₇.requires.2) product₇

-- elsewhere
same : (s : tie.Start) → price_change (plan s) s.args.e s.args.j ≡ pos 0 → word s.args.old ≡ s.args.old +ℤ price_change (plan s) s.args.e s.args.j
same s z = of_word s.ranges.old ∙ sym (ap (λ (t : ℤ). s.args.old +ℤ t) z ∙ +ℤ_idr s.args.old)

mul-result : tie.Need-offset_bounds-costs-j
mul-result c = omega (arith, c.requires.1, c.requires.0.ready.sized)

shared-slice-copy-out-result : tie.Need-bounds-costs-j
shared-slice-copy-out-result c = omega (arith, c.requires.1, c.requires.0.ready.sized)

sub-result : tie.Need-overflow_sub-result
sub-result c = fit (by c.before.before.before) tt

mul-result-2 : tie.Need-overflow_mul-result
mul-result-2 c = fit (scaled c.before.before.before) tt

add-result : tie.Need-overflow_add-result
add-result c = fit (moved c.before.before.before) tt

mul-result-3 : tie.Need-overflow_mul-result-then-j-e-2
mul-result-3 c = omega (arith, inside₆ c, row₆ c, c.requires.0.ready.sized)

add-result-2 : tie.Need-overflow_add-result-then-j-e-2
add-result-2 c = omega (arith, inside₆ c, row₆ c, c.requires.0.ready.sized)

mul-result-4 : tie.Need-offset_bounds-coefs-i
mul-result-4 c = omega (arith, inside₆ c, row₆ c, c.requires.0.ready.sized)

shared-slice-copy-out-result-2 : tie.Need-bounds-coefs-i
shared-slice-copy-out-result-2 c = omega (arith, inside₆ c, row₆ c, c.requires.0.ready.sized)

sub-result-2 : tie.Need-overflow_sub-result-then-j-e-2
sub-result-2 c = fit (by₆ c.before.before.before) tt

mul-result-5 : tie.Need-offset_bounds-mults-i
mul-result-5 c = omega (arith, inside₆ c.before.before.before, row₆ c.before.before.before, c.requires.0.ready.sized)

shared-slice-copy-out-result-3 : tie.Need-bounds-mults-i
shared-slice-copy-out-result-3 c = omega (arith, inside₆ c.before.before.before, row₆ c.before.before.before, c.requires.0.ready.sized)

mul-result-6 : tie.Need-overflow_mul-result-then-j-e-2-2
mul-result-6 c = fit (product₆ c.before.before.before.before) tt

sub-result-3 : tie.Need-overflow_sub-result-then-j-e-2-2
sub-result-3 c = fit (moved₆ c.before.before.before.before) tt

mul-result-7 : tie.Need-overflow_mul-result-in-7
mul-result-7 c = omega (arith, inside₇ c, row₇ c, c.requires.0.ready.sized)

add-result-3 : tie.Need-overflow_add-result-in-7
add-result-3 c = omega (arith, inside₇ c, row₇ c, c.requires.0.ready.sized)

mul-result-8 : tie.Need-offset_bounds-coefs-i-in-7
mul-result-8 c = omega (arith, inside₇ c, row₇ c, c.requires.0.ready.sized)

shared-slice-copy-out-result-4 : tie.Need-bounds-coefs-i-in-7
shared-slice-copy-out-result-4 c = omega (arith, inside₇ c, row₇ c, c.requires.0.ready.sized)

mul-result-9 : tie.Need-offset_bounds-mults-i-in-7
mul-result-9 c = omega (arith, inside₇ c.before, row₇ c.before, c.requires.0.ready.sized)

shared-slice-copy-out-result-5 : tie.Need-bounds-mults-i-in-7
shared-slice-copy-out-result-5 c = omega (arith, inside₇ c.before, row₇ c.before, c.requires.0.ready.sized)

sub-result-4 : tie.Need-overflow_sub-result-in-7
sub-result-4 c = fit (by₇ c.before.before.before.before) tt

mul-result-10 : tie.Need-overflow_mul-result-in-7-2
mul-result-10 c = fit (product₇ c.before.before.before.before) tt

sub-result-5 : tie.Need-overflow_sub-result-in-7-2
sub-result-5 c = fit (moved₇ c.before.before.before.before) tt

returns : tie.Need-returns-then-j-e
returns c = let s = c.before.before.before.before.before.before in exact (moved c.before.before.before) tt ∙ ap (λ (t : ℤ). s.args.old +ℤ t) (sym (price_2 (plan s) s.args.e s.requires.0 c.in-2.is s.args.j c.if-j-e.true))

returns-2 : tie.Need-returns-else-j-e
returns-2 c = let s = c.before.before.before in same s (price_2_other (plan s) s.args.e s.requires.0 c.in-2.is s.args.j s.requires.1 c.if-j-e.false)

returns-3 : tie.Need-returns-then-j-e-2
returns-3 c = let s = c.before.before.before.before.before.before.before in exact (moved₆ c.before.before.before.before) tt ∙ ap (λ (t : ℤ). s.args.old +ℤ t) (sym (price_6 (plan s) s.args.e s.requires.0 c.in-6.is s.args.j c.if-j-e-2.true))

returns-4 : tie.Need-returns-else-j-e-2
returns-4 c = let s = c.before.before.before in same s (price_6_other (plan s) s.args.e s.requires.0 c.in-6.is s.args.j s.requires.1 c.if-j-e-2.false)

returns-5 : tie.Need-returns-in-7
returns-5 c = let s = c.before.before.before.before.before in exact (moved₇ c.before.before.before.before) tt ∙ ap (λ (t : ℤ). s.args.old +ℤ t) (sym (price_7 (plan s) s.args.e s.requires.0 c.in-7.is s.args.j))

returns-6 : tie.Need-returns-in_default
returns-6 c = let s = c.before in same s (price_rest (plan s) s.args.e s.requires.0 c.in_default.in_default-own.rest.0.0.1 c.in_default.in_default-own.rest.0.1 c.in_default.in_default-own.rest.1 s.args.j s.requires.1)

pub price_after_spec : {M : Type 1} → statement M
price_after_spec =
    tie.close
    (tie.spec
    mul-result
    shared-slice-copy-out-result
    sub-result
    mul-result-2
    add-result
    mul-result-3
    add-result-2
    mul-result-4
    shared-slice-copy-out-result-2
    sub-result-2
    mul-result-5
    shared-slice-copy-out-result-3
    mul-result-6
    sub-result-3
    mul-result-7
    add-result-3
    mul-result-8
    shared-slice-copy-out-result-4
    mul-result-9
    shared-slice-copy-out-result-5
    sub-result-4
    mul-result-10
    sub-result-5
    returns
    returns-2
    returns-3
    returns-4
    returns-5
    returns-6)
