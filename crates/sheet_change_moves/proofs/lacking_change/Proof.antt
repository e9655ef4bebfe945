-- `sheet_change_moves::lacking_change` meets its contract. Assumes nothing.
use mathlib.Core.Path.{◌≡◌, sym, ap, ◌∙◌}
use lib.IntN.{ℤ, ◌-ℤ◌, ◌*ℤ◌, +ℤ_invr}
use Prim.Native.Nat.{◌*◌}
use borrow.Author.Rules.{rules}
use Rattle.doubles.specs.Limits.{max_coefficient, max_multiplier, max_d}
use Rattle.sheet_rules.specs.Sum.{bit}
use Rattle.sheet_rules.specs.Sheet.{lacks}
use Rattle.sheet_rules.specs.Verdict.{is_zero}
use Rattle.sheet_rules.proofs.Sizes.{bit_size}
use Rattle.sheet_terms.proofs.Machine.{of_word, E, num, mul, sub, exact, fit}
use Rattle.sheet_change_moves.proofs.Laws.{no_fall}
use Rattle.sheet_change_moves.proofs.lacking_change.Statement.{statement}
use Rattle.sheet_change_moves.proofs.lacking_change.Tie as tie

module _ (s : tie.Start) where
  abbrev product : E
  product = mul (num s.args.coef max_coefficient s.requires.0) (num s.args.by (2 * max_multiplier) s.requires.1)

  abbrev new : E
  new = sub (num s.args.d max_d s.requires.2) product

module _ (c : tie.After-lacking-2) where
  abbrev s : tie.Start
  s = c.before.before.before.before

  -- the new term and the old
  first : c.lacking.result ≡ bit (lacks (s.args.d -ℤ s.args.coef *ℤ s.args.by) s.args.lowmark s.args.highmark)
  first = c.lacking.ensures ∙ rw (exact (new s) tt)

  second : c.lacking-2.result ≡ bit (lacks s.args.d s.args.lowmark s.args.highmark)
  second = c.lacking-2.ensures ∙ rw (of_word s.ranges.d)

  abbrev change : E
  change = sub (num c.lacking.result 1 (rw first (bit_size _))) (num c.lacking-2.result 1 (rw second (bit_size _)))

is-zero-requires : tie.Need-is_zero-requires
is-zero-requires c κs = search rules

returns : tie.Need-returns-then-is_zero
returns c =
    let a = c.args in
    let f = c.ranges in
    let none = ap is_zero (sym (of_word f.coef)) ∙ sym c.is_zero.ensures ∙ c.if-is_zero.true in
    sym (ap (λ (z : ℤ). bit (lacks z a.lowmark a.highmark) -ℤ bit (lacks a.d a.lowmark a.highmark)) (no_fall a.coef a.by a.d none)
    ∙ +ℤ_invr (bit (lacks a.d a.lowmark a.highmark)))

mul-new : tie.Need-overflow_mul-new
mul-new c = fit (product c.before.before) tt

sub-new : tie.Need-overflow_sub-new
sub-new c = fit (new c.before.before) tt

lacking-requires : tie.Need-lacking-requires
lacking-requires c κs = search rules

lacking-requires-2 : tie.Need-lacking-requires-2
lacking-requires-2 c κs = search rules

sub-result : tie.Need-overflow_sub-result
sub-result c = fit (change c) tt

returns-2 : tie.Need-returns
returns-2 c = exact (change c) tt ∙ (λ t. first c t -ℤ second c t)

pub lacking_change_spec : {M : Type 1} → statement M
lacking_change_spec =
    tie.close
    (tie.spec
    is-zero-requires
    returns
    mul-new
    sub-new
    lacking-requires
    lacking-requires-2
    sub-result
    returns-2)
