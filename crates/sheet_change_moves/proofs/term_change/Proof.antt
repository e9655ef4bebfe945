-- `sheet_change_moves::term_change` meets its contract. Assumes nothing.
use mathlib.Core.Path.{◌≡◌, sym, ap, ◌∙◌}
use native.Mathlib.Nat.{le_trans}
use lib.Dec.{lit≤}
use lib.IntN.{ℤ, nat_abs, ◌-ℤ◌, ◌*ℤ◌, +ℤ_invr}
use Prim.Native.Nat.{◌*◌, ◌≤◌}
use borrow.Author.Rules.{rules}
use Rattle.doubles.specs.Limits.{max_coefficient, max_multiplier, max_bound, max_d}
use Rattle.sheet_rules.specs.Sheet.{term}
use Rattle.sheet_rules.specs.Verdict.{is_zero}
use Rattle.sheet_rules.proofs.Sizes.{mul_size, sub_size, term_size}
use Rattle.sheet_terms.specs.Small.{far_d}
use Rattle.sheet_terms.proofs.Machine.{of_word, E, num, mul, sub, val, exact, fit, seen}
use Rattle.sheet_change_moves.proofs.Laws.{no_fall}
use Rattle.sheet_change_moves.proofs.term_change.Statement.{statement}
use Rattle.sheet_change_moves.proofs.term_change.Tie as tie

module _ (s : tie.Start) where
  abbrev product : E
  product = mul (num s.args.coef max_coefficient s.requires.0) (num s.args.by (2 * max_multiplier) s.requires.1)

  abbrev new : E
  new = sub (num s.args.d max_d s.requires.2) product

  new_small : nat_abs (val new) ≤ far_d
  new_small =
      sub_size s.args.d (s.args.coef *ℤ s.args.by) max_d (2 * (max_coefficient * max_multiplier)) s.requires.2
      (mul_size s.args.coef s.args.by max_coefficient (2 * max_multiplier) s.requires.0 s.requires.1)

module _ (c : tie.After-term-2) where
  abbrev s : tie.Start
  s = c.before.before.before.before

  -- the new term and the old
  first : c.term.result ≡ term (s.args.d -ℤ s.args.coef *ℤ s.args.by) s.args.low s.args.high s.args.lowmark s.args.highmark
  first = c.term.ensures ∙ rw (exact (new s) tt, of_word s.ranges.low, of_word s.ranges.high)

  second : c.term-2.result ≡ term s.args.d s.args.low s.args.high s.args.lowmark s.args.highmark
  second = c.term-2.ensures ∙ rw (of_word s.ranges.d, of_word s.ranges.low, of_word s.ranges.high)

  abbrev change : E
  change =
      sub
      (num c.term.result (far_d * max_bound) (rw first (term_size far_d max_bound (val (new s)) s.args.low s.args.high _ _ (new_small s) s.requires.3 s.requires.4)))
      (num c.term-2.result (far_d * max_bound) (rw second (term_size far_d max_bound s.args.d s.args.low s.args.high _ _ (le_trans s.requires.2 (lit≤ tt)) s.requires.3 s.requires.4)))

is-zero-requires : tie.Need-is_zero-requires
is-zero-requires c κs = search rules

returns : tie.Need-returns-then-is_zero
returns c =
    let a = c.args in
    let f = c.ranges in
    let none = ap is_zero (sym (of_word f.coef)) ∙ sym c.is_zero.ensures ∙ c.if-is_zero.true in
    sym (ap (λ (z : ℤ). term z a.low a.high a.lowmark a.highmark -ℤ term a.d a.low a.high a.lowmark a.highmark) (no_fall a.coef a.by a.d none)
    ∙ +ℤ_invr (term a.d a.low a.high a.lowmark a.highmark))

mul-new : tie.Need-overflow_mul-new
mul-new c = fit (product c.before.before) tt

sub-new : tie.Need-overflow_sub-new
sub-new c = fit (new c.before.before) tt

term-requires : tie.Need-term-requires
term-requires c κs =
    let s = c.before.before in
    (rw (exact (new s) tt) (new_small s), seen s.args.low max_bound s.requires.3 tt, seen s.args.high max_bound s.requires.4 tt)

term-requires-2 : tie.Need-term-requires-2
term-requires-2 c κs =
    let s = c.before.before.before in
    (le_trans (seen s.args.d max_d s.requires.2 tt) (lit≤ tt), seen s.args.low max_bound s.requires.3 tt, seen s.args.high max_bound s.requires.4 tt)

sub-result : tie.Need-overflow_sub-result
sub-result c = fit (change c) tt

returns-2 : tie.Need-returns
returns-2 c = exact (change c) tt ∙ (λ t. first c t -ℤ second c t)

pub term_change_spec : {M : Type 1} → statement M
term_change_spec =
    tie.close
    (tie.spec
    is-zero-requires
    returns
    mul-new
    sub-new
    term-requires
    term-requires-2
    sub-result
    returns-2)
