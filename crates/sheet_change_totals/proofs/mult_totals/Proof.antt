-- `sheet_change_totals::mult_totals` meets its contract. Assumes nothing.
use borrow.Author.Rules.{rules}
use mathlib.Core.Path.{◌≡◌, ap, ◌∙◌}
use Prim.Native.Nat.{◌+◌, ◌*◌, ◌≤◌}
use lib.IntN.{ℤ, nat_abs, ◌*ℤ◌}
use Rattle.doubles.specs.Limits.{max_columns, max_coefficient, max_multiplier, max_bound}
use Rattle.sheet_rules.specs.Sum.{◌‼◌}
use Rattle.sheet_rules.proofs.Sizes.{mul_size, up_to}
use Rattle.sheet_terms.proofs.Machine.{E, num, sub, val, exact, size, fit}
use Rattle.sheet_change_moves.specs.After.{terms_change, absent_change}
use Rattle.sheet_change_moves.proofs.Laws.{fall_size, bits_size}
use Rattle.sheet_change_totals.specs.Parts.{with_terms, Near}
use Rattle.sheet_change_totals.proofs.Sizes.{row_totals_near, terms_limit, floors, absents, with_terms_holds}
use Rattle.sheet_change_totals.proofs.mult_totals.Statement.{statement}
use Rattle.sheet_change_totals.proofs.mult_totals.Tie as tie

abbrev by : tie.Start → E
by s = sub (num s.args.e.number max_multiplier (s.requires.1.mult_in s.requires.0)) (num s.args.y.mult max_multiplier s.requires.3.mult_in)

abbrev terms : tie.Start → ℤ → ℤ
terms s z = terms_change s.args.columns s.args.e.row z s.args.coefs.now s.args.lowers.now s.args.uppers.now s.args.lower_marks.now s.args.upper_marks.now s.args.d.now

abbrev lacking : tie.Start → ℤ → ℤ
lacking s z = absent_change s.args.columns s.args.e.row z s.args.coefs.now s.args.lower_marks.now s.args.upper_marks.now s.args.d.now

abbrev start : tie.After-terms_change-b → tie.Start
start c = c.before.before.before.before.before.before.before

module _ (c : tie.After-terms_change-b) where
  terms_is : c.terms_change-b.result ≡ terms (start c) (val (by (start c)))
  terms_is = c.terms_change-b.ensures ∙ ap (terms (start c)) (exact (by (start c)) tt)

  terms_small : nat_abs c.terms_change-b.result ≤ terms_limit
  terms_small =
      let s = start c in
      rw terms_is (up_to max_columns ((max_coefficient * (2 * max_multiplier)) * max_bound) s.args.columns _ s.requires.4 (λ j l. fall_size (s.args.lowers.now ‼ j) (s.args.uppers.now ‼ j) _ _ (max_coefficient * (2 * max_multiplier)) max_bound (s.requires.6.at j l) (s.requires.7.at j l) (s.args.d.now ‼ j) (s.args.coefs.now ‼ (s.args.e.row * s.args.columns + j) *ℤ val (by s)) (mul_size (s.args.coefs.now ‼ (s.args.e.row * s.args.columns + j)) (val (by s)) max_coefficient (2 * max_multiplier) (s.requires.5.at j l) (size (by s) tt))))

module _ (c : tie.After-absent_change-n) where
  lacks_is : c.absent_change-n.result ≡ lacking (start c.before) (val (by (start c.before)))
  lacks_is = c.absent_change-n.ensures ∙ ap (lacking (start c.before)) (exact (by (start c.before)) tt)

  lacks_small : nat_abs c.absent_change-n.result ≤ max_columns * 2
  lacks_small = rw lacks_is (up_to max_columns 2 (start c.before).args.columns _ (start c.before).requires.4 (λ j _. bits_size _ _))

whole : (c : tie.After-row_totals-z) → Near c.row_totals-z.result
whole c = let s = start c.before.before in rw c.row_totals-z.ensures (row_totals_near s.args.e s.requires.1 s.args.t s.args.y s.requires.2 s.requires.3)

sub_by : tie.Need-overflow_sub-by
sub_by c = let s : tie.Start = search in fit (by s) tt

terms-change-requires : tie.Need-terms_change-b-requires
terms-change-requires c κs = let s : tie.Start = search in (s.requires.4, s.requires.5, s.requires.6, s.requires.7, s.requires.8, s.requires.9, s.requires.10, rw (exact (by s) tt) (size (by s) tt))

absent-change-requires : tie.Need-absent_change-n-requires
absent-change-requires c κs = let s : tie.Start = search in (s.requires.4, s.requires.5, s.requires.8, s.requires.9, s.requires.10, rw (exact (by s) tt) (size (by s) tt))

row-totals-requires : tie.Need-row_totals-z-requires
row-totals-requires c κs = search rules

add-t16 : tie.Need-overflow_add-result
add-t16 c = let m : tie.After-row_totals-z = search in fit (floors m.row_totals-z.result (whole m) m.terms_change-b.result (terms_small m.before.before)) tt

add-t17 : tie.Need-overflow_add-result-2
add-t17 c = let m : tie.After-row_totals-z = search in fit (absents m.row_totals-z.result (whole m) m.absent_change-n.result (lacks_small m.before)) tt

returns : tie.Need-returns
returns c =
    let m : tie.After-row_totals-z = search in
    with_terms_holds m.row_totals-z.result (whole m) m.terms_change-b.result m.absent_change-n.result (terms_small m.before.before) (lacks_small m.before) ∙ (λ h. with_terms (m.row_totals-z.ensures h) (terms_is m.before.before h) (lacks_is m.before h))

pub mult_totals_spec : {M : Type 1} → statement M
mult_totals_spec =
    tie.close
    (tie.spec
    sub_by
    terms-change-requires
    absent-change-requires
    row-totals-requires
    add-t16
    add-t17
    returns)
