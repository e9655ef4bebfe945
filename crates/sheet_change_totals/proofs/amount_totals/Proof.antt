-- `sheet_change_totals::amount_totals` meets its contract. Assumes nothing.
use borrow.Author.Rules.{rules}
use mathlib.Core.Path.{◌≡◌, ap, ◌∙◌}
use Prim.Native.Nat.{◌*◌, ◌≤◌}
use lib.IntN.{ℤ, nat_abs}
use Rattle.doubles.specs.Limits.{max_rows, max_amount}
use Rattle.sheet_rules.proofs.Sizes.{up_to}
use Rattle.sheet_terms.proofs.Machine.{E, num, sub, val, exact, size, fit}
use Rattle.sheet_change_moves.specs.After.{broken_change}
use Rattle.sheet_change_moves.proofs.Laws.{bits_size}
use Rattle.sheet_change_totals.specs.Parts.{with_broken, Near}
use Rattle.sheet_change_totals.proofs.Sizes.{column_totals_near, brokens, with_broken_holds}
use Rattle.sheet_change_totals.proofs.amount_totals.Statement.{statement}
use Rattle.sheet_change_totals.proofs.amount_totals.Tie as tie

abbrev by : tie.Start → E
by s = sub (num s.args.e.number max_amount (s.requires.1.amount_in s.requires.0)) (num s.args.x.amount max_amount s.requires.3.amount_in)

abbrev change : tie.Start → ℤ → ℤ
change s z = broken_change s.args.rows s.args.columns s.args.e.column z s.args.coefs.now s.args.rhs.now s.args.ops.now s.args.r.now

abbrev start : tie.After-broken_change-n → tie.Start
start c = c.before.before.before.before.before.before

module _ (c : tie.After-broken_change-n) where
  change_is : c.broken_change-n.result ≡ change (start c) (val (by (start c)))
  change_is = c.broken_change-n.ensures ∙ ap (change (start c)) (exact (by (start c)) tt)

  change_small : nat_abs c.broken_change-n.result ≤ max_rows * 2
  change_small = rw change_is (up_to max_rows 2 (start c).args.rows _ (start c).requires.4 (λ i _. bits_size _ _))

whole : (c : tie.After-column_totals-z) → Near c.column_totals-z.result
whole c = let s = start c.before in rw c.column_totals-z.ensures (column_totals_near s.args.e s.requires.1 s.args.t s.args.x s.requires.2 s.requires.3)

sub_by : tie.Need-overflow_sub-by
sub_by c = let s : tie.Start = search in fit (by s) tt

broken-change-requires : tie.Need-broken_change-n-requires
broken-change-requires c κs = let s : tie.Start = search in (s.requires.4, s.requires.5, s.requires.6, s.requires.7, s.requires.8, rw (exact (by s) tt) (size (by s) tt))

column-totals-requires : tie.Need-column_totals-z-requires
column-totals-requires c κs = search rules

add-t13 : tie.Need-overflow_add-result
add-t13 c = let m : tie.After-column_totals-z = search in fit (brokens m.column_totals-z.result (whole m) m.broken_change-n.result (change_small m.before)) tt

returns : tie.Need-returns
returns c =
    let m : tie.After-column_totals-z = search in
    with_broken_holds m.column_totals-z.result (whole m) m.broken_change-n.result (change_small m.before) ∙ (λ h. with_broken (m.column_totals-z.ensures h) (change_is m.before h))

pub amount_totals_spec : {M : Type 1} → statement M
amount_totals_spec =
    tie.close (tie.spec sub_by broken-change-requires column-totals-requires add-t13 returns)
