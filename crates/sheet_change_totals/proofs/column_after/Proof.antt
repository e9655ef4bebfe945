-- `sheet_change_totals::column_after` meets its contract. Assumes nothing.
use Rattle.sheet_change_totals.specs.Parts.{column_after, column_of}
use mathlib.Core.Path.{◌≡◌}
use borrow.Author.Rules.{rules}
use borrow.Author.Tests.{ne_eqb}
use lib.Dec.{lit≤}
use lib.IntN.{pos}
use Rattle.doubles.specs.Limits.{max_cost, max_bound, max_amount, max_d, unit}
use Rattle.sheet_terms.proofs.Machine.{E, num, add, sub, mul, exact, fit}
use Rattle.sheet_change_totals.proofs.column_after.Statement.{statement}
use Rattle.sheet_change_totals.proofs.column_after.Tie as tie

module _ (s : tie.Start) (w : s.args.e.kind ≡ 2) where
  abbrev by : E
  by = sub (num s.args.e.number max_cost (s.requires.0.cost_in w)) (num s.args.x.cost max_cost s.requires.1.cost_in)

  abbrev scaled : E
  scaled = mul (num (pos unit) unit (lit≤ tt)) by

  abbrev price : E
  price = add (num s.args.x.price max_d s.requires.1.price_in_holds) scaled

sub-t11 : tie.Need-overflow_sub-result
sub-t11 c = let s : tie.Start = search in let m : tie.In-2 = search in fit (by s m.in-2.is) tt

mul-t12 : tie.Need-overflow_mul-result
mul-t12 c = let s : tie.Start = search in let m : tie.In-2 = search in fit (scaled s m.in-2.is) tt

add-t13 : tie.Need-overflow_add-result
add-t13 c = let s : tie.Start = search in let m : tie.In-2 = search in fit (price s m.in-2.is) tt

returns : tie.Need-returns-in-1
unfolding column_after
returns c = let m : tie.In-1 = search in rw m.in-1.is (search rules)

returns-2 : tie.Need-returns-in-2
unfolding column_after
returns-2 c =
    let m : tie.In-2 = search in
    let s : tie.Start = search in
    let w = m.in-2.is in
    let x = s.args.x in
    rw w (λ h. column_of (exact (num s.args.e.number max_cost (s.requires.0.cost_in w)) tt h) (exact (num x.low max_bound s.requires.1.low_in) tt h) (exact (num x.high max_bound s.requires.1.high_in) tt h) x.lowmark x.highmark (exact (num x.amount max_amount s.requires.1.amount_in) tt h) (exact (price s w) tt h))

returns-3 : tie.Need-returns-in-3
unfolding column_after
returns-3 c = let m : tie.In-3 = search in rw m.in-3.is (search rules)

returns-4 : tie.Need-returns-in-4
unfolding column_after
returns-4 c = let m : tie.In-4 = search in rw m.in-4.is (search rules)

returns-5 : tie.Need-returns-in-8
unfolding column_after
returns-5 c = let m : tie.In-8 = search in rw m.in-8.is (search rules)

returns-6 : tie.Need-returns-in-9
unfolding column_after
returns-6 c = let m : tie.In-9 = search in rw m.in-9.is (search rules)

returns-7 : tie.Need-returns-in_default
unfolding column_after
returns-7 c =
    let k = c.args.e.kind in
    let r = c.in_default.in_default-own.rest in
    rw (ne_eqb k 1 r.0.0.0.0.0.1, ne_eqb k 2 r.0.0.0.0.1, ne_eqb k 3 r.0.0.0.1, ne_eqb k 4 r.0.0.1, ne_eqb k 8 r.0.1, ne_eqb k 9 r.1)

pub column_after_spec : {M : Type 1} → statement M
column_after_spec =
    tie.close
    (tie.spec
    sub-t11
    mul-t12
    add-t13
    returns
    returns-2
    returns-3
    returns-4
    returns-5
    returns-6
    returns-7)
