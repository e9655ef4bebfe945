-- `sheet_change_totals::row_after` meets its contract. Assumes nothing.
use borrow.Author.Tests.{ne_eqb}
use Rattle.sheet_change_totals.specs.Parts.{row_after}
use borrow.Author.Rules.{rules}
use Rattle.sheet_change_totals.proofs.row_after.Statement.{statement}
use Rattle.sheet_change_totals.proofs.row_after.Tie as tie

returns : tie.Need-returns-in-5
unfolding row_after
returns c = let m : tie.In-5 = search in rw m.in-5.is (search rules)

returns-2 : tie.Need-returns-in-7
unfolding row_after
returns-2 c = let m : tie.In-7 = search in rw m.in-7.is (search rules)

returns-3 : tie.Need-returns-in_default
unfolding row_after
returns-3 c = let s = c.before in rw (ne_eqb s.args.e.kind 5 c.in_default.in_default-own.rest.0.1, ne_eqb s.args.e.kind 7 c.in_default.in_default-own.rest.1)

pub row_after_spec : {M : Type 1} → statement M
row_after_spec = tie.close (tie.spec returns returns-2 returns-3)
