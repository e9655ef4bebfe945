-- `check_close::values_after`: by the status. Assumes nothing.
use borrow.Author.Rules.{rules}
use borrow.Author.Tests.{eq-eqb, ne_eqb}
use Rattle.check_close.proofs.values_after.Statement.{statement}
use Rattle.check_close.proofs.values_after.Tie as tie

returns : tie.Need-returns-then-status-ne0
returns c = rw (ne_eqb _ _ c.if-status-ne0.true)

write-values-requires : tie.Need-write_values-requires
write-values-requires c κs = search rules

same_length : tie.Need-shape_of-values
same_length c = search rules

returns-2 : tie.Need-returns
returns-2 c =
    let w : tie.After-write_values = search in
    let e : tie.Else-status-ne0 = search in
    rw (eq-eqb _ _ e.if-status-ne0.false) w.write_values.ensures

pub values_after_spec : {M : Type 1} → statement M
values_after_spec = tie.close (tie.spec returns write-values-requires same_length returns-2)
