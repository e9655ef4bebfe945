-- `basis_store::eta_entry` meets its contract: the leaving row's entry, or another's. Assumes nothing.
use borrow.Author.Tests.{eq-eqb, ne_eqb}
use Rattle.rules.specs.Basis.{eta_entry}
use Rattle.basis_store.proofs.eta_entry.Statement.{statement}
use Rattle.basis_store.proofs.eta_entry.Tie as tie

returns : tie.Need-returns-then-r-row
unfolding eta_entry
returns c = rw (eq-eqb _ _ c.if-r-row.true, eta_entry)

returns-2 : tie.Need-returns-else-r-row
unfolding eta_entry
returns-2 c = rw (ne_eqb _ _ c.if-r-row.false, eta_entry)

pub eta_entry_spec : {M : Type 1} → statement M
eta_entry_spec = tie.close (tie.spec returns returns-2)
