-- `sheet_terms::wrong` meets its contract. Assumes nothing.
use Rattle.sheet_rules.specs.Sheet.{wrong}
use Rattle.sheet_terms.proofs.Machine.{of_word}
use Rattle.sheet_terms.proofs.Laws.{wrong_other}
use Rattle.sheet_terms.proofs.wrong.Statement.{statement}
use Rattle.sheet_terms.proofs.wrong.Tie as tie

returns : tie.Need-returns-in-0
unfolding wrong
returns c = let s = c.before in rw (c.in-0.is, of_word s.ranges.y)

returns-2 : tie.Need-returns-in-1
unfolding wrong
returns-2 c = rw c.in-1.is

returns-3 : tie.Need-returns-in_default
returns-3 c = let s = c.before in rw (wrong_other s.args.op s.args.y c.in_default.in_default-own.rest.0.1 c.in_default.in_default-own.rest.1, of_word s.ranges.y)

pub wrong_spec : {M : Type 1} → statement M
wrong_spec = tie.close (tie.spec returns returns-2 returns-3)
