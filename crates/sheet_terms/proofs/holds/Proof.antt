-- `sheet_terms::holds` meets its contract. Assumes nothing.
use Rattle.sheet_rules.specs.Sheet.{holds}
use Rattle.sheet_terms.proofs.Machine.{of_word}
use Rattle.sheet_terms.proofs.Laws.{holds_other}
use Rattle.sheet_terms.proofs.holds.Statement.{statement}
use Rattle.sheet_terms.proofs.holds.Tie as tie

returns : tie.Need-returns-in-0
unfolding holds
returns c = let s = c.before in rw (c.in-0.is, of_word s.ranges.activity, of_word s.ranges.right)

returns-2 : tie.Need-returns-in-1
unfolding holds
returns-2 c = let s = c.before in rw (c.in-1.is, of_word s.ranges.activity, of_word s.ranges.right)

returns-3 : tie.Need-returns-in_default
returns-3 c =
    let s = c.before in
    rw (holds_other s.args.op s.args.activity s.args.right c.in_default.in_default-own.rest.0.1 c.in_default.in_default-own.rest.1, of_word s.ranges.activity, of_word s.ranges.right)

pub holds_spec : {M : Type 1} → statement M
holds_spec = tie.close (tie.spec returns returns-2 returns-3)
