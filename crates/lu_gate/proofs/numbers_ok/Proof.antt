-- `lu_gate::numbers_ok` meets its contract. Assumes nothing.
use borrow.Author.Rules.{rules}
use mathlib.Core.Path.{refl, sym, ◌∙◌}
use borrow.Author.Tests.{not-true, not-false}
use Rattle.lu_gate.specs.Gate.{ok_numbers}
use Rattle.lu_gate.proofs.numbers_ok.Statement.{statement}
use Rattle.lu_gate.proofs.numbers_ok.Tie as tie

all-finite-requires : tie.Need-all_finite-requires
all-finite-requires c κs = search rules

returns : tie.Need-returns-then-not-all_finite
unfolding ok_numbers
returns c = rw (sym c.before.all_finite.ensures ∙ not-true _ c.if-not-all_finite.true-raw) refl

returns-2 : tie.Need-returns-then-not-has_diag
unfolding ok_numbers
returns-2 c =
    let s : tie.Start = search in
    rw (sym c.before.before.all_finite.ensures ∙ not-false _ c.if-not-all_finite.false-raw, not-true s.args.has_diag c.if-not-has_diag.true-raw) refl

all-finite-requires-2 : tie.Need-all_finite-requires-2
all-finite-requires-2 c κs = let s : tie.Start = search in let i : tie.Else-not-has_diag = search in s.requires.1 (not-false _ i.if-not-has_diag.false-raw)

returns-3 : tie.Need-returns
unfolding ok_numbers
returns-3 c =
    let s : tie.Start = search in
    let i : tie.Else-not-has_diag = search in
    rw (sym i.before.before.all_finite.ensures ∙ not-false _ i.if-not-all_finite.false-raw, not-false s.args.has_diag i.if-not-has_diag.false-raw) c.all_finite-2.ensures

pub numbers_ok_spec : {M : Type 1} → statement M
numbers_ok_spec =
    tie.close (tie.spec all-finite-requires returns returns-2 all-finite-requires-2 returns-3)
