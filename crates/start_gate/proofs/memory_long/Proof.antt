-- `start_gate::memory_long` meets its contract: the last sections decide. Assumes nothing.
use mathlib.Core.Path.{sym}
use mathlib.Core.List.{[]}
use borrow.Author.Rules.{rules}
use Rattle.doubles.specs.Num.{f0}
use Rattle.rules.specs.Parts.{plan_of}
use Rattle.start_gate.proofs.Long.{long_is}
use Rattle.start_gate.proofs.memory_long.Statement.{statement}
use Rattle.start_gate.proofs.memory_long.Tie as tie

add-result : tie.Need-overflow_add-result
add-result c = search rules

returns : tie.Need-returns
returns c =
    let s : tie.Start = search in
    let a = s.args in
    sym
    (long_is (plan_of a.columns a.rows 0 0 f0 [] [] [] [] [] [] [] []) a.values.now a.numbers.now
    a.doubles.now a.factor_numbers.now a.factor_coeffs.now s.requires.0 s.requires.1)

pub memory_long_spec : {M : Type 1} → statement M
memory_long_spec = tie.close (tie.spec add-result returns)
