-- `night_doubles::bound_or` meets its contract. Assumes nothing.
use Rattle.std.proofs.Common.{ap, ◌∙◌, rules}
use Rattle.sheet_terms.proofs.Machine.{of_word}
use Rattle.night_rules.specs.Doubles.{as_double}
use Rattle.night_doubles.proofs.Laws.{bound_there, bound_absent}
use Rattle.night_doubles.proofs.bound_or.Statement.{statement}
use Rattle.night_doubles.proofs.bound_or.Tie as tie

nearest-i64-to-f64-requires : tie.Need-nearest_i64_to_f64-requires
nearest-i64-to-f64-requires c κs = search rules

returns : tie.Need-returns-then-mark-eq1
returns c = c.nearest_i64_to_f64.ensures ∙ ap as_double (of_word c.ranges.z)
    ∙ bound_there _ _ _ c.if-mark-eq1.true

returns-2 : tie.Need-returns
returns-2 c = bound_absent _ _ _ c.if-mark-eq1.false

pub bound_or_spec : {M : Type 1} → statement M
bound_or_spec = tie.close (tie.spec nearest-i64-to-f64-requires returns returns-2)
