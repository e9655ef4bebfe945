-- `night_doubles::row_entries` meets its contract. Assumes nothing.
use Rattle.std.proofs.Common.{◌≡◌, ℕ, ℤ, refl, sym, ap, ◌∙◌, arith}
use Rattle.doubles.specs.Loop.{run}
use Rattle.sheet_rules.specs.Sum.{◌‼◌}
use Rattle.sheet_rules.specs.Verdict.{is_zero}
use Rattle.sheet_terms.proofs.Machine.{result}
use Rattle.night_rules.specs.Doubles.{nonzeros}
use Rattle.night_doubles.proofs.Laws.{nonzeros_few, count_one, count_none}
use Rattle.night_doubles.proofs.row_entries.Goals.{After-is_zero, then-not-is_zero, else-not-is_zero}
use Rattle.night_doubles.proofs.row_entries.Goals as goal

-- this turn's test
tested : (c : After-is_zero) → is_zero (c.args.row.now ‼ c.loop-z.z-index) ≡ c.is_zero.result
tested c = sym (c.is_zero.ensures ∙ ap is_zero (result (c.args.row.now ‼ c.loop-z.z-index) search))

pub loop-z-init : goal.loop-z-init
unfolding nonzeros run
loop-z-init c = refl

pub overflow_add-k : goal.overflow_add-k
overflow_add-k c = omega (arith, c.loop-z-test.true, c.loop-z.invariant, nonzeros_few (λ i. c.args.row.now ‼ i) c.loop-z.z-index)

pub loop-z-preserved : goal.loop-z-preserved
loop-z-preserved c =
    let row : ℕ → ℤ = λ i. c.args.row.now ‼ i in
    let t = tested (goal.at.loop-z-preserved c).After-is_zero in
    elim c.if-not-is_zero.branch [
      | then-not-is_zero w ↦ omega (arith, w.k-is, c.loop-z.invariant, count_one row c.loop-z.z-index (t ∙ w.if-not-is_zero.true))
      | else-not-is_zero w ↦ omega (arith, w.k-is, c.loop-z.invariant, count_none row c.loop-z.z-index (t ∙ w.if-not-is_zero.false))
    ]
