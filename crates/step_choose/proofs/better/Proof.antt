-- `step_choose::better`: by its tests. Assumes nothing.
use mathlib.Core.Path.{◌≡◌, sym, ap, ◌∙◌}
use borrow.Author.Tests.{not-true, not-false}
use Rattle.rules.specs.Plan.{flags_of}
use Rattle.rules.specs.Choose.{may_enter, score_of}
use Rattle.step_choose.specs.Parts.{better_of}
use borrow.Author.Rules.{rules}
use Rattle.step_choose.proofs.better.Statement.{statement}
use Rattle.step_choose.proofs.better.Tie as tie

read-flags-requires : tie.Need-read_flags-requires
read-flags-requires c κs = search rules

may-enter-requires : tie.Need-may_enter-requires
may-enter-requires c κs = search rules

-- what the filter says of the column
filter : (a : tie.After-may_enter) → a.may_enter.result ≡ may_enter (flags_of a.args.flags) a.args.price
filter a = a.may_enter.ensures ∙ ap (λ f. may_enter f a.args.price) a.before.read_flags.ensures

returns : tie.Need-returns-then-not-may_enter
unfolding better_of score_of
returns c = rw (sym (filter c.before) ∙ not-true _ c.if-not-may_enter.true-raw, better_of)

returns-2 : tie.Need-returns-then-best-score
unfolding better_of score_of
returns-2 c = rw (sym (filter c.before.before.before) ∙ not-false _ c.if-not-may_enter.false-raw, c.if-best-score.true, better_of)

returns-3 : tie.Need-returns
unfolding better_of score_of
returns-3 c = rw (sym (filter c.before.before.before) ∙ not-false _ c.if-not-may_enter.false-raw, c.if-best-score.false, better_of)

pub better_spec : {M : Type 1} → statement M
better_spec =
    tie.close (tie.spec read-flags-requires may-enter-requires returns returns-2 returns-3)
