-- `whole_propose::propose`: the answer first, and the arrays where it is Proposed. Assumes nothing.
use mathlib.Core.Path.{◌≡◌, sym, ap, ◌∙◌}
use mathlib.Core.Bool.{true}
use Rattle.doubles.specs.Lists.{over}
use Rattle.whole_propose.specs.Propose.{Lent, lent_of, is_proposed}
use Rattle.whole_propose.specs.Words.{Enough}
use Rattle.whole_propose.proofs.Laws.{same_all, enough, proposed_fine, writes, stays}
use borrow.Author.Rules.{rules}
use Rattle.whole_propose.proofs.propose.Statement.{statement}
use Rattle.whole_propose.proofs.propose.Tie as tie

abbrev l : tie.Start → Lent
l s =
    let a = s.args in
    lent_of a.columns a.rows a.starts.now a.ops.now a.values.now a.numbers.now a.doubles.now
    a.amounts.now a.mults.now

abbrev start : tie.Then-is_proposed → tie.Start
start t = search

abbrev told : tie.Then-is_proposed → tie.After-answer-a
told t = search

yes : (t : tie.Then-is_proposed) → is_proposed (told t).answer-a.result ≡ true
yes t = sym t.is_proposed.ensures ∙ t.if-is_proposed.true

long : (t : tie.Then-is_proposed) → Enough (l (start t))
long t = enough (l (start t)) (proposed_fine (l (start t)) (sym (ap is_proposed (told t).answer-a.ensures) ∙ yes t))

answer-requires : tie.Need-answer-a-requires
answer-requires c κs = search rules

is-proposed-requires : tie.Need-is_proposed-requires
is-proposed-requires c κs = search rules

write-amounts-requires : tie.Need-write_amounts-requires
write-amounts-requires c κs = let t : tie.Then-is_proposed = search in ((long t).values_long, (long t).amounts_long)

write-multipliers-requires : tie.Need-write_multipliers-requires
write-multipliers-requires c κs = let t : tie.Then-is_proposed = search in ((long t).long, (long t).mults_long)

same_length : tie.Need-shape_of-amounts-then-is_proposed
same_length c = search rules

same-length-2 : tie.Need-shape_of-mults-then-is_proposed
same-length-2 c = search rules

returns : tie.Need-returns-then-is_proposed
returns c =
    let t : tie.Then-is_proposed = search in
    let s = start t in
    let x : tie.After-write_amounts = search in
    let y : tie.After-write_multipliers = search in
    writes (l s) (told t).answer-a.ensures (yes t) x.write_amounts.ensures
    (y.write_multipliers.ensures ∙ ap (λ z. over z s.args.mults.now) (sym (same_all (l s).plan s.args.values.now s.args.numbers.now s.args.doubles.now)))

same-length-3 : tie.Need-shape_of-amounts-else-is_proposed
same-length-3 c = search rules

same-length-4 : tie.Need-shape_of-mults-else-is_proposed
same-length-4 c = search rules

returns-2 : tie.Need-returns-else-is_proposed
returns-2 c =
    let s : tie.Start = search in
    let a : tie.After-answer-a = search in
    stays (l s) a.answer-a.ensures (sym c.is_proposed.ensures ∙ c.if-is_proposed.false)

pub propose_spec : {M : Type 1} → statement M
propose_spec =
    tie.close
    (tie.spec
    answer-requires
    is-proposed-requires
    write-amounts-requires
    write-multipliers-requires
    same_length
    same-length-2
    returns
    same-length-3
    same-length-4
    returns-2)
