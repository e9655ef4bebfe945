-- `whole_round::round_even`: one law for each answer. Assumes nothing.
use Rattle.std.proofs.Common.{◌≡◌, false, T, pos, sym, ◌∙◌, subst, w64, rules}
use lib.Signed.{lt_z}
use lib.Ieee.{of_bits}
use mir.ValLaws.{to_z_pos}
use Rattle.whole_round.proofs.Answers as answers
use Rattle.whole_round.proofs.Answers.{Found}
use Rattle.whole_round.proofs.round_even.Statement.{statement}
use Rattle.whole_round.proofs.round_even.Tie as tie

at : (c : tie.After-nearest-n) → Found c.args.x c.nearest-n.result
unfolding of_bits
at c =
    record
    { inside = rw c.abs-a.ensures at c.if-a.true; near = rw c.abs-a.ensures at c.nearest-n.ensures }

within : (c : tie.Else-limit-n)
    → lt_z c.args.limit (pos c.nearest-n.result) ≡ false
within c =
    sym
    (answers.test _ _ c.ranges.limit c.nearest-n.ensures.small)
    ∙ c.if-limit-n.false

returns : tie.Need-returns-then-x
returns c = answers.not_a_number _ _ c.if-x.true

abs-requires : tie.Need-abs-a-requires
abs-requires c κs = search rules

nearest-requires : tie.Need-nearest-n-requires
unfolding of_bits
nearest-requires c κs =
    rw c.abs-a.ensures
    (answers.size_size _, subst T (sym (rw c.abs-a.ensures at c.if-a.true)) tt)

cast-n : tie.Need-overflow_cast-n
cast-n c = search rules

returns-2 : tie.Need-returns-then-limit-n
returns-2 c =
    answers.beyond _ (at c.before)
    (sym (answers.test _ _ c.ranges.limit c.nearest-n.ensures.small) ∙ c.if-limit-n.true)

sub-t8 : tie.Need-overflow_sub-result
sub-t8 c = answers.minus_fits _ c.nearest-n.ensures.small

returns-3 : tie.Need-returns-then-x-2
unfolding of_bits
returns-3 c =
    rw (answers.minus _ c.nearest-n.ensures.small)
    (answers.negative _ (at c.before.before) (within c.before) c.if-x-2.true)

returns-4 : tie.Need-returns-then-a
unfolding of_bits
returns-4 c =
    rw (to_z_pos w64 _ c.nearest-n.ensures.small)
    (answers.positive _ (at c.before.before) (within c.before) c.if-x-2.false)

returns-5 : tie.Need-returns
unfolding of_bits
returns-5 c =
    answers.large _ _ c.ranges.limit.sfits c.if-x.false
    (rw c.abs-a.ensures at c.if-a.false)

pub round_even_spec : {M : Type 1} → statement M
round_even_spec =
    tie.close (tie.spec returns abs-requires nearest-requires cast-n returns-2 sub-t8 returns-3 returns-4 returns-5)
