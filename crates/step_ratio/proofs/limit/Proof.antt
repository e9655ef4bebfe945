-- `step_ratio::limit`: by its tests. Assumes nothing.
use Rattle.rules.specs.Ratio.{limit_by}
use Rattle.step_ratio.proofs.limit.Statement.{statement}
use Rattle.step_ratio.proofs.limit.Tie as tie

returns : tie.Need-returns-then-val-bound
unfolding limit_by
returns c = rw (c.if-max.true, c.if-val-bound.true, limit_by)

returns-2 : tie.Need-returns-then-max
unfolding limit_by
returns-2 c = rw (c.if-max.true, c.if-val-bound.false, limit_by)

returns-3 : tie.Need-returns-then-bound-val
unfolding limit_by
returns-3 c = rw (c.if-max.false, c.if-bound-val.true, limit_by)

returns-4 : tie.Need-returns
unfolding limit_by
returns-4 c = rw (c.if-max.false, c.if-bound-val.false, limit_by)

pub limit_spec : {M : Type 1} → statement M
limit_spec = tie.close (tie.spec returns returns-2 returns-3 returns-4)
