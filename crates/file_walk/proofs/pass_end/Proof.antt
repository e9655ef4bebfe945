-- `file_walk::pass_end` meets its contract: each return by its law. Assumes nothing.
use native.Mathlib.Omega.{arith}
use borrow.Author.Rules.{rules}
use Rattle.file_walk.proofs.Laws.{behind_stays, behind_none, behind_some}
use Rattle.file_walk.proofs.pass_end.Statement.{statement}
use Rattle.file_walk.proofs.pass_end.Tie as tie

returns : tie.Need-returns-then-s-ne0
returns c = behind_stays _ _ _ c.if-s-ne0.true

mul-if2 : tie.Need-overflow_mul-s
mul-if2 c = search rules

returns-2 : tie.Need-returns-then-file-s
returns-2 c = let e : tie.Else-s-ne0 = search in behind_none _ _ _ e.if-s-ne0.false (omega arith)

stray-at-requires : tie.Need-stray_at-requires
stray-at-requires c κs = search rules

returns-3 : tie.Need-returns
returns-3 c = let e : tie.Else-s-ne0 = search in behind_some _ _ _ _ e.if-s-ne0.false (omega arith) c.stray_at.ensures

pub pass_end_spec : {M : Type 1} → statement M
pass_end_spec = tie.close (tie.spec returns mul-if2 returns-2 stray-at-requires returns-3)
