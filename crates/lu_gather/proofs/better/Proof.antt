-- `lu_gather::better` meets its contract. Assumes nothing.
use Rattle.lu_factor_rules.proofs.Laws.{better_old, better_new, better_kept}
use borrow.Author.Rules.{rules}
use Rattle.lu_gather.proofs.better.Statement.{statement}
use Rattle.lu_gather.proofs.better.Tie as tie

mul-if1 : tie.Need-offset_bounds-number-r
mul-if1 c = search rules

element-copy-out-if1 : tie.Need-bounds-number-r
element-copy-out-if1 c = search rules

returns : tie.Need-returns-then-number-r
returns c = better_old _ _ _ _ _ c.if-number-r.true

abs-requires : tie.Need-abs-s-requires
abs-requires c κs = search rules

returns-2 : tie.Need-returns-then-b-s
returns-2 c = let a : tie.After-abs-s = search in let e : tie.Else-number-r = search in better_new _ _ _ _ _ e.if-number-r.false
    a.abs-s.ensures c.if-b-s.true

returns-3 : tie.Need-returns
returns-3 c = let a : tie.After-abs-s = search in let e : tie.Else-number-r = search in better_kept _ _ _ _ _ e.if-number-r.false
    a.abs-s.ensures c.if-b-s.false

pub better_spec : {M : Type 1} → statement M
better_spec =
    tie.close (tie.spec mul-if1 element-copy-out-if1 returns abs-requires returns-2 returns-3)
