-- `file_open::uncrossed` meets its contract. Assumes nothing.
use mathlib.Core.Path.{◌≡◌, ◌∙◌}
use lib.ListN.{length}
use borrow.Author.Rules.{rules}
use Rattle.sheet_rules.specs.Opening.{uncrossed}
use Rattle.file_open.specs.Places.{plan_at}
use Rattle.file_open.proofs.Laws.{placed, crossed_table}
use Rattle.file_open.proofs.uncrossed.Statement.{statement}
use Rattle.file_open.proofs.uncrossed.Tie as tie

layout-requires : tie.Need-layout-p-requires
layout-requires c κs = search rules

uncrossed-requires : tie.Need-uncrossed-requires
uncrossed-requires c κs =
    let s : tie.Start = search in
    let p = placed s.args.rows s.args.columns c.layout-p.result (length s.args.file.now) c.layout-p.ensures s.requires.there in
    (p.lowers_in, p.uppers_in, p.lower_marks_in, p.upper_marks_in)

returns : tie.Need-returns
unfolding uncrossed plan_at
returns c = let l : tie.After-layout-p = search in c.uncrossed.ensures ∙ rw l.layout-p.ensures (crossed_table _ _ _ _ _)

pub uncrossed_spec : {M : Type 1} → statement M
uncrossed_spec = tie.close (tie.spec layout-requires uncrossed-requires returns)
