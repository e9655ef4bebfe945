-- `step_choose::other_val`: the bound on the side of the move. Assumes nothing.
use Rattle.rules.specs.Choose.{other_val}
use borrow.Author.Rules.{rules}
use Rattle.step_choose.proofs.other_val.Statement.{statement}
use Rattle.step_choose.proofs.other_val.Tie as tie

mul-side : tie.Need-offset_bounds-prices-col
mul-side c = search rules

shared-slice-read-side : tie.Need-bounds-prices-col
shared-slice-read-side c = search rules

mul-side-2 : tie.Need-offset_bounds-nb_vars-col
mul-side-2 c = search rules

shared-slice-read-side-2 : tie.Need-bounds-nb_vars-col
shared-slice-read-side-2 c = search rules

side-requires : tie.Need-side-requires
side-requires c κs = let s : tie.Start = search in (s.requires.0.0, s.requires.1.place _ s.requires.0.1)

returns : tie.Need-returns
unfolding other_val
returns c = c.side.ensures

pub other_val_spec : {M : Type 1} → statement M
other_val_spec =
    tie.close
    (tie.spec
    mul-side
    shared-slice-read-side
    mul-side-2
    shared-slice-read-side-2
    side-requires
    returns)
