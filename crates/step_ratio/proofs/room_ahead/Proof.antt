-- `step_ratio::room_ahead`: by its tests. Assumes nothing.
use mathlib.Core.Path.{sym, ◌∙◌}
use Rattle.step_ratio.proofs.Passes.{room_small, room_open, room_limit}
use borrow.Author.Rules.{rules}
use Rattle.step_ratio.proofs.room_ahead.Statement.{statement}
use Rattle.step_ratio.proofs.room_ahead.Tie as tie

under-eps-requires : tie.Need-under_eps-requires
under-eps-requires c κs = search rules

returns : tie.Need-returns-then-under_eps
returns c = room_small _ _ _ _ _ (sym c.under_eps.ensures ∙ c.if-under_eps.true)

towards-max-requires : tie.Need-towards_max-max-requires
towards-max-requires c κs = search rules

mul-side : tie.Need-offset_bounds-basic_vars-r
mul-side c = search rules

shared-slice-read-side : tie.Need-bounds-basic_vars-r
shared-slice-read-side c = search rules

side-requires : tie.Need-side-bound-requires
side-requires c κs = let s : tie.Start = search in (s.requires.0.0, s.requires.1.row _ s.requires.0.1)

is-infinite-requires : tie.Need-is_infinite-requires
is-infinite-requires c κs = search rules

returns-2 : tie.Need-returns-then-is_infinite
returns-2 c =
    let t : tie.After-towards_max-max = search in
    let s : tie.After-side-bound = search in
    room_open _ _ _ _ _ _ _ t.towards_max-max.ensures s.side-bound.ensures (sym t.under_eps.ensures ∙ t.if-under_eps.false) (sym c.is_infinite.ensures ∙ c.if-is_infinite.true)

mul-limit : tie.Need-offset_bounds-basic_var_vals-r
mul-limit c = search rules

shared-slice-read-limit : tie.Need-bounds-basic_var_vals-r
shared-slice-read-limit c = search rules

limit-requires : tie.Need-limit-requires
limit-requires c κs = search rules

returns-3 : tie.Need-returns
returns-3 c =
    let t : tie.After-towards_max-max = search in
    let s : tie.After-side-bound = search in
    let i : tie.After-is_infinite = search in
    room_limit _ _ _ _ _ _ _ t.towards_max-max.ensures s.side-bound.ensures (sym t.under_eps.ensures ∙ t.if-under_eps.false) (sym i.is_infinite.ensures ∙ c.if-is_infinite.false) _ c.limit.ensures

pub room_ahead_spec : {M : Type 1} → statement M
room_ahead_spec =
    tie.close
    (tie.spec
    under-eps-requires
    returns
    towards-max-requires
    mul-side
    shared-slice-read-side
    side-requires
    is-infinite-requires
    returns-2
    mul-limit
    shared-slice-read-limit
    limit-requires
    returns-3)
