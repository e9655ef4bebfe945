-- `step_store::flags_at` meets its contract: its two tests are those of the definition. Assumes nothing.
use Rattle.rules.specs.Plan.{var_min, var_max}
use Rattle.rules.specs.Pivot.{flags_at}
use Rattle.step_store.proofs.flags_at.Statement.{statement}
use Rattle.step_store.proofs.flags_at.Tie as tie

var-min-requires : tie.Need-var_min-requires
var-min-requires c κs =
    let s : tie.Start = search in
    (record { bounds_long = s.requires.lowers_long; row_inside = s.requires.row_inside }, s.requires.variable)

var-max-requires : tie.Need-var_max-requires
var-max-requires c κs =
    let s : tie.Start = search in
    (record { bounds_long = s.requires.uppers_long; row_inside = s.requires.row_inside }, s.requires.variable)

pack-flags-requires : tie.Need-pack_flags-requires
pack-flags-requires c κs = tt

returns : tie.Need-returns
unfolding flags_at var_min var_max
returns c =
    let a : tie.After-var_min = search in
    let b : tie.After-var_max = search in
    let d : tie.After-pack_flags = search in
    rw (← a.var_min.ensures, ← b.var_max.ensures) d.pack_flags.ensures

pub flags_at_spec : {M : Type 1} → statement M
flags_at_spec = tie.close (tie.spec var-min-requires var-max-requires pack-flags-requires returns)
