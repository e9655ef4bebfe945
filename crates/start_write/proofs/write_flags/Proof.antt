-- `start_write::write_flags` meets its contract: after j turns the first j cells are filled. Assumes nothing.
use mathlib.Core.Path.{◌≡◌, refl}
use Prim.Native.Nat.{◌-◌, ◌≤◌}
use lib.ListN.{length, length-set}
use Rattle.doubles.proofs.Loops.{Filled, filled_none, filled_more, filled_over}
use mathlib.Core.List.{[]}
use Rattle.rules.specs.Start.{start_flags}
use Rattle.start_values.specs.Lent.{costed}
use borrow.Author.Rules.{rules}
use native.Mathlib.Omega.{arith}
use Rattle.start_write.proofs.write_flags.Statement.{statement}
use Rattle.start_write.proofs.write_flags.Tie as tie

abbrev invariant-loop : tie.invariant-loop-j
invariant-loop n lowers uppers xs flags₀ j₀ flags j = (j ≤ n) × (length flags ≡ length flags₀) × Filled (start_flags (costed n [] lowers uppers) xs) flags₀ j flags

abbrev decreases-loop : tie.decreases-loop-j
decreases-loop n lowers uppers xs flags₀ j₀ flags j = n - j

loop-holds : tie.Need-loop-j-init invariant-loop decreases-loop
loop-holds c = (omega arith, refl, filled_none)

mul-t9 : tie.Need-offset_bounds-xs-j invariant-loop decreases-loop
mul-t9 c = omega arith

shared-slice-read-t11 : tie.Need-bounds-xs-j invariant-loop decreases-loop
shared-slice-read-t11 c = omega arith

mul-t12 : tie.Need-offset_bounds-lowers-j invariant-loop decreases-loop
mul-t12 c = omega arith

shared-slice-read-t14 : tie.Need-bounds-lowers-j invariant-loop decreases-loop
shared-slice-read-t14 c = omega arith

mul-t15 : tie.Need-offset_bounds-xs-j-in-loop-j invariant-loop decreases-loop
mul-t15 c = omega arith

shared-slice-read-t17 : tie.Need-bounds-xs-j-in-loop-j invariant-loop decreases-loop
shared-slice-read-t17 c = omega arith

mul-t18 : tie.Need-offset_bounds-uppers-j invariant-loop decreases-loop
mul-t18 c = omega arith

shared-slice-read-t20 : tie.Need-bounds-uppers-j invariant-loop decreases-loop
shared-slice-read-t20 c = omega arith

pack-flags-requires : tie.Need-pack_flags-requires invariant-loop decreases-loop
pack-flags-requires c κs = search rules

mul-flags : tie.Need-offset_bounds-flags-j invariant-loop decreases-loop
mul-flags c = omega arith

slice-write-flags : tie.Need-bounds-flags-j invariant-loop decreases-loop
slice-write-flags c = omega arith

add-j : tie.Need-overflow_step-j invariant-loop decreases-loop
add-j c = omega arith

loop-less : tie.Need-loop-j-smaller invariant-loop decreases-loop
loop-less c = omega arith

loop-again : tie.Need-loop-j-preserved invariant-loop decreases-loop
loop-again c =
    let t : tie.In-loop-j invariant-loop decreases-loop = search in
    (omega arith, simp length-set t.loop-j.invariant.1, filled_more t.loop-j.invariant.2 (omega arith) c.pack_flags.ensures)

same_length : tie.Need-shape_of-flags invariant-loop decreases-loop
same_length c = search rules

returns : tie.Need-returns invariant-loop decreases-loop
returns c =
    let s : tie.Start invariant-loop decreases-loop = search in
    let q : c.loop-j.j ≡ s.args.n = omega arith in
    filled_over (rw q at c.loop-j.invariant.2)

pub write_flags_spec : {M : Type 1} → statement M
write_flags_spec =
    tie.close
    (tie.spec
    invariant-loop
    decreases-loop
    loop-holds
    mul-t9
    shared-slice-read-t11
    mul-t12
    shared-slice-read-t14
    mul-t15
    shared-slice-read-t17
    mul-t18
    shared-slice-read-t20
    pack-flags-requires
    mul-flags
    slice-write-flags
    add-j
    loop-less
    loop-again
    same_length
    returns)
