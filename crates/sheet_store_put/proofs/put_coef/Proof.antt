-- `sheet_store_put::put_coef` meets its contract. Assumes nothing.
use mathlib.Core.Path.{ap, ◌∙◌}
use Prim.Native.Nat.{◌+◌, ◌*◌}
use native.Mathlib.Omega.{arith}
use lib.ListN.{set}
use borrow.Author.Rules.{rules}
use lib.IntN.{ℤ}
use Rattle.sheet_terms.proofs.Machine.{of_word}
use Rattle.sheet_store_put.proofs.Laws.{put_hit, put_miss}
use Rattle.sheet_store_put.proofs.put_coef.Statement.{statement}
use Rattle.sheet_store_put.proofs.put_coef.Tie as tie

mul-v : tie.Need-overflow_mul-v
mul-v c = omega (arith, c.requires c.if-hit.true)

add-v : tie.Need-overflow_add-v
add-v c = omega (arith, c.requires c.if-hit.true)

mul-v-2 : tie.Need-offset_bounds-coefs-row
mul-v-2 c = omega (arith, c.requires c.if-hit.true)

slice-set-from-v : tie.Need-bounds-coefs-row
slice-set-from-v c = omega (arith, c.requires c.if-hit.true)

same_length : tie.Need-shape_of-coefs
same_length c = search rules

returns : tie.Need-returns-then-hit
returns c = let s = c.before in ap (λ (z : ℤ). set s.args.coefs.now (s.args.row * s.args.columns + s.args.column) z) (of_word s.ranges.v) ∙ put_hit _ _ _ _ c.if-hit.true

returns-2 : tie.Need-returns-else-hit
returns-2 c = put_miss _ _ _ _ c.if-hit.false

pub put_coef_spec : {M : Type 1} → statement M
put_coef_spec =
    tie.close (tie.spec mul-v add-v mul-v-2 slice-set-from-v same_length returns returns-2)
