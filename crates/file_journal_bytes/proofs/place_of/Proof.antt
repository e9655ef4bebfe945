-- `file_journal_bytes::place_of` meets its contract. Assumes nothing.
use mathlib.Core.Path.{ap₂, ◌∙◌}
use Prim.Native.Nat.{ℕ, ◌+◌, ◌*◌}
use native.Mathlib.Omega.{arith}
use Rattle.file_journal_bytes.proofs.Laws.{place_is}
use borrow.Author.Rules.{rules}
use Rattle.file_journal_bytes.proofs.place_of.Statement.{statement}
use Rattle.file_journal_bytes.proofs.place_of.Tie as tie

shared-slice-read-size-of : tie.Need-bounds-b-1
shared-slice-read-size-of c = search rules

size-of-requires : tie.Need-size_of-requires
size-of-requires c κs = search rules

shared-slice-read-size-of-2 : tie.Need-bounds-b-2
shared-slice-read-size-of-2 c = search rules

size-of-requires-2 : tie.Need-size_of-requires-2
size-of-requires-2 c κs = search rules

mul-result : tie.Need-overflow_mul-result
mul-result c = search rules

add-result : tie.Need-overflow_add-result
add-result c = search rules

returns : tie.Need-returns
returns c =
    let low = c.size_of.ensures in
    let high = c.size_of-2.ensures in
    (ap₂ (λ (x y : ℕ). x + 256 * y) low.0 high.0 ∙ place_is c.args.b.now c.requires, omega (arith, low.1, high.1))

pub place_of_spec : {M : Type 1} → statement M
place_of_spec =
    tie.close
    (tie.spec
    shared-slice-read-size-of
    size-of-requires
    shared-slice-read-size-of-2
    size-of-requires-2
    mul-result
    add-result
    returns)
