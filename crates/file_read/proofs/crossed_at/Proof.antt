-- `file_read::crossed_at` meets its contract. Assumes nothing.
use mathlib.Core.Path.{◌∙◌}
use borrow.Author.Rules.{rules}
use Rattle.sheet_terms.proofs.Machine.{result}
use Rattle.file_read.proofs.crossed_at.Statement.{statement}
use Rattle.file_read.proofs.crossed_at.Tie as tie

number-at-requires : tie.Need-number_at-requires
number-at-requires c κs = search rules

number-at-requires-2 : tie.Need-number_at-requires-2
number-at-requires-2 c κs = search rules

byte-at-requires : tie.Need-byte_at-requires
byte-at-requires c κs = search rules

byte-at-requires-2 : tie.Need-byte_at-requires-2
byte-at-requires-2 c κs = search rules

crosses-requires : tie.Need-crosses-requires
crosses-requires c κs = search rules

returns : tie.Need-returns
returns c =
    let l : tie.After-number_at = search in
    let u : tie.After-number_at-2 = search in
    let m : tie.After-byte_at = search in
    let v : tie.After-byte_at-2 = search in
    c.crosses.ensures ∙ rw (result l.number_at.result l.number_at.type_inv, result u.number_at-2.result u.number_at-2.type_inv, l.number_at.ensures, u.number_at-2.ensures, m.byte_at.ensures, v.byte_at-2.ensures)

pub crossed_at_spec : {M : Type 1} → statement M
crossed_at_spec =
    tie.close
    (tie.spec
    number-at-requires
    number-at-requires-2
    byte-at-requires
    byte-at-requires-2
    crosses-requires
    returns)
