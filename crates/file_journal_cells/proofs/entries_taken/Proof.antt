-- `file_journal_cells::entries_taken` meets its contract. Assumes nothing.
use native.Mathlib.Omega.{arith}
use Rattle.doubles.specs.Lists.{◌#◌}
use Rattle.file_journal_cells.proofs.Laws.{takes_none, takes_end, takes_all}
use borrow.Author.Rules.{rules}
use Rattle.file_journal_cells.proofs.entries_taken.Statement.{statement}
use Rattle.file_journal_cells.proofs.entries_taken.Tie as tie

returns : tie.Need-returns-then-says-ne0
returns c = let s : tie.Start = search in takes_none s.args.says _ _ c.if-says-ne0.true

shared-slice-read-if2 : tie.Need-bounds-b-0
shared-slice-read-if2 c = search rules

returns-2 : tie.Need-returns-then-b
returns-2 c = let s : tie.Start = search in takes_end s.args.says _ (s.args.b.now # 0) (omega arith) (omega arith)

shared-slice-read-size-of : tie.Need-bounds-b-3
shared-slice-read-size-of c = search rules

size-of-requires : tie.Need-size_of-requires
size-of-requires c κs = search rules

returns-3 : tie.Need-returns
returns-3 c = let s : tie.Start = search in let t : tie.Else-b = search in takes_all s.args.says _ c.size_of.result _ (omega arith) t.if-b.false c.size_of.ensures.0

pub entries_taken_spec : {M : Type 1} → statement M
entries_taken_spec =
    tie.close
    (tie.spec
    returns
    shared-slice-read-if2
    returns-2
    shared-slice-read-size-of
    size-of-requires
    returns-3)
