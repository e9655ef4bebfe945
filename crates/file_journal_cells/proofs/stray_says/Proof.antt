-- `file_journal_cells::stray_says` meets its contract. Assumes nothing.
use mathlib.Core.Path.{sym, ◌∙◌}
use borrow.Author.Tests.{not-true, not-false}
use Rattle.file_journal_cells.proofs.Laws.{stray_31, stray_32, stray_33}
use borrow.Author.Rules.{rules}
use Rattle.file_journal_cells.proofs.stray_says.Statement.{statement}
use Rattle.file_journal_cells.proofs.stray_says.Tie as tie

shared-slice-read-is-journal-kind : tie.Need-bounds-b-0
shared-slice-read-is-journal-kind c = search rules

is-journal-kind-requires : tie.Need-is_journal_kind-requires
is-journal-kind-requires c κs = search rules

returns : tie.Need-returns-then-not-is_journal_kind
returns c = let s : tie.Start = search in stray_31 s.args.b.now s.requires (sym c.is_journal_kind.ensures ∙ not-true _ c.if-not-is_journal_kind.true-raw)

checks-requires : tie.Need-checks-requires
checks-requires c κs = search rules

returns-2 : tie.Need-returns-then-not-checks
returns-2 c = let s : tie.Start = search in let k : tie.After-is_journal_kind = search in stray_32 s.args.b.now s.requires (sym k.is_journal_kind.ensures ∙ not-false _ c.if-not-is_journal_kind.false-raw) (sym c.checks.ensures ∙ not-true _ c.if-not-checks.true-raw)

returns-3 : tie.Need-returns
returns-3 c = let s : tie.Start = search in let k : tie.After-is_journal_kind = search in stray_33 s.args.b.now s.requires (sym k.is_journal_kind.ensures ∙ not-false _ c.if-not-is_journal_kind.false-raw) (sym c.checks.ensures ∙ not-false _ c.if-not-checks.false-raw)

pub stray_says_spec : {M : Type 1} → statement M
stray_says_spec =
    tie.close
    (tie.spec
    shared-slice-read-is-journal-kind
    is-journal-kind-requires
    returns
    checks-requires
    returns-2
    returns-3)
