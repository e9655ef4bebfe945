-- `file_journal_bytes::check_journal_block` meets its contract: each return by its law. Assumes nothing.
use mathlib.Core.Path.{sym, ap, ◌∙◌}
use mathlib.Core.Bool.{true, false}
use Prim.Native.Nat.{ℕ}
use native.Mathlib.Omega.{arith}
use lib.ListN.{drop}
use borrow.Author.Tests.{not-true, not-false}
use Rattle.file_journal_rules.specs.File.{entries_from, all_clean}
use Rattle.file_journal_bytes.proofs.Laws.{counted, says_31, says_32, says_33, says_34, says_rest}
use borrow.Author.Rules.{rules}
use Rattle.file_journal_bytes.proofs.check_journal_block.Statement.{statement}
use Rattle.file_journal_bytes.proofs.check_journal_block.Tie as tie

shared-slice-read-is-journal-kind : tie.Need-bounds-b-0
shared-slice-read-is-journal-kind c = search rules

is-journal-kind-requires : tie.Need-is_journal_kind-requires
is-journal-kind-requires c κs = search rules

returns : tie.Need-returns-then-not-is_journal_kind
returns c = says_31 c.args.only c.args.place c.args.b.now c.requires (sym c.is_journal_kind.ensures ∙ not-true _ c.if-not-is_journal_kind.true-raw)

checks-requires : tie.Need-checks-requires
checks-requires c κs = search rules

returns-2 : tie.Need-returns-then-not-checks
returns-2 c = says_32 c.args.only c.args.place c.args.b.now c.requires (sym c.is_journal_kind.ensures ∙ not-false _ c.if-not-is_journal_kind.false-raw) (sym c.checks.ensures ∙ not-true _ c.if-not-checks.true-raw)

shared-slice-read-end : tie.Need-bounds-b-0-2
shared-slice-read-end c = search rules

shared-slice-read-end-2 : tie.Need-bounds-b-3
shared-slice-read-end-2 c = search rules

shared-slice-read-slot-used : tie.Need-bounds-b-3-2
shared-slice-read-slot-used c = search rules

slot-used-requires : tie.Need-slot_used-used-requires
slot-used-requires c κs = search rules

slot-kind-requires : tie.Need-slot_kind-requires
slot-kind-requires c κs = search rules

stands-requires : tie.Need-stands-requires
stands-requires c κs = search rules

returns-3 : tie.Need-returns-then-not-stands
returns-3 c = says_33 c.args.only c.args.place c.args.b.now c.requires c.slot_kind.result c.slot_used-used.result c.slot_kind.ensures c.slot_used-used.ensures.0 (sym c.is_journal_kind.ensures ∙ not-false _ c.if-not-is_journal_kind.false-raw) (sym c.checks.ensures ∙ not-false _ c.if-not-checks.false-raw) (sym c.stands.ensures ∙ not-true _ c.if-not-stands.true-raw)

add-is-blank : tie.Need-overflow_add-used
add-is-blank c = search rules

is-blank-requires : tie.Need-is_blank-requires
is-blank-requires c κs = search rules

returns-4 : tie.Need-returns-then-not-is_blank
returns-4 c = says_34 c.args.only c.args.place c.args.b.now c.requires c.slot_kind.result c.slot_used-used.result c.slot_kind.ensures c.slot_used-used.ensures.0 (sym c.is_journal_kind.ensures ∙ not-false _ c.if-not-is_journal_kind.false-raw) (sym c.checks.ensures ∙ not-false _ c.if-not-checks.false-raw) (sym c.stands.ensures ∙ not-false _ c.if-not-stands.false-raw) (sym c.is_blank.ensures ∙ not-true _ c.if-not-is_blank.true-raw)

shared-slice-read-size-of : tie.Need-bounds-b-3-3
shared-slice-read-size-of c = search rules

size-of-requires : tie.Need-size_of-requires
size-of-requires c κs = search rules

all-clean-requires : tie.Need-all_clean-requires
all-clean-requires c κs = (c.requires, omega (arith, c.size_of.ensures.0, counted c.args.b.now _ c.slot_used-used.result c.requires c.slot_used-used.ensures.0 (sym c.is_blank.ensures ∙ not-false _ c.if-not-is_blank.false-raw)))

returns-5 : tie.Need-returns-then-not-all_clean
returns-5 c = says_rest c.args.only c.args.place c.args.b.now c.requires c.slot_kind.result c.slot_used-used.result c.slot_kind.ensures c.slot_used-used.ensures.0 (sym c.is_journal_kind.ensures ∙ not-false _ c.if-not-is_journal_kind.false-raw) (sym c.checks.ensures ∙ not-false _ c.if-not-checks.false-raw) (sym c.stands.ensures ∙ not-false _ c.if-not-stands.false-raw) (sym c.is_blank.ensures ∙ not-false _ c.if-not-is_blank.false-raw) false (ap (λ (k : ℕ). all_clean (entries_from k (drop 4 c.args.b.now))) (sym c.size_of.ensures.0) ∙ sym c.all_clean.ensures ∙ not-true _ c.if-not-all_clean.true-raw)

returns-6 : tie.Need-returns
returns-6 c = says_rest c.args.only c.args.place c.args.b.now c.requires c.slot_kind.result c.slot_used-used.result c.slot_kind.ensures c.slot_used-used.ensures.0 (sym c.is_journal_kind.ensures ∙ not-false _ c.if-not-is_journal_kind.false-raw) (sym c.checks.ensures ∙ not-false _ c.if-not-checks.false-raw) (sym c.stands.ensures ∙ not-false _ c.if-not-stands.false-raw) (sym c.is_blank.ensures ∙ not-false _ c.if-not-is_blank.false-raw) true (ap (λ (k : ℕ). all_clean (entries_from k (drop 4 c.args.b.now))) (sym c.size_of.ensures.0) ∙ sym c.all_clean.ensures ∙ not-false _ c.if-not-all_clean.false-raw)

pub check_journal_block_spec : {M : Type 1} → statement M
check_journal_block_spec =
    tie.close
    (tie.spec
    shared-slice-read-is-journal-kind
    is-journal-kind-requires
    returns
    checks-requires
    returns-2
    shared-slice-read-end
    shared-slice-read-end-2
    shared-slice-read-slot-used
    slot-used-requires
    slot-kind-requires
    stands-requires
    returns-3
    add-is-blank
    is-blank-requires
    returns-4
    shared-slice-read-size-of
    size-of-requires
    all-clean-requires
    returns-5
    returns-6)
