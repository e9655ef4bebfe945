-- The bytes that are left, fed from here, give the whole. Assumes nothing.
use Rattle.sheet_rules.specs.Sheet.{plan_of, kept_of, sheet_of}
use Rattle.file_journal_piece.proofs.Laws.{Going}
use Rattle.file_journal_piece.proofs.feed_bytes.Given as goal

abbrev pub invariant-loop-x : goal.invariant-loop-x
invariant-loop-x l =
    Going l.piece
    (sheet_of (plan_of l.rows l.columns l.fn.coefs l.fn.costs l.fn.lowers l.fn.uppers l.fn.lower_marks l.fn.upper_marks l.fn.rhs l.ops l.fn.amounts l.fn.mults) (kept_of l.fn.r l.fn.d l.fn.c l.fn.b l.fn.counts))
    l.fn.waiting l.fn.cells l.x-index
    (sheet_of (plan_of l.rows l.columns l.coefs l.costs l.lowers l.uppers l.lower_marks l.upper_marks l.rhs l.ops l.amounts l.mults) (kept_of l.r l.d l.c l.b l.counts))
    l.waiting l.cells
