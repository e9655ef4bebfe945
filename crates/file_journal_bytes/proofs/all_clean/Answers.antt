-- `file_journal_bytes::all_clean` meets its contract. Assumes nothing.
use Rattle.std.proofs.Common.{sym, ap, ◌∙◌, arith}
use Rattle.file_journal_rules.specs.File.{clean}
use Rattle.file_journal_bytes.proofs.Laws.{clean_start, clean_not, clean_so, clean_none}
use Rattle.file_journal_bytes.proofs.all_clean.Goals as goal

pub loop-k-init : goal.loop-k-init
loop-k-init c = clean_start c.args.b.now c.args.count

pub returns-then-not-is_clean : goal.returns-then-not-is_clean
returns-then-not-is_clean c = sym (clean_not c.args.b.now c.args.count c.loop-k.k (omega arith) (sym (c.is_clean.ensures ∙ ap clean c.entry_from.ensures) ∙ c.if-not-is_clean.true)) ∙ c.loop-k.invariant

pub loop-k-preserved : goal.loop-k-preserved
loop-k-preserved c = sym (clean_so c.args.b.now c.args.count c.loop-k.k (omega arith) (sym (c.is_clean.ensures ∙ ap clean c.entry_from.ensures) ∙ c.if-not-is_clean.false)) ∙ c.loop-k.invariant

pub returns : goal.returns
returns c = sym (clean_none c.args.b.now c.args.count c.loop-k.k (omega arith)) ∙ c.loop-k.invariant
