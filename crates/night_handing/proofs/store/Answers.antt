-- `night_handing::store` meets its contract: by the audit. Assumes nothing.
use Rattle.std.proofs.Common.{sym, ◌∙◌}
use Rattle.night_handing.proofs.Laws.{stores, stays}
use Rattle.night_handing.proofs.store.Goals as goal

pub returns-then-is_judged : goal.returns-then-is_judged
returns-then-is_judged c = c.put.ensures ∙ sym (stores _ _ _ (sym c.is_judged.ensures ∙ c.if-is_judged.true))

pub returns-else-is_judged : goal.returns-else-is_judged
returns-else-is_judged c = sym (stays _ _ _ (sym c.is_judged.ensures ∙ c.if-is_judged.false))
