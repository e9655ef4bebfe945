-- What a proposal means: for its numbers, and for a sheet that is opened with them. Assumes nothing.
use Rattle.std.specs.Prelude.{◌≡◌, false, List, ℕ, ◌<◌, drop, ℤ, pos}
use Rattle.doubles.specs.Limits.{max_amount}
use Rattle.doubles.specs.Lists.{◌!◌, ◌#◌}
use Rattle.sheet_rules.specs.Sum.{◌‼◌}
use Rattle.sheet_rules.specs.Sheet.{Sheet, wrong}
use Rattle.sheet_rules.specs.Words.{Gapped}
use Rattle.sheet_rules.specs.Promises.{Judges}
use Rattle.sheet_rules.specs.Meaning.{Demand3}
use Rattle.sheet_rules.specs.declared.Verdict.TheVariants.{Gap}
use Rattle.whole_round.specs.Whole.{Rounds, Multiplies}
use Rattle.whole_round.specs.declared.Rounded.TheVariants.{Whole}
use Rattle.whole_multipliers.specs.Rows.{slack_price}
use Rattle.whole_propose.specs.Propose.{Lent, memory}

-- the arrays x and y are those of a proposal: each amount is the whole number nearest to the run's value, each
-- multiplier that nearest to minus 1024 times the price of the row's slack, or 0 where that sign would be wrong; and
-- the
-- cells past them are as they were lent
pub record FromRun (l : Lent) (x y : List ℤ) : Type 0 where
  pub amounts_are : (j : ℕ) → j < l.plan.columns → Rounds (pos max_amount) (l.values ! j) (Whole (x ‼ j))
  pub mults_are : (i : ℕ) → i < l.plan.rows
      → Multiplies (l.plan.ops # i) (slack_price l.plan (memory l) i) (Whole (y ‼ i))
  pub signs_right : (i : ℕ) → i < l.plan.rows → wrong (l.plan.ops # i) (y ‼ i) ≡ false
  pub amounts_tail : drop l.plan.columns x ≡ drop l.plan.columns l.amounts
  pub mults_tail : drop l.plan.rows y ≡ drop l.plan.rows l.mults

-- the whole way from doubles to the gap: t is a sheet that was opened with a proposal from l
pub record Audited (l : Lent) (t : Sheet) : Type 0 where
  pub from_run : FromRun l t.plan.amounts t.plan.mults
  pub demand_3 : Demand3 t
  pub gap_means : (g : ℤ) → Judges t (Gap g) → Gapped t g
