-- The words of each answer. Assumes nothing.
use Rattle.std.specs.Prelude.{◌≡◌, true, ℕ, ◌<◌, ◌≤◌, length}
use Rattle.doubles.specs.Lists.{◌!◌}
use Rattle.rules.specs.Plan.{problem_of}
use Rattle.whole_round.specs.Whole.{amount_of, is_whole}
use Rattle.state_maps.specs.Maps.{Kept, Broken}
use Rattle.whole_multipliers.specs.Rows.{multiplier_at, Long}
use Rattle.whole_propose.specs.Propose.{Lent, memory, status_of}
use Rattle.whole_propose.specs.declared.Proposal.{Proposal}
use Rattle.whole_propose.specs.declared.Proposal.TheVariants.{Proposed, Nothing, Refused, AmountNotWhole}
use Rattle.whole_propose.specs.declared.Proposal.TheVariants.{MultiplierNotWhole}

-- no size is over its limit, no lent array too short
pub record Enough (l : Lent) : Type 0 where
  pub long : Long l.plan.columns l.plan.rows l.plan.starts l.plan.ops l.numbers l.doubles
  pub values_long : l.plan.columns ≤ length l.values
  pub amounts_long : l.plan.columns ≤ length l.amounts
  pub mults_long : l.plan.rows ≤ length l.mults

-- a run of status 0, whose rows are the plan's and whose maps are each other's inverse
pub record Readable (l : Lent) : Type 0 where
  pub enough : Enough l
  pub status : status_of (memory l) ≡ 0
  pub kept : Kept l.plan (memory l)

module _ (l : Lent) where
  abbrev pub WholeAmount : ℕ → Type 0
  WholeAmount j = is_whole (amount_of (l.values ! j)) ≡ true

  abbrev pub WholeMultiplier : ℕ → Type 0
  WholeMultiplier i = is_whole (multiplier_at l.plan (memory l) i) ≡ true

  -- index k is the first of n without the property
  abbrev pub FirstWithout : ℕ → (ℕ → Type 0) → ℕ → Type 0
  FirstWithout n Q k = (k < n) × (¬ Q k) × ((u : ℕ) → u < k → Q u)

  -- every index below n has it
  abbrev pub Each : ℕ → (ℕ → Type 0) → Type 0
  Each n Q = (u : ℕ) → u < n → Q u

pub data Says (l : Lent) : Proposal → Type 0 where
  size : ¬ Enough l → Says l (Refused 1)
  no_run : Enough l → ¬ (status_of (memory l) ≡ 0) → Says l Nothing
  broken : Enough l → status_of (memory l) ≡ 0 → Broken (problem_of l.plan) (memory l) → Says l (Refused 41)
  amount : Readable l → (j : ℕ) → FirstWithout l l.plan.columns (WholeAmount l) j
      → Says l (AmountNotWhole j (amount_of (l.values ! j)))
  multiplier : Readable l → Each l l.plan.columns (WholeAmount l) → (i : ℕ)
      → FirstWithout l l.plan.rows (WholeMultiplier l) i
      → Says l (MultiplierNotWhole i (multiplier_at l.plan (memory l) i))
  proposed : Readable l → Each l l.plan.columns (WholeAmount l) → Each l l.plan.rows (WholeMultiplier l)
      → Says l Proposed
