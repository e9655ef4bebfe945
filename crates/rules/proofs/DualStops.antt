-- 02, Ask 8: when a dual step isn't taken: a number that isn't finite, no entering column, or no pivot for the new basis'
-- factor, each exactly when its condition holds; and when it is. Assumes nothing.
use mathlib.Core.Path.{◌≡◌, refl, ap, ◌∙◌}
use mathlib.Core.Bool.{Bool, true, false}
use mathlib.Core.Logic.Iff
use mathlib.Core.Logic.{◌↔◌, ◌⊎◌, inl, inr, ⊎_elim}
use Prim.Native.Nat.{ℕ}
use lib.Ieee.{Float}
use Rattle.sparse.specs.Scattered.{listed_finite}
use Rattle.rules.specs.Plan.{Problem, State}
use Rattle.rules.specs.DualRatio.{dual_ratio_by}
use Rattle.rules.specs.DualChoices.{DualGivesBy}
use Rattle.rules.specs.Step.{Outcome, moved, stopped, pivot, dual_pivot, dual_step_by, dual_step}
use Rattle.rules.specs.Conditions.{EntryBroken, StepBroken, StepSingular, StoresTo, step_column, dual_row, dual_info, DualChosen, DualStopsBy, DualMovesBy, DualStopsWith, DualMoves}
use Rattle.rules.specs.declared.NonBasicVarState.{NonBasicVarState}
use Rattle.rules.specs.declared.Entering.{Entering}
use Rattle.rules.specs.declared.LeavingVar.{LeavingVar}
use Rattle.rules.specs.declared.DualRatio.{DualRatio}
use Rattle.rules.specs.declared.DualRatio.TheVariants.{Exchange, Nothing, NotFinite}
use Rattle.rules.specs.declared.PivotInfo.{PivotInfo}
use Rattle.rules.specs.declared.Stop.{Stop}
use Rattle.rules.specs.declared.Stop.TheVariants.{Finished, Spent as Stop-as-Spent, Unbounded as Stop-as-Unbounded, NotFinite as Stop-as-NotFinite, Singular as Stop-as-Singular, Infeasible as Stop-as-Infeasible}
use Rattle.rules.proofs.DualColumn.{ratio_exactly, dual_ratio_exactly}
use Rattle.rules.proofs.Stops.{clash, entries, also, past, nor, pivot_broken, pivot_singular, pivot_other, pivot_moves}

module _ (P : Problem) (s : State) (l : LeavingVar) where
  -- ---- the exchange that the ratio gives: its column, then as a primal one
  abbrev Broken : Entering → PivotInfo → Type 0
  Broken e i = EntryBroken (step_column P s e) ⊎ StepBroken P s e (step_column P s e) i

  abbrev Singular : Entering → PivotInfo → Type 0
  Singular e i = (¬ EntryBroken (step_column P s e)) × StepSingular P s e (step_column P s e) i

  abbrev Taken : PivotInfo → State → Entering → PivotInfo → Type 0
  Taken i t e j = (¬ EntryBroken (step_column P s e)) × ((¬ StepBroken P s e (step_column P s e) j)
      × ((i ≡ j) × StoresTo P s e (step_column P s e) j t))

  module _ (e : Entering) (value diff coeff : Float) where
    exchange_broken : (dual_pivot P s l e value diff coeff ≡ stopped Stop-as-NotFinite) ↔ Broken e (dual_info P s l value diff coeff)
    unfolding dual_pivot pivot
    exchange_broken = also (entries _) (pivot_broken P s e (step_column P s e) (dual_info P s l value diff coeff))

    exchange_singular : (dual_pivot P s l e value diff coeff ≡ stopped Stop-as-Singular) ↔ Singular e (dual_info P s l value diff coeff)
    unfolding dual_pivot pivot
    exchange_singular =
        past (entries _) (λ q. clash (cc)) (pivot_singular P s e (step_column P s e) (dual_info P s l value diff coeff))

    exchange_other : {w : Stop} → ¬ (stopped Stop-as-NotFinite ≡ stopped w) → ¬ (stopped Stop-as-Singular ≡ stopped w)
        → ¬ (dual_pivot P s l e value diff coeff ≡ stopped w)
    unfolding dual_pivot pivot
    exchange_other a b = nor (entries _) a (pivot_other P s e (step_column P s e) (dual_info P s l value diff coeff) a b)

    exchange_moves : (i : PivotInfo) (t : State)
        → (dual_pivot P s l e value diff coeff ≡ moved i t) ↔ Taken i t e (dual_info P s l value diff coeff)
    unfolding dual_pivot pivot
    exchange_moves i t =
        Iff.trans (past (entries _) (λ q. clash (cc)) (pivot_moves P s e (step_column P s e) i t (dual_info P s l value diff coeff)))
        ((λ x. (x.0, (x.1.0, (cc x.1.1.0, x.1.1.1)))), (λ x. (x.0, (x.1.0, (cc x.1.1.0, x.1.1.1)))))

-- ---- after the ratio on prices over the columns that a test lets in
module _ (test : NonBasicVarState → Float → Bool) (P : Problem) (s : State) (l : LeavingVar) {Gives : DualRatio → Type 0}
    (gives : (x : DualRatio) → (dual_ratio_by test s.ws l (dual_row P s l) ≡ x) ↔ Gives x) where
  abbrev given : DualRatio
  given = dual_ratio_by test s.ws l (dual_row P s l)

  abbrev after : DualRatio → Outcome
  after x = elim x [
    | NotFinite ↦ stopped Stop-as-NotFinite
    | Nothing ↦ stopped (Stop-as-Infeasible l.row)
    | Exchange e value diff coeff ↦ dual_pivot P s l e value diff coeff
  ]

  module _ (X : Entering → PivotInfo → Type 0) {y : Outcome}
      (each : (e : Entering) (value diff coeff : Float) → (dual_pivot P s l e value diff coeff ≡ y) ↔ X e (dual_info P s l value diff coeff)) where
    by_chosen : DualChosen P s l Gives X → after given ≡ y
    by_chosen h = ap after ((gives _).1 h.1.3) ∙ (each h.0 h.1.0 h.1.1 h.1.2).1 h.1.4

    -- any outcome but the ratio's own 23 and 26 is the exchange's
    chosen : ¬ (stopped Stop-as-NotFinite ≡ y) → ¬ (stopped (Stop-as-Infeasible l.row) ≡ y) → (after given ≡ y) ↔ DualChosen P s l Gives X
    chosen a b = (go given refl, by_chosen)
      where
        go : (x : DualRatio) → given ≡ x → after x ≡ y → DualChosen P s l Gives X
        go NotFinite q z = absurd (a z)
        go Nothing q z = absurd (b z)
        go (Exchange e value diff coeff) q z = (e, (value, diff, coeff, (gives _).0 q, (each e value diff coeff).0 z))

  after_broken : (after given ≡ stopped Stop-as-NotFinite)
      ↔ (Gives NotFinite ⊎ DualChosen P s l Gives (Broken P s l))
  after_broken = (go given refl, ⊎_elim (λ g. ap after ((gives _).1 g)) (by_chosen (Broken P s l) (exchange_broken P s l)))
    where
      go : (x : DualRatio) → given ≡ x → after x ≡ stopped Stop-as-NotFinite
          → Gives NotFinite ⊎ DualChosen P s l Gives (Broken P s l)
      go NotFinite q z = inl ((gives _).0 q)
      go Nothing q z = clash (cc)
      go (Exchange e value diff coeff) q z =
          inr (e, (value, diff, coeff, (gives _).0 q, (exchange_broken P s l e value diff coeff).0 z))

  after_nothing : (r : ℕ) → (after given ≡ stopped (Stop-as-Infeasible r))
      ↔ ((r ≡ l.row) × Gives Nothing)
  after_nothing r = (go given refl, λ h. ap after ((gives _).1 h.1) ∙ ap (λ (k : ℕ). stopped (Stop-as-Infeasible k)) (cc h.0))
    where
      go : (x : DualRatio) → given ≡ x → after x ≡ stopped (Stop-as-Infeasible r)
          → (r ≡ l.row) × Gives Nothing
      go NotFinite q z = clash (cc)
      go Nothing q z = (cc, (gives _).0 q)
      go (Exchange e value diff coeff) q z =
          absurd (exchange_other P s l e value diff coeff (λ q. clash (cc)) (λ q. clash (cc)) z)

  -- ---- with the row before it
  row_broken : (listed_finite (dual_row P s l) ≡ false) ↔ EntryBroken (dual_row P s l)
  row_broken = entries (dual_row P s l)

  never_ends : (w : Stop) → ¬ (stopped Stop-as-NotFinite ≡ stopped w) → ¬ (stopped Stop-as-Singular ≡ stopped w)
      → ¬ (stopped (Stop-as-Infeasible l.row) ≡ stopped w) → ¬ (dual_step_by test P s l ≡ stopped w)
  unfolding dual_step_by
  never_ends w a b d =
      nor row_broken a (λ z. ((chosen (λ _ _. ⊥) (λ e v x c. (exchange_other P s l e v x c a b, λ h. absurd h)) a d).0 z).1.4)

  -- 23, 25 and 26 are given exactly when the order of a dual step comes to them
  pub stops_by : (w : Stop) → (dual_step_by test P s l ≡ stopped w) ↔ DualStopsBy P s l Gives w
  unfolding dual_step_by DualStopsBy
  stops_by Finished = (never_ends Finished (λ q. clash (cc)) (λ q. clash (cc)) (λ q. clash (cc)), λ h. absurd h)
  stops_by Stop-as-Spent = (never_ends Stop-as-Spent (λ q. clash (cc)) (λ q. clash (cc)) (λ q. clash (cc)), λ h. absurd h)
  stops_by Stop-as-Unbounded =
      (never_ends Stop-as-Unbounded (λ q. clash (cc)) (λ q. clash (cc)) (λ q. clash (cc)), λ h. absurd h)
  stops_by Stop-as-NotFinite = also row_broken after_broken
  stops_by Stop-as-Singular = past row_broken (λ q. clash (cc)) (chosen (Singular P s l) (exchange_singular P s l) (λ q. clash (cc)) (λ q. clash (cc)))
  stops_by (Stop-as-Infeasible r) =
      Iff.trans (past row_broken (λ q. clash (cc)) (after_nothing r))
      ((λ x. (x.0, x.1.0, x.1.1)), (λ x. (x.0, (x.1, x.2))))

  -- and the step is taken exactly when nothing stops it
  pub moves_by : (i : PivotInfo) (t : State) → (dual_step_by test P s l ≡ moved i t) ↔ DualMovesBy P s l Gives i t
  unfolding dual_step_by
  moves_by i t =
      Iff.trans
      (past row_broken (λ q. clash (cc))
      (chosen (Taken P s l i t) (λ e value diff coeff. exchange_moves P s l e value diff coeff i t) (λ q. clash (cc)) (λ q. clash (cc))))
      ((λ x. record { row = x.0; chosen = x.1 }), (λ x. (x.row, x.chosen)))

-- ---- with a dual step's test
module _ (P : Problem) (s : State) (l : LeavingVar) where
  pub dual_stops_exactly : (w : Stop) → (dual_step P s l ≡ stopped w) ↔ DualStopsWith P s l w
  dual_stops_exactly = stops_by _ P s l (dual_ratio_exactly s.ws l (dual_row P s l))

  pub dual_moves_exactly : (i : PivotInfo) (t : State) → (dual_step P s l ≡ moved i t) ↔ DualMoves P s l i t
  dual_moves_exactly = moves_by _ P s l (dual_ratio_exactly s.ws l (dual_row P s l))

-- a step with any test, by the test itself
pub any_moves : (test : NonBasicVarState → Float → Bool) (P : Problem) (s : State) (l : LeavingVar) (i : PivotInfo) (t : State)
    → dual_step_by test P s l ≡ moved i t
    → DualMovesBy P s l (DualGivesBy s.ws l (dual_row P s l) test (λ f a. test f a ≡ true)) i t
any_moves test P s l i t q =
    (moves_by test P s l (ratio_exactly s.ws l (dual_row P s l) {test = test} {Says = λ f a. test f a ≡ true} (λ f a. (λ h. h, λ h. h))) i t).0 q
