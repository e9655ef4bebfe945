-- 01's conditions as statements, apart from the tests that pick: what each answer of the table says. proofs/ shows that each is given exactly then. Assumes nothing.
use Rattle.std.specs.Prelude.{◌≡◌, true, false, ◌⊎◌, List, ℕ, zero, suc, ◌+◌, ◌-◌, ◌^◌, ◌<◌, ◌≤◌, length, take, Float, Some as One, None}
use Rattle.std.specs.Float.Ieee.{lt, le, is_nan}
use Rattle.doubles.specs.Num.{f0, f1, +inf, -inf, finite, infinite, size, ◌⊕◌, ◌⊖◌}
use Rattle.doubles.specs.Limits.{max_columns, max_rows, max_entries, max_budget, eta_columns, eta_entries, count_cells}
use Rattle.doubles.specs.Lists.{◌!◌, ◌#◌}
use Rattle.doubles.specs.Words.{Above}
use Rattle.lu_factor_rules.specs.Factor.{Partial, Factor, factored, factorize}
use Rattle.lu_factor_rules.specs.Ends.{Wild as WildColumn, Flat, Some as SomeColumn}
use Rattle.lu_factor_rules.specs.Packed.{all_factor_numbers, all_factor_coeffs}
use Rattle.rules.specs.Plan.{Plan, Memory, Workspace, State, Problem, problem_of, n_of, m_of, row_cols, row_sum, slack_min, slack_max, var_min, var_max}
use Rattle.rules.specs.Refusals.{zero_holds}
use Rattle.sparse.specs.Scattered.{Sv, listed, listed_val, sq_norm}
use Rattle.rules.specs.Start.{start_vals, start_slack, start_objective, start_norm, dual_feasible}
use Rattle.rules.specs.Choose.{choose}
use Rattle.rules.specs.Basis.{column_coeffs, row_coeffs_of, helper_of, inv_row, tau_of, touch_at, eta_used, eta_entry_at, basis_after}
use Rattle.rules.specs.Choices.{RatioGives}
use Rattle.rules.specs.DualRow.{choose_row}
use Rattle.rules.specs.DualRatio.{leaving_rises}
use Rattle.rules.specs.DualChoices.{NoColumn, DualGives}
use Rattle.rules.specs.Pivot.{stored, new_objective, moved_val, flipped, new_val, new_price, new_norm, new_dual_norm, exchanged, refactored}
use Rattle.rules.specs.Step.{state_with_dual_norms}
use Rattle.rules.specs.FinalCheck.{values_of, counted, places_of}
use Rattle.rules.specs.Answers.{Row as Told, row, Place, nowhere, entry_at, column_at, row_at, value_at, kept_row_at, as_row}
use Rattle.rules.specs.Solve.{Solved, end_of}
use Rattle.rules.specs.Kinds.{Kind, dual, primal}
use Rattle.rules.specs.declared.Entering.{Entering}
use Rattle.rules.specs.declared.LeavingVar.{LeavingVar}
use Rattle.rules.specs.declared.DualRatio.{DualRatio}
use Rattle.rules.specs.declared.DualRatio.TheVariants.{Exchange as Dual-as-Exchange, Nothing as Dual-as-Nothing, NotFinite as Dual-as-NotFinite}
use Rattle.rules.specs.declared.PivotInfo.{PivotInfo}
use Rattle.rules.specs.declared.PivotInfo.TheVariants.{Flip, Exchange}
use Rattle.rules.specs.declared.Ratio.TheVariants.{Pivot, Unbounded as Ratio-as-Unbounded, NotFinite as Ratio-as-NotFinite}
use Rattle.rules.specs.declared.Stop.{Stop}
use Rattle.rules.specs.declared.Stop.TheVariants.{Finished, Spent as Stop-as-Spent, Unbounded as Stop-as-Unbounded, NotFinite as Stop-as-NotFinite, Singular as Stop-as-Singular, Infeasible as Stop-as-Infeasible}
use Rattle.rules.specs.declared.Checked.{Checked}
use Rattle.rules.specs.declared.Checked.TheVariants.{Passed, Value, Row}

-- ---- some index below n, every one, and the first with or without a property
abbrev pub Some : ℕ → (ℕ → Type 0) → Type 0
Some n Q = (k : ℕ) × (k < n) × Q k

abbrev pub Every : ℕ → (ℕ → Type 0) → Type 0
Every n Q = (k : ℕ) → k < n → Q k

abbrev pub FirstWith : ℕ → (ℕ → Type 0) → ℕ → Type 0
FirstWith n Q k = (k < n) × Q k × ((j : ℕ) → j < k → ¬ Q j)

abbrev pub FirstWithout : ℕ → (ℕ → Type 0) → ℕ → Type 0
FirstWithout n Q k = (k < n) × (¬ Q k) × ((j : ℕ) → j < k → Q j)

-- ---- 1: "a size or the budget passes its limit"
unfoldable pub SizeOver : Plan → Type 0
SizeOver p = (max_columns < p.columns) ⊎ (max_rows < p.rows) ⊎ (max_entries < p.entries) ⊎ (max_budget < p.budget)

-- "a lent array is too short": of the plan, and of what is written, "the full stated store" included
abbrev pub Short : {A : Type 0} → List A → ℕ → Type 0
Short l n = length l < n

unfoldable pub PlanShort : Plan → Type 0
PlanShort p =
    Short p.costs p.columns
    ⊎ Short p.lowers p.columns
    ⊎ Short p.uppers p.columns
    ⊎ Short p.starts (p.rows + 1)
    ⊎ Short p.cols p.entries
    ⊎ Short p.coeffs p.entries
    ⊎ Short p.ops p.rows
    ⊎ Short p.rhs p.rows

unfoldable pub WorkspaceShort : ℕ → ℕ → Workspace → Type 0
WorkspaceShort n m w =
    Short w.basic_vars m
    ⊎ Short w.basic_var_vals m
    ⊎ Short w.nb_vars n
    ⊎ Short w.nb_var_vals n
    ⊎ Short w.prices n
    ⊎ Short w.norms n
    ⊎ Short w.dual_norms m
    ⊎ Short w.flags n
    ⊎ Short w.var_states (n + m)
    ⊎ Short w.etas.leaving eta_columns
    ⊎ Short w.etas.starts (eta_columns + 1)
    ⊎ Short w.etas.rows eta_entries
    ⊎ Short w.etas.coeffs eta_entries

unfoldable pub MemoryShort : Plan → Memory → Type 0
MemoryShort p m =
    Short m.values (p.columns + p.rows)
    ⊎ Short m.kept p.rows
    ⊎ WorkspaceShort p.columns p.rows m.ws
    ⊎ Short m.counts count_cells
    ⊎ Short m.objective 1
    ⊎ Short m.all_factor_numbers all_factor_numbers
    ⊎ Short m.all_factor_coeffs all_factor_coeffs

-- "the row starts don't begin at 0, fall, or don't end at the entry count"
unfoldable pub StartsBad : Plan → Type 0
StartsBad p = (¬ (p.starts # 0 ≡ 0)) ⊎ Some p.rows (λ r. p.starts # (r + 1) < p.starts # r) ⊎ (¬ (p.starts # p.rows ≡ p.entries))

unfoldable pub Gives1 : Plan → Memory → Type 0
Gives1 p m = SizeOver p ⊎ PlanShort p ⊎ MemoryShort p m ⊎ StartsBad p

-- ---- 2: "NaN anywhere in the plan; an infinite cost, coefficient or right side; lower bound +inf, upper -inf;
-- tolerance outside 0 to 1; a comparison above 2". 02: "every finite cost, coefficient, right side or bound whose size
-- is above 1e12"
abbrev pub Wild : Float → Type 0
Wild x = Above (10 ^ 12) x

abbrev pub NumberOff : Float → Type 0
NumberOff x = (is_nan x ≡ true) ⊎ (infinite x ≡ true) ⊎ Wild x

-- 02: "Infinite bounds stay allowed": not the one on the other side, +inf of a lower bound and -inf of an upper one
abbrev pub BoundOff : Float → Float → Type 0
BoundOff other x = (is_nan x ≡ true) ⊎ (x ≡ other) ⊎ Wild x

unfoldable pub Gives2 : Plan → Type 0
Gives2 p =
    Some p.columns (λ j. NumberOff (p.costs ! j))
    ⊎ Some p.columns (λ j. BoundOff +inf (p.lowers ! j))
    ⊎ Some p.columns (λ j. BoundOff -inf (p.uppers ! j))
    ⊎ Some p.entries (λ k. NumberOff (p.coeffs ! k))
    ⊎ Some p.rows (λ i. 2 < p.ops # i)
    ⊎ Some p.rows (λ i. NumberOff (p.rhs ! i))
    ⊎ (le f0 p.tolerance ≡ false)
    ⊎ (le p.tolerance f1 ≡ false)

-- ---- 3: "a column number is too large or doesn't rise": at place k of row i, counted within the row
unfoldable pub Bad : Plan → ℕ → ℕ → Type 0
Bad p i k = (p.columns ≤ row_cols p i # k) ⊎ ((0 < k) × (row_cols p i # k ≤ row_cols p i # (k - 1)))

abbrev pub BadRow : Plan → ℕ → Type 0
BadRow p i = Some (length (row_cols p i)) (Bad p i)

-- ---- 4: "lower > upper"
unfoldable pub Crossed : Plan → ℕ → Type 0
Crossed p j = lt (p.uppers ! j) (p.lowers ! j) ≡ true

-- ---- 5: "an empty row whose 0 op rhs is false"
unfoldable pub EmptyFalse : Plan → ℕ → Type 0
EmptyFalse p i = (p.starts # i ≡ p.starts # (i + 1)) × (zero_holds (p.ops # i) (p.rhs ! i) ≡ false)

-- ---- 6: "a start value, objective sum or start norm isn't finite"
abbrev pub NotFinite : Float → Type 0
NotFinite x = finite x ≡ false

unfoldable pub Gives6 : Problem → Type 0
Gives6 P =
    Some (n_of P) (λ j. NotFinite (start_vals P.plan ! j))
    ⊎ Some (m_of P) (λ r. NotFinite (start_slack P (start_vals P.plan) r))
    ⊎ NotFinite (start_objective P.plan (start_vals P.plan))
    ⊎ Some (n_of P) (λ j. NotFinite (start_norm P j))

-- ---- 7: "a slack starts outside its bounds, no tolerance": it isn't at least the lower, or isn't at most the upper. 02,
-- Ask 8: "exactly when a slack is outside and the start isn't dual feasible"
unfoldable pub Outside : Problem → ℕ → Type 0
Outside P r =
    (le (slack_min (P.plan.ops # (P.kept # r))) (start_slack P (start_vals P.plan) r) ≡ false)
    ⊎ (le (start_slack P (start_vals P.plan) r) (slack_max (P.plan.ops # (P.kept # r))) ≡ false)

-- ---- the table: when refusal k is called for
unfoldable pub Gives : ℕ → Plan → Memory → Type 0
Gives zero p m = ⊥
Gives (suc zero) p m = Gives1 p m
Gives (suc (suc zero)) p m = Gives2 p
Gives (suc (suc (suc zero))) p m = Some p.rows (BadRow p)
Gives (suc (suc (suc (suc zero)))) p m = Some p.columns (Crossed p)
Gives (suc (suc (suc (suc (suc zero))))) p m = Some p.rows (EmptyFalse p)
Gives (suc (suc (suc (suc (suc (suc zero)))))) p m = Gives6 (problem_of p)
Gives (suc (suc (suc (suc (suc (suc (suc zero))))))) p m = Some (m_of (problem_of p)) (Outside (problem_of p)) × (dual_feasible p ≡ false)
Gives (suc (suc (suc (suc (suc (suc (suc (suc k)))))))) p m = ⊥

-- no refusal below k is called for
abbrev pub NoneBelow : ℕ → Plan → Memory → Type 0
NoneBelow k p m = (j : ℕ) → j < k → ¬ Gives j p m

-- "the first bad entry, row by row": no earlier row has one, and no earlier place of its row is one
abbrev pub FirstBad : Plan → ℕ → ℕ → Type 0
FirstBad p i k = FirstWith p.rows (BadRow p) i × FirstWith (length (row_cols p i)) (Bad p i) k

-- the place that refusal k names: "the first bad entry, row by row, is the one named, by row and place", "the first
-- such column", "the first such row", and none for the others
unfoldable pub Names : ℕ → Plan → Place → Type 0
Names zero p l = l ≡ nowhere
Names (suc zero) p l = l ≡ nowhere
Names (suc (suc zero)) p l = l ≡ nowhere
Names (suc (suc (suc zero))) p l = (i k : ℕ) × (l ≡ entry_at i k) × FirstBad p i k
Names (suc (suc (suc (suc zero)))) p l = (j : ℕ) × (l ≡ column_at j) × FirstWith p.columns (Crossed p) j
Names (suc (suc (suc (suc (suc zero))))) p l = (i : ℕ) × (l ≡ row_at i) × FirstWith p.rows (EmptyFalse p) i
Names (suc (suc (suc (suc (suc (suc k)))))) p l = l ≡ nowhere

-- "1 to 7 are refusals: all lent memory stays, objective 0.0, 0 steps"
pub record Refusal (k : ℕ) (p : Plan) (m : Memory) (r : Solved) : Type 0 where
  pub number : (as_row r.answer).number ≡ k
  pub objective : (as_row r.answer).objective ≡ f0
  pub steps : (as_row r.answer).steps ≡ 0
  pub excess : (as_row r.answer).excess ≡ f0
  pub place : Names k p (as_row r.answer).place
  pub memory : r.memory ≡ m

-- ---- the final check, its places in order: the values, columns before slacks, then the kept rows

-- 02's excesses at a place: "An infinite bound gives no excess; a value that isn't finite … counts as +inf"
pub data Excess (P : Problem) (xs : List Float) : ℕ → Float → Type 0 where
  not_finite : (v : ℕ) → v < n_of P + m_of P → NotFinite (xs ! v) → Excess P xs v +inf
  below : (v : ℕ) → v < n_of P + m_of P → finite (xs ! v) ≡ true → finite (var_min P v) ≡ true → Excess P xs v (counted (var_min P v ⊖ xs ! v))
  above : (v : ℕ) → v < n_of P + m_of P → finite (xs ! v) ≡ true → finite (var_max P v) ≡ true → Excess P xs v (counted (xs ! v ⊖ var_max P v))
  residual : (r : ℕ) → r < m_of P
      → Excess P xs (n_of P + m_of P + r) (counted (size (P.plan.rhs ! (P.kept # r) ⊖ (row_sum P.plan (P.kept # r) xs ⊕ xs ! (n_of P + r)))))

-- 02: "the largest excess over all bounds and rows, with its place, first on a tie": it is one of them, at least every one,
-- and none before its place is as large
pub record LargestExcess (P : Problem) (xs : List Float) (k : ℕ) (x : Float) : Type 0 where
  pub exceeds : lt f0 x ≡ true
  pub one_of : Excess P xs k x
  pub at_least_holds : (j : ℕ) (y : Float) → Excess P xs j y → le y x ≡ true
  pub first : (j : ℕ) (y : Float) → j < k → Excess P xs j y → le x y ≡ false

-- 02: "and 0.0 when nothing exceeds 0"
abbrev pub NothingExceeds : Problem → List Float → Type 0
NothingExceeds P xs = (j : ℕ) (y : Float) → Excess P xs j y → lt f0 y ≡ false

pub data IsWorst (P : Problem) (xs : List Float) : ℕ → Float → Type 0 where
  nothing : NothingExceeds P xs → IsWorst P xs (places_of P) f0
  largest : (k : ℕ) (x : Float) → LargestExcess P xs k x → IsWorst P xs k x

-- 02: "Acceptance is excess <= tol"; a rejection names the place of the largest excess
unfoldable pub Checks : Problem → List Float → Checked → Type 0
Checks P xs (Passed x) = (k : ℕ) × IsWorst P xs k x × (le x P.plan.tolerance ≡ true)
Checks P xs (Value v x) = (v < n_of P + m_of P) × LargestExcess P xs v x × (le x P.plan.tolerance ≡ false)
Checks P xs (Row r x) = (r < m_of P) × LargestExcess P xs (n_of P + m_of P + r) x × (le x P.plan.tolerance ≡ false)

-- what that comes to: every value finite and, by its own excess, within tol of each finite bound
pub record ValueSound (P : Problem) (xs : List Float) (v : ℕ) : Type 0 where
  pub is_finite : finite (xs ! v) ≡ true
  pub at_least_holds : finite (var_min P v) ≡ true → le (var_min P v ⊖ xs ! v) P.plan.tolerance ≡ true
  pub at_most : finite (var_max P v) ≡ true → le (xs ! v ⊖ var_max P v) P.plan.tolerance ≡ true

-- and 01: "row by row, the size of rhs - (row sum + slack) at most tol"
pub record RowSound (P : Problem) (xs : List Float) (r : ℕ) : Type 0 where
  pub within : le (size (P.plan.rhs ! (P.kept # r) ⊖ (row_sum P.plan (P.kept # r) xs ⊕ xs ! (n_of P + r)))) P.plan.tolerance ≡ true

abbrev pub AllSound : Problem → List Float → Type 0
AllSound P xs = Every (n_of P + m_of P) (ValueSound P xs) × Every (m_of P) (RowSound P xs)

-- ---- a step, said of the state, the entering column and its solved column c

-- a listed entry isn't finite
abbrev pub EntryBroken : Sv → Type 0
EntryBroken c = Some c.pat.count (λ k. NotFinite (listed_val c k))

-- a number that f gives for a listed place isn't finite
abbrev pub StoreBroken : Sv → (ℕ → Float) → Type 0
StoreBroken c f = Some c.pat.count (λ k. NotFinite (f (listed c k)))

-- an eta column of k entries doesn't fit the room left
unfoldable pub Crowded : State → ℕ → Type 0
Crowded s k = (eta_columns ≤ s.eta_count) ⊎ (eta_entries < eta_used s + k)

module _ (P : Problem) (s : State) (e : Entering) (c : Sv) where
  -- every number that a flip stores
  unfoldable pub FlipBroken : Float → Float → Type 0
  FlipBroken value diff = NotFinite (new_objective s e diff) ⊎ NotFinite value ⊎ StoreBroken c (moved_val s.ws c diff)

  -- an exchange, by its numbers; c is touched at the leaving row already
  module _ (value diff : Float) (row : ℕ) (pivot leaving : Float) where
    abbrev exchange_row : Sv
    exchange_row = touch_at (row_coeffs_of P s row) e.col

    -- 02, Ask 8: "every exchange of either kind updates both kinds of norm, and 23 covers both"
    abbrev exchange_tau : Sv
    exchange_tau = tau_of P s (inv_row P s row)

    abbrev exchange_dual_norm : ℕ → Float
    exchange_dual_norm = new_dual_norm s.ws c row pivot (sq_norm (inv_row P s row)) exchange_tau

    unfoldable pub NormsBroken : Type 0
    NormsBroken = EntryBroken exchange_tau ⊎ StoreBroken c exchange_dual_norm

    -- row and helper entries, as `exchange` of Step reads them, and every number that it stores but for the dual norms and
    -- those below
    unfoldable pub ExchangeBroken : Type 0
    ExchangeBroken =
        EntryBroken exchange_row
        ⊎ EntryBroken (helper_of P s c)
        ⊎ NotFinite (new_objective s e diff)
        ⊎ StoreBroken c (new_val s.ws c value diff row)
        ⊎ NotFinite leaving
        ⊎ StoreBroken exchange_row (new_price s.ws e pivot exchange_row)
        ⊎ StoreBroken exchange_row (new_norm s.ws e c pivot exchange_row (helper_of P s c))

    -- the eta column, where it fits
    unfoldable pub EtaBroken : Type 0
    EtaBroken = (¬ Crowded s c.pat.count) × Some c.pat.count (λ k. NotFinite (eta_entry_at c row pivot k))

    -- the factor, where the column doesn't fit: a listed value isn't finite, or 02: "no pivot of at least EPS"
    unfoldable pub FactorBroken : (Partial → Sv → Type 0) → Type 0
    FactorBroken Such = Crowded s c.pat.count × SomeColumn (m_of P) (basis_after P s e.col row) Such

    -- the rest of the exchange
    unfoldable pub Exchanges : State → Type 0
    Exchanges t =
        ((¬ Crowded s c.pat.count)
        × (t ≡ exchanged P s e c exchange_row (helper_of P s c) value diff row pivot leaving))
        ⊎ (Crowded s c.pat.count
        × ((f : Factor) × (factorize (m_of P) (basis_after P s e.col row) ≡ factored f)
        × (t ≡ refactored P s e c exchange_row (helper_of P s c) value diff row pivot leaving f)))

    -- with the dual norms
    unfoldable pub ExchangesBoth : State → Type 0
    ExchangesBoth t =
        (u : State) × Exchanges u × (t ≡ state_with_dual_norms (stored c exchange_dual_norm s.ws.dual_norms) u)

module _ (P : Problem) (s : State) (e : Entering) (c : Sv) where
  -- not all of "row and helper entries and every number to be stored" are finite
  unfoldable pub StepBroken : PivotInfo → Type 0
  StepBroken (Flip value diff) = FlipBroken P s e c value diff
  StepBroken (Exchange value diff row pivot leaving) =
      let k = touch_at c row in
      NormsBroken P s e k value diff row pivot leaving
      ⊎ ExchangeBroken P s e k value diff row pivot leaving
      ⊎ EtaBroken P s e k value diff row pivot leaving
      ⊎ FactorBroken P s e k value diff row pivot leaving (λ _. WildColumn)

  -- 25: every number is finite so far, but a column of the new basis has no pivot
  unfoldable pub StepSingular : PivotInfo → Type 0
  StepSingular (Flip value diff) = ⊥
  StepSingular (Exchange value diff row pivot leaving) =
      let k = touch_at c row in
      (¬ NormsBroken P s e k value diff row pivot leaving)
      × (¬ ExchangeBroken P s e k value diff row pivot leaving)
      × FactorBroken P s e k value diff row pivot leaving Flat

  -- what is stored
  unfoldable pub StoresTo : PivotInfo → State → Type 0
  StoresTo (Flip value diff) t = t ≡ flipped P s e c value diff
  StoresTo (Exchange value diff row pivot leaving) t = ExchangesBoth P s e (touch_at c row) value diff row pivot leaving t

  -- the ratio gives a step of which X holds
  abbrev pub Chosen : (PivotInfo → Type 0) → Type 0
  Chosen X = (i : PivotInfo) × RatioGives P s.ws e c (Pivot i) × X i

  -- 20, 23 and 25, in their order: column solve; ratio; Unbounded; row solve; all new numbers; eta entries or factor
  unfoldable pub StopsWith : Stop → Type 0
  StopsWith Finished = ⊥
  StopsWith Stop-as-Spent = ⊥
  StopsWith Stop-as-Unbounded = (¬ EntryBroken c) × RatioGives P s.ws e c Ratio-as-Unbounded
  StopsWith Stop-as-NotFinite = EntryBroken c ⊎ RatioGives P s.ws e c Ratio-as-NotFinite ⊎ Chosen StepBroken
  StopsWith Stop-as-Singular = (¬ EntryBroken c) × Chosen StepSingular
  StopsWith (Stop-as-Infeasible r) = ⊥

  -- the step i is taken, to t: none of these stops it
  pub record MovesBy (i : PivotInfo) (t : State) : Type 0 where
    pub column : ¬ EntryBroken c
    pub chosen : RatioGives P s.ws e c (Pivot i)
    pub numbers : ¬ StepBroken i
    pub after : StoresTo i t

-- with the column that the step solves for
abbrev pub step_column : Problem → State → Entering → Sv
step_column P s e = column_coeffs P s (s.ws.nb_vars # e.col)

abbrev pub Stops : Problem → State → Entering → Stop → Type 0
Stops P s e w = StopsWith P s e (step_column P s e) w

abbrev pub Moves : Problem → State → Entering → PivotInfo → State → Type 0
Moves P s e i t = MovesBy P s e (step_column P s e) i t

-- ---- a dual step, said of the state, the leaving row and the row's coefficients

module _ (P : Problem) (s : State) (l : LeavingVar) where
  abbrev pub dual_row : Sv
  dual_row = row_coeffs_of P s l.row

  -- the exchange that a dual step makes
  abbrev pub dual_info : Float → Float → Float → PivotInfo
  dual_info value diff coeff = Exchange value diff l.row coeff l.value

  -- by what the ratio on prices gives of the row
  module _ (Gives : DualRatio → Type 0) where
    -- an exchange of which X holds
    abbrev pub DualChosen : (Entering → PivotInfo → Type 0) → Type 0
    DualChosen X =
        (e : Entering) × ((value diff coeff : Float) × Gives (Dual-as-Exchange e value diff coeff) × X e (dual_info value diff coeff))

    -- 23, 25 and 26, in their order: row; ratio on prices; 26; column solve; all new numbers; eta entries or factor
    unfoldable pub DualStopsBy : Stop → Type 0
    DualStopsBy Finished = ⊥
    DualStopsBy Stop-as-Spent = ⊥
    DualStopsBy Stop-as-Unbounded = ⊥
    DualStopsBy Stop-as-NotFinite =
        EntryBroken dual_row
        ⊎ Gives Dual-as-NotFinite
        ⊎ DualChosen (λ e i. EntryBroken (step_column P s e) ⊎ StepBroken P s e (step_column P s e) i)
    DualStopsBy Stop-as-Singular =
        (¬ EntryBroken dual_row)
        × DualChosen (λ e i. (¬ EntryBroken (step_column P s e)) × StepSingular P s e (step_column P s e) i)
    DualStopsBy (Stop-as-Infeasible r) = (¬ EntryBroken dual_row) × (r ≡ l.row) × Gives Dual-as-Nothing

    -- the step is taken, told as i, to t: none of these stops it
    pub record DualMovesBy (i : PivotInfo) (t : State) : Type 0 where
      pub row : ¬ EntryBroken dual_row
      pub chosen : DualChosen (λ e j. (¬ EntryBroken (step_column P s e)) × ((¬ StepBroken P s e (step_column P s e) j)
          × ((i ≡ j) × StoresTo P s e (step_column P s e) j t)))

  -- with the test of a dual step
  abbrev pub DualStopsWith : Stop → Type 0
  DualStopsWith w = DualStopsBy (DualGives s.ws l dual_row) w

  abbrev pub DualMoves : PivotInfo → State → Type 0
  DualMoves i t = DualMovesBy (DualGives s.ws l dual_row) i t

-- ---- why a run ends, said of the state that was reached and the kind of step that it stood in
abbrev pub reached : Plan → Memory → State
reached p m = (end_of (problem_of p) m).state

-- the values that are written: columns, then the slacks of the kept rows
abbrev pub written : Plan → Memory → List Float
written p after = take (p.columns + m_of (problem_of p)) after.values

-- they are the values of the state that was reached, and have passed the final check with the answer's excess: all of
-- them are sound
pub record Passes (p : Plan) (m : Memory) (r : Solved) : Type 0 where
  pub values_of_holds : written p r.memory ≡ values_of (problem_of p) (reached p m).ws
  pub checked : Checks (problem_of p) (written p r.memory) (Passed (as_row r.answer).excess)
  pub sound : AllSound (problem_of p) (written p r.memory)

-- a column enters, a step is left in the budget, and the step stops; or a row leaves
abbrev pub Halts : Problem → State → Stop → Type 0
Halts P s w = (e : Entering) × (choose P s.ws ≡ One e) × (s.steps < P.plan.budget) × Stops P s e w

abbrev pub DualHalts : Problem → State → Stop → Type 0
DualHalts P s w = (l : LeavingVar) × (choose_row P s.ws ≡ One l) × (s.steps < P.plan.budget) × DualStopsWith P s l w

-- 26 in 02's own words: row r is the leaving one, a step is left, the row's entries are finite, and "no column has a row
-- coefficient of size at least EPS and isn't already at the bound in the way of the move that brings the leaving value
-- towards the one it is to take"
pub record NoEntering (P : Problem) (s : State) (r : ℕ) : Type 0 where
  pub leaving : LeavingVar
  pub leaves : choose_row P s.ws ≡ One leaving
  pub row_is : r ≡ leaving.row
  pub step_left : s.steps < P.plan.budget
  pub entries : ¬ EntryBroken (dual_row P s leaving)
  pub no_column : NoColumn s.ws (leaving_rises s.ws leaving) (dual_row P s leaving) (n_of P)

-- where no row leaves the dual steps turn into primal ones, so that a run ends among its dual steps by a stop alone
unfoldable pub Ends : Problem → Kind → State → Stop → Type 0
-- "entering column (none: final check)"
Ends P dual s Finished = ⊥
Ends P primal s Finished = choose P s.ws ≡ None
-- "budget spent and a column would enter", or a row would leave
Ends P dual s Stop-as-Spent = (l : LeavingVar) × (choose_row P s.ws ≡ One l) × (s.steps ≡ P.plan.budget)
Ends P primal s Stop-as-Spent = (e : Entering) × (choose P s.ws ≡ One e) × (s.steps ≡ P.plan.budget)
Ends P dual s Stop-as-Unbounded = ⊥
Ends P primal s Stop-as-Unbounded = Halts P s Stop-as-Unbounded
Ends P dual s Stop-as-NotFinite = DualHalts P s Stop-as-NotFinite
Ends P primal s Stop-as-NotFinite = Halts P s Stop-as-NotFinite
Ends P dual s Stop-as-Singular = DualHalts P s Stop-as-Singular
Ends P primal s Stop-as-Singular = Halts P s Stop-as-Singular
Ends P dual s (Stop-as-Infeasible r) = DualHalts P s (Stop-as-Infeasible r)
Ends P primal s (Stop-as-Infeasible r) = ⊥

-- ---- the table's lines for 0, 20, 21 and 23 to 26. "Answers 0 and 20 to 24 carry the objective and step count of that state";
-- 02: "Every caller and answer 24 carries the excess"
pub data Line (P : Problem) (k : Kind) (s : State) : Told → Type 0 where
  -- "Status 0 is Optimal"
  optimal : (x : Float) → Ends P k s Finished → Checks P (values_of P s.ws) (Passed x)
      → Line P k s (row 0 s.objective s.steps x nowhere)
  -- "Unbounded"
  unbounded : Ends P k s Stop-as-Unbounded → Line P k s (row 20 s.objective s.steps f0 nowhere)
  -- "budget spent and a column would enter"
  spent : Ends P k s Stop-as-Spent → Line P k s (row 21 s.objective s.steps f0 nowhere)
  -- "a named number of the step isn't finite"
  not_finite : Ends P k s Stop-as-NotFinite → Line P k s (row 23 s.objective s.steps f0 nowhere)
  -- 02: "no pivot of at least EPS gives the new status 25"
  singular : Ends P k s Stop-as-Singular → Line P k s (row 25 s.objective s.steps f0 nowhere)
  -- 02: "no entering column exists for the leaving row"
  infeasible : (r : ℕ) → Ends P k s (Stop-as-Infeasible r) → Line P k s (row 26 s.objective s.steps f0 (kept_row_at r))
  -- "the final check rejects", with the largest excess and its place
  value_rejected : (v : ℕ) (x : Float) → Ends P k s Finished → Checks P (values_of P s.ws) (Value v x)
      → Line P k s (row 24 s.objective s.steps x (value_at v))
  row_rejected : (r : ℕ) (x : Float) → Ends P k s Finished → Checks P (values_of P s.ws) (Row r x)
      → Line P k s (row 24 s.objective s.steps x (kept_row_at r))
