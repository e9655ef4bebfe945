-- What the calls of a call's run ask, and how it ends. Assumes nothing.
use mathlib.Core.Path.{◌≡◌, refl, sym, ap, ◌∙◌, subst}
use mathlib.Core.Bool.{Bool, true, false}
use mathlib.Core.List.{List}
use Prim.Native.Nat.{ℕ, ◌+◌, ◌-◌, ◌<◌}
use native.Mathlib.Omega.{arith}
use lib.Dec.{eqb}
use lib.ListN.{length}
use lib.Ieee.{Float, eq}
use Rattle.doubles.specs.Limits.{max_columns, vars}
use Rattle.doubles.specs.Lists.{◌!◌, ◌#◌}
use Rattle.rules.specs.Plan.{Problem, Workspace, State, n_of, column, var_state_of, var_min, var_max}
use Rattle.rules.specs.Parts.{problem, rowed, factored_of, state_with}
use Rattle.rules.specs.Basis.{column_coeffs}
use Rattle.rules.specs.Pivot.{flags_at}
use Rattle.rules.specs.DualRatio.{leaving_rises, test_by}
use Rattle.rules.specs.Step.{moved, stopped, dual_step_by, Ended, ended, run_of, both_runs}
use Rattle.rules.specs.Invariant.{Fits}
use Rattle.rules.specs.declared.PivotInfo.{PivotInfo}
use Rattle.rules.specs.declared.VarState.{VarState}
use Rattle.rules.specs.declared.VarState.TheVariants.{Basic, NonBasic}
use Rattle.rules.specs.declared.Stop.{Stop}
use Rattle.rules.specs.declared.Stop.TheVariants.{Spent, NotFinite}
use Rattle.basis_columns.specs.Columns.{ByColumns}
use Rattle.state.specs.Packed.{packed, state_in, kept_at, var_states_at}
use Rattle.state.specs.declared.Tally.{Tally}
use Rattle.state.proofs.Sections.{section_at}
use Rattle.cells.proofs.Parts.{bounds_of}
use Rattle.step_store.specs.Lent.{Flips}
use Rattle.step_store.proofs.Parts.{fits_flips}
use Rattle.step_refactor.specs.Left.{Left, on, off, after}
use Rattle.step_refactor.specs.Lent.{Ready}
use Rattle.step.proofs.Laws.{stepped_of, moves_on, stops_at}
use Rattle.step_dual.proofs.Laws.{dual_step_part}
use Rattle.check_final.proofs.Laws.{row_cell}
use Rattle.run.specs.Lent.{Running}
use Rattle.run.proofs.Laws.{whole}
use Rattle.run.proofs.Primal.{run_part}
use Rattle.run_dual.proofs.Turn.{both_part}
use Rattle.run_launch.specs.Launched.{gone_on}
use Rattle.fix_rules.specs.Fix.{marked, unmarked, shift_finite, shifted_by, shifted, fix_column, fix_non_basic, fix_leaving, fix_test, fix_step, after_fix_step, fix_basic, fixed, unfixed}
use Rattle.fix_rules.proofs.Marks.{marked_fits, unmarked_fits}
use Rattle.fix_rules.proofs.Shifted.{shifted_by_fits}
use Rattle.fix_move.specs.Lent.{Moves}
use Rattle.fix_move.specs.Shift.{shift_left}
use Rattle.fix_basic.specs.Lent.{StandsIn}
use Rattle.fix_basic.proofs.Leaves.{leaves_fits, leaves_to_place}

-- ---- a non_basic fix: what the move told
module _ (P : Problem) (s : State) (c : ℕ) (value : Float) where
  abbrev rows_of : Problem
  rows_of = rowed (n_of P) P.plan.starts P.plan.cols P.plan.coeffs P.kept

  abbrev tells : Bool → Left
  tells b = elim b [ true ↦ on (shifted P s c value) | false ↦ off NotFinite s.ws s.factor.numbers s.factor.coeffs ]

  shift_part : shift_left rows_of s c value ≡ tells (shift_finite P s c value)
  unfolding shift_left shift_finite shifted column_coeffs column
  shift_part = refl

  -- the state with another workspace and other arrays of the factor
  abbrev left_state : Workspace → List ℕ → List Float → State
  left_state w F G = state_with w s.eta_count s.objective s.steps (factored_of s.factor.there s.factor.times F G)

  pub non_basic_stops : (why : Stop) (w : Workspace) (F : List ℕ) (G : List Float) → off why w F G ≡ shift_left rows_of s c value
      → ended why (left_state w F G) ≡ fix_non_basic P s c value
  unfolding fix_non_basic
  non_basic_stops why w F G q = go (shift_finite P s c value) (q ∙ shift_part)
    where
      go : (b : Bool) → off why w F G ≡ tells b
          → ended why (left_state w F G) ≡ elim b [ true ↦ both_runs P P.plan.budget (shifted P s c value) | false ↦ ended NotFinite s ]
      go true q = absurd (let z : ◌≡◌ {A = ℕ} 0 1 = cc in omega arith)
      go false q =
          let a : why ≡ NotFinite = cc in
          let b : w ≡ s.ws = cc in
          let d : F ≡ s.factor.numbers = cc in
          let e : G ≡ s.factor.coeffs = cc in
          rw (a, b, d, e)

  module _ (t : State) (q : on t ≡ shift_left rows_of s c value) where
    pub non_basic_shifts : t ≡ shifted_by s c (fix_column P s c value) value
    unfolding shifted
    non_basic_shifts = go (shift_finite P s c value) (q ∙ shift_part)
      where
        go : (b : Bool) → on t ≡ tells b → t ≡ shifted P s c value
        go true q = cc
        go false q = absurd (let z : ◌≡◌ {A = ℕ} 0 1 = cc in omega arith)

    pub non_basic_goes : (z : Ended) → z ≡ both_runs (stepped_of P) P.plan.budget t → z ≡ fix_non_basic P s c value
    unfolding fix_non_basic
    non_basic_goes z e = go (shift_finite P s c value) (q ∙ shift_part)
      where
        go : (b : Bool) → on t ≡ tells b
            → z ≡ elim b [ true ↦ both_runs P P.plan.budget (shifted P s c value) | false ↦ ended NotFinite s ]
        go true q =
            let a : t ≡ shifted P s c value = cc in
            e ∙ sym (both_part P P.plan.budget t) ∙ ap (both_runs P P.plan.budget) a
        go false q = absurd (let z : ◌≡◌ {A = ℕ} 0 1 = cc in omega arith)

-- ---- a basic fix: what the dual step told
module _ (P : Problem) (s : State) (row : ℕ) (value : Float) where
  pub fix_step_is : {still : Bool} → still ≡ eq (s.ws.basic_var_vals ! row) value → (o : Left)
      → o ≡ after s (dual_step_by (test_by still (leaving_rises s.ws (fix_leaving P s row value))) P s (fix_leaving P s row value))
      → o ≡ after s (fix_step P s row value)
  unfolding fix_step fix_test
  fix_step_is e o q = rw e at q

  pub fix_step_part : fix_step P s row value ≡ fix_step (stepped_of P) s row value
  unfolding fix_step fix_test
  fix_step_part = dual_step_part (fix_test P s row value) P s (fix_leaving P s row value)

  module _ (j : ℕ) where
    pub basic_spends : P.plan.budget ≡ 0 → ended Spent s ≡ fix_basic P s j row value
    unfolding fix_basic
    basic_spends e = rw e

    module _ (left : eqb P.plan.budget 0 ≡ false) where
      by_step : after_fix_step P s j (fix_step P s row value) ≡ fix_basic P s j row value
      unfolding fix_basic
      by_step =
          sym (ap (λ (b : Bool). elim b [ true ↦ ended Spent s | false ↦ after_fix_step P s j (fix_step P s row value) ]) left)

      pub basic_stops : (why : Stop) (w : Workspace) (F : List ℕ) (G : List Float)
          → off why w F G ≡ after s (fix_step (stepped_of P) s row value)
          → ended why (state_with w s.eta_count s.objective s.steps (factored_of s.factor.there s.factor.times F G))
          ≡ fix_basic P s j row value
      basic_stops why w F G q =
          let m = stops_at s (fix_step (stepped_of P) s row value) why w F G q in
          let o : fix_step P s row value ≡ stopped why = fix_step_part ∙ m.0 in
          rw (m.1, m.2, m.3) (ap (after_fix_step P s j) (sym o) ∙ by_step)

      pub basic_goes : (t : State) → on t ≡ after s (fix_step (stepped_of P) s row value)
          → (u : State) → u ≡ marked t (t.ws.var_states # j) → (z : Ended)
          → z ≡ both_runs (stepped_of P) P.plan.budget u → z ≡ fix_basic P s j row value
      basic_goes t q u eu z ez =
          let m = moves_on s (fix_step (stepped_of P) s row value) t q in
          let o : fix_step P s row value ≡ moved m.0 t = fix_step_part ∙ m.1 in
          ez ∙ sym (both_part P P.plan.budget u) ∙ ap (both_runs P P.plan.budget) eu
          ∙ ap (after_fix_step P s j) (sym o) ∙ by_step

-- ---- an unfix reads of the problem the bounds alone
pub unmark_part : (P : Problem) (s : State) (c : ℕ) → unmarked (bounds_of P) s c ≡ unmarked P s c
unfolding unmarked flags_at var_min var_max
unmark_part P s c = refl

-- ---- where the column stands
module _ (P : Problem) (s : State) (j : ℕ) (value : Float) where
  abbrev by : VarState → Ended
  by x = elim x [ NonBasic c ↦ fix_non_basic P s c value | Basic r ↦ fix_basic P s j r value ]

  pub fixed_by : (x : VarState) → x ≡ var_state_of (n_of P) (s.ws.var_states # j) → by x ≡ fixed P s j value
  unfolding fixed
  fixed_by x e = ap by e

-- an unfix: primal steps with the whole budget
module _ (P : Problem) (s : State) (j : ℕ) where
  pub unfixed_by : s.steps ≡ 0 → (t : State) → t ≡ unmarked (bounds_of P) s (s.ws.var_states # j) → (z : Ended)
      → z ≡ gone_on (stepped_of P) false P.plan.budget t → z ≡ unfixed P s j
  unfolding unfixed gone_on unmarked
  unfixed_by k t et z ez =
      let all : P.plan.budget - t.steps ≡ P.plan.budget = omega (arith, k, ap (λ (u : State). u.steps) et) in
      ez ∙ sym (run_part P (P.plan.budget - t.steps) t) ∙ ap (λ (b : ℕ). run_of P b t) all
      ∙ ap (run_of P P.plan.budget) (et ∙ unmark_part P s (s.ws.var_states # j))

-- the cell of column j, as the workspace's
pub cell_is : (N : List ℕ) (D : List Float) (j : ℕ) → j < vars → N # (var_states_at + j) ≡ (packed N D).var_states # j
cell_is N D j h = sym (section_at var_states_at vars N j 0 h)

-- ---- what the calls ask
module _ {n : ℕ} {lowers uppers : List Float} {starts cols : List ℕ} {coeffs : List Float} {ops kept : List ℕ} {N : List ℕ}
    {D : List Float} {F : List ℕ} {G : List Float} {t : Tally} (a : Running n lowers uppers starts cols coeffs ops kept N D F G t) where
  abbrev P : Problem
  P = whole n lowers uppers starts cols coeffs ops kept a

  abbrev s : State
  s = state_in N D F G t

  -- a run may go on from arrays of the same lengths whose state fits
  runs_from : (M : List ℕ) (E : List Float) (H : List ℕ) (J : List Float) (u : Tally) → length M ≡ length N → length E ≡ length D
      → Fits P (state_in M E H J u) → Running n lowers uppers starts cols coeffs ops kept M E H J u
  runs_from M E H J u hn hd f =
      record {
        rows = a.rows;
        entries = a.entries;
        budget = a.budget;
        tolerance = a.tolerance;
        costs = a.costs;
        rhs = a.rhs;
        sized = record { numbers_long = hn ∙ a.sized.numbers_long; doubles_long = hd ∙ a.sized.doubles_long };
        problem_fits = a.problem_fits;
        state_fits = f;
      }

  pub readies : t.steps ≡ 0 → Ready n lowers uppers starts cols coeffs ops kept N D F G t
  readies k =
      record {
        rows = a.rows;
        entries = a.entries;
        budget = a.budget;
        tolerance = a.tolerance;
        costs = a.costs;
        rhs = a.rhs;
        sized = a.sized;
        problem_fits = a.problem_fits;
        state_fits = a.state_fits;
        budget_left = omega (arith, k);
      }

  pub moves_asks : t.steps ≡ 0 → {S R : List ℕ} {X : List Float} → ByColumns (rowed n starts cols coeffs kept) S R X → n < length S
      → Moves n kept S R X N D F G t
  moves_asks k m long =
      record {
        lowers = lowers;
        uppers = uppers;
        ops = ops;
        ready_by = record { starts = starts; cols = cols; coeffs = coeffs; ready = readies k; by_columns = m; starts_long = long };
      }

  -- column j: its cell, and where it stands
  module _ (j : ℕ) (inside : j < n) where
    pub column_below : j < vars
    column_below = omega (arith, a.problem_fits.plan.columns_most)

    pub stands_in : (row : ℕ) → var_state_of n (N # (var_states_at + j)) ≡ Basic row → StandsIn n kept N D j row
    stands_in row q =
        let e : (packed N D).var_states # j ≡ n + row = sym (cell_is N D j column_below) ∙ sym (row_cell n (N # (var_states_at + j)) row q) in
        record {
          column = inside;
          row_inside = omega (arith, e, (a.state_fits.maps.variable j (omega arith)).cell);
          cell = e;
        }

  -- after a move
  pub shift_runs : (c : ℕ) (value : Float) (M : List ℕ) (E : List Float) (u : Tally) → length M ≡ length N → length E ≡ length D
      → on (state_in M E F G u) ≡ shift_left (rowed n starts cols coeffs kept) s c value
      → Running n lowers uppers starts cols coeffs ops kept M E F G u
  shift_runs c value M E u hn hd q =
      runs_from M E F G u hn hd
      (subst (Fits P) (sym (non_basic_shifts P s c value (state_in M E F G u) q)) (shifted_by_fits P s c (fix_column P s c value) value a.state_fits))

  -- after a dual step: the column's place, and the run from where it is marked
  module _ (j row : ℕ) (value : Float) (st : StandsIn n kept N D j row) (M : List ℕ) (E : List Float) (H : List ℕ) (J : List Float)
      (u : Tally) (hn : length M ≡ length N) (hd : length E ≡ length D)
      (q : on (state_in M E H J u) ≡ after s (fix_step (stepped_of P) s row value)) where
    step_is : (i : PivotInfo) × (dual_step_by (fix_test P s row value) P s (fix_leaving P s row value) ≡ moved i (state_in M E H J u))
    unfolding fix_step
    step_is =
        let m = moves_on s (fix_step (stepped_of P) s row value) (state_in M E H J u) q in
        (m.0, fix_step_part P s row value ∙ m.1)

    col_below : (packed M E).var_states # j < n
    col_below =
        leaves_to_place (fix_test P s row value) P a.problem_fits s a.state_fits (fix_leaving P s row value) st.row_inside
        step_is.0 (state_in M E H J u) step_is.1 j st.column st.cell

    pub mark_asks : (length M ≡ kept_at) × (M # (var_states_at + j) < max_columns)
    mark_asks =
        let c = cell_is M E j (column_below j st.column) in
        (hn ∙ a.sized.numbers_long, omega (arith, c, col_below, a.problem_fits.plan.columns_most))

    pub marked_runs : (M' : List ℕ) (c : ℕ) → length M' ≡ length M → state_in M' E H J u ≡ marked (state_in M E H J u) c
        → Running n lowers uppers starts cols coeffs ops kept M' E H J u
    marked_runs M' c hm e =
        runs_from M' E H J u (hm ∙ hn) hd
        (subst (Fits P) (sym e) (marked_fits P (state_in M E H J u) c
        (leaves_fits (fix_test P s row value) P a.problem_fits s a.state_fits (fix_leaving P s row value) st.row_inside
        step_is.0 (state_in M E H J u) step_is.1)))

  pub unmark_asks : (c : ℕ) → c < n → Flips (bounds_of P) N D c
  unmark_asks c h = fits_flips P a.problem_fits N D t a.sized a.state_fits c h

  -- after the mark was taken off
  pub unmarked_runs : (M : List ℕ) (c : ℕ) → length M ≡ length N → state_in M D F G t ≡ unmarked (bounds_of P) s c
      → Running n lowers uppers starts cols coeffs ops kept M D F G t
  unmarked_runs M c hm e = runs_from M D F G t hm refl (subst (Fits P) (sym (e ∙ unmark_part P s c)) (unmarked_fits P s c a.state_fits))
