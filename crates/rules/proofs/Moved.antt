-- The tests that a step passed, and the state that it gives, for each kind of step. Assumes nothing.
use mathlib.Core.Path.{◌≡◌, refl, ap, ◌∙◌}
use mathlib.Core.Bool.{Bool, true, ◌&&◌}
use mathlib.Core.List.{List}
use mathlib.Core.Logic.{◌⊎◌, inl, inr, ⊎_elim}
use Prim.Native.Nat.{ℕ, ◌<◌}
use lib.Ieee.{Float}
use Rattle.doubles.specs.Lists.{◌#◌}
use Rattle.doubles.proofs.Loops.{both_true}
use Rattle.doubles.proofs.Tests.{true_by}
use Rattle.sparse.specs.Scattered.{Sv, listed_finite, sq_norm, Below}
use Rattle.lu_factor_rules.specs.Factor.{Factor, factored, factorize}
use Rattle.rules.specs.Plan.{Problem, State, Workspace, n_of, m_of}
use Rattle.rules.specs.Choose.{choose}
use Rattle.rules.specs.Basis.{row_coeffs_of, helper_of, inv_row, tau_of, touch_at, eta_fits, basis_after}
use Rattle.rules.specs.Ratio.{rises}
use Rattle.rules.specs.Choices.{Listed, max_step, RatioGives, exchanges}
use Rattle.rules.specs.DualChoices.{DualGivesBy, exchanges as dual-exchanges}
use Rattle.rules.specs.Pivot.{stored, stores_finite, new_dual_norm, flip_finite, flipped, numbers_finite, eta_finite, exchanged, refactored}
use Rattle.rules.specs.Step.{state_with_dual_norms, step, dual_step_by, moved}
use Rattle.rules.specs.Conditions.{EtaBroken, FactorBroken, Exchanges, ExchangesBoth, StepBroken, StoresTo, step_column, Moves, dual_row}
use Rattle.rules.specs.Invariant.{ProblemFits, Fits, Vector}
use Rattle.rules.specs.declared.NonBasicVarState.{NonBasicVarState}
use Rattle.rules.specs.declared.Entering.{Entering}
use Rattle.std.specs.Prelude.{Some}
use Rattle.rules.specs.declared.LeavingVar.{LeavingVar}
use Rattle.rules.specs.declared.DualRatio.TheVariants.{Exchange as Dual-as-Exchange}
use Rattle.rules.specs.declared.PivotInfo.{PivotInfo}
use Rattle.rules.specs.declared.PivotInfo.TheVariants.{Flip, Exchange}
use Rattle.rules.specs.declared.Ratio.TheVariants.{Pivot}
use Rattle.rules.proofs.EnteringColumn.{enters_exactly}
use Rattle.rules.proofs.LeavingRow.{candidate_means}
use Rattle.rules.proofs.Vectors.{rows_places, column_vector, row_vector, vector_touch_at}
use Rattle.rules.proofs.Stops.{room, flip_broken, numbers_broken, norms_broken, column_broken, moves_exactly}
use Rattle.rules.proofs.DualStops.{any_moves}

-- the entering column is a column
pub enters_below : (P : Problem) (w : Workspace) (e : Entering) → choose P w ≡ Some e → e.col < n_of P
enters_below P w e q = ((enters_exactly P w e).0 q).wins.inside

-- a row that leaves is listed
pub row_listed : (P : Problem) (w : Workspace) (e : Entering) (c : Sv) (value diff : Float) (row : ℕ) (coeff leaving : Float)
    → RatioGives P w e c (Pivot (Exchange value diff row coeff leaving)) → Listed c row
row_listed P w e c value diff row coeff leaving (exchanges s k l) =
    record {
      place = k;
      listed_place = l.inside;
      row_there = refl;
      not_small = ((candidate_means P w (rises e) c (max_step P w e c) k).0 l.passes).looked_at.not_small;
    }

-- ---- the kinds of step
module _ (P : Problem) (s : State) (e : Entering) where
  pub record Flips (t : State) : Type 0 where
    pub value : Float
    pub diff : Float
    pub passes : flip_finite P s e (step_column P s e) value diff ≡ true
    pub after : t ≡ flipped P s e (step_column P s e) value diff

  -- the numbers of an exchange, whichever step makes it
  pub record Swaps : Type 0 where
    pub value : Float
    pub diff : Float
    pub row : ℕ
    pub coeff : Float
    pub leaving : Float

  -- its vectors: column and row are touched
  abbrev pub column_of : Swaps → Sv
  column_of x = touch_at (step_column P s e) x.row

  abbrev pub row_of : Swaps → Sv
  row_of x = touch_at (row_coeffs_of P s x.row) e.col

  abbrev pub helper : Swaps → Sv
  helper x = helper_of P s (column_of x)

  -- 02, Ask 8: the dual norms
  abbrev pub dual_norm_of : Swaps → ℕ → Float
  dual_norm_of x =
      let y = inv_row P s x.row in
      new_dual_norm s.ws (column_of x) x.row x.coeff (sq_norm y) (tau_of P s y)

  abbrev pub dual_norms_of : Swaps → List Float
  dual_norms_of x = stored (column_of x) (dual_norm_of x) s.ws.dual_norms

  -- every number that is stored is finite
  pub record Passes (x : Swaps) : Type 0 where
    pub numbers : numbers_finite P s e (column_of x) (row_of x) (helper x) x.value x.diff x.row x.coeff x.leaving ≡ true
    pub norms : stores_finite (column_of x) (dual_norm_of x) ≡ true

  -- with its eta column
  pub record Pushes (x : Swaps) (t : State) : Type 0 where
    pub fits : eta_fits s (column_of x).pat.count ≡ true
    pub column : eta_finite (column_of x) x.row x.coeff ≡ true
    pub after : t ≡ state_with_dual_norms (dual_norms_of x)
        (exchanged P s e (column_of x) (row_of x) (helper x) x.value x.diff x.row x.coeff x.leaving)

  -- with the new basis' factor
  pub record Refactors (x : Swaps) (t : State) : Type 0 where
    pub factor : Factor
    pub made : factorize (m_of P) (basis_after P s e.col x.row) ≡ factored factor
    pub after : t ≡ state_with_dual_norms (dual_norms_of x)
        (refactored P s e (column_of x) (row_of x) (helper x) x.value x.diff x.row x.coeff x.leaving factor)

  -- an exchange between a column and a row, to t
  pub record Exchanged (t : State) : Type 0 where
    pub swap : Swaps
    pub col_below : e.col < n_of P
    pub row_below : swap.row < m_of P
    pub passes : Passes swap
    pub stores : Pushes swap t ⊎ Refactors swap t

  -- the tests that an exchange passed
  module _ (value diff : Float) (row : ℕ) (coeff leaving : Float) (t : State) where
    abbrev told : Swaps
    told = record { value = value; diff = diff; row = row; coeff = coeff; leaving = leaving }

    abbrev info : PivotInfo
    info = Exchange value diff row coeff leaving

    abbrev c : Sv
    c = touch_at (step_column P s e) row

    exchange_passes : ¬ StepBroken P s e (step_column P s e) info → Passes told
    unfolding StepBroken
    exchange_passes sound =
        let norms = true_by (λ f. sound (inl ((norms_broken P s e c value diff row coeff leaving).0 f))) in
        let numbers = true_by (λ f. sound (inr (inl ((numbers_broken P s e c value diff row coeff leaving).0 f)))) in
        record {
          numbers = (both_true (listed_finite (row_of told) && listed_finite (helper told)) _ numbers).1;
          norms = (both_true (listed_finite (tau_of P s (inv_row P s row))) _ norms).1;
        }

    exchange_stores : ¬ StepBroken P s e (step_column P s e) info → StoresTo P s e (step_column P s e) info t
        → Pushes told t ⊎ Refactors told t
    unfolding StepBroken StoresTo ExchangesBoth Exchanges EtaBroken FactorBroken
    exchange_stores sound x =
        let after = x.2 in
        ⊎_elim
        (λ a. inl (record {
          fits = true_by (λ f. a.0 ((room s c.pat.count).0 f));
          column = true_by (λ f. sound (inr (inr (inl (a.0, (column_broken P s e c value diff row coeff leaving).0 f)))));
          after = after ∙ ap (state_with_dual_norms (dual_norms_of told)) a.1;
        }))
        (λ a. inr (record {
          factor = a.1.0;
          made = a.1.1;
          after = after ∙ ap (state_with_dual_norms (dual_norms_of told)) a.1.2;
        }))
        x.1

    exchange_made : e.col < n_of P → row < m_of P → ¬ StepBroken P s e (step_column P s e) info
        → StoresTo P s e (step_column P s e) info t → Exchanged t
    exchange_made hc hr sound x =
        record {
          swap = told;
          col_below = hc;
          row_below = hr;
          passes = exchange_passes sound;
          stores = exchange_stores sound x;
        }

-- the column solve of a step is in order, and so is the column with the leaving row touched
module _ (P : Problem) (p : ProblemFits P) (s : State) (f : Fits P s) (e : Entering) where
  solved_vector : e.col < n_of P → Vector (m_of P) (step_column P s e)
  solved_vector h = column_vector P p s f (s.ws.nb_vars # e.col) (f.maps.place e.col h).var

  pub touched_vector : {t : State} (x : Exchanged P s e t) → Vector (m_of P) (column_of P s e x.swap)
  touched_vector x =
      vector_touch_at (step_column P s e) x.swap.row (rows_places P p) (solved_vector x.col_below) x.row_below

-- ---- a primal step
module _ (P : Problem) (p : ProblemFits P) (s : State) (f : Fits P s) (e : Entering) (enters : choose P s.ws ≡ Some e) where
  pub step_vector : Vector (m_of P) (step_column P s e)
  step_vector = solved_vector P p s f e (enters_below P s.ws e enters)

  pub moves : (i : PivotInfo) (t : State) → step P s e ≡ moved i t → Flips P s e t ⊎ Exchanged P s e t
  unfolding StepBroken StoresTo
  moves i t q = go i ((moves_exactly P s e i t).0 q)
    where
      go : (x : PivotInfo) → Moves P s e x t → Flips P s e t ⊎ Exchanged P s e t
      go (Flip value diff) x =
          inl (record {
            value = value;
            diff = diff;
            passes = true_by (λ f. x.numbers ((flip_broken P s e (step_column P s e) value diff).0 f));
            after = x.after;
          })
      go (Exchange value diff row coeff leaving) x =
          let l = row_listed P s.ws e (step_column P s e) value diff row coeff leaving x.chosen in
          inr (exchange_made P s e value diff row coeff leaving t (enters_below P s.ws e enters)
          (rw l.row_there (step_vector.places_below.below l.place l.listed_place)) x.numbers x.after)

-- ---- a dual step: the entering column is a place of the row's list
given_below : {n : ℕ} {test : NonBasicVarState → Float → Bool} {Says : NonBasicVarState → Float → Type 0} (w : Workspace) (l : LeavingVar) (r : Sv) (e : Entering) (value diff coeff : Float) → Below n r
    → DualGivesBy w l r test Says (Dual-as-Exchange e value diff coeff) → e.col < n
given_below w l r e value diff coeff b (dual-exchanges s k x) = b.below k x.inside

pub dual_moves : (test : NonBasicVarState → Float → Bool) (P : Problem) (p : ProblemFits P) (s : State) (l : LeavingVar) → l.row < m_of P
    → (i : PivotInfo) (t : State) → dual_step_by test P s l ≡ moved i t → (e : Entering) × Exchanged P s e t
dual_moves test P p s l hr i t q =
    let x = (any_moves test P s l i t q).chosen in
    let e = x.0 in
    let m = x.1.4 in (
      e,
      exchange_made P s e x.1.0 x.1.1 l.row x.1.2 l.value t
          (given_below s.ws l (dual_row P s l) e x.1.0 x.1.1 x.1.2 (row_vector P p s l.row).places_below x.1.3)
          hr m.1.0 m.1.1.1,
    )
