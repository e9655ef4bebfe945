-- 02: "runs that never fill the store give the same bits as before": while there is no factor, a step whose eta column fits
-- is the step as it was. Assumes nothing.
use mathlib.Core.Path.{◌≡◌, refl, sym, ap, ◌∙◌}
use mathlib.Core.Bool.{true, false, ◌&&◌}
use mathlib.Core.Logic.{⊎_elim}
use Prim.Native.Nat.{ℕ}
use native.Mathlib.Omega.{arith}
use lib.Ieee.{Float}
use Rattle.doubles.specs.Num.{f1}
use Rattle.doubles.specs.Lists.{◌#◌}
use Rattle.doubles.proofs.Bools.{never}
use Rattle.doubles.proofs.Tests.{true_by}
use Rattle.sparse.specs.Scattered.{Sv, blank, put_at, touched, relisted, listed_finite}
use Rattle.sparse.proofs.Laws.{listed_marked}
use Rattle.rules.specs.Plan.{Problem, State}
use Rattle.rules.specs.Choose.{choose}
use Rattle.rules.specs.Basis.{touch_at, row_coeffs_of, helper_of, inv_row, tau_of, combine, eta_fits}
use Rattle.rules.specs.Ratio.{ratio}
use Rattle.rules.specs.Pivot.{flipped, numbers_finite, eta_finite, exchanged, refactored}
use Rattle.rules.specs.Step.{Outcome, moved, stopped, or_stop, state_with_dual_norms, norms_moved, both_norms, step, pivot, exchange}
use Rattle.rules.specs.Choices.{Listed, RatioGives}
use Rattle.rules.specs.Conditions.{StoresTo, Exchanges, ExchangesBoth, step_column, Moves}
use Rattle.rules.specs.Invariant.{ProblemFits, Sound, Touched}
use Rattle.rules.specs.Steps.{Steps, none, turns, one_more}
use Rattle.rules.specs.Kinds.{primal}
use Rattle.rules.specs.Before.{column_before, inv_row_before, row_before, tau_before, helper_before, pivot_before, step_before, StepsBefore, none as none_before, one_more as one-before}
use Rattle.rules.specs.declared.Entering.{Entering}
use Rattle.std.specs.Prelude.{Some}
use Rattle.rules.specs.declared.PivotInfo.{PivotInfo}
use Rattle.rules.specs.declared.PivotInfo.TheVariants.{Flip, Exchange}
use Rattle.rules.specs.declared.Ratio.{Ratio}
use Rattle.rules.specs.declared.Ratio.TheVariants.{Pivot, Unbounded, NotFinite}
use Rattle.rules.specs.declared.Stop.TheVariants.{Unbounded as Stop-as-Unbounded, NotFinite as Stop-as-NotFinite}
use Rattle.rules.proofs.Choices.{ratio_exactly}
use Rattle.rules.proofs.Moved.{row_listed, step_vector}
use Rattle.rules.proofs.Stops.{room, moves_exactly}
use Rattle.rules.proofs.Steps.{no_dual, steps_sound}
use Rattle.rules.proofs.Touched.{row_solve_first, column_solve_first, tau_first}
use Rattle.rules.proofs.Entered.{entering_touched}

-- a touched place is touched again for nothing
touch_again : (s : Sv) (i : ℕ) → Touched s i → touch_at s i ≡ s
unfolding touch_at touched
touch_again s i h = rw h refl

module _ (P : Problem) (p : ProblemFits P) (s : State) (g : Sound P s) (e : Entering) (enters : choose P s.ws ≡ Some e)
    (first : s.factor.there ≡ false) where
  abbrev c : Sv
  c = step_column P s e

  column_same : c ≡ column_before P s (s.ws.nb_vars # e.col)
  column_same = column_solve_first P s first (s.ws.nb_vars # e.col)

  -- the eta column of an exchange fits
  abbrev Fitting : PivotInfo → Type 0
  Fitting i = (value diff : Float) (row : ℕ) (coeff leaving : Float) → i ≡ Exchange value diff row coeff leaving
      → eta_fits s c.pat.count ≡ true

  module _ (row : ℕ) (x : Listed c row) where
    column_touched : touch_at c row ≡ c
    column_touched =
        touch_again c row (rw x.row_there (listed_marked c (step_vector P p s g.fits e enters).good x.place x.listed_place))

    row_same : touch_at (row_coeffs_of P s row) e.col ≡ row_before P s row
    unfolding row_coeffs_of
    row_same =
        touch_again (row_coeffs_of P s row) e.col (entering_touched P p s g e enters row x first)
        ∙ ap (combine P s.ws.var_states) (row_solve_first P s first (put_at blank row f1))

  helper_same : (k : Sv) → helper_of P s k ≡ helper_before P s k
  unfolding helper_of
  helper_same k = ap (combine P s.ws.var_states) (row_solve_first P s first (relisted k))

  -- an exchange with its eta column, by its vectors
  abbrev stored_with : Float → Float → ℕ → Float → Float → Sv → Sv → Sv → Outcome
  stored_with value diff row coeff leaving k r h =
      or_stop (listed_finite r && listed_finite h && numbers_finite P s e k r h value diff row coeff leaving) Stop-as-NotFinite
      (or_stop (eta_finite k row coeff) Stop-as-NotFinite
      (moved (Exchange value diff row coeff leaving) (exchanged P s e k r h value diff row coeff leaving)))

  -- the numbers and vectors of the dual norms
  tau_same : (row : ℕ) → tau_of P s (inv_row P s row) ≡ tau_before s (inv_row_before s row)
  tau_same row = tau_first P s first (inv_row P s row) ∙ ap (tau_before s) (row_solve_first P s first (put_at blank row f1))

  module _ (value diff : Float) (row : ℕ) (coeff leaving : Float) (x : Listed c row) (h : eta_fits s c.pat.count ≡ true) where
    abbrev with : Sv → Sv → Sv → Outcome
    with = stored_with value diff row coeff leaving

    exchange_same : exchange P s e (touch_at c row) value diff row coeff leaving ≡ with c (row_before P s row) (helper_before P s c)
    unfolding exchange
    exchange_same =
        let t = column_touched row x in
        let fits : eta_fits s (touch_at c row).pat.count ≡ true = ap (λ (k : Sv). eta_fits s k.pat.count) t ∙ h in
        let made : exchange P s e (touch_at c row) value diff row coeff leaving
        ≡ with (touch_at c row) (touch_at (row_coeffs_of P s row) e.col) (helper_of P s (touch_at c row)) = rw fits refl in
        made ∙ ap (λ (k : Sv). with k (touch_at (row_coeffs_of P s row) e.col) (helper_of P s k)) t
        ∙ ap (λ (r : Sv). with c r (helper_of P s c)) (row_same row x) ∙ ap (with c (row_before P s row)) (helper_same c)

    both_same : both_norms P s e (touch_at c row) value diff row coeff leaving
        ≡ norms_moved s.ws c row coeff (inv_row_before s row) (tau_before s (inv_row_before s row)) (with c (row_before P s row) (helper_before P s c))
    unfolding both_norms
    both_same =
        let y = inv_row P s row in
        let o = with c (row_before P s row) (helper_before P s c) in
        ap (norms_moved s.ws (touch_at c row) row coeff y (tau_of P s y)) exchange_same
        ∙ ap (λ (k : Sv). norms_moved s.ws k row coeff y (tau_of P s y) o) (column_touched row x)
        ∙ ap (λ (z : Sv). norms_moved s.ws c row coeff y z o) (tau_same row)
        ∙ ap (λ (z : Sv). norms_moved s.ws c row coeff z (tau_before s (inv_row_before s row)) o)
        (row_solve_first P s first (put_at blank row f1))

  pivot_same : (i : PivotInfo) → RatioGives P s.ws e c (Pivot i) → Fitting i → pivot P s e c i ≡ pivot_before P s e c i
  unfolding pivot
  pivot_same (Flip value diff) r h = refl
  pivot_same (Exchange value diff row coeff leaving) r h =
      both_same value diff row coeff leaving (row_listed P s.ws e c value diff row coeff leaving r) (h value diff row coeff leaving refl)

  abbrev outcome : (PivotInfo → Outcome) → Ratio → Outcome
  outcome f r = elim r [ NotFinite ↦ stopped Stop-as-NotFinite | Unbounded ↦ stopped Stop-as-Unbounded | Pivot i ↦ f i ]

  by_ratio_holds : (r : Ratio) → ratio P s.ws e c ≡ r → ((i : PivotInfo) → r ≡ Pivot i → Fitting i)
      → outcome (pivot P s e c) r ≡ outcome (pivot_before P s e c) r
  by_ratio_holds NotFinite q h = refl
  by_ratio_holds Unbounded q h = refl
  by_ratio_holds (Pivot i) q h = pivot_same i ((ratio_exactly P s.ws e c (Pivot i)).0 q) (h i refl)

  pub step_before_holds : ((i : PivotInfo) → ratio P s.ws e c ≡ Pivot i → Fitting i) → step P s e ≡ step_before P s e
  unfolding step step_before
  step_before_holds h =
      ap (or_stop (listed_finite c) Stop-as-NotFinite) (by_ratio_holds (ratio P s.ws e c) refl h)
      ∙ ap (λ (k : Sv). or_stop (listed_finite k) Stop-as-NotFinite (outcome (pivot_before P s e k) (ratio P s.ws e k))) column_same

  -- a step that leaves no factor either has its eta column in the store
  module _ (i : PivotInfo) (t : State) (q : step P s e ≡ moved i t) (still : t.factor.there ≡ false) where
    fitting : (j : PivotInfo) → ratio P s.ws e c ≡ Pivot j → Fitting j
    unfolding StoresTo ExchangesBoth Exchanges refactored
    fitting j r value diff row coeff leaving z = go i ((moves_exactly P s e i t).0 q)
      where
        go : (k : PivotInfo) → Moves P s e k t → eta_fits s c.pat.count ≡ true
        go (Flip u v) m =
            let w = (ratio_exactly P s.ws e c (Pivot (Flip u v))).1 m.chosen in
            absurd (let y : ◌≡◌ {A = ℕ} 0 1 = cc in omega arith)
        go (Exchange u v k o l) m =
            let x = row_listed P s.ws e c u v k o l m.chosen in
            ⊎_elim
            (λ a. ap (λ (y : Sv). eta_fits s y.pat.count) (sym (column_touched k x))
            ∙ true_by (λ f. a.0 ((room s (touch_at c k).pat.count).0 f)))
            (λ a. never refl (ap (λ (y : State). y.factor.there) (sym (m.after.2 ∙ ap (state_with_dual_norms _) a.1.2)) ∙ still))
            m.after.1

    pub moves_before : step_before P s e ≡ moved i t
    moves_before = sym (step_before_holds fitting) ∙ q

-- a factor that is there stays
stays : (P : Problem) (s : State) (e : Entering) (i : PivotInfo) (t : State) → step P s e ≡ moved i t → t.factor.there ≡ false
    → s.factor.there ≡ false
unfolding StoresTo ExchangesBoth Exchanges flipped exchanged refactored
stays P s e i t q h = go i ((moves_exactly P s e i t).0 q).after
  where
    same : {u v : State} → u ≡ v → v.factor.there ≡ u.factor.there
    same z = ap (λ (u : State). u.factor.there) (sym z)

    go : (k : PivotInfo) → StoresTo P s e (step_column P s e) k t → s.factor.there ≡ false
    go (Flip value diff) x = same x ∙ h
    go (Exchange value diff row coeff leaving) x =
        ⊎_elim (λ a. same a.1 ∙ same x.2 ∙ h) (λ a. never refl (same a.1.2 ∙ same x.2 ∙ h)) x.1

-- 02: "runs that never fill the store give the same bits as before": of primal steps, as there were no others
pub steps_before : (P : Problem) (p : ProblemFits P) (s : State) → Sound P s → {k : ℕ} {t : State} → Steps P s primal primal k t
    → t.factor.there ≡ false → StepsBefore P s k t
steps_before P p s g none h = none_before
steps_before P p s g (turns r c) h = absurd (no_dual P s r)
steps_before P p s g (one_more {k} {t} {u} e i r c q) h =
    let first = stays P t e i u q h in
    one-before e i (steps_before P p s g r first) c (moves_before P p t (steps_sound P s p g r) e c first i u q h)
