-- 01: "cells past what is written never change". Assumes nothing.
use mathlib.Core.Path.{◌≡◌, refl, sym, ap, subst, ◌∙◌}
use mathlib.Core.Bool.{Bool, true, false}
use mathlib.Core.List.{List}
use mathlib.Core.Logic.{⊎_elim}
use Prim.Native.Nat.{ℕ, suc, ◌+◌, ◌-◌, ◌<◌, ◌≤◌}
use native.Mathlib.Nat.{le_refl}
use native.Mathlib.Omega.{arith}
use lib.ListN.{length, set, drop}
use lib.Seq.{drop-set-lt, drop-drop}
use lib.Ieee.{Float}
use Rattle.doubles.specs.Limits.{eta_columns}
use Rattle.doubles.specs.Loop.{table}
use Rattle.doubles.specs.Lists.{over}
use Rattle.doubles.proofs.Loops.{keeps}
use Rattle.sparse.specs.Scattered.{Sv, listed, Below}
use Rattle.lu_factor_rules.specs.Factor.{Factor, factored, factorize}
use Rattle.lu_factor_rules.specs.Packed.{all_factor_numbers, all_factor_coeffs}
use Rattle.lu_factor_rules.proofs.Packed.{numbers_behind, coeffs_behind}
use Rattle.rules.specs.Plan.{Problem, Memory, State, Etas, Factored, n_of, m_of}
use Rattle.rules.specs.Start.{start_state, start_workspace}
use Rattle.rules.specs.Choose.{choose}
use Rattle.rules.specs.Basis.{eta_used, eta_fits, eta_entry_at, row_coeffs_of, basis_after}
use Rattle.rules.specs.Pivot.{store_turn, stored, flipped, exchanged_to, exchanged, refactored}
use Rattle.rules.specs.Step.{state_with_dual_norms, step, dual_step, moved}
use Rattle.rules.specs.Conditions.{step_column}
use Rattle.rules.specs.declared.Entering.{Entering}
use Rattle.std.specs.Prelude.{Some}
use Rattle.rules.specs.declared.LeavingVar.{LeavingVar}
use Rattle.rules.specs.declared.PivotInfo.{PivotInfo}
use Rattle.rules.specs.Invariant.{ProblemFits, Fits, Vector, Past, written_to, columns_written, entries_written, Tails}
use Rattle.rules.proofs.Lists.{over_tail, spliced, spliced_tail}
use Rattle.rules.proofs.Vectors.{row_vector, columns_places, vector_touch_at}
use Rattle.rules.proofs.Moved.{enters_below, Flips, Swaps, column_of, row_of, helper, dual_norm_of, dual_norms_of, Pushes, Refactors, Exchanged, touched_vector, step_vector, moves, dual_moves}
use Rattle.rules.proofs.Refactored.{exact}
use Rattle.rules.proofs.Keeps.{used_after, etas_after, has_room}

-- ---- the cells past n
module _ {A : Type 0} where
  pub past_refl : {n : ℕ} {l : List A} → Past n l l
  past_refl = record { same = refl }

  pub past_over : {n : ℕ} (f : ℕ → A) {l : List A} → Past n (over (table n f) l) l
  past_over {n} f {l} = record { same = over_tail n f l }

  past_set : {n : ℕ} {l k : List A} (i : ℕ) (x : A) → i < n → Past n l k → Past n (set l i x) k
  past_set {n} {l} i x h p = record { same = drop-set-lt n l i x h ∙ p.same }

  past_more : {n : ℕ} {l k : List A} (b : ℕ) → Past n l k → Past (n + b) l k
  past_more {n} {l} {k} b p = record { same = sym (drop-drop b n l) ∙ ap (drop b) p.same ∙ drop-drop b n k }

  past_up : {n u : ℕ} {l k : List A} → n ≤ u → Past n l k → Past u l k
  past_up {n} {u} {l} {k} h p = let e : n + (u - n) ≡ u = omega arith in subst (λ (i : ℕ). Past i l k) e (past_more (u - n) p)

  past_trans : {n : ℕ} {l k j : List A} → Past n l k → Past n k j → Past n l j
  past_trans p q = record { same = p.same ∙ q.same }

  past_spliced : (u b : ℕ) {l : List A} (f : ℕ → A) → u + b ≤ length l → Past (u + b) (spliced u b f l) l
  past_spliced u b {l} f h = record { same = spliced_tail u b f l h }

  -- l has changed below n alone, of at most `whole` cells
  past_written : (b : Bool) {whole n k : ℕ} {l' l j : List A} → k ≤ n → n ≤ whole → Past n l' l → Past (written_to b whole k) l j
      → Past (written_to b whole n) l' j
  past_written true h g p q = past_trans (past_up g p) q
  past_written false h g p q = past_trans p (past_up h q)

  -- once the whole may be written
  past_whole : (b : Bool) {whole k : ℕ} {l j : List A} → k ≤ whole → Past (written_to b whole k) l j → Past whole l j
  past_whole true h p = p
  past_whole false h p = past_up h p

-- the starts have one cell more than the columns
starts_more : (b : Bool) (k : ℕ) {l' l j : List ℕ} → k < eta_columns → Past (k + 1 + 1) l' l → Past (written_to b eta_columns k + 1) l j
    → Past (written_to b eta_columns (suc k) + 1) l' j
starts_more true k h p q = past_trans (past_up (omega arith) p) q
starts_more false k h p q = past_trans (past_up (omega arith) p) (past_up (omega arith) q)

starts_whole : (b : Bool) {k : ℕ} {l j : List ℕ} → k ≤ eta_columns → Past (written_to b eta_columns k + 1) l j → Past (eta_columns + 1) l j
starts_whole true h p = p
starts_whole false h p = past_up (omega arith) p

pub start_tails : (P : Problem) (m : Memory) → Tails P m (start_state P m)
unfolding start_state start_workspace
start_tails P m =
    record {
      basic_vars_tail = past_over _;
      basic_var_vals_tail = past_over _;
      nb_vars_tail = past_over _;
      nb_var_vals_tail = past_over _;
      prices_tail = past_over _;
      norms_tail = past_over _;
      dual_norms_tail = past_over _;
      flags_tail = past_over _;
      var_states_tail = past_over _;
      leaving_tail = past_refl;
      starts_tail = past_set 0 0 (omega arith) past_refl;
      rows_tail = past_refl;
      coeffs_tail = past_refl;
      numbers_tail = past_refl;
      factor_coeffs_tail = past_refl;
    }

-- storing at the listed places
past_stored : (c : Sv) (f : ℕ → Float) {m : ℕ} {l k : List Float} → Below m c → Past m l k → Past m (stored c f l) k
unfolding stored
past_stored c f {m} {l} {k} b p =
    keeps (store_turn c f) l (λ _ t. Past m t k) c.pat.count (λ j t h q. past_set (listed c j) (f (listed c j)) (b.below j h) q) p c.pat.count (le_refl c.pat.count)

module _ (P : Problem) (m : Memory) (s : State) (g : Tails P m s) (e : Entering) (c : Sv) (v : Vector (m_of P) c) (hc : e.col < n_of P) where
  flip_tails : (value diff : Float) → Tails P m (flipped P s e c value diff)
  unfolding flipped
  flip_tails value diff =
      record {
        basic_vars_tail = g.basic_vars_tail;
        basic_var_vals_tail = past_stored c _ v.places_below g.basic_var_vals_tail;
        nb_vars_tail = g.nb_vars_tail;
        nb_var_vals_tail = past_set e.col _ hc g.nb_var_vals_tail;
        prices_tail = g.prices_tail;
        norms_tail = g.norms_tail;
        dual_norms_tail = g.dual_norms_tail;
        flags_tail = past_set e.col _ hc g.flags_tail;
        var_states_tail = g.var_states_tail;
        leaving_tail = g.leaving_tail;
        starts_tail = g.starts_tail;
        rows_tail = g.rows_tail;
        coeffs_tail = g.coeffs_tail;
        numbers_tail = g.numbers_tail;
        factor_coeffs_tail = g.factor_coeffs_tail;
      }

  module _ (f : Fits P s) (rowSv helper : Sv) (u : Vector (n_of P) rowSv) (value diff : Float) (row : ℕ) (coeff leaving : Float)
      (hr : row < m_of P) where
    -- an exchange, whatever stands in the store and in the factor's arrays afterwards
    record StoreTails (t : State) : Type 0 where
      leaving_past : Past (columns_written t) t.ws.etas.leaving m.ws.etas.leaving
      starts_past : Past (columns_written t + 1) t.ws.etas.starts m.ws.etas.starts
      rows_past : Past (entries_written t) t.ws.etas.rows m.ws.etas.rows
      coeffs_past : Past (entries_written t) t.ws.etas.coeffs m.ws.etas.coeffs
      numbers_past : Past all_factor_numbers t.factor.numbers m.all_factor_numbers
      factor_past : Past all_factor_coeffs t.factor.coeffs m.all_factor_coeffs

    swap_tails : (etas : Etas) (count : ℕ) (factor : Factored)
        → StoreTails (exchanged_to P s e c rowSv helper value diff row coeff leaving etas count factor)
        → Tails P m (exchanged_to P s e c rowSv helper value diff row coeff leaving etas count factor)
    swap_tails etas count factor h =
        record {
          basic_vars_tail = past_set row _ hr g.basic_vars_tail;
          basic_var_vals_tail = past_stored c _ v.places_below g.basic_var_vals_tail;
          nb_vars_tail = past_set e.col _ hc g.nb_vars_tail;
          nb_var_vals_tail = past_set e.col _ hc g.nb_var_vals_tail;
          prices_tail = past_stored rowSv _ u.places_below g.prices_tail;
          norms_tail = past_stored rowSv _ u.places_below g.norms_tail;
          dual_norms_tail = g.dual_norms_tail;
          flags_tail = past_set e.col _ hc g.flags_tail;
          var_states_tail = past_set _ _ (f.maps.row row hr).var (past_set _ _ (f.maps.place e.col hc).var g.var_states_tail);
          leaving_tail = h.leaving_past;
          starts_tail = h.starts_past;
          rows_tail = h.rows_past;
          coeffs_tail = h.coeffs_past;
          numbers_tail = h.numbers_past;
          factor_coeffs_tail = h.factor_past;
        }

    exchange_tails : eta_fits s c.pat.count ≡ true → Tails P m (exchanged P s e c rowSv helper value diff row coeff leaving)
    unfolding exchanged
    exchange_tails room =
        let etas = etas_after P s f e c rowSv helper value diff row coeff leaving hc hr v room in
        let used = used_after P s f e c rowSv helper value diff row coeff leaving hc hr v room in
        let left = has_room P s f e c rowSv helper value diff row coeff leaving hc hr v room in
        let b = s.factor.there in
        let k = c.pat.count in
        let l = f.lengths in
        swap_tails _ _ _ (record {
          leaving_past = rw etas
              (past_written b (omega arith) (omega (arith, left)) (past_set s.eta_count row (omega arith) past_refl) g.leaving_tail);
          starts_past = rw etas (starts_more b s.eta_count (omega (arith, left)) (past_set (s.eta_count + 1) _ (omega arith) past_refl) g.starts_tail);
          rows_past = rw (used, etas)
              (past_written b (omega arith) (omega (arith, left)) (past_spliced (eta_used s) k (listed c) (omega (arith, left))) g.rows_tail);
          coeffs_past = rw (used, etas)
              (past_written b (omega arith) (omega (arith, left)) (past_spliced (eta_used s) k (eta_entry_at c row coeff) (omega (arith, left)))
              g.coeffs_tail);
          numbers_past = g.numbers_tail;
          factor_past = g.factor_coeffs_tail;
        })

    refactor_tails : ProblemFits P → (factor : Factor) → factorize (m_of P) (basis_after P s e.col row) ≡ factored factor
        → Tails P m (refactored P s e c rowSv helper value diff row coeff leaving factor)
    unfolding refactored
    refactor_tails p factor made =
        let b = s.factor.there in
        let x = (exact P p s f e.col row hc hr factor made).0 in
        let st = f.store in
        swap_tails _ _ _ (record {
          leaving_past = past_whole b st.columns_fit g.leaving_tail;
          starts_past = past_set 0 0 (omega arith) (starts_whole b st.columns_fit g.starts_tail);
          rows_past = past_whole b st.entries_fit g.rows_tail;
          coeffs_past = past_whole b st.entries_fit g.coeffs_tail;
          numbers_past = past_trans (record { same = numbers_behind factor x s.factor.numbers }) g.numbers_tail;
          factor_past = past_trans (record { same = coeffs_behind factor x s.factor.coeffs }) g.factor_coeffs_tail;
        })

-- 02, Ask 8: the dual norms, put in
with_norms_tails : (P : Problem) (m : Memory) (u : State) (l : List Float) → Past (m_of P) l m.ws.dual_norms → Tails P m u
    → Tails P m (state_with_dual_norms l u)
with_norms_tails P m u l h g =
    record {
      basic_vars_tail = g.basic_vars_tail;
      basic_var_vals_tail = g.basic_var_vals_tail;
      nb_vars_tail = g.nb_vars_tail;
      nb_var_vals_tail = g.nb_var_vals_tail;
      prices_tail = g.prices_tail;
      norms_tail = g.norms_tail;
      dual_norms_tail = h;
      flags_tail = g.flags_tail;
      var_states_tail = g.var_states_tail;
      leaving_tail = g.leaving_tail;
      starts_tail = g.starts_tail;
      rows_tail = g.rows_tail;
      coeffs_tail = g.coeffs_tail;
      numbers_tail = g.numbers_tail;
      factor_coeffs_tail = g.factor_coeffs_tail;
    }

-- ---- an exchange, whichever step makes it
module _ (P : Problem) (p : ProblemFits P) (m : Memory) (s : State) (f : Fits P s) (g : Tails P m s) (e : Entering) (t : State)
    (x : Exchanged P s e t) where
  abbrev z : Swaps P s e
  z = x.swap

  touched_row : Vector (n_of P) (row_of P s e z)
  touched_row = vector_touch_at (row_coeffs_of P s z.row) e.col (columns_places P p) (row_vector P p s z.row) x.col_below

  made_tails : Tails P m t
  made_tails =
      let v = touched_vector P p s f e x in
      let norms = past_stored (column_of P s e z) (dual_norm_of P s e z) v.places_below g.dual_norms_tail in
      ⊎_elim
      (λ (y : Pushes P s e z t).
      rw y.after
      (with_norms_tails P m _ (dual_norms_of P s e z) norms
      (exchange_tails P m s g e (column_of P s e z) v x.col_below f (row_of P s e z) (helper P s e z) touched_row z.value z.diff z.row
      z.coeff z.leaving x.row_below y.fits)))
      (λ (y : Refactors P s e z t).
      rw y.after
      (with_norms_tails P m _ (dual_norms_of P s e z) norms
      (refactor_tails P m s g e (column_of P s e z) v x.col_below f (row_of P s e z) (helper P s e z) touched_row z.value z.diff z.row
      z.coeff z.leaving x.row_below p y.factor y.made)))
      x.stores

pub step_tails : (P : Problem) (p : ProblemFits P) (m : Memory) (s : State) (f : Fits P s) (g : Tails P m s) (e : Entering) → choose P s.ws ≡ Some e → (i : PivotInfo) (t : State)
    → step P s e ≡ moved i t → Tails P m t
step_tails P p m s f g e enters i t steps =
    ⊎_elim
    (λ (x : Flips P s e t).
    rw x.after
    (flip_tails P m s g e (step_column P s e) (step_vector P p s f e enters) (enters_below P s.ws e enters) x.value x.diff))
    (made_tails P p m s f g e t) (moves P p s f e enters i t steps)

pub dual_tails : (P : Problem) (p : ProblemFits P) (m : Memory) (s : State) (f : Fits P s) (g : Tails P m s) (l : LeavingVar) → l.row < m_of P
    → (i : PivotInfo) (t : State) → dual_step P s l ≡ moved i t → Tails P m t
dual_tails P p m s f g l h i t steps = let x = dual_moves _ P p s l h i t steps in made_tails P p m s f g x.0 t x.1
