-- A step keeps the invariants. Assumes nothing.
use mathlib.Core.Path.{◌≡◌, refl, ◌∙◌}
use mathlib.Core.Bool.{true}
use mathlib.Core.List.{List}
use mathlib.Core.Logic.{⊎_elim}
use Prim.Native.Nat.{ℕ, suc, ◌+◌, ◌<◌, ◌≤◌}
use native.Mathlib.Nat.{le_refl}
use native.Mathlib.Numerals.{add-one}
use native.Mathlib.Omega.{arith}
use lib.ListN.{length, set, length-set}
use lib.Seq.{get_or-set_same}
use lib.Ieee.{Float, nan}
use borrow.Author.Tests.{ltb-true, leb-true}
use Rattle.doubles.specs.Num.{finite}
use Rattle.doubles.specs.Limits.{eta_columns, eta_entries}
use Rattle.doubles.specs.Lists.{◌!◌, ◌#◌}
use Rattle.doubles.proofs.Loops.{keeps, both_true, all_at}
use Rattle.sparse.specs.Scattered.{Sv, listed}
use Rattle.lu_factor_rules.specs.Factor.{Factor, factored, factorize}
use Rattle.rules.specs.Plan.{Problem, State, Workspace, Etas, Factored, n_of, m_of, var_cell}
use Rattle.rules.specs.Choose.{choose}
use Rattle.rules.specs.Basis.{eta_used, eta_fits, eta_entry_at, push_eta, basis_after, no_columns, factored_anew}
use Rattle.rules.specs.Pivot.{store_turn, stored, stores_finite, moved_val, new_val, new_price, new_norm, eta_finite, flip_finite, flipped, numbers_finite, exchanged_to, exchanged, refactored}
use Rattle.rules.specs.Step.{state_with_dual_norms, step, dual_step, moved}
use Rattle.rules.specs.Conditions.{step_column}
use Rattle.rules.specs.declared.Entering.{Entering}
use Rattle.std.specs.Prelude.{Some}
use Rattle.rules.specs.declared.LeavingVar.{LeavingVar}
use Rattle.rules.specs.declared.PivotInfo.{PivotInfo}
use Rattle.rules.specs.Invariant.{ProblemFits, Lengths, Maps, Store, FactorFits, FactorNumbers, Numbers, Fits, Sound, Vector}
use Rattle.rules.proofs.Lists.{set_either, spliced_long, spliced_all}
use Rattle.rules.proofs.Maps.{exchange_maps}
use Rattle.rules.proofs.Store.{after_push, pushed, pushed_store, starts_last}
use Rattle.rules.proofs.Moved.{Flips, Swaps, column_of, row_of, helper, dual_norm_of, dual_norms_of, Pushes, Refactors, Exchanged, touched_vector, moves, dual_moves}
use Rattle.rules.proofs.Refactored.{refactored_fits, refactored_numbers}

-- ---- storing at the listed places
module _ (c : Sv) (f : ℕ → Float) (l : List Float) where
  pub stored_long : length (stored c f l) ≡ length l
  unfolding stored
  stored_long =
      keeps (store_turn c f) l (λ _ t. length t ≡ length l) c.pat.count (λ k t _ e. length-set t (listed c k) (f (listed c k)) ∙ e) refl c.pat.count
      (le_refl c.pat.count)

  pub stored_finite : stores_finite c f ≡ true → (j : ℕ) → finite (l ! j) ≡ true → finite (stored c f l ! j) ≡ true
  unfolding stored stores_finite
  stored_finite p j q =
      keeps (store_turn c f) l (λ _ t. finite (t ! j) ≡ true) c.pat.count
      (λ k t h e. set_either (λ x. finite x ≡ true) t (listed c k) (f (listed c k)) nan j (all_at (λ k. finite (f (listed c k))) c.pat.count p k h) e) q
      c.pat.count (le_refl c.pat.count)

pub set_finite : (l : List Float) (i : ℕ) (x : Float) (j : ℕ) → finite x ≡ true → finite (l ! j) ≡ true → finite (set l i x ! j) ≡ true
set_finite l i x j a b = set_either (λ y. finite y ≡ true) l i x nan j a b

-- ---- a flip
module _ (P : Problem) (s : State) (e : Entering) (c : Sv) (value diff : Float) where
  flip_lengths : Lengths P s.ws → Lengths P (flipped P s e c value diff).ws
  unfolding flipped
  flip_lengths l =
      record {
        basic_vars_long = l.basic_vars_long;
        basic_var_vals_long = simp stored_long l.basic_var_vals_long;
        nb_vars_long = l.nb_vars_long;
        nb_var_vals_long = simp length-set l.nb_var_vals_long;
        prices_long = l.prices_long;
        norms_long = l.norms_long;
        dual_norms_long = l.dual_norms_long;
        flags_long = simp length-set l.flags_long;
        var_states_long = l.var_states_long;
        leaving_long = l.leaving_long;
        starts_long = l.starts_long;
        rows_long = l.rows_long;
        coeffs_long = l.coeffs_long;
      }

  flip_maps : Maps P s.ws → Maps P (flipped P s e c value diff).ws
  unfolding flipped
  flip_maps g =
      record {
        place = λ k h. let p = g.place k h in record { var = p.var; back = p.back };
        row = λ r h. let p = g.row r h in record { var = p.var; back = p.back };
        variable = λ v h. let p = g.variable v h in record { cell = p.cell; non_basic = p.non_basic; basic = p.basic };
      }

  flip_fits : Fits P s → Fits P (flipped P s e c value diff)
  unfolding flipped
  flip_fits f =
      record {
        lengths = flip_lengths f.lengths;
        maps = flip_maps f.maps;
        store = f.store;
        factor = f.factor;
        factorings = omega (arith, f.factorings);
      }

  flip_numbers : flip_finite P s e c value diff ≡ true → Numbers P s → Numbers P (flipped P s e c value diff)
  unfolding flipped flip_finite
  flip_numbers p f =
      let b = both_true _ _ p in
      let a = both_true _ _ b.0 in
      record {
        objective = a.0;
        basic_val = λ r h. stored_finite c (moved_val s.ws c diff) s.ws.basic_var_vals b.1 r (f.basic_val r h);
        nb_val = λ k h. set_finite s.ws.nb_var_vals e.col value k a.1 (f.nb_val k h);
        price = f.price;
        norm = f.norm;
        dual_norm = f.dual_norm;
        eta = f.eta;
        factor = f.factor;
      }

-- ---- an exchange, whatever stands in the store and in the factor's arrays afterwards
module _ (P : Problem) (s : State) (f : Fits P s) (e : Entering) (c rowSv helper : Sv) (value diff : Float) (row : ℕ)
    (coeff leaving : Float) (hc : e.col < n_of P) (hr : row < m_of P) (etas : Etas) (count : ℕ) (factor : Factored) where
  abbrev after : State
  after = exchanged_to P s e c rowSv helper value diff row coeff leaving etas count factor

  record Roomy : Type 0 where
    leaving_long : eta_columns ≤ length etas.leaving
    starts_long : eta_columns + 1 ≤ length etas.starts
    rows_long : eta_entries ≤ length etas.rows
    coeffs_long : eta_entries ≤ length etas.coeffs

  swap_lengths : Roomy → Lengths P after.ws
  swap_lengths h =
      let l = f.lengths in
      record {
        basic_vars_long = simp length-set l.basic_vars_long;
        basic_var_vals_long = simp stored_long l.basic_var_vals_long;
        nb_vars_long = simp length-set l.nb_vars_long;
        nb_var_vals_long = simp length-set l.nb_var_vals_long;
        prices_long = simp stored_long l.prices_long;
        norms_long = simp stored_long l.norms_long;
        dual_norms_long = l.dual_norms_long;
        flags_long = simp length-set l.flags_long;
        var_states_long = simp length-set l.var_states_long;
        leaving_long = h.leaving_long;
        starts_long = h.starts_long;
        rows_long = h.rows_long;
        coeffs_long = h.coeffs_long;
      }

  swap_fits : Roomy → Store P etas count → FactorFits (m_of P) factor → factor.times ≤ suc s.steps → Fits P after
  unfolding var_cell
  swap_fits h store fits times =
      record {
        lengths = swap_lengths h;
        maps = exchange_maps P s.ws f.lengths f.maps e.col row hc hr after.ws refl refl refl;
        store = store;
        factor = fits;
        factorings = times;
      }

  swap_numbers : numbers_finite P s e c rowSv helper value diff row coeff leaving ≡ true → Numbers P s
      → ((i : ℕ) → i < etas.starts # count → finite (etas.coeffs ! i) ≡ true) → FactorNumbers (m_of P) factor → Numbers P after
  unfolding numbers_finite
  swap_numbers p g column numbers =
      let w = s.ws in
      let b4 = both_true _ _ p in
      let b3 = both_true _ _ b4.0 in
      let b2 = both_true _ _ b3.0 in
      let b1 = both_true _ _ b2.0 in
      record {
        objective = b1.0;
        basic_val = λ r h. stored_finite c (new_val w c value diff row) w.basic_var_vals b1.1 r (g.basic_val r h);
        nb_val = λ k h. set_finite w.nb_var_vals e.col leaving k b2.1 (g.nb_val k h);
        price = λ k h. stored_finite rowSv (new_price w e coeff rowSv) w.prices b3.1 k (g.price k h);
        norm = λ k h. stored_finite rowSv (new_norm w e c coeff rowSv helper) w.norms b4.1 k (g.norm k h);
        dual_norm = g.dual_norm;
        eta = column;
        factor = numbers;
      }

-- ---- with its eta column
module _ (P : Problem) (s : State) (f : Fits P s) (e : Entering) (c rowSv helper : Sv) (value diff : Float) (row : ℕ) (coeff leaving : Float) (hc : e.col < n_of P)
    (hr : row < m_of P) (v : Vector (m_of P) c) (room : eta_fits s c.pat.count ≡ true) where
  abbrev t : State
  t = exchanged P s e c rowSv helper value diff row coeff leaving

  -- there is room for the column
  pub record Room : Type 0 where
    pub columns_left : s.eta_count < eta_columns
    pub entries_left : eta_used s + c.pat.count ≤ eta_entries

  pub has_room : Room
  unfolding eta_fits
  has_room = let a = both_true _ _ room in record { columns_left = ltb-true _ _ a.0; entries_left = leb-true _ _ a.1 }

  abbrev w : Workspace
  w = s.ws

  abbrev used : ℕ
  used = eta_used s

  abbrev more : ℕ
  more = c.pat.count

  abbrev push : Etas
  push = push_eta c row coeff s.eta_count w.etas

  pub etas_after : push ≡ after_push c row coeff s.eta_count w.etas
  etas_after = pushed P w.etas s.eta_count f.store f.lengths.rows_long f.lengths.coeffs_long c row coeff has_room.entries_left

  pub exchange_fits : Fits P t
  unfolding exchanged
  exchange_fits =
      let l = f.lengths in
      let q = has_room in
      swap_fits P s f e c rowSv helper value diff row coeff leaving hc hr push (suc s.eta_count) s.factor
      (record {
        leaving_long = rw etas_after (simp length-set l.leaving_long);
        starts_long = rw etas_after (simp length-set l.starts_long);
        rows_long = rw etas_after (omega (arith, spliced_long used more (listed c) w.etas.rows (omega arith)));
        coeffs_long = rw etas_after (omega (arith, spliced_long used more (eta_entry_at c row coeff) w.etas.coeffs (omega arith)));
      })
      (rw etas_after
      (pushed_store P w.etas s.eta_count f.store l.rows_long l.coeffs_long c row coeff q.entries_left (omega arith) (omega arith) v hr q.columns_left))
      f.factor (omega (arith, f.factorings))

  -- the entries in use
  pub used_after : push.starts # suc s.eta_count ≡ used + more
  used_after =
      let l = f.lengths in
      let q = has_room in
      rw (etas_after, ← add-one s.eta_count)
      (starts_last P w.etas s.eta_count f.store l.rows_long l.coeffs_long c row coeff q.entries_left (omega arith))

  exchange_numbers : numbers_finite P s e c rowSv helper value diff row coeff leaving ≡ true → eta_finite c row coeff ≡ true
      → Numbers P s → Numbers P t
  unfolding exchanged eta_finite
  exchange_numbers p column g =
      swap_numbers P s f e c rowSv helper value diff row coeff leaving hc hr push (suc s.eta_count) s.factor p g
      (λ i h.
      let q = has_room in
      let l = f.lengths in
      rw etas_after
      (spliced_all used more (eta_entry_at c row coeff) w.etas.coeffs (omega arith) (λ x. finite x ≡ true) nan g.eta
      (all_at (λ k. finite (eta_entry_at c row coeff k)) more column) i (omega (arith, used_after))))
      g.factor

-- ---- with the new basis' factor
module _ (P : Problem) (p : ProblemFits P) (s : State) (f : Fits P s) (e : Entering) (c rowSv helper : Sv) (value diff : Float)
    (row : ℕ) (coeff leaving : Float) (hc : e.col < n_of P) (hr : row < m_of P) (g : Factor)
    (made : factorize (m_of P) (basis_after P s e.col row) ≡ factored g) where
  abbrev empty : Etas
  empty = no_columns s.ws.etas

  pub none_used : empty.starts # 0 ≡ 0
  none_used = get_or-set_same s.ws.etas.starts 0 0 0 (omega (arith, f.lengths))

  no_store : Store P empty 0
  no_store =
      let e = none_used in
      record { begins = e; columns_fit = omega arith; entries_fit = omega arith; column = λ k h. absurd (omega arith) }

  refactor_fits : Fits P (refactored P s e c rowSv helper value diff row coeff leaving g)
  unfolding refactored
  refactor_fits =
      let l = f.lengths in
      swap_fits P s f e c rowSv helper value diff row coeff leaving hc hr empty 0 (factored_anew g s.factor)
      (record {
        leaving_long = l.leaving_long;
        starts_long = simp length-set l.starts_long;
        rows_long = l.rows_long;
        coeffs_long = l.coeffs_long;
      })
      no_store (refactored_fits P p s f e.col row hc hr g made) (omega (arith, f.factorings))

  refactor_numbers : numbers_finite P s e c rowSv helper value diff row coeff leaving ≡ true → Numbers P s
      → Numbers P (refactored P s e c rowSv helper value diff row coeff leaving g)
  unfolding refactored
  refactor_numbers n old =
      swap_numbers P s f e c rowSv helper value diff row coeff leaving hc hr empty 0 (factored_anew g s.factor) n old
      (λ i h. absurd (omega (arith, none_used))) (refactored_numbers P p s f e.col row hc hr g made)

-- ---- 02, Ask 8: the dual norms, put in
module _ (P : Problem) (u : State) (l : List Float) where
  with_norms_fits : m_of P ≤ length l → Fits P u → Fits P (state_with_dual_norms l u)
  with_norms_fits h f =
      let g = f.lengths in
      let m = f.maps in
      record {
        lengths = record {
          basic_vars_long = g.basic_vars_long;
          basic_var_vals_long = g.basic_var_vals_long;
          nb_vars_long = g.nb_vars_long;
          nb_var_vals_long = g.nb_var_vals_long;
          prices_long = g.prices_long;
          norms_long = g.norms_long;
          dual_norms_long = h;
          flags_long = g.flags_long;
          var_states_long = g.var_states_long;
          leaving_long = g.leaving_long;
          starts_long = g.starts_long;
          rows_long = g.rows_long;
          coeffs_long = g.coeffs_long;
        };
        maps = record {
          place = λ k i. let x = m.place k i in record { var = x.var; back = x.back };
          row = λ r i. let x = m.row r i in record { var = x.var; back = x.back };
          variable = λ v i. let x = m.variable v i in record { cell = x.cell; non_basic = x.non_basic; basic = x.basic };
        };
        store = f.store;
        factor = f.factor;
        factorings = f.factorings;
      }

  with_norms_numbers : ((r : ℕ) → r < m_of P → finite (l ! r) ≡ true) → Numbers P u → Numbers P (state_with_dual_norms l u)
  with_norms_numbers h g =
      record {
        objective = g.objective;
        basic_val = g.basic_val;
        nb_val = g.nb_val;
        price = g.price;
        norm = g.norm;
        dual_norm = h;
        eta = g.eta;
        factor = g.factor;
      }

-- ---- an exchange, whichever step makes it
module _ (P : Problem) (p : ProblemFits P) (s : State) (f : Fits P s) (e : Entering) (t : State) (x : Exchanged P s e t) where
  abbrev z : Swaps P s e
  z = x.swap

  norms_long : m_of P ≤ length (dual_norms_of P s e z)
  norms_long = simp stored_long f.lengths.dual_norms_long

  pub made_fits : Fits P t
  made_fits =
      ⊎_elim
      (λ (y : Pushes P s e z t).
      rw y.after
      (with_norms_fits P _ (dual_norms_of P s e z) norms_long
      (exchange_fits P s f e (column_of P s e z) (row_of P s e z) (helper P s e z) z.value z.diff z.row z.coeff z.leaving
      x.col_below x.row_below (touched_vector P p s f e x) y.fits)))
      (λ (y : Refactors P s e z t).
      rw y.after
      (with_norms_fits P _ (dual_norms_of P s e z) norms_long
      (refactor_fits P p s f e (column_of P s e z) (row_of P s e z) (helper P s e z) z.value z.diff z.row z.coeff z.leaving
      x.col_below x.row_below y.factor y.made)))
      x.stores

  pub made_numbers : Numbers P s → Numbers P t
  made_numbers g =
      let norms : (r : ℕ) → r < m_of P → finite (dual_norms_of P s e z ! r) ≡ true = λ r h.
      stored_finite (column_of P s e z) (dual_norm_of P s e z) s.ws.dual_norms x.passes.norms r (g.dual_norm r h) in
      ⊎_elim
      (λ (y : Pushes P s e z t).
      rw y.after
      (with_norms_numbers P _ (dual_norms_of P s e z) norms
      (exchange_numbers P s f e (column_of P s e z) (row_of P s e z) (helper P s e z) z.value z.diff z.row z.coeff z.leaving
      x.col_below x.row_below (touched_vector P p s f e x) y.fits x.passes.numbers y.column g)))
      (λ (y : Refactors P s e z t).
      rw y.after
      (with_norms_numbers P _ (dual_norms_of P s e z) norms
      (refactor_numbers P p s f e (column_of P s e z) (row_of P s e z) (helper P s e z) z.value z.diff z.row z.coeff z.leaving
      x.col_below x.row_below y.factor y.made x.passes.numbers g)))
      x.stores

-- ---- a primal step
module _ (P : Problem) (p : ProblemFits P) (s : State) (f : Fits P s) (e : Entering) (enters : choose P s.ws ≡ Some e) (i : PivotInfo)
    (t : State) (steps : step P s e ≡ moved i t) where
  -- the two maps between variables and places are each other's inverse after every step
  pub step_fits : Fits P t
  step_fits =
      ⊎_elim (λ (x : Flips P s e t). rw x.after (flip_fits P s e (step_column P s e) x.value x.diff f))
      (made_fits P p s f e t) (moves P p s f e enters i t steps)

  -- every stored number is finite after every step
  pub step_numbers : Numbers P s → Numbers P t
  step_numbers g =
      ⊎_elim (λ (x : Flips P s e t). rw x.after (flip_numbers P s e (step_column P s e) x.value x.diff x.passes g))
      (λ (x : Exchanged P s e t). made_numbers P p s f e t x g) (moves P p s f e enters i t steps)

pub step_sound : (P : Problem) (p : ProblemFits P) (s : State) → Sound P s → (e : Entering) → choose P s.ws ≡ Some e → (i : PivotInfo) (t : State) → step P s e ≡ moved i t
    → Sound P t
step_sound P p s g e enters i t q =
    record { fits = step_fits P p s g.fits e enters i t q; numbers = step_numbers P p s g.fits e enters i t q g.numbers }

-- ---- a dual step
module _ (P : Problem) (p : ProblemFits P) (s : State) (f : Fits P s) (l : LeavingVar) (h : l.row < m_of P) (i : PivotInfo) (t : State)
    (steps : dual_step P s l ≡ moved i t) where
  pub dual_fits : Fits P t
  dual_fits = let x = dual_moves _ P p s l h i t steps in made_fits P p s f x.0 t x.1

  pub dual_numbers : Numbers P s → Numbers P t
  dual_numbers = let x = dual_moves _ P p s l h i t steps in made_numbers P p s f x.0 t x.1

pub dual_sound_holds : (P : Problem) (p : ProblemFits P) (s : State) → Sound P s → (l : LeavingVar) → l.row < m_of P → (i : PivotInfo) (t : State)
    → dual_step P s l ≡ moved i t → Sound P t
dual_sound_holds P p s g l h i t q =
    record { fits = dual_fits P p s g.fits l h i t q; numbers = dual_numbers P p s g.fits l h i t q g.numbers }
