-- Two facts of the base, on which no definition and no code leans: every place of the row list is a touched place of the helper, and the entering column is always in the
-- row list. Both rest on the transposed solve touching the leaving row of every eta. Assumes nothing.
use mathlib.Core.Path.{◌≡◌, refl, sym, ◌∙◌, subst}
use mathlib.Core.Bool.{Bool, true, false}
use mathlib.Core.List.{List}
use mathlib.Core.Logic.{◌⊎◌, inl, inr, ⊎_elim}
use Prim.Native.Nat.{ℕ, zero, suc, ◌+◌, ◌<◌}
use native.Mathlib.Nat.{le_refl, eq-or-lt_of_le, le_of_suc-le-suc}
use native.Mathlib.Omega.{arith}
use lib.Dec.{ltb}
use lib.ListN.{length, get_or}
use lib.Seq.{get_or-set_other}
use lib.Ieee.{Float}
use borrow.Author.Tests.{ltb-true, lt-ltb}
use Rattle.doubles.specs.Num.{f1}
use Rattle.doubles.specs.Limits.{places}
use Rattle.doubles.specs.Loop.{run, down}
use Rattle.doubles.specs.Lists.{◌#◌}
use Rattle.doubles.proofs.Loops.{keeps}
use Rattle.doubles.proofs.Tests.{true_by}
use Rattle.sparse.specs.Scattered.{Sv, blank, put_at, touched, touched_by, listed, listed_val, relisted}
use Rattle.sparse.proofs.Laws.{untouched, no_both, none_set, falses, listed_marked, marked_listed}
use Rattle.rules.specs.Plan.{Problem, State, Etas, n_of, m_of, row_cols, row_coeffs, var_state_of}
use Rattle.rules.specs.Basis.{factor_solve, factor_solve_transp, solve_etas, solve, eta_turn_transp, solve_etas_transp, solve_transp, row_solve, scattered, column_coeffs, add_entry, add_turn, add_row, combine, row_coeffs_of, tau_of, helper_of}
use Rattle.rules.specs.Invariant.{ProblemFits, Store, Fits, Vector, Touched}
use Rattle.rules.proofs.Maps.{split}
use Rattle.rules.proofs.Vectors.{vector_blank, vector_put_at, rows_places, columns_places, vector_add_entry, vector_add_row, vector_combine, relisted_vector}

-- ---- touched places
pub none_touched : (i : ℕ) → Touched blank i → ⊥
none_touched i h = no_both _ h (none_set _ (falses places) i)

module _ {m : ℕ} (s : Sv) (v : Vector m s) (r : ℕ) (x : Float) (h : r < places) where
  inside : r < length s.pat.marks
  inside = omega (arith, v.good.wf.marks_long)

  pub touched_at : Touched (put_at s r x) r
  unfolding put_at
  touched_at = true_by (λ f. (untouched s.pat r r inside f).0 refl)

  pub touched_still : (i : ℕ) → Touched s i → Touched (put_at s r x) i
  unfolding put_at
  touched_still i t = true_by (λ f. no_both _ t (untouched s.pat r i inside f).1)

-- a place that is touched after a store is the place stored at, or was touched before
pub touched_by_holds : (s : Sv) (r : ℕ) (x : Float) (i : ℕ) → Touched (put_at s r x) i → (i ≡ r) ⊎ Touched s i
unfolding put_at touched
touched_by_holds s r x i = go (get_or s.pat.marks r false)
  where
    go : (b : Bool) → get_or (touched_by b s.pat r).marks i false ≡ true → (i ≡ r) ⊎ Touched s i
    go true t = inr t
    go false t = split i r (λ (q : i ≡ r). inl q) (λ (q : i ≡ r → ⊥). inr (sym (get_or-set_other s.pat.marks r i true false q) ∙ t))

-- what a turn of a loop gives, and the later ones keep
gets : {S : Type 0} (step : ℕ → S → S) (W Q : S → Type 0) (s₀ : S) → W s₀ → (len : ℕ) → ((j : ℕ) (s : S) → j < len → W s → W (step j s)) → ((j : ℕ) (s : S) → j < len → W s → Q s → Q (step j s)) → (k : ℕ)
    → k < len → ((s : S) → W s → Q (step k s)) → Q (run step len s₀)
unfolding run
gets step W Q s₀ w zero keep still k h at = absurd (omega arith)
gets step W Q s₀ w (suc n) keep still k h at =
    let before : W (run step n s₀) = keeps step s₀ (λ _. W) n (λ j s l. keep j s (omega arith)) w n (le_refl n) in
    ⊎_elim
    (λ (q : k ≡ n). subst (λ (j : ℕ). Q (step j (run step n s₀))) q (at (run step n s₀) before))
    (λ (l : k < n). still n (run step n s₀) (omega arith) before (gets step W Q s₀ w n (λ j s l'. keep j s (omega arith)) (λ j s l'. still j s (omega arith)) k l at))
    (eq-or-lt_of_le (le_of_suc-le-suc h))

-- two runs of a loop that counts down, turn by turn
together : {S : Type 0} (step : ℕ → S → S) (R : S → S → Type 0) (n : ℕ) → ((k : ℕ) (s t : S) → k < n → R s t → R (step k s) (step k t)) → (s t : S) → R s t → R (down step n s) (down step n t)
unfolding down
together step R zero turn s t r = r
together step R (suc n) turn s t r = together step R n (λ k u w l. turn k u w (omega arith)) (step n s) (step n t) (turn n s t (omega arith) r)

-- ---- while there is no factor, a solve is that of the etas alone
pub row_solve_first : (P : Problem) (s : State) → s.factor.there ≡ false → (y : Sv)
    → row_solve P s y ≡ solve_etas_transp s.ws.etas s.eta_count y
unfolding solve_transp factor_solve_transp
row_solve_first P s e y = rw e refl

pub column_solve_first : (P : Problem) (s : State) → s.factor.there ≡ false → (v : ℕ)
    → column_coeffs P s v ≡ solve_etas s.ws.etas s.eta_count (scattered P v)
unfolding column_coeffs solve factor_solve
column_solve_first P s e v = rw e refl

pub tau_first : (P : Problem) (s : State) → s.factor.there ≡ false → (y : Sv)
    → tau_of P s y ≡ solve_etas s.ws.etas s.eta_count (relisted y)
unfolding tau_of solve factor_solve
tau_first P s e y = rw e refl

-- ---- the transposed solve
module _ (P : Problem) (f : ProblemFits P) where
  -- t is touched wherever s is
  record Covers (s t : Sv) : Type 0 where
    first : Vector (m_of P) s
    second : Vector (m_of P) t
    over : (i : ℕ) → Touched s i → Touched t i

  covers_put_at : (s t : Sv) (r : ℕ) (x y : Float) → r < m_of P → Covers s t → Covers (put_at s r x) (put_at t r y)
  covers_put_at s t r x y h c =
      let p = rows_places P f in
      let l : r < places = omega arith in
      record {
        first = vector_put_at s r x p c.first h;
        second = vector_put_at t r y p c.second h;
        over = λ i u.
            ⊎_elim (λ (q : i ≡ r). rw q (touched_at t c.second r y l)) (λ w. touched_still t c.second r y l i (c.over i w)) (touched_by_holds s r x i u);
      }

  module _ (h : Etas) (count : ℕ) (st : Store P h count) where
    solves_cover : (s t : Sv) → Covers s t → Covers (solve_etas_transp h count s) (solve_etas_transp h count t)
    unfolding solve_etas_transp eta_turn_transp
    solves_cover s t c = together (eta_turn_transp h) Covers count (λ k u w l r. covers_put_at u w (h.leaving # k) _ _ (st.column k l).leaves r) s t c

  -- ---- rows combined: what row r puts at place j
  pub data Meets (vs : List ℕ) (r j : ℕ) : Type 0 where
    by_entry : (k : ℕ) → k < length (row_cols P.plan (P.kept # r)) → j ≡ vs # (row_cols P.plan (P.kept # r) # k) → j < n_of P → Meets vs r j
    by_slack : j ≡ vs # (n_of P + r) → j < n_of P → Meets vs r j

  module _ (vs : List ℕ) (j : ℕ) where
    entry_by_holds : (v : ℕ) (x : Float) (s : Sv) → Touched (add_entry (n_of P) vs v x s) j → ((j ≡ vs # v) × (j < n_of P)) ⊎ Touched s j
    unfolding add_entry var_state_of
    entry_by_holds v x s = go (ltb (vs # v) (n_of P)) refl
      where
        go : (b : Bool) → ltb (vs # v) (n_of P) ≡ b → Touched (add_entry (n_of P) vs v x s) j → ((j ≡ vs # v) × (j < n_of P)) ⊎ Touched s j
        go true e =
            rw (e, add_entry, var_state_of)
            (λ u. ⊎_elim (λ (q : j ≡ vs # v). inl (q, omega (arith, ltb-true (vs # v) (n_of P) e))) (λ w. inr w) (touched_by_holds s (vs # v) _ j u))
        go false e = rw (e, add_entry, var_state_of) (λ u. inr u)

    entry_still : (v : ℕ) (x : Float) (s : Sv) → Vector (n_of P) s → Touched s j → Touched (add_entry (n_of P) vs v x s) j
    unfolding add_entry var_state_of
    entry_still v x s w u = go (ltb (vs # v) (n_of P)) refl
      where
        go : (b : Bool) → ltb (vs # v) (n_of P) ≡ b → Touched (add_entry (n_of P) vs v x s) j
        go true e = rw (e, add_entry, var_state_of) (touched_still s w (vs # v) _ (omega (arith, ltb-true (vs # v) (n_of P) e, columns_places P f)) j u)
        go false e = rw (e, add_entry, var_state_of) u

    entry_at : (v : ℕ) (x : Float) (s : Sv) → Vector (n_of P) s → j ≡ vs # v → j < n_of P → Touched (add_entry (n_of P) vs v x s) j
    unfolding add_entry var_state_of
    entry_at v x s w q l =
        let e : ltb (vs # v) (n_of P) ≡ true = lt-ltb (vs # v) (n_of P) (omega arith) in
        rw (q, e, add_entry, var_state_of) (touched_at s w (vs # v) _ (omega (arith, columns_places P f)))

    -- a row
    module _ (r : ℕ) (y : Float) where
      abbrev cols : List ℕ
      cols = row_cols P.plan (P.kept # r)

      abbrev turn : ℕ → Sv → Sv
      turn = add_turn (n_of P) vs cols (row_coeffs P.plan (P.kept # r)) y

      row_by : (s : Sv) → Touched (add_row P vs r y s) j → Meets vs r j ⊎ Touched s j
      unfolding add_row
      row_by s u =
          ⊎_elim (λ q. inl (by_slack q.0 q.1))
          (keeps turn s (λ _ t. Touched t j → Meets vs r j ⊎ Touched s j) (length cols)
          (λ k t l g w. ⊎_elim (λ q. inl (by_entry k l q.0 q.1)) g (entry_by_holds (cols # k) _ t w)) (λ w. inr w) (length cols) (le_refl (length cols)))
          (entry_by_holds (n_of P + r) _ (run turn (length cols) s) u)

      entries_vector : (s : Sv) → Vector (n_of P) s → Vector (n_of P) (run turn (length cols) s)
      entries_vector s w = keeps turn s (λ _. Vector (n_of P)) (length cols) (λ k t _ g. vector_add_entry P f vs (cols # k) _ t g) w (length cols) (le_refl (length cols))

      row_still : (s : Sv) → Vector (n_of P) s → Touched s j → Touched (add_row P vs r y s) j
      unfolding add_row
      row_still s w u =
          entry_still (n_of P + r) _ (run turn (length cols) s) (entries_vector s w)
          (keeps turn s (λ _ t. Vector (n_of P) t × Touched t j) (length cols) (λ k t _ g. (vector_add_entry P f vs (cols # k) _ t g.0, entry_still (cols # k) _ t g.0 g.1)) (w, u)
          (length cols) (le_refl (length cols))).1

      row_at : (s : Sv) → Vector (n_of P) s → Meets vs r j → Touched (add_row P vs r y s) j
      unfolding add_row
      row_at s w (by_slack q l) = entry_at (n_of P + r) _ (run turn (length cols) s) (entries_vector s w) q l
      row_at s w (by_entry k h q l) =
          entry_still (n_of P + r) _ (run turn (length cols) s) (entries_vector s w)
          (gets turn (Vector (n_of P)) (λ t. Touched t j) s w (length cols) (λ i t _ g. vector_add_entry P f vs (cols # i) _ t g) (λ i t _ g u. entry_still (cols # i) _ t g u) k h
          (λ t g. entry_at (cols # k) _ t g q l))

    -- the rows that y lists
    module _ (y : Sv) where
      combine_by : Touched (combine P vs y) j → (k : ℕ) × (k < y.pat.count) × Meets vs (listed y k) j
      unfolding combine
      combine_by =
          keeps (λ k s. add_row P vs (listed y k) (listed_val y k) s) blank (λ k t. Touched t j → (i : ℕ) × (i < k) × Meets vs (listed y i) j) y.pat.count
          (λ k t _ g u. ⊎_elim (λ q. (k, omega arith, q)) (λ w. let r = g w in (r.0, omega (arith, r.1), r.2)) (row_by (listed y k) (listed_val y k) t u))
          (λ u. absurd (none_touched j u)) y.pat.count (le_refl y.pat.count)

      pub combine_at : (k : ℕ) → k < y.pat.count → Meets vs (listed y k) j → Touched (combine P vs y) j
      unfolding combine
      combine_at k h q =
          gets (λ k s. add_row P vs (listed y k) (listed_val y k) s) (Vector (n_of P)) (λ t. Touched t j) blank vector_blank y.pat.count
          (λ i t _ g. vector_add_row P f vs (listed y i) (listed_val y i) t g) (λ i t _ g u. row_still (listed y i) (listed_val y i) t g u) k h
          (λ t g. row_at (listed y k) (listed_val y k) t g q)

-- ---- the row and the helper of an exchange
module _ (P : Problem) (f : ProblemFits P) (s : State) (g : Fits P s) (c : Sv) (v : Vector (m_of P) c) (place : ℕ) (h : place < c.pat.count)
    (first : s.factor.there ≡ false) where
  abbrev row : ℕ
  row = listed c place

  row_inside : row < m_of P
  row_inside = v.places_below.below place h

  -- the results of the two solves
  abbrev row_solved : Sv
  row_solved = solve_etas_transp s.ws.etas s.eta_count (put_at blank row f1)

  abbrev helper_solved : Sv
  helper_solved = solve_etas_transp s.ws.etas s.eta_count (relisted c)

  relists : Touched (relisted c) row
  unfolding relisted
  relists =
      gets (λ k t. put_at t (listed c k) (listed_val c k)) (Vector (m_of P)) (λ t. Touched t row) blank vector_blank c.pat.count
      (λ k t l u. vector_put_at t _ _ (rows_places P f) u (v.places_below.below k l))
      (λ k t l u w. touched_still t u _ _ (omega (arith, v.places_below.below k l, rows_places P f)) row w)
      place h (λ t u. touched_at t u row _ (omega (arith, row_inside, rows_places P f)))

  solves : Covers P f row_solved helper_solved
  solves =
      solves_cover P f s.ws.etas s.eta_count g.store (put_at blank row f1) (relisted c) (record {
        first = vector_put_at blank row f1 (rows_places P f) vector_blank row_inside;
        second = relisted_vector P f c v;
        over = λ i u. ⊎_elim (λ (q : i ≡ row). rw q relists) (λ w. absurd (none_touched i w)) (touched_by_holds blank row f1 i u);
      })

  in_helper : (k : ℕ) → k < (combine P s.ws.var_states row_solved).pat.count
      → Touched (combine P s.ws.var_states helper_solved) (listed (combine P s.ws.var_states row_solved) k)
  in_helper k l =
      let vs = s.ws.var_states in
      let j : ℕ = listed (combine P vs row_solved) k in
      let by = combine_by P f vs j row_solved (listed_marked (combine P vs row_solved) (vector_combine P f vs row_solved).good k l) in
      let there = marked_listed helper_solved solves.second.good (listed row_solved by.0) (solves.over _ (listed_marked row_solved solves.first.good by.0 by.1)) in
      combine_at P f vs j helper_solved there.0 there.1 (rw there.2 by.2)

  -- while there is no factor, every place of the row list is a touched place of the helper
  pub row_in_helper : (k : ℕ) → k < (row_coeffs_of P s (listed c place)).pat.count
      → Touched (helper_of P s c) (listed (row_coeffs_of P s (listed c place)) k)
  unfolding row_coeffs_of helper_of
  row_in_helper = rw (row_solve_first P s first (put_at blank row f1), row_solve_first P s first (relisted c)) in_helper
