-- The vectors of a step are in order: the column, the row solves, the row and the helper. Assumes nothing.
use mathlib.Core.Path.{◌≡◌, refl}
use mathlib.Core.Bool.{Bool, true, false}
use mathlib.Core.List.{List, [], ◌∷◌, ◌++◌}
use Prim.Native.Nat.{ℕ, suc, ◌+◌, ◌<◌, ◌≤◌, ◌-◌}
use native.Mathlib.Nat.{le_refl}
use native.Mathlib.Omega.{arith}
use lib.Dec.{ltb, eqb}
use lib.ListN.{length, get_or}
use lib.Ieee.{Float}
use borrow.Author.Tests.{ltb-true, ltb-false, eqb-true}
use Rattle.doubles.specs.Num.{f0, f1, ◌⊗◌}
use Rattle.doubles.specs.Limits.{places, eta_entries}
use Rattle.doubles.specs.Loop.{run, each}
use Rattle.doubles.specs.Lists.{◌!◌, ◌#◌}
use Rattle.doubles.proofs.Loops.{keeps, keeps_down}
use Rattle.sparse.specs.Scattered.{Sv, blank, put_at, listed, listed_val, take_turn, take_off, relisted}
use Rattle.sparse.proofs.Laws.{wf_touched, untouched, good_put_at, below_put_at, good_blank, below_blank, count_below, listed_once}
use Rattle.lu_factor_rules.specs.Packed.{packed_solve, packed_solve_transp}
use Rattle.lu_factor_rules.specs.Ready.{Vector as Ordered}
use Rattle.lu_apply.proofs.Laws.{vector_solve_in, vector_solve_transp_in}
use Rattle.rules.specs.Plan.{Problem, State, Etas, Factored, Entry, entry, n_of, m_of, row_cols, row_coeffs, column, column_turn, column_row, var_state_of}
use Rattle.rules.specs.Basis.{factor_solve, factor_solve_transp, eta_rows_of, eta_coeffs_of, eta_turn, solve_etas, solve, eta_turn_transp, solve_etas_transp, solve_transp, factor_by, row_solve, scattered, touch_at, column_coeffs, add_entry, add_turn, add_row, combine, row_coeffs_of, helper_of}
use Rattle.rules.specs.Invariant.{ProblemFits, Store, FactorFits, Fits, Vector}
use Rattle.rules.proofs.Lists.{part_long, part_at, snoc_at}

-- ---- a vector with places below m
pub vector_blank : {m : ℕ} → Vector m blank
vector_blank = record { good = good_blank; places_below = below_blank }

pub vector_put_at : {m : ℕ} (s : Sv) (r : ℕ) (x : Float) → m ≤ places → Vector m s → r < m → Vector m (put_at s r x)
vector_put_at s r x h v l = record { good = good_put_at s r x v.good (omega arith); places_below = below_put_at s r x v.places_below l }

-- the pigeonhole: at most m places are listed
pub vector_few : {m : ℕ} (s : Sv) → Vector m s → s.pat.count ≤ m
vector_few s v = count_below s v.good v.places_below

-- no place is listed twice
pub vector_once : {m : ℕ} (s : Sv) → Vector m s → (j k : ℕ) → j < s.pat.count → k < s.pat.count → listed s j ≡ listed s k → j ≡ k
vector_once s v = listed_once s v.good

-- ---- the entries of a column
pub keeps_each : {A S : Type 0} (f : A → S → S) (d : A) (Q : S → Type 0) (l : List A) → ((k : ℕ) → k < length l → (s : S) → Q s → Q (f (get_or l k d) s)) → (s : S) → Q s
    → Q (each l f s)
unfolding each
keeps_each f d Q [] turn s q = q
keeps_each f d Q (x ∷ l) turn s q = keeps_each f d Q l (λ k h. turn (suc k) (omega arith)) (f x s) (turn 0 (omega arith) s q)

abbrev pub e0 : Entry
e0 = entry 0 f0

-- each entry stands at a row with the property Q
record EntriesAt (Q : ℕ → Type 0) (es : List Entry) : Type 0 where
  at_row : (k : ℕ) → k < length es → Q (get_or es k e0).at

no_entries : (Q : ℕ → Type 0) → EntriesAt Q []
no_entries Q = record { at_row = λ k l. absurd (omega arith) }

entries_snoc : (Q : ℕ → Type 0) (es : List Entry) (e : Entry) → EntriesAt Q es → Q e.at → EntriesAt Q (es ++ (e ∷ []))
entries_snoc Q es e f q = record { at_row = snoc_at (λ _ e. Q e.at) es e e0 f.at_row q }

-- the rows of a column: those that have an entry in it, or the slack's own
module _ (P : Problem) (v : ℕ) (Q : ℕ → Type 0)
    (has : (r : ℕ) → r < m_of P → (k : ℕ) → k < length (row_cols P.plan (P.kept # r)) → row_cols P.plan (P.kept # r) # k ≡ v → Q r) (own : n_of P ≤ v → Q (v - n_of P)) where
  entries_turn : (r : ℕ) → r < m_of P → (k : ℕ) → k < length (row_cols P.plan (P.kept # r)) → (es : List Entry) → EntriesAt Q es
      → EntriesAt Q (column_turn v r (row_cols P.plan (P.kept # r)) (row_coeffs P.plan (P.kept # r)) k es)
  entries_turn r h k l es f = go (eqb (row_cols P.plan (P.kept # r) # k) v) refl
    where
      go : (b : Bool) → eqb (row_cols P.plan (P.kept # r) # k) v ≡ b → EntriesAt Q (column_turn v r (row_cols P.plan (P.kept # r)) (row_coeffs P.plan (P.kept # r)) k es)
      go true e = rw (e, column_turn) (entries_snoc Q es _ f (has r h k l (eqb-true _ v e)))
      go false e = rw (e, column_turn) f

  entries_row : (r : ℕ) (es : List Entry) → r < m_of P → EntriesAt Q es → EntriesAt Q (column_row P v r es)
  entries_row r es h f =
      let cols = row_cols P.plan (P.kept # r) in
      keeps (column_turn v r cols (row_coeffs P.plan (P.kept # r))) es (λ _. EntriesAt Q) (length cols) (λ k t l g. entries_turn r h k l t g) f (length cols) (le_refl (length cols))

  pub column_rows : (k : ℕ) → k < length (column P v) → Q (get_or (column P v) k e0).at
  unfolding column
  column_rows = (go (ltb v (n_of P)) refl).at_row
    where
      go : (b : Bool) → ltb v (n_of P) ≡ b → EntriesAt Q (column P v)
      go true e = rw (e, column) (keeps (column_row P v) [] (λ _. EntriesAt Q) (m_of P) entries_row (no_entries Q) (m_of P) (le_refl (m_of P)))
      go false e = rw (e, column) (entries_snoc Q [] (entry (v - n_of P) f1) (no_entries Q) (own (ltb-false v (n_of P) e)))

column_below : (P : Problem) (v : ℕ) → v < n_of P + m_of P → (k : ℕ) → k < length (column P v) → (get_or (column P v) k e0).at < m_of P
column_below P v h = column_rows P v (λ r. r < m_of P) (λ r l k _ _. l) (λ l. omega arith)

-- ---- the factor's solves keep a vector in order
pub in_order : {m : ℕ} {s : Sv} → Vector m s → Ordered m s
in_order v = record { good = v.good; below = v.places_below }

of_order : {m : ℕ} {s : Sv} → Ordered m s → Vector m s
of_order v = record { good = v.good; places_below = v.below }

module _ {m : ℕ} (F : Factored) (f : FactorFits m F) (y : Sv) (v : Vector m y) where
  vector_factor : Vector m (factor_solve m F y)
  unfolding factor_solve packed_solve
  vector_factor = go F.there refl
    where
      go : (b : Bool) → F.there ≡ b → Vector m (factor_by b (packed_solve m F.numbers F.coeffs) y)
      go true e = of_order (vector_solve_in (f.solid e) (in_order v))
      go false e = v

  vector_factor_transp : Vector m (factor_solve_transp m F y)
  unfolding factor_solve_transp packed_solve_transp
  vector_factor_transp = go F.there refl
    where
      go : (b : Bool) → F.there ≡ b → Vector m (factor_by b (packed_solve_transp m F.numbers F.coeffs) y)
      go true e = of_order (vector_solve_transp_in (f.solid_transposed e) (in_order v))
      go false e = v

-- a touched place
pub vector_touch_at : {m : ℕ} (s : Sv) (i : ℕ) → m ≤ places → Vector m s → i < m → Vector m (touch_at s i)
unfolding touch_at put_at
vector_touch_at s i h v l =
    let g = v.good in
    record {
      good = record {
        vals_long = g.vals_long;
        wf = wf_touched s.pat g.wf i (omega arith);
        zeros = λ j k f. g.zeros j k (untouched s.pat i j (omega (arith, g.wf.marks_long)) f).1;
      };
      places_below = record { below = (below_put_at s i f0 v.places_below l).below };
    }

module _ (P : Problem) (f : ProblemFits P) where
  pub rows_places : m_of P ≤ places
  rows_places = omega (arith, f.few, f.plan)

  pub columns_places : n_of P ≤ places
  columns_places = omega (arith, f.plan)

  -- ---- the solves, over a store in order
  module _ (h : Etas) (count : ℕ) (long : eta_entries ≤ length h.rows) (st : Store P h count) where
    -- the rows of an eta column
    pub eta_row : (k : ℕ) → k < count → (i : ℕ) → i < length (eta_rows_of h k) → eta_rows_of h k # i < m_of P
    eta_row k l i g =
        let c = st.column k l in
        let size : length (eta_rows_of h k) ≡ h.starts # (k + 1) - h.starts # k = part_long (h.starts # k) (h.starts # (k + 1)) h.rows (omega arith) in
        rw (part_at (h.starts # k) (h.starts # (k + 1)) h.rows i 0 (omega arith)) (c.rows (h.starts # k + i) (omega arith) (omega arith))

    vector_eta_turn : (k : ℕ) → k < count → (y : Sv) → Vector (m_of P) y → Vector (m_of P) (eta_turn h k y)
    unfolding eta_turn take_off
    vector_eta_turn k l y v =
        let rows = eta_rows_of h k in
        keeps (take_turn (y.vals ! (h.leaving # k)) rows (eta_coeffs_of h k)) y (λ _. Vector (m_of P)) (length rows)
        (λ i t g u. vector_put_at t (rows # i) _ rows_places u (eta_row k l i g)) v (length rows) (le_refl (length rows))

    vector_solve_etas : (y : Sv) → Vector (m_of P) y → Vector (m_of P) (solve_etas h count y)
    unfolding solve_etas
    vector_solve_etas y v =
        keeps (eta_turn h) y (λ _. Vector (m_of P)) count (λ k t l u. vector_eta_turn k l t u) v count (le_refl count)

    pub vector_solve_etas_transp : (y : Sv) → Vector (m_of P) y → Vector (m_of P) (solve_etas_transp h count y)
    unfolding solve_etas_transp eta_turn_transp
    vector_solve_etas_transp y v =
        keeps_down (eta_turn_transp h) (Vector (m_of P)) count (λ k t l u. vector_put_at t (h.leaving # k) _ rows_places u (st.column k l).leaves) y v

    module _ (F : Factored) (fits : FactorFits (m_of P) F) where
      vector_solve : (y : Sv) → Vector (m_of P) y → Vector (m_of P) (solve (m_of P) F h count y)
      unfolding solve
      vector_solve y v = vector_solve_etas (factor_solve (m_of P) F y) (vector_factor F fits y v)

      vector_solve_transp : (y : Sv) → Vector (m_of P) y → Vector (m_of P) (solve_transp (m_of P) F h count y)
      unfolding solve_transp
      vector_solve_transp y v = vector_factor_transp F fits (solve_etas_transp h count y) (vector_solve_etas_transp y v)

  -- ---- rows combined
  pub vector_add_entry : (vs : List ℕ) (v : ℕ) (x : Float) (s : Sv) → Vector (n_of P) s → Vector (n_of P) (add_entry (n_of P) vs v x s)
  unfolding add_entry var_state_of
  vector_add_entry vs v x s u = go (ltb (vs # v) (n_of P)) refl
    where
      go : (b : Bool) → ltb (vs # v) (n_of P) ≡ b → Vector (n_of P) (add_entry (n_of P) vs v x s)
      go true e = rw (e, add_entry, var_state_of) (vector_put_at s (vs # v) _ columns_places u (ltb-true (vs # v) (n_of P) e))
      go false e = rw (e, add_entry, var_state_of) u

  pub vector_add_row : (vs : List ℕ) (r : ℕ) (y : Float) (s : Sv) → Vector (n_of P) s → Vector (n_of P) (add_row P vs r y s)
  unfolding add_row
  vector_add_row vs r y s u =
      let cols = row_cols P.plan (P.kept # r) in
      let turn = add_turn (n_of P) vs cols (row_coeffs P.plan (P.kept # r)) y in
      vector_add_entry vs (n_of P + r) (f1 ⊗ y) (run turn (length cols) s)
      (keeps turn s (λ _. Vector (n_of P)) (length cols) (λ k t _ g. vector_add_entry vs (cols # k) _ t g) u (length cols) (le_refl (length cols)))

  pub vector_combine : (vs : List ℕ) (y : Sv) → Vector (n_of P) (combine P vs y)
  unfolding combine
  vector_combine vs y =
      keeps (λ k s. add_row P vs (listed y k) (listed_val y k) s) blank (λ _. Vector (n_of P)) y.pat.count
      (λ k t _ g. vector_add_row vs (listed y k) (listed_val y k) t g) vector_blank y.pat.count (le_refl y.pat.count)

  -- ---- the vectors of a step

  -- the column as it is handed to the solve
  pub scattered_vector : (v : ℕ) → v < n_of P + m_of P → Vector (m_of P) (scattered P v)
  scattered_vector v l =
      keeps_each (λ e t. put_at t e.at e.val) e0 (Vector (m_of P)) (column P v) (λ k h t u. vector_put_at t _ _ rows_places u (column_below P v l k h)) blank vector_blank

  -- and the column that the helper starts from
  pub relisted_vector : (c : Sv) → Vector (m_of P) c → Vector (m_of P) (relisted c)
  unfolding relisted
  relisted_vector c v =
      keeps (λ k t. put_at t (listed c k) (listed_val c k)) blank (λ _. Vector (m_of P)) c.pat.count
      (λ k t h u. vector_put_at t _ _ rows_places u (v.places_below.below k h)) vector_blank c.pat.count (le_refl c.pat.count)

  module _ (s : State) (g : Fits P s) where
    long : eta_entries ≤ length s.ws.etas.rows
    long = g.lengths.rows_long

    pub column_vector : (v : ℕ) → v < n_of P + m_of P → Vector (m_of P) (column_coeffs P s v)
    unfolding column_coeffs
    column_vector v l = vector_solve s.ws.etas s.eta_count long g.store s.factor g.factor _ (scattered_vector v l)

    -- the row solve's own result
    pub row_solve_vector : (r : ℕ) → r < m_of P → Vector (m_of P) (row_solve P s (put_at blank r f1))
    row_solve_vector r l = vector_solve_transp s.ws.etas s.eta_count long g.store s.factor g.factor _ (vector_put_at blank r f1 rows_places vector_blank l)

    -- and the helper's
    pub helper_solve_vector : (c : Sv) → Vector (m_of P) c → Vector (m_of P) (row_solve P s (relisted c))
    helper_solve_vector c v = vector_solve_transp s.ws.etas s.eta_count long g.store s.factor g.factor _ (relisted_vector c v)

  pub row_vector : (s : State) (r : ℕ) → Vector (n_of P) (row_coeffs_of P s r)
  unfolding row_coeffs_of
  row_vector s r = vector_combine _ _

  pub helper_vector : (s : State) (c : Sv) → Vector (n_of P) (helper_of P s c)
  unfolding helper_of
  helper_vector s c = vector_combine _ _
