-- What the calls of a step ask, from a problem and a state that fit, the ways it ends, and what a run uses. No contract cites this file. Assumes nothing.
use mathlib.Core.Path.{◌≡◌, refl, sym, subst, ap, ◌∙◌}
use mathlib.Core.Bool.{Bool, true, false}
use mathlib.Core.List.{List, []}
use Prim.Native.Nat.{ℕ, suc, ◌+◌, ◌<◌, ◌≤◌}
use native.Mathlib.Omega.{arith}
use lib.ListN.{length}
use lib.Ieee.{Float}
use Rattle.doubles.specs.Limits.{max_rows, max_columns, places}
use Rattle.doubles.specs.Lists.{◌#◌}
use Rattle.sparse.specs.Scattered.{Sv, sv, Wf, Within, listed_finite}
use Rattle.rules.specs.Plan.{Problem, Workspace, State, n_of, column, var_min, var_max}
use Rattle.rules.specs.Parts.{plan_of, problem, bounded, rowed}
use Rattle.rules.specs.Choose.{other_val, choose}
use Rattle.rules.specs.Basis.{column_coeffs, add_row, combine, row_coeffs_of, helper_of, tau_of, touch_at}
use Rattle.rules.specs.Ratio.{ahead, limit, examined, relaxed, step_to, sound_ratios, pass_one, candidate, pass_two_turn, pass_two, flip_of, exchange_of as ratioExchange, pivot_of, sound_distance, ratio}
use Rattle.rules.specs.Choices.{RatioGives, exchanges as gives-exchange}
use Rattle.rules.specs.Pivot.{flags_at, flip_finite, flipped, numbers_finite, exchanged, refactored}
use Rattle.rules.specs.Step.{Outcome, moved, stopped, or_stop, step, pivot, flip, exchange, both_norms}
use Rattle.rules.specs.Invariant.{ProblemFits, FactorFits, Fits, Vector}
use Rattle.rules.specs.declared.Entering.{Entering}
use Rattle.std.specs.Prelude.{Some}
use Rattle.rules.specs.declared.PivotInfo.{PivotInfo}
use Rattle.rules.specs.declared.PivotInfo.TheVariants.{Exchange as Exchanging, Flip}
use Rattle.rules.specs.declared.Ratio.{Ratio}
use Rattle.rules.specs.declared.Ratio.TheVariants.{Pivot, Unbounded, NotFinite}
use Rattle.rules.specs.declared.Stop.{Stop}
use Rattle.rules.specs.declared.Stop.TheVariants.{Unbounded as Stop-as-Unbounded, NotFinite as Stop-as-NotFinite}
use Rattle.rules.proofs.Vectors.{rows_places, scattered_vector, vector_touch_at, column_vector}
use Rattle.rules.proofs.Choices.{ratio_exactly}
use Rattle.rules.proofs.Keeps.{step_fits}
use Rattle.rules.proofs.Steps.{step_counts}
use Rattle.basis_etas.specs.Store.{Readable}
use Rattle.basis_etas.proofs.Laws.{fits_readable}
use Rattle.basis_rows.proofs.Parts.{vector_listed}
use Rattle.step_ratio.specs.Lent.{Stepping}
use Rattle.step_ratio.proofs.Parts.{ratio_part}
use Rattle.step_ratio.proofs.Fits.{stepping}
use Rattle.step_numbers.specs.Lent.{Listing}
use Rattle.step_numbers.proofs.Parts.{vector_listing}
use Rattle.step_store.specs.Lent.{Flips}
use Rattle.cells.proofs.Parts.{bounds_of}
use Rattle.step_store.proofs.Parts.{fits_flips, with_arrays, flipped_part}
use Rattle.basis_columns.specs.Columns.{ByColumns}
use Rattle.basis_columns.specs.Loading.{column_on, ColumnLent}
use Rattle.basis_columns.proofs.Loading.{column_is}
use Rattle.state.specs.Packed.{packed, state_in}
use Rattle.state.specs.declared.Tally.{Tally}
use Rattle.state.specs.declared.Exchange.{Exchange}
use Rattle.step_refactor.specs.Left.{Left, on, off, after, stepped}
use Rattle.step_refactor.specs.Lent.{Ready, ReadyBy}
use Rattle.step_refactor.proofs.Laws.{column_lent}
use Rattle.step.specs.Found.{Found, flips, exchanges, ends, exchange_of, by_pivot, by_ratio, found, found_by}
use Rattle.step.specs.declared.Decided.{Decided}
use Rattle.step.specs.declared.Decided.TheVariants.{Flips as Flips·found, Exchanges, Stops}

-- ---- what the calls ask
module _ {n : ℕ} {lowers uppers : List Float} {starts cols : List ℕ} {coeffs : List Float} {ops kept : List ℕ} {N : List ℕ} {D : List Float}
    {F : List ℕ} {G : List Float} {t : Tally} (rd : Ready n lowers uppers starts cols coeffs ops kept N D F G t) (e : Entering) (inside : e.col < n) where
  abbrev P : Problem
  P = problem (plan_of n rd.rows rd.entries rd.budget rd.tolerance rd.costs lowers uppers starts cols coeffs ops rd.rhs) kept

  abbrev Q : Problem
  Q = stepped n lowers uppers starts cols coeffs ops kept

  abbrev s : State
  s = state_in N D F G t

  abbrev var : ℕ
  var = (packed N D).nb_vars # e.col

  -- the entering variable is one
  var_below : var < n + length kept
  var_below = (rd.state_fits.maps.place e.col inside).var

  pub column_asks : {S R : List ℕ} {X : List Float} → ByColumns (rowed n starts cols coeffs kept) S R X → n < length S
      → (e.col < max_columns) × (ColumnLent S R X n var × Vector (length kept) (column_on S R X n var))
      × (Readable (packed N D).etas t.eta_count × FactorFits (length kept) s.factor)
  unfolding column
  column_asks {S} {R} {X} m long =
      let rb : ReadyBy n lowers uppers ops kept S R X N D F G t = record {
        starts = starts;
        cols = cols;
        coeffs = coeffs;
        ready = rd;
        by_columns = m;
        starts_long = long;
      } in (
        omega (arith, rd.problem_fits.plan.columns_most),
        (
          column_lent rb var var_below,
          subst (Vector (length kept)) (sym (column_is S R X n var (rowed n starts cols coeffs kept) refl m))
              (scattered_vector P rd.problem_fits var var_below),
        ),
        (fits_readable P rd.problem_fits s rd.state_fits, rd.state_fits.factor),
      )

  module _ {c : Sv} (ec : c ≡ column_coeffs Q s var) where
    pub solved : Vector (length kept) c
    unfolding column_coeffs column
    solved = subst (Vector (length kept)) (sym ec) (column_vector P rd.problem_fits s rd.state_fits var (rd.state_fits.maps.place e.col inside).var)

    pub touch_asks : (row : ℕ) → row < length kept → (row < places) × Wf places c.pat
    touch_asks row h = (omega (arith, rows_places P rd.problem_fits), solved.good.wf)

    -- with the leaving row touched
    pub touched_solved : (row : ℕ) → row < length kept → (k : Sv) → k ≡ touch_at c row → Vector (length kept) k
    touched_solved row h k q = subst (Vector (length kept)) (sym q) (vector_touch_at c row (rows_places P rd.problem_fits) solved h)

    pub listed_asks : (c.pat.count ≤ places) × Within places c.pat.count c.pat.list
    listed_asks = vector_listed c solved

    pub ratio_asks : Stepping (bounded n lowers uppers ops kept) (packed N D) e c.pat.list c.pat.count
    ratio_asks = stepping rd.problem_fits rd.state_fits inside solved

    pub column_listing : Listing max_rows c.pat.count c.pat.list
    column_listing = vector_listing c _ solved (omega (arith, rd.problem_fits.few, rd.problem_fits.plan.rows_most))

    -- the leaving row is listed in the column
    row_below : (value diff : Float) (row : ℕ) (pivot leaving : Float) → RatioGives Q s.ws e c (Pivot (Exchanging value diff row pivot leaving)) → row < length kept
    row_below value diff row pivot leaving (gives-exchange _ k l) = solved.places_below.below k l.inside

    pub exchange_asks : (x : Exchange) → ratio Q (packed N D) e (column_coeffs Q s var) ≡ Pivot (Exchanging x.value x.diff x.row x.pivot x.leaving) → x.row < length kept
    exchange_asks x q = row_below x.value x.diff x.row x.pivot x.leaving ((ratio_exactly Q s.ws e c _).0 (ap (ratio Q s.ws e) ec ∙ q))

  pub flip_asks : Flips (bounded n lowers uppers ops kept) N D e.col
  flip_asks = fits_flips P rd.problem_fits N D t rd.sized rd.state_fits e.col inside

-- ---- what is decided
module _ (Q : Problem) (s : State) (e : Entering) (c : Sv) (ec : c ≡ column_coeffs Q s (s.ws.nb_vars # e.col)) where
  abbrev from : Sv → Found
  from k = elim (listed_finite k) [ true ↦ by_ratio Q s e k (ratio Q s.ws e k) | false ↦ ends Stop-as-NotFinite ]

  is_from : from c ≡ found Q s e
  unfolding found
  is_from = ap from ec

  pub found_bad : listed_finite c ≡ false → ends Stop-as-NotFinite ≡ found Q s e
  found_bad f = let g : ends Stop-as-NotFinite ≡ from c = rw (f, from) in g ∙ is_from

  module _ (f : listed_finite c ≡ true) where
    pub found_ratio : (y : Ratio) → y ≡ ratio (bounds_of Q) s.ws e c → by_ratio Q s e c y ≡ found Q s e
    found_ratio y ey =
        let g : y ≡ ratio Q s.ws e c = ey ∙ ratio_part (bounds_of Q) s.ws e c ∙ sym (ratio_part Q s.ws e c) in
        let h : by_ratio Q s e c (ratio Q s.ws e c) ≡ from c = rw (f, from) in
        ap (by_ratio Q s e c) g ∙ h ∙ is_from

    module _ (value diff : Float) (ey : Pivot (Flip value diff) ≡ ratio (bounds_of Q) s.ws e c) where
      by_flip : elim (flip_finite Q s e c value diff) [ true ↦ flips c value diff | false ↦ ends Stop-as-NotFinite ] ≡ found Q s e
      unfolding by_ratio by_pivot
      by_flip = found_ratio (Pivot (Flip value diff)) ey

      pub found_flip : flip_finite Q s e c value diff ≡ true → flips c value diff ≡ found Q s e
      found_flip q = rw q at by_flip

      pub found_unsound : flip_finite Q s e c value diff ≡ false → ends Stop-as-NotFinite ≡ found Q s e
      found_unsound q = rw q at by_flip

-- what a flip or an exchange that was found tells of the column and the ratio
module _ (Q : Problem) (s : State) (e : Entering) (c : Sv) where
  flips_tested : {k : Sv} {value diff : Float} (b : Bool) (u v : Float) → flips k value diff ≡ elim b [ true ↦ flips c u v | false ↦ ends Stop-as-NotFinite ] → k ≡ c
  flips_tested true u v q = cc
  flips_tested false u v q = absurd (let z : ◌≡◌ {A = ℕ} 0 1 = cc in omega arith)

  flips_by : {k : Sv} {value diff : Float} (b : Bool) (y : Ratio) → flips k value diff ≡ elim b [ true ↦ by_ratio Q s e c y | false ↦ ends Stop-as-NotFinite ] → k ≡ c
  unfolding by_ratio by_pivot
  flips_by false y q = absurd (let z : ◌≡◌ {A = ℕ} 0 1 = cc in omega arith)
  flips_by true NotFinite q = absurd (let z : ◌≡◌ {A = ℕ} 0 1 = cc in omega arith)
  flips_by true Unbounded q = absurd (let z : ◌≡◌ {A = ℕ} 0 1 = cc in omega arith)
  flips_by true (Pivot (Flip u v)) q = flips_tested (flip_finite Q s e c u v) u v q
  flips_by true (Pivot (Exchanging u v r p l)) q = absurd (let z : ◌≡◌ {A = ℕ} 0 1 = cc in omega arith)

  untested : {k : Sv} {x : Exchange} (b : Bool) (u v : Float) → exchanges k x ≡ elim b [ true ↦ flips c u v | false ↦ ends Stop-as-NotFinite ] → ⊥
  untested true u v q = let z : ◌≡◌ {A = ℕ} 0 1 = cc in omega arith
  untested false u v q = let z : ◌≡◌ {A = ℕ} 0 1 = cc in omega arith

  pivot_of_holds : {x : Exchange} {u v : Float} {r : ℕ} {p l : Float} → x ≡ exchange_of u v r p l → Pivot (Exchanging u v r p l) ≡ Pivot (Exchanging x.value x.diff x.row x.pivot x.leaving)
  pivot_of_holds q = ap (λ (x : Exchange). Pivot (Exchanging x.value x.diff x.row x.pivot x.leaving)) (sym q)

  exchanges_by : {k : Sv} {x : Exchange} (b : Bool) (y : Ratio) → exchanges k x ≡ elim b [ true ↦ by_ratio Q s e c y | false ↦ ends Stop-as-NotFinite ]
      → (k ≡ c) × (y ≡ Pivot (Exchanging x.value x.diff x.row x.pivot x.leaving))
  unfolding by_ratio by_pivot
  exchanges_by false y q = absurd (let z : ◌≡◌ {A = ℕ} 0 1 = cc in omega arith)
  exchanges_by true NotFinite q = absurd (let z : ◌≡◌ {A = ℕ} 0 1 = cc in omega arith)
  exchanges_by true Unbounded q = absurd (let z : ◌≡◌ {A = ℕ} 0 1 = cc in omega arith)
  exchanges_by true (Pivot (Flip u v)) q = absurd (untested (flip_finite Q s e c u v) u v q)
  exchanges_by true (Pivot (Exchanging u v r p l)) q = (cc, pivot_of_holds cc)

-- ---- the ways a step ends
module _ (Q : Problem) (s : State) (e : Entering) where
  abbrev col : Sv
  col = column_coeffs Q s (s.ws.nb_vars # e.col)

  abbrev by_found : Found → Outcome
  by_found (flips c value diff) = moved (Flip value diff) (flipped Q s e c value diff)
  by_found (exchanges c x) = both_norms Q s e (touch_at c x.row) x.value x.diff x.row x.pivot x.leaving
  by_found (ends w) = stopped w

  by_test : (c : Sv) (b : Bool) (u v : Float) → or_stop b Stop-as-NotFinite (moved (Flip u v) (flipped Q s e c u v)) ≡ by_found (elim b [ true ↦ flips c u v | false ↦ ends Stop-as-NotFinite ])
  by_test c true u v = refl
  by_test c false u v = refl

  by_tests : (c : Sv) (b : Bool) (y : Ratio) → or_stop b Stop-as-NotFinite (elim y [ NotFinite ↦ stopped Stop-as-NotFinite | Unbounded ↦ stopped Stop-as-Unbounded | Pivot i ↦ pivot Q s e c i ])
      ≡ by_found (elim b [ true ↦ by_ratio Q s e c y | false ↦ ends Stop-as-NotFinite ])
  unfolding by_ratio by_pivot pivot flip
  by_tests c false y = refl
  by_tests c true NotFinite = refl
  by_tests c true Unbounded = refl
  by_tests c true (Pivot (Flip u v)) = by_test c (flip_finite Q s e c u v) u v
  by_tests c true (Pivot (Exchanging u v r p l)) = refl

  is_found : step Q s e ≡ by_found (found Q s e)
  unfolding step found
  is_found = by_tests col (listed_finite col) (ratio Q s.ws e col)

  ended_by : (f : Found) → f ≡ found Q s e → after s (by_found f) ≡ after s (step Q s e)
  ended_by f q = sym (ap (after s) (is_found ∙ ap by_found (sym q)))

  -- what the code decided, with the vector as it left it
  module _ (d : Decided) (v : List Float) (m : List Bool) (l : List ℕ) (q : found_by d v m l ≡ found Q s e) where
    pub step_stops : (w : Stop) → d ≡ Stops w → off w s.ws s.factor.numbers s.factor.coeffs ≡ after s (step Q s e)
    unfolding after
    step_stops w f = ended_by (ends w) (rw f at q)

    module _ (k : ℕ) (value diff : Float) (f : d ≡ Flips·found k value diff) where
      flip_found : flips (sv v m l k) value diff ≡ found Q s e
      flip_found = rw f at q

      pub flips_column : sv v m l k ≡ col
      unfolding found
      flips_column = flips_by Q s e col (listed_finite col) (ratio Q s.ws e col) flip_found

      pub step_flips : {u : State} → u ≡ flipped (bounds_of Q) (with_arrays [] [] s) e (sv v m l k) value diff
          → on (with_arrays s.factor.numbers s.factor.coeffs u) ≡ after s (step Q s e)
      unfolding after
      step_flips {u} eu = ap on (flipped_part Q s e (sv v m l k) value diff {u = u} eu) ∙ ended_by (flips (sv v m l k) value diff) flip_found

    module _ (k : ℕ) (x : Exchange) (f : d ≡ Exchanges k x) where
      exchange_found : exchanges (sv v m l k) x ≡ found Q s e
      exchange_found = rw f at q

      pub exchanges_column : (sv v m l k ≡ col) × (ratio Q s.ws e col ≡ Pivot (Exchanging x.value x.diff x.row x.pivot x.leaving))
      unfolding found
      exchanges_column = exchanges_by Q s e col (listed_finite col) (ratio Q s.ws e col) exchange_found

      pub step_exchanges : (c : Sv) → c ≡ touch_at (sv v m l k) x.row → (o : Left) → o ≡ after s (both_norms Q s e c x.value x.diff x.row x.pivot x.leaving) → o ≡ after s (step Q s e)
      step_exchanges c ec o el =
          el ∙ ap (λ (c : Sv). after s (both_norms Q s e c x.value x.diff x.row x.pivot x.leaving)) ec
          ∙ ended_by (exchanges (sv v m l k) x) exchange_found

-- ---- what a run uses
abbrev pub stepped_of : Problem → Problem
stepped_of P = stepped (n_of P) P.plan.lowers P.plan.uppers P.plan.starts P.plan.cols P.plan.coeffs P.plan.ops P.kept

module _ (P : Problem) (s : State) (e : Entering) where
  pivot_part : (c : Sv) (i : PivotInfo) → pivot P s e c i ≡ pivot (stepped_of P) s e c i
  unfolding pivot flip both_norms tau_of exchange flip_finite flipped numbers_finite exchanged refactored flags_at var_min var_max row_coeffs_of helper_of combine add_row column
  pivot_part c (Flip value diff) = refl
  pivot_part c (Exchanging value diff row coeff leaving) = refl

  abbrev ratio_outcome : Problem → Sv → Ratio → Outcome
  ratio_outcome A c x = elim x [ NotFinite ↦ stopped Stop-as-NotFinite | Unbounded ↦ stopped Stop-as-Unbounded | Pivot i ↦ pivot A s e c i ]

  by_ratio_holds : (c : Sv) (x : Ratio) → ratio_outcome P c x ≡ ratio_outcome (stepped_of P) c x
  by_ratio_holds c NotFinite = refl
  by_ratio_holds c Unbounded = refl
  by_ratio_holds c (Pivot i) = pivot_part c i

  -- a step reads of the problem what it is lent
  pub step_part : step P s e ≡ step (stepped_of P) s e
  unfolding step column_coeffs column ratio sound_distance pivot_of flip_of ratioExchange other_val sound_ratios pass_one pass_two pass_two_turn candidate examined relaxed step_to limit ahead var_min var_max
  step_part = let c = column_coeffs P s (s.ws.nb_vars # e.col) in ap (or_stop (listed_finite c) Stop-as-NotFinite) (by_ratio_holds c (ratio P s.ws e c))

-- what the state that a step leaves tells of its outcome, and what the workspace that it leaves does
module _ (s : State) where
  pub moves_on : (o : Outcome) (t : State) → on t ≡ after s o → (i : PivotInfo) × (o ≡ moved i t)
  unfolding after
  moves_on (moved i u) t q = (i, cc)
  moves_on (stopped w) t q = absurd (let z : ◌≡◌ {A = ℕ} 0 1 = cc in omega arith)

  pub stops_at : (o : Outcome) (w : Stop) (x : Workspace) (F : List ℕ) (G : List Float) → off w x F G ≡ after s o
      → (o ≡ stopped w) × (x ≡ s.ws) × (F ≡ s.factor.numbers) × (G ≡ s.factor.coeffs)
  unfolding after
  stops_at (moved i u) w x F G q = absurd (let z : ◌≡◌ {A = ℕ} 0 1 = cc in omega arith)
  stops_at (stopped v) w x F G q = (cc, cc, cc, cc)

-- the state after a step fits, and one more step is counted
pub moved_fits : (P : Problem) → ProblemFits P → (s : State) → Fits P s → (e : Entering) → choose P s.ws ≡ Some e → (t : State) → on t ≡ after s (step (stepped_of P) s e)
    → Fits P t × (t.steps ≡ suc s.steps)
moved_fits P f s g e enters t q =
    let m = moves_on s (step (stepped_of P) s e) t q in
    let o : step P s e ≡ moved m.0 t = step_part P s e ∙ m.1 in
    (step_fits P f s g e enters m.0 t o, step_counts P s e m.0 t o)
