-- What the end's parts say of the definitions, and what it is to the whole. Assumes nothing.
use mathlib.Core.Path.{◌≡◌, refl, sym, ap, ◌∙◌}
use mathlib.Core.Bool.{true, false}
use mathlib.Core.List.{List, [], ◌∷◌}
use Prim.Native.Nat.{ℕ, ◌+◌, ◌≤◌}
use native.Mathlib.Omega.{arith}
use lib.Dec.{eqb}
use borrow.Rule.Slice.PartMut.{put_mid}
use lib.ListN.{length, get_or, set}
use lib.Seq.{ext_get_or}
use lib.Ieee.{Float}
use Rattle.doubles.specs.Limits.{max_rows, max_columns, vars, eta_columns, eta_entries, count_cells}
use Rattle.doubles.specs.Loop.{table}
use Rattle.doubles.specs.Lists.{◌!◌, ◌#◌, over}
use Rattle.doubles.proofs.Loops.{length_tab, get_d_table}
use Rattle.rules.specs.Plan.{Problem, State, Memory, Workspace, n_of, m_of, bit}
use Rattle.rules.specs.Parts.{memory_of, state_of}
use Rattle.rules.specs.Basis.{eta_used}
use Rattle.rules.specs.FinalCheck.{value_of, values_of, final_check}
use Rattle.rules.specs.Step.{Ended, ended}
use Rattle.rules.specs.Answers.{number_of}
use Rattle.rules.specs.Solve.{Solved, solved, checked_answer, answer_of, values_after, memory_after, close}
use Rattle.rules.specs.Invariant.{ProblemFits, Fits}
use Rattle.rules.specs.declared.Stop.{Stop}
use Rattle.rules.specs.declared.Stop.TheVariants.{Finished, Spent as Stop-as-Spent, Unbounded as Stop-as-Unbounded, NotFinite as Stop-as-NotFinite, Singular as Stop-as-Singular, Infeasible as Stop-as-Infeasible}
use Rattle.rules.specs.declared.Checked.{Checked}
use Rattle.rules.specs.declared.Checked.TheVariants.{Passed, Value, Row}
use Rattle.rules.specs.declared.Answer.{Answer}
use Rattle.rules.specs.declared.Answer.TheVariants.{Spent, Unbounded, NotFinite, Singular, Infeasible}
use Rattle.state.specs.Packed.{section, packed, state_in, basic_vars_at, nb_vars_at, var_states_at, flag_cells_at, eta_leaving_at, eta_starts_at, eta_rows_at, kept_at, counts_at, basic_var_vals_at, nb_var_vals_at, prices_at, norms_at, eta_coeffs_at, dual_norms_at, objective_at}
use Rattle.state.specs.Memory.{numbers_end, doubles_end, memory_in, past_of, handed, answered}
use Rattle.state.specs.declared.Tally.{Tally}
use Rattle.state.proofs.Sections.{Changed, lent, written, section_length, section_at}
use Rattle.state.proofs.Memory.{rest}
use Rattle.check_final.specs.Lent.{sizes_of}
use Rattle.check_final.proofs.Parts.{valued_by, checked_by, values_part, final_part}
use Rattle.check_final.proofs.Front.{written_values}
use Rattle.check_final.proofs.Fits.{fits_valued, fits_checkable}
use Rattle.check_close.specs.Lent.{counted, Closes}

-- ---- the answer by why the run ends
module _ (P : Problem) (s : State) where
  told_part : (c : Checked) → checked_answer (counted s.objective s.steps) c ≡ checked_answer s c
  unfolding checked_answer
  told_part (Passed x) = refl
  told_part (Value v x) = refl
  told_part (Row r x) = refl

  by_why : {v w : Stop} → v ≡ w → answer_of P (ended w s) ≡ answer_of P (ended v s)
  by_why e = sym (ap (λ x. answer_of P (ended x s)) e)

  pub ends_finished : {v : Stop} {a : Answer} (c : Checked) → v ≡ Finished → c ≡ final_check P (values_of P s.ws) → a ≡ checked_answer (counted s.objective s.steps) c → a ≡ answer_of P (ended v s)
  unfolding answer_of
  ends_finished c q e f = f ∙ told_part c ∙ ap (checked_answer s) e ∙ by_why q

  pub ends_spent : {v : Stop} → v ≡ Stop-as-Spent → Spent s.objective s.steps ≡ answer_of P (ended v s)
  unfolding answer_of
  ends_spent q = by_why q

  pub ends_unbounded : {v : Stop} → v ≡ Stop-as-Unbounded → Unbounded s.objective s.steps ≡ answer_of P (ended v s)
  unfolding answer_of
  ends_unbounded q = by_why q

  pub ends_broken : {v : Stop} → v ≡ Stop-as-NotFinite → NotFinite s.objective s.steps ≡ answer_of P (ended v s)
  unfolding answer_of
  ends_broken q = by_why q

  pub ends_singular : {v : Stop} → v ≡ Stop-as-Singular → Singular s.objective s.steps ≡ answer_of P (ended v s)
  unfolding answer_of
  ends_singular q = by_why q

  pub ends_infeasible : {v : Stop} (r : ℕ) → v ≡ Stop-as-Infeasible r → Infeasible s.objective s.steps r ≡ answer_of P (ended v s)
  unfolding answer_of
  ends_infeasible r q = by_why q

-- ---- what is written over a front
pub table_whole : (l : List ℕ) → table (length l) (λ i. l # i) ≡ l
table_whole l =
    let same : length (table (length l) (λ i. l # i)) ≡ length l = length_tab (length l) 0 (λ i. l # i) in
    ext_get_or 0 (table (length l) (λ i. l # i)) l same (λ k h. get_d_table (length l) (λ i. l # i) 0 k (omega arith))

module _ (a b c d e f g : ℕ) where
  pub counts_set : (l : List ℕ) → count_cells ≤ length l
      → set (set (set (set (set (set (set l 0 a) 1 b) 2 c) 3 d) 4 e) 5 f) 6 g ≡ over (a ∷ b ∷ c ∷ d ∷ e ∷ f ∷ g ∷ []) l
  counts_set [] h = absurd (omega arith)
  counts_set (x ∷ []) h = absurd (omega arith)
  counts_set (x ∷ y ∷ []) h = absurd (omega arith)
  counts_set (x ∷ y ∷ z ∷ []) h = absurd (omega arith)
  counts_set (x ∷ y ∷ z ∷ u ∷ []) h = absurd (omega arith)
  counts_set (x ∷ y ∷ z ∷ u ∷ v ∷ []) h = absurd (omega arith)
  counts_set (x ∷ y ∷ z ∷ u ∷ v ∷ w ∷ []) h = absurd (omega arith)
  counts_set (x ∷ y ∷ z ∷ u ∷ v ∷ w ∷ q ∷ l) h = refl

pub cell_set : (o : Float) (l : List Float) → 1 ≤ length l → set l 0 o ≡ over (o ∷ []) l
cell_set o [] h = absurd (omega arith)
cell_set o (x ∷ l) h = refl

-- ---- what the parts that are lent say of the whole state

-- the answer reads the workspace, the objective and the steps
pub answer_part : (P : Problem) (v : Stop) (s : State) → answer_of P (ended v (state_of s.ws 0 s.objective s.steps)) ≡ answer_of P (ended v s)
unfolding answer_of
answer_part P Finished s =
    let c = final_check P (values_of P s.ws) in
    sym (told_part P (state_of s.ws 0 s.objective s.steps) c) ∙ told_part P s c
answer_part P Stop-as-Spent s = refl
answer_part P Stop-as-Unbounded s = refl
answer_part P Stop-as-NotFinite s = refl
answer_part P Stop-as-Singular s = refl
answer_part P (Stop-as-Infeasible r) s = refl

-- the values that stand in the sections are the workspace's
pub values_whole : (n : ℕ) (kept : List ℕ) (w : Workspace) (l : List Float) {xs : List Float}
    → xs ≡ over (values_of (sizes_of n kept) (valued_by w)) l → xs ≡ over (values_of (sizes_of n kept) w) l
values_whole n kept w l e = e ∙ ap (λ (t : List Float). over t l) (sym (values_part (sizes_of n kept) w))

-- what is written of the scratch is the values
pub values_are : (P : Problem) (w : Workspace) (l : List Float) {xs : List Float} → xs ≡ over (values_of (sizes_of (n_of P) P.kept) w) l
    → (status : ℕ) (k : List Float) {after : List Float}
    → after ≡ elim (eqb status 0) [ true ↦ over (table (n_of P + m_of P) (λ v. xs ! v)) k | false ↦ k ]
    → after ≡ elim (eqb status 0) [ true ↦ over (values_of P w) k | false ↦ k ]
values_are P w l e status k f =
    let over-values = e ∙ ap (λ (t : List Float). over t l) (values_part (sizes_of (n_of P) P.kept) w) in
    f ∙ ap (λ (t : List Float). elim (eqb status 0) [ true ↦ t | false ↦ k ]) (written_values P w l over-values k refl)

-- ---- the whole

-- the cells of the counts
abbrev counts_of : Problem → State → ℕ → List ℕ
counts_of P s status =
    m_of P ∷ s.eta_count ∷ eta_used s ∷ s.steps ∷ status ∷ bit s.factor.there ∷ s.factor.times ∷ []

module _ (P : Problem) (m : Memory) (v : Stop) (s : State) where
  closes : {a : Answer} {status : ℕ} {values : List Float}
      → a ≡ answer_of P (ended v s)
      → status ≡ number_of a
      → values ≡ elim (eqb status 0) [ true ↦ over (values_of P s.ws) m.values | false ↦ m.values ]
      → solved a (memory_of values (over P.kept m.kept) s.ws
      (over (counts_of P s status) m.counts) (over (s.objective ∷ []) m.objective) s.factor.numbers
      s.factor.coeffs) ≡ close P m (ended v s)
  unfolding close memory_after values_after
  closes e q f = rw (f, q) (ap (λ (x : Answer). solved x (memory_after P s x m)) e)

-- three sections change, and nothing else of the arrays
module _ (a : Answer) (v : List Float) (N M L : List ℕ) (D E : List Float) (F : List ℕ) (G : List Float)
    {f g : List ℕ → List ℕ} {h : List Float → List Float}
    (x : Changed kept_at max_rows f N M) (y : Changed counts_at count_cells g M L) (z : Changed objective_at 1 h D E) where
  before : (b j : ℕ) → b + j ≤ kept_at → section b j L ≡ section b j N
  before b j l = y.before b j (omega arith) ∙ x.before b j l

  stores : answered a v L E F G
      ≡ handed (solved a (memory_of v (f (section kept_at max_rows N)) (packed N D) (g (section counts_at count_cells N))
      (h (section objective_at 1 D)) F G)) (past_of N D)
  stores =
      rw (
        before basic_vars_at max_rows (omega arith),
        before nb_vars_at max_columns (omega arith),
        before var_states_at vars (omega arith),
        before flag_cells_at max_columns (omega arith),
        before eta_leaving_at eta_columns (omega arith),
        before eta_starts_at (eta_columns + 1) (omega arith),
        before eta_rows_at eta_entries (omega arith),
        z.before basic_var_vals_at max_rows (omega arith),
        z.before nb_var_vals_at max_columns (omega arith),
        z.before prices_at max_columns (omega arith),
        z.before norms_at max_columns (omega arith),
        z.before eta_coeffs_at eta_entries (omega arith),
        z.before dual_norms_at max_rows (omega arith),
        y.before kept_at max_rows (omega arith) ∙ x.here,
        y.here ∙ ap g (x.after counts_at count_cells (omega arith)),
        z.here,
        rest y numbers_end (omega arith) ∙ rest x numbers_end (omega arith),
        rest z doubles_end (omega arith),
      )

-- ---- `close`
module _ (P : Problem) (why : Stop) (t : Tally) (v : List Float) (N : List ℕ) (D : List Float) (c : Closes P v N D t)
    (F : List ℕ) (G : List Float) where
  abbrev m : Memory
  m = memory_in v N D F G

  abbrev s : State
  s = state_in N D F G t

  used_is : get_or N (eta_starts_at + t.eta_count) 0 ≡ eta_used s
  used_is = sym (section_at eta_starts_at (eta_columns + 1) N t.eta_count 0 (omega (arith, c.used)))

  pub closes_in : {a : Answer} {status : ℕ} {values : List Float} (kept counts : List ℕ)
      → a ≡ answer_of P (ended why (state_of (packed N D) 0 t.objective t.steps))
      → status ≡ number_of a
      → values ≡ elim (eqb status 0) [ true ↦ over (values_of P (packed N D)) v | false ↦ v ]
      → kept ≡ over P.kept (section kept_at max_rows N)
      → length kept ≡ length (section kept_at max_rows N)
      → counts ≡ over (m_of P ∷ t.eta_count ∷ get_or N (eta_starts_at + t.eta_count) 0 ∷ t.steps ∷ status
      ∷ bit t.factored ∷ t.factorings ∷ []) (section counts_at count_cells (put_mid kept_at max_rows N kept))
      → length counts ≡ length (section counts_at count_cells (put_mid kept_at max_rows N kept))
      → answered a values (put_mid counts_at count_cells (put_mid kept_at max_rows N kept) counts)
      (set D (objective_at + 0) t.objective) F G ≡ handed (close P m (ended why s)) (past_of N D)
  closes_in {a} {status} {values} kept counts e q f g g' h h' =
      let M = put_mid kept_at max_rows N kept in
      let f1 : List ℕ → List ℕ = λ l. over P.kept l in
      let f2 : List ℕ → List ℕ = λ l. over (counts_of P s status) l in
      let x = lent kept_at max_rows N f1 kept (omega (arith, c.numbers_long)) g g' in
      let y = lent counts_at count_cells M f2 counts (omega (arith, c.numbers_long, x.long)) (rw used_is at h) h' in
      let z = written objective_at 1 D 0 t.objective (omega arith) in
      let o : set (section objective_at 1 D) 0 t.objective ≡ over (t.objective ∷ []) (section objective_at 1 D) = cell_set t.objective (section objective_at 1 D) (omega (arith, section_length objective_at 1 D c.doubles_long)) in
      stores a values N M (put_mid counts_at count_cells M counts) D (set D (objective_at + 0) t.objective) F G x y z
      ∙ ap (λ (l : List Float). handed (solved a (memory_of values (f1 m.kept) m.ws (f2 m.counts) l F G))
      (past_of N D)) o
      ∙ ap (λ (r : Solved). handed r (past_of N D)) (closes P m why s (e ∙ answer_part P why s) q f)

-- ---- for the caller: `close` is lent a part of the problem
module _ (P : Problem) where
  answer_whole : (v : Stop) (s : State) → answer_of (checked_by P) (ended v s) ≡ answer_of P (ended v s)
  unfolding answer_of values_of
  answer_whole Finished s = ap (checked_answer s) (sym (final_part P (values_of P s.ws)))
  answer_whole Stop-as-Spent s = refl
  answer_whole Stop-as-Unbounded s = refl
  answer_whole Stop-as-NotFinite s = refl
  answer_whole Stop-as-Singular s = refl
  answer_whole (Stop-as-Infeasible r) s = refl

  pub close_whole : (m : Memory) (r : Ended) → close (checked_by P) m r ≡ close P m r
  unfolding close memory_after values_after values_of
  close_whole m r = ap (λ (a : Answer). solved a (memory_after P r.state a m)) (answer_whole r.why r.state)

  -- and what it asks
  pub fits_close : ProblemFits P
      → (v : List Float) (N : List ℕ) (D : List Float) (F : List ℕ) (G : List Float) (t : Tally)
      → Fits P (state_in N D F G t) → n_of P + m_of P ≤ length v → numbers_end ≤ length N → doubles_end ≤ length D
      → Closes (checked_by P) v N D t
  fits_close f v N D F G t g a b d =
      record {
        answers = record { valued = fits_valued P f (packed N D) g.lengths g.maps; checkable = fits_checkable P f };
        used = g.store.columns_fit;
        values_long = a;
        rows_most = omega (arith, f.few, f.plan.rows_most);
        numbers_long = b;
        doubles_long = d;
      }
