-- What the two calls are to their gates, and what their runs ask. No contract cites this file. Assumes nothing.
use mathlib.Core.Path.{◌≡◌, refl, sym, ap, ◌∙◌, subst}
use mathlib.Core.Bool.{Bool, true, false}
use mathlib.Core.List.{List, []}
use Prim.Native.Nat.{ℕ, ◌-◌, ◌<◌}
use lib.Dec.{ltb}
use lib.ListN.{length, take}
use lib.Ieee.{Float}
use borrow.Author.Tests.{ltb-true}
use Rattle.doubles.specs.Num.{finite}
use Rattle.doubles.specs.Limits.{max_rows}
use Rattle.doubles.specs.Lists.{◌#◌}
use Rattle.doubles.proofs.Bools.{never}
use Rattle.doubles.proofs.Loops.{both_true}
use Rattle.rules.specs.Plan.{Plan, Problem, Memory, Workspace, problem_of, kept_rows, m_of, var_state_of, flags_of}
use Rattle.rules.specs.Invariant.{Fits}
use Rattle.rules.specs.declared.VarState.{VarState}
use Rattle.rules.specs.declared.VarState.TheVariants.{Basic, NonBasic}
use Rattle.state.specs.Packed.{packed, state_in, kept_at, objective_at}
use Rattle.state.specs.Memory.{memory_in, past_of}
use Rattle.state.specs.declared.Tally.{Tally}
use Rattle.state.proofs.Memory.{front_same}
use Rattle.plan.specs.Lent.{rows_of, Front}
use Rattle.run.specs.Lent.{Running}
use Rattle.fix_rules.specs.Kept.{kept_state}
use Rattle.fix_rules.specs.Fix.{is_fixed, fixed, unfixed}
use Rattle.fix_rules.specs.Calls.{Called, passes43, passes44, close_call, fix_plan, unfix_plan}
use Rattle.fix_rules.specs.declared.FixAnswer.{FixAnswer}
use Rattle.fix_rules.specs.declared.FixAnswer.TheVariants.{BadValue, NotFixed}
use Rattle.fix_rules.proofs.Never41.{fixed_honest, unfixed_honest}
use Rattle.fix_gate.specs.Gate.{fix_refusal, unfix_refusal}
use Rattle.std.specs.Prelude.{Some, None}
use Rattle.fix_gate.proofs.Laws.{Known, known, goes_by, fix_by, unfix_by, all_passed}
use Rattle.fix_ends.specs.Ends.{handed_call, called_by}
use Rattle.fix_parts.proofs.Laws.{uncounted, uncounted_fits, fits_all, numbers_long, doubles_long, honest, fits, lent_sized, lent_sound}

-- ---- a refusal
module _ (p : Plan) (v : List Float) (N : List ℕ) (D : List Float) (F : List ℕ) (G : List Float) (j : ℕ) (a : FixAnswer) where
  pub fix_refuses : (value : Float) → Some a ≡ fix_refusal p (memory_in v N D F G) j value
      → called_by a v N D F G ≡ handed_call (fix_plan p j value (memory_in v N D F G)) (past_of N D)
  fix_refuses value e =
      let m = memory_in v N D F G in
      let P = problem_of p in
      ap (λ (c : Called). handed_call c (past_of N D))
      (ap (goes_by p m (close_call P m (fixed P (kept_state P m) j value))) e ∙ sym (fix_by p m j value))

  pub unfix_refuses : Some a ≡ unfix_refusal p (memory_in v N D F G) j
      → called_by a v N D F G ≡ handed_call (unfix_plan p j (memory_in v N D F G)) (past_of N D)
  unfix_refuses e =
      let m = memory_in v N D F G in
      let P = problem_of p in
      ap (λ (c : Called). handed_call c (past_of N D))
      (ap (goes_by p m (close_call P m (unfixed P (kept_state P m) j))) e ∙ sym (unfix_by p m j))

-- ---- what holds once nothing is refused
module _ (p : Plan) (v : List Float) (N : List ℕ) (D : List Float) (F : List ℕ) (G : List Float) (j : ℕ) where
  abbrev m : Memory
  m = memory_in v N D F G

  pub fix_known : (value : Float) → None ≡ fix_refusal p m j value → Known p v N D F G j × (passes43 p j value ≡ true)
  unfolding fix_refusal
  fix_known value e =
      let a = all_passed _ (passes43 p j value) BadValue e in
      (known p v N D F G j a.0, a.1)

  pub unfix_known : None ≡ unfix_refusal p m j → Known p v N D F G j × (passes44 p m j ≡ true)
  unfolding unfix_refusal
  unfix_known e =
      let a = all_passed _ (passes44 p m j) NotFixed e in
      (known p v N D F G j a.0, a.1)

  -- a fixed column is non_basic
  pub fixed_place : passes44 p m j ≡ true → m.ws.var_states # j < p.columns
  unfolding is_fixed var_state_of
  fixed_place e = go (ltb cell p.columns) refl e
    where
      cell : ℕ
      cell = m.ws.var_states # j

      marks : VarState → Bool
      marks x = elim x [ NonBasic c ↦ (flags_of (m.ws.flags # c)).«fixed» | Basic r ↦ false ]

      go : (b : Bool) → ltb cell p.columns ≡ b → marks (elim b [ true ↦ NonBasic cell | false ↦ Basic (cell - p.columns) ]) ≡ true
          → cell < p.columns
      go true e q = ltb-true cell p.columns e
      go false e q = never q refl

  -- the state was taken up: what its own run asks
  module _ (k : Known p v N D F G j) (l : List ℕ) (n : ℕ) (ks : List ℕ)
      (f : Front (kept_rows (rows_of 0 p.rows p.starts [])) l n ks) (scratch : length ks ≡ max_rows)
      (H : List ℕ) (J : List Float) (t : Tally)
      (st : (Q : Problem) (w : List Float) → m_of Q ≡ n → state_in N D H J t ≡ kept_state Q (memory_in w N D F G)) where
    pub runs : Running p.columns p.lowers p.uppers p.starts p.cols p.coeffs p.ops (take n ks)
        (take kept_at N) (take objective_at D) H J t
    runs =
        let o = k.memory in
        record {
          rows = p.rows;
          entries = p.entries;
          budget = p.budget;
          tolerance = p.tolerance;
          costs = p.costs;
          rhs = p.rhs;
          sized = lent_sized p v N D F G o l n ks f scratch H J t st;
          problem_fits = fits p v N D F G o l n ks f scratch;
          state_fits = (lent_sound p v N D F G o l n ks f scratch H J t st).fits;
        }

    pub place_lent : passes44 p m j ≡ true → (packed (take kept_at N) (take objective_at D)).var_states # j < p.columns
    place_lent e =
        let o = k.memory in
        subst (λ (w : Workspace). w.var_states # j < p.columns)
        (sym (front_same N D (numbers_long p v N D F G o) (doubles_long p v N D F G o))) (fixed_place e)

-- ---- the runs of the two calls
module _ (p : Plan) (v : List Float) (N : List ℕ) (D : List Float) (F : List ℕ) (G : List Float) (j : ℕ) (k : Known p v N D F G j) where
  abbrev mem : Memory
  mem = memory_in v N D F G

  pub fix_fits : (value : Float) → passes43 p j value ≡ true
      → Fits (problem_of p) (uncounted (fixed (problem_of p) (kept_state (problem_of p) mem) j value).state)
  unfolding passes43
  fix_fits value o =
      let P = problem_of p in
      uncounted_fits P (fixed P (kept_state P mem) j value).state
      (fixed_honest P (fits_all p v N D F G k.memory) (kept_state P mem) (honest p v N D F G k.memory) value j k.column
      (both_true (finite value) _ o).0).sound.fits

  pub unfix_fits : Fits (problem_of p) (uncounted (unfixed (problem_of p) (kept_state (problem_of p) mem) j).state)
  unfix_fits =
      let P = problem_of p in
      uncounted_fits P (unfixed P (kept_state P mem) j).state
      (unfixed_honest P (fits_all p v N D F G k.memory) (kept_state P mem) (honest p v N D F G k.memory) j).sound.fits

  pub fix_goes : (value : Float) → None ≡ fix_refusal p mem j value → let P = problem_of p in
      close_call P mem (fixed P (kept_state P mem) j value) ≡ fix_plan p j value mem
  fix_goes value e =
      let P = problem_of p in
      ap (goes_by p mem (close_call P mem (fixed P (kept_state P mem) j value))) e ∙ sym (fix_by p mem j value)

  pub unfix_goes : None ≡ unfix_refusal p mem j → let P = problem_of p in
      close_call P mem (unfixed P (kept_state P mem) j) ≡ unfix_plan p j mem
  unfix_goes e =
      let P = problem_of p in
      ap (goes_by p mem (close_call P mem (unfixed P (kept_state P mem) j))) e ∙ sym (unfix_by p mem j)
