-- Each answer of a call's gate by its tests, what it is to the whole call, and what holds once it refuses nothing. Assumes
-- nothing.
use mathlib.Core.Path.{◌≡◌, refl, sym, ap, ◌∙◌}
use mathlib.Core.Bool.{Bool, true, false, not, ◌&&◌}
use mathlib.Core.List.{List, []}
use Prim.Native.Nat.{ℕ, ◌+◌, ◌<◌, ◌≤◌}
use native.Mathlib.Omega.{arith}
use lib.Dec.{eqb}
use lib.ListN.{length}
use lib.Ieee.{Float, lt}
use borrow.Author.Tests.{ltb-true}
use Rattle.doubles.specs.Num.{f0, finite}
use Rattle.doubles.specs.Limits.{max_columns, max_rows, vars}
use Rattle.doubles.specs.Lists.{◌!◌, ◌#◌}
use Rattle.lu_factor_rules.specs.Packed.{all_factor_numbers, all_factor_coeffs}
use Rattle.rules.specs.Plan.{Plan, Memory, Problem, problem_of, kept_rows, var_state_of, flags_of}
use Rattle.rules.specs.Parts.{plan_of, problem}
use Rattle.rules.specs.Refusals.{sizes_fit, plan_long, memory_long, starts_rise, passes1, passes2, first_bad_row, first_bad_in, first_crossed, first_false}
use Rattle.rules.specs.Solve.{or_else, or_refused}
use Rattle.rules.specs.Invariant.{ProblemFits}
use Rattle.rules.specs.declared.Answer.{Answer}
use Rattle.rules.specs.declared.Answer.TheVariants.{BadSize, BadNumber, BadEntry, CrossedBounds, FalseEmptyRow}
use Rattle.rules.specs.declared.VarState.{VarState}
use Rattle.rules.specs.declared.VarState.TheVariants.{Basic, NonBasic}
use Rattle.rules.proofs.Start.{passed_fits}
use Rattle.state.specs.Packed.{packed, var_states_at, flag_cells_at}
use Rattle.state.specs.Memory.{memory_in, numbers_end, doubles_end}
use Rattle.state.proofs.Sections.{section_at}
use Rattle.plan.specs.Refused.{refusal_of}
use Rattle.plan.specs.Refused as Plan
use Rattle.std.specs.Prelude.{Option, Some, None}
use Rattle.start_gate.specs.Gate.{refusal_by}
use Rattle.start_gate.proofs.Gate.{Accepted, accepted}
use Rattle.start_gate.proofs.Long.{Long, arrays_long}
use Rattle.state_maps.specs.Maps.{maps_fine}
use Rattle.fix_rules.specs.Kept.{passes41, kept_state}
use Rattle.fix_rules.specs.Fix.{is_fixed, fixed, unfixed}
use Rattle.fix_rules.specs.Calls.{Called, called, passes42, passes43, passes44, close_call, or_refused_call, fix_plan, unfix_plan}
use Rattle.fix_rules.specs.declared.FixAnswer.{FixAnswer}
use Rattle.fix_rules.specs.declared.FixAnswer.TheVariants.{Told, NotKept, BadColumn, BadValue, NotFixed}
use Rattle.fix_gate.specs.Gate as Gate
use Rattle.fix_gate.specs.Gate.{passing, kept_refusal, call_refusal, fix_refusal, unfix_refusal}

-- ---- 1 to 5 of any call, by the answer of the gate of a solve
module _ {A : Type 0} (p : Plan) (m : Memory) (says : Answer → A) (r : A) where
  abbrev pub says_by : Option Answer → A
  says_by (Some a) = says a
  says_by None = r

  rung : (b : Bool) (a : Answer) (x : A) (y : Option Answer) → x ≡ says_by y → or_else b (says a) x ≡ says_by (Plan.passing b a y)
  rung true a x y e = e
  rung false a x y e = refl

  ladder : (b : Bool) (x : A) (y : Option Answer) → x ≡ says_by y
      → or_else (b && starts_rise p) (says BadSize) x ≡ says_by (Plan.passing b BadSize (Plan.passing (starts_rise p) BadSize y))
  ladder true x y e = rung (starts_rise p) BadSize x y e
  ladder false x y e = refl

  pub refused_by_holds : or_refused p m says r ≡ says_by (refusal_by p m)
  unfolding passes1 refusal_by refusal_of
  refused_by_holds =
      ladder (sizes_fit p && plan_long p && memory_long p m) _ _
      (rung (passes2 p) BadNumber _ _
      (rung (eqb (first_bad_row p) p.rows) (BadEntry (first_bad_row p) (first_bad_in p (first_bad_row p))) _ _
      (rung (eqb (first_crossed p) p.columns) (CrossedBounds (first_crossed p)) _ _
      (rung (eqb (first_false p) p.rows) (FalseEmptyRow (first_false p)) r None refl))))

-- ---- the last rung of a gate, behind the gate before it
module _ (x : Option FixAnswer) where
  pub stays_refused : (y : Option FixAnswer) (a : FixAnswer) → x ≡ Some a → Some a ≡ Gate.or_else x y
  stays_refused y a e = sym (ap (λ (x : Option FixAnswer). Gate.or_else x y) e)

  module _ (e : x ≡ None) where
    pub last_refuses : (b : Bool) (a : FixAnswer) → b ≡ false → Some a ≡ Gate.or_else x (passing b a None)
    last_refuses b a f = sym (ap (λ (x : Option FixAnswer). Gate.or_else x (passing b a None)) e ∙ ap (λ (b : Bool). passing b a None) f)

    pub last_passes : (b : Bool) (a : FixAnswer) → b ≡ true → None ≡ Gate.or_else x (passing b a None)
    last_passes b a f = sym (ap (λ (x : Option FixAnswer). Gate.or_else x (passing b a None)) e ∙ ap (λ (b : Bool). passing b a None) f)

  -- the other way: nothing was refused
  pub all_passed : (b : Bool) (a : FixAnswer) → None ≡ Gate.or_else x (passing b a None) → (None ≡ x) × (b ≡ true)
  all_passed b a e = go x b e
    where
      go : (x : Option FixAnswer) (b : Bool) → None ≡ Gate.or_else x (passing b a None) → (None ≡ x) × (b ≡ true)
      go (Some c) b e = absurd (let z : ◌≡◌ {A = ℕ} 0 1 = cc in omega arith)
      go None true e = (refl, refl)
      go None false e = absurd (let z : ◌≡◌ {A = ℕ} 0 1 = cc in omega arith)

-- ---- `kept_refusal`
module _ (p : Plan) (v : List Float) (N : List ℕ) (D : List Float) (F : List ℕ) (G : List Float) where
  abbrev m : Memory
  m = memory_in v N D F G

  -- 41 reads of the plan its sizes and starts, and of the memory all but the values
  pub kept_part : passes41 p m ≡ passes41 (plan_of p.columns p.rows 0 0 f0 [] [] [] p.starts [] [] [] []) (memory_in [] N D F G)
  unfolding passes41 maps_fine kept_rows
  kept_part = refl

  abbrev rest : Option FixAnswer
  rest = passing (passes41 p m) NotKept None

  abbrev from : Option Answer → Option FixAnswer
  from r = elim r [ Some a ↦ Some (Told a) | None ↦ rest ]

  pub says_told : (a : Answer) → Some a ≡ refusal_by p m → Some (Told a) ≡ kept_refusal p m
  unfolding kept_refusal
  says_told a e = ap from e

  module _ (ok : None ≡ refusal_by p m) where
    is_rest : rest ≡ kept_refusal p m
    unfolding kept_refusal
    is_rest = ap from ok

    pub says_not_kept : passes41 p m ≡ false → Some NotKept ≡ kept_refusal p m
    says_not_kept e = sym (ap (λ (b : Bool). passing b NotKept None) e) ∙ is_rest

    pub says_kept : passes41 p m ≡ true → None ≡ kept_refusal p m
    says_kept e = sym (ap (λ (b : Bool). passing b NotKept None) e) ∙ is_rest

  -- what holds once 1 to 5 have passed
  module _ (ok : None ≡ refusal_by p m) where
    passed : Accepted p m
    passed = accepted p m ok

    pub plan_fits : ProblemFits (problem_of p)
    plan_fits = passed_fits p m passed.passes_1 passed.passes_2 passed.passes_3

    long : Long p v N D F G plan_fits.plan.columns_most plan_fits.plan.rows_most
    long = arrays_long p v N D F G plan_fits.plan.columns_most plan_fits.plan.rows_most passed.lent

    pub kept_asks : (p.columns ≤ max_columns) × (p.rows ≤ max_rows) × (p.rows < length p.starts) × (numbers_end ≤ length N)
        × (doubles_end ≤ length D) × (all_factor_numbers ≤ length F) × (all_factor_coeffs ≤ length G)
    kept_asks =
        let f = plan_fits.plan in
        (f.columns_most, f.rows_most, omega (arith, f.starts_long), long.numbers, long.doubles, long.factor_numbers, long.factor_coeffs)

  -- once 41 has too, and 42
  pub record Kept : Type 0 where
    pub refused_none : None ≡ refusal_by p m
    pub kept : passes41 p m ≡ true

  pub record Known (j : ℕ) : Type 0 where
    pub memory : Kept
    pub column : j < p.columns

  clash : {A : Type 0} → ◌≡◌ {A = ℕ} 0 1 → A
  clash e = absurd (omega arith)

  pub was_kept : None ≡ kept_refusal p m → Kept
  unfolding kept_refusal
  was_kept e = go (refusal_by p m) refl (passes41 p m) refl e
    where
      go : (r : Option Answer) → refusal_by p m ≡ r → (b : Bool) → passes41 p m ≡ b
          → ◌≡◌ {A = Option FixAnswer} None (elim r [ Some a ↦ Some (Told a) | None ↦ passing b NotKept None ]) → Kept
      go (Some a) er b eb e = clash cc
      go None er true eb e = record { refused_none = sym er; kept = eb }
      go None er false eb e = clash cc

  pub known : (j : ℕ) → None ≡ call_refusal p m j → Known j
  unfolding call_refusal
  known j e =
      let a = all_passed (kept_refusal p m) (passes42 p j) BadColumn e in
      record { memory = was_kept a.0; column = ltb-true j p.columns a.1 }

  -- what the last tests ask
  module _ (j : ℕ) (k : Known j) where
    pub inside_asks : (j < length p.lowers) × (j < length p.uppers)
    inside_asks =
        let f = (plan_fits k.memory.refused_none).plan in
        (omega (arith, k.column, f.lowers_long), omega (arith, k.column, f.uppers_long))

    pub fixed_asks : (p.columns ≤ max_columns) × (j < p.columns) × (numbers_end ≤ length N)
    fixed_asks = let a = kept_asks k.memory.refused_none in (a.0, k.column, a.3)

-- ---- `value_inside`
module _ (lowers uppers : List Float) (j : ℕ) (value : Float) where
  abbrev bounds : Plan
  bounds = plan_of 0 0 0 0 f0 [] lowers uppers [] [] [] [] []

  pub says_wild : finite value ≡ false → false ≡ passes43 bounds j value
  unfolding passes43
  says_wild e = rw (e, passes43)

  pub says_below : finite value ≡ true → lt value (lowers ! j) ≡ true → false ≡ passes43 bounds j value
  unfolding passes43
  says_below a e = rw (a, e, passes43)

  pub says_inside : finite value ≡ true → lt value (lowers ! j) ≡ false → not (lt (uppers ! j) value) ≡ passes43 bounds j value
  unfolding passes43
  says_inside a e = rw (a, e, passes43)

pub value_part : (p : Plan) (j : ℕ) (value : Float) → passes43 (bounds p.lowers p.uppers j value) j value ≡ passes43 p j value
unfolding passes43
value_part p j value = refl

-- ---- `is_fixed`
module _ (n : ℕ) (N : List ℕ) (D : List Float) (j : ℕ) (inside : j < vars) where
  abbrev sizes : Problem
  sizes = problem (plan_of n 0 0 0 f0 [] [] [] [] [] [] [] []) []

  abbrev cell : ℕ
  cell = N # (var_states_at + j)

  abbrev marks : VarState → Bool
  marks x = elim x [ NonBasic c ↦ (flags_of ((packed N D).flags # c)).«fixed» | Basic r ↦ false ]

  by_standing : (x : VarState) → var_state_of n cell ≡ x → marks x ≡ is_fixed sizes (packed N D) j
  unfolding is_fixed
  by_standing x e = sym (ap (λ (k : ℕ). marks (var_state_of n k)) (section_at var_states_at vars N j 0 inside) ∙ ap marks e)

  pub basic_loose : (r : ℕ) → var_state_of n cell ≡ Basic r → false ≡ is_fixed sizes (packed N D) j
  basic_loose r e = by_standing (Basic r) e

  pub place_marked : (c : ℕ) → var_state_of n cell ≡ NonBasic c → c < max_columns → (flags_of (N # (flag_cells_at + c))).«fixed» ≡ is_fixed sizes (packed N D) j
  place_marked c e h =
      ap (λ (x : ℕ). (flags_of x).«fixed») (sym (section_at flag_cells_at max_columns N c 0 h)) ∙ by_standing (NonBasic c) e

pub fixed_part : (p : Plan) (v : List Float) (N : List ℕ) (D : List Float) (F : List ℕ) (G : List Float) (j : ℕ)
    → is_fixed (problem (plan_of p.columns 0 0 0 f0 [] [] [] [] [] [] [] []) []) (packed N D) j ≡ passes44 p (memory_in v N D F G) j
unfolding is_fixed
fixed_part p v N D F G j = refl

-- ---- the whole calls by the answer
module _ (p : Plan) (m : Memory) where
  -- the rest of a call after the gate
  abbrev pub goes_by : Called → Option FixAnswer → Called
  goes_by c (Some a) = called a m
  goes_by c None = c

  tested : (b : Bool) (a : FixAnswer) (c : Called) → or_else b (called a m) c ≡ goes_by c (passing b a None)
  tested true a c = refl
  tested false a c = refl

  -- one rung more
  joined : (x : Option FixAnswer) (b : Bool) (a : FixAnswer) (c : Called)
      → goes_by (or_else b (called a m) c) x ≡ goes_by c (Gate.or_else x (passing b a None))
  joined (Some d) b a c = refl
  joined None b a c = tested b a c

  pub kept_by : (c : Called)
      → or_refused p m (λ a. called (Told a) m) (or_else (passes41 p m) (called NotKept m) c) ≡ goes_by c (kept_refusal p m)
  unfolding kept_refusal
  kept_by c = refused_by_holds p m (λ a. called (Told a) m) _ ∙ go (refusal_by p m)
    where
      go : (r : Option Answer)
          → says_by p m (λ a. called (Told a) m) (or_else (passes41 p m) (called NotKept m) c) r
          ≡ goes_by c (elim r [ Some a ↦ Some (Told a) | None ↦ passing (passes41 p m) NotKept None ])
      go (Some a) = refl
      go None = tested (passes41 p m) NotKept c

  module _ (j : ℕ) where
    call_by : (c : Called) → or_refused_call p m j c ≡ goes_by c (call_refusal p m j)
    unfolding call_refusal
    call_by c = kept_by _ ∙ joined (kept_refusal p m) (passes42 p j) BadColumn c

    pub fix_by : (value : Float) → let P = problem_of p in
        fix_plan p j value m ≡ goes_by (close_call P m (fixed P (kept_state P m) j value)) (fix_refusal p m j value)
    unfolding fix_plan fix_refusal
    fix_by value = call_by _ ∙ joined (call_refusal p m j) (passes43 p j value) BadValue _

    pub unfix_by : let P = problem_of p in
        unfix_plan p j m ≡ goes_by (close_call P m (unfixed P (kept_state P m) j)) (unfix_refusal p m j)
    unfolding unfix_plan unfix_refusal
    unfix_by = call_by _ ∙ joined (call_refusal p m j) (passes44 p m j) NotFixed _
