-- What the parts of the run ask, and how it ends. Assumes nothing.
use mathlib.Core.Path.{◌≡◌, refl, sym, ap, ◌∙◌, subst}
use mathlib.Core.Bool.{Bool, true, false}
use mathlib.Core.List.{List}
use Prim.Native.Nat.{ℕ, ◌+◌, ◌-◌, ◌≤◌}
use native.Mathlib.Omega.{arith}
use lib.ListN.{length}
use lib.Ieee.{Float}
use Rattle.doubles.specs.Limits.{max_budget}
use Rattle.rules.specs.Plan.{Problem, Workspace, State, column}
use Rattle.rules.specs.Parts.{plan_of, problem, factored_of, state_with}
use Rattle.rules.specs.Step.{Ended, ended, run_of}
use Rattle.rules.specs.Invariant.{ProblemFits, Sound}
use Rattle.rules.specs.declared.Stop.{Stop}
use Rattle.rules.proofs.Steps.{steps_sound}
use Rattle.state.specs.Packed.{state_in}
use Rattle.state.specs.declared.Tally.{Tally}
use Rattle.step_refactor.specs.Left.{on, off}
use Rattle.step.proofs.Laws.{stepped_of}
use Rattle.run.specs.Lent.{Running}
use Rattle.run.proofs.Primal.{run_part}
use Rattle.run_launch.specs.Launched.{gone_on}
use Rattle.fix_rules.proofs.Goes.{run_goes}
use Rattle.reprice_rules.specs.Reprice.{Ready, ready, halts, has_no_etas, settled, cost_of, basic_costs, multipliers, price_of, objective_of, priced_finite, priced_if, priced_by, priced, then_priced, repriced, own_factorings, goes_on, reprice_end}
use Rattle.reprice_rules.specs.Meaning.{Own, stops, prices, Priced}
use Rattle.reprice_rules.proofs.Own.{own_part, priced_steps}
use Rattle.reprice_rules.proofs.Sound.{priced_sound}
use Rattle.reprice_prices.specs.Lent.{priced_of}
use Rattle.reprice_prices.specs.Left.{after_own}
use Rattle.reprice_store.specs.Lent.{Pricing}
use Rattle.reprice_run.specs.Lent.{pricing_of, counting, counted_end, Repricing}

-- none counted leaves an end as it is
none_more : (e : Ended) → e ≡ counting 0 e
none_more e =
    let s = e.state in
    let F = s.factor in
    let same : F.times ≡ F.times + 0 = omega arith in
    ap (λ (k : ℕ). ended e.why (state_with s.ws s.eta_count s.objective s.steps
    (factored_of F.there k F.numbers F.coeffs))) same

-- ---- the own part reads of the problem its costs and rows
abbrev priced_for : Problem → Problem
priced_for P = let p = P.plan in priced_of p.columns p.costs p.starts p.cols p.coeffs P.kept

module _ (P : Problem) (s : State) where
  settled_reads : settled (priced_for P) s ≡ settled P s
  unfolding settled column
  settled_reads = refl

  priced_reads : (t : State) → priced (priced_for P) t ≡ priced P t
  unfolding priced multipliers basic_costs priced_finite priced_by price_of objective_of cost_of column
  priced_reads t = go (priced_finite P t (multipliers P t))
    where
      go : (b : Bool) → priced_if b (priced_for P) t (multipliers P t) ≡ priced_if b P t (multipliers P t)
      go true = refl
      go false = refl

  own_reads : repriced (priced_for P) s ≡ repriced P s
  unfolding repriced
  own_reads = ap (then_priced (priced_for P)) settled_reads ∙ go (settled P s)
    where
      go : (o : Ready) → then_priced (priced_for P) o ≡ then_priced P o
      go (ready t) = priced_reads t
      go (halts w) = refl

  -- the arrays hold the state before the call
  pub own_halts : (why : Stop) (w : Workspace) (F : List ℕ) (G : List Float)
      → off why w F G ≡ after_own s (repriced (priced_for P) s)
      → ended why (state_with w s.eta_count s.objective s.steps (factored_of s.factor.there s.factor.times F G))
      ≡ counted_end P s
  unfolding counted_end reprice_end
  own_halts why w F G q = go (repriced P s) (q ∙ ap (after_own s) own_reads)
    where
      go : (o : Ready) → off why w F G ≡ after_own s o
          → ended why (state_with w s.eta_count s.objective s.steps (factored_of s.factor.there s.factor.times F G))
          ≡ counting (own_factorings s o) (goes_on P s o)
      go (ready t) q = absurd (let z : ◌≡◌ {A = ℕ} 0 1 = cc in omega arith)
      go (halts v) q =
          let a : why ≡ v = cc in
          let b : w ≡ s.ws = cc in
          let d : F ≡ s.factor.numbers = cc in
          let e : G ≡ s.factor.coeffs = cc in
          rw (a, b, d, e) (none_more (ended v s))

  -- they hold the state t to go on from
  module _ (t : State) (q : on t ≡ after_own s (repriced (priced_for P) s)) where
    is_ready : repriced P s ≡ ready t
    is_ready = go (repriced P s) (q ∙ ap (after_own s) own_reads)
      where
        go : (o : Ready) → on t ≡ after_own s o → o ≡ ready t
        go (ready u) q = let e : t ≡ u = cc in ap ready (sym e)
        go (halts w) q = absurd (let z : ◌≡◌ {A = ℕ} 0 1 = cc in omega arith)

    made : Priced P s t
    made = go (own_part P s) is_ready
      where
        go : {o : Ready} → Own P s o → o ≡ ready t → Priced P s t
        go (stops x) e = absurd (let z : ◌≡◌ {A = ℕ} 0 1 = cc in omega arith)
        go (prices {t = u} x) e = let same : u ≡ t = cc in subst (Priced P s) same x

    module _ (none : s.steps ≡ 0) (z : Ended) (ez : z ≡ gone_on (stepped_of P) false P.plan.budget t) where
      ran : z ≡ run_of P P.plan.budget t
      unfolding gone_on
      ran =
          let all : P.plan.budget - t.steps ≡ P.plan.budget = omega (arith, none, priced_steps made) in
          ez ∙ sym (run_part P (P.plan.budget - t.steps) t) ∙ ap (λ (b : ℕ). run_of P b t) all

      ended_at : (b : Bool) → has_no_etas s ≡ b
          → counting (elim b [ true ↦ 0 | false ↦ 1 ]) z ≡ counted_end P s
      unfolding counted_end reprice_end
      ended_at b e =
          ap (λ (x : Ended). counting (elim b [ true ↦ 0 | false ↦ 1 ]) x) ran
          ∙ sym (ap (λ (c : Bool). counting (elim c [ true ↦ 0 | false ↦ 1 ]) (run_of P P.plan.budget t)) e)
          ∙ sym (ap (λ (o : Ready). counting (own_factorings s o) (goes_on P s o)) is_ready)

      pub none_counted : has_no_etas s ≡ true → z ≡ counted_end P s
      none_counted e = none_more z ∙ ended_at true e

      pub one_counted : has_no_etas s ≡ false → counting 1 z ≡ counted_end P s
      one_counted e = ended_at false e

      -- factorings are never above the steps of a run
      pub few_factorings : ProblemFits P → Sound P s → z.state.factor.times ≤ P.plan.budget
      few_factorings p h =
          let g = run_goes P t (priced_steps made ∙ none) in
          let f = (steps_sound P t p (priced_sound p h made) g.by_steps).fits in
          subst (λ (x : Ended). x.state.factor.times ≤ P.plan.budget) (sym ran) (omega (arith, f.factorings, g.within))

-- ---- for the caller: the run reads only a part of its problem
abbrev pub pricing_for : Problem → Problem
pricing_for P =
    let p = P.plan in
    pricing_of p.columns p.budget p.costs p.lowers p.uppers p.starts p.cols p.coeffs p.ops P.kept

module _ (P : Problem) (s : State) where
  pub counted_part : counted_end (pricing_for P) s ≡ counted_end P s
  unfolding counted_end reprice_end
  counted_part =
      ap (λ (o : Ready). counting (own_factorings s o) (goes_on Q s o)) (sym (own_reads Q s) ∙ own_reads P s) ∙ go (repriced P s)
    where
      Q : Problem
      Q = pricing_for P

      go : (o : Ready) → counting (own_factorings s o) (goes_on Q s o) ≡ counting (own_factorings s o) (goes_on P s o)
      go (ready t) =
          let k = P.plan.budget in
          ap (counting (own_factorings s (ready t))) (run_part Q k t ∙ sym (run_part P k t))
      go (halts w) = refl

-- ---- what the calls ask
module _ {n budget : ℕ} {costs lowers uppers : List Float} {starts cols : List ℕ} {coeffs : List Float} {ops kept : List ℕ}
    {N : List ℕ} {D : List Float} {F : List ℕ} {G : List Float} {t : Tally}
    (a : Repricing n budget costs lowers uppers starts cols coeffs ops kept N D F G t) where
  abbrev P : Problem
  P = problem (plan_of n a.rows a.entries budget a.tolerance costs lowers uppers starts cols coeffs ops a.rhs) kept

  pub own_asks : Pricing n costs starts cols coeffs kept N D F G t
  own_asks =
      record {
        rows = a.rows;
        entries = a.entries;
        budget = budget;
        tolerance = a.tolerance;
        lowers = lowers;
        uppers = uppers;
        ops = ops;
        rhs = a.rhs;
        sized = a.sized;
        problem_fits = a.problem_fits;
        state_fits = a.state_sound.fits;
      }

  -- a run may go on from where the own part leads
  pub goes_asks : (M : List ℕ) (E : List Float) (H : List ℕ) (J : List Float) (u : Tally) → length M ≡ length N → length E ≡ length D
      → on (state_in M E H J u) ≡ after_own (state_in N D F G t) (repriced (priced_of n costs starts cols coeffs kept) (state_in N D F G t))
      → Running n lowers uppers starts cols coeffs ops kept M E H J u
  goes_asks M E H J u hn hd q =
      record {
        rows = a.rows;
        entries = a.entries;
        budget = budget;
        tolerance = a.tolerance;
        costs = costs;
        rhs = a.rhs;
        sized = record { numbers_long = hn ∙ a.sized.numbers_long; doubles_long = hd ∙ a.sized.doubles_long };
        problem_fits = a.problem_fits;
        state_fits = (priced_sound a.problem_fits a.state_sound (made P (state_in N D F G t) (state_in M E H J u) q)).fits;
      }

  -- and its factorings may be counted on
  pub count_fits : (M : List ℕ) (E : List Float) (H : List ℕ) (J : List Float) (u : Tally)
      → on (state_in M E H J u) ≡ after_own (state_in N D F G t) (repriced (priced_of n costs starts cols coeffs kept) (state_in N D F G t))
      → (z : Ended) → z ≡ gone_on (stepped_of P) false budget (state_in M E H J u) → z.state.factor.times ≤ max_budget
  count_fits M E H J u q z ez =
      omega (
        arith,
        a.problem_fits.plan.budget_most,
        few_factorings P (state_in N D F G t) (state_in M E H J u) q a.no_steps z ez a.problem_fits a.state_sound,
      )
