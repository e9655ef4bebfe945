-- docs/RULES-02.md, "Beyond: reprice": "1 to 5 as solve gives them, for the plan with its new costs; then 41 as for
-- fix": each is given exactly when its words hold and those of no lower one do. Assumes nothing.
use mathlib.Core.Path.{◌≡◌, refl, sym, ap, ◌∙◌, subst}
use mathlib.Core.Bool.{Bool, true, false}
use mathlib.Core.Logic.{◌↔◌, ◌⊎◌, inl, inr, ⊎_elim}
use Prim.Native.Nat.{ℕ, ◌<◌, ◌≤◌}
use native.Mathlib.Omega.{arith}
use lib.Dec.{eqb}
use borrow.Author.Tests.{le-ltb}
use Rattle.doubles.proofs.Bools.{never}
use Rattle.rules.specs.Plan.{Plan, Memory, Problem, problem_of}
use Rattle.rules.specs.Refusals.{passes1, passes2, first_bad_row, first_crossed, first_false}
use Rattle.rules.specs.Step.{Ended}
use Rattle.rules.specs.Answers.{as_row}
use Rattle.rules.specs.Solve.{close, or_else}
use Rattle.rules.specs.declared.Answer.TheVariants.{BadSize, BadNumber, BadEntry, CrossedBounds, FalseEmptyRow}
use Rattle.fix_rules.specs.declared.FixAnswer.TheVariants.{Told, NotKept, BadColumn, NotFixed}
use Rattle.fix_rules.specs.Kept.{kept_state, passes41}
use Rattle.fix_rules.specs.Fix.{unfixed}
use Rattle.fix_rules.specs.Calls.{Called, called, as_fix_row, close_call, passes42, passes44, unfix_plan}
use Rattle.fix_rules.specs.Sequence.{Call, unfix, call_plan}
use Rattle.fix_rules.specs.Meaning.{CallGives, NoneBelowCall, Refuses, call_number, CallRefusal}
use Rattle.fix_rules.specs.Meaning.{as_solve as call-as-solve, not_kept as call-not-kept, unknown, not_fixed}
use Rattle.fix_rules.proofs.Refusals.{late, call_refusal_exact, call_refusal_says}
use Rattle.reprice_rules.specs.Reprice.{repriced, reprice_end, own_factorings}
use Rattle.reprice_rules.specs.Calls.{close_repriced, reprice_plan}
use Rattle.reprice_rules.proofs.Costless.{Five, through}
use Rattle.reprice_rules.specs.Meaning.{RepriceGives, as_solve, not_kept, NoneBelowReprice, RepriceRefuses, Accepted}

-- ---- the number of a call that goes on
pub closed_number : (P : Problem) (m : Memory) (k : ℕ) (e : Ended)
    → (call_number (close_repriced P m k e) ≡ 0) ⊎ ((20 ≤ call_number (close_repriced P m k e)) × (call_number (close_repriced P m k e) ≤ 26))
unfolding close_repriced close as_fix_row
closed_number P m k e = late P e.why e.state

-- ---- a fix or an unfix asks 1 to 5 and 41 first, too: the call u of one and this one, v, are refused alike, or go on
-- as w and y
data Beside (w y : Called) : Called → Called → Type 0 where
  alike : {r : Called} → RepriceRefuses (call_number r) → Beside w y r r
  apart : Beside w y w y

asked : {w y u v : Called} (b : Bool) (r : Called) → RepriceRefuses (call_number r) → Beside w y u v
    → Beside w y (or_else b r u) (or_else b r v)
asked true r l n = n
asked false r l n = alike l

module _ (p : Plan) (m : Memory) where
  abbrev P : Problem
  P = problem_of p

  -- an unfix of a column that the plan hasn't, so that it is always refused
  abbrev stranger : Call
  stranger = unfix p.columns

  abbrev strange : Called
  strange =
      or_else (passes42 p p.columns) (called BadColumn m)
      (or_else (passes44 p m p.columns) (called NotFixed m)
      (close_call P m (unfixed P (kept_state P m) p.columns)))

  abbrev goes_on : Called
  goes_on =
      let s = kept_state P m in
      close_repriced P m (own_factorings s (repriced P s)) (reprice_end P s)

  beside : Beside strange goes_on (call_plan p stranger m) (reprice_plan p m)
  unfolding unfix_plan reprice_plan as_fix_row as_row
  beside =
      asked (passes1 p m) (called (Told BadSize) m) (inl (omega arith, omega arith))
      (asked (passes2 p) (called (Told BadNumber) m) (inl (omega arith, omega arith))
      (asked (eqb (first_bad_row p) p.rows) (called (Told (BadEntry _ _)) m) (inl (omega arith, omega arith))
      (asked (eqb (first_crossed p) p.columns) (called (Told (CrossedBounds _)) m) (inl (omega arith, omega arith))
      (asked (eqb (first_false p) p.rows) (called (Told (FalseEmptyRow _)) m) (inl (omega arith, omega arith))
      (asked (passes41 p m) (called NotKept m) (inr refl) apart)))))

  unknown_told : (b : Bool) (r : Called) → b ≡ false → call_number (or_else b (called BadColumn m) r) ≡ 42
  unfolding as_fix_row
  unknown_told true r q = never refl q
  unknown_told false r q = refl

  strange_told : call_number strange ≡ 42
  strange_told = unknown_told (passes42 p p.columns) _ (le-ltb p.columns p.columns (omega arith))

  -- ---- the words of both
  to_call : {k : ℕ} → RepriceGives p m k → CallGives p m stranger k
  to_call (as_solve k h g) = call-as-solve k h g
  to_call (not_kept u) = call-not-kept u

  from_call : {k : ℕ} → k < 42 → CallGives p m stranger k → RepriceGives p m k
  from_call l (call-as-solve k h g) = as_solve k h g
  from_call l (call-not-kept u) = not_kept u
  from_call l (unknown u) = absurd (omega arith)
  from_call l (not_fixed u) = absurd (omega arith)

  words : {k : ℕ} → k < 42 → CallGives p m stranger k × NoneBelowCall k p m stranger → RepriceGives p m k × NoneBelowReprice k p m
  words l x = (from_call l x.0, λ j h g. x.1 j h (to_call g))

  words_back : {k : ℕ} → k < 42 → RepriceGives p m k × NoneBelowReprice k p m → CallGives p m stranger k × NoneBelowCall k p m stranger
  words_back l x = (to_call x.0, λ j h g. x.1 j h (from_call (omega arith) g))

  below : {k : ℕ} → RepriceRefuses k → k < 42
  below range = ⊎_elim (λ x. omega (arith, x.1)) (λ q. omega (arith, q)) range

  as_call : {k : ℕ} → RepriceRefuses k → Refuses k
  as_call range = ⊎_elim inl (λ q. inr (omega (arith, q), omega (arith, q))) range

  module _ (k : ℕ) (range : RepriceRefuses k) where
    not_late : ¬ (call_number goes_on ≡ k)
    not_late q =
        let n = closed_number P m (own_factorings (kept_state P m) (repriced P (kept_state P m))) (reprice_end P (kept_state P m)) in
        ⊎_elim (λ z. ⊎_elim (λ x. omega (arith, q, z, x.0)) (λ x. omega (arith, q, z, x)) range)
        (λ z. ⊎_elim (λ x. omega (arith, q, z.0, x.1)) (λ x. omega (arith, q, z.1, x)) range) n

    exact : {u v : Called} → Beside strange goes_on u v
        → (call_number u ≡ k) ↔ (CallGives p m stranger k × NoneBelowCall k p m stranger)
        → (call_number v ≡ k) ↔ (RepriceGives p m k × NoneBelowReprice k p m)
    exact (alike l) c = (λ q. words (below range) (c.0 q), λ x. c.1 (words_back (below range) x))
    exact apart c = (
      λ q. absurd (not_late q),
      λ x. absurd (omega (arith, strange_told, c.1 (words_back (below range) x), below range)),
    )

    -- "1 to 5 as solve gives them …; then 41 as for fix": exactly when it is called for and none below it is
    pub reprice_refusal_exact : (call_number (reprice_plan p m) ≡ k) ↔ (RepriceGives p m k × NoneBelowReprice k p m)
    reprice_refusal_exact = exact beside (call_refusal_exact p m stranger k (as_call range))

    says_so : {u v : Called} → Beside strange goes_on u v → (call_number u ≡ k → CallRefusal k p m u) → call_number v ≡ k
        → CallRefusal k p m v
    says_so (alike l) c q = c q
    says_so apart c q = absurd (not_late q)

    -- every lent cell stays, objective +0.0, 0 steps, and the place is the one that solve names
    pub reprice_refusal_says : call_number (reprice_plan p m) ≡ k → CallRefusal k p m (reprice_plan p m)
    reprice_refusal_says = says_so beside (call_refusal_says p m stranger k (as_call range))

  -- it is refused, or no refusal is called for and its end settles the answer and every lent cell
  pub data RepriceCase : Called → Type 0 where
    refused : {r : Called} (k : ℕ) → RepriceRefuses k → CallRefusal k p m r → RepriceCase r
    accepted : Accepted p m → RepriceCase goes_on

  pub reprice_cases : RepriceCase (reprice_plan p m)
  reprice_cases = go beside refl refl
    where
      go : {u v : Called} → Beside strange goes_on u v → call_plan p stranger m ≡ u → reprice_plan p m ≡ v → RepriceCase v
      go {v = v} (alike l) z q =
          refused (call_number v) l
          (subst (λ (r : Called). CallRefusal (call_number v) p m r) q
          (reprice_refusal_says (call_number v) l (ap (λ (r : Called). call_number r) q)))
      go apart z q =
          let g = call_refusal_exact p m stranger 42 (inr (omega arith, omega arith)) in
          let n = (g.0 (ap (λ (r : Called). call_number r) z ∙ strange_told)).1 in
          accepted (λ j h x. n j h (to_call x))

  closes : {r : Called} → RepriceCase r → r ≡ reprice_plan p m → Accepted p m → r ≡ goes_on
  closes (refused k l says) q n =
      absurd (n k (below l) ((reprice_refusal_exact k l).0 (ap (λ (r : Called). call_number r) (sym q) ∙ says.number)).0)
  closes (accepted a) q n = refl

  pub reprice_closes : Accepted p m
      → reprice_plan p m ≡ close_repriced (problem_of p) m (own_factorings (kept_state (problem_of p) m) (repriced (problem_of p) (kept_state (problem_of p) m))) (reprice_end (problem_of p) (kept_state (problem_of p) m))
  reprice_closes = closes reprice_cases refl

  ran : {r : Called} → RepriceCase r → (call_number r ≡ 0) ⊎ ((20 ≤ call_number r) × (call_number r ≤ 26)) → Accepted p m
  ran (refused k l says) q =
      absurd (⊎_elim
      (λ z. ⊎_elim (λ x. omega (arith, says.number, z, x.0)) (λ x. omega (arith, says.number, z, x)) l)
      (λ z. ⊎_elim (λ x. omega (arith, says.number, z.0, x.1)) (λ x. omega (arith, says.number, z.1, x)) l)
      q)
  ran (accepted n) q = n

  -- an answer of 0 or 20 to 26 says that it was accepted
  pub ran_accepted : (call_number (reprice_plan p m) ≡ 0) ⊎
      ((20 ≤ call_number (reprice_plan p m)) × (call_number (reprice_plan p m) ≤ 26)) → Accepted p m
  ran_accepted = ran reprice_cases

  -- where every test passes it goes on
  let_through : Five p m → passes41 p m ≡ true → reprice_plan p m ≡ goes_on
  unfolding reprice_plan
  let_through t o =
      through (passes1 p m) _ _ t.one
      ∙ through (passes2 p) _ _ t.two
      ∙ through (eqb (first_bad_row p) p.rows) _ _ t.three
      ∙ through (eqb (first_crossed p) p.columns) _ _ t.four
      ∙ through (eqb (first_false p) p.rows) _ _ t.five
      ∙ through (passes41 p m) _ _ o

  pub reprice_let_in : Five p m → passes41 p m ≡ true → Accepted p m
  reprice_let_in t o =
      ran_accepted
      (subst (λ (r : Called). (call_number r ≡ 0) ⊎ ((20 ≤ call_number r) × (call_number r ≤ 26))) (sym (let_through t o))
      (closed_number P m (own_factorings (kept_state P m) (repriced P (kept_state P m))) (reprice_end P (kept_state P m))))
