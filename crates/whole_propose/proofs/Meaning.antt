-- What the contract of `propose` means, for its numbers and for a sheet that is opened with them. Assumes nothing.
use mathlib.Core.Path.{◌≡◌, refl, sym, ap, ◌∙◌, subst}
use mathlib.Core.Logic.{inl, ⊎_elim}
use mathlib.Core.Bool.{true, false}
use mathlib.Core.List.{List}
use Prim.Native.Nat.{ℕ, zero, suc, ◌<◌}
use native.Mathlib.Omega.{arith}
use lib.ListN.{drop}
use lib.IntN.{ℤ, pos}
use lib.Ieee.{Float}
use Rattle.doubles.specs.Limits.{max_amount}
use Rattle.doubles.specs.Lists.{◌!◌, ◌#◌, over}
use Rattle.doubles.proofs.Bools.{truth}
use Rattle.doubles.proofs.Tests.{not_both}
use Rattle.rules.specs.Plan.{Plan, Memory, problem_of, kept_rows}
use Rattle.rules.specs.Answers as Answers
use Rattle.rules.specs.Solve.{solve_plan}
use Rattle.rules.proofs.Lists.{over_at, over_tail}
use Rattle.sheet_rules.specs.Sum.{◌‼◌}
use Rattle.sheet_rules.specs.Sheet.{Sheet, wrong}
use Rattle.sheet_rules.specs.Opening.{opened}
use Rattle.sheet_rules.specs.Promises.{Opens}
use Rattle.sheet_rules.specs.Meaning.{Called}
use Rattle.sheet_rules.proofs.Exact.{left_new}
use Rattle.sheet_rules.proofs.Meaning.{demand_3}
use Rattle.whole_round.specs.Whole.{amount_of, multiplier_of, right_sign, scaled_of, is_whole, number_of, Rounds, Multiplies}
use Rattle.whole_round.specs.declared.Rounded.{Rounded}
use Rattle.whole_round.specs.declared.Rounded.TheVariants.{Whole, Beyond, NotANumber}
use Rattle.whole_round.proofs.Meaning.{rounds, multiplies}
use Rattle.state_maps.specs.Maps.{maps_fine, Broken}
use Rattle.state_maps.proofs.Exact.{fine_exactly, broken_exactly}
use Rattle.state_maps.proofs.Left.{left_kept}
use Rattle.whole_multipliers.specs.Rows.{slack_price, multiplier_at, multipliers, rows_of}
use Rattle.whole_propose.specs.declared.Proposal.{Proposal}
use Rattle.whole_propose.specs.declared.Proposal.TheVariants.{Proposed, Refused}
use Rattle.whole_propose.specs.Propose.{Lent, memory_with, memory, amounts_of, proposal, is_proposed, Handed, handed, proposed}
use Rattle.whole_propose.specs.Words.{WholeAmount, WholeMultiplier, Each, Says}
use Rattle.whole_propose.specs.Meaning.{FromRun, Audited}
use Rattle.whole_propose.proofs.Exact.{proposal_says}

-- what the contract of `propose` says of an answer and of the two arrays afterwards
abbrev pub Proposes : Lent → Proposal → List ℤ → List ℤ → Type 0
Proposes l a x y = handed a x y ≡ proposed l

-- 01: "Any two results allowed by a promise are shown equal"
pub proposes_one : (l : Lent) {a b : Proposal} {x y u v : List ℤ} → Proposes l a x y → Proposes l b u v
    → (a ≡ b) × (x ≡ u) × (y ≡ v)
proposes_one l e f =
    let q = e ∙ sym f in
    (ap (λ (h : Handed). h.answer) q, ap (λ (h : Handed). h.amounts_left) q, ap (λ (h : Handed). h.mults_left) q)

-- ---- by the answer
module _ (l : Lent) where
  is_answer : {a : Proposal} {x y : List ℤ} → Proposes l a x y → a ≡ proposal l
  unfolding proposed
  is_answer {a} e = ap (λ (h : Handed). h.answer) e ∙ ⊎_elim (λ t. rw t) (λ f. rw f) (truth (is_proposed (proposal l)))

  pub else_stays : {a : Proposal} {x y : List ℤ} → Proposes l a x y → is_proposed a ≡ false
      → (x ≡ l.amounts) × (y ≡ l.mults)
  unfolding proposed
  else_stays {a} {x} {y} e f =
      let g : is_proposed (proposal l) ≡ false = ap is_proposed (sym (is_answer e)) ∙ f in
      let q : handed a x y ≡ handed (proposal l) l.amounts l.mults = e ∙ rw (g, proposed) in
      (ap (λ (h : Handed). h.amounts_left) q, ap (λ (h : Handed). h.mults_left) q)

  written : {x y : List ℤ} → Proposes l Proposed x y
      → (x ≡ over (amounts_of l.plan.columns l.values) l.amounts) × (y ≡ over (multipliers l.plan (memory l)) l.mults)
  unfolding proposed is_proposed
  written {x} {y} e =
      let q : proposed l ≡ handed Proposed (over (amounts_of l.plan.columns l.values) l.amounts) (over (multipliers l.plan (memory l)) l.mults) =
      rw (← is_answer e, proposed) in
      let r = e ∙ q in
      (ap (λ (h : Handed). h.amounts_left) r, ap (λ (h : Handed). h.mults_left) r)

  -- every number is whole then
  all_whole : {a : Proposal} → Says l a → a ≡ Proposed
      → Each l l.plan.columns (WholeAmount l) × Each l l.plan.rows (WholeMultiplier l)
  all_whole (Says.size h) w = absurd (let z : ◌≡◌ {A = ℕ} 0 1 = cc in omega arith)
  all_whole (Says.no_run e h) w = absurd (let z : ◌≡◌ {A = ℕ} 0 1 = cc in omega arith)
  all_whole (Says.broken e s h) w = absurd (let z : ◌≡◌ {A = ℕ} 0 1 = cc in omega arith)
  all_whole (Says.amount r j f) w = absurd (let z : ◌≡◌ {A = ℕ} 0 1 = cc in omega arith)
  all_whole (Says.multiplier r a i f) w = absurd (let z : ◌≡◌ {A = ℕ} 0 1 = cc in omega arith)
  all_whole (Says.proposed r a b) w = (a, b)

-- ---- the numbers
whole_is : (r : Rounded) → is_whole r ≡ true → r ≡ Whole (number_of r)
unfolding is_whole number_of
whole_is (Whole w) h = refl
whole_is (Beyond x) h = cc
whole_is NotANumber h = cc

zero_right : (op : ℕ) → wrong op (pos 0) ≡ false
unfolding wrong
zero_right zero = refl
zero_right (suc zero) = refl
zero_right (suc (suc op)) = refl

sign_right : (op : ℕ) (q : Rounded) → wrong op (number_of (right_sign op q)) ≡ false
unfolding right_sign number_of
sign_right op (Whole z) = ⊎_elim (λ t. rw t (zero_right op)) (λ (f : wrong op z ≡ false). rw f f) (truth (wrong op z))
sign_right op (Beyond x) = zero_right op
sign_right op NotANumber = zero_right op

module _ (l : Lent) {x y : List ℤ} (e : Proposes l Proposed x y) where
  each : Each l l.plan.columns (WholeAmount l) × Each l l.plan.rows (WholeMultiplier l)
  each = all_whole l (proposal_says l) (sym (is_answer l e))

  amount_at : (j : ℕ) → j < l.plan.columns → x ‼ j ≡ number_of (amount_of (l.values ! j))
  unfolding amounts_of
  amount_at j h = ap (λ (z : List ℤ). z ‼ j) (written l e).0 ∙ over_at l.plan.columns _ l.amounts (pos 0) j h

  mult_at : (i : ℕ) → i < l.plan.rows → y ‼ i ≡ number_of (multiplier_at l.plan (memory l) i)
  unfolding multipliers
  mult_at i h = ap (λ (z : List ℤ). z ‼ i) (written l e).1 ∙ over_at l.plan.rows _ l.mults (pos 0) i h

  amount_near : (j : ℕ) → j < l.plan.columns → Rounds (pos max_amount) (l.values ! j) (Whole (x ‼ j))
  unfolding amount_of
  amount_near j h =
      subst (Rounds (pos max_amount) (l.values ! j)) (whole_is _ (each.0 j h) ∙ ap Whole (sym (amount_at j h)))
      (rounds (pos max_amount) (l.values ! j))

  mult_near : (i : ℕ) → i < l.plan.rows
      → Multiplies (l.plan.ops # i) (slack_price l.plan (memory l) i) (Whole (y ‼ i))
  unfolding multiplier_at
  mult_near i h =
      subst (Multiplies (l.plan.ops # i) (slack_price l.plan (memory l) i))
      (whole_is _ (each.1 i h) ∙ ap Whole (sym (mult_at i h)))
      (multiplies (l.plan.ops # i) (slack_price l.plan (memory l) i))

  sign : (i : ℕ) → i < l.plan.rows → wrong (l.plan.ops # i) (y ‼ i) ≡ false
  unfolding multiplier_at multiplier_of
  sign i h = rw (mult_at i h) (sign_right (l.plan.ops # i) (scaled_of (slack_price l.plan (memory l) i)))

  tails : (drop l.plan.columns x ≡ drop l.plan.columns l.amounts)
      × (drop l.plan.rows y ≡ drop l.plan.rows l.mults)
  unfolding amounts_of multipliers
  tails = (
    ap (drop l.plan.columns) (written l e).0 ∙ over_tail l.plan.columns _ l.amounts,
    ap (drop l.plan.rows) (written l e).1 ∙ over_tail l.plan.rows _ l.mults,
  )

  pub proposed_means : FromRun l x y
  proposed_means =
      record { amounts_are = amount_near; mults_are = mult_near; signs_right = sign; amounts_tail = tails.0; mults_tail = tails.1 }

-- ---- a run's own memory is never refused with 41
broken_of : {l : Lent} {a : Proposal} → Says l a → a ≡ Refused 41 → Broken (problem_of l.plan) (memory l)
broken_of (Says.size h) w = absurd (let z : ◌≡◌ {A = ℕ} 1 41 = cc in omega arith)
broken_of (Says.no_run e h) w = absurd (let z : ◌≡◌ {A = ℕ} 0 1 = cc in omega arith)
broken_of (Says.broken e s b) w = b
broken_of (Says.amount r j f) w = absurd (let z : ◌≡◌ {A = ℕ} 0 1 = cc in omega arith)
broken_of (Says.multiplier r a i f) w = absurd (let z : ◌≡◌ {A = ℕ} 0 1 = cc in omega arith)
broken_of (Says.proposed r a b) w = absurd (let z : ◌≡◌ {A = ℕ} 0 1 = cc in omega arith)

same_test : (p : Plan) (m : Memory) → maps_fine (rows_of p.columns p.rows p.starts p.ops) m ≡ maps_fine p m
unfolding maps_fine kept_rows
same_test p m = refl

-- the factor's arrays are no part of the test
any_factor : (F : List ℕ) (G : List Float) (l : Lent)
    → maps_fine l.plan (memory_with F G l) ≡ maps_fine l.plan (memory l)
unfolding maps_fine
any_factor F G l = refl

pub never_41 : (p : Plan) (m : Memory) (F : List ℕ) (G : List Float) (l : Lent)
    → Answers.number_of (solve_plan p m).answer ≡ 0 → l.plan ≡ rows_of p.columns p.rows p.starts p.ops
    → memory_with F G l ≡ (solve_plan p m).memory → ¬ (proposal l ≡ Refused 41)
never_41 p m F G l h q e w =
    let f : maps_fine l.plan (memory_with F G l) ≡ false =
    any_factor F G l ∙ (broken_exactly l.plan (memory l)).1 (broken_of (proposal_says l) w) in
    not_both ((fine_exactly p (solve_plan p m).memory).1 (left_kept p m (inl h)))
    (sym (same_test p (solve_plan p m).memory) ∙ rw (q, e) at f)

-- ---- the sheet
-- the corollary with the names of both sides: a proposal, and a sheet with its numbers that opening accepts
pub audited : {l : Lent} {x y : List ℤ} {s t : Sheet} → Proposes l Proposed x y → s.plan.amounts ≡ x
    → s.plan.mults ≡ y → Opens s 0 t → Audited l t
unfolding opened
audited {l} {x} {y} {s} {t} e a b o =
    let d = demand_3 (Called.opened o) in
    let q : t.plan ≡ s.plan = ap (λ (u : Sheet). u.plan) (o.left ∙ left_new _ _ s (sym o.answers)) in
    record {
      from_run = rw (q, a, b) (proposed_means l e);
      demand_3 = d;
      gap_means = d.gap_is;
    }
