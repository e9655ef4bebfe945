-- No column enters at a dual feasible start, since 02's filter asks for a price of at least EPS in size, and no row leaves
-- where every slack starts within its bounds: the steps by themselves give what is said of such starts. Assumes nothing.
use mathlib.Core.Path.{◌≡◌, refl, sym, ap, ◌∙◌, subst}
use mathlib.Core.Bool.{Bool, true, false, ◌&&◌, ◌||◌}
use mathlib.Core.Logic.{⊎_elim}
use Prim.Native.Nat.{ℕ, zero, suc, ◌+◌, ◌-◌, ◌*◌, ◌<◌}
use native.Mathlib.Omega.{arith}
use borrow.Author.Tests.{ltb-false, eqb-true, le-ltb, not-false}
use lib.Dec.{ltb}
use lib.Ieee.{Float, nan, inf, fin, lt, le, eq, ne, neg, add, sub, is_nan, of_bits, up, down}
use Rattle.doubles.specs.Num.{◌⊕◌, ◌⊖◌, f0, eps, +inf, -inf, finite, infinite, size}
use Rattle.doubles.specs.Lists.{◌!◌, ◌#◌}
use Rattle.doubles.proofs.Floats.{differs}
use Rattle.doubles.proofs.Loops.{both_true, all_at, get_d_table}
use Rattle.doubles.proofs.Order.{lt_irrefl, lt_trans, lt_le_trans, le_total, le_not_lt}
use Rattle.doubles.proofs.Tests.{not_both, either, false_by, true_by}
use Rattle.rules.specs.Plan.{Problem, Memory, Workspace, n_of, m_of, slack_min, slack_max, var_min, var_max, flags_cell, flags_of}
use Rattle.rules.specs.Start.{lower_first, upper_first, start_val, start_dual, start_val_at, start_vals, start_slack, dual_feasible, start_flags, start_workspace, start_state, in_bounds, passes7}
use Rattle.rules.specs.Choose.{may_enter, passes_filter, score_at, choose}
use Rattle.rules.specs.DualRow.{too_low, outside, outside_at, choose_row}
use Rattle.rules.specs.Step.{ended, run_of, dual_run_of, then_primal, both_runs}
use Rattle.rules.specs.Kinds.{dual, primal, first_kind}
use Rattle.rules.specs.Solve.{end_of}
use Rattle.rules.specs.Conditions.{Ends}
use Rattle.rules.specs.Steps.{Steps, none, turns}
use Rattle.rules.specs.declared.NonBasicVarState.{NonBasicVarState}
use Rattle.std.specs.Prelude.{None}
use Rattle.rules.specs.declared.Stop.TheVariants.{Finished}
use Rattle.rules.proofs.Lists.{over_at}
use Rattle.rules.proofs.EnteringColumn.{eps_number, size_number, filter_means, fixed_never, under_eps_never, price_number, nothing_exactly}
use Rattle.rules.proofs.DualLeaving.{none_exactly}
use Rattle.rules.proofs.Answers.{runs, none_leaves, end_exact}

-- ---- doubles
self : (x : Float) → is_nan x ≡ false → eq x x ≡ true
unfolding ne
self x p = not-false (eq x x) (differs x ∙ p)

equal_number : (x y : Float) → eq x y ≡ true → is_nan x ≡ false
unfolding eq is_nan
equal_number nan y h = sym h
equal_number (inf s) y h = refl
equal_number (fin s m e) y h = refl

finite_number : (x : Float) → finite x ≡ true → is_nan x ≡ false
unfolding finite is_nan
finite_number nan h = sym h
finite_number (inf s) h = refl
finite_number (fin s m e) h = refl

below_zero : lt (neg eps) f0 ≡ true
unfolding lt neg of_bits
below_zero = refl

above_zero : lt f0 eps ≡ true
unfolding lt of_bits
above_zero = refl

-- 0.0 and -0.0 are neither above 0.0 nor below it
zero_neither : (x : Float) → eq x f0 ≡ true → (lt f0 x ≡ false) × (lt x f0 ≡ false)
unfolding lt eq of_bits
zero_neither nan h = absurd (not_both h refl)
zero_neither (inf s) h = absurd (not_both h refl)
zero_neither (fin false m e) h =
    let q = eqb-true (m * up e * 1) (0 * 1 * down e) (both_true _ _ h).0 in
    (le-ltb (0 * 1 * down e) (m * up e * 1) (omega arith), le-ltb (m * up e * 1) (0 * 1 * down e) (omega arith))
zero_neither (fin true m e) h =
    let b = both_true _ _ h in
    let q = eqb-true (m * up e * 1) (0 * 1 * down e) b.0 in
    let z = eqb-true (m * up e * 1) 0 b.1 in
    (refl, le-ltb 0 (m * up e * 1 + 0 * 1 * down e) (omega arith))

-- and what is neither has no size
no_size : (x : Float) → lt f0 x ≡ false → lt x f0 ≡ false → lt f0 (size x) ≡ false
unfolding lt size of_bits
no_size nan a b = refl
no_size (inf true) a b = absurd (not_both refl b)
no_size (inf false) a b = absurd (not_both refl a)
no_size (fin false m e) a b = a
no_size (fin true m e) a b = le-ltb (0 * 1 * down e) (m * up e * 1) (omega (arith, ltb-false 0 (m * up e * 1 + 0 * 1 * down e) b))

-- ---- one column of cost c and these bounds, at its start value x
module _ (c lo hi : Float) (number : is_nan c ≡ false) where
  abbrev flags : Float → NonBasicVarState
  flags x = record { at_min = eq x lo; at_max = eq x hi; «fixed» = false }

  abbrev Never : Float → Type 0
  Never x = may_enter (flags x) c ≡ false

  at_lower : lt f0 c ≡ true → finite lo ≡ true → Never lo
  at_lower p f =
      false_by
      (λ h.
      let m = (filter_means (flags lo) c number).0 h in
      not_both (lt_trans (neg eps) f0 c below_zero p) (le_not_lt c (neg eps) (m.lower (self lo (finite_number lo f)))))

  at_upper : lt c f0 ≡ true → finite hi ≡ true → Never hi
  at_upper p f =
      false_by
      (λ h.
      let m = (filter_means (flags hi) c number).0 h in
      not_both (lt_trans c f0 eps p above_zero) (le_not_lt eps c (m.upper (self hi (finite_number hi f)))))

  at_zero : (x : Float) → lt f0 c ≡ false → lt c f0 ≡ false → Never x
  at_zero x a b =
      under_eps_never (flags x) c
      (true_by (λ h. not_both (lt_le_trans f0 eps (size c) above_zero (le_total (size c) eps (size_number c number) eps_number h)) (no_size c a b)))

  -- the start value and the flag of try_new, by their tests: bounds equal, both infinite, the cost above 0.0, below 0.0
  abbrev value_by : Bool → Bool → Bool → Float
  value_by same free less =
      elim same [ true ↦ lo | false ↦ elim free [ true ↦ f0 | false ↦ elim less [ true ↦ upper_first lo hi | false ↦ lower_first lo hi ] ] ]

  abbrev dual_by : Bool → Bool → Bool → Bool → Bool
  dual_by same free more less =
      elim same [ true ↦ true | false ↦ elim free [ true ↦ eq c f0 | false ↦ elim more [ true ↦ finite lo | false ↦ elim less [ true ↦ finite hi | false ↦ true ] ] ] ]

  by_tests : (same free more less : Bool) → eq lo hi ≡ same → lt f0 c ≡ more → lt c f0 ≡ less → dual_by same free more less ≡ true → Never (value_by same free less)
  by_tests true free more less s a b d = fixed_never (flags lo) c number (self lo (equal_number lo hi s)) s
  by_tests false true more less s a b d = let z = zero_neither c d in at_zero f0 z.0 z.1
  by_tests false false true true s a b d = absurd (not_both (lt_trans f0 c f0 a b) (lt_irrefl f0))
  by_tests false false true false s a b d = rw (d, lower_first) (at_lower a d)
  by_tests false false false true s a b d = rw (d, upper_first) (at_upper b d)
  by_tests false false false false s a b d = at_zero (lower_first lo hi) a b

  start_never : start_dual c lo hi ≡ true → Never (start_val c lo hi)
  unfolding start_val start_dual
  start_never d = by_tests (eq lo hi) (infinite lo && infinite hi) (lt f0 c) (lt c f0) refl refl refl d

-- ---- all of them
flags_back : (a b : Bool) → flags_of (flags_cell (record { at_min = a; at_max = b; «fixed» = false })) ≡ record { at_min = a; at_max = b; «fixed» = false }
unfolding flags_of flags_cell
flags_back false false = refl
flags_back false true = refl
flags_back true false = refl
flags_back true true = refl

-- Nothing is asked of the plan: a NaN cost scores NaN, and never wins.
pub none_at_dual_start : (P : Problem) (m : Memory) → dual_feasible P.plan ≡ true → choose P (start_state P m).ws ≡ None
unfolding dual_feasible start_state start_workspace start_vals
none_at_dual_start P m d = (nothing_exactly P (start_state P m).ws).1 (λ c l t. false_by (λ s. not_both t (never c l s)))
  where
    never : (c : ℕ) → c < n_of P → lt -inf (score_at (start_state P m).ws c) ≡ true → passes_filter (start_state P m).ws c ≡ false
    never c l s =
        let p = P.plan in
        let n = n_of P in
        let cost = p.costs ! c in
        let lo = p.lowers ! c in
        let hi = p.uppers ! c in
        let price : (start_state P m).ws.prices ! c ≡ cost = over_at n (λ j. p.costs ! j) m.ws.prices nan c l in
        let value : start_vals p ! c ≡ start_val_at p c = get_d_table n (start_val_at p) nan c l in
        let cell : (start_state P m).ws.flags # c ≡ start_flags p (start_vals p) c = over_at n (start_flags p (start_vals p)) m.ws.flags 0 c l in
        let number : is_nan cost ≡ false = subst (λ x. is_nan x ≡ false) price (price_number _ _ s) in
        let one : may_enter (flags cost lo hi number (start_val_at p c)) cost ≡ false =
        start_never cost lo hi number (all_at (λ j. start_dual (p.costs ! j) (p.lowers ! j) (p.uppers ! j)) n d c l) in
        rw (cell, price, value, flags_back (eq (start_val_at p c) lo) (eq (start_val_at p c) hi)) one

-- ---- no row leaves where every slack starts within its bounds, which 7's test asks with no tolerance
low_edge : lt (f0 ⊖ eps) f0 ≡ true
unfolding lt sub of_bits
low_edge = refl

high_edge : lt f0 (f0 ⊕ eps) ≡ true
unfolding lt add of_bits
high_edge = refl

nothing_below : (x : Float) → lt x -inf ≡ false
unfolding lt
nothing_below nan = refl
nothing_below (inf true) = refl
nothing_below (inf false) = refl
nothing_below (fin s m e) = refl

nothing_above : (x : Float) → lt +inf x ≡ false
unfolding lt
nothing_above nan = refl
nothing_above (inf s) = refl
nothing_above (fin s m e) = refl

from_zero : (x : Float) → le f0 x ≡ true → lt x (f0 ⊖ eps) ≡ false
from_zero x h = false_by (λ t. not_both (lt_trans x (f0 ⊖ eps) f0 t low_edge) (le_not_lt f0 x h))

to_zero : (x : Float) → le x f0 ≡ true → lt (f0 ⊕ eps) x ≡ false
to_zero x h = false_by (λ t. not_both (lt_trans f0 (f0 ⊕ eps) x high_edge t) (le_not_lt x f0 h))

low_inside : (op : ℕ) (x : Float) → le (slack_min op) x ≡ true → lt x (slack_min op ⊖ eps) ≡ false
unfolding slack_min sub of_bits
low_inside zero x h = from_zero x h
low_inside (suc zero) x h = from_zero x h
low_inside (suc (suc k)) x h = nothing_below x

high_inside : (op : ℕ) (x : Float) → le x (slack_max op) ≡ true → lt (slack_max op ⊕ eps) x ≡ false
unfolding slack_max add of_bits
high_inside zero x h = nothing_above x
high_inside (suc zero) x h = to_zero x h
high_inside (suc (suc k)) x h = to_zero x h

module _ (P : Problem) (m : Memory) where
  abbrev start : Workspace
  start = (start_state P m).ws

  abbrev op_of : ℕ → ℕ
  op_of r = P.plan.ops # (P.kept # r)

  slack_bounds : (r : ℕ) → (var_min P (n_of P + r) ≡ slack_min (op_of r)) × (var_max P (n_of P + r) ≡ slack_max (op_of r))
  unfolding var_min var_max
  slack_bounds r =
      let above : ltb (n_of P + r) (n_of P) ≡ false = le-ltb (n_of P + r) (n_of P) (omega arith) in
      let back : n_of P + r - n_of P ≡ r = omega arith in
      (rw (above, var_min, back) refl, rw (above, var_max, back) refl)

  never_outside : passes7 P ≡ true → (r : ℕ) → r < m_of P → outside_at P start r ≡ false
  unfolding passes7 start_state start_workspace outside too_low
  never_outside h r l =
      let xs = start_vals P.plan in
      let b = both_true (le (slack_min (op_of r)) (start_slack P xs r)) (le (start_slack P xs r) (slack_max (op_of r)))
      (all_at (λ r. in_bounds (slack_min (op_of r)) (start_slack P xs r) (slack_max (op_of r))) (m_of P) h r l) in
      let v : start.basic_vars # r ≡ n_of P + r = over_at (m_of P) (λ r. n_of P + r) m.ws.basic_vars 0 r l in
      let x : start.basic_var_vals ! r ≡ start_slack P xs r = over_at (m_of P) (start_slack P xs) m.ws.basic_var_vals nan r l in
      rw (v, x, (slack_bounds r).0, (slack_bounds r).1, low_inside (op_of r) (start_slack P xs r) b.0, high_inside (op_of r) (start_slack P xs r) b.1)

  pub none_leaves_start : passes7 P ≡ true → choose_row P (start_state P m).ws ≡ None
  none_leaves_start h = (none_exactly P start).1 (λ r l t. absurd (not_both t (never_outside h r l)))

  -- 01: "If dual feasible, Optimal is reached at once with 0 steps (ours)": still so where every slack starts within its
  -- bounds
  pub at_once : dual_feasible P.plan ≡ true → passes7 P ≡ true → end_of P m ≡ ended Finished (start_state P m)
  unfolding first_kind Ends start_state
  at_once d h =
      let first : first_kind P.plan ≡ dual = rw (d, first_kind) in
      let steps : Steps P (start_state P m) (first_kind P.plan) primal 0 (start_state P m) = rw first (turns none (none_leaves_start h)) in
      (end_exact P m Finished (start_state P m)).1 (primal, record { by_steps = steps; within = omega arith }, none_at_dual_start P m d)

  -- the steps by themselves give what is said of an accepted plan: where the start isn't dual feasible no row leaves, so
  -- that the dual steps could come first always
  pub steps_alone : passes7 P || dual_feasible P.plan ≡ true → end_of P m ≡ both_runs P P.plan.budget (start_state P m)
  unfolding end_of both_runs start_state run_of dual_run_of
  steps_alone h = go (dual_feasible P.plan) refl
    where
      go : (b : Bool) → dual_feasible P.plan ≡ b → end_of P m ≡ both_runs P P.plan.budget (start_state P m)
      go true d = rw (d, end_of) refl
      go false d =
          let seven : passes7 P ≡ true = ⊎_elim (λ q. q) (λ q. absurd (not_both q d)) (either (passes7 P) (dual_feasible P.plan) h) in
          let all : P.plan.budget ≡ P.plan.budget - 0 = omega arith in
          rw (d, end_of)
          (ap (λ (k : ℕ). runs P k (start_state P m)) all
          ∙ sym (ap (then_primal P P.plan.budget) (none_leaves P (P.plan.budget - 0) (start_state P m) (none_leaves_start seven))))
