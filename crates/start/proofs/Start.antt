-- The numbers in scratch are those of the start: cells past the columns are not read. Assumes nothing.
use mathlib.Core.Path.{◌≡◌, refl, sym, ap, ◌∙◌}
use mathlib.Core.Bool.{Bool, false, ◌&&◌}
use mathlib.Core.List.{List, []}
use Prim.Native.Nat.{ℕ, ◌<◌, ◌≤◌}
use native.Mathlib.Omega.{arith}
use lib.ListN.{length, get_or-append}
use lib.Ieee.{Float, nan}
use Rattle.doubles.specs.Num.{◌⊕◌, ◌⊖◌, ◌⊗◌, f0, finite}
use Rattle.doubles.specs.Loop.{table}
use Rattle.doubles.specs.Lists.{◌!◌, ◌#◌, over}
use Rattle.doubles.proofs.Loops.{run_same, all_same, over_same, length_tab}
use Rattle.sparse.specs.Scattered.{Within, dot, dot_turn}
use Rattle.rules.specs.Plan.{Plan, Problem, Etas, Factored, State, Memory, n_of, m_of, row_cols, row_coeffs, slack_min, slack_max}
use Rattle.rules.specs.Parts.{workspace_of, factored_of, state_with}
use Rattle.rules.specs.Start.{start_val_at, start_vals, start_objective, objective_turn, start_slack, start_norm, start_flags, start_workspace, start_state, in_bounds, passes6, passes7}
use Rattle.rules.specs.Invariant.{ProblemFits}
use Rattle.rules.proofs.Lists.{over_at, over_enough}
use Rattle.plan.specs.Kept.{bare, RowReads}
use Rattle.plan.proofs.Kept.{fits_read}
use Rattle.start_values.specs.Lent.{costed}
use Rattle.start.specs.Lent.{Reckonable, Scratch}
use Rattle.start.specs.Reckoned.{Numbers, numbers, reckoned, all_finite, slacks_inside, written}
use Rattle.start.proofs.Parts.{unruled_of, reckoned_part}

-- two lists with the same first n cells
pub record Same (n : ℕ) (xs ys : List Float) : Type 0 where
  pub same : (j : ℕ) → j < n → xs ! j ≡ ys ! j

pub slack_same : (P : Problem) (xs ys : List Float) (r : ℕ) → RowReads (bare P) (n_of P) r → Same (n_of P) xs ys → start_slack P xs r ≡ start_slack P ys r
unfolding start_slack dot
slack_same P xs ys r a e =
    let cols = row_cols P.plan (P.kept # r) in
    let coeffs = row_coeffs P.plan (P.kept # r) in
    ap (λ (x : Float). P.plan.rhs ! (P.kept # r) ⊖ x)
    (run_same (dot_turn cols coeffs xs) (dot_turn cols coeffs ys) (length cols)
    (λ k t h. ap (λ (x : Float). t ⊕ coeffs ! k ⊗ x) (e.same (cols # k) (a.col k h))) f0)

pub objective_same : (p : Plan) (xs ys : List Float) → Same p.columns xs ys → start_objective p xs ≡ start_objective p ys
unfolding start_objective
objective_same p xs ys e =
    run_same (objective_turn p xs) (objective_turn p ys) p.columns (λ j t h. ap (λ (x : Float). t ⊕ x ⊗ p.costs ! j) (e.same j h)) f0

-- the scratch's front
pub vals_same : (p : Plan) (l : List Float) → Same p.columns (over (start_vals p) l) (start_vals p)
unfolding start_vals
vals_same p l =
    record { same = λ j h. get_or-append (table p.columns (start_val_at p)) _ nan j (omega (arith, length_tab p.columns 0 (start_val_at p))) }

pub vals_long : (p : Plan) (l : List Float) → p.columns ≤ length l → p.columns ≤ length (over (start_vals p) l)
unfolding start_vals
vals_long p l h = over_enough p.columns (start_val_at p) l h

-- ---- what `reckon` reckons
numbers_same : {xs xs' slacks slacks' norms norms' : List Float} {o o' : Float} → xs ≡ xs' → slacks ≡ slacks' → norms ≡ norms' → o ≡ o' → numbers xs slacks norms o ≡ numbers xs' slacks' norms' o'
numbers_same a b c d = rw (a, b, c, d)

module _ (P : Problem) (s : Numbers) where
  pub reckoned_is : Reckonable P → {xs slacks norms : List Float} {o : Float}
      → xs ≡ over (start_vals P.plan) s.vals
      → slacks ≡ over (table (m_of P) (start_slack P xs)) s.slacks
      → norms ≡ over (table (n_of P) (start_norm P)) s.norms
      → o ≡ start_objective P.plan xs
      → numbers xs slacks norms o ≡ reckoned P s
  unfolding reckoned
  reckoned_is a {xs} e f g h =
      let ys = start_vals P.plan in
      let q : Same (n_of P) xs ys = rw e (vals_same P.plan s.vals) in
      numbers_same e
      (f ∙ over_same (start_slack P xs) (start_slack P ys) (m_of P) s.slacks s.slacks (λ r l. slack_same P xs ys r (a.rows.row r l) q) refl)
      g
      (h ∙ objective_same P.plan xs ys q)

-- ---- what is settled of numbers so reckoned
and_same : {a b c d : Bool} → a ≡ b → c ≡ d → (a && c) ≡ (b && d)
and_same e f = rw (e, f)

workspace_same : {basic_vars nb_vars flags flags' places : List ℕ}
    {basic_var_vals basicVarVals' nb_var_vals nbVarVals' prices norms norms' dual_norms : List Float}
    {h : Etas} {o : Float} {F : Factored}
    → basic_var_vals ≡ basicVarVals' → nb_var_vals ≡ nbVarVals' → norms ≡ norms' → flags ≡ flags'
    → state_with (workspace_of basic_vars basic_var_vals nb_vars nb_var_vals prices norms dual_norms flags places h) 0 o 0 F
    ≡ state_with (workspace_of basic_vars basicVarVals' nb_vars nbVarVals' prices norms' dual_norms flags' places h) 0 o 0 F
workspace_same a b c d = rw (a, b, c, d)

-- the state of numbers in scratch: the workspace that `write_start` leaves, and no factor
abbrev pub state_from : Problem → Numbers → Memory → State
state_from P u m =
    let p = P.plan in
    state_with (written (n_of P) (m_of P) p.costs p.lowers p.uppers u.vals u.slacks u.norms m.ws) 0
    u.objective 0 (factored_of false 0 m.all_factor_numbers m.all_factor_coeffs)

module _ (P : Problem) (s : Numbers) where
  abbrev t : Numbers
  t = reckoned P s

  abbrev ys : List Float
  ys = start_vals P.plan

  val : (j : ℕ) → j < n_of P → t.vals ! j ≡ ys ! j
  unfolding reckoned
  val j h = (vals_same P.plan s.vals).same j h

  slack : (r : ℕ) → r < m_of P → t.slacks ! r ≡ start_slack P ys r
  unfolding reckoned
  slack r h = over_at (m_of P) (start_slack P ys) s.slacks nan r h

  norm : (j : ℕ) → j < n_of P → t.norms ! j ≡ start_norm P j
  unfolding reckoned
  norm j h = over_at (n_of P) (start_norm P) s.norms nan j h

  six : all_finite (n_of P) (m_of P) t.vals t.slacks t.objective t.norms ≡ passes6 P
  unfolding all_finite passes6 reckoned
  six =
      and_same
      (and_same
      (and_same
      (all_same (λ j. finite (t.vals ! j)) (λ j. finite (ys ! j)) (n_of P) (λ j h. ap finite (val j h)))
      (all_same (λ r. finite (t.slacks ! r)) (λ r. finite (start_slack P ys r)) (m_of P) (λ r h. ap finite (slack r h))))
      refl)
      (all_same (λ j. finite (t.norms ! j)) (λ j. finite (start_norm P j)) (n_of P) (λ j h. ap finite (norm j h)))

  abbrev op : ℕ → ℕ
  op r = P.plan.ops # (P.kept # r)

  seven : slacks_inside P.plan.ops P.kept t.slacks ≡ passes7 P
  unfolding slacks_inside passes7
  seven =
      all_same (λ r. in_bounds (slack_min (op r)) (t.slacks ! r) (slack_max (op r))) (λ r. in_bounds (slack_min (op r)) (start_slack P ys r) (slack_max (op r))) (m_of P)
      (λ r h. ap (λ (x : Float). in_bounds (slack_min (op r)) x (slack_max (op r))) (slack r h))

  first_state_holds : (m : Memory) → state_from P t m ≡ start_state P m
  unfolding written start_state start_workspace reckoned
  first_state_holds m =
      let w = m.ws in
      workspace_same
      (over_same (λ r. t.slacks ! r) (start_slack P ys) (m_of P) w.basic_var_vals w.basic_var_vals slack refl)
      (over_same (λ j. t.vals ! j) (λ j. ys ! j) (n_of P) w.nb_var_vals w.nb_var_vals val refl)
      (over_same (λ j. t.norms ! j) (start_norm P) (n_of P) w.norms w.norms norm refl)
      (over_same
      (start_flags (costed (n_of P) [] P.plan.lowers P.plan.uppers) t.vals) (start_flags P.plan ys) (n_of P)
      w.flags w.flags (λ j h. rw (val j h)) refl)

-- ---- for a caller: `u` is what `reckon` left, and `e` its promise
module _ (P : Problem) (s u : Numbers) (e : u ≡ reckoned (unruled_of P) s) where
  whole : u ≡ reckoned P s
  whole = e ∙ sym (reckoned_part P s)

  pub six_is : all_finite (n_of P) (m_of P) u.vals u.slacks u.objective u.norms ≡ passes6 P
  six_is = ap (λ (v : Numbers). all_finite (n_of P) (m_of P) v.vals v.slacks v.objective v.norms) whole ∙ six P s

  pub seven_is : slacks_inside P.plan.ops P.kept u.slacks ≡ passes7 P
  seven_is = ap (λ (v : Numbers). slacks_inside P.plan.ops P.kept v.slacks) whole ∙ seven P s

  -- what `passes_6` and `write_start` ask
  pub still_long : Scratch (n_of P) (m_of P) s.vals s.slacks s.norms → Scratch (n_of P) (m_of P) u.vals u.slacks u.norms
  unfolding reckoned
  still_long l =
      rw whole
      (record {
        vals_long = vals_long P.plan s.vals l.vals_long;
        slacks_long = over_enough (m_of P) (start_slack P (start_vals P.plan)) s.slacks l.slacks_long;
        norms_long = over_enough (n_of P) (start_norm P) s.norms l.norms_long;
      })

  -- the workspace that `write_start` leaves is the start's
  pub start_is : (m : Memory) → state_from P u m ≡ start_state P m
  start_is m = ap (λ (v : Numbers). state_from P v m) whole ∙ first_state_holds P s m

-- ---- what the functions ask, of a problem that fits
module _ (P : Problem) (f : ProblemFits P) where
  pub fits_reckonable : Reckonable (unruled_of P)
  fits_reckonable =
      record {
        columns_most = f.plan.columns_most;
        rows_most = omega (arith, f.few, f.plan.rows_most);
        columns = record { costs_long = f.plan.costs_long; lowers_long = f.plan.lowers_long; uppers_long = f.plan.uppers_long };
        rows = fits_read P f;
        sides = record { inside = λ r h. omega (arith, (f.kept r h).inside, f.plan.rhs_long) };
      }

  -- of `passes_7`
  pub fits_ops : Within (length P.plan.ops) (m_of P) P.kept
  fits_ops = record { inside = λ r h. omega (arith, (f.kept r h).inside, f.plan.ops_long) }
