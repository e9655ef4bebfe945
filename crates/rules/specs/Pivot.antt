-- 01, "One step": all new numbers, and the store. From minilp 0.2.2, src/solver.rs, pivot and update_primal_sq_norms, Apache-2.0, changed. Assumes nothing.
use Rattle.std.specs.Prelude.{Bool, true, false, ◌&&◌, List, ℕ, suc, eqb, set, Float}
use Rattle.std.specs.Float.Ieee.{eq, neg}
use Rattle.doubles.specs.Num.{◌⊕◌, ◌⊖◌, ◌⊗◌, ◌⊘◌, f1, f2, finite}
use Rattle.doubles.specs.Loop.{run, all}
use Rattle.doubles.specs.Lists.{◌!◌, ◌#◌}
use Rattle.sparse.specs.Scattered.{Sv, listed, sq_norm}
use Rattle.lu_factor_rules.specs.Factor.{Factor}
use Rattle.rules.specs.Plan.{Problem, Etas, Workspace, Factored, State, n_of, var_min, var_max, flags_cell, var_cell}
use Rattle.rules.specs.Basis.{eta_entry_at, push_eta, no_columns, factored_anew}
use Rattle.rules.specs.declared.Entering.{Entering}
use Rattle.rules.specs.declared.VarState.TheVariants.{Basic, NonBasic}

-- what a loop over a vector's list leaves that stores f at each listed place
abbrev pub store_turn : Sv → (ℕ → Float) → ℕ → List Float → List Float
store_turn c f k l = set l (listed c k) (f (listed c k))

unfoldable pub stored : Sv → (ℕ → Float) → List Float → List Float
stored c f l = run (store_turn c f) c.pat.count l

-- what f gives at each listed place is finite
unfoldable pub stores_finite : Sv → (ℕ → Float) → Bool
stores_finite c f = all c.pat.count (λ k. finite (f (listed c k)))

-- the flags of a variable that stands at x, by equality with its bounds: no mark
unfoldable pub flags_at : Problem → ℕ → Float → ℕ
flags_at P v x = flags_cell (record { at_min = eq x (var_min P v); at_max = eq x (var_max P v); «fixed» = false })

-- ---- the new numbers of both kinds of step

unfoldable pub new_objective : State → Entering → Float → Float
new_objective s e diff = s.objective ⊕ e.price ⊗ diff

unfoldable pub moved_val : Workspace → Sv → Float → ℕ → Float
moved_val w c diff r = w.basic_var_vals ! r ⊖ diff ⊗ c.vals ! r

-- ---- a flip: "its new value and difference"
module _ (P : Problem) (s : State) (e : Entering) (c : Sv) (value diff : Float) where
  unfoldable pub flip_finite : Bool
  flip_finite = finite (new_objective s e diff) && finite value && stores_finite c (moved_val s.ws c diff)

  unfoldable pub flipped : State
  flipped =
      let w = s.ws in
      record {
        ws = record {
          basic_vars = w.basic_vars;
          basic_var_vals = stored c (moved_val w c diff) w.basic_var_vals;
          nb_vars = w.nb_vars;
          nb_var_vals = set w.nb_var_vals e.col value;
          prices = w.prices;
          norms = w.norms;
          dual_norms = w.dual_norms;
          flags = set w.flags e.col (flags_at P (w.nb_vars # e.col) value);
          var_states = w.var_states;
          etas = w.etas;
        };
        eta_count = s.eta_count;
        objective = new_objective s e diff;
        steps = suc s.steps;
        factor = s.factor;
      }

-- ---- an exchange: "which adds row, pivot and leaving value"; row and helper are those before the exchange
unfoldable pub new_val : Workspace → Sv → Float → Float → ℕ → ℕ → Float
new_val w c value diff row r = elim (eqb r row) [ true ↦ value | false ↦ moved_val w c diff r ]

unfoldable pub new_price : Workspace → Entering → Float → Sv → ℕ → Float
new_price w e pivot row j =
    let pivotObj = e.price ⊘ pivot in
    elim (eqb j e.col) [ true ↦ neg pivotObj | false ↦ w.prices ! j ⊖ pivotObj ⊗ row.vals ! j ]

-- a norm moves by ((-2.0 * r) * h / pivot + (sq * r) * r / pivot_sq)
unfoldable pub new_norm : Workspace → Entering → Sv → Float → Sv → Sv → ℕ → Float
new_norm w e c pivot row helper j =
    let sq = sq_norm c ⊕ f1 in
    let pivotSq = pivot ⊗ pivot in
    let r = row.vals ! j in
    elim (eqb j e.col) [
      | true ↦ sq ⊘ pivotSq
      | false ↦ w.norms ! j ⊕ (neg f2 ⊗ r ⊗ helper.vals ! j ⊘ pivot ⊕ sq ⊗ r ⊗ r ⊘ pivotSq)
    ]

-- 02, Ask 8: update_dual_sq_norms. A dual norm moves by ((-2.0 * c) * tau / pivot + (sq * c) * c / pivot_sq), where sq is the
-- sum of squares of the row solve's result; "an untouched tau_r counting as 0.0"
unfoldable pub new_dual_norm : Workspace → Sv → ℕ → Float → Float → Sv → ℕ → Float
new_dual_norm w c row pivot sq tau r =
    let pivotSq = pivot ⊗ pivot in
    let a = c.vals ! r in
    elim (eqb r row) [
      | true ↦ sq ⊘ pivotSq
      | false ↦ w.dual_norms ! r ⊕ (neg f2 ⊗ a ⊗ tau.vals ! r ⊘ pivot ⊕ sq ⊗ a ⊗ a ⊘ pivotSq)
    ]

unfoldable pub eta_finite : Sv → ℕ → Float → Bool
eta_finite c row pivot = all c.pat.count (λ k. finite (eta_entry_at c row pivot k))

module _ (P : Problem) (s : State) (e : Entering) (c rowSv helper : Sv) (value diff : Float) (row : ℕ) (pivot leaving : Float) where
  -- "every number to be stored must be finite", but for the eta column's or the factor's
  unfoldable pub numbers_finite : Bool
  numbers_finite =
      let w = s.ws in
      finite (new_objective s e diff)
      && stores_finite c (new_val w c value diff row)
      && finite leaving
      && stores_finite rowSv (new_price w e pivot rowSv)
      && stores_finite rowSv (new_norm w e c pivot rowSv helper)

  -- the two maps: the entering variable is basic in the row, the leaving one stands at the entering place. The dual norms
  -- come behind this, in `both_norms` of Step
  abbrev pub exchanged_to : Etas → ℕ → Factored → State
  exchanged_to etas count factor =
      let w = s.ws in
      let col = e.col in
      let enters = w.nb_vars # col in
      let leaves = w.basic_vars # row in
      record {
        ws = record {
          basic_vars = set w.basic_vars row enters;
          basic_var_vals = stored c (new_val w c value diff row) w.basic_var_vals;
          nb_vars = set w.nb_vars col leaves;
          nb_var_vals = set w.nb_var_vals col leaving;
          prices = stored rowSv (new_price w e pivot rowSv) w.prices;
          norms = stored rowSv (new_norm w e c pivot rowSv helper) w.norms;
          dual_norms = w.dual_norms;
          flags = set w.flags col (flags_at P leaves leaving);
          var_states = set (set w.var_states enters (var_cell (n_of P) (Basic row))) leaves (var_cell (n_of P) (NonBasic col));
          etas = etas;
        };
        eta_count = count;
        objective = new_objective s e diff;
        steps = suc s.steps;
        factor = factor;
      }

  -- with its eta column
  unfoldable pub exchanged : State
  exchanged = exchanged_to (push_eta c row pivot s.eta_count s.ws.etas) (suc s.eta_count) s.factor

  -- 02: "the exchange is made, then the new basis is factored in place of storing that column"
  unfoldable pub refactored : Factor → State
  refactored f = exchanged_to (no_columns s.ws.etas) 0 (factored_anew f s.factor)
