-- A store at listed places that reads the cell it writes, and what the stores leave. No contract cites this file. Assumes nothing.
use mathlib.Core.Path.{◌≡◌, refl, sym, ap, ◌∙◌}
use mathlib.Core.Bool.{true}
use mathlib.Core.List.{List, []}
use Prim.Native.Nat.{ℕ, suc, ◌+◌, ◌<◌}
use native.Mathlib.Nat.{le_refl}
use native.Mathlib.Omega.{arith}
use lib.ListN.{length, set}
use lib.Seq.{get_or-set_other}
use lib.Ieee.{Float, nan}
use borrow.Rule.Slice.PartMut.{put_mid}
use Rattle.doubles.specs.Limits.{max_rows, max_columns, vars}
use Rattle.doubles.specs.Loop.{run}
use Rattle.doubles.specs.Lists.{◌!◌, ◌#◌}
use Rattle.doubles.proofs.Loops.{next, keeps}
use Rattle.sparse.specs.Scattered.{Sv, listed}
use Rattle.rules.specs.Plan.{Problem, Workspace, State, n_of, var_cell}
use Rattle.rules.specs.Parts.{workspace_of, factored_of, state_with}
use Rattle.rules.specs.Basis.{no_columns}
use Rattle.rules.specs.Pivot.{store_turn, stored, flags_at, new_objective, moved_val, flipped, new_val, new_price, new_norm, exchanged}
use Rattle.rules.specs.declared.Entering.{Entering}
use Rattle.rules.specs.declared.VarState.TheVariants.{Basic, NonBasic}
use Rattle.state.specs.Packed.{section, packed, state_at, basic_vars_at, nb_vars_at, var_states_at, flag_cells_at, basic_var_vals_at, nb_var_vals_at, prices_at, norms_at, objective_at}
use Rattle.state.specs.declared.Tally.{Tally}
use Rattle.state.specs.declared.Exchange.{Exchange}
use Rattle.state.proofs.Sections.{section_at, lent, written}
use Rattle.state.proofs.Moves.{as_lent, in_basic_vars, in_nb_vars, in_var_states, in_flags, in_basic_var_vals, in_nb_var_vals, in_prices, in_norms}
use Rattle.basis_store.specs.Room.{Room, column_pushed}
use Rattle.step_numbers.specs.Lent.{numbers_of, Listing}
use Rattle.step_store.specs.Halves.{numbers_stored, basis_stored, swapped, emptied}
use Rattle.step_store.specs.Lent.{Flips, Swaps}

module _ (c : Sv) (l₀ : List Float) where
  module _ {cells : ℕ} (w : Listing cells c.pat.count c.pat.list) where
    -- a listed place that is not reached yet holds what it held: no place is listed twice
    unread : (f : ℕ → Float) (k : ℕ) → k < c.pat.count → run (store_turn c f) k l₀ ! listed c k ≡ l₀ ! listed c k
    unread f k h =
        keeps (store_turn c f) l₀ (λ _ l. l ! listed c k ≡ l₀ ! listed c k) k
        (λ j t b e. get_or-set_other t (listed c j) (listed c k) _ nan (λ q. omega (arith, w.once k j h (omega arith) q)) ∙ e)
        refl k (le_refl k)

    -- so one turn of a loop that reads the cell and stores g of it is a turn of `stored`, whose f reads the list as it was
    pub store_next : (g : ℕ → Float → Float) (k : ℕ) {l : List Float} (x : Float) → k < c.pat.count → l ≡ run (store_turn c (λ j. g j (l₀ ! j))) k l₀
        → x ≡ g (listed c k) (l ! listed c k) → set l (listed c k) x ≡ run (store_turn c (λ j. g j (l₀ ! j))) (k + 1) l₀
    store_next g k {l} x h e q =
        let cell : l ! listed c k ≡ l₀ ! listed c k = ap (λ (t : List Float). t ! listed c k) e ∙ unread (λ j. g j (l₀ ! j)) k h in
        next (store_turn c (λ j. g j (l₀ ! j))) l₀ k e (ap (set l (listed c k)) (q ∙ ap (g (listed c k)) cell))

-- ---- what the stores leave, put together

-- a flip: the basic values were lent, and two cells written
module _ (P : Problem) (N : List ℕ) (D : List Float) (t : Tally) (e : Entering) (c : Sv) (value diff : Float) (f : Flips P N D e.col) where
  abbrev vals : List Float
  vals = section basic_var_vals_at max_rows D

  pub var_is : N # (nb_vars_at + e.col) ≡ (packed N D).nb_vars # e.col
  var_is = sym (section_at nb_vars_at max_columns N e.col 0 f.col_inside)

  pub flip_is : (b : List Float) (x : ℕ) (o : Float) → b ≡ stored c (moved_val (numbers_of vals [] []) c diff) vals → length b ≡ length vals
      → x ≡ flags_at P (N # (nb_vars_at + e.col)) value → o ≡ new_objective (state_at N D t) e diff
      → state_with
      (packed (set N (flag_cells_at + e.col) x) (set (put_mid basic_var_vals_at max_rows D b) (nb_var_vals_at + e.col) value))
      t.eta_count o (t.steps + 1) (state_at N D t).factor
      ≡ flipped P (state_at N D t) e c value diff
  unfolding flipped moved_val
  flip_is b x o eb kb ex eo =
      let col = e.col in
      let D1 = put_mid basic_var_vals_at max_rows D b in
      let h1 = in_basic_var_vals (as_lent N D) (lent basic_var_vals_at max_rows D (λ (l : List Float). stored c (moved_val (numbers_of l [] []) c diff) l) b (omega (arith, f.sized)) eb kb) in
      let h2 = in_nb_var_vals h1 (written nb_var_vals_at max_columns D1 col value f.col_inside) in
      let h3 = in_flags h2 (written flag_cells_at max_columns N col x f.col_inside) in
      let i : t.steps + 1 ≡ suc t.steps = omega arith in
      ap (λ (w : Workspace). state_with w t.eta_count o (t.steps + 1) (state_at N D t).factor) h3.is
      ∙ rw (i, ex, var_is, eo)

-- the numbers of an exchange: three sections were lent
module _ (N : List ℕ) (D : List Float) (e : Entering) (c rowSv helper : Sv) (value diff : Float) (row : ℕ) (pivot : Float) (long : length D ≡ objective_at) where
  abbrev old_vals : List Float
  old_vals = section basic_var_vals_at max_rows D

  abbrev old_prices : List Float
  old_prices = section prices_at max_columns D

  abbrev old_norms : List Float
  old_norms = section norms_at max_columns D

  abbrev vals_put : List Float → List Float
  vals_put b = put_mid basic_var_vals_at max_rows D b

  abbrev prices_put : List Float → List Float → List Float
  prices_put b p = put_mid prices_at max_columns (vals_put b) p

  pub numbers_is : (b p n : List Float) → b ≡ stored c (new_val (numbers_of old_vals [] []) c value diff row) old_vals → length b ≡ length old_vals
      → p ≡ stored rowSv (new_price (numbers_of [] (section prices_at max_columns (vals_put b)) []) e pivot rowSv) (section prices_at max_columns (vals_put b)) → length p ≡ length (section prices_at max_columns (vals_put b))
      → n ≡ stored rowSv (new_norm (numbers_of [] [] (section norms_at max_columns (prices_put b p))) e c pivot rowSv helper) (section norms_at max_columns (prices_put b p)) → length n ≡ length (section norms_at max_columns (prices_put b p))
      → packed N (put_mid norms_at max_columns (prices_put b p) n) ≡ numbers_stored (packed N D) e c rowSv helper value diff row pivot
  unfolding numbers_stored new_val moved_val new_price new_norm
  numbers_is b p n eb kb ep kp en kn =
      let c1 = lent basic_var_vals_at max_rows D (λ (l : List Float). stored c (new_val (numbers_of l [] []) c value diff row) l) b (omega (arith, long)) eb kb in
      let c2 = lent prices_at max_columns (vals_put b) (λ (l : List Float). stored rowSv (new_price (numbers_of [] l []) e pivot rowSv) l) p (omega (arith, long, c1.long)) ep kp in
      let c3 = lent norms_at max_columns (prices_put b p) (λ (l : List Float). stored rowSv (new_norm (numbers_of [] [] l) e c pivot rowSv helper) l) n (omega (arith, long, c1.long, c2.long)) en kn in
      (in_norms (in_prices (in_basic_var_vals (as_lent N D) c1) c2) c3).is

-- the maps and what stands at the entering place: six cells were written
module _ (P : Problem) (N : List ℕ) (D : List Float) (col row : ℕ) (leaving : Float) (s : Swaps P N D col row) where
  abbrev enters : ℕ
  enters = N # (nb_vars_at + col)

  abbrev leaves : ℕ
  leaves = N # (basic_vars_at + row)

  pub enters_is : enters ≡ (packed N D).nb_vars # col
  enters_is = sym (section_at nb_vars_at max_columns N col 0 s.col_inside)

  pub leaves_is : leaves ≡ (packed N D).basic_vars # row
  leaves_is = sym (section_at basic_vars_at max_rows N row 0 s.row_inside)

  pub basis_is : (x y z : ℕ) → x ≡ flags_at P leaves leaving → y ≡ var_cell (n_of P) (Basic row) → z ≡ var_cell (n_of P) (NonBasic col)
      → packed (set (set (set (set (set N (flag_cells_at + col) x) (basic_vars_at + row) enters) (var_states_at + enters) y) (nb_vars_at + col) leaves) (var_states_at + leaves) z) (set D (nb_var_vals_at + col) leaving)
      ≡ basis_stored P (packed N D) col row leaving
  unfolding basis_stored
  basis_is x y z ex ey ez =
      let N1 = set N (flag_cells_at + col) x in
      let N2 = set N1 (basic_vars_at + row) enters in
      let N3 = set N2 (var_states_at + enters) y in
      let N4 = set N3 (nb_vars_at + col) leaves in
      let h1 = in_nb_var_vals (as_lent N D) (written nb_var_vals_at max_columns D col leaving s.col_inside) in
      let h2 = in_flags h1 (written flag_cells_at max_columns N col x s.col_inside) in
      let h3 = in_basic_vars h2 (written basic_vars_at max_rows N1 row enters s.row_inside) in
      let h4 = in_var_states h3 (written var_states_at vars N2 enters y (omega (arith, enters_is, s.enters))) in
      let h5 = in_nb_vars h4 (written nb_vars_at max_columns N3 col leaves s.col_inside) in
      let h6 = in_var_states h5 (written var_states_at vars N4 leaves z (omega (arith, leaves_is, s.leaves))) in
      h6.is ∙ rw (ex, ey, ez, enters_is, leaves_is)

-- ---- the two halves, the objective, and what comes after them
abbrev bare : Workspace → Workspace
bare w =
    workspace_of w.basic_vars w.basic_var_vals w.nb_vars w.nb_var_vals w.prices w.norms
    w.dual_norms w.flags w.var_states (no_columns w.etas)

module _ (P : Problem) (s : State) (e : Entering) (c rowSv helper : Sv) (x : Exchange) where
  pub swap_is : {u v : Workspace} {o : Float}
      → u ≡ numbers_stored s.ws e c rowSv helper x.value x.diff x.row x.pivot
      → v ≡ basis_stored P u e.col x.row x.leaving
      → o ≡ new_objective s e x.diff
      → state_with v s.eta_count o (s.steps + 1) s.factor ≡ swapped P s e c rowSv helper x
  unfolding numbers_stored basis_stored swapped
  swap_is eu ev eo =
      let i : s.steps + 1 ≡ suc s.steps = omega arith in
      rw (i, ev, eu, eo)

  module _ {u : State} (eu : u ≡ swapped P s e c rowSv helper x) where
    -- the room for the eta column is as it was
    pub room_kept : (j : ℕ) → Room s.ws.etas s.eta_count j → Room u.ws.etas s.eta_count j
    unfolding swapped
    room_kept j r = rw eu r

    -- the eta column
    pub exchange_is : {w : Workspace} → w ≡ column_pushed c x.row x.pivot s.eta_count u.ws
        → state_with w (s.eta_count + 1) u.objective u.steps u.factor
        ≡ exchanged P s e c rowSv helper x.value x.diff x.row x.pivot x.leaving
    unfolding swapped exchanged
    exchange_is ew =
        let k : s.eta_count + 1 ≡ suc s.eta_count = omega arith in
        rw (k, ew, eu)

    -- no eta columns
    pub emptied_is : {w : Workspace} → w ≡ bare u.ws
        → state_with w 0 u.objective u.steps (factored_of true (s.factor.times + 1) [] [])
        ≡ emptied P s e c rowSv helper x
    unfolding swapped emptied
    emptied_is ew =
        let k : s.factor.times + 1 ≡ suc s.factor.times = omega arith in
        rw (k, ew, eu)
