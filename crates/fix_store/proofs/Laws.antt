-- What the stores of a fix read and leave. No contract cites this file. Assumes nothing.
use mathlib.Core.Path.{◌≡◌, sym, ap, ◌∙◌}
use mathlib.Core.List.{List, []}
use Prim.Native.Nat.{ℕ, ◌+◌, ◌<◌}
use native.Mathlib.Omega.{arith}
use lib.ListN.{length, set}
use lib.Ieee.{Float, nan}
use borrow.Rule.Slice.PartMut.{put_mid}
use Rattle.doubles.specs.Num.{◌⊕◌, ◌⊖◌, ◌⊗◌}
use Rattle.doubles.specs.Limits.{max_rows, max_columns}
use Rattle.doubles.specs.Lists.{◌!◌, ◌#◌}
use Rattle.sparse.specs.Scattered.{Sv}
use Rattle.rules.specs.Plan.{Problem, Workspace, State, flags_cell, held}
use Rattle.rules.specs.Parts.{state_with}
use Rattle.rules.specs.Pivot.{stored, moved_val, flags_at}
use Rattle.state.specs.Packed.{section, packed, state_in, Sized, nb_vars_at, flag_cells_at, basic_var_vals_at, nb_var_vals_at, prices_at}
use Rattle.state.specs.declared.Tally.{Tally}
use Rattle.state.proofs.Sections.{section_at, lent, written}
use Rattle.state.proofs.Moves.{as_lent, in_flags, in_basic_var_vals, in_nb_var_vals}
use Rattle.step_numbers.specs.Lent.{numbers_of}
use Rattle.fix_rules.specs.Fix.{marked, unmarked, shifted_by}

-- the state with another workspace
abbrev with_ws : State → Workspace → State
with_ws s w = state_with w s.eta_count s.objective s.steps s.factor

-- the cells that are read, as the workspace's
module _ (N : List ℕ) (D : List Float) (col : ℕ) (inside : col < max_columns) where
  pub var_is : N # (nb_vars_at + col) ≡ (packed N D).nb_vars # col
  var_is = sym (section_at nb_vars_at max_columns N col 0 inside)

  pub val_is : D ! (nb_var_vals_at + col) ≡ (packed N D).nb_var_vals ! col
  val_is = sym (section_at nb_var_vals_at max_columns D col nan inside)

  pub price_is : D ! (prices_at + col) ≡ (packed N D).prices ! col
  price_is = sym (section_at prices_at max_columns D col nan inside)

module _ (N : List ℕ) (D : List Float) (F : List ℕ) (G : List Float) (t : Tally) (col : ℕ) (inside : col < max_columns) where
  abbrev s : State
  s = state_in N D F G t

  -- a mark: one flags cell was written
  pub mark_is : (x : ℕ) → x ≡ flags_cell held → state_in (set N (flag_cells_at + col) x) D F G t ≡ marked s col
  unfolding marked
  mark_is x e =
      ap (with_ws s) (in_flags (as_lent N D) (written flag_cells_at max_columns N col x inside)).is ∙ rw e

  pub unmark_is : (P : Problem) (x : ℕ) → x ≡ flags_at P (N # (nb_vars_at + col)) (D ! (nb_var_vals_at + col))
      → state_in (set N (flag_cells_at + col) x) D F G t ≡ unmarked P s col
  unfolding unmarked
  unmark_is P x e =
      ap (with_ws s) (in_flags (as_lent N D) (written flag_cells_at max_columns N col x inside)).is ∙ rw (e, var_is N D col inside, val_is N D col inside)

  -- a shift: the basic values were lent, the value written, and the flags cell marked
  module _ (z : Sized N D) (c : Sv) (value : Float) where
    abbrev vals : List Float
    vals = section basic_var_vals_at max_rows D

    abbrev diff : Float
    diff = value ⊖ D ! (nb_var_vals_at + col)

    abbrev with_objective : Float → Tally
    with_objective o =
        record { eta_count = t.eta_count; objective = o; steps = t.steps; factored = t.factored; factorings = t.factorings }

    abbrev moved_to : List Float → List Float
    moved_to b = set (put_mid basic_var_vals_at max_rows D b) (nb_var_vals_at + col) value

    pub shift_is : (b : List Float) (M : List ℕ) (o : Float)
        → b ≡ stored c (moved_val (numbers_of vals [] []) c diff) vals → length b ≡ length vals
        → o ≡ t.objective ⊕ diff ⊗ D ! (prices_at + col)
        → ((E : List Float) (H : List ℕ) (J : List Float) (y : Tally) → state_in M E H J y ≡ marked (state_in N E H J y) col)
        → state_in M (moved_to b) F G (with_objective o) ≡ shifted_by s col c value
    unfolding moved_val
    shift_is b M o eb kb eo em =
        let D1 = put_mid basic_var_vals_at max_rows D b in
        let h1 = in_basic_var_vals (as_lent N D) (lent basic_var_vals_at max_rows D (λ (l : List Float). stored c (moved_val (numbers_of l [] []) c diff) l) b (omega (arith, z)) eb kb) in
        let h2 = in_nb_var_vals h1 (written nb_var_vals_at max_columns D1 col value inside) in
        em (moved_to b) F G (with_objective o)
        ∙ ap (λ (w : Workspace). marked (state_with w t.eta_count o t.steps s.factor) col) h2.is
        ∙ rw (eo, val_is N D col inside, price_is N D col inside)
