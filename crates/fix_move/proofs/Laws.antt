-- How a fix of a non_basic column ends. Assumes nothing.
use mathlib.Core.Path.{◌≡◌, refl, ap, ◌∙◌}
use mathlib.Core.Bool.{Bool, true, false, ◌&&◌}
use mathlib.Core.List.{List, []}
use Prim.Native.Nat.{ℕ, ◌+◌, ◌<◌}
use lib.Ieee.{Float}
use Rattle.doubles.specs.Num.{◌⊕◌, ◌⊖◌, ◌⊗◌, f0, finite}
use Rattle.doubles.specs.Limits.{max_rows, max_columns}
use Rattle.doubles.specs.Lists.{◌!◌}
use Rattle.sparse.specs.Scattered.{Sv, listed_finite}
use Rattle.rules.specs.Plan.{Problem, State}
use Rattle.rules.specs.Pivot.{stores_finite, moved_val}
use Rattle.rules.specs.declared.Entering.{Entering}
use Rattle.rules.specs.declared.Stop.TheVariants.{NotFinite}
use Rattle.state.specs.Packed.{section, state_in, basic_var_vals_at, nb_var_vals_at, prices_at}
use Rattle.state.specs.declared.Tally.{Tally}
use Rattle.step_numbers.specs.Lent.{numbers_of}
use Rattle.step_refactor.specs.Left.{Left, on, off}
use Rattle.fix_rules.specs.Fix.{shift_finite_by, shifted_by, fix_column, shift_finite, shifted}
use Rattle.fix_store.proofs.Laws.{val_is, price_is}
use Rattle.fix_move.specs.Shift.{shift_left}

-- the place, as the laws of a step speak of it
abbrev pub at_place : ℕ → Entering
at_place c = record { col = c; price = f0; score = f0; distance = f0 }

module _ (P : Problem) (s : State) (c : ℕ) (value : Float) (k : Sv) (ek : k ≡ fix_column P s c value) where
  abbrev stays : Left
  stays = off NotFinite s.ws s.factor.numbers s.factor.coeffs

  abbrev from : Sv → Left
  from k = elim (listed_finite k && shift_finite_by s c k value) [ true ↦ on (shifted_by s c k value) | false ↦ stays ]

  is_from : from k ≡ shift_left P s c value
  unfolding shift_left shift_finite shifted
  is_from = ap from ek

  pub shift_bad : listed_finite k ≡ false → stays ≡ shift_left P s c value
  shift_bad f = let g : stays ≡ from k = rw (f, from) in g ∙ is_from

  module _ (f : listed_finite k ≡ true) where
    pub shift_unsound : shift_finite_by s c k value ≡ false → stays ≡ shift_left P s c value
    shift_unsound q = let g : stays ≡ from k = rw (f, q, from) in g ∙ is_from

    pub shift_moves : shift_finite_by s c k value ≡ true → {u : State} → u ≡ shifted_by s c k value → on u ≡ shift_left P s c value
    shift_moves q e = let g : on (shifted_by s c k value) ≡ from k = rw (f, q, from) in ap on e ∙ g ∙ is_from

-- the tests of the new numbers, read from the lent array
module _ (N : List ℕ) (D : List Float) (F : List ℕ) (G : List Float) (t : Tally) (col : ℕ) (inside : col < max_columns) (k : Sv)
    (value : Float) where
  abbrev vals : List Float
  vals = section basic_var_vals_at max_rows D

  abbrev diff : Float
  diff = value ⊖ D ! (nb_var_vals_at + col)

  finite_is : (a b : Bool) → a ≡ stores_finite k (moved_val (numbers_of vals [] []) k diff)
      → b ≡ finite (t.objective ⊕ diff ⊗ D ! (prices_at + col)) → a && b ≡ shift_finite_by (state_in N D F G t) col k value
  unfolding moved_val
  finite_is a b ea eb = rw (ea, eb, val_is N D col inside, price_is N D col inside)

  pub unsound_is : false ≡ stores_finite k (moved_val (numbers_of vals [] []) k diff)
      → false ≡ shift_finite_by (state_in N D F G t) col k value
  unsound_is ea = finite_is false (finite (t.objective ⊕ diff ⊗ D ! (prices_at + col))) ea refl

  pub sound_is : true ≡ stores_finite k (moved_val (numbers_of vals [] []) k diff) → (b : Bool)
      → b ≡ finite (t.objective ⊕ diff ⊗ D ! (prices_at + col)) → b ≡ shift_finite_by (state_in N D F G t) col k value
  sound_is ea b eb = finite_is true b ea eb
