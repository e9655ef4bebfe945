-- The kept rows before a row, and the price of its slack. Assumes nothing.
use mathlib.Core.Path.{◌≡◌, sym, ap, ◌∙◌}
use mathlib.Core.List.{List, []}
use Prim.Native.Nat.{ℕ, ◌+◌, ◌-◌, ◌<◌, ◌≤◌}
use native.Mathlib.Numerals.{add-one}
use native.Mathlib.Omega.{arith}
use lib.Ieee.{Float, nan}
use borrow.Author.Tests.{eq-eqb, ne_eqb, lt-ltb, le-ltb}
use Rattle.doubles.specs.Num.{f0}
use Rattle.doubles.specs.Limits.{max_columns, vars}
use Rattle.doubles.specs.Loop.{run}
use Rattle.doubles.specs.Lists.{◌!◌, ◌#◌}
use Rattle.rules.specs.Plan.{Plan, Memory, kept_turn, var_state_of}
use Rattle.rules.specs.declared.VarState.TheVariants.{Basic, NonBasic}
use Rattle.rules.proofs.Lists.{length_snoc}
use Rattle.state.specs.Packed.{var_states_at, prices_at}
use Rattle.state.specs.Memory.{memory_in}
use Rattle.state.proofs.Sections.{section_at}
use Rattle.state_maps.proofs.Laws.{few_before}
use Rattle.whole_multipliers.specs.Rows.{before, price_in, slack_price, rows_of}

-- ---- the next row
module _ (p : Plan) (j : ℕ) where
  pub before_kept : ¬ (p.starts # j ≡ p.starts # (j + 1)) → before p (j + 1) ≡ before p j + 1
  unfolding before run
  before_kept h =
      let ks = run (kept_turn p) j [] in
      rw (add-one j) (rw (ne_eqb _ _ h, kept_turn) (length_snoc ks j))

  pub before_dropped : p.starts # j ≡ p.starts # (j + 1) → before p (j + 1) ≡ before p j
  unfolding before run
  before_dropped h = rw (add-one j) (rw (eq-eqb _ _ h, kept_turn))

pub before_few : (p : Plan) (i : ℕ) → before p i ≤ i
unfolding before
before_few p i = few_before p i

-- ---- the price, by where the slack stands
module _ (n m : ℕ) (S O N : List ℕ) (D : List Float) (i : ℕ) where
  abbrev p : Plan
  p = rows_of n m S O

  abbrev w : Memory
  w = memory_in [] N D [] []

  pub dropped : S # i ≡ S # (i + 1) → f0 ≡ slack_price p w i
  unfolding slack_price
  dropped h = rw (eq-eqb _ _ h, slack_price)

  module _ (h : ¬ (S # i ≡ S # (i + 1))) (k : ℕ) (e : k ≡ before p i) (l : n + k < vars) where
    abbrev cell : ℕ
    cell = N # (var_states_at + (n + k))

    stands : slack_price p w i ≡ price_in w.ws (var_state_of n cell)
    unfolding slack_price
    stands = rw (ne_eqb _ _ h, slack_price) (rw (← e, section_at var_states_at vars N (n + k) 0 l))

    pub non_basic : cell < n → n ≤ max_columns → D ! (prices_at + cell) ≡ slack_price p w i
    unfolding price_in var_state_of
    non_basic g b =
        let at : var_state_of n cell ≡ NonBasic cell = rw (lt-ltb cell n g, var_state_of) in
        sym (stands ∙ ap (price_in w.ws) at ∙ section_at prices_at max_columns D cell nan (omega arith))

    pub basic : n ≤ cell → f0 ≡ slack_price p w i
    unfolding price_in var_state_of
    basic g =
        let at : var_state_of n cell ≡ Basic (cell - n) = rw (le-ltb cell n g, var_state_of) in
        sym (stands ∙ ap (price_in w.ws) at)
