-- What combining rows keeps, and what it asks, from a plan and a state that fit. No contract cites this file. Assumes nothing.
use mathlib.Core.Path.{◌≡◌, refl}
use mathlib.Core.Bool.{Bool, true, false}
use mathlib.Core.List.{List}
use Prim.Native.Nat.{ℕ, ◌<◌, ◌≤◌, ◌-◌}
use native.Mathlib.Nat.{le_refl}
use native.Mathlib.Omega.{arith}
use lib.Dec.{ltb}
use lib.Ieee.{Float}
use borrow.Author.Tests.{ltb-true}
use Rattle.doubles.specs.Num.{◌⊗◌}
use Rattle.doubles.specs.Limits.{places}
use Rattle.doubles.specs.Loop.{run}
use Rattle.doubles.specs.Lists.{◌!◌, ◌#◌}
use Rattle.doubles.proofs.Loops.{keeps}
use Rattle.sparse.specs.Scattered.{Sv, blank, Good, listed, listed_val}
use Rattle.sparse.proofs.Laws.{good_put_at, good_blank}
use Rattle.rules.specs.Plan.{Problem, n_of, row_cols, row_coeffs, var_state_of}
use Rattle.rules.specs.declared.VarState.{VarState}
use Rattle.rules.specs.declared.VarState.TheVariants.{Basic, NonBasic}
use Rattle.rules.specs.Basis.{add_entry, add_turn, add_row}

-- a non_basic variable's place is below n
place_below : (n cell c : ℕ) → var_state_of n cell ≡ NonBasic c → c < n
unfolding var_state_of
place_below n cell c e = go (ltb cell n) refl
  where
    go : (b : Bool) → ltb cell n ≡ b → c < n
    go true f =
        let q : NonBasic cell ≡ NonBasic c = rw (f, var_state_of) at e in
        let p : cell ≡ c = cc in
        omega (arith, ltb-true cell n f)
    go false f =
        let q : Basic (cell - n) ≡ NonBasic c = rw (f, var_state_of) at e in
        absurd (let z : ◌≡◌ {A = ℕ} 0 1 = cc in omega arith)

module _ {m : ℕ} (n : ℕ) (h : n ≤ m) (vs : List ℕ) where
  pub good_add_entry : (v : ℕ) (x : Float) (s : Sv) → Good m s → Good m (add_entry n vs v x s)
  unfolding add_entry
  good_add_entry v x s g = go (var_state_of n (vs # v)) refl
    where
      go : (w : VarState) → var_state_of n (vs # v) ≡ w → Good m (add_entry n vs v x s)
      go (NonBasic c) e = rw (e, add_entry) (good_put_at s c _ g (omega (arith, place_below n (vs # v) c e)))
      go (Basic r) e = rw (e, add_entry) g

  pub good_adding : (cols : List ℕ) (coeffs : List Float) (y : Float) (s : Sv) → Good m s → (k : ℕ) → Good m (run (add_turn n vs cols coeffs y) k s)
  good_adding cols coeffs y s g k =
      keeps (add_turn n vs cols coeffs y) s (λ _. Good m) k (λ j t _ p. good_add_entry (cols # j) (coeffs ! j ⊗ y) t p) g k (le_refl k)

-- a loop of rows
pub good_rows : (P : Problem) → n_of P ≤ places → (vs : List ℕ) (y : Sv) (k : ℕ) → Good places (run (λ k s. add_row P vs (listed y k) (listed_val y k) s) k blank)
unfolding add_row
good_rows P h vs y k =
    keeps (λ k s. add_row P vs (listed y k) (listed_val y k) s) blank (λ _. Good places) k
    (λ j t _ p. good_add_entry (n_of P) h vs _ _ _ (good_adding (n_of P) h vs (row_cols P.plan (P.kept # listed y j)) (row_coeffs P.plan (P.kept # listed y j)) _ t p _))
    good_blank k (le_refl k)
