-- 42, 43 and 44 are given exactly when their words hold. Assumes nothing.
use mathlib.Core.Path.{◌≡◌, refl}
use mathlib.Core.Bool.{Bool, true, false}
use mathlib.Core.Logic.{◌↔◌, inl, inr, ⊎_elim}
use Prim.Native.Nat.{ℕ, ◌-◌}
use native.Mathlib.Omega.{arith}
use lib.Dec.{ltb}
use lib.Ieee.{Float}
use borrow.Author.Tests.{ltb-true, ltb-false}
use Rattle.doubles.specs.Lists.{◌#◌}
use Rattle.doubles.proofs.Bools.{itself, turned, ◌or◌, ltb_fails}
use Rattle.rules.specs.Plan.{Plan, Memory, flags_of, var_state_of}
use Rattle.rules.specs.declared.VarState.{VarState}
use Rattle.rules.specs.declared.VarState.TheVariants.{Basic, NonBasic}
use Rattle.fix_rules.specs.Fix.{is_fixed}
use Rattle.fix_rules.specs.Calls.{passes42, passes43, passes44}
use Rattle.fix_rules.specs.Conditions.{Unknown, Outside, Loose}

-- 42
pub unknown_exactly : (p : Plan) (j : ℕ) → (passes42 p j ≡ false) ↔ Unknown p j
unknown_exactly p j = ltb_fails j p.columns

-- 43
pub outside_exactly : (p : Plan) (j : ℕ) (value : Float) → (passes43 p j value ≡ false) ↔ Outside p j value
unfolding passes43
outside_exactly p j value = itself or turned itself or turned itself

-- 44: the mark of a column that stands so, and where a cell c stands, by whether it is a place
abbrev mark_at : Memory → VarState → Bool
mark_at m x = elim x [ NonBasic k ↦ (flags_of (m.ws.flags # k)).«fixed» | Basic r ↦ false ]

abbrev standing : Bool → ℕ → ℕ → VarState
standing b c n = elim b [ true ↦ NonBasic c | false ↦ Basic (c - n) ]

pub loose_exactly : (p : Plan) (m : Memory) (j : ℕ) → (passes44 p m j ≡ false) ↔ Loose p m j
unfolding is_fixed var_state_of
loose_exactly p m j = go (ltb c p.columns) refl
  where
    c : ℕ
    c = m.ws.var_states # j

    go : (b : Bool) → ltb c p.columns ≡ b
        → (mark_at m (standing b c p.columns) ≡ false) ↔ Loose p m j
    go true e = (λ h. inr (ltb-true c p.columns e, h), ⊎_elim (λ g. absurd (omega (arith, g, ltb-true c p.columns e))) (λ x. x.1))
    go false e = (λ h. inl (ltb-false c p.columns e), λ _. refl)
