-- Tests: what a Bool that is true, or false, or can't be either, says. Assumes nothing.
use mathlib.Core.Path.{◌≡◌, refl}
use mathlib.Core.Bool.{Bool, true, false, ◌||◌}
use mathlib.Core.Logic.{◌⊎◌, inl, inr, ⊎_elim}
use Prim.Native.Nat.{ℕ}
use native.Mathlib.Omega.{arith}

true_or_false : (b : Bool) → (b ≡ true) ⊎ (b ≡ false)
true_or_false true = inl refl
true_or_false false = inr refl

pub not_both : {b : Bool} → b ≡ true → b ≡ false → ⊥
not_both p q = let z : ◌≡◌ {A = ℕ} 0 1 = cc in omega arith

pub either : (a b : Bool) → a || b ≡ true → (a ≡ true) ⊎ (b ≡ true)
either true b h = inl refl
either false b h = inr h

pub false_by : {b : Bool} → (b ≡ true → ⊥) → b ≡ false
false_by {b} h = ⊎_elim (λ p. absurd (h p)) (λ p. p) (true_or_false b)

pub true_by : {b : Bool} → (b ≡ false → ⊥) → b ≡ true
true_by {b} h = ⊎_elim (λ p. p) (λ p. absurd (h p)) (true_or_false b)
