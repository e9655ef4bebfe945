-- Tests that are known to pass or to fail. Assumes nothing.
use mathlib.Core.Path.{◌≡◌, refl, sym}
use mathlib.Core.Logic.{◌⊎◌, inl, inr}
use mathlib.Core.Bool.{Bool, true, false, not, ◌&&◌, ◌||◌}
use Rattle.doubles.proofs.Bools.{never}

-- no test both passes and fails
pub unlike : {X : Type 0} → false ≡ true → X
unlike e = never e refl

pub both_not : (b d : Bool) → (b && d) ≡ false → b ≡ true → d ≡ false
both_not true d e h = e
both_not false d e h = unlike h

pub neither : (b d : Bool) → (b || d) ≡ false → (b ≡ false) × (d ≡ false)
neither false d e = (refl, e)
neither true d e = unlike (sym e)

pub all_three : (a b d : Bool) → (a || b || d) ≡ false → (a ≡ false) × (b ≡ false) × (d ≡ false)
all_three false false false h = (refl, refl, refl)
all_three true b d h = unlike (sym h)
all_three false true d h = unlike (sym h)
all_three false false true h = unlike (sym h)

pub none_of : (a b : Bool) → not (a || b) ≡ false → (a ≡ true) ⊎ (b ≡ true)
none_of true b h = inl refl
none_of false true h = inr refl
none_of false false h = unlike (sym h)
