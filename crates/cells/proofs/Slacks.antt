-- The bounds of a slack by its comparison: 0 is Le, 1 is Eq, and Ge is what is left. Assumes nothing.
use mathlib.Core.Path.{◌≡◌, refl}
use Prim.Native.Nat.{ℕ, zero, suc, ◌<◌}
use native.Mathlib.Omega.{arith}
use Rattle.doubles.specs.Num.{f0, -inf}
use Rattle.rules.specs.Plan.{slack_min, slack_max}

pub slack_min_ge : (op : ℕ) → 1 < op → slack_min op ≡ -inf
unfolding slack_min
slack_min_ge zero h = absurd (omega arith)
slack_min_ge (suc zero) h = absurd (omega arith)
slack_min_ge (suc (suc k)) h = refl

pub slack_max_ge : (op : ℕ) → 1 < op → slack_max op ≡ f0
unfolding slack_max
slack_max_ge zero h = absurd (omega arith)
slack_max_ge (suc zero) h = absurd (omega arith)
slack_max_ge (suc (suc k)) h = refl
