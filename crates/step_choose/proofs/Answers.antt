-- What the code's tests say of the choice's answers. Assumes nothing.
use mathlib.Core.Path.{◌≡◌, ap, ◌∙◌}
use mathlib.Core.Bool.{true, false}
use Prim.Native.Nat.{◌<◌, ◌≤◌}
use borrow.Author.Tests.{lt-ltb, le-ltb}
use lib.Dec.{ltb}
use lib.Ieee.{Float}
use Rattle.doubles.specs.Num.{◌⊖◌, size}
use Rattle.doubles.specs.Lists.{◌!◌}
use Rattle.rules.specs.Plan.{Problem, Workspace, n_of}
use Rattle.rules.specs.Choose.{Best, best_column, other_val, entering_of, choose}
use Rattle.std.specs.Prelude.{Option, Some, None}
use Rattle.rules.specs.declared.Entering.{Entering}

module _ (P : Problem) (w : Workspace) {b : Best} (best : b ≡ best_column (n_of P) w) where
  abbrev pick : Best → Option Entering
  pick b = elim (ltb b.col (n_of P)) [ true ↦ Some (entering_of P w b) | false ↦ None ]

  pub chosen : {o d : Float} → b.col < n_of P → o ≡ other_val P w b.col → d ≡ size (o ⊖ w.nb_var_vals ! b.col)
      → Some (record { col = b.col; price = w.prices ! b.col; score = b.score; distance = d }) ≡ choose P w
  unfolding choose entering_of
  chosen {o} {d} l e f =
      let this : Some (record { col = b.col; price = w.prices ! b.col; score = b.score; distance = d }) ≡ pick b =
      rw (lt-ltb b.col (n_of P) l, pick, f, e) in
      this ∙ ap pick best

  pub not_chosen : n_of P ≤ b.col → None ≡ choose P w
  unfolding choose
  not_chosen g =
      let this : None ≡ pick b = rw (le-ltb b.col (n_of P) g, pick) in
      this ∙ ap pick best
