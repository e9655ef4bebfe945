-- No turn changes an array's length. Assumes nothing.
use mathlib.Core.Path.{◌≡◌, refl, ◌∙◌}
use mathlib.Core.List.{List}
use Prim.Native.Nat.{ℕ, zero, suc, ◌+◌}
use lib.ListN.{length, length-set}
use lib.Ieee.{Float}
use Rattle.doubles.specs.Loop.{run}
use Rattle.doubles.specs.Lists.{◌!◌, ◌#◌}
use Rattle.basis_columns.specs.Columns.{Cells, place_turn}

pub record Same (s t : Cells) : Type 0 where
  pub next : length t.next ≡ length s.next
  pub rows : length t.rows ≡ length s.rows
  pub coeffs : length t.coeffs ≡ length s.coeffs

module _ (r : ℕ) (cols : List ℕ) (xs : List Float) (s : Cells) where
  pub place_long : (k : ℕ) → Same s (run (place_turn r cols xs) k s)
  unfolding run
  place_long zero = record { next = refl; rows = refl; coeffs = refl }
  place_long (suc k) =
      let t = run (place_turn r cols xs) k s in
      let o = place_long k in
      let at = t.next # (cols # k) in
      record {
        next = length-set t.next (cols # k) (at + 1) ∙ o.next;
        rows = length-set t.rows at r ∙ o.rows;
        coeffs = length-set t.coeffs at (xs ! k) ∙ o.coeffs;
      }
