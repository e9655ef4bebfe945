-- What the pivot choice means: of the listed rows that aren't pivot rows yet it has the largest size, and none before
-- it is as large. Assumes nothing.
use mathlib.Core.Path.{◌≡◌, refl, ap}
use mathlib.Core.Bool.{Bool, true, false, not, ◌&&◌}
use mathlib.Core.List.{List}
use Prim.Native.Nat.{ℕ, ◌<◌}
use native.Mathlib.Omega.{arith}
use lib.Ieee.{Float, lt, le, of_bits}
use Rattle.doubles.specs.Num.{f0, eps, size}
use Rattle.doubles.specs.Limits.{max_rows}
use Rattle.doubles.specs.Words.{FirstLargest}
use Rattle.doubles.specs.Lists.{◌!◌, ◌#◌}
use Rattle.doubles.proofs.Tests.{not_both}
use Rattle.doubles.proofs.Order.{lt_le_trans}
use Rattle.doubles.proofs.Largest.{Best as Largest, kept, took, best as largest, above, at_least, by_above}
use Rattle.lu_factor_rules.specs.declared.Best.{Best}
use Rattle.lu_factor_rules.specs.Factor.{is_pivot, best, better_by, better, best_turn, chosen}
use Rattle.lu_factor_rules.specs.Ready.{Rows}

pub too_small : le eps f0 ≡ false
unfolding le of_bits
too_small = refl

-- what is at least EPS is above 0.0
pub eps_above : (x : Float) → le eps x ≡ true → lt f0 x ≡ true
unfolding lt of_bits
eps_above x h = lt_le_trans f0 eps x refl h

module _ (number : List ℕ) (i : ℕ) (v : List Float) (l : List ℕ) (n : ℕ) where
  -- the k-th listed row is none of the first i pivot rows; its size
  abbrev pub free : ℕ → Bool
  free k = not (is_pivot number i (l # k))

  abbrev pub size_at : ℕ → Float
  size_at k = size (v ! (l # k))

  by : (p g : Bool) (b c : Best) → better_by p g b c ≡ elim (not p && g) [ true ↦ c | false ↦ b ]
  by true g b c = refl
  by false true b c = refl
  by false false b c = refl

  turn_is : (k : ℕ) (b : Best) → best_turn number i v l k b ≡ elim (free k && above (size_at k) b.most)
      [ true ↦ best (l # k) (size_at k) | false ↦ b ]
  unfolding better
  turn_is k b = by (is_pivot number i (l # k)) (lt b.most (size_at k)) b (best (l # k) (size_at k))

  pub law : Largest above at_least free size_at (λ k. best (l # k) (size_at k)) f0 (best 0 f0) n (chosen number i v l n)
  unfolding chosen
  law = largest by_above free size_at (λ b. b.most) (λ k. best (l # k) (size_at k)) (λ k. refl) (best_turn number i v l)
      turn_is (best 0 f0) n

  -- the chosen row is the k-th listed
  pub record Chosen : Type 0 where
    pub at : ℕ
    pub wins : FirstLargest free size_at n at
    pub row_is : (chosen number i v l n).row ≡ l # at
    pub most_is : (chosen number i v l n).most ≡ size_at at

  pub choice : le eps (chosen number i v l n).most ≡ true → Chosen
  choice h = go (chosen number i v l n) refl law h
    where
      go : (b : Best) → chosen number i v l n ≡ b
          → Largest above at_least free size_at (λ k. best (l # k) (size_at k)) f0 (best 0 f0) n b
          → le eps b.most ≡ true → Chosen
      go b q (kept g) e = absurd (not_both e too_small)
      go b q (took k a t c d f) e =
          record {
            at = k;
            wins = record { inside = a; passes = t; largest = d; first = f };
            row_is = ap
                (λ (x : Best). x.row) q;
            most_is = ap (λ (x : Best). x.most) q;
          }

  -- it is a row in every case
  pub chosen_row : Rows max_rows n l → (chosen number i v l n).row < max_rows
  chosen_row r = go (chosen number i v l n) law
    where
      go : (b : Best) → Largest above at_least free size_at (λ k. best (l # k) (size_at k)) f0 (best 0 f0) n b
          → b.row < max_rows
      go b (kept g) = omega arith
      go b (took k a t c d f) = r.rows k a
