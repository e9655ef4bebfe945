-- What the places ask of a file. Assumes nothing.
use mathlib.Core.Path.{◌≡◌, refl, sym, ap, ◌∙◌}
use Prim.Native.Nat.{ℕ, suc, ◌+◌, ◌*◌, ◌≤◌}
use native.Mathlib.Nat.{mul-le-mul}
use native.Mathlib.Omega.{arith}
use mathlib.Core.Bool.{not}
use lib.Dec.{leb}
use lib.IntN.{ℤ, pos}
use Rattle.doubles.specs.Limits.{max_rows, max_columns}
use Rattle.doubles.specs.Lists.{◌#◌}
use Rattle.doubles.specs.Loop.{all, table}
use Rattle.doubles.proofs.Loops.{all_same, get_d_table}
use Rattle.sheet_rules.specs.Sum.{◌‼◌}
use Rattle.sheet_rules.specs.Opening.{within, all_within, bound_fine, bounds_fine, ops_fine, crosses}
use Rattle.file_rules.specs.Block.{size_of_block}
use Rattle.file_rules.specs.PlanFile.{ceil}
use Rattle.file_open.specs.Places.{places_of}
use Rattle.file_open.specs.declared.Places.{Places}

pub few : (m n : ℕ) → m ≤ max_rows → n ≤ max_columns → m * n ≤ 12288
few m n h g = mul-le-mul h g

pub end_few : (m n : ℕ) → m ≤ max_rows → n ≤ max_columns → (places_of m n).end ≤ 1000
end_few m n h g = let q = few m n h g in omega arith

-- each array's blocks are in the file
pub record Placed (m n : ℕ) (p : Places) (len : ℕ) : Type 0 where
  pub coefs_in : size_of_block * (1 + ceil (8 * (m * n))) ≤ len
  pub costs_in : size_of_block * (p.costs + ceil (8 * n)) ≤ len
  pub lowers_in : size_of_block * (p.lowers + ceil (8 * n)) ≤ len
  pub uppers_in : size_of_block * (p.uppers + ceil (8 * n)) ≤ len
  pub lower_marks_in : size_of_block * (p.lower_marks + ceil n) ≤ len
  pub upper_marks_in : size_of_block * (p.upper_marks + ceil n) ≤ len
  pub rhs_in : size_of_block * (p.rhs + ceil (8 * m)) ≤ len
  pub ops_in : size_of_block * (p.ops + ceil m) ≤ len
  pub amounts_in : size_of_block * (p.amounts + ceil (8 * n)) ≤ len
  pub mults_in : size_of_block * (p.mults + ceil (8 * m)) ≤ len

placed_of : (m n len : ℕ) → size_of_block * suc (places_of m n).end ≤ len → Placed m n (places_of m n) len
placed_of m n len h = record {
  coefs_in = omega arith;
  costs_in = omega arith;
  lowers_in = omega arith;
  uppers_in = omega arith;
  lower_marks_in = omega arith;
  upper_marks_in = omega arith;
  rhs_in = omega arith;
  ops_in = omega arith;
  amounts_in = omega arith;
  mults_in = omega arith;
}

pub placed : (m n : ℕ) (p : Places) (len : ℕ) → p ≡ places_of m n → size_of_block * suc (places_of m n).end ≤ len → Placed m n p len
placed m n p len e h = rw e (placed_of m n len h)

-- ---- opening's tests of arrays that are tables
pub within_table : (limit n : ℕ) (g : ℕ → ℤ) → all_within limit n (table n g) ≡ all n (λ k. within limit (g k))
unfolding all_within
within_table limit n g = all_same _ _ n (λ k h. rw (get_d_table n g (pos 0) k h))

pub bounds_table : (n : ℕ) (g : ℕ → ℕ) (h : ℕ → ℤ) → bounds_fine n (table n g) (table n h) ≡ all n (λ k. bound_fine (g k) (h k))
unfolding bounds_fine
bounds_table n g h = all_same _ _ n (λ k i. rw (get_d_table n g 0 k i, get_d_table n h (pos 0) k i))

pub ops_table : (n : ℕ) (g : ℕ → ℕ) → ops_fine n (table n g) ≡ all n (λ k. leb (g k) 2)
unfolding ops_fine
ops_table n g = all_same _ _ n (λ k h. rw (get_d_table n g 0 k h))

pub crossed_table : (n : ℕ) (l u : ℕ → ℤ) (m v : ℕ → ℕ) → all n (λ j. not (crosses (l j) (u j) (m j) (v j))) ≡ all n (λ j. not (crosses (table n l ‼ j) (table n u ‼ j) (table n m # j) (table n v # j)))
crossed_table n l u m v = all_same _ _ n (λ j h. rw (get_d_table n l (pos 0) j h, get_d_table n u (pos 0) j h, get_d_table n m 0 j h, get_d_table n v 0 j h))
