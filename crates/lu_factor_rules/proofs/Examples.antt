-- Computed examples: the factor of a small basis, its transposes and its solves, and that of a basis of the vectors
-- (a5_cu21, 17 rows). Assumes nothing.
use mathlib.Core.Path.{◌≡◌, refl}
use mathlib.Core.List.{List, [], ◌∷◌}
use Prim.Native.Nat.{ℕ, ◌+◌, ◌-◌}
use lib.ListN.{take}
use lib.Ieee.{Float, binary64, of_bits, le, sub, mul, div}
use Rattle.doubles.specs.Num.{finite, size}
use Rattle.doubles.specs.Loop.{run, down, all, until}
use Rattle.doubles.specs.Lists.{◌!◌, ◌#◌, part}
use Rattle.sparse.specs.Scattered.{Sv, blank, touched, put_at, take_off, loaded, cleared}
use Rattle.lu_walk.specs.Walk.{many_in, walk, reached_in, reached}
use Rattle.lu_solve.specs.Solve.{process_col, given, zeroed, processed, grown, sparse}
use Rattle.lu_factor_rules.specs.Factor.{Matrix, matrix, Factor, Outcome, factored, non_finite, singular, back_one}
use Rattle.lu_factor_rules.specs.Factor.{reduced, solved, listed_finite, better, chosen, gathered_one, gathered}
use Rattle.lu_factor_rules.specs.Factor.{judged, column, added, factor_turn, factor_part, renumbered, factorize}
use Rattle.lu_factor_rules.specs.Transpose.{counted, summed, placed_one, placed_column, placed, transpose}
use Rattle.lu_factor_rules.specs.Solves.{plain, mapped, twice, solve_in, solve_transp_in, solve_by, solve_transp_by}

abbrev d : ℕ → Float
d n = of_bits binary64 n

-- the values at the first places of a list
each_at : List ℕ → List Float → List Float
each_at [] v = []
each_at (i ∷ l) v = (v ! i) ∷ each_at l v

abbrev vals_of : ℕ → List ℕ → List Float → List Float
vals_of n l v = each_at (take n l) v

-- the cells in use
abbrev cut : ℕ → Matrix → Matrix
cut m t = let n = t.starts # m in matrix (take (m + 1) t.starts) (take n t.rows) (take n t.vals)

abbrev seen : Outcome Factor → Outcome Factor
seen (factored f) = factored (record {
  size = f.size;
  order = take f.size f.order;
  number = take f.size
      f.number;
  lower = cut f.size f.lower;
  upper = cut f.size f.upper;
  diag = take f.size f.diag;
})
seen non_finite = non_finite
seen singular = singular

-- a basis by columns
abbrev columns_in : List ℕ → List ℕ → List Float → ℕ → Sv
columns_in starts rows vals i =
    let a = starts # i in
    let e = starts # (i + 1) in
    loaded (part a e rows) (part a e vals) (e - a) blank

-- 4 rows: pivots off the diagonal, fill, a stored 0.0
abbrev small_basis : ℕ → Sv
small_basis = columns_in (0 ∷ 3 ∷ 5 ∷ 8 ∷ 10 ∷ [])
    (0 ∷ 1 ∷ 3 ∷ 0 ∷ 2 ∷ 1 ∷ 2 ∷ 3 ∷ 0 ∷ 3 ∷ [])
    (d 0x3ff0000000000000 ∷ d 0x4008000000000000 ∷ d 0x0000000000000000 ∷ d 0x4000000000000000 ∷ d 0x4010000000000000 ∷
    d 0x3fb999999999999a ∷ d 0x3ff0000000000000 ∷ d 0xc014000000000000 ∷ d 0x401c000000000000 ∷ d 0x3ff0000000000000
    ∷ [])

small : seen (factorize 4 small_basis) ≡ factored (record {
  size = 4;
  order = 1 ∷ 2 ∷ 3 ∷ 0 ∷ [];
  number = 3 ∷ 0 ∷ 1 ∷ 2 ∷ [];
  lower = (matrix (0 ∷ 1 ∷ 2 ∷ 3 ∷ 3 ∷ []) (3 ∷ 3 ∷ 3 ∷ []) (d 0x3fd5555555555555 ∷ d 0x3fe0000000000000 ∷ d
      0x3fbb4e81b4e81b4e ∷ []));
  upper = (matrix (0 ∷ 0 ∷ 0 ∷ 2 ∷ 3 ∷ []) (0 ∷ 1 ∷ 2 ∷ []) (d 0x3fb999999999999a ∷ d 0x3ff0000000000000 ∷ d
      0x3ff0000000000000 ∷ []));
  diag = d 0x4008000000000000 ∷ d 0x4010000000000000 ∷ d 0xc014000000000000 ∷ d 0x401b92c5f92c5f93 ∷ [];
})
unfolding run down all until finite size touched put_at take_off loaded walk many_in reached_in grown back_one reduced solved
    listed_finite better chosen gathered_one gathered judged column added factor_turn factor_part renumbered factorize
    of_bits le sub mul div
small = refl

-- 25
abbrev flat_basis : ℕ → Sv
flat_basis = columns_in (0 ∷ 2 ∷ 4 ∷ [])
    (0 ∷ 1 ∷ 0 ∷ 1 ∷ [])
    (d 0x3ff0000000000000 ∷ d 0x3ff0000000000000 ∷ d 0x4000000000000000 ∷ d 0x4000000000000000 ∷ [])

flat : seen (factorize 2 flat_basis) ≡ singular
unfolding run down all until finite size touched put_at take_off loaded walk many_in reached_in grown back_one reduced solved
    listed_finite better chosen gathered_one gathered judged column added factor_turn factor_part renumbered factorize
    of_bits le sub mul div
flat = refl

-- 23
abbrev huge_basis : ℕ → Sv
huge_basis = columns_in (0 ∷ 2 ∷ 4 ∷ [])
    (0 ∷ 1 ∷ 0 ∷ 1 ∷ [])
    (d 0x3ff0000000000000 ∷ d 0xbff0000000000000 ∷ d 0x7feab36d48e1acf0 ∷ d 0x7feab36d48e1acf0 ∷ [])

huge : seen (factorize 2 huge_basis) ≡ non_finite
unfolding run down all until finite size touched put_at take_off loaded walk many_in reached_in grown back_one reduced solved
    listed_finite better chosen gathered_one gathered judged column added factor_turn factor_part renumbered factorize
    of_bits le sub mul div
huge = refl

-- the factor again, with its cells in use
abbrev small_factor : Factor
small_factor = record {
  size = 4;
  order = 1 ∷ 2 ∷ 3 ∷ 0 ∷ [];
  number = 3 ∷ 0 ∷ 1 ∷ 2 ∷ [];
  lower =
      (matrix (0 ∷ 1 ∷ 2 ∷ 3 ∷ 3 ∷ []) (3 ∷ 3 ∷ 3 ∷ []) (d 0x3fd5555555555555 ∷ d 0x3fe0000000000000 ∷ d
      0x3fbb4e81b4e81b4e ∷ []));
  upper = (matrix (0 ∷ 0 ∷ 0 ∷ 2 ∷ 3 ∷ []) (0 ∷ 1 ∷ 2 ∷ [])
      (d 0x3fb999999999999a ∷ d 0x3ff0000000000000 ∷ d 0x3ff0000000000000 ∷ []));
  diag = d 0x4008000000000000 ∷ d
      0x4010000000000000 ∷ d 0xc014000000000000 ∷ d 0x401b92c5f92c5f93 ∷ [];
}

small_lower_turned : cut 4 (transpose 4 small_factor.lower) ≡
    (matrix (0 ∷ 0 ∷ 0 ∷ 0 ∷ 3 ∷ []) (2 ∷ 1 ∷ 0 ∷ []) (d 0x3fbb4e81b4e81b4e ∷ d 0x3fe0000000000000 ∷ d
    0x3fd5555555555555 ∷ []))
unfolding run down counted summed placed_one placed_column placed transpose
small_lower_turned = refl

small_upper_turned : cut 4 (transpose 4 small_factor.upper) ≡
    (matrix (0 ∷ 1 ∷ 2 ∷ 3 ∷ 3 ∷ []) (2 ∷ 2 ∷ 3 ∷ []) (d 0x3fb999999999999a ∷ d 0x3ff0000000000000 ∷ d
    0x3ff0000000000000 ∷ []))
unfolding run down counted summed placed_one placed_column placed transpose
small_upper_turned = refl

pub record Listed : Type 0 where
  pub at : List ℕ
  pub vals : List Float

abbrev list_of : Sv → Listed
list_of s = let n = s.pat.count in record { at = take n s.pat.list; vals = vals_of n s.pat.list s.vals }

small_solved : list_of (solve_by small_factor (put_at (put_at blank 2 (d 0x3ff0000000000000)) 0 (d 0x4008000000000000))) ≡
    record {
      at = 1 ∷ 3 ∷ 0 ∷ 2 ∷ [];
      vals = d 0x3fcdadcd7e44552b ∷ d 0x3fd735f91154ac51 ∷ d 0xbf63ce7bca85b1c3 ∷ d
          0x3fb291940ddd56a7 ∷ [];
    }
unfolding run down all touched put_at walk reached process_col given zeroed processed grown sparse cleared plain mapped
    twice counted summed placed_one placed_column placed transpose solve_in solve_transp_in each_at of_bits sub mul div
small_solved = refl

small_solved_turned : list_of (solve_transp_by small_factor (put_at blank 1 (d 0x3ff0000000000000))) ≡ record {
  at = 2 ∷ 0 ∷ 3 ∷ 1 ∷ [];
  vals = d 0x3fd03b6b735f9115 ∷ d 0xbf7db5b9afc88aa6 ∷ d 0x3fa9ff0279cf7951 ∷ d
      0x3f63ce7bca85b1c4 ∷ [];
}
unfolding run down all touched put_at walk reached process_col given zeroed processed grown sparse cleared plain mapped
    twice counted summed placed_one placed_column placed transpose solve_in solve_transp_in each_at of_bits sub mul div
small_solved_turned = refl

-- a5_cu21: what the vectors give
abbrev cube_basis : ℕ → Sv
cube_basis = columns_in (0 ∷ 3 ∷ 4 ∷ 8 ∷ 9 ∷ 13 ∷ 14 ∷ 18 ∷ 19 ∷ 23 ∷ 24 ∷ 28 ∷ 29 ∷ 33 ∷ 34 ∷ 38 ∷ 39 ∷ 41 ∷ [])
    (0 ∷ 1 ∷ 16 ∷ 0 ∷ 0 ∷ 1 ∷ 2 ∷ 3 ∷ 3 ∷ 2 ∷ 3 ∷ 4 ∷ 5 ∷ 4 ∷ 4 ∷ 5 ∷ 6 ∷ 7 ∷ 7 ∷ 6 ∷ 7 ∷ 8 ∷ 9 ∷ 8 ∷ 8 ∷ 9 ∷ 10 ∷ 11 ∷
    11 ∷ 10 ∷ 11 ∷ 12 ∷ 13 ∷ 13 ∷ 12 ∷ 13 ∷ 14 ∷ 15 ∷ 14 ∷ 14 ∷ 15 ∷ [])
    (d 0xbf689374bc6a7efa ∷ d 0x3f689374bc6a7efa ∷ d 0x3f50624dd2f1a9fc ∷ d 0x3ff0000000000000 ∷ d 0x3f50624dd2f1a9fc ∷
    d 0x3f50624dd2f1a9fc ∷ d 0xbf689374bc6a7efa ∷ d 0x3f689374bc6a7efa ∷ d 0x3ff0000000000000 ∷ d 0x3f50624dd2f1a9fc
    ∷ d 0x3f50624dd2f1a9fc ∷ d 0xbf689374bc6a7efa ∷ d 0x3f689374bc6a7efa ∷ d 0x3ff0000000000000 ∷ d
    0x3f50624dd2f1a9fc ∷ d 0x3f50624dd2f1a9fc ∷ d 0xbf689374bc6a7efa ∷ d 0x3f689374bc6a7efa ∷ d 0x3ff0000000000000 ∷
    d 0x3f50624dd2f1a9fc ∷ d 0x3f50624dd2f1a9fc ∷ d 0xbf689374bc6a7efa ∷ d 0x3f689374bc6a7efa ∷ d 0x3ff0000000000000
    ∷ d 0x3f50624dd2f1a9fc ∷ d 0x3f50624dd2f1a9fc ∷ d 0xbf689374bc6a7efa ∷ d 0x3f689374bc6a7efa ∷ d
    0x3ff0000000000000 ∷ d 0x3f50624dd2f1a9fc ∷ d 0x3f50624dd2f1a9fc ∷ d 0xbf689374bc6a7efa ∷ d 0x3f689374bc6a7efa ∷
    d 0x3ff0000000000000 ∷ d 0x3f50624dd2f1a9fc ∷ d 0x3f50624dd2f1a9fc ∷ d 0xbf689374bc6a7efa ∷ d 0x3f689374bc6a7efa
    ∷ d 0x3ff0000000000000 ∷ d 0x3f50624dd2f1a9fc ∷ d 0x3f50624dd2f1a9fc ∷ [])

cube : seen (factorize 17 cube_basis) ≡ factored (record {
  size = 17;
  order = 0 ∷ 1 ∷ 2 ∷ 3 ∷ 4 ∷ 5 ∷ 6 ∷ 7 ∷ 8 ∷ 9 ∷ 10 ∷ 11 ∷ 12 ∷ 13 ∷ 14 ∷ 15 ∷ 16 ∷ [];
  number = 0 ∷ 1 ∷ 2 ∷ 3 ∷ 4 ∷ 5 ∷ 6 ∷ 7 ∷ 8 ∷ 9 ∷ 10 ∷ 11 ∷ 12 ∷ 13 ∷ 14 ∷ 15 ∷ 16 ∷ [];
  lower = (matrix (0 ∷ 2 ∷ 3 ∷ 5 ∷ 5 ∷ 7 ∷ 8 ∷ 10 ∷ 10 ∷ 12 ∷ 13 ∷ 15 ∷ 15 ∷ 17 ∷ 17 ∷ 19 ∷ 20 ∷ 20 ∷ [])
      (1 ∷ 16 ∷ 16 ∷ 3 ∷ 16 ∷ 5 ∷ 16 ∷ 16 ∷ 7 ∷ 16 ∷ 9 ∷ 16 ∷ 16 ∷ 11 ∷ 16 ∷ 13 ∷ 16 ∷ 15 ∷ 16 ∷ 16 ∷ [])
      (d 0xbff0000000000000 ∷ d 0xbfd5555555555555 ∷ d 0x3fd5555555555555 ∷ d 0xbff0000000000000 ∷ d 0x3fbc71c71c71c71c
      ∷ d 0xbff0000000000000 ∷ d 0x3fa2f684bda12f68 ∷ d 0xbfa2f684bda12f68 ∷ d 0xbff0000000000000 ∷ d 0xbf8948b0fcd6e9e0
      ∷ d 0xbff0000000000000 ∷ d 0xbf70db20a88f4695 ∷ d 0x3f70db20a88f4695 ∷ d 0xbff0000000000000 ∷ d 0x3f567980e0bf08c7
      ∷ d 0xbff0000000000000 ∷ d 0x3f3df75680feb65e ∷ d 0xbff0000000000000 ∷ d 0x3f23fa39ab547994 ∷ d 0xbf23fa39ab547994
      ∷ []));
  upper = (matrix (0 ∷ 0 ∷ 1 ∷ 3 ∷ 3 ∷ 5 ∷ 6 ∷ 8 ∷ 8 ∷ 10 ∷ 11 ∷ 13 ∷ 13 ∷ 15 ∷ 15 ∷ 17 ∷ 18 ∷ 20 ∷ [])
      (0 ∷ 0 ∷ 1 ∷ 2 ∷ 3 ∷ 4 ∷ 4 ∷ 5 ∷ 6 ∷ 7 ∷ 8 ∷ 8 ∷ 9 ∷ 10 ∷ 11 ∷ 12 ∷ 13 ∷ 14 ∷ 14 ∷ 15 ∷ [])
      (d 0x3ff0000000000000 ∷ d 0x3f50624dd2f1a9fc ∷ d 0x3f60624dd2f1a9fc ∷ d 0x3f50624dd2f1a9fc ∷ d 0x3f60624dd2f1a9fc
      ∷ d 0x3ff0000000000000 ∷ d 0x3f50624dd2f1a9fc ∷ d 0x3f60624dd2f1a9fc ∷ d 0x3f50624dd2f1a9fc ∷ d 0x3f60624dd2f1a9fc
      ∷ d 0x3ff0000000000000 ∷ d 0x3f50624dd2f1a9fc ∷ d 0x3f60624dd2f1a9fc ∷ d 0x3f50624dd2f1a9fc ∷ d 0x3f60624dd2f1a9fc
      ∷ d 0x3f50624dd2f1a9fc ∷ d 0x3f60624dd2f1a9fc ∷ d 0x3ff0000000000000 ∷ d 0x3f50624dd2f1a9fc ∷ d 0x3f60624dd2f1a9fc
      ∷ []));
  diag = d 0xbf689374bc6a7efa ∷ d 0x3ff0000000000000 ∷ d 0xbf689374bc6a7efa ∷ d 0x3ff0000000000000 ∷ d
      0xbf689374bc6a7efa ∷ d 0x3ff0000000000000 ∷ d 0xbf689374bc6a7efa ∷ d 0x3ff0000000000000 ∷ d 0xbf689374bc6a7efa ∷ d
      0x3ff0000000000000 ∷ d 0xbf689374bc6a7efa ∷ d 0x3ff0000000000000 ∷ d 0xbf689374bc6a7efa ∷ d 0x3ff0000000000000 ∷ d
      0xbf689374bc6a7efa ∷ d 0x3ff0000000000000 ∷ d 0x3e8474f7782559ae ∷ [];
})
unfolding run down all until finite size touched put_at take_off loaded walk many_in reached_in grown back_one reduced solved
    listed_finite better chosen gathered_one gathered judged column added factor_turn factor_part renumbered factorize
    of_bits le sub mul div
cube = refl
