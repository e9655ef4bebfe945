-- 01, "Night cases": the plans N1 to N4 as lent arrays, memory for them, and the kinds of the steps that the rules take. Assumes nothing.
use Rattle.std.specs.Prelude.{true, false, List, [], ◌∷◌, ℕ, zero, suc, ◌+◌, pos, length, replicate, Float, Some, None}
use Rattle.std.specs.Float.{binary64}
use Rattle.std.specs.Float.Ieee.{neg, of_bits, of_int}
use Rattle.doubles.specs.Num.{f0, +inf}
use Rattle.doubles.specs.Limits.{eta_columns, eta_entries, count_cells}
use Rattle.lu_factor_rules.specs.Packed.{all_factor_numbers, all_factor_coeffs}
use Rattle.rules.specs.Plan.{Plan, Memory, Problem, State, problem_of}
use Rattle.rules.specs.Start.{start_state, dual_feasible}
use Rattle.rules.specs.Choose.{choose}
use Rattle.rules.specs.DualRow.{choose_row}
use Rattle.rules.specs.Step.{step, dual_step, moved, stopped}
use Rattle.rules.specs.declared.PivotInfo.{PivotInfo}
use Rattle.rules.specs.declared.PivotInfo.TheVariants.{Flip, Exchange}

-- a whole number, and one below zero
unfoldable pub num : ℕ → Float
num n = of_int binary64 (pos n)

unfoldable pub minus : ℕ → Float
minus n = neg (num n)

-- 1e-9
abbrev pub tol : Float
tol = of_bits binary64 0x3e11_2e0b_e826_d695

-- a plan of one row: comparison and right side last
unfoldable pub one_row : ℕ → List Float → List Float → List Float → List ℕ → List Float → ℕ → Float → Plan
one_row b costs lowers uppers cols coeffs op rhs =
    record {
      columns = length costs;
      rows = 1;
      entries = length cols;
      budget = b;
      tolerance = tol;
      costs = costs;
      lowers = lowers;
      uppers = uppers;
      starts = 0 ∷ length cols ∷ [];
      cols = cols;
      coeffs = coeffs;
      ops = op ∷ [];
      rhs = rhs ∷ [];
    }

-- "cost -1, bounds 0 to +inf, row x <= 4"
unfoldable pub N1 : ℕ → Plan
N1 b = one_row b (minus 1 ∷ []) (f0 ∷ []) (+inf ∷ []) (0 ∷ []) (num 1 ∷ []) 0 (num 4)

-- "costs -3, -1; bounds 0 to +inf, 0 to 2; row x0 + x1 <= 4"
unfoldable pub N2 : ℕ → Plan
N2 b = one_row b (minus 3 ∷ minus 1 ∷ []) (f0 ∷ f0 ∷ []) (+inf ∷ num 2 ∷ []) (0 ∷ 1 ∷ []) (num 1 ∷ num 1 ∷ []) 0 (num 4)

-- "cost -1, 0 to +inf, row -x <= 4"
unfoldable pub N3 : Plan
N3 = one_row 10 (minus 1 ∷ []) (f0 ∷ []) (+inf ∷ []) (0 ∷ []) (minus 1 ∷ []) 0 (num 4)

-- "cost 1, 0 to +inf, x >= 1" or x >= 0
unfoldable pub N4 : ℕ → Plan
N4 b = one_row 10 (num 1 ∷ []) (f0 ∷ []) (+inf ∷ []) (0 ∷ []) (num 1 ∷ []) 2 (num b)

-- memory of exactly the needed lengths
unfoldable pub room_for : Plan → Memory
room_for p =
    let n = p.columns in
    let m = p.rows in
    record {
      values = replicate (n + m) f0;
      kept = replicate m 0;
      ws = record {
        basic_vars = replicate m 0;
        basic_var_vals = replicate m f0;
        nb_vars = replicate n 0;
        nb_var_vals = replicate n f0;
        prices = replicate n f0;
        norms = replicate n f0;
        dual_norms = replicate m f0;
        flags = replicate n 0;
        var_states = replicate (n + m) 0;
        etas = record { leaving = replicate eta_columns 0; starts = replicate (eta_columns + 1) 0; rows = replicate eta_entries 0; coeffs = replicate eta_entries f0 };
      };
      counts = replicate count_cells 0;
      objective = f0 ∷ [];
      all_factor_numbers = replicate all_factor_numbers 0;
      all_factor_coeffs = replicate all_factor_coeffs f0;
    }

-- the kinds of the steps that the rules take, at most k of them. 02: "dual steps for starts that are dual feasible"
pub data Kind : Type 0 where
  flips : Kind
  exchanges : Kind
  exchanges_dually : Kind

abbrev pub kind_of : PivotInfo → Kind
kind_of (Flip v d) = flips
kind_of (Exchange v d r p l) = exchanges

unfoldable pub kinds_from : Problem → ℕ → State → List Kind
kinds_from P zero s = []
kinds_from P (suc k) s =
    elim (choose P s.ws) [
      | None ↦ []
      | Some e ↦ elim (step P s e) [ moved i t ↦ kind_of i ∷ kinds_from P k t | stopped w ↦ [] ]
    ]

unfoldable pub dual_kinds_from : Problem → ℕ → State → List Kind
dual_kinds_from P zero s = []
dual_kinds_from P (suc k) s =
    elim (choose_row P s.ws) [
      | None ↦ kinds_from P (suc k) s
      | Some l ↦ elim (dual_step P s l) [ moved i t ↦ exchanges_dually ∷ dual_kinds_from P k t | stopped w ↦ [] ]
    ]

unfoldable pub kinds_of : Plan → ℕ → List Kind
kinds_of p k =
    let P = problem_of p in
    let s = start_state P (room_for p) in
    elim (dual_feasible p) [ true ↦ dual_kinds_from P k s | false ↦ kinds_from P k s ]
