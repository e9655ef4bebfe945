-- The parts of a problem and of a state that a function is lent, the others empty, and a column's sum and price from
-- the matrix by columns. proofs/Laws.antt shows that they are the definitions'. Assumes nothing.
use Rattle.std.specs.Prelude.{true, false, List, [], ℕ, ◌+◌, ◌-◌, ◌<◌, ◌≤◌, ltb, length, Float}
use Rattle.doubles.specs.Num.{◌⊕◌, ◌⊖◌, ◌⊗◌, f0, f1}
use Rattle.doubles.specs.Limits.{max_rows}
use Rattle.doubles.specs.Lists.{◌!◌, ◌#◌, part}
use Rattle.sparse.specs.Scattered.{dot}
use Rattle.lu_solve.specs.Solve.{dense}
use Rattle.lu_factor_rules.specs.Factor.{Matrix}
use Rattle.lu_factor_rules.specs.Solves.{tri_of}
use Rattle.rules.specs.Plan.{Problem, Workspace}
use Rattle.rules.specs.Parts.{plan_of, problem, workspace_of, no_etas}
use Rattle.reprice_rules.specs.Reprice.{cost_of}

-- costs by columns, and the kept rows
abbrev pub costed : ℕ → List Float → List ℕ → Problem
costed n costs kept = problem (plan_of n 0 0 0 f0 costs [] [] [] [] [] [] []) kept

-- variables with their values
abbrev pub valued : List ℕ → List Float → List ℕ → List Float → Workspace
valued basics vals nbs nbVals = workspace_of basics vals nbs nbVals [] [] [] [] [] no_etas

abbrev pub add_turn : ℕ → List Float → List ℕ → List Float → ℕ → Float → Float
add_turn n costs vars vals i t = t ⊕ cost_of (costed n costs []) (vars # i) ⊗ vals ! i

-- the two dense solves, with the transposes of U and of L
abbrev pub dense_both : ℕ → Matrix → Matrix → List Float → List Float → List Float
dense_both m ut lt diag y = dense (tri_of false m lt false diag) (dense (tri_of true m ut true diag) y)

-- the entries from S # v up to S # (v + 1), or a slack's own row with 1.0
unfoldable pub sum_on : List ℕ → List ℕ → List Float → ℕ → List Float → ℕ → Float
sum_on S R X n y v =
    let a = S # v in
    let b = S # (v + 1) in
    elim (ltb v n) [ true ↦ dot (part a b R) (part a b X) y | false ↦ f0 ⊕ f1 ⊗ y ! (v - n) ]

abbrev pub price_on : List Float → List ℕ → List ℕ → List Float → ℕ → List Float → ℕ → Float
price_on costs S R X n y v = cost_of (costed n costs []) v ⊖ sum_on S R X n y v

-- the column can be read, and its rows are those of a basis
pub record SumLent (S R : List ℕ) (X : List Float) (n v : ℕ) : Type 0 where
  pub starts_long : v < n → v + 1 < length S
  pub rises : v < n → S # v ≤ S # (v + 1)
  pub rows_long : v < n → S # (v + 1) ≤ length R
  pub coeffs_long : v < n → S # (v + 1) ≤ length X
  pub row : v < n → (k : ℕ) → S # v ≤ k → k < S # (v + 1) → R # k < max_rows
  pub own : n ≤ v → v - n < max_rows

-- so can that of the variable at each of the n places
pub record SumsLent (S R : List ℕ) (X : List Float) (n : ℕ) (vars : List ℕ) : Type 0 where
  pub place : (c : ℕ) → c < n → SumLent S R X n (vars # c)
