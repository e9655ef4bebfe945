-- What is lent: the plan, which is read, and the memory, which is written. Arrays may be longer or shorter than the sizes that the caller says. Assumes nothing.
use Rattle.std.specs.Prelude.{Bool, true, false, List, [], ◌∷◌, ◌++◌, ℕ, zero, suc, ◌+◌, ◌*◌, ◌/◌, ◌%◌, ◌-◌, ltb, eqb, length, Float}
use Rattle.doubles.specs.Num.{f0, f1, +inf, -inf}
use Rattle.doubles.specs.Loop.{run}
use Rattle.sparse.specs.Scattered.{dot}
use Rattle.doubles.specs.Lists.{◌!◌, ◌#◌, part}
use Rattle.rules.specs.declared.VarState.{VarState}
use Rattle.rules.specs.declared.VarState.TheVariants.{Basic, NonBasic}
use Rattle.rules.specs.declared.NonBasicVarState.{NonBasicVarState}

-- 01, "What a plan may hold": sizes as said by the caller, and the arrays as lent
pub record Plan : Type 0 where
  pub columns : ℕ
  pub rows : ℕ
  pub entries : ℕ
  pub budget : ℕ
  pub tolerance : Float
  pub costs : List Float
  pub lowers : List Float
  pub uppers : List Float
  pub starts : List ℕ
  pub cols : List ℕ
  pub coeffs : List Float
  pub ops : List ℕ
  pub rhs : List Float

-- The eta store: column k leaves at row `leaving # k`; its entries stand at `starts # k` up to `starts # (k + 1)` of `rows` and `coeffs`.
pub record Etas : Type 0 where
  pub leaving : List ℕ
  pub starts : List ℕ
  pub rows : List ℕ
  pub coeffs : List Float

-- The workspace. Row r's basic variable is `basic_vars # r`, and `nb_vars # c` is the non_basic variable at place c;
-- `var_states` is the map back. 02, Ask 8: `dual_norms` has a norm for each row.
pub record Workspace : Type 0 where
  pub basic_vars : List ℕ
  pub basic_var_vals : List Float
  pub nb_vars : List ℕ
  pub nb_var_vals : List Float
  pub prices : List Float
  pub norms : List Float
  pub dual_norms : List Float
  pub flags : List ℕ
  pub var_states : List ℕ
  pub etas : Etas

-- 02, Ask 5: whether there is a factor, how often the basis was factored, and the two arrays that hold the factor
pub record Factored : Type 0 where
  pub there : Bool
  pub times : ℕ
  pub numbers : List ℕ
  pub coeffs : List Float

-- The state between two steps: the workspace, how many eta columns it holds, cur_obj_val, the steps taken, and the
-- factor.
pub record State : Type 0 where
  pub ws : Workspace
  pub eta_count : ℕ
  pub objective : Float
  pub steps : ℕ
  pub factor : Factored

-- Everything lent to be written. `kept` has the plan's own number of each kept row; `counts` holds kept rows, eta columns,
-- eta entries, steps, status, whether there is a factor, and factorings.
pub record Memory : Type 0 where
  pub values : List Float
  pub kept : List ℕ
  pub ws : Workspace
  pub counts : List ℕ
  pub objective : List Float
  pub all_factor_numbers : List ℕ
  pub all_factor_coeffs : List Float

-- A plan with the numbers of its kept rows: column j is variable j, and the slack of kept row r is variable columns + r.
pub record Problem : Type 0 where
  pub plan : Plan
  pub kept : List ℕ

abbrev pub n_of : Problem → ℕ
n_of P = P.plan.columns

abbrev pub m_of : Problem → ℕ
m_of P = length P.kept

-- ---- comparisons: 01: "Le, Eq, Ge are 0, 1, 2"; "A slack's bounds: Le 0 to +inf, Ge -inf to 0, Eq 0 to 0"
unfoldable pub slack_min : ℕ → Float
slack_min zero = f0
slack_min (suc zero) = f0
slack_min (suc (suc k)) = -inf

unfoldable pub slack_max : ℕ → Float
slack_max zero = +inf
slack_max (suc zero) = f0
slack_max (suc (suc k)) = f0

-- the bounds of a variable
unfoldable pub var_min : Problem → ℕ → Float
var_min P v = elim (ltb v (n_of P)) [ true ↦ P.plan.lowers ! v | false ↦ slack_min (P.plan.ops # (P.kept # (v - n_of P))) ]

unfoldable pub var_max : Problem → ℕ → Float
var_max P v = elim (ltb v (n_of P)) [ true ↦ P.plan.uppers ! v | false ↦ slack_max (P.plan.ops # (P.kept # (v - n_of P))) ]

-- ---- rows: 01: "A row is handed out as that part of the lent entries"; "Empty true rows are dropped"
abbrev pub row_part : {A : Type 0} → Plan → ℕ → List A → List A
row_part p i l = part (p.starts # i) (p.starts # (i + 1)) l

abbrev pub row_cols : Plan → ℕ → List ℕ
row_cols p i = row_part p i p.cols

abbrev pub row_coeffs : Plan → ℕ → List Float
row_coeffs p i = row_part p i p.coeffs

abbrev pub is_empty : Plan → ℕ → Bool
is_empty p i = eqb (p.starts # i) (p.starts # (i + 1))

abbrev pub kept_turn : Plan → ℕ → List ℕ → List ℕ
kept_turn p i ks = elim (is_empty p i) [ true ↦ ks | false ↦ ks ++ (i ∷ []) ]

unfoldable pub kept_rows : Plan → List ℕ
kept_rows p = run (kept_turn p) p.rows []

abbrev pub problem_of : Plan → Problem
problem_of p = record { plan = p; kept = kept_rows p }

abbrev pub row_sum : Plan → ℕ → List Float → Float
row_sum p i v = dot (row_cols p i) (row_coeffs p i) v

-- ---- columns: the entries of a column, kept rows rising
pub record Entry : Type 0 where
  pub at : ℕ
  pub val : Float

abbrev pub entry : ℕ → Float → Entry
entry r x = record { at = r; val = x }

abbrev pub column_turn : ℕ → ℕ → List ℕ → List Float → ℕ → List Entry → List Entry
column_turn v r cols xs k es = elim (eqb (cols # k) v) [ true ↦ es ++ (entry r (xs ! k) ∷ []) | false ↦ es ]

abbrev pub column_row : Problem → ℕ → ℕ → List Entry → List Entry
column_row P v r es =
    let cols = row_cols P.plan (P.kept # r) in
    run (column_turn v r cols (row_coeffs P.plan (P.kept # r))) (length cols) es

-- a slack stands in its own row with 1.0
unfoldable pub column : Problem → ℕ → List Entry
column P v = elim (ltb v (n_of P)) [ true ↦ run (column_row P v) (m_of P) [] | false ↦ entry (v - n_of P) f1 ∷ [] ]

-- ---- cells that hold more than a number: one pair of definitions each

-- a place below n is non_basic, n + row is basic
unfoldable pub var_state_of : ℕ → ℕ → VarState
var_state_of n w = elim (ltb w n) [ true ↦ NonBasic w | false ↦ Basic (w - n) ]

unfoldable pub var_cell : ℕ → VarState → ℕ
var_cell n (NonBasic c) = c
var_cell n (Basic r) = n + r

abbrev pub bit : Bool → ℕ
bit true = 1
bit false = 0

-- docs/RULES-02.md, Ask 9: "flags cell 1 * at_min + 2 * at_max + 4 * fixed"
unfoldable pub flags_cell : NonBasicVarState → ℕ
flags_cell f = bit f.at_min + 2 * bit f.at_max + 4 * bit f.«fixed»

unfoldable pub flags_of : ℕ → NonBasicVarState
flags_of x = record { at_min = eqb (x % 2) 1; at_max = eqb (x / 2 % 2) 1; «fixed» = eqb (x / 4 % 2) 1 }

-- "a fixed column has all three, so it never enters and never leaves its place"
abbrev pub held : NonBasicVarState
held = record { at_min = true; at_max = true; «fixed» = true }
