-- 41's own words, apart from the test: the parts that may be broken, in the test's order. proofs/Unkept.antt shows that the test
-- fails exactly then. Assumes nothing.
use Rattle.std.specs.Prelude.{◌≡◌, Bool, true, false, List, ◌⊎◌, ℕ, ◌+◌, ◌<◌, ◌≤◌, Float}
use Rattle.std.specs.Float.Ieee.{lt}
use Rattle.doubles.specs.Num.{eps, finite, size}
use Rattle.doubles.specs.Limits.{eta_columns, eta_entries, max_tri_entries}
use Rattle.doubles.specs.Lists.{◌!◌, ◌#◌}
use Rattle.lu_walk.specs.Walk.{Shape, shape, many, kid}
use Rattle.lu_factor_rules.specs.Factor.{Matrix}
use Rattle.lu_factor_rules.specs.Packed.{order_in, number_in, lower_in, upper_in, diag_in}
use Rattle.rules.specs.Plan.{Plan, Problem, Memory, Workspace, Etas, problem_of, n_of, m_of}
use Rattle.rules.specs.Conditions.{Some, NotFinite}
use Rattle.state_maps.specs.Maps.{Broken}
use Rattle.fix_rules.specs.Kept.{etas_kept, entries_kept, status_kept, factor_cell}

-- "a flags cell is neither 0 to 3 nor 7"
abbrev pub OddFlags : ℕ → List ℕ → Type 0
OddFlags n l = Some n (λ c. (3 < l # c) × (¬ (l # c ≡ 7)))

-- starts "that don't begin at 0, fall or don't end at the entry cell"
abbrev pub BadStarts : ℕ → ℕ → List ℕ → Type 0
BadStarts n e s = ((¬ (s # 0 ≡ 0)) ⊎ (¬ (s # n ≡ e))) ⊎ Some n (λ k. s # (k + 1) < s # k)

-- "count above 256", the starts, "above 4,096, a leaving row or row number not below the kept rows"
abbrev pub BrokenStore : ℕ → Etas → ℕ → ℕ → Type 0
BrokenStore rows h count entries =
    (eta_columns < count)
    ⊎ (BadStarts count entries h.starts
    ⊎ ((eta_entries < entries)
    ⊎ (Some count (λ k. rows ≤ h.leaving # k)
    ⊎ Some entries (λ i. rows ≤ h.rows # i))))

-- "not a permutation with its inverse"
abbrev pub NoOrder : ℕ → List ℕ → List ℕ → Type 0
NoOrder rows order number =
    Some rows (λ k. (rows ≤ order # k) ⊎ (¬ (number # (order # k) ≡ k))) ⊎ Some rows (λ r. rows ≤ number # r)

-- "rows not below / not above": the row r of an entry of column c
abbrev pub NotBeyond : Bool → ℕ → ℕ → Type 0
NotBeyond true c r = r ≤ c
NotBeyond false c r = c ≤ r

abbrev pub BadRow : Shape → ℕ → ℕ → Type 0
BadRow t c i = (t.size ≤ kid t c i) ⊎ NotBeyond t.lower c (kid t c i)

abbrev pub BrokenTriangle : Bool → ℕ → Matrix → Type 0
BrokenTriangle lower rows t =
    let s = shape lower rows t.starts t.rows in
    BadStarts rows (t.starts # rows) t.starts ⊎ ((max_tri_entries < t.starts # rows) ⊎ Some rows (λ c. Some (many s c) (BadRow s c)))

-- "a diagonal of size under EPS"
abbrev pub SmallDiagonal : ℕ → List Float → Type 0
SmallDiagonal rows d = Some rows (λ i. lt (size (d ! i)) eps ≡ true)

abbrev pub BrokenFactor : ℕ → List ℕ → List Float → Type 0
BrokenFactor rows N D =
    NoOrder rows (order_in N) (number_in N)
    ⊎ (BrokenTriangle true rows (lower_in N D)
    ⊎ (BrokenTriangle false rows (upper_in N D)
    ⊎ SmallDiagonal rows (diag_in D)))

-- one of the first n numbers isn't finite
abbrev pub Wild : ℕ → List Float → Type 0
Wild n l = Some n (λ k. NotFinite (l ! k))

abbrev pub WildWorkspace : ℕ → ℕ → ℕ → Workspace → Type 0
WildWorkspace n rows entries w =
    Wild rows w.basic_var_vals
    ⊎ (Wild n w.nb_var_vals
    ⊎ (Wild n w.prices
    ⊎ (Wild n w.norms
    ⊎ (Wild rows w.dual_norms
    ⊎ Wild entries w.etas.coeffs))))

abbrev pub WildFactor : ℕ → List ℕ → List Float → Type 0
WildFactor rows N D =
    Wild ((lower_in N D).starts # rows) (lower_in N D).vals
    ⊎ (Wild ((upper_in N D).starts # rows) (upper_in N D).vals
    ⊎ Wild rows (diag_in D))

-- 41, "exactly when": the status isn't 0; rows or maps, flags, store or factor; cell 5; a number
abbrev pub Unkept : Plan → Memory → Type 0
Unkept p m =
    let P = problem_of p in
    let N = m.all_factor_numbers in
    let D = m.all_factor_coeffs in
    (¬ (status_kept m ≡ 0))
    ⊎ (Broken P m
    ⊎ (OddFlags (n_of P) m.ws.flags
    ⊎ (BrokenStore (m_of P) m.ws.etas (etas_kept m) (entries_kept m)
    ⊎ (((factor_cell m ≡ 1) × BrokenFactor (m_of P) N D)
    ⊎ ((1 < factor_cell m)
    ⊎ (WildWorkspace (n_of P) (m_of P) (entries_kept m) m.ws
    ⊎ (((factor_cell m ≡ 1) × WildFactor (m_of P) N D)
    ⊎ NotFinite (m.objective ! 0))))))))
