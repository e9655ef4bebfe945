-- The test behind 41 fails exactly when its words hold. Assumes nothing.
use mathlib.Core.Path.{◌≡◌, refl}
use mathlib.Core.Bool.{Bool, true, false}
use mathlib.Core.List.{List}
use mathlib.Core.Logic.{◌↔◌}
use Prim.Native.Nat.{ℕ}
use lib.Ieee.{Float}
use Rattle.doubles.proofs.Bools.{itself, turned, ◌or◌, ◌neither◌, some_fails, ltb_fails, leb_fails, eqb_holds, eqb_fails}
use Rattle.lu_walk.specs.Walk.{Shape, shape, many, kid}
use Rattle.lu_gate.specs.Gate.{beyond, ok_starts, ok_column, ok_rows}
use Rattle.lu_factor_rules.specs.Factor.{Matrix}
use Rattle.lu_factor_rules.specs.Packed.{order_in, number_in, lower_in, upper_in, diag_in}
use Rattle.rules.specs.Plan.{Plan, Problem, Memory, Workspace, Etas, problem_of, n_of, m_of}
use Rattle.state_maps.specs.Maps.{leads_back}
use Rattle.state_maps.proofs.Exact.{broken_exactly}
use Rattle.fix_rules.specs.Kept.{etas_kept, entries_kept, factor_cell, flags_fine, store_fine, order_fine, triangle_fine, diagonal_fine, factor_fine, workspace_finite, factor_finite, passes41}
use Rattle.fix_rules.specs.Unkept.{OddFlags, BadStarts, BrokenStore, NoOrder, NotBeyond, BadRow, BrokenTriangle, SmallDiagonal, BrokenFactor, Wild, WildWorkspace, WildFactor, Unkept}

flags_exactly : (n : ℕ) (l : List ℕ) → (flags_fine n l ≡ false) ↔ OddFlags n l
unfolding flags_fine
flags_exactly n l = some_fails n (λ c. leb_fails _ _ neither eqb_fails _ _)

starts_exactly : (n e : ℕ) (s : List ℕ) → (ok_starts n e s ≡ false) ↔ BadStarts n e s
unfolding ok_starts
starts_exactly n e s = (eqb_fails _ _ or eqb_fails _ _) or some_fails n (λ k. leb_fails _ _)

store_exactly : (rows : ℕ) (h : Etas) (count entries : ℕ) → (store_fine rows h count entries ≡ false) ↔ BrokenStore rows h count entries
unfolding store_fine
store_exactly rows h count entries =
    leb_fails _ _ or starts_exactly count entries h.starts or leb_fails _ _ or some_fails count (λ k. ltb_fails _ _) or some_fails entries (λ i. ltb_fails _ _)

-- ---- the factor
order_exactly : (rows : ℕ) (order number : List ℕ) → (order_fine rows order number ≡ false) ↔ NoOrder rows order number
unfolding order_fine leads_back
order_exactly rows order number = some_fails rows (λ k. ltb_fails _ _ or eqb_fails _ _) or some_fails rows (λ r. ltb_fails _ _)

beyond_exactly : (lower : Bool) (c r : ℕ) → (beyond lower c r ≡ false) ↔ NotBeyond lower c r
beyond_exactly true c r = ltb_fails c r
beyond_exactly false c r = ltb_fails r c

triangle_exactly : (lower : Bool) (rows : ℕ) (t : Matrix) → (triangle_fine lower rows t ≡ false) ↔ BrokenTriangle lower rows t
unfolding triangle_fine ok_rows ok_column
triangle_exactly lower rows t =
    let s : Shape = shape lower rows t.starts t.rows in
    starts_exactly rows _ t.starts
    or leb_fails _ _
    or some_fails rows (λ c. some_fails (many s c) (λ i. ltb_fails _ _ or beyond_exactly lower c (kid s c i)))

diagonal_exactly : (rows : ℕ) (d : List Float) → (diagonal_fine rows d ≡ false) ↔ SmallDiagonal rows d
unfolding diagonal_fine
diagonal_exactly rows d = some_fails rows (λ i. turned itself)

factor_exactly : (rows : ℕ) (N : List ℕ) (D : List Float) → (factor_fine rows N D ≡ false) ↔ BrokenFactor rows N D
unfolding factor_fine
factor_exactly rows N D =
    order_exactly rows (order_in N) (number_in N)
    or triangle_exactly true rows (lower_in N D)
    or triangle_exactly false rows (upper_in N D)
    or diagonal_exactly rows (diag_in D)

-- ---- numbers
workspace_exactly : (n rows entries : ℕ) (w : Workspace) → (workspace_finite n rows entries w ≡ false) ↔ WildWorkspace n rows entries w
unfolding workspace_finite
workspace_exactly n rows entries w =
    some_fails rows (λ k. itself)
    or some_fails n (λ k. itself)
    or some_fails n (λ k. itself)
    or some_fails n (λ k. itself)
    or some_fails rows (λ k. itself)
    or some_fails entries (λ k. itself)

numbers_exactly : (rows : ℕ) (N : List ℕ) (D : List Float) → (factor_finite rows N D ≡ false) ↔ WildFactor rows N D
unfolding factor_finite
numbers_exactly rows N D = some_fails _ (λ k. itself) or some_fails _ (λ k. itself) or some_fails rows (λ k. itself)

-- 41 "exactly when"
pub unkept_exactly : (p : Plan) (m : Memory) → (passes41 p m ≡ false) ↔ Unkept p m
unfolding passes41
unkept_exactly p m =
    let P : Problem = problem_of p in
    eqb_fails _ _
    or broken_exactly p m
    or flags_exactly (n_of P) m.ws.flags
    or store_exactly (m_of P) m.ws.etas (etas_kept m) (entries_kept m)
    or (turned (eqb_holds _ _) neither factor_exactly (m_of P) m.all_factor_numbers m.all_factor_coeffs)
    or leb_fails _ _
    or workspace_exactly (n_of P) (m_of P) (entries_kept m) m.ws
    or (turned (eqb_holds _ _) neither numbers_exactly (m_of P) m.all_factor_numbers m.all_factor_coeffs)
    or itself
