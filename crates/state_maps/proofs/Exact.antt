-- The test passes exactly when `Kept` holds, and fails exactly when 41's words do. Assumes nothing.
use mathlib.Core.Path.{◌≡◌, sym, ◌∙◌}
use mathlib.Core.Logic.{◌↔◌, ⊎_elim}
use mathlib.Core.Bool.{Bool, true, false}
use Prim.Native.Nat.{ℕ, ◌+◌, ◌-◌, ◌<◌, ◌≤◌}
use native.Mathlib.Omega.{arith}
use lib.Dec.{ltb}
use borrow.Author.Tests.{ltb-true, ltb-false, lt-ltb, le-ltb}
use Rattle.doubles.specs.Loop.{all}
use Rattle.doubles.specs.Lists.{◌#◌}
use Rattle.doubles.proofs.Loops.{all_at, all_by}
use Rattle.doubles.proofs.Bools.{◌or◌, ◌both◌, some_fails, ltb_holds, ltb_fails, eqb_holds, eqb_fails, truth}
use Rattle.rules.specs.Plan.{Plan, Problem, Memory, Workspace, problem_of, n_of, m_of}
use Rattle.rules.specs.Invariant.{Maps}
use Rattle.state_maps.specs.Maps.{rows_fine, leads_back, cells_fine, maps_fine, Kept, Lost, Broken}
use Rattle.state_maps.proofs.Onto.{onto}

every : {p : ℕ → Bool} {G : ℕ → Type 0} (n : ℕ) → ((k : ℕ) → (p k ≡ true) ↔ G k)
    → (all n p ≡ true) ↔ ((k : ℕ) → k < n → G k)
every {p} n e = (λ h k l. (e k).0 (all_at p n h k l), λ h. all_by p n (λ k l. (e k).1 (h k l)))

-- ---- passed
module _ (P : Problem) (w : Workspace) where
  abbrev n : ℕ
  n = n_of P

  abbrev N : ℕ
  N = n_of P + m_of P

  -- what the tests say
  record Cells : Type 0 where
    place : (c : ℕ) → c < n → (w.nb_vars # c < N) × (w.var_states # (w.nb_vars # c) ≡ c)
    row : (r : ℕ) → r < m_of P → (w.basic_vars # r < N) × (w.var_states # (w.basic_vars # r) ≡ n + r)
    cell : (v : ℕ) → v < N → w.var_states # v < N

  cells_exactly : (cells_fine n (m_of P) w ≡ true) ↔ Cells
  unfolding cells_fine leads_back
  cells_exactly =
      let e = (every n (λ c. ltb_holds _ _ both eqb_holds _ _) both every (m_of P) (λ r. ltb_holds _ _ both eqb_holds _ _)) both every N (λ v. ltb_holds _ _) in (
        λ h. let a = e.0 h in record { place = a.0.0; row = a.0.1; cell = a.1 },
        λ a. e.1 ((a.place, a.row), a.cell),
      )

  -- the variable at a place, then in a row
  abbrev at : ℕ → ℕ
  at i = elim (ltb i n) [ true ↦ w.nb_vars # i | false ↦ w.basic_vars # (i - n) ]

  at_place : (i : ℕ) → i < n → at i ≡ w.nb_vars # i
  at_place i l = rw (lt-ltb i n l, at)

  at_row : (i : ℕ) → n ≤ i → at i ≡ w.basic_vars # (i - n)
  at_row i l = rw (le-ltb i n l, at)

  module _ (a : Cells) where
    at_fits : (i : ℕ) → i < N → (at i < N) × (w.var_states # at i ≡ i)
    at_fits i l =
        ⊎_elim
        (λ t. let h = ltb-true i n t in rw (at_place i h) (a.place i h))
        (λ t. let h = ltb-false i n t in let r : n + (i - n) ≡ i = omega arith in rw (at_row i h) (rw r at (a.row (i - n) (omega arith))))
        (truth (ltb i n))

    led : (v : ℕ) → v < N → at (w.var_states # v) ≡ v
    led v l = onto N at (λ x. w.var_states # x) (λ i h. (at_fits i h).0) (λ i h. (at_fits i h).1) v l (a.cell v l)

    maps_of : Maps P w
    maps_of =
        record {
          place = λ c l. record { var = (a.place c l).0; back = (a.place c l).1 };
          row = λ r l. record { var = (a.row r l).0; back = (a.row r l).1 };
          variable = λ v l.
              record {
                cell = a.cell v l;
                non_basic = λ h. sym (at_place (w.var_states # v) h) ∙ led v l;
                basic = λ h. sym (at_row (w.var_states # v) h) ∙ led v l;
              };
        }

  cells_of : Maps P w → Cells
  cells_of g =
      record {
        place = λ c l. ((g.place c l).var, (g.place c l).back);
        row = λ r l. ((g.row r l).var, (g.row r l).back);
        cell = λ v l. (g.variable v l).cell;
      }

module _ (p : Plan) (m : Memory) where
  abbrev P : Problem
  P = problem_of p

  pub fine_exactly : (maps_fine p m ≡ true) ↔ Kept p m
  unfolding maps_fine rows_fine
  fine_exactly =
      let e = (eqb_holds _ _ both every (m_of P) (λ r. eqb_holds _ _)) both cells_exactly P m.ws in (
        λ h. let a = e.0 h in record { counted = a.0.0; rows = a.0.1; maps = maps_of P m.ws a.1 },
        λ k. e.1 ((k.counted, k.rows), cells_of P m.ws k.maps),
      )

  lost : (from v : ℕ) → (leads_back (n_of P + m_of P) m.ws.var_states from v ≡ false) ↔ Lost P m from v
  unfolding leads_back
  lost from v = ltb_fails _ _ or eqb_fails _ _

  pub broken_exactly : (maps_fine p m ≡ false) ↔ Broken P m
  unfolding maps_fine rows_fine cells_fine
  broken_exactly =
      (eqb_fails _ _ or some_fails (m_of P) (λ r. eqb_fails _ _))
      or
      ((some_fails (n_of P) (λ c. lost c _) or some_fails (m_of P) (λ r. lost (n_of P + r) _)) or some_fails (n_of P + m_of P) (λ v. ltb_fails _ _))
