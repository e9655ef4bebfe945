-- The parts of 41's test as the code puts them together. Assumes nothing.
use mathlib.Core.Path.{◌≡◌, refl, sym, ap, ◌∙◌}
use mathlib.Core.Bool.{true, false, ◌&&◌}
use Prim.Native.Nat.{ℕ, ◌≤◌}
use native.Mathlib.Omega.{arith}
use lib.Dec.{leb, eqb}
use borrow.Author.Tests.{leb-true}
use Rattle.doubles.specs.Limits.{eta_columns, eta_entries}
use Rattle.doubles.specs.Lists.{◌#◌}
use Rattle.doubles.proofs.Loops.{both_true}
use Rattle.lu_gate.specs.Gate.{ok_starts}
use Rattle.rules.specs.Plan.{Plan, Memory, Etas, problem_of, m_of}
use Rattle.state_maps.specs.Maps.{maps_fine}
use Rattle.state_maps.proofs.Laws.{kept_few}
use Rattle.state_maps.proofs.Exact.{fine_exactly}
use Rattle.fix_rules.specs.Kept.{status_kept, store_fine, passes41}
use Rattle.fix_kept.specs.Rest.{numbers_fine, rest_fine}

-- a store that passes has room for its entries
pub entries_fit : (rows : ℕ) (h : Etas) (count entries : ℕ) → store_fine rows h count entries ≡ true
    → entries ≤ eta_entries
unfolding store_fine
entries_fit rows h count entries o =
    let a = both_true (leb count eta_columns) _ o in
    let b = both_true (ok_starts count entries h.starts) _ a.1 in
    leb-true entries eta_entries (both_true (leb entries eta_entries) _ b.1).0

-- ---- the whole
module _ (p : Plan) (m : Memory) where
  whole : passes41 p m ≡ eqb (status_kept m) 0 && (maps_fine p m && rest_fine p.columns (m_of (problem_of p)) m)
  unfolding passes41 rest_fine numbers_fine
  whole = refl

  pub not_optimal : eqb (status_kept m) 0 ≡ false → false ≡ passes41 p m
  not_optimal e = sym (whole ∙ rw e)

  module _ (optimal : eqb (status_kept m) 0 ≡ true) where
    pub maps_broken : maps_fine p m ≡ false → false ≡ passes41 p m
    maps_broken e = sym (whole ∙ rw (optimal, e))

    -- the count is the plan's, once the maps have passed
    pub rest_is : maps_fine p m ≡ true → rest_fine p.columns (m.counts # 0) m ≡ passes41 p m
    rest_is e =
        ap (λ (k : ℕ). rest_fine p.columns k m) ((fine_exactly p m).0 e).counted
        ∙ sym (whole ∙ rw (optimal, e))

  pub counted_few : maps_fine p m ≡ true → m.counts # 0 ≤ p.rows
  counted_few e = omega (arith, ((fine_exactly p m).0 e).counted, kept_few p)
