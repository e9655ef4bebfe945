-- Whether the memory still has the rows and the maps that a run over this plan left: the test behind 41, and the words
-- that it decides (docs/RULES-02.md, Ask 3). Assumes nothing.
use Rattle.std.specs.Prelude.{◌≡◌, ◌⊎◌, Bool, ◌&&◌, List, ℕ, ◌+◌, ◌<◌, ◌≤◌, ltb, eqb, length}
use Rattle.doubles.specs.Loop.{all}
use Rattle.doubles.specs.Lists.{◌#◌}
use Rattle.rules.specs.Plan.{Plan, Problem, Memory, Workspace, problem_of, n_of, m_of, kept_rows}
use Rattle.rules.specs.Invariant.{Maps}

-- ---- the test

-- the kept rows' count and numbers are the plan's
unfoldable pub rows_fine : List ℕ → ℕ → List ℕ → Bool
rows_fine ks count kept = eqb count (length ks) && all (length ks) (λ r. eqb (kept # r) (ks # r))

-- v is a variable, and its cell leads back to where v stands
unfoldable pub leads_back : ℕ → List ℕ → ℕ → ℕ → Bool
leads_back vars states at v = ltb v vars && eqb (states # v) at

-- every place's variable and every row's leads back, and no cell of a variable is too large
unfoldable pub cells_fine : ℕ → ℕ → Workspace → Bool
cells_fine n m w =
    all n (λ c. leads_back (n + m) w.var_states c (w.nb_vars # c))
    && all m (λ r. leads_back (n + m) w.var_states (n + r) (w.basic_vars # r))
    && all (n + m) (λ v. ltb (w.var_states # v) (n + m))

unfoldable pub maps_fine : Plan → Memory → Bool
maps_fine p m =
    let ks = kept_rows p in
    rows_fine ks (m.counts # 0) m.kept && cells_fine p.columns (length ks) m.ws

-- ---- its words

-- the rows are the plan's, and the two maps are each other's inverse
pub record Kept (p : Plan) (m : Memory) : Type 0 where
  pub counted : m.counts # 0 ≡ m_of (problem_of p)
  pub rows : (r : ℕ) → r < m_of (problem_of p) → m.kept # r ≡ kept_rows p # r
  pub maps : Maps (problem_of p) m.ws

-- 41's own words: the kept rows' count or numbers aren't the plan's, or a map's cell is too large, or the variable at some
-- place or row isn't mapped back to it
module _ (P : Problem) (m : Memory) where
  abbrev pub OtherRows : Type 0
  OtherRows = (¬ (m.counts # 0 ≡ m_of P)) ⊎ ((r : ℕ) × (r < m_of P) × (¬ (m.kept # r ≡ P.kept # r)))

  -- the variable v that stands at a place or in a row
  abbrev pub Lost : ℕ → ℕ → Type 0
  Lost at v = (n_of P + m_of P ≤ v) ⊎ (¬ (m.ws.var_states # v ≡ at))

  abbrev pub LostPlace : Type 0
  LostPlace = (c : ℕ) × (c < n_of P) × Lost c (m.ws.nb_vars # c)

  abbrev pub LostRow : Type 0
  LostRow = (r : ℕ) × (r < m_of P) × Lost (n_of P + r) (m.ws.basic_vars # r)

  abbrev pub LargeCell : Type 0
  LargeCell = (v : ℕ) × (v < n_of P + m_of P) × (n_of P + m_of P ≤ m.ws.var_states # v)

  abbrev pub Broken : Type 0
  Broken = OtherRows ⊎ ((LostPlace ⊎ LostRow) ⊎ LargeCell)
