-- An exchange keeps the two maps between variables and places each other's inverse. Assumes nothing.
use mathlib.Core.Path.{◌≡◌, refl, sym, ap, ◌∙◌}
use mathlib.Core.Bool.{Bool, true, false}
use mathlib.Core.List.{List}
use Prim.Native.Nat.{ℕ, ◌+◌, ◌-◌, ◌<◌, ◌≤◌}
use native.Mathlib.Omega.{arith}
use lib.Dec.{eqb}
use lib.ListN.{set, length-set}
use lib.Seq.{get_or-set_same, get_or-set_other}
use borrow.Author.Tests.{eqb-true, eqb-false}
use Rattle.doubles.specs.Lists.{◌#◌}
use Rattle.rules.specs.Plan.{Problem, Workspace, n_of, m_of}
use Rattle.rules.specs.Invariant.{Lengths, NonBasicAt, BasicAt, Maps}

-- two numbers are equal or not
pub split : {Q : Type 0} (a b : ℕ) → (a ≡ b → Q) → ((a ≡ b → ⊥) → Q) → Q
split {Q} a b y n = go (eqb a b) refl
  where
    go : (t : Bool) → eqb a b ≡ t → Q
    go true e = y (eqb-true a b e)
    go false e = n (eqb-false a b e)

module _ (P : Problem) (w : Workspace) (l : Lengths P w) (g : Maps P w) (col row : ℕ) (hc : col < n_of P) (hr : row < m_of P) where
  abbrev n : ℕ
  n = n_of P

  abbrev enters : ℕ
  enters = w.nb_vars # col

  abbrev leaves : ℕ
  leaves = w.basic_vars # row

  -- the maps after the exchange
  abbrev basics : List ℕ
  basics = set w.basic_vars row enters

  abbrev non_basics : List ℕ
  non_basics = set w.nb_vars col leaves

  abbrev cells : List ℕ
  cells = set (set w.var_states enters (n + row)) leaves col

  entering : NonBasicAt P w col
  entering = g.place col hc

  outgoing : BasicAt P w row
  outgoing = g.row row hr

  apart : enters ≡ leaves → ⊥
  apart q = omega (arith, ap (λ (v : ℕ). w.var_states # v) q, entering.back, outgoing.back)

  cell_leaves : cells # leaves ≡ col
  cell_leaves = get_or-set_same (set w.var_states enters (n + row)) leaves col 0 (omega (arith, length-set w.var_states enters (n + row), outgoing, l))

  cell_enters : cells # enters ≡ n + row
  cell_enters =
      get_or-set_other (set w.var_states enters (n + row)) leaves enters col 0 apart
      ∙ get_or-set_same w.var_states enters (n + row) 0 (omega (arith, entering, l))

  cell_other : (v : ℕ) → (v ≡ enters → ⊥) → (v ≡ leaves → ⊥) → cells # v ≡ w.var_states # v
  cell_other v a b = get_or-set_other (set w.var_states enters (n + row)) leaves v col 0 b ∙ get_or-set_other w.var_states enters v (n + row) 0 a

  place_col : non_basics # col ≡ leaves
  place_col = get_or-set_same w.nb_vars col leaves 0 (omega (arith, l))

  row_row : basics # row ≡ enters
  row_row = get_or-set_same w.basic_vars row enters 0 (omega (arith, l))

  place_other : (c : ℕ) → (c ≡ col → ⊥) → non_basics # c ≡ w.nb_vars # c
  place_other c q = get_or-set_other w.nb_vars col c leaves 0 q

  row_other : (r : ℕ) → (r ≡ row → ⊥) → basics # r ≡ w.basic_vars # r
  row_other r q = get_or-set_other w.basic_vars row r enters 0 q

  -- what leads from a place, and from a row, to its variable and back
  place_to : (c v : ℕ) → non_basics # c ≡ v → v < n + m_of P → cells # v ≡ c → (non_basics # c < n + m_of P) × (cells # (non_basics # c) ≡ c)
  place_to c v e h f = (omega arith, ap (λ (x : ℕ). cells # x) e ∙ f)

  row_to : (r v : ℕ) → basics # r ≡ v → v < n + m_of P → cells # v ≡ n + r → (basics # r < n + m_of P) × (cells # (basics # r) ≡ n + r)
  row_to r v e h f = (omega arith, ap (λ (x : ℕ). cells # x) e ∙ f)

  places_lead : (c : ℕ) → c < n → (non_basics # c < n + m_of P) × (cells # (non_basics # c) ≡ c)
  places_lead c h =
      split c col
      (λ (q : c ≡ col). rw q (place_to col leaves place_col outgoing.var cell_leaves))
      (λ (q : c ≡ col → ⊥).
      let p = g.place c h in
      let v : ℕ = w.nb_vars # c in
      place_to c v (place_other c q) p.var
      (cell_other v (λ e. q (sym p.back ∙ ap (λ (x : ℕ). w.var_states # x) e ∙ entering.back))
      (λ e. omega (arith, ap (λ (x : ℕ). w.var_states # x) e, outgoing.back, p.back)) ∙ p.back))

  rows_lead : (r : ℕ) → r < m_of P → (basics # r < n + m_of P) × (cells # (basics # r) ≡ n + r)
  rows_lead r h =
      split r row
      (λ (q : r ≡ row). rw q (row_to row enters row_row entering.var cell_enters))
      (λ (q : r ≡ row → ⊥).
      let p = g.row r h in
      let v : ℕ = w.basic_vars # r in
      row_to r v (row_other r q) p.var
      (cell_other v (λ e. omega (arith, ap (λ (x : ℕ). w.var_states # x) e, entering.back, p.back))
      (λ e. q (omega (arith, ap (λ (x : ℕ). w.var_states # x) e, outgoing.back, p.back))) ∙ p.back))

  -- the cell of v is x, and x leads to v
  record Leads (v x : ℕ) : Type 0 where
    inside : x < n + m_of P
    to_place : x < n → non_basics # x ≡ v
    to_row : n ≤ x → basics # (x - n) ≡ v

  leads_enters : Leads enters (n + row)
  leads_enters =
      let q : n + row - n ≡ row = omega arith in
      record { inside = omega arith; to_place = λ h. absurd (omega arith); to_row = λ h. rw q row_row }

  leads_leaves : Leads leaves col
  leads_leaves = record { inside = omega arith; to_place = λ h. place_col; to_row = λ h. absurd (omega arith) }

  leads_other : (v : ℕ) → v < n + m_of P → (v ≡ enters → ⊥) → (v ≡ leaves → ⊥) → Leads v (w.var_states # v)
  leads_other v h a b =
      let p = g.variable v h in
      let x : ℕ = w.var_states # v in
      record {
        inside = p.cell;
        to_place = λ k. place_other x (λ e. a (sym (p.non_basic k) ∙ ap (λ (c : ℕ). w.nb_vars # c) e)) ∙ p.non_basic k;
        to_row = λ k. row_other (x - n) (λ e. b (sym (p.basic k) ∙ ap (λ (r : ℕ). w.basic_vars # r) e)) ∙ p.basic k;
      }

  leads : (v : ℕ) → v < n + m_of P → Leads v (cells # v)
  leads v h =
      split v enters
      (λ (q : v ≡ enters). rw (q, cell_enters) leads_enters)
      (λ (a : v ≡ enters → ⊥).
      split v leaves (λ (q : v ≡ leaves). rw (q, cell_leaves) leads_leaves) (λ (b : v ≡ leaves → ⊥). rw (cell_other v a b) (leads_other v h a b)))

  -- any workspace with these three arrays
  pub exchange_maps : (w' : Workspace) → w'.basic_vars ≡ basics → w'.nb_vars ≡ non_basics → w'.var_states ≡ cells → Maps P w'
  exchange_maps w' eb en ev =
      record {
        place = λ c h. let p = places_lead c h in record { var = rw en p.0; back = rw (en, ev) p.1 };
        row = λ r h. let p = rows_lead r h in record { var = rw eb p.0; back = rw (eb, ev) p.1 };
        variable = λ v h. let p = leads v h in record { cell = rw ev p.inside; non_basic = rw (ev, en) p.to_place; basic = rw (ev, eb) p.to_row };
      }
