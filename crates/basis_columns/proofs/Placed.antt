-- The placed entries: after any number of turns each column's cells hold the column so far. Assumes nothing.
use mathlib.Core.Path.{◌≡◌, refl, sym, ap, ◌∙◌, subst}
use mathlib.Core.Bool.{Bool, true, false}
use mathlib.Core.List.{List, [], ◌∷◌, ◌++◌}
use mathlib.Core.Logic.{⊎_elim}
use Prim.Native.Nat.{ℕ, zero, suc, ◌+◌, ◌<◌, ◌≤◌}
use native.Mathlib.Nat.{eq-or-lt_of_le, le_of_suc-le-suc}
use native.Mathlib.Omega.{arith}
use lib.ListN.{length, get_or, set, get_or-append}
use lib.Seq.{get_or-set_same, get_or-set_other, get_or-append_seam}
use lib.Dec.{eqb, ltb}
use lib.Ieee.{Float, nan}
use borrow.Author.Tests.{eqb-true, eqb-false, ltb-true, ltb-false, eq-eqb}
use Rattle.doubles.proofs.Bools.{by_test}
use Rattle.doubles.specs.Limits.{max_columns, max_entries}
use Rattle.doubles.specs.Loop.{run}
use Rattle.doubles.specs.Lists.{◌!◌, ◌#◌}
use Rattle.rules.specs.Plan.{Entry, entry, column_turn}
use Rattle.rules.proofs.Lists.{length_snoc, below_or_at}
use Rattle.basis_columns.specs.Columns.{Cells, cells, place_turn, sum, Placing}
use Rattle.basis_columns.proofs.Counts.{grown, sum_next, sum_rises}
use Rattle.basis_columns.proofs.Lengths.{place_long}

abbrev pub none : Entry
none = entry 0 nan

-- the cells from b on hold the entries es, and the next one follows them
pub record Holds (b : ℕ) (es : List Entry) (j : ℕ) (s : Cells) : Type 0 where
  pub next_at : s.next # j ≡ b + length es
  pub row_at : (i : ℕ) → i < length es → s.rows # (b + i) ≡ (get_or es i none).at
  pub val_at : (i : ℕ) → i < length es → s.coeffs ! (b + i) ≡ (get_or es i none).val

-- ---- one turn, for the entry's own column and for another
module _ (r c : ℕ) (x : Float) (s : Cells) where
  abbrev at : ℕ
  at = s.next # c

  abbrev turned : Cells
  turned = cells (set s.next c (at + 1)) (set s.rows at r) (set s.coeffs at x)

  module _ (c_in : c < length s.next) (rows_in : at < length s.rows) (coeffs_in : at < length s.coeffs) where
    own : (b : ℕ) (es : List Entry) → Holds b es c s → Holds b (es ++ (entry r x ∷ [])) c turned
    own b es h =
        let more = length_snoc es (entry r x) in
        let here : at ≡ b + length es = h.next_at in
        record {
          next_at = get_or-set_same s.next c (at + 1) 0 c_in ∙ omega (arith, here, more);
          row_at = λ i g.
              below_or_at (λ i. set s.rows at r # (b + i) ≡ (get_or (es ++ (entry r x ∷ [])) i none).at) (length es)
              (λ i l.
              get_or-set_other s.rows at (b + i) r 0 (λ q. omega (arith, here, q))
              ∙ h.row_at i l ∙ ap (λ (e : Entry). e.at) (sym (get_or-append es (entry r x ∷ []) none i l)))
              (ap (λ (k : ℕ). set s.rows at r # k) (sym here) ∙ get_or-set_same s.rows at r 0 rows_in ∙ ap (λ (e : Entry). e.at) (sym (get_or-append_seam es (entry r x) [] none)))
              i (omega (arith, more));
          val_at = λ i g.
              below_or_at (λ i. set s.coeffs at x ! (b + i) ≡ (get_or (es ++ (entry r x ∷ [])) i none).val) (length es)
              (λ i l.
              get_or-set_other s.coeffs at (b + i) x nan (λ q. omega (arith, here, q))
              ∙ h.val_at i l ∙ ap (λ (e : Entry). e.val) (sym (get_or-append es (entry r x ∷ []) none i l)))
              (ap (λ (k : ℕ). set s.coeffs at x ! k) (sym here) ∙ get_or-set_same s.coeffs at x nan coeffs_in ∙ ap (λ (e : Entry). e.val) (sym (get_or-append_seam es (entry r x) [] none)))
              i (omega (arith, more));
        }

    other : (b j : ℕ) (es : List Entry) → (j ≡ c → ⊥) → ((i : ℕ) → i < length es → b + i ≡ at → ⊥) → Holds b es j s → Holds b es j turned
    other b j es o apart h =
        record {
          next_at = get_or-set_other s.next c j (at + 1) 0 o ∙ h.next_at;
          row_at = λ i g. get_or-set_other s.rows at (b + i) r 0 (apart i g) ∙ h.row_at i g;
          val_at = λ i g. get_or-set_other s.coeffs at (b + i) x nan (apart i g) ∙ h.val_at i g;
        }

-- ---- columns only grow
pub turns_grow : (j r : ℕ) (cols : List ℕ) (xs : List Float) (es : List Entry) (k m : ℕ) → k ≤ m → length (run (column_turn j r cols xs) k es) ≤ length (run (column_turn j r cols xs) m es)
unfolding run
turns_grow j r cols xs es zero zero h = omega arith
turns_grow j r cols xs es (suc k) zero h = absurd (omega arith)
turns_grow j r cols xs es k (suc m) h =
    ⊎_elim (λ (q : k ≡ suc m). rw q (omega arith))
    (λ g. omega (arith, turns_grow j r cols xs es k m (le_of_suc-le-suc g), grows (eqb (cols # m) j) (run (column_turn j r cols xs) m es) (entry r (xs ! m))))
    (eq-or-lt_of_le h)
  where
    grows : (b : Bool) (es : List Entry) (x : Entry) → length es ≤ length (grown b es x)
    grows true es x = omega (arith, length_snoc es x)
    grows false es x = omega arith

-- ---- the columns laid end to end: C has their full lengths
module _ (n : ℕ) (C : List ℕ) (few : sum C n ≤ max_entries) where
  -- each column so far, es j, stands in its own cells
  pub record AllHold (es : ℕ → List Entry) (s : Cells) : Type 0 where
    pub next_long : n ≤ length s.next
    pub rows_long : length s.rows ≡ max_entries
    pub coeffs_long : length s.coeffs ≡ max_entries
    pub column : (j : ℕ) → j < n → Holds (sum C j) (es j) j s

  -- none is longer than it gets
  pub record Short (es : ℕ → List Entry) : Type 0 where
    pub short : (j : ℕ) → j < n → length (es j) ≤ C # j

  before : (i j : ℕ) → i < j → sum C i + C # i ≤ sum C j
  before i j h = omega (arith, sum_next C i, sum_rises C (i + 1) j (omega arith))

  cell_in : (c k : ℕ) → c < n → k < C # c → sum C c + k < max_entries
  cell_in c k h g = omega (arith, before c n h, few)

  module _ (r c : ℕ) (x : Float) (s : Cells) (es : ℕ → List Entry) (a : AllHold es s) (fit : Short es) (h : c < n) (g : length (es c) < C # c) where
    abbrev next_es : ℕ → List Entry
    next_es j = grown (eqb c j) (es j) (entry r x)

    at_in : s.next # c < max_entries
    at_in = omega (arith, (a.column c h).next_at, cell_in c (length (es c)) h g)

    turn_hold : (j : ℕ) → j < n → Holds (sum C j) (next_es j) j (turned r c x s)
    turn_hold j l = go (eqb c j) refl
      where
        rows_in : s.next # c < length s.rows
        rows_in = omega (arith, at_in, a.rows_long)

        coeffs_in : s.next # c < length s.coeffs
        coeffs_in = omega (arith, at_in, a.coeffs_long)

        c_in : c < length s.next
        c_in = omega (arith, a.next_long)

        apart : (j ≡ c → ⊥) → (i : ℕ) → i < length (es j) → sum C j + i ≡ s.next # c → ⊥
        apart o i k q =
            by_test (ltb j c)
            (λ t. omega (arith, before j c (ltb-true j c t), fit.short j l, (a.column c h).next_at, q))
            (λ f. let m : c < j = omega (arith, ltb-false j c f, o) in omega (arith, before c j m, (a.column c h).next_at, q))

        go : (b : Bool) → eqb c j ≡ b → Holds (sum C j) (grown b (es j) (entry r x)) j (turned r c x s)
        go true q = let e = eqb-true c j q in subst (λ (i : ℕ). Holds (sum C i) (es i ++ (entry r x ∷ [])) i (turned r c x s)) e (own r c x s c_in rows_in coeffs_in (sum C c) (es c) (a.column c h))
        go false q = let o : j ≡ c → ⊥ = λ e. eqb-false c j q (sym e) in other r c x s c_in rows_in coeffs_in (sum C j) j (es j) o (apart o) (a.column j l)

  -- ---- a row
  module _ (r : ℕ) (cols : List ℕ) (xs : List Float) (inside : (k : ℕ) → k < length cols → cols # k < n) where
    abbrev after : (ℕ → List Entry) → ℕ → ℕ → List Entry
    after es k j = run (column_turn j r cols xs) k (es j)

    module _ (es : ℕ → List Entry) (fit : Short (after es (length cols))) where
      short_at : (k : ℕ) → k ≤ length cols → Short (after es k)
      short_at k h = record { short = λ j l. omega (arith, turns_grow j r cols xs (es j) k (length cols) h, fit.short j l) }

      -- the entry's own column gets longer
      room_at : (k : ℕ) → k < length cols → length (after es k (cols # k)) < C # (cols # k)
      unfolding run
      room_at k h =
          let c = cols # k in
          let one : length (after es (suc k) c) ≡ length (after es k c) + 1 =
          ap (λ (b : Bool). length (grown b (after es k c) (entry r (xs ! k)))) (eq-eqb c c refl) ∙ length_snoc (after es k c) (entry r (xs ! k)) in
          omega (arith, one, (short_at (suc k) h).short c (inside k h))

      pub row_hold : (s : Cells) → AllHold es s → (k : ℕ) → k ≤ length cols → AllHold (after es k) (run (place_turn r cols xs) k s)
      unfolding run
      row_hold s a zero h = a
      row_hold s a (suc k) h =
          let t = run (place_turn r cols xs) k s in
          let b = row_hold s a k (omega arith) in
          let o = place_long r cols xs s (suc k) in
          record {
            next_long = omega (arith, o.next, a.next_long);
            rows_long = o.rows ∙ a.rows_long;
            coeffs_long = o.coeffs ∙ a.coeffs_long;
            column = turn_hold r (cols # k) (xs ! k) t (after es k) b (short_at k (omega arith)) (inside k h) (room_at k h);
          }

      -- every entry has a cell
      pub row_placing : (s : Cells) → AllHold es s → n ≤ max_columns → length cols ≤ length xs → Placing r cols xs s
      row_placing s a most long =
          record {
            both_long = long;
            col = λ k g. omega (arith, inside k g);
            room = λ k g. at_in r (cols # k) (xs ! k) (run (place_turn r cols xs) k s) (after es k) (row_hold s a k (omega arith)) (short_at k (omega arith)) (inside k g) (room_at k g);
          }
