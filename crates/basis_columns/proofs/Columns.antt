-- The whole matrix: after all rows each column's cells hold the definition's column. Assumes nothing.
use mathlib.Core.Path.{◌≡◌, refl, sym, ap, ◌∙◌}
use mathlib.Core.Bool.{Bool, true, false}
use mathlib.Core.List.{List, [], ◌∷◌}
use mathlib.Core.Logic.{⊎_elim}
use Prim.Native.Nat.{ℕ, zero, suc, ◌+◌, ◌-◌, ◌<◌, ◌≤◌}
use native.Mathlib.Nat.{eq-or-lt_of_le, le_of_suc-le-suc}
use native.Mathlib.Omega.{arith}
use lib.ListN.{length, get_or}
use lib.Dec.{eqb}
use lib.Ieee.{Float, nan}
use borrow.Author.Tests.{lt-ltb}
use Rattle.doubles.specs.Limits.{max_columns, max_entries}
use Rattle.doubles.specs.Num.{f1}
use Rattle.doubles.specs.Loop.{run}
use Rattle.doubles.specs.Lists.{◌!◌, ◌#◌, part}
use Rattle.rules.specs.Plan.{Problem, Entry, entry, column, column_turn, column_row, row_cols, row_coeffs, n_of, m_of}
use Rattle.rules.specs.Parts.{rowed}
use Rattle.rules.proofs.Lists.{part_long, part_at, snoc_at}
use Rattle.basis_columns.specs.Columns.{Cells, placed_in, place_row, placed, sum, counted, entries_of, Placing, Valued, Matrix, ColumnAt, ByColumns}
use Rattle.basis_columns.proofs.Counts.{grown, sum_next, sum_rises, counted_few, counted_each}
use Rattle.basis_columns.proofs.Placed.{none, AllHold, Short, turns_grow, row_hold, row_placing}

-- ---- rows and values as entries
entries_same : (rs : List ℕ) (xs : List Float) (es : List Entry)
    → length rs ≡ length es → length xs ≡ length es → ((i : ℕ) → i < length es → rs # i ≡ (get_or es i none).at) → ((i : ℕ) → i < length es → xs ! i ≡ (get_or es i none).val) → entries_of rs xs ≡ es
unfolding entries_of
entries_same [] xs [] a b f g = refl
entries_same [] xs (e ∷ es) a b f g = absurd (omega arith)
entries_same (r ∷ rs) xs [] a b f g = absurd (omega arith)
entries_same (r ∷ rs) [] (e ∷ es) a b f g = absurd (omega arith)
entries_same (r ∷ rs) (x ∷ xs) (e ∷ es) a b f g =
    ap (λ (t : Entry). t ∷ entries_of rs xs) (ap (λ (i : ℕ). entry i x) (f 0 (omega arith)) ∙ ap (entry e.at) (g 0 (omega arith)))
    ∙ ap (λ (t : List Entry). e ∷ t) (entries_same rs xs es (omega arith) (omega arith) (λ i h. f (suc i) (omega arith)) (λ i h. g (suc i) (omega arith)))

-- ---- the entries of a column stand in the rows passed
record Above (m : ℕ) (es : List Entry) : Type 0 where
  above : (i : ℕ) → i < length es → (get_or es i none).at < m

turns_above : (j r : ℕ) (cols : List ℕ) (xs : List Float) (es : List Entry) → Above (suc r) es → (k : ℕ) → Above (suc r) (run (column_turn j r cols xs) k es)
unfolding run
turns_above j r cols xs es a zero = a
turns_above j r cols xs es a (suc k) = go (eqb (cols # k) j) (turns_above j r cols xs es a k)
  where
    go : (b : Bool) → Above (suc r) (run (column_turn j r cols xs) k es) → Above (suc r) (grown b (run (column_turn j r cols xs) k es) (entry r (xs ! k)))
    go true w = record { above = snoc_at (λ i (e : Entry). e.at < suc r) (run (column_turn j r cols xs) k es) (entry r (xs ! k)) none w.above (omega arith) }
    go false w = w

module _ (P : Problem) where
  abbrev seen : ℕ → ℕ → List Entry
  seen r j = run (column_row P j) r []

  rows_above : (j r : ℕ) → Above r (seen r j)
  unfolding run
  rows_above j zero = record { above = λ i h. absurd (omega arith) }
  rows_above j (suc r) =
      turns_above j r (row_cols P.plan (P.kept # r)) (row_coeffs P.plan (P.kept # r)) (seen r j) (record { above = λ i h. omega (arith, (rows_above j r).above i h) }) (length (row_cols P.plan (P.kept # r)))

  rows_grow : (j q r : ℕ) → q ≤ r → length (seen q j) ≤ length (seen r j)
  unfolding run
  rows_grow j zero zero h = omega arith
  rows_grow j (suc q) zero h = absurd (omega arith)
  rows_grow j q (suc r) h =
      ⊎_elim (λ (e : q ≡ suc r). rw e (omega arith))
      (λ g.
      let cols = row_cols P.plan (P.kept # r) in
      omega (arith, rows_grow j q r (le_of_suc-le-suc g), turns_grow j r cols (row_coeffs P.plan (P.kept # r)) (seen r j) 0 (length cols) (omega arith)))
      (eq-or-lt_of_le h)

module _ (P : Problem) (f : Matrix P) (zeros : List ℕ) (zeros-long : length zeros ≡ max_columns) (none_yet : (i : ℕ) → zeros # i ≡ 0) where
  abbrev C : List ℕ
  C = counted P zeros

  few : sum C (n_of P) ≤ max_entries
  few = counted_few P f zeros zeros-long none_yet

  long_each : (j : ℕ) → C # j ≡ length (seen P (m_of P) j)
  long_each = counted_each P f zeros zeros-long none_yet

  module _ (s : Cells) (first_next : (j : ℕ) → j < n_of P → s.next # j ≡ sum C j) (next_long : length s.next ≡ max_columns) (rows_long : length s.rows ≡ max_entries) (coeffs_long : length s.coeffs ≡ max_entries) where
    short : (r : ℕ) → r ≤ m_of P → Short (n_of P) C few (seen P r)
    short r h = record { short = λ j l. omega (arith, rows_grow P j r (m_of P) h, long_each j) }

    rows_hold : (r : ℕ) → r ≤ m_of P → AllHold (n_of P) C few (seen P r) (run (place_row P) r s)
    unfolding run placed_in
    rows_hold zero h =
        record {
          next_long = omega (arith, next_long, f.columns_most);
          rows_long = rows_long;
          coeffs_long = coeffs_long;
          column = λ j l. record { next_at = omega (arith, first_next j l); row_at = λ i g. absurd (omega arith); val_at = λ i g. absurd (omega arith) };
        }
    rows_hold (suc r) h =
        let cols = row_cols P.plan (P.kept # r) in
        row_hold (n_of P) C few r cols (row_coeffs P.plan (P.kept # r)) (f.row r h).col (seen P r) (short (suc r) h) (run (place_row P) r s) (rows_hold r (omega arith)) (length cols) (omega arith)

    pub rows_placing : Valued P → (r : ℕ) → r < m_of P → Placing r (row_cols P.plan (P.kept # r)) (row_coeffs P.plan (P.kept # r)) (run (place_row P) r s)
    unfolding run
    rows_placing v r h =
        let w = f.row r h in
        let S = P.plan.starts in
        let a = S # (P.kept # r) in
        let b = S # (P.kept # r + 1) in
        row_placing (n_of P) C few r (row_cols P.plan (P.kept # r)) (row_coeffs P.plan (P.kept # r)) w.col (seen P r) (short (suc r) h) (run (place_row P) r s) (rows_hold r (omega arith)) f.columns_most
        (omega (arith, part_long a b P.plan.cols w.cols_in.ends, part_long a b P.plan.coeffs (v.coeffs_in r h).ends))

    module _ (S : List ℕ) (laid : (j : ℕ) → j ≤ n_of P → S # j ≡ sum C j) where
      pub laid_out : ByColumns P S (placed P s).rows (placed P s).coeffs
      unfolding placed column
      laid_out = let a = rows_hold (m_of P) (omega arith) in record { rows_long = a.rows_long; coeffs_long = a.coeffs_long; column = λ j l. at j l }
        where
          t : Cells
          t = run (place_row P) (m_of P) s

          at : (j : ℕ) → j < n_of P → ColumnAt P S t.rows t.coeffs j
          at j l =
              let a = rows_hold (m_of P) (omega arith) in
              let h = a.column j l in
              let es = seen P (m_of P) j in
              let from = laid j (omega arith) in
              let to = laid (j + 1) (omega arith) in
              let step = sum_next C j in
              let most = sum_rises C (j + 1) (n_of P) (omega arith) in
              let size : S # (j + 1) - S # j ≡ length es = omega (arith, from, to, step, long_each j) in
              let ends : S # (j + 1) ≤ max_entries = omega (arith, to, most, few) in
              let cell : (i : ℕ) → S # j + i ≡ sum C j + i = λ i. omega (arith, from) in
              record {
                rises = omega (arith, from, to, step);
                ends = ends;
                row = λ k g i.
                    let u : sum C j + (k - S # j) ≡ k = omega (arith, from) in
                    let v = h.row_at (k - S # j) (omega (arith, size)) in
                    omega (arith, v, ap (λ (x : ℕ). t.rows # x) u, (rows_above P j (m_of P)).above (k - S # j) (omega (arith, size)));
                same =
                    entries_same (part (S # j) (S # (j + 1)) t.rows) (part (S # j) (S # (j + 1)) t.coeffs) es
                    (part_long (S # j) (S # (j + 1)) t.rows (omega (arith, a.rows_long)) ∙ size)
                    (part_long (S # j) (S # (j + 1)) t.coeffs (omega (arith, a.coeffs_long)) ∙ size)
                    (λ i g. part_at (S # j) (S # (j + 1)) t.rows i 0 (omega (arith, size)) ∙ ap (λ (x : ℕ). t.rows # x) (cell i) ∙ h.row_at i g)
                    (λ i g. part_at (S # j) (S # (j + 1)) t.coeffs i nan (omega (arith, size)) ∙ ap (λ (x : ℕ). t.coeffs ! x) (cell i) ∙ h.val_at i g)
                    ∙ sym (ap (λ (b : Bool). elim b [ true ↦ es | false ↦ entry (j - n_of P) f1 ∷ [] ]) (lt-ltb j (n_of P) l));
              }

-- what the counts need of it
pub counts_part : (P : Problem) → Matrix P → Matrix (rowed max_columns P.plan.starts P.plan.cols [] P.kept)
counts_part P f =
    record {
      columns_most = omega arith;
      row = λ r h. let w = f.row r h in record { cols_in = w.cols_in; most = w.most; after = w.after; col = λ k g. omega (arith, w.col k g, f.columns_most) };
    }
