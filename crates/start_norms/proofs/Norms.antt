-- The squares that are added row by row are, at each column, its own sum of squares: its entries come in the same order. Assumes nothing.
use mathlib.Core.Path.{◌≡◌, refl, sym, ap, ◌∙◌}
use mathlib.Core.Bool.{Bool, true, false}
use mathlib.Core.List.{List, [], ◌∷◌, ◌++◌}
use Prim.Native.Nat.{ℕ, ◌-◌, ◌<◌, ◌≤◌}
use native.Mathlib.Nat.{le_refl}
use native.Mathlib.Numerals.{add-one}
use native.Mathlib.Omega.{arith}
use lib.ListN.{length, drop, length-set}
use lib.Seq.{get_or-set_same, get_or-set_other, drop-set-lt}
use lib.Dec.{eqb}
use lib.Ieee.{Float, nan}
use borrow.Author.Tests.{lt-ltb, eqb-true, eqb-false}
use Rattle.doubles.specs.Num.{◌⊕◌, ◌⊗◌, f0, f1}
use Rattle.doubles.specs.Loop.{run, each, table}
use Rattle.doubles.specs.Lists.{◌!◌, ◌#◌, over}
use Rattle.doubles.proofs.Loops.{keeps, each_snoc, over_same}
use Rattle.sparse.specs.Scattered.{Within}
use Rattle.rules.specs.Plan.{Problem, Entry, entry, n_of, m_of, row_cols, row_coeffs, column_turn, column_row, column}
use Rattle.rules.specs.Start.{start_norm}
use Rattle.rules.proofs.Lists.{over_long, over_at, over_tail}
use Rattle.plan.specs.Kept.{bare, RowsRead}
use Rattle.start_norms.specs.Squares.{square_turn, add_squares, square_row, squares}

abbrev sum_of : List Entry → Float
sum_of es = each es (λ e t. t ⊕ e.val ⊗ e.val) f0

-- a list with the squares of the entries es at j, and s₀'s cells past n
record Summed (n j : ℕ) (s₀ : List Float) (es : List Entry) (s : List Float) : Type 0 where
  sum_long : n ≤ length s
  sum_at : j < n → s ! j ≡ sum_of es
  sum_tail : drop n s ≡ drop n s₀

module _ (n j : ℕ) (s₀ : List Float) where
  -- one entry
  turn : (r : ℕ) (cols : List ℕ) (xs : List Float) (k : ℕ) → cols # k < n → (es : List Entry) (s : List Float)
      → Summed n j s₀ es s → Summed n j s₀ (column_turn j r cols xs k es) (square_turn cols xs k s)
  turn r cols xs k h es s a =
      record {
        sum_long = simp length-set a.sum_long;
        sum_at = λ l. go (a.sum_at l) (eqb (cols # k) j) refl;
        sum_tail = drop-set-lt n s (cols # k) _ h ∙ a.sum_tail;
      }
    where
      go : s ! j ≡ sum_of es → (b : Bool) → eqb (cols # k) j ≡ b
          → square_turn cols xs k s ! j ≡ sum_of (elim b [ true ↦ es ++ (entry r (xs ! k) ∷ []) | false ↦ es ])
      go f true e =
          let q = eqb-true (cols # k) j e in
          let l : j < length s = omega (arith, a.sum_long, h, q) in
          rw (q, get_or-set_same s j (s ! j ⊕ xs ! k ⊗ xs ! k) nan l, each_snoc es (entry r (xs ! k)) (λ e t. t ⊕ e.val ⊗ e.val) f0, f)
      go f false e = get_or-set_other s (cols # k) j _ nan (λ q. eqb-false (cols # k) j e (sym q)) ∙ f

  -- a row
  row : (r : ℕ) (cols : List ℕ) (xs : List Float) → Within n (length cols) cols → (es : List Entry) (s : List Float)
      → Summed n j s₀ es s → Summed n j s₀ (run (column_turn j r cols xs) (length cols) es) (add_squares cols xs s)
  unfolding add_squares run
  row r cols xs w es s a =
      keeps (square_turn cols xs) s (λ k t. Summed n j s₀ (run (column_turn j r cols xs) k es) t) (length cols)
      (λ k t h b. rw (add-one k) (turn r cols xs k (w.inside k h) _ t b))
      a (length cols) (le_refl (length cols))

  -- all kept rows
  rows : (P : Problem) → RowsRead (bare P) n → (s : List Float) → Summed n j s₀ [] s → Summed n j s₀ (run (column_row P j) (m_of P) []) (squares P s)
  unfolding squares run
  rows P w s a =
      keeps (square_row P) s (λ r t. Summed n j s₀ (run (column_row P j) r []) t) (m_of P)
      (λ r t h b. rw (add-one r) (row r (row_cols P.plan (P.kept # r)) (row_coeffs P.plan (P.kept # r)) (record { inside = (w.row r h).col }) _ t b))
      a (m_of P) (le_refl (m_of P))

-- ---- the norms: the cleared front, the squares, and the ones
module _ (P : Problem) (w : RowsRead (bare P) (n_of P)) (s₀ : List Float) (long : n_of P ≤ length s₀) where
  abbrev cleared : List Float
  cleared = over (table (n_of P) (λ _. f0)) s₀

  summed : (j : ℕ) → Summed (n_of P) j s₀ (run (column_row P j) (m_of P) []) (squares P cleared)
  unfolding each
  summed j =
      rows (n_of P) j s₀ P w cleared
      (record {
        sum_long = omega (arith, over_long (n_of P) (λ _. f0) s₀ long);
        sum_at = over_at (n_of P) (λ _. f0) s₀ nan j;
        sum_tail = over_tail (n_of P) (λ _. f0) s₀;
      })

  norm_at_holds : (j : ℕ) → j < n_of P → squares P cleared ! j ⊕ f1 ≡ start_norm P j
  unfolding start_norm column
  norm_at_holds j h =
      ap (λ (x : Float). x ⊕ f1) ((summed j).sum_at h)
      ∙ ap (λ (b : Bool). sum_of (elim b [ true ↦ run (column_row P j) (m_of P) [] | false ↦ entry (j - n_of P) f1 ∷ [] ]) ⊕ f1) (sym (lt-ltb j (n_of P) h))

  pub norms_long : n_of P ≤ length (squares P cleared)
  norms_long = (summed 0).sum_long

  pub norms_are : over (table (n_of P) (λ j. squares P cleared ! j ⊕ f1)) (squares P cleared) ≡ over (table (n_of P) (start_norm P)) s₀
  norms_are = over_same (λ j. squares P cleared ! j ⊕ f1) (start_norm P) (n_of P) (squares P cleared) s₀ norm_at_holds (summed 0).sum_tail
