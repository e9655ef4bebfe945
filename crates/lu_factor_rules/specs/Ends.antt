-- What 23 and 25 say of a basis, apart from loops. Assumes nothing.
use Rattle.std.specs.Prelude.{◌≡◌, true, false, ℕ, ◌<◌}
use Rattle.std.specs.Float.Ieee.{le}
use Rattle.doubles.specs.Num.{eps, finite, size}
use Rattle.sparse.specs.Scattered.{Sv, listed, listed_val}
use Rattle.lu_factor_rules.specs.Factor.{Partial, nothing, parts, is_pivot, Outcome, factored, Found, solved}
use Rattle.lu_factor_rules.specs.Factor.{column, added}

-- the next column of f, solved with the columns of L that are made; and what it gives
abbrev pub next_column : ℕ → (ℕ → Sv) → Partial → Sv
next_column m col f = solved m f.number f.made f.lower_starts f.lower.rows f.lower.vals (col f.made)

abbrev pub next_answer : ℕ → (ℕ → Sv) → Partial → Outcome Found
next_answer m col f = column m f.made f.number f.lower_starts (parts f.lower f.upper) (col f.made)

-- f has the first columns of the basis, each factored after those before it
pub data Made (m : ℕ) (col : ℕ → Sv) : Partial → Type 0 where
  none : Made m col nothing
  next : {f : Partial} {x : Found} → Made m col f → next_answer m col f ≡ factored x → Made m col (added f x)

-- "Every listed value must be finite": one isn't
pub record Wild (s : Sv) : Type 0 where
  pub at : ℕ
  pub below : at < s.pat.count
  pub value : finite (listed_val s at) ≡ false

-- every listed value is finite, but no remaining listed row has a size of at least EPS
pub record Flat (f : Partial) (s : Sv) : Type 0 where
  pub all_finite_holds : (k : ℕ) → k < s.pat.count → finite (listed_val s k) ≡ true
  pub none_large : (k : ℕ) → k < s.pat.count → is_pivot f.number f.made (listed s k) ≡ false
      → le eps (size (listed_val s k)) ≡ false

-- some column, with the columns before it factored, is such
pub record Some (m : ℕ) (col : ℕ → Sv) (Such : Partial → Sv → Type 0) : Type 0 where
  pub before : Partial
  pub made : Made m col before
  pub one_left : before.made < m
  pub such : Such before (next_column m col before)
