-- The eta store after a column is pushed. Assumes nothing.
use mathlib.Core.Path.{◌≡◌, refl, ◌∙◌}
use mathlib.Core.List.{List}
use Prim.Native.Nat.{ℕ, zero, suc, ◌+◌, ◌-◌, ◌<◌, ◌≤◌}
use native.Mathlib.Nat.{le_refl}
use native.Mathlib.Numerals.{add-one}
use native.Mathlib.Omega.{arith}
use lib.ListN.{length, set, drop, length-drop}
use lib.Seq.{get_or-set_same, get_or-set_other}
use lib.Ieee.{Float}
use Rattle.doubles.specs.Limits.{eta_columns, eta_entries}
use Rattle.doubles.specs.Loop.{table}
use Rattle.doubles.specs.Lists.{◌#◌, over}
use Rattle.doubles.proofs.Loops.{keeps, Filled, filled_none, filled_more, filled_over}
use Rattle.sparse.specs.Scattered.{Sv, listed}
use Rattle.rules.specs.Plan.{Problem, Etas, m_of}
use Rattle.rules.specs.Basis.{Tail, tail, eta_entry_at, write_turn, write_column, push_eta}
use Rattle.rules.specs.Invariant.{EtaCol, Store, Vector}
use Rattle.rules.proofs.Lists.{below_or_at, spliced, spliced_before, spliced_at}

-- what the column writer leaves of the tail that it is lent
record Writing (c : Sv) (row : ℕ) (pivot : Float) (t : Tail) (k : ℕ) (u : Tail) : Type 0 where
  rows_filled : Filled (listed c) t.rows k u.rows
  coeffs_filled : Filled (eta_entry_at c row pivot) t.coeffs k u.coeffs

tail_path : (u : Tail) {a : List ℕ} {b : List Float} → u.rows ≡ a → u.coeffs ≡ b → u ≡ tail a b
tail_path u e f = rw (← e, ← f)

written : (c : Sv) (row : ℕ) (pivot : Float) (t : Tail) → c.pat.count ≤ length t.rows → c.pat.count ≤ length t.coeffs
    → write_column c row pivot t ≡ tail (over (table c.pat.count (listed c)) t.rows) (over (table c.pat.count (eta_entry_at c row pivot)) t.coeffs)
unfolding write_column
written c row pivot t a b =
    let w = keeps (write_turn c row pivot) t (Writing c row pivot t) c.pat.count
    (λ k u h g. record { rows_filled = filled_more g.rows_filled (omega arith) refl; coeffs_filled = filled_more g.coeffs_filled (omega arith) refl })
    (record { rows_filled = filled_none; coeffs_filled = filled_none }) c.pat.count (le_refl c.pat.count) in
    tail_path _ (filled_over w.rows_filled) (filled_over w.coeffs_filled)

-- the starts rise
pub starts_rise_holds : (P : Problem) (h : Etas) (n : ℕ) → Store P h n → (d k : ℕ) → k + d ≡ n → h.starts # k ≤ h.starts # n
starts_rise_holds P h n s zero k e = let q : k ≡ n = omega arith in rw q (le_refl (h.starts # n))
starts_rise_holds P h n s (suc d) k e = omega (arith, (s.column k (omega arith)).rises, starts_rise_holds P h n s d (k + 1) (omega arith))

-- the store with one column more, read cell by cell
abbrev pub after_push : Sv → ℕ → Float → ℕ → Etas → Etas
after_push c row pivot n h =
    let used = h.starts # n in
    let more = c.pat.count in
    record {
      leaving = set h.leaving n row;
      starts = set h.starts (n + 1) (used + more);
      rows = spliced used more (listed c) h.rows;
      coeffs = spliced used more (eta_entry_at c row pivot) h.coeffs;
    }

module _ (P : Problem) (h : Etas) (n : ℕ) (st : Store P h n) (rows_long : eta_entries ≤ length h.rows) (coeffs_long : eta_entries ≤ length h.coeffs) (c : Sv) (row : ℕ)
    (pivot : Float) (room : h.starts # n + c.pat.count ≤ eta_entries) where
  abbrev used : ℕ
  used = h.starts # n

  abbrev more : ℕ
  more = c.pat.count

  abbrev h' : Etas
  h' = after_push c row pivot n h

  -- "The new column goes into the unused tail of the store"
  pub pushed : push_eta c row pivot n h ≡ h'
  unfolding push_eta
  pushed = rw (written c row pivot (tail (drop used h.rows) (drop used h.coeffs)) (omega (arith, length-drop used h.rows)) (omega (arith, length-drop used h.coeffs)))

  starts_same : (k : ℕ) → (k ≡ n + 1 → ⊥) → h'.starts # k ≡ h.starts # k
  starts_same k q = get_or-set_other h.starts (n + 1) k (used + more) 0 q

  module _ (starts_long : n + 1 < length h.starts) where
    pub starts_last : h'.starts # (n + 1) ≡ used + more
    starts_last = get_or-set_same h.starts (n + 1) (used + more) 0 starts_long

    -- a column that was there
    old_column : (k : ℕ) → k < n → EtaCol P h' k
    old_column k l =
        let e = st.column k l in
        let a = starts_same k (λ q. omega arith) in
        let b = starts_same (k + 1) (λ q. omega arith) in
        let top = starts_rise_holds P h n st (n - (k + 1)) (k + 1) (omega arith) in
        record {
          leaves = rw (get_or-set_other h.leaving n k row 0 (λ q. omega arith)) e.leaves;
          rises = omega arith;
          ends = omega arith;
          rows = λ i g f. rw (spliced_before used more (listed c) h.rows (omega arith) 0 i (omega arith)) (e.rows i (omega arith) (omega arith));
        }

    module _ (leaving_long : n < length h.leaving) (v : Vector (m_of P) c) (hr : row < m_of P) where
      new_column : EtaCol P h' n
      new_column =
          let a = starts_same n (λ q. omega arith) in
          let b = starts_last in
          record {
            leaves = rw (get_or-set_same h.leaving n row 0 leaving_long) hr;
            rises = omega arith;
            ends = omega arith;
            rows = λ i g f.
                rw (spliced_at used more (listed c) h.rows (omega arith) 0 i (omega arith) (omega arith)) (v.places_below.below (i - used) (omega arith));
          }

      pub pushed_store : n < eta_columns → Store P h' (suc n)
      pushed_store l =
          let b = starts_last in
          record {
            begins = starts_same 0 (λ q. omega arith) ∙ st.begins;
            columns_fit = l;
            entries_fit = rw (← add-one n) (omega arith);
            column = λ k g. below_or_at (EtaCol P h') n old_column new_column k (omega arith);
          }
