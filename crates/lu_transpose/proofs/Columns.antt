-- The transpose of a triangle is a triangle of the other kind. Assumes nothing.
use mathlib.Core.Path.{◌≡◌, refl}
use mathlib.Core.Bool.{Bool, true, false, not}
use Prim.Native.Nat.{ℕ, zero, suc, ◌+◌, ◌-◌, ◌<◌, ◌≤◌}
use native.Mathlib.Nat.{le_refl}
use native.Mathlib.Omega.{arith}
use native.Mathlib.Numerals.{add-one}
use lib.Dec.{ltb}
use lib.ListN.{length}
use borrow.Author.Tests.{ltb-true, ltb-false}
use Rattle.doubles.specs.Limits.{max_tri_entries}
use Rattle.doubles.specs.Lists.{◌#◌}
use Rattle.lu_walk.specs.Walk.{shape, left_by, Columns}
use Rattle.lu_factor_rules.specs.Factor.{Matrix}
use Rattle.lu_factor_rules.specs.Transpose.{transpose}
use Rattle.lu_factor_rules.proofs.Packed.{transpose_filled}
use Rattle.lu_transpose.specs.Means.{Transposed}
use Rattle.lu_transpose.specs.Read.{Read}
use Rattle.lu_transpose.proofs.Counts.{before_grows, before_most}
use Rattle.lu_transpose.proofs.Placed.{column_of_holds, transposed}

-- where j lies below c in one kind, c lies below j in the other
turned_left : (b : Bool) (m j c : ℕ) → j < m → c < m → left_by b m j < left_by b m c
    → left_by (not b) m c < left_by (not b) m j
turned_left true m j c h g l = omega arith
turned_left false m j c h g l = omega arith

module _ (b : Bool) (m : ℕ) (t : Matrix) (k : Columns (shape b m t.starts t.rows)) (first : t.starts # 0 ≡ 0)
    (fits : t.starts # m ≤ max_tri_entries)
    (vals : (j : ℕ) → j < m → t.starts # (j + 1) ≤ length t.vals) where
  -- a triangle can be read
  row_within : (j i : ℕ) → j ≤ m → i < t.starts # j → t.rows # i < m
  row_within zero i h g = absurd (omega (arith, first))
  row_within (suc j) i h g = by (ltb i (t.starts # j)) refl (row_within j i (omega arith))
    where
      by : (c : Bool) → ltb i (t.starts # j) ≡ c → (i < t.starts # j → t.rows # i < m) → t.rows # i < m
      by true e f = f (ltb-true i (t.starts # j) e)
      by false e f =
          let a = ltb-false i (t.starts # j) e in
          let z : t.starts # j + (i - t.starts # j) ≡ i = omega arith in
          rw z at (k.inside j (i - t.starts # j) (omega arith) (omega (arith, rw (← add-one j) at g)))

  ends_in : (j : ℕ) → j ≤ m → t.starts # j ≤ length t.rows
  ends_in zero h = omega (arith, first)
  ends_in (suc j) h = rw (← add-one j) (k.ends j (omega arith))

  pub readable : Read m t
  readable =
      record {
        small = k.small;
        first = first;
        starts_long = k.long;
        column = λ c h. record {
          long = omega (arith, k.long);
          rises = k.rise c h;
          rows_end = k.ends c h;
          vals_end =
              vals c h;
        };
        inside = λ i h. row_within m i (le_refl m) h;
        fits = fits;
        rows_long = ends_in m (le_refl m);
      }

  abbrev u : Matrix
  u = transpose m t

  means : Transposed m t u
  means = transposed readable

  used : (j : ℕ) → j ≤ m → u.starts # j ≤ max_tri_entries
  used j h = omega (arith, means.starts_at j h, before_most t.rows j (t.starts # m), fits)

  -- what column j of the transpose lists
  record Lists (j c : ℕ) : Type 0 where
    inside : c < m
    falls : left_by (not b) m c < left_by (not b) m j

  lists : (j i : ℕ) → j < m → i < u.starts # (j + 1) - u.starts # j → Lists j (u.rows # (u.starts # j + i))
  lists j i h g =
      let w = means.only j (u.starts # j + i) h (omega arith) (omega (arith, g)) in
      let c = column_of_holds readable m w.0 (le_refl m) w.1 in
      let s = means.holds c.0 w.0 c.1 c.2 c.3 in
      let row : u.rows # (u.starts # j + i) ≡ c.0 = rw w.3 at s.row in
      let z : t.starts # c.0 + (w.0 - t.starts # c.0) ≡ w.0 = omega (arith, c.2) in
      let in_c : w.0 - t.starts # c.0 < t.starts # (c.0 + 1) - t.starts # c.0 = omega (arith, c.2, c.3) in
      let f = rw (z, w.2) at (k.falls c.0 (w.0 - t.starts # c.0) c.1 in_c) in
      rw row (record { inside = c.1; falls = turned_left b m j c.0 h c.1 f })

  pub transpose_columns : Columns (shape (not b) m u.starts u.rows)
  transpose_columns =
      record {
        small = k.small;
        long = omega (arith, (transpose_filled t m).starts_long, k.small);
        rise = λ j h. omega (
          arith,
          means.starts_at j (omega arith),
          means.starts_at (j + 1) (omega arith),
          before_grows t.rows j (j + 1) (t.starts # m) (omega arith),
        );
        ends = λ j h. omega (arith, used (j + 1) (omega arith), (transpose_filled t m).rows_long);
        inside = λ j i h g. (lists j i h g).inside;
        falls = λ j i h g. (lists j i h g).falls;
      }

  pub transpose_vals : (j : ℕ) → j < m → u.starts # (j + 1) ≤ length u.vals
  transpose_vals j h = omega (arith, used (j + 1) (omega arith), (transpose_filled t m).vals_long)
