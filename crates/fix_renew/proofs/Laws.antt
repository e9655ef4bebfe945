-- A factor whose own parts stand where they belong: with its transposes written behind them the two lists hold it
-- whole. Assumes nothing.
use mathlib.Core.Path.{◌≡◌, refl, sym, ap, ◌∙◌}
use mathlib.Core.Bool.{true, false}
use mathlib.Core.List.{List, ◌++◌, append_assoc}
use Prim.Native.Nat.{ℕ, ◌+◌, ◌-◌, ◌≤◌}
use native.Mathlib.Omega.{arith}
use lib.ListN.{length, take, drop, length-append, length-drop, take-append-drop}
use lib.Seq.{length-take-le, drop_at, drop-drop}
use lib.Ieee.{Float}
use Rattle.doubles.specs.Limits.{max_rows, max_tri_entries}
use Rattle.doubles.specs.Lists.{part}
use Rattle.lu_factor_rules.specs.Factor.{Factor, Matrix}
use Rattle.lu_factor_rules.specs.Transpose.{transpose}
use Rattle.lu_factor_rules.specs.Packed.{all_factor_numbers, all_factor_coeffs, order_end, number_end, lower_starts_end}
use Rattle.lu_factor_rules.specs.Packed.{lower_rows_end, upper_starts_end, upper_rows_end, lower_t_starts_end, lower_t_rows_end}
use Rattle.lu_factor_rules.specs.Packed.{upper_t_starts_end, lower_coeffs_end, upper_coeffs_end, lower_t_coeffs_end}
use Rattle.lu_factor_rules.specs.Packed.{upper_t_coeffs_end, diag_end}
use Rattle.lu_factor_rules.proofs.Packed.{transpose_filled}
use Rattle.lu_transpose.specs.Read.{Read}
use Rattle.lu_transpose.proofs.Columns.{readable}
use Rattle.lu_packed.specs.Written.{written, Lent, lent, matrix_written}
use Rattle.lu_packed.proofs.Laws.{matrix_made, stored}
use Rattle.rules.specs.Parts.{factored_of}
use Rattle.rules.proofs.Lists.{part_long}
use Rattle.fix_rules.specs.Kept.{factor_in, factor_fine, kept_by}
use Rattle.fix_rules.proofs.Kept.{lower_told, upper_told, exact}

module _ {A : Type 0} where
  -- a part written where it stands
  itself : (a b : ℕ) (l : List A) → a ≤ b → b ≤ length l → l ≡ written a (part a b l) l
  itself a b l h g =
      let k : a + length (part a b l) ≡ b = omega (arith, part_long a b l g) in
      let z : a + (b - a) ≡ b = omega arith in
      sym
      (ap (λ (n : ℕ). take a l ++ part a b l ++ drop n l) (k ∙ sym z)
      ∙ append_assoc (take a l) (part a b l) (drop (a + (b - a)) l)
      ∙ ap (λ (t : List A). take a l ++ (part a b l ++ t)) (sym (drop-drop (b - a) a l))
      ∙ ap (λ (t : List A). take a l ++ t) (take-append-drop (b - a) (drop a l))
      ∙ take-append-drop a l)

  -- a list written at a, up to b: the length stays, and so does what stands n cells past it
  module _ (a b : ℕ) (xs l : List A) (h : a + length xs ≡ b) (g : b ≤ length l) where
    front : length (take a l ++ xs) ≡ b
    front = length-append (take a l) xs ∙ omega (arith, h, length-take-le a l (omega (arith, h, g)))

    written_long : length (written a xs l) ≡ length l
    written_long =
        length-append (take a l ++ xs) (drop (a + length xs) l)
        ∙ omega (arith, front, h, g, length-drop (a + length xs) l)

    behind : (n : ℕ) → drop (b + n) (written a xs l) ≡ drop (b + n) l
    behind n =
        let here : drop b (written a xs l) ≡ drop b l
        = drop_at (take a l ++ xs) (drop (a + length xs) l) b front ∙ ap (λ (k : ℕ). drop k l) h in
        sym (drop-drop n b (written a xs l)) ∙ ap (drop n) here ∙ drop-drop n b l

module _ (m : ℕ) (N : List ℕ) (D : List Float) (small : m ≤ max_rows) (ns : all_factor_numbers ≤ length N)
    (ds : all_factor_coeffs ≤ length D) where
  abbrev f : Factor
  f = factor_in m N D

  abbrev lt : Matrix
  lt = transpose m f.lower

  abbrev ut : Matrix
  ut = transpose m f.upper

  -- L and U can be read
  module _ (o : factor_fine m N D ≡ true) where
    pub lower_read : Read m f.lower
    lower_read =
        let l = lower_told m N D small ns ds o in
        readable true m f.lower l.columns l.first l.most l.vals

    pub upper_read : Read m f.upper
    upper_read =
        let u = upper_told m N D small ns ds o in
        readable false m f.upper u.columns u.first u.most u.vals

  -- the diagonal stands behind the transposes
  abbrev one : List Float
  one = written upper_coeffs_end lt.vals D

  abbrev two : List Float
  two = written lower_t_coeffs_end ut.vals one

  lt_ends : upper_coeffs_end + length lt.vals ≡ lower_t_coeffs_end
  lt_ends = omega (arith, (transpose_filled f.lower m).vals_long)

  ut_ends : lower_t_coeffs_end + length ut.vals ≡ upper_t_coeffs_end
  ut_ends = omega (arith, (transpose_filled f.upper m).vals_long)

  one_long : length one ≡ length D
  one_long = written_long upper_coeffs_end lower_t_coeffs_end lt.vals D lt_ends (omega (arith, ds))

  two_long : length two ≡ length D
  two_long =
      written_long lower_t_coeffs_end upper_t_coeffs_end ut.vals one ut_ends (omega (arith, ds, one_long)) ∙ one_long

  tail : drop upper_t_coeffs_end two ≡ drop upper_t_coeffs_end D
  tail =
      behind lower_t_coeffs_end upper_t_coeffs_end ut.vals one ut_ends (omega (arith, ds, one_long)) 0
      ∙ behind upper_coeffs_end lower_t_coeffs_end lt.vals D lt_ends (omega (arith, ds)) max_tri_entries

  diag_still : two ≡ written upper_t_coeffs_end f.diag two
  diag_still =
      itself upper_t_coeffs_end diag_end two (omega arith) (omega (arith, ds, two_long))
      ∙ ap (λ (x : List Float). written upper_t_coeffs_end (take (diag_end - upper_t_coeffs_end) x) two) tail

  pub renewed : {a b : Lent} → a ≡ matrix_written upper_rows_end lower_t_starts_end upper_coeffs_end lt (lent N D)
      → b ≡ matrix_written lower_t_rows_end upper_t_starts_end lower_t_coeffs_end ut a
      → factored_of true 0 b.numbers b.coeffs ≡ kept_by true m N D
  renewed {a} {b} e g =
      let own-lower = matrix_made number_end lower_starts_end 0 f.lower (lent N D)
      (itself number_end lower_starts_end N (omega arith) (omega (arith, ns)))
      (itself lower_starts_end lower_rows_end N (omega arith) (omega (arith, ns)))
      (itself 0 lower_coeffs_end D (omega arith) (omega (arith, ds))) in
      let own-upper = matrix_made lower_rows_end upper_starts_end lower_coeffs_end f.upper (lent N D)
      (itself lower_rows_end upper_starts_end N (omega arith) (omega (arith, ns)))
      (itself upper_starts_end upper_rows_end N (omega arith) (omega (arith, ns)))
      (itself lower_coeffs_end upper_coeffs_end D (omega arith) (omega (arith, ds))) in
      let both = g ∙ ap (matrix_written lower_t_rows_end upper_t_starts_end lower_t_coeffs_end ut) e in
      let z : b.coeffs ≡ two = ap (λ (x : Lent). x.coeffs) both in
      let s = stored f (exact m N D small ns ds) N D
      (itself 0 order_end N (omega arith) (omega (arith, ns)))
      (itself order_end number_end N (omega arith) (omega (arith, ns)))
      own-lower own-upper e g (z ∙ diag_still ∙ ap (written upper_t_coeffs_end f.diag) (sym z)) in
      rw (s.0, s.1) refl
