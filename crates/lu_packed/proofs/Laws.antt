-- Arrays that are copied, one behind another from the front on. No contract cites this file. Assumes nothing.
use mathlib.Core.Path.{◌≡◌, refl, sym, ap, ◌∙◌}
use mathlib.Core.List.{List, [], ◌++◌, append_assoc}
use Prim.Native.Nat.{ℕ, ◌+◌, ◌<◌, ◌≤◌}
use native.Mathlib.Omega.{arith}
use native.Mathlib.Numerals.{add-one}
use lib.ListN.{length, get_or, set, take, drop, length-append}
use lib.Seq.{take_at, take-length, drop-append-add, drop-drop, paste, paste-suc}
use lib.Ieee.{Float}
use Rattle.doubles.specs.Lists.{over}
use Rattle.lu_factor_rules.specs.Factor.{Factor, Matrix}
use Rattle.lu_factor_rules.specs.Transpose.{transpose}
use Rattle.lu_factor_rules.specs.Packed.{order_end, number_end, lower_starts_end, lower_rows_end, upper_starts_end}
use Rattle.lu_factor_rules.specs.Packed.{upper_rows_end, lower_t_starts_end, lower_t_rows_end, upper_t_starts_end, upper_t_rows_end}
use Rattle.lu_factor_rules.specs.Packed.{lower_coeffs_end, upper_coeffs_end, lower_t_coeffs_end, upper_t_coeffs_end, diag_end}
use Rattle.lu_factor_rules.specs.Packed.{numbers_of, coeffs_of, packed_numbers, packed_coeffs}
use Rattle.lu_factor_rules.proofs.Packed.{Filled, Exact, transpose_filled}
use Rattle.lu_packed.specs.Written.{written, Lent, lent, matrix_written}

-- ---- a copy of xs over the cells of d from a on, element by element
module _ {A : Type 0} (a : ℕ) (xs d : List A) (fits : a + length xs ≤ length d) {l : List A} (j : ℕ)
    (e : l ≡ paste d a xs j) where
  pub copied_more : (z : A) → j < length xs → set l (a + j) (get_or xs j z) ≡ paste d a xs (j + 1)
  copied_more z h = ap (λ (t : List A). set t (a + j) (get_or xs j z)) e ∙ paste-suc d a xs j z (omega arith) h ∙ ap
      (paste d a xs) (sym (add-one j))

  pub copied_all : j ≡ length xs → l ≡ written a xs d
  copied_all h = e ∙ ap (paste d a xs) h ∙ ap (λ (t : List A). take a d ++ t ++ drop (a + length xs) d) (take-length xs)

-- ---- l is N with p written over its first a cells
record Front {A : Type 0} (a : ℕ) (p N l : List A) : Type 0 where
  is : l ≡ over p N
  long : length p ≡ a

-- x goes behind p
behind : {A : Type 0} {a : ℕ} {p N l : List A} → Front a p N l → (b : ℕ) (x : List A) → a + length x ≡ b
    → Front b (p ++ x) N (written a x l)
behind {A} {a} {p} {N} {l} f b x e =
    record {
      is = ap (written a x) f.is ∙ ap (λ (k : ℕ). written k x (over p N)) (sym f.long) ∙ here;
      long = length-append p x ∙ omega (arith, e, f.long);
    }
  where
    old : List A
    old = drop (length p) N

    left : drop (length p + length x) (p ++ old) ≡ drop (length (p ++ x)) N
    left = drop-append-add p old (length x) ∙ drop-drop (length x) (length p) N ∙ ap (λ (k : ℕ). drop k N)
        (sym (length-append p x))

    here : written (length p) x (over p N) ≡ over (p ++ x) N
    here = rw (take_at p old (length p) refl, left) refl

-- ---- a matrix at its places
pub matrix_made : (s r v : ℕ) (t : Matrix) (l : Lent) {n k : List ℕ} {d : List Float}
    → n ≡ written s t.starts l.numbers → k ≡ written r t.rows n → d ≡ written v t.vals l.coeffs
    → lent k d ≡ matrix_written s r v t l
matrix_made s r v t l e f g = rw (f, e, g) refl

-- ---- the whole: each array goes behind those before it
module _ (f : Factor) (e : Exact f) (N : List ℕ) (D : List Float) where
  abbrev lt : Matrix
  lt = transpose f.size f.lower

  abbrev ut : Matrix
  ut = transpose f.size f.upper

  lt_filled : Filled lt
  lt_filled = transpose_filled f.lower f.size

  ut_filled : Filled ut
  ut_filled = transpose_filled f.upper f.size

  abbrev numbers_written : List ℕ
  numbers_written =
      let two = written order_end f.number (written 0 f.order N) in
      let lower = written lower_starts_end f.lower.rows (written number_end f.lower.starts two) in
      let upper = written upper_starts_end f.upper.rows (written lower_rows_end f.upper.starts lower) in
      let lower_t = written lower_t_starts_end lt.rows (written upper_rows_end lt.starts upper) in
      written upper_t_starts_end ut.rows (written lower_t_rows_end ut.starts lower_t)

  numbers_are : numbers_written ≡ packed_numbers f N
  unfolding packed_numbers
  numbers_are =
      let p0 : Front 0 [] N N = record { is = refl; long = refl } in
      let p1 = behind p0 order_end f.order (omega (arith, e)) in
      let p2 = behind p1 number_end f.number (omega (arith, e)) in
      let p3 = behind p2 lower_starts_end f.lower.starts (omega (arith, e.lower)) in
      let p4 = behind p3 lower_rows_end f.lower.rows (omega (arith, e.lower)) in
      let p5 = behind p4 upper_starts_end f.upper.starts (omega (arith, e.upper)) in
      let p6 = behind p5 upper_rows_end f.upper.rows (omega (arith, e.upper)) in
      let p7 = behind p6 lower_t_starts_end lt.starts (omega (arith, lt_filled)) in
      let p8 = behind p7 lower_t_rows_end lt.rows (omega (arith, lt_filled)) in
      let p9 = behind p8 upper_t_starts_end ut.starts (omega (arith, ut_filled)) in
      let p10 = behind p9 upper_t_rows_end ut.rows (omega (arith, ut_filled)) in
      let same : f.order ++ f.number ++ f.lower.starts ++ f.lower.rows ++ f.upper.starts ++ f.upper.rows ++
      lt.starts ++ lt.rows ++ ut.starts ++ ut.rows ≡ numbers_of f lt ut = simp append_assoc refl in
      p10.is ∙ ap (λ (x : List ℕ). over x N) same

  abbrev coeffs_written : List Float
  coeffs_written =
      let two = written lower_coeffs_end f.upper.vals (written 0 f.lower.vals D) in
      let four = written lower_t_coeffs_end ut.vals (written upper_coeffs_end lt.vals two) in
      written upper_t_coeffs_end f.diag four

  coeffs_are : coeffs_written ≡ packed_coeffs f D
  unfolding packed_coeffs
  coeffs_are =
      let p0 : Front 0 [] D D = record { is = refl; long = refl } in
      let p1 = behind p0 lower_coeffs_end f.lower.vals (omega (arith, e.lower)) in
      let p2 = behind p1 upper_coeffs_end f.upper.vals (omega (arith, e.upper)) in
      let p3 = behind p2 lower_t_coeffs_end lt.vals (omega (arith, lt_filled)) in
      let p4 = behind p3 upper_t_coeffs_end ut.vals (omega (arith, ut_filled)) in
      let p5 = behind p4 diag_end f.diag (omega (arith, e)) in
      let same : f.lower.vals ++ f.upper.vals ++ lt.vals ++ ut.vals ++ f.diag ≡ coeffs_of f lt ut = simp
      append_assoc refl in
      p5.is ∙ ap (λ (x : List Float). over x D) same

  pub stored : {n k : List ℕ} {a b c o : Lent} {d : List Float} → n ≡ written 0 f.order N
      → k ≡ written order_end f.number n
      → a ≡ matrix_written number_end lower_starts_end 0 f.lower (lent k D)
      → b ≡ matrix_written lower_rows_end upper_starts_end lower_coeffs_end f.upper a
      → c ≡ matrix_written upper_rows_end lower_t_starts_end upper_coeffs_end lt b
      → o ≡ matrix_written lower_t_rows_end upper_t_starts_end lower_t_coeffs_end ut c
      → d ≡ written upper_t_coeffs_end f.diag o.coeffs
      → (o.numbers ≡ packed_numbers f N) × (d ≡ packed_coeffs f D)
  stored h1 h2 h3 h4 h5 h6 h7 =
      let z1 = h2 ∙ ap (written order_end f.number) h1 in
      let z2 = h3 ∙ ap (λ (x : List ℕ). matrix_written number_end lower_starts_end 0 f.lower (lent x D)) z1 in
      let z3 = h4 ∙ ap (matrix_written lower_rows_end upper_starts_end lower_coeffs_end f.upper) z2 in
      let z4 = h5 ∙ ap (matrix_written upper_rows_end lower_t_starts_end upper_coeffs_end lt) z3 in
      let z5 = h6 ∙ ap (matrix_written lower_t_rows_end upper_t_starts_end lower_t_coeffs_end ut) z4 in (
        ap (λ (x : Lent). x.numbers) z5 ∙ numbers_are,
        h7 ∙ ap (λ (x : Lent). written upper_t_coeffs_end f.diag x.coeffs) z5 ∙ coeffs_are,
      )
