-- What is read from packed lists is the factor that was written, and the cells behind it stay. `factor_exact` says of
-- every factor that its arrays fill their parts. Assumes nothing.
use mathlib.Core.Path.{◌≡◌, refl, sym, ap, ◌∙◌}
use mathlib.Core.List.{List, ◌++◌, append_assoc}
use Prim.Native.Nat.{ℕ, ◌+◌, ◌-◌, ◌<◌, ◌≤◌}
use native.Mathlib.Nat.{le_refl}
use native.Mathlib.Omega.{arith}
use lib.ListN.{length, take, drop, length-set, length-append, length-drop, length-replicate}
use lib.Seq.{take_at, drop_at, drop-drop}
use lib.Ieee.{Float}
use Rattle.doubles.specs.Num.{f0}
use Rattle.doubles.specs.Limits.{max_rows, max_tri_entries}
use Rattle.doubles.specs.Lists.{part, over, ◌#◌}
use Rattle.doubles.proofs.Loops.{keeps}
use Rattle.sparse.specs.Scattered.{Sv}
use Rattle.lu_factor_rules.specs.Factor.{Matrix, matrix, Factor, factor_of, Partial, Outcome, factored}
use Rattle.lu_factor_rules.specs.Factor.{non_finite, singular, factor_part, ended, factorize}
use Rattle.lu_factor_rules.specs.Transpose.{count_turn, counted, sum_turn, summed, placed_one, place_turn}
use Rattle.lu_factor_rules.specs.Transpose.{placed_column, placed, empty, ends_of, transpose}
use Rattle.lu_factor_rules.specs.Packed.{order_end, number_end, lower_starts_end, lower_rows_end, upper_starts_end}
use Rattle.lu_factor_rules.specs.Packed.{upper_rows_end, lower_t_starts_end, lower_t_rows_end, upper_t_starts_end}
use Rattle.lu_factor_rules.specs.Packed.{upper_t_rows_end, lower_coeffs_end, upper_coeffs_end, lower_t_coeffs_end}
use Rattle.lu_factor_rules.specs.Packed.{upper_t_coeffs_end, diag_end, all_factor_numbers, all_factor_coeffs, order_in, number_in}
use Rattle.lu_factor_rules.specs.Packed.{lower_in, upper_in, lower_t_in, upper_t_in, diag_in, numbers_of, coeffs_of}
use Rattle.lu_factor_rules.specs.Packed.{packed_numbers, packed_coeffs}
use Rattle.lu_factor_rules.specs.Ready.{Vector}
use Rattle.lu_factor_rules.proofs.Keeps.{part_sound}
use Rattle.lu_factor_rules.proofs.Shaped.{renumber_long}

-- ---- the arrays have exactly the lengths of their parts
pub record Filled (t : Matrix) : Type 0 where
  pub starts_long : length t.starts ≡ max_rows + 1
  pub rows_long : length t.rows ≡ max_tri_entries
  pub vals_long : length t.vals ≡ max_tri_entries

pub record Exact (f : Factor) : Type 0 where
  pub order_long : length f.order ≡ max_rows
  pub number_long : length f.number ≡ max_rows
  pub lower : Filled f.lower
  pub upper : Filled f.upper
  pub diag_long : length f.diag ≡ max_rows

-- so have those of a transpose
module _ (t : Matrix) where
  counted_long : (n : ℕ) (c : List ℕ) → length (counted t.rows n c) ≡ length c
  unfolding counted
  counted_long n c = keeps (count_turn t.rows) c (λ _ x. length x ≡ length c) n
      (λ i x h e. length-set x (t.rows # i) _ ∙ e) refl n (le_refl n)

  summed_long : (m : ℕ) (c : List ℕ) → length (summed m c) ≡ length c
  unfolding summed
  summed_long m c = keeps sum_turn c (λ _ x. length x ≡ length c) m (λ i x h e. length-set x (i + 1) _ ∙ e) refl m
      (le_refl m)

  filled_one : (c r : ℕ) (x : Float) (u : Matrix) → Filled u → Filled (placed_one c r x u)
  unfolding placed_one
  filled_one c r x u w =
      record {
        starts_long = length-set u.starts r _ ∙ w.starts_long;
        rows_long = length-set u.rows _ c ∙ w.rows_long;
        vals_long = length-set u.vals _ x ∙ w.vals_long;
      }

  filled_column : (c : ℕ) (u : Matrix) → Filled u → Filled (placed_column t c u)
  unfolding placed_column
  filled_column c u w =
      let n = t.starts # (c + 1) - t.starts # c in
      keeps (place_turn t c) u (λ _. Filled) n (λ k x h e. filled_one c _ _ x e) w n (le_refl n)

  pub transpose_filled : (m : ℕ) → Filled (transpose m t)
  unfolding transpose placed
  transpose_filled m = keeps (placed_column t) (matrix (ends_of m t) empty.rows empty.vals) (λ _. Filled) m
      (λ c u h w. filled_column c u w)
      (record {
        starts_long = summed_long m _ ∙ counted_long (t.starts # m) empty.starts ∙ length-replicate {A = ℕ}
            (max_rows + 1) 0;
        rows_long = length-replicate {A = ℕ} max_tri_entries 0;
        vals_long = length-replicate max_tri_entries f0;
      }) m (le_refl m)

-- and those of a factor, whose size is the basis's
pub factor_exact : {m : ℕ} (col : ℕ → Sv) → ((i : ℕ) → i < m → Vector m (col i)) → m ≤ max_rows → {f : Factor}
    → factored f ≡ factorize m col → Exact f × (f.size ≡ m)
unfolding factorize
factor_exact {m} col cols h {f} e = by (factor_part m col) refl e
  where
    by : (o : Outcome Partial) → o ≡ factor_part m col → factored f ≡ ended m o → Exact f × (f.size ≡ m)
    by (factored g) q w =
        let s = part_sound col cols {g = g} h q in
        let z : f ≡ factor_of m g = cc in
        rw z (
          record {
            order_long = s.long.order_long;
            number_long = s.long.number_long;
            lower = record {
              starts_long = s.long.lower_starts_long;
              rows_long = renumber_long g.number g.lower.count g.lower.rows ∙ s.lrows_long;
              vals_long = s.lvals_long;
            };
            upper = record {
              starts_long = s.long.upper_starts_long;
              rows_long = s.urows_long;
              vals_long = s.uvals_long;
            };
            diag_long = s.long.diag_long;
          },
          refl,
        )
    by non_finite q w = absurd (let z : ◌≡◌ {A = ℕ} 0 1 = cc in omega arith)
    by singular q w = absurd (let z : ◌≡◌ {A = ℕ} 0 1 = cc in omega arith)

-- ---- one part of a list, and what stands behind it: x, which is followed by y, before the old cells r
module _ {A : Type 0} where
  record Cut (a b : ℕ) (l x r : List A) : Type 0 where
    here : part a b l ≡ x
    behind : drop b l ≡ r

  last : (a b : ℕ) (l x r : List A) → drop a l ≡ x ++ r → a + length x ≡ b → Cut a b l x r
  last a b l x r e n =
      let h : length x ≡ b - a = omega (arith, n) in
      record {
        here = ap (take (b - a)) e ∙ take_at x r (b - a) h;
        behind = ap (λ (k : ℕ). drop k l) (sym n) ∙ sym (drop-drop (length x) a l) ∙ ap (drop (length x)) e ∙
            drop_at x r (length x) refl;
      }

  next : (a b : ℕ) (l x y r : List A) → drop a l ≡ (x ++ y) ++ r → a + length x ≡ b → Cut a b l x (y ++ r)
  next a b l x y r e n = last a b l x (y ++ r) (e ∙ append_assoc x y r) n

  length_over : (n : ℕ) (xs l : List A) → length xs ≡ n → n ≤ length l → length (over xs l) ≡ length l
  length_over n xs l e h = length-append xs (drop (length xs) l) ∙ omega (arith, e, length-drop (length xs) l)

-- ---- the whole
module _ (f : Factor) (e : Exact f) where
  abbrev lt : Matrix
  lt = transpose f.size f.lower

  abbrev ut : Matrix
  ut = transpose f.size f.upper

  lt_filled : Filled lt
  lt_filled = transpose_filled f.lower f.size

  ut_filled : Filled ut
  ut_filled = transpose_filled f.upper f.size

  record NumbersRead (N old : List ℕ) : Type 0 where
    order : order_in N ≡ f.order
    number : number_in N ≡ f.number
    lower_starts_holds : part number_end lower_starts_end N ≡ f.lower.starts
    lower_rows : part lower_starts_end lower_rows_end N ≡ f.lower.rows
    upper_starts_holds : part lower_rows_end upper_starts_end N ≡ f.upper.starts
    upper_rows : part upper_starts_end upper_rows_end N ≡ f.upper.rows
    lower_t_starts : part upper_rows_end lower_t_starts_end N ≡ lt.starts
    lower_t_rows : part lower_t_starts_end lower_t_rows_end N ≡ lt.rows
    upper_t_starts : part lower_t_rows_end upper_t_starts_end N ≡ ut.starts
    upper_t_rows : part upper_t_starts_end upper_t_rows_end N ≡ ut.rows
    behind : drop all_factor_numbers N ≡ old

  numbers_read : (N : List ℕ) → NumbersRead (packed_numbers f N) (drop (length (numbers_of f lt ut)) N)
  unfolding packed_numbers
  numbers_read N =
      let P = over (numbers_of f lt ut) N in
      let old = drop (length (numbers_of f lt ut)) N in
      let c1 = next 0 order_end P f.order _ old refl (omega (arith, e)) in
      let c2 = next order_end number_end P f.number _ old c1.behind (omega (arith, e)) in
      let c3 = next number_end lower_starts_end P f.lower.starts _ old c2.behind (omega (arith, e.lower)) in
      let c4 = next lower_starts_end lower_rows_end P f.lower.rows _ old c3.behind (omega (arith, e.lower)) in
      let c5 = next lower_rows_end upper_starts_end P f.upper.starts _ old c4.behind (omega (arith, e.upper)) in
      let c6 = next upper_starts_end upper_rows_end P f.upper.rows _ old c5.behind (omega (arith, e.upper)) in
      let c7 = next upper_rows_end lower_t_starts_end P lt.starts _ old c6.behind (omega (arith, lt_filled)) in
      let c8 = next lower_t_starts_end lower_t_rows_end P lt.rows _ old c7.behind (omega (arith, lt_filled)) in
      let c9 = next lower_t_rows_end upper_t_starts_end P ut.starts _ old c8.behind (omega (arith, ut_filled)) in
      let c10 = last upper_t_starts_end upper_t_rows_end P ut.rows old c9.behind (omega (arith, ut_filled)) in
      record {
        order = c1.here;
        number = c2.here;
        lower_starts_holds = c3.here;
        lower_rows = c4.here;
        upper_starts_holds = c5.here;
        upper_rows = c6.here;
        lower_t_starts = c7.here;
        lower_t_rows = c8.here;
        upper_t_starts = c9.here;
        upper_t_rows = c10.here;
        behind = c10.behind;
      }

  record CoeffsRead (D old : List Float) : Type 0 where
    lower : part 0 lower_coeffs_end D ≡ f.lower.vals
    upper : part lower_coeffs_end upper_coeffs_end D ≡ f.upper.vals
    lower_t : part upper_coeffs_end lower_t_coeffs_end D ≡ lt.vals
    upper_t : part lower_t_coeffs_end upper_t_coeffs_end D ≡ ut.vals
    diag : diag_in D ≡ f.diag
    behind : drop all_factor_coeffs D ≡ old

  coeffs_read : (D : List Float) → CoeffsRead (packed_coeffs f D) (drop (length (coeffs_of f lt ut)) D)
  unfolding packed_coeffs
  coeffs_read D =
      let P = over (coeffs_of f lt ut) D in
      let old = drop (length (coeffs_of f lt ut)) D in
      let c1 = next 0 lower_coeffs_end P f.lower.vals _ old refl (omega (arith, e.lower)) in
      let c2 = next lower_coeffs_end upper_coeffs_end P f.upper.vals _ old c1.behind (omega (arith, e.upper)) in
      let c3 = next upper_coeffs_end lower_t_coeffs_end P lt.vals _ old c2.behind (omega (arith, lt_filled)) in
      let c4 = next lower_t_coeffs_end upper_t_coeffs_end P ut.vals _ old c3.behind (omega (arith, ut_filled)) in
      let c5 = last upper_t_coeffs_end diag_end P f.diag old c4.behind (omega (arith, e)) in
      record {
        lower = c1.here;
        upper = c2.here;
        lower_t = c3.here;
        upper_t = c4.here;
        diag = c5.here;
        behind = c5.behind;
      }

  length_numbers : length (numbers_of f lt ut) ≡ all_factor_numbers
  length_numbers = simp length-append (omega (arith, e, e.lower, e.upper, lt_filled, ut_filled))

  length_coeffs : length (coeffs_of f lt ut) ≡ all_factor_coeffs
  length_coeffs = simp length-append (omega (arith, e, e.lower, e.upper, lt_filled, ut_filled))

  -- the numbers N with the factor written over their front; their length and the cells behind stay
  module _ (N : List ℕ) where
    pub order_back : order_in (packed_numbers f N) ≡ f.order
    order_back = (numbers_read N).order

    pub number_back : number_in (packed_numbers f N) ≡ f.number
    number_back = (numbers_read N).number

    pub numbers_kept : all_factor_numbers ≤ length N → length (packed_numbers f N) ≡ length N
    unfolding packed_numbers
    numbers_kept h = length_over all_factor_numbers (numbers_of f lt ut) N length_numbers h

    pub numbers_behind : drop all_factor_numbers (packed_numbers f N) ≡ drop all_factor_numbers N
    numbers_behind = (numbers_read N).behind ∙ ap (λ (k : ℕ). drop k N) length_numbers

  -- so do those of the coefficients D
  module _ (D : List Float) where
    pub diag_back : diag_in (packed_coeffs f D) ≡ f.diag
    diag_back = (coeffs_read D).diag

    pub coeffs_kept : all_factor_coeffs ≤ length D → length (packed_coeffs f D) ≡ length D
    unfolding packed_coeffs
    coeffs_kept h = length_over all_factor_coeffs (coeffs_of f lt ut) D length_coeffs h

    pub coeffs_behind : drop all_factor_coeffs (packed_coeffs f D) ≡ drop all_factor_coeffs D
    coeffs_behind = (coeffs_read D).behind ∙ ap (λ (k : ℕ). drop k D) length_coeffs

  module _ (N : List ℕ) (D : List Float) where
    pub lower_back : lower_in (packed_numbers f N) (packed_coeffs f D) ≡ f.lower
    lower_back = rw ((numbers_read N).lower_starts_holds, (numbers_read N).lower_rows, (coeffs_read D).lower) refl

    pub upper_back : upper_in (packed_numbers f N) (packed_coeffs f D) ≡ f.upper
    upper_back = rw ((numbers_read N).upper_starts_holds, (numbers_read N).upper_rows, (coeffs_read D).upper) refl

    pub lower_t_back : lower_t_in (packed_numbers f N) (packed_coeffs f D) ≡ transpose f.size f.lower
    lower_t_back = rw ((numbers_read N).lower_t_starts, (numbers_read N).lower_t_rows, (coeffs_read D).lower_t) refl

    pub upper_t_back : upper_t_in (packed_numbers f N) (packed_coeffs f D) ≡ transpose f.size f.upper
    upper_t_back = rw ((numbers_read N).upper_t_starts, (numbers_read N).upper_t_rows, (coeffs_read D).upper_t) refl
