-- While there is no factor, the entering column is always in the row list. Were it not, the column would have no entry in the leaving row or in the leaving row of an eta. Then it is 0.0 there before
-- the solve, every eta takes a zero off, and the leaving row's coefficient is a zero: under EPS in size. Assumes nothing.
use mathlib.Core.Path.{◌≡◌, sym, ap, ◌∙◌}
use mathlib.Core.Bool.{true, false}
use mathlib.Core.List.{List}
use mathlib.Core.Logic.{⊎_elim}
use Prim.Native.Nat.{ℕ, zero, suc, ◌+◌, ◌<◌, ◌≤◌, ◌-◌}
use native.Mathlib.Nat.{le_refl, eq-or-lt_of_le, le_of_suc-le-suc}
use native.Mathlib.Omega.{arith}
use lib.ListN.{length, get_or}
use lib.Seq.{get_or-set_other}
use lib.Ieee.{Float, nan}
use Rattle.doubles.specs.Num.{finite, f1, ◌⊖◌}
use Rattle.doubles.specs.Limits.{places, eta_entries}
use Rattle.doubles.specs.Loop.{down}
use Rattle.doubles.specs.Lists.{◌!◌, ◌#◌}
use Rattle.doubles.proofs.Loops.{keeps, keeps_down}
use Rattle.doubles.proofs.Tests.{true_by, false_by, not_both}
use Rattle.sparse.specs.Scattered.{Sv, blank, put_at, listed, listed_val, take_turn, take_off}
use Rattle.sparse.proofs.Laws.{marked_listed, no_both}
use Rattle.rules.specs.Plan.{Problem, State, Etas, n_of, m_of, column}
use Rattle.rules.specs.Choose.{choose}
use Rattle.rules.specs.Basis.{eta_rows_of, eta_coeffs_of, eta_turn, solve_etas, eta_turn_transp, solve_etas_transp, scattered, row_solve, row_coeffs_of}
use Rattle.rules.specs.Choices.{Listed}
use Rattle.rules.specs.Conditions.{step_column}
use Rattle.rules.specs.Invariant.{ProblemFits, Store, Sound, Vector, Touched}
use Rattle.rules.specs.declared.Entering.{Entering}
use Rattle.std.specs.Prelude.{Some}
use Rattle.rules.proofs.Lists.{part_long, part_at, set_either}
use Rattle.rules.proofs.Zeros.{Zero, zero_f0, zero_times, zero_less, zero_small}
use Rattle.rules.proofs.Maps.{split}
use Rattle.rules.proofs.Vectors.{vector_blank, vector_put_at, rows_places, keeps_each, e0, column_rows, scattered_vector, row_solve_vector, row_vector}
use Rattle.rules.proofs.Store.{starts_rise_holds}
use Rattle.rules.proofs.Moved.{enters_below, step_vector}
use Rattle.rules.proofs.Touched.{row_solve_first, column_solve_first, none_touched, touched_at, touched_still, touched_by_holds, Meets, by_entry, by_slack, combine_at}

-- y is a zero at every place with the property Z
record Zeros (Z : ℕ → Type 0) (y : Sv) : Type 0 where
  zero_at : (i : ℕ) → Z i → Zero (y.vals ! i)

-- ---- the transposed solve touches the leaving row of every eta, and what was touched
module _ (P : Problem) (f : ProblemFits P) (h : Etas) (count : ℕ) (st : Store P h count) where
  leaves_inside : (k : ℕ) → k < count → h.leaving # k < places
  leaves_inside k l = omega (arith, (st.column k l).leaves, rows_places P f)

  turns_still : (i n : ℕ) → n ≤ count → (y : Sv) → Vector (m_of P) y → Touched y i → Touched (down (eta_turn_transp h) n y) i
  unfolding eta_turn_transp
  turns_still i n l y v u =
      (keeps_down (eta_turn_transp h) (λ t. Vector (m_of P) t × Touched t i) n
      (λ k t j w. (vector_put_at t (h.leaving # k) _ (rows_places P f) w.0 (st.column k (omega arith)).leaves, touched_still t w.0 (h.leaving # k) _ (leaves_inside k (omega arith)) i w.1))
      y (v, u)).1

  turns_leave : (n : ℕ) → n ≤ count → (y : Sv) → Vector (m_of P) y → (k : ℕ) → k < n → Touched (down (eta_turn_transp h) n y) (h.leaving # k)
  unfolding down eta_turn_transp
  turns_leave zero l y v k j = absurd (omega arith)
  turns_leave (suc n) l y v k j =
      let w = vector_put_at y (h.leaving # n) _ (rows_places P f) v (st.column n (omega arith)).leaves in
      ⊎_elim
      (λ (q : k ≡ n). rw q (turns_still (h.leaving # n) n (omega arith) (eta_turn_transp h n y) w (touched_at y v (h.leaving # n) _ (leaves_inside n (omega arith)))))
      (λ (j' : k < n). turns_leave n (omega arith) (eta_turn_transp h n y) w k j')
      (eq-or-lt_of_le (le_of_suc-le-suc j))

  -- ---- where an eta's leaving row is a zero, it takes zeros off
  module _ (rows_long : eta_entries ≤ length h.rows) (coeffs : (i : ℕ) → i < h.starts # count → finite (h.coeffs ! i) ≡ true) (Z : ℕ → Type 0)
      (leaves : (k : ℕ) → k < count → Z (h.leaving # k)) where
    coeff_finite : (k : ℕ) → k < count → (i : ℕ) → i < length (eta_rows_of h k) → finite (eta_coeffs_of h k ! i) ≡ true
    coeff_finite k l i j =
        let c = st.column k l in
        let top = starts_rise_holds P h count st (count - (k + 1)) (k + 1) (omega arith) in
        let long = part_long (h.starts # k) (h.starts # (k + 1)) h.rows (omega arith) in
        rw (part_at (h.starts # k) (h.starts # (k + 1)) h.coeffs i nan (omega arith)) (coeffs (h.starts # k + i) (omega arith))

    zeros_take : (y : Sv) (p : ℕ) (x : Float) → Zero x → Zeros Z y → Zeros Z (put_at y p (y.vals ! p ⊖ x))
    unfolding put_at
    zeros_take y p x zx w =
        record {
          zero_at = λ i z. split i p
              (λ (q : i ≡ p). let at : Z p = rw q at z in set_either Zero y.vals p _ nan i (zero_less (y.vals ! p) x (w.zero_at p at) zx) (w.zero_at i z))
              (λ (q : i ≡ p → ⊥). rw (get_or-set_other y.vals p i _ nan q) (w.zero_at i z));
        }

    zeros_turn : (k : ℕ) → k < count → (y : Sv) → Zeros Z y → Zeros Z (eta_turn h k y)
    unfolding eta_turn take_off
    zeros_turn k l y w =
        let rows = eta_rows_of h k in
        keeps (take_turn (y.vals ! (h.leaving # k)) rows (eta_coeffs_of h k)) y (λ _. Zeros Z) (length rows)
        (λ i t j u. zeros_take t (rows # i) _ (zero_times _ _ (w.zero_at _ (leaves k l)) (coeff_finite k l i j)) u) w (length rows) (le_refl (length rows))

    zeros_solve : (y : Sv) → Zeros Z y → Zeros Z (solve_etas h count y)
    unfolding solve_etas
    zeros_solve y w = keeps (eta_turn h) y (λ _. Zeros Z) count (λ k t l u. zeros_turn k l t u) w count (le_refl count)

-- what a column touches before the solve
scattered_by : (P : Problem) (v i : ℕ) (Q : ℕ → Type 0) → ((k : ℕ) → k < length (column P v) → Q (get_or (column P v) k e0).at) → Touched (scattered P v) i → Q i
scattered_by P v i Q rows =
    keeps_each (λ e t. put_at t e.at e.val) e0 (λ t. Touched t i → Q i) (column P v)
    (λ k l t g u. ⊎_elim (λ (q : i ≡ (get_or (column P v) k e0).at). rw q (rows k l)) g (touched_by_holds t _ _ i u)) blank (λ u. absurd (none_touched i u))

-- ---- the step's own
module _ (P : Problem) (f : ProblemFits P) (s : State) (g : Sound P s) (e : Entering) (enters : choose P s.ws ≡ Some e) (row : ℕ) (x : Listed (step_column P s e) row)
    (first : s.factor.there ≡ false) where
  abbrev h : Etas
  h = s.ws.etas

  abbrev vs : List ℕ
  vs = s.ws.var_states

  abbrev v : ℕ
  v = s.ws.nb_vars # e.col

  abbrev y : Sv
  y = row_solve P s (put_at blank row f1)

  col_inside : e.col < n_of P
  col_inside = enters_below P s.ws e enters

  row_inside : row < m_of P
  row_inside = rw x.row_there ((step_vector P f s g.fits e enters).places_below.below x.place x.listed_place)

  y_vector : Vector (m_of P) y
  y_vector = row_solve_vector P f s g.fits row row_inside

  module _ (out : get_or (row_coeffs_of P s row).pat.marks e.col false ≡ false) where
    -- a row with an entry in the entering column puts that column into the row list
    meets : (i : ℕ) → Touched (scattered P v) i → Meets P f vs i e.col
    meets i u =
        let at = g.fits.maps.place e.col col_inside in
        scattered_by P v i (λ r. Meets P f vs r e.col)
        (column_rows P v (λ r. Meets P f vs r e.col)
        (λ r _ k l q. by_entry k l (sym at.back ∙ ap (λ (j : ℕ). vs # j) (sym q)) col_inside)
        (λ l. let q : n_of P + (v - n_of P) ≡ v = omega arith in by_slack (sym at.back ∙ ap (λ (j : ℕ). vs # j) (sym q)) col_inside)) u

    apart : (i : ℕ) → Touched y i → Touched (scattered P v) i → ⊥
    unfolding row_coeffs_of
    apart i u w =
        let k = marked_listed y y_vector.good i u in
        no_both _ (combine_at P f vs e.col y k.0 k.1 (rw k.2 (meets i w))) out

    -- so the column is 0.0 wherever the row solve looks
    start_zeros : Zeros (Touched y) (scattered P v)
    start_zeros =
        let c = scattered_vector P f v (g.fits.maps.place e.col col_inside).var in
        record {
          zero_at = λ i u.
              let k = marked_listed y y_vector.good i u in
              let l : i < places = omega (arith, k.2, y_vector.places_below.below k.0 k.1, rows_places P f) in
              rw (c.good.zeros i l (false_by (λ w. apart i u w))) zero_f0;
        }

    -- with no factor, the row solve is that of the etas
    solved_by_holds : (i : ℕ) → Touched (solve_etas_transp h s.eta_count (put_at blank row f1)) i → Touched y i
    solved_by_holds i u = rw (row_solve_first P s first (put_at blank row f1)) u

    no_coefficient : Zero ((step_column P s e).vals ! row)
    unfolding solve_etas_transp
    no_coefficient =
        let st = g.fits.store in
        let start = vector_put_at blank row f1 (rows_places P f) vector_blank row_inside in
        let count = s.eta_count in
        rw (column_solve_first P s first v)
        ((zeros_solve P f h count st g.fits.lengths.rows_long g.numbers.eta (Touched y)
        (λ k l. solved_by_holds _ (turns_leave P f h count st count (le_refl count) (put_at blank row f1) start k l)) (scattered P v) start_zeros
        ).zero_at row
        (solved_by_holds row (turns_still P f h count st row count (le_refl count) (put_at blank row f1) start (touched_at blank (vector_blank {m = m_of P}) row f1 (omega (arith, row_inside, rows_places P f))))))

    never_out : ⊥
    never_out = not_both (zero_small (listed_val (step_column P s e) x.place) (rw x.row_there at no_coefficient)) x.not_small

  -- the entering column is in the row list
  pub entering_touched : Touched (row_coeffs_of P s row) e.col
  entering_touched = true_by never_out

  pub entering_in_row : (k : ℕ) × (k < (row_coeffs_of P s row).pat.count) × (listed (row_coeffs_of P s row) k ≡ e.col)
  entering_in_row = marked_listed (row_coeffs_of P s row) (row_vector P f s row).good e.col entering_touched
