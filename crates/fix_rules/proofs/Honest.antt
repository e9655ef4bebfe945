-- What 41's test asks of a state beyond that it is sound: its flags are known ones, and its factor passes. The start
-- has it, and so has what passes the test; every step keeps it, and so do the own parts of both calls. Assumes nothing.
use mathlib.Core.Path.{◌≡◌, refl, sym}
use mathlib.Core.Bool.{Bool, true, false, not, ◌&&◌, ◌||◌}
use mathlib.Core.List.{List}
use mathlib.Core.Logic.{⊎_elim}
use Prim.Native.Nat.{ℕ, ◌+◌, ◌<◌, ◌≤◌}
use native.Mathlib.Omega.{arith}
use lib.Dec.{ltb, eqb}
use lib.ListN.{set}
use lib.Ieee.{Float, le, lt}
use borrow.Author.Tests.{lt-ltb, le-leb, eq-eqb}
use Rattle.doubles.specs.Num.{eps, finite, size}
use Rattle.doubles.specs.Limits.{max_rows, max_tri_entries}
use Rattle.doubles.specs.Lists.{◌!◌, ◌#◌}
use Rattle.doubles.proofs.Bools.{never, itself, ◌both◌}
use Rattle.doubles.proofs.Loops.{all_at, all_by}
use Rattle.doubles.proofs.Order.{le_not_lt}
use Rattle.lu_walk.specs.Walk.{Shape, shape, left_by, many, kid, Columns}
use Rattle.lu_gate.specs.Gate.{ok_starts, rises_at, beyond, ok_row, ok_column, ok_rows}
use Rattle.lu_factor_rules.specs.Factor.{Factor, Matrix, factored, factorize}
use Rattle.lu_factor_rules.specs.Packed.{packed_numbers, packed_coeffs}
use Rattle.lu_factor_rules.proofs.Keeps.{fits_whole}
use Rattle.lu_factor_rules.proofs.Shaped.{IsFactor, factor_shaped}
use Rattle.lu_factor_rules.proofs.Numbers.{factor_numbers}
use Rattle.lu_factor_rules.proofs.Packed.{Exact, order_back, number_back, lower_back, upper_back, diag_back}
use Rattle.rules.specs.Plan.{Plan, Problem, Memory, State, problem_of, n_of, m_of, flags_cell}
use Rattle.rules.specs.Refusals.{passes1, passes2, first_bad_row}
use Rattle.rules.specs.Start.{start_vals, start_flags, start_workspace, start_state, passes6}
use Rattle.rules.specs.Choose.{choose}
use Rattle.rules.specs.Basis.{basis_after, factored_anew}
use Rattle.rules.specs.Pivot.{flags_at, flipped, exchanged, refactored}
use Rattle.rules.specs.Step.{step, dual_step_by, moved}
use Rattle.rules.specs.Invariant.{ProblemFits, Fits, Sound}
use Rattle.rules.specs.declared.NonBasicVarState.{NonBasicVarState}
use Rattle.rules.specs.declared.Entering.{Entering}
use Rattle.std.specs.Prelude.{Some}
use Rattle.rules.specs.declared.LeavingVar.{LeavingVar}
use Rattle.rules.specs.declared.PivotInfo.{PivotInfo}
use Rattle.rules.proofs.Lists.{set_either, over_at}
use Rattle.rules.proofs.Lengths.{memory_fits}
use Rattle.rules.proofs.Start.{start_sound, passed_fits}
use Rattle.rules.proofs.Moved.{Flips, Pushes, Refactors, Exchanged, moves, dual_moves}
use Rattle.rules.proofs.Refactored.{basis_vectors, exact as basis-exact}
use Rattle.rules.proofs.Keeps.{step_sound, made_fits, made_numbers}
use Rattle.state_maps.specs.Maps.{leads_back}
use Rattle.fix_rules.specs.Kept.{has_factor, factor_in, kept_by, kept_factor, kept_state, known_flags, flags_fine}
use Rattle.fix_rules.specs.Kept.{order_fine, triangle_fine, diagonal_fine, factor_fine, passes41}
use Rattle.fix_rules.specs.Fix.{marked, unmarked, shift_finite, shifted}
use Rattle.fix_rules.proofs.Kept.{exact, parts, kept_sound}
use Rattle.fix_rules.proofs.Marks.{marked_sound, unmarked_sound}
use Rattle.fix_rules.proofs.Shifted.{shifted_sound}

pub record Honest (P : Problem) (s : State) : Type 0 where
  pub sound : Sound P s
  pub flags : (c : ℕ) → c < n_of P → known_flags (s.ws.flags # c) ≡ true
  pub factor : s.factor.there ≡ true → factor_fine (m_of P) s.factor.numbers s.factor.coeffs ≡ true

-- two tests that pass
pub and : {a b : Bool} → a ≡ true → b ≡ true → a && b ≡ true
and t u = (◌both◌ itself itself).1 (t, u)

-- ---- flags: those that a bound gives have no mark
bounds_known : (a b : Bool) → known_flags (flags_cell (record { at_min = a; at_max = b; «fixed» = false })) ≡ true
unfolding flags_cell
bounds_known true true = refl
bounds_known true false = refl
bounds_known false true = refl
bounds_known false false = refl

set_known : (l : List ℕ) (i x c : ℕ) → known_flags x ≡ true → known_flags (l # c) ≡ true
    → known_flags (set l i x # c) ≡ true
set_known l i x c a b = set_either (λ y. known_flags y ≡ true) l i x 0 c a b

bound_known : (P : Problem) (v : ℕ) (x : Float) (l : List ℕ) (i c : ℕ) → known_flags (l # c) ≡ true
    → known_flags (set l i (flags_at P v x) # c) ≡ true
unfolding flags_at
bound_known P v x l i c h = set_known l i _ c (bounds_known _ _) h

-- ---- starts that begin at 0 and rise pass
pub starts_fine : (n : ℕ) (l : List ℕ) → l # 0 ≡ 0 → ((k : ℕ) → k < n → l # k ≤ l # (k + 1))
    → ok_starts n (l # n) l ≡ true
unfolding ok_starts
starts_fine n l first rise =
    and (and (eq-eqb (l # 0) 0 first) (eq-eqb (l # n) (l # n) refl))
    (all_by (rises_at l) n (λ k h. le-leb (l # k) (l # (k + 1)) (rise k h)))

-- ---- the factor that was made of a basis passes
module _ (lower : Bool) (m : ℕ) (t : Matrix) (first : t.starts # 0 ≡ 0) (most : t.starts # m ≤ max_tri_entries)
    (columns : Columns (shape lower m t.starts t.rows)) where
  abbrev tri : Shape
  tri = shape lower m t.starts t.rows

  far : (b : Bool) (c r : ℕ) → r < m → left_by b m r < left_by b m c → beyond b c r ≡ true
  far true c r h g = lt-ltb c r (omega arith)
  far false c r h g = lt-ltb r c (omega arith)

  triangle_fine_holds : triangle_fine lower m t ≡ true
  unfolding triangle_fine ok_starts ok_rows ok_column
  triangle_fine_holds =
      and (starts_fine m t.starts first columns.rise)
      (and (le-leb _ _ most)
      (all_by (ok_column tri) m (λ c h.
      all_by (ok_row tri c) (many tri c) (λ i g.
      let inside = columns.inside c i h g in
      and (lt-ltb _ _ inside) (far lower c (kid tri c i) inside (columns.falls c i h g))))))

-- the test of a factor, apart from the arrays that it stands in
abbrev pub fine_of : ℕ → Factor → Bool
fine_of m f =
    order_fine m f.order f.number
    && (triangle_fine true m f.lower
    && (triangle_fine false m f.upper
    && diagonal_fine m f.diag))

module _ (m : ℕ) (small : m ≤ max_rows) (f : Factor) (i : IsFactor m f)
    (least : (j : ℕ) → j < m → le eps (size (f.diag ! j)) ≡ true) where
  order_fine_holds : order_fine m f.order f.number ≡ true
  unfolding order_fine leads_back
  order_fine_holds =
      and
      (all_by (λ k. ltb (f.order # k) m && eqb (f.number # (f.order # k)) k) m
      (λ k h. and (lt-ltb _ _ (i.order_in k h)) (eq-eqb _ _ (i.numbered k h))))
      (all_by (λ r. ltb (f.number # r) m) m (λ r h. lt-ltb _ _ (i.number_in r h)))

  diagonal_fine_holds : diagonal_fine m f.diag ≡ true
  unfolding diagonal_fine
  diagonal_fine_holds = all_by (λ j. not (lt (size (f.diag ! j)) eps)) m (λ j h. rw (le_not_lt _ _ (least j h)) refl)

  pub factor_fine_holds : fine_of m f ≡ true
  factor_fine_holds =
      let whole = fits_whole m small in
      and order_fine_holds
      (and (triangle_fine_holds true m f.lower i.lower_first_holds (omega (arith, whole, i.lower_most)) i.lower)
      (and (triangle_fine_holds false m f.upper i.upper_first (omega (arith, whole, i.upper_most)) i.upper)
      diagonal_fine_holds))

-- a factor that passes still does in the arrays that it is written to
pub packed_fine : (m : ℕ) (f : Factor) → Exact f → (N : List ℕ) (D : List Float) → fine_of m f ≡ true
    → factor_fine m (packed_numbers f N) (packed_coeffs f D) ≡ true
unfolding factor_fine
packed_fine m f e N D h =
    rw (order_back f e N, number_back f e N, lower_back f e N D, upper_back f e N D, diag_back f e D) h

module _ (P : Problem) (p : ProblemFits P) (s : State) (f : Fits P s) (col row : ℕ)
    (hc : col < n_of P) (hr : row < m_of P) (g : Factor)
    (made : factorize (m_of P) (basis_after P s col row) ≡ factored g) where
  refactored_fine : factor_fine (m_of P) (factored_anew g s.factor).numbers (factored_anew g s.factor).coeffs ≡ true
  refactored_fine =
      let small : m_of P ≤ max_rows = omega (arith, p.few, p.plan) in
      let basis = basis_after P s col row in
      let vectors = basis_vectors P p s f col row hc hr in
      packed_fine (m_of P) g (basis-exact P p s f col row hc hr g made).0 s.factor.numbers s.factor.coeffs
      (factor_fine_holds (m_of P) small g (factor_shaped basis vectors small (sym made))
      (factor_numbers basis vectors small (sym made)).diag_least)

-- ---- a step keeps it
module _ (P : Problem) (p : ProblemFits P) (s : State) (h : Honest P s) where
  made_honest : (e : Entering) (t : State) → Exchanged P s e t → Honest P t
  unfolding exchanged refactored
  made_honest e t x =
      let z = x.swap in
      let f = h.sound.fits in
      record {
        sound = record { fits = made_fits P p s f e t x; numbers = made_numbers P p s f e t x h.sound.numbers };
        flags = λ c l.
            ⊎_elim
            (λ (y : Pushes P s e z t). rw y.after (bound_known P _ _ s.ws.flags e.col c (h.flags c l)))
            (λ (y : Refactors P s e z t). rw y.after (bound_known P _ _ s.ws.flags e.col c (h.flags c l)))
            x.stores;
        factor =
            ⊎_elim
            (λ (y : Pushes P s e z t). rw y.after h.factor)
            (λ (y : Refactors P s e z t). rw y.after
            (λ _. refactored_fine P p s f e.col z.row x.col_below x.row_below y.factor y.made))
            x.stores;
      }

  pub step_honest : (e : Entering) → choose P s.ws ≡ Some e → (i : PivotInfo) (t : State) → step P s e ≡ moved i t
      → Honest P t
  unfolding flipped
  step_honest e enters i t q =
      ⊎_elim
      (λ (x : Flips P s e t). record {
        sound = step_sound P p s h.sound e enters i t q;
        flags = λ c l. rw x.after (bound_known P _ _ s.ws.flags e.col c (h.flags c l));
        factor = rw x.after h.factor;
      })
      (made_honest e t) (moves P p s h.sound.fits e enters i t q)

  -- of a run, or the one of a fix
  pub dual_honest : (test : NonBasicVarState → Float → Bool) (l : LeavingVar) → l.row < m_of P
      → (i : PivotInfo) (t : State) → dual_step_by test P s l ≡ moved i t → Honest P t
  dual_honest test l hr i t q = let x = dual_moves test P p s l hr i t q in made_honest x.0 t x.1

-- ---- so do the marks, and the own part of a fix
module _ (P : Problem) (s : State) (h : Honest P s) where
  pub marked_honest : (c : ℕ) → Honest P (marked s c)
  unfolding marked flags_cell
  marked_honest c =
      record {
        sound = marked_sound P s c h.sound;
        flags = λ k l. set_known s.ws.flags c _ k refl (h.flags k l);
        factor = h.factor;
      }

  pub unmarked_honest : (c : ℕ) → Honest P (unmarked P s c)
  unfolding unmarked
  unmarked_honest c =
      record {
        sound = unmarked_sound P s c h.sound;
        flags = λ k l. bound_known P _ _ s.ws.flags c k (h.flags k l);
        factor = h.factor;
      }

  pub shifted_honest : (c : ℕ) (value : Float) → finite value ≡ true → shift_finite P s c value ≡ true
      → Honest P (shifted P s c value)
  unfolding shifted marked flags_cell
  shifted_honest c value v o =
      record {
        sound = shifted_sound P s c value v h.sound o;
        flags = λ k l. set_known s.ws.flags c _ k refl (h.flags k l);
        factor = h.factor;
      }

-- ---- the start, and what passes the test
module _ (p : Plan) (m : Memory) (one : passes1 p m ≡ true) (two : passes2 p ≡ true)
    (three : first_bad_row p ≡ p.rows) where
  abbrev P : Problem
  P = problem_of p

  pub start_honest : passes6 P ≡ true → Honest P (start_state P m)
  unfolding start_state start_workspace
  start_honest six =
      record {
        sound = start_sound p m one two three six;
        flags = λ c l. rw (over_at (n_of P) (start_flags p (start_vals p)) m.ws.flags 0 c l) (bounds_known _ _);
        factor = λ q. never q refl;
      }

  kept_fine : (b : Bool) → not b || factor_fine (m_of P) m.all_factor_numbers m.all_factor_coeffs ≡ true
      → let F = kept_by b (m_of P) m.all_factor_numbers m.all_factor_coeffs in
      F.there ≡ true → factor_fine (m_of P) F.numbers F.coeffs ≡ true
  unfolding factor_fine
  kept_fine true o q =
      let N = m.all_factor_numbers in
      let D = m.all_factor_coeffs in
      let fits = passed_fits p m one two three in
      let lent = memory_fits p m one in
      let small : m_of P ≤ max_rows = omega (arith, fits.few, fits.plan) in
      packed_fine (m_of P) (factor_in (m_of P) N D)
      (exact (m_of P) N D small lent.factor_numbers_long lent.factor_coeffs_long) N D o
  kept_fine false o q = never q refl

  pub kept_honest : passes41 p m ≡ true → Honest P (kept_state P m)
  unfolding kept_state kept_factor flags_fine
  kept_honest o =
      let x = parts p m one two three o in
      record {
        sound = kept_sound p m one two three o;
        flags = all_at (λ c. known_flags (m.ws.flags # c)) (n_of P) x.flags_pass;
        factor = kept_fine (has_factor m) x.factor_pass;
      }
