-- Every number of a factor is finite, an entry of L is at most 1 in size, one of U isn't 0.0, and a diagonal is at
-- least EPS. `factor_numbers`, at the end. Assumes nothing.
use mathlib.Core.Path.{◌≡◌, refl, sym, ap, ◌∙◌, subst}
use mathlib.Core.Bool.{Bool, true, false}
use mathlib.Core.Logic.{⊎_elim}
use mathlib.Core.List.{List}
use Prim.Native.Nat.{ℕ, zero, suc, ◌-◌, ◌<◌, ◌≤◌}
use native.Mathlib.Nat.{le_refl}
use native.Mathlib.Omega.{arith}
use lib.Dec.{eqb}
use lib.ListN.{length, set, length-set}
use lib.Seq.{get_or-set_same, get_or-set_other}
use lib.Ieee.{Float, nan, lt, le, eq}
use Rattle.doubles.specs.Num.{◌⊘◌, f0, eps, finite, size}
use Rattle.doubles.specs.Words.{Within}
use Rattle.doubles.specs.Limits.{max_rows, max_tri_entries}
use Rattle.doubles.specs.Loop.{run, more}
use Rattle.doubles.specs.Lists.{◌!◌, ◌#◌}
use Rattle.doubles.proofs.Bools.{last?}
use Rattle.sparse.specs.Scattered.{Sv}
use Rattle.lu_factor_rules.specs.Factor.{Partial, nothing, Entries, push, Parts, parts, is_pivot, sorted}
use Rattle.lu_factor_rules.specs.Factor.{unless_zero, gathered_one, gather_turn, gathered, Outcome, factored}
use Rattle.lu_factor_rules.specs.Factor.{non_finite, singular, Found, found, added, next_of, factor_turn, factor_part}
use Rattle.lu_factor_rules.specs.Factor.{Factor, factor_of, ended, factorize}
use Rattle.lu_factor_rules.specs.Sound.{Sound}
use Rattle.lu_factor_rules.specs.Ready.{Roomy, RoomFor, Vector}
use Rattle.lu_factor_rules.proofs.Keeps.{answer, came_from, whole, sound_nothing}
use Rattle.lu_factor_rules.proofs.Shaped.{Shaped, turn_shapes, shaped_nothing}
use Rattle.lu_factor_rules.proofs.Quotient.{quotient}

-- the values in use all have Q
record Each (Q : Float → Type 0) (e : Entries) : Type 0 where
  long : length e.vals ≡ max_tri_entries
  has : (k : ℕ) → k < e.count → Q (e.vals ! k)

each_push : (Q : Float → Type 0) {e : Entries} (r : ℕ) (x : Float) → Each Q e → e.count < max_tri_entries → Q x
    → Each Q (push e r x)
each_push Q {e} r x a h q =
    record {
      long = length-set e.vals e.count x ∙ a.long;
      has = λ k l. ⊎_elim
          (λ (i : k < e.count). subst Q (sym (get_or-set_other e.vals e.count k x nan
          (λ (j : k ≡ e.count). omega arith))) (a.has k i))
          (λ (i : k ≡ e.count). subst Q (sym (ap (λ (j : ℕ). set e.vals e.count x ! j) i ∙ get_or-set_same
          e.vals e.count x nan (omega (arith, a.long)))) q)
          (last? k e.count l);
    }

-- an entry of U: finite, and no 0.0 is stored
record Entry (x : Float) : Type 0 where
  is_finite : finite x ≡ true
  not_zero : eq x f0 ≡ false

record Fine (t : Parts) : Type 0 where
  lower : Each (Within 1) t.lower
  upper : Each Entry t.upper

module _ (number : List ℕ) (i row : ℕ) (v : List Float) (l : List ℕ) (n : ℕ) (t : Parts)
    (room : Roomy number i row v l n t) (all_finite_holds : (k : ℕ) → k < n → finite (v ! (l # k)) ≡ true)
    (pivot-finite : finite (v ! row) ≡ true) (enough : le eps (size (v ! row)) ≡ true)
    (largest : (k : ℕ) → k < n → is_pivot number i (l # k) ≡ false
    → lt (size (v ! row)) (size (v ! (l # k))) ≡ false) where
  fine_by : (p q z : Bool) (x : Float) (r : ℕ) (u : Parts) → is_pivot number i r ≡ p → eqb r row ≡ q → eq x f0 ≡ z
      → RoomFor number i row r u → finite x ≡ true
      → (p ≡ false → Within 1 (x ⊘ (v ! row))) → Fine u
      → Fine (unless_zero z u (sorted p q (number # r) r x (v ! row) u))
  fine_by p q true x r u a b w o f g s = s
  fine_by true q false x r u a b w o f g s = record {
    lower = s.lower;
    upper = each_push Entry (number # r) x
        s.upper (o.upper_room a) (record { is_finite = f; not_zero = w });
  }
  fine_by false true false x r u a b w o f g s = s
  fine_by false false false x r u a b w o f g s = record {
    lower = each_push (Within 1) r (x ⊘ (v ! row)) s.lower
        (o.lower_room a b) (g refl);
    upper = s.upper;
  }

  fine : Fine t → (k : ℕ) → k ≤ n → Fine (run (gather_turn number i row v l) k t)
  unfolding run gathered_one
  fine s zero h = s
  fine s (suc k) h =
      let lt-k : k < n = omega arith in
      fine_by (is_pivot number i (l # k)) (eqb (l # k) row) (eq (v ! (l # k)) f0) (v ! (l # k)) (l # k)
      (run (gather_turn number i row v l) k t) refl refl refl (room.room k lt-k) (all_finite_holds k lt-k)
      (λ e. quotient (v ! (l # k)) (v ! row) (all_finite_holds k lt-k) pivot-finite enough (largest k lt-k e))
      (fine s k (omega arith))

-- ---- the invariant
record Diagonal (x : Float) : Type 0 where
  is_finite : finite x ≡ true
  at_least_holds : le eps (size x) ≡ true

record Numbered (f : Partial) : Type 0 where
  parts_fine : Fine (parts f.lower f.upper)
  diag : (j : ℕ) → j < f.made → Diagonal (f.diag ! j)

module _ {m : ℕ} (f : Partial) (s : Sound m f) (nu : Numbered f) (room : f.made < m) (v : List Float) (l : List ℕ)
    (n : ℕ) (row at : ℕ) (at_in : at < n) (row_at : row ≡ l # at)
    (roomy : Roomy f.number f.made row v l n (parts f.lower f.upper)) (all_finite_holds : (k : ℕ) → k < n
    → finite (v ! (l # k)) ≡ true) (enough : le eps (size (v ! (l # at))) ≡ true)
    (largest : (k : ℕ) → k < n → is_pivot f.number f.made (l # k) ≡ false
    → lt (size (v ! (l # at))) (size (v ! (l # k))) ≡ false) where
  numbers_next : Numbered (added f (found row (v ! row) (gathered f.number f.made row v l n
      (parts f.lower f.upper))))
  unfolding added gathered
  numbers_next =
      let ok : finite (v ! row) ≡ true = rw row_at (all_finite_holds at at_in) in
      let big : le eps (size (v ! row)) ≡ true = rw row_at enough in
      record {
        parts_fine = let g = fine f.number f.made row v l n (parts f.lower f.upper) roomy all_finite_holds ok big
            (λ k h e. rw row_at (largest k h e)) nu.parts_fine n (le_refl n) in
            record {
              lower = record { long = g.lower.long; has = g.lower.has };
              upper = record
                  { long = g.upper.long; has = g.upper.has };
            };
        diag = λ j h. ⊎_elim
            (λ (i : j < f.made). subst Diagonal (sym (get_or-set_other f.diag f.made j (v ! row) nan
            (λ (q : j ≡ f.made). omega arith))) (nu.diag j i))
            (λ (i : j ≡ f.made). subst Diagonal (sym (ap (λ (k : ℕ). set f.diag f.made (v ! row) ! k) i ∙
            get_or-set_same f.diag f.made (v ! row) nan (omega (arith, s.long.diag_long, s.small))))
            (record { is_finite = ok; at_least_holds = big }))
            (last? j f.made h);
      }

turn_numbers : {m : ℕ} (col : ℕ → Sv) → ((i : ℕ) → i < m → Vector m (col i)) → (f t : Partial) → Sound m f → Numbered f
    → f.made < m → factor_turn m col f ≡ more t → Numbered t
unfolding factor_turn
turn_numbers {m} col cols f t s nu room e = by (answer s room (cols f.made room)) refl e
  where
    by : (o : Outcome Found) → o ≡ answer s room (cols f.made room) → next_of f o ≡ more t → Numbered t
    by (factored x) q h =
        let z : added f x ≡ t = cc in
        let c = came_from s room (cols f.made room) {x = x} q in
        rw (← z) (subst (λ (y : Found). Numbered (added f y)) (sym c.is)
        (numbers_next f s nu room c.v c.l c.n x.row c.at c.at_in c.row_at c.roomy
        c.all_finite_holds c.enough c.largest))
    by non_finite q h = absurd (let z : ◌≡◌ {A = ℕ} 0 1 = cc in omega arith)
    by singular q h = absurd (let z : ◌≡◌ {A = ℕ} 0 1 = cc in omega arith)

numbers_nothing : (m : ℕ) → m ≤ max_rows → Numbered nothing
numbers_nothing m h =
    let s = sound_nothing m h in
    record {
      parts_fine = record {
        lower = record { long = s.lvals_long; has = λ k g. absurd (omega arith) };
        upper = record
            { long = s.uvals_long; has = λ k g. absurd (omega arith) };
      };
      diag = λ j g. absurd (omega arith);
    }

-- "a stored number in use .. isn't finite", "a diagonal of size under EPS": never of a factor that was made
pub record FactorNumbers (m : ℕ) (f : Factor) : Type 0 where
  pub lower_vals : (k : ℕ) → k < f.lower.starts # m → Within 1 (f.lower.vals ! k)
  pub upper_vals : (k : ℕ) → k < f.upper.starts # m → finite (f.upper.vals ! k) ≡ true
  pub upper_stored : (k : ℕ) → k < f.upper.starts # m → eq (f.upper.vals ! k) f0 ≡ false
  pub diag_finite : (j : ℕ) → j < m → finite (f.diag ! j) ≡ true
  pub diag_least : (j : ℕ) → j < m → le eps (size (f.diag ! j)) ≡ true

record Both (m : ℕ) (f : Partial) : Type 0 where
  shaped : Shaped m f
  numbered : Numbered f

pub factor_numbers : {m : ℕ} (col : ℕ → Sv) → ((i : ℕ) → i < m → Vector m (col i)) → m ≤ max_rows → {f : Factor}
    → factored f ≡ factorize m col → FactorNumbers m f
unfolding factorize
factor_numbers {m} col cols h {f} e = by (factor_part m col) refl e
  where
    by : (o : Outcome Partial) → o ≡ factor_part m col → factored f ≡ ended m o → FactorNumbers m f
    by (factored g) q w =
        let a = whole col cols (Both m) (λ f t s p l i. record {
          shaped = turn_shapes col cols f t s p.shaped l i;
          numbered = turn_numbers col cols f t s p.numbered
              l i;
        }) g h
        (record { shaped = shaped_nothing m; numbered = numbers_nothing m h }) q in
        let z : f ≡ factor_of m g = cc in
        let nu = a.has.numbered in
        let all = a.made_all in
        rw z (record {
          lower_vals = λ k l. nu.parts_fine.lower.has k (omega
              (arith, a.sound.lower_starts_holds.most m (omega (arith, all))));
          upper_vals = λ k l. (nu.parts_fine.upper.has k (omega
              (arith, a.has.shaped.upper_starts_holds.most m (omega (arith, all))))).is_finite;
          upper_stored = λ k l. (nu.parts_fine.upper.has k (omega
              (arith, a.has.shaped.upper_starts_holds.most m (omega (arith, all))))).not_zero;
          diag_finite = λ j l. (nu.diag j (omega (arith, all))).is_finite;
          diag_least = λ j l. (nu.diag j (omega (arith, all))).at_least_holds;
        })
    by non_finite q w = absurd (let z : ◌≡◌ {A = ℕ} 0 1 = cc in omega arith)
    by singular q w = absurd (let z : ◌≡◌ {A = ℕ} 0 1 = cc in omega arith)
