-- What a column's entries are: they stand behind those of the columns before, L's rows are none of the pivot rows, U's
-- are their numbers. Assumes nothing.
use mathlib.Core.Path.{◌≡◌, refl, sym, ap, ◌∙◌, subst}
use mathlib.Core.Bool.{Bool, true, false}
use mathlib.Core.Logic.{⊎_elim}
use mathlib.Core.List.{List}
use Prim.Native.Nat.{ℕ, zero, suc, ◌+◌, ◌<◌, ◌≤◌}
use native.Mathlib.Nat.{le_refl}
use native.Mathlib.Omega.{arith}
use lib.Dec.{eqb}
use lib.ListN.{length, set, length-set, replicate, get_or-replicate}
use lib.Seq.{get_or-set_same, get_or-set_other}
use lib.Ieee.{Float, eq}
use borrow.Author.Tests.{ltb-true, ltb-false, eqb-false}
use Rattle.doubles.specs.Num.{◌⊘◌, f0}
use Rattle.doubles.specs.Limits.{max_rows, max_tri_entries}
use Rattle.doubles.specs.Loop.{run}
use Rattle.doubles.specs.Lists.{◌!◌, ◌#◌}
use Rattle.doubles.proofs.Bools.{last?}
use Rattle.lu_factor_rules.specs.Factor.{Entries, push, Parts, is_pivot, sorted, unless_zero, gathered_one}
use Rattle.lu_factor_rules.specs.Factor.{gather_turn, gathered}
use Rattle.lu_factor_rules.specs.Sound.{Starts}
use Rattle.lu_factor_rules.specs.Ready.{Roomy, RoomFor}

-- ---- entries behind those of e: the first are kept, and each new one has Q
pub record Behind (Q : ℕ → Type 0) (e u : Entries) : Type 0 where
  pub grows : e.count ≤ u.count
  pub long : length u.rows ≡ length e.rows
  pub kept : (k : ℕ) → k < e.count → u.rows # k ≡ e.rows # k
  pub new : (k : ℕ) → e.count ≤ k → k < u.count → Q (u.rows # k)

pub behind_none : (Q : ℕ → Type 0) (e : Entries) → Behind Q e e
behind_none Q e = record { grows = omega arith; long = refl; kept = λ k h. refl; new = λ k h g. absurd (omega arith) }

pub behind_push : (Q : ℕ → Type 0) {e u : Entries} (r : ℕ) (x : Float) → Behind Q e u → u.count < length u.rows
    → Q r → Behind Q e (push u r x)
behind_push Q {e} {u} r x b h q =
    record {
      grows = omega (arith, b.grows);
      long = length-set u.rows u.count r ∙ b.long;
      kept = λ k g. there k (omega (arith, b.grows)) ∙ b.kept k g;
      new = λ k g l. ⊎_elim
          (λ (i : k < u.count). subst Q (sym (there k i)) (b.new k g i))
          (λ (i : k ≡ u.count). subst Q (sym (ap (λ (j : ℕ). set u.rows u.count r # j) i ∙ get_or-set_same
          u.rows u.count r 0 h)) q)
          (last? k u.count l);
    }
  where
    there : (k : ℕ) → k < u.count → set u.rows u.count r # k ≡ u.rows # k
    there k i = get_or-set_other u.rows u.count k r 0 (λ (j : k ≡ u.count). omega arith)

-- ---- what a column's entries are
module _ (m : ℕ) (number : List ℕ) (i row : ℕ) (v : List Float) (l : List ℕ) (n : ℕ) (t : Parts)
    (lrows_long : length t.lower.rows ≡ max_tri_entries)
    (urows_long : length t.upper.rows ≡ max_tri_entries) (below : (k : ℕ) → k < n
    → l # k < m) (room : Roomy number i row v l n t) where
  -- a row of L's: none of the first i pivot rows, nor the new one
  pub record Later (r : ℕ) : Type 0 where
    pub inside : r < m
    pub late : i ≤ number # r
    pub other : r ≡ row → ⊥

  abbrev pub Earlier : ℕ → Type 0
  Earlier j = j < i

  pub record Split (u : Parts) : Type 0 where
    pub lower : Behind Later t.lower u.lower
    pub upper : Behind Earlier t.upper u.upper

  split_by : (p q z : Bool) (pivot x : Float) (r : ℕ) (u : Parts) → is_pivot number i r ≡ p → eqb r row ≡ q → r < m
      → RoomFor number i row r u → Split u → Split (unless_zero z u (sorted p q (number # r) r x pivot u))
  split_by p q true pivot x r u a b h o s = s
  split_by true q false pivot x r u a b h o s =
      record {
        lower = s.lower;
        upper = behind_push Earlier (number # r) x s.upper
            (omega (arith, o.upper_room a, s.upper.long)) (ltb-true (number # r) i a);
      }
  split_by false true false pivot x r u a b h o s = s
  split_by false false false pivot x r u a b h o s =
      record {
        lower = behind_push Later r (x ⊘ pivot) s.lower (omega (arith, o.lower_room a b, s.lower.long))
            (record { inside = h; late = ltb-false (number # r) i a; other = eqb-false r row b });
        upper = s.upper;
      }

  split : (k : ℕ) → k ≤ n → Split (run (gather_turn number i row v l) k t)
  unfolding run gathered_one
  split zero h = record { lower = behind_none Later t.lower; upper = behind_none Earlier t.upper }
  split (suc k) h =
      split_by (is_pivot number i (l # k)) (eqb (l # k) row) (eq (v ! (l # k)) f0) (v ! row) (v ! (l # k)) (l # k)
      (run (gather_turn number i row v l) k t) refl refl (below k (omega arith)) (room.room k (omega arith))
      (split k (omega arith))

  pub split_all : Split (gathered number i row v l n t)
  unfolding gathered
  split_all = split n (le_refl n)

-- ---- starts, one more
module _ {i c d : ℕ} {starts : List ℕ} (s : Starts i starts c) (h : c ≤ d) (long : i + 1 < length starts) where
  pub starts_old : (j : ℕ) → j ≤ i → set starts (i + 1) d # j ≡ starts # j
  starts_old j g = get_or-set_other starts (i + 1) j d 0 (λ (q : j ≡ i + 1). omega arith)

  pub starts_new : set starts (i + 1) d # (i + 1) ≡ d
  starts_new = get_or-set_same starts (i + 1) d 0 long

  pub starts_next : Starts (i + 1) (set starts (i + 1) d) d
  starts_next =
      record {
        first = starts_old 0 (omega arith) ∙ s.first;
        last = starts_new;
        rises = λ j g. ⊎_elim
            (λ (k : j < i). omega (arith, s.rises j k, starts_old j (omega arith), starts_old (j + 1) (omega arith)))
            (λ (q : j ≡ i). rw q (omega (arith, starts_old i (omega arith), starts_new, s.last)))
            (last? j i g);
        most = λ j g. ⊎_elim
            (λ (k : j < i + 1). omega (arith, s.most j (omega arith), starts_old j (omega arith)))
            (λ (q : j ≡ i + 1). rw q (omega (arith, starts_new)))
            (last? j (i + 1) (omega arith));
      }

-- what fresh starts are
pub starts_none : Starts 0 (replicate {A = ℕ} (max_rows + 1) 0) 0
starts_none =
    let z : replicate {A = ℕ} (max_rows + 1) 0 # 0 ≡ 0 = get_or-replicate {A = ℕ} (max_rows + 1) 0 0 0 (omega arith) in
    record {
      first = z;
      last = z;
      rises = λ j h. absurd (omega arith);
      most = λ j h. let q : j ≡ 0 = omega arith in rw q
          (omega (arith, z));
    }
