-- Each test of the definitions decides 01's words for it. Assumes nothing.
use mathlib.Core.Path.{◌≡◌, refl, sym, ap, ◌∙◌}
use mathlib.Core.Logic.{◌⊎◌, inl, inr, ⊎_elim}
use mathlib.Core.Bool.{Bool, true, false, not, ◌&&◌, ◌||◌}
use mathlib.Core.List.{List, [], ◌∷◌, map}
use Prim.Native.Nat.{ℕ, zero, suc, ◌*◌, ◌<◌, ◌≤◌}
use native.Mathlib.Omega.{arith}
use lib.Dec.{T, leb, ltb, eqb}
use lib.ListN.{length}
use lib.IntN.{ℤ, pos, negsuc, nat_abs}
use lib.Signed.{◌≤ℤ◌, ◌<ℤ◌, le_z, lt_z}
use borrow.Author.Tests.{leb-true, le-leb, ltb-true, lt-ltb, eqb-true, eq-eqb, not-false}
use Rattle.doubles.specs.Limits.{max_rows, max_columns, max_coefficient, max_bound}
use Rattle.doubles.specs.Loop.{all}
use Rattle.doubles.proofs.Loops.{both_true, all_at, all_by, all_missed}
use Rattle.sheet_rules.specs.Sum.{◌‼◌}
use Rattle.sheet_rules.specs.Sheet.{Plan, Sheet, a, lower, upper, lower_mark, upper_mark, op}
use Rattle.sheet_rules.specs.Opening.{sizes_fine, within, all_within, bound_fine, bounds_fine, ops_fine, arrays_fine, numbers_fine, crosses, crosses_at, uncrossed}
use Rattle.sheet_rules.specs.Verdict.{count_fine, counts_fine, kept_fine, is_zero, none_exists}
use Rattle.sheet_rules.specs.Edit.{put, edited, uses_column, uses_row, index_fine, kind_limit, number_fine, both_fine, column_fine, row_fine, sound_at}
use Rattle.sheet_rules.specs.declared.Edit.{Edit}
use Rattle.sheet_rules.specs.Words.{Sized, Within, Bound, Arrays, Limits, Crossed, Crossing, Count, KeptIn, ShowsNone, Index, NumberIn, WouldCross, from_below, from_above, Sound, Takes}
use Rattle.sheet_rules.proofs.Bools.{unlike}
use Rattle.sheet_rules.proofs.Takes.{takes}

-- b is the test of P
pub record Decides (b : Bool) (P : Type 0) : Type 0 where
  pub yes_so : b ≡ true → P
  pub so_yes : P → b ≡ true

pub no_so : {b : Bool} {P : Type 0} → Decides b P → b ≡ false → ¬ P
no_so d e h = unlike (sym e ∙ d.so_yes h)

pub so_no : (b : Bool) {P : Type 0} → Decides b P → ¬ P → b ≡ false
so_no true d h = absurd (h (d.yes_so refl))
so_no false d h = refl

-- ---- tests of tests
pub leb_decides : (m n : ℕ) → Decides (leb m n) (m ≤ n)
leb_decides m n = record { yes_so = leb-true m n; so_yes = le-leb m n }

ltb_decides : (m n : ℕ) → Decides (ltb m n) (m < n)
ltb_decides m n = record { yes_so = ltb-true m n; so_yes = lt-ltb m n }

eqb_decides : (m n : ℕ) → Decides (eqb m n) (m ≡ n)
eqb_decides m n = record { yes_so = eqb-true m n; so_yes = eq-eqb m n }

pub and_decides : (b d : Bool) {P Q : Type 0} → Decides b P → Decides d Q → Decides (b && d) (P × Q)
and_decides b d f g = record { yes_so = λ e. (f.yes_so (both_true b d e).0, g.yes_so (both_true b d e).1); so_yes = λ h. rw (f.so_yes h.0, g.so_yes h.1) }

if_decides : (u b : Bool) {P : Type 0} → Decides b P → Decides (not u || b) (u ≡ true → P)
if_decides true b d = record { yes_so = λ e _. d.yes_so e; so_yes = λ h. d.so_yes (h refl) }
if_decides false b d = record { yes_so = λ _ e. unlike e; so_yes = λ _. refl }

or_decides : (b d : Bool) {P Q : Type 0} → Decides b P → Decides d Q → Decides (b || d) (P ⊎ Q)
or_decides true d f g = record { yes_so = λ _. inl (f.yes_so refl); so_yes = λ _. refl }
or_decides false d f g = record { yes_so = λ e. inr (g.yes_so e); so_yes = λ h. ⊎_elim (λ p. unlike (f.so_yes p)) (λ q. g.so_yes q) h }

not_decides : (b : Bool) {P : Type 0} → Decides b P → Decides (not b) (¬ P)
not_decides true d = record { yes_so = λ e. unlike e; so_yes = λ h. absurd (h (d.yes_so refl)) }
not_decides false d = record { yes_so = λ _. no_so d refl; so_yes = λ _. refl }

pub all_decides : (n : ℕ) (t : ℕ → Bool) {P : ℕ → Type 0} → ((k : ℕ) → Decides (t k) (P k)) → Decides (all n t) ((k : ℕ) → k < n → P k)
all_decides n t d = record { yes_so = λ e k l. (d k).yes_so (all_at t n e k l); so_yes = λ h. all_by t n (λ k l. (d k).so_yes (h k l)) }

-- the same test, in other words
pub in_words : {b : Bool} {P Q : Type 0} → Decides b P → (P → Q) → (Q → P) → Decides b Q
in_words d f g = record { yes_so = λ e. f (d.yes_so e); so_yes = λ h. d.so_yes (g h) }

-- ---- 11
pub sizes_decide : (s : Sheet) → Decides (sizes_fine s) (Sized s)
unfolding sizes_fine
sizes_decide s = record {
  yes_so = yes_so';
  so_yes = λ z. rw (
    le-leb s.plan.rows max_rows z.rows_fit,
    le-leb s.plan.cols max_columns z.cols_fit,
    le-leb (s.plan.rows * s.plan.cols) (length s.plan.coefs) z.coefs_fit,
    le-leb s.plan.cols (length s.plan.costs) z.costs_fit,
    le-leb s.plan.cols (length s.plan.lowers) z.lowers_fit,
    le-leb s.plan.cols (length s.plan.uppers) z.uppers_fit,
    le-leb s.plan.cols (length s.plan.lower_marks) z.lower_marks_fit,
    le-leb s.plan.cols (length s.plan.upper_marks) z.upper_marks_fit,
    le-leb s.plan.rows (length s.plan.rhs) z.rhs_fit,
    le-leb s.plan.rows (length s.plan.ops) z.ops_fit,
    le-leb s.plan.cols (length s.plan.amounts) z.amounts_fit,
    le-leb s.plan.rows (length s.plan.mults) z.mults_fit,
    le-leb s.plan.rows (length s.kept.R) z.r_fits,
    le-leb s.plan.cols (length s.kept.D) z.d_fits,
    le-leb 1 (length s.kept.C) z.c_fits,
    le-leb 1 (length s.kept.B) z.b_fits,
    le-leb 4 (length s.kept.counts) z.counts_fit,
  );
}
  where
    yes_so' : sizes_fine s ≡ true → Sized s
    yes_so' e =
        let e16 = both_true _ _ e in
        let e15 = both_true _ _ e16.0 in
        let e14 = both_true _ _ e15.0 in
        let e13 = both_true _ _ e14.0 in
        let e12 = both_true _ _ e13.0 in
        let e11 = both_true _ _ e12.0 in
        let e10 = both_true _ _ e11.0 in
        let e9 = both_true _ _ e10.0 in
        let e8 = both_true _ _ e9.0 in
        let e7 = both_true _ _ e8.0 in
        let e6 = both_true _ _ e7.0 in
        let e5 = both_true _ _ e6.0 in
        let e4 = both_true _ _ e5.0 in
        let e3 = both_true _ _ e4.0 in
        let e2 = both_true _ _ e3.0 in
        let e1 = both_true _ _ e2.0 in
        record {
          rows_fit = leb-true _ _ e1.0;
          cols_fit = leb-true _ _ e1.1;
          coefs_fit = leb-true _ _ e2.1;
          costs_fit = leb-true _ _ e3.1;
          lowers_fit = leb-true _ _ e4.1;
          uppers_fit = leb-true _ _ e5.1;
          lower_marks_fit = leb-true _ _ e6.1;
          upper_marks_fit = leb-true _ _ e7.1;
          rhs_fit = leb-true _ _ e8.1;
          ops_fit = leb-true _ _ e9.1;
          amounts_fit = leb-true _ _ e10.1;
          mults_fit = leb-true _ _ e11.1;
          r_fits = leb-true _ _ e12.1;
          d_fits = leb-true _ _ e13.1;
          c_fits = leb-true _ _ e14.1;
          b_fits = leb-true _ _ e15.1;
          counts_fit = leb-true _ _ e16.1;
        }

-- ---- 12
within_decides : (m n : ℕ) (l : List ℤ) → Decides (all_within m n l) (Within m n l)
unfolding all_within
within_decides m n l = all_decides n _ (λ k. leb_decides (nat_abs (l ‼ k)) m)

bound_decides : (m : ℕ) (z : ℤ) → Decides (bound_fine m z) (Bound m z)
unfolding bound_fine
bound_decides zero z = record { yes_so = λ e. record { known = omega arith; small = omega (arith, leb-true (nat_abs z) 0 e); absent = λ _. leb-true (nat_abs z) 0 e }; so_yes = λ h. le-leb (nat_abs z) 0 (h.absent refl) }
bound_decides (suc zero) z = record { yes_so = λ e. record { known = omega arith; small = leb-true (nat_abs z) max_bound e; absent = λ w. absurd (omega arith) }; so_yes = λ h. le-leb (nat_abs z) max_bound h.small }
bound_decides (suc (suc m)) z = record { yes_so = λ e. unlike e; so_yes = λ h. absurd (omega (arith, h.known)) }

pub arrays_decide : (p : Plan) → Decides (arrays_fine p) (Arrays p)
unfolding arrays_fine bounds_fine ops_fine
arrays_decide p =
    in_words
    (and_decides _ _
    (and_decides _ _
    (and_decides _ _
    (and_decides _ _
    (and_decides _ _
    (and_decides _ _ (within_decides _ _ p.costs) (all_decides p.cols _ (λ j. bound_decides (lower_mark p j) (lower p j))))
    (all_decides p.cols _ (λ j. bound_decides (upper_mark p j) (upper p j))))
    (within_decides _ _ p.rhs))
    (all_decides p.rows _ (λ i. leb_decides (op p i) 2)))
    (within_decides _ _ p.amounts))
    (within_decides _ _ p.mults))
    (λ h. record { costs_in = h.0.0.0.0.0.0; lowers_in = h.0.0.0.0.0.1; uppers_in = h.0.0.0.0.1; rhs_in = h.0.0.0.1; ops_in = h.0.0.1; amounts_in = h.0.1; mults_in = h.1 })
    (λ r. ((((((r.costs_in, r.lowers_in), r.uppers_in), r.rhs_in), r.ops_in), r.amounts_in), r.mults_in))

pub numbers_decide : (p : Plan) → Decides (numbers_fine p) (Limits p)
unfolding numbers_fine
numbers_decide p =
    in_words (and_decides _ _ (within_decides _ _ p.coefs) (arrays_decide p))
    (λ h. record { coefs_in = h.0; arrays_in = h.1 }) (λ r. (r.coefs_in, r.arrays_in))

-- ---- 13
T_true : (b : Bool) → T b → b ≡ true
T_true true t = refl
T_true false t = absurd t

true_t : (b : Bool) → b ≡ true → T b
true_t true e = tt
true_t false e = unlike e

lt_z_decides : (y z : ℤ) → Decides (lt_z y z) (y <ℤ z)
lt_z_decides y z = record { yes_so = λ e. record { lt = true_t (lt_z y z) e }; so_yes = λ h. T_true (lt_z y z) h.lt }

pub le_z_decides : (y z : ℤ) → Decides (le_z y z) (y ≤ℤ z)
le_z_decides y z = record { yes_so = λ e. record { le = true_t (le_z y z) e }; so_yes = λ h. T_true (le_z y z) h.le }

crossed_decides : (p : Plan) (j : ℕ) → Decides (crosses_at p j) (Crossed p j)
unfolding crosses
crossed_decides p j =
    in_words (and_decides _ _ (and_decides _ _ (eqb_decides (lower_mark p j) 1) (eqb_decides (upper_mark p j) 1)) (lt_z_decides (upper p j) (lower p j)))
    (λ h. record { lower_present = h.0.0; upper_present = h.0.1; above = h.1 }) (λ r. ((r.lower_present, r.upper_present), r.above))

pub uncrossed_decides : (p : Plan) → Decides (uncrossed p) (¬ Crossing p)
unfolding uncrossed
uncrossed_decides p =
    in_words (all_decides p.cols _ (λ j. not_decides (crosses_at p j) (crossed_decides p j)))
    (λ h w. h w.0 w.1 w.2) (λ h j l w. h (j, l, w))

pub crossing_found : (p : Plan) → uncrossed p ≡ false → Crossing p
unfolding uncrossed
crossing_found p e = let r = all_missed _ p.cols e in (r.0, r.1, (crossed_decides p r.0).yes_so (not-false _ r.3))

-- ---- the kept sizes
pub count_decides : (n : ℕ) (z : ℤ) → Decides (count_fine n z) (Count n z)
unfolding count_fine
count_decides n z =
    in_words (and_decides _ _ (le_z_decides (pos 0) z) (le_z_decides z (pos n)))
    (λ h. record { least = h.0; most = h.1 }) (λ r. (r.least, r.most))

pub kept_decides : (s : Sheet) → Decides (kept_fine s) (KeptIn s)
unfolding kept_fine counts_fine
kept_decides s =
    in_words
    (and_decides _ _
    (and_decides _ _ (and_decides _ _ (and_decides _ _ (within_decides _ _ s.kept.R) (within_decides _ _ s.kept.D)) (within_decides _ _ s.kept.C)) (within_decides _ _ s.kept.B))
    (and_decides _ _
    (and_decides _ _ (and_decides _ _ (count_decides _ (s.kept.counts ‼ 0)) (count_decides _ (s.kept.counts ‼ 1))) (count_decides _ (s.kept.counts ‼ 2)))
    (count_decides _ (s.kept.counts ‼ 3))))
    (λ h. record { r_in = h.0.0.0.0; d_in = h.0.0.0.1; c_in = h.0.0.1; b_in = h.0.1; broken_in = h.1.0.0.0; outside_in = h.1.0.0.1; wrong_in = h.1.0.1; absent_in = h.1.1 })
    (λ r. ((((r.r_in, r.d_in), r.c_in), r.b_in), (((r.broken_in, r.outside_in), r.wrong_in), r.absent_in)))

pub zero_decides : (z : ℤ) → Decides (is_zero z) (z ≡ pos 0)
unfolding is_zero
zero_decides (pos zero) = record { yes_so = λ _. refl; so_yes = λ _. refl }
zero_decides (pos (suc n)) = record { yes_so = λ e. unlike e; so_yes = λ h. absurd (omega (arith, ap nat_abs h)) }
zero_decides (negsuc n) = record { yes_so = λ e. unlike e; so_yes = λ h. absurd (omega (arith, ap nat_abs h)) }

-- a number that isn't above 0 in size is 0
size_zero : (z : ℤ) → nat_abs z ≤ 0 → z ≡ pos 0
size_zero (pos zero) h = refl
size_zero (pos (suc n)) h = absurd (omega arith)
size_zero (negsuc n) h = absurd (omega arith)

pub none_decides : (s : Sheet) → Decides (none_exists s.plan.cols s.plan.costs s.kept) (ShowsNone s)
unfolding none_exists
none_decides s =
    in_words
    (and_decides _ _
    (and_decides _ _ (within_decides 0 _ s.plan.costs) (and_decides _ _ (zero_decides (s.kept.counts ‼ 2)) (zero_decides (s.kept.counts ‼ 3))))
    (lt_z_decides (pos 0) (s.kept.B ‼ 0)))
    (λ h. record { costless = λ j l. size_zero _ (h.0.0 j l); has_floor = h.0.1; above = h.1 })
    (λ r. (((λ j l. omega (arith, ap nat_abs (r.costless j l))), r.has_floor), r.above))

-- ---- an edit
-- of the kinds 1 to 9 all but 5 and 7 use a column; 5, 6 and 7 use a row
pub column_kinds : map uses_column (1 ∷ 2 ∷ 3 ∷ 4 ∷ 5 ∷ 6 ∷ 7 ∷ 8 ∷ 9 ∷ []) ≡ true ∷ true ∷ true ∷ true ∷ false ∷ true ∷ false ∷ true ∷ true ∷ []
column_kinds = refl

pub row_kinds : map uses_row (1 ∷ 2 ∷ 3 ∷ 4 ∷ 5 ∷ 6 ∷ 7 ∷ 8 ∷ 9 ∷ []) ≡ false ∷ false ∷ false ∷ false ∷ true ∷ true ∷ true ∷ false ∷ false ∷ []
row_kinds = refl

module _ (p : Plan) (e : Edit) where
  pub index_decides : Decides (index_fine p e) (Index p e)
  unfolding index_fine
  index_decides =
      in_words (and_decides _ _ (if_decides (uses_column e.kind) _ (ltb_decides e.column p.cols)) (if_decides (uses_row e.kind) _ (ltb_decides e.row p.rows)))
      (λ h. record { column_in_holds = h.0; row_within = h.1 }) (λ r. (r.column_in_holds, r.row_within))

pub number_decides : (e : Edit) → 1 ≤ e.kind → Decides (number_fine e) (NumberIn e)
unfolding number_fine
number_decides e l = record {
  yes_so = λ t. record {
    amount_in = λ w. leb-true _ _ (rw w at t);
    cost_in = λ w. leb-true _ _ (rw w at t);
    lower_in = λ w. leb-true _ _ (rw w at t);
    upper_in = λ w. leb-true _ _ (rw w at t);
    right_in = λ w. leb-true _ _ (rw w at t);
    coef_in = λ w. leb-true _ _ (rw w at t);
    mult_in = λ w. leb-true _ _ (rw w at t);
  };
  so_yes = λ h. at h e.kind refl;
}
  where
    at : NumberIn e → (k : ℕ) → e.kind ≡ k → (leb 8 e.kind || within (kind_limit e.kind) e.number) ≡ true
    at h zero w = absurd (omega arith)
    at h (suc zero) w = rw w (le-leb _ _ (h.amount_in w))
    at h (suc (suc zero)) w = rw w (le-leb _ _ (h.cost_in w))
    at h (suc (suc (suc zero))) w = rw w (le-leb _ _ (h.lower_in w))
    at h (suc (suc (suc (suc zero)))) w = rw w (le-leb _ _ (h.upper_in w))
    at h (suc (suc (suc (suc (suc zero))))) w = rw w (le-leb _ _ (h.right_in w))
    at h (suc (suc (suc (suc (suc (suc zero)))))) w = rw w (le-leb _ _ (h.coef_in w))
    at h (suc (suc (suc (suc (suc (suc (suc zero))))))) w = rw w (le-leb _ _ (h.mult_in w))
    at h (suc (suc (suc (suc (suc (suc (suc (suc k)))))))) w = rw (le-leb 8 e.kind (omega arith)) refl

module _ (s : Sheet) (e : Edit) (z : Sized s) (i : Index s.plan e) where
  t : Takes e (edited s.plan e)
  t = takes s e z i

  pub crosses_so : Crossed (edited s.plan e) e.column → (e.kind ≡ 3) ⊎ (e.kind ≡ 4) → WouldCross s.plan e
  unfolding edited put
  crosses_so r (inl w) = from_below w (rw w at r.upper_present) (rw ((t.lower_taken w).0, w) at r.above)
  crosses_so r (inr w) = from_above w (rw w at r.lower_present) (rw ((t.upper_taken w).0, w) at r.above)

  so_crosses : WouldCross s.plan e → ((e.kind ≡ 3) ⊎ (e.kind ≡ 4)) × Crossed (edited s.plan e) e.column
  unfolding edited put
  so_crosses (from_below w m l) = (inl w, record { lower_present = (t.lower_taken w).1; upper_present = rw w m; above = rw ((t.lower_taken w).0, w) l })
  so_crosses (from_above w m l) = (inr w, record { lower_present = rw w m; upper_present = (t.upper_taken w).1; above = rw ((t.upper_taken w).0, w) l })

  cross_decides : Decides ((eqb e.kind 3 || eqb e.kind 4) && crosses_at (edited s.plan e) e.column) (WouldCross s.plan e)
  cross_decides =
      in_words
      (and_decides _ _ (or_decides _ _ (eqb_decides e.kind 3) (eqb_decides e.kind 4)) (crossed_decides (edited s.plan e) e.column))
      (λ h. crosses_so h.1 h.0) so_crosses

  pub both_decides : Decides (both_fine s.plan e) (¬ WouldCross s.plan e)
  unfolding both_fine
  both_decides = not_decides _ cross_decides

  pub would_cross_found : both_fine s.plan e ≡ false → WouldCross s.plan e
  unfolding both_fine
  would_cross_found t = cross_decides.yes_so (not-false _ t)

pub sound_decides : (e : Edit) (s : Sheet) → Decides (sound_at e s) (Sound e s)
unfolding sound_at column_fine row_fine
sound_decides e s =
    in_words
    (and_decides _ _
    (and_decides _ _
    (and_decides _ _ (arrays_decide s.plan) (if_decides (uses_column e.kind) _ (all_decides s.plan.rows _ (λ i. leb_decides (nat_abs (a s.plan i e.column)) max_coefficient))))
    (if_decides (uses_row e.kind) _ (all_decides s.plan.cols _ (λ j. leb_decides (nat_abs (a s.plan e.row j)) max_coefficient))))
    (kept_decides s))
    (λ h. record { arrays_in = h.0.0.0; column_in_holds = h.0.0.1; row_within = h.0.1; kept_in = h.1 }) (λ r. (((r.arrays_in, r.column_in_holds), r.row_within), r.kept_in))
