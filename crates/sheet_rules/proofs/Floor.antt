-- The floor is a floor: weak duality with bounds, over fractional amounts; and what a gap means. Assumes nothing.
use mathlib.Core.Path.{◌≡◌, refl, sym, ap, ◌∙◌, subst}
use mathlib.Core.Bool.{Bool, true, false, not, ◌&&◌}
use Prim.Native.Nat.{ℕ, zero, suc, ◌*◌, ◌≤◌, ◌<◌}
use native.Mathlib.Nat.{le_antisymm, le_of_lt}
use native.Mathlib.Omega.{arith}
use lib.Dec.{T, leb→le, le→leb, ltb→lt, eqb→eq}
use lib.IntN.{ℤ, pos, negsuc, neg_ℤ, ◌+ℤ◌, ◌-ℤ◌, ◌*ℤ◌, one, *ℤ-one, *ℤ_comm, *ℤ-zero, zero-*ℤ, +ℤ_invr, +ℤ_idr}
use lib.Signed.{◌≤ℤ◌, ◌<ℤ◌, lt_z, lt_z_no, ≤ℤ_refl}
use borrow.Author.Tests.{eq-eqb, not-false}
use Rattle.doubles.proofs.Loops.{both_true}
use Rattle.sheet_rules.proofs.Bools.{neither}
use Rattle.doubles.specs.Limits.{unit}
use Rattle.sheet_rules.specs.Sum.{◌‼◌, sum, dot}
use Rattle.sheet_rules.specs.Sheet.{Plan, Sheet, True, a, c, lower, upper, lower_mark, upper_mark, rhs, op, x, Y, present, holds, wrong, outside, term_by, term, lacks_by, lacks, broken_at, outside_at, wrong_at, term_at, lacks_at, activity, price, cost, floor, broken_rows, outside_amounts, wrong_signs, absent_needed}
use Rattle.sheet_rules.specs.Verdict.{verdict}
use Rattle.sheet_rules.specs.Words.{Sized, KeptIn, Keeps, NoneKeep, Gapped, IsPlan, HasFloor, ShowsNone, VerdictSays}
use Rattle.sheet_rules.specs.declared.Verdict.{Verdict}
use Rattle.sheet_rules.specs.declared.Verdict.TheVariants.{NoneExists, Gap}
use Rattle.sheet_rules.proofs.Ring.{mul_add, add_mul, mul_assoc, mul_left_comm, add_left_comm, neg_mul, mul_neg, add_le_add, mul_le_mul, mul_le_neg, neg_le_neg, sub_nonneg}
use Rattle.sheet_rules.proofs.Sums.{sum_ext, sum_none, sum_add, sum_mul, sum_swap, sum_mono, count_zero}
use Rattle.sheet_rules.proofs.Tests.{le_z_decides}
use Rattle.sheet_rules.proofs.Exact.{verdict_says, verdict_only}

-- ---- the order of ℤ and its tests
not_so : {b : Bool} → b ≡ false → T (not b)
not_so e = subst (λ (b : Bool). T (not b)) (sym e) tt

lt_le : (y z : ℤ) → T (lt_z y z) → y ≤ℤ z
lt_le (pos m) (pos n) t = record { le = le→leb m n (le_of_lt (ltb→lt m n t)) }
lt_le (pos m) (negsuc n) t = absurd t
lt_le (negsuc m) (pos n) t = record { le = tt }
lt_le (negsuc m) (negsuc n) t = record { le = le→leb n m (le_of_lt (ltb→lt n m t)) }

antisym : (y z : ℤ) → y ≤ℤ z → z ≤ℤ y → y ≡ z
antisym (pos m) (pos n) h k = ap pos (le_antisymm (leb→le m n h.le) (leb→le n m k.le))
antisym (pos m) (negsuc n) h k = absurd h.le
antisym (negsuc m) (pos n) h k = absurd k.le
antisym (negsuc m) (negsuc n) h k = ap negsuc (le_antisymm (leb→le m n k.le) (leb→le n m h.le))

-- ---- a row of the right sign, at activity r and k times its right side
row_least : (o : ℕ) (y r b : ℤ) → wrong o y ≡ false → (o ≡ 0 → r ≤ℤ b) → (o ≡ 1 → r ≡ b) → (2 ≤ o → b ≤ℤ r) → (y *ℤ b) ≤ℤ (y *ℤ r)
unfolding wrong
row_least zero y r b e l q g = mul_le_neg y (lt_z_no (not_so e)) (l refl)
row_least (suc zero) y r b e l q g = rw (q refl) (≤ℤ_refl (y *ℤ b))
row_least (suc (suc o)) y r b e l q g = mul_le_mul y (lt_z_no (not_so e)) (g (omega arith))

-- ---- a column, none of whose needed bounds is absent
by_least : (above below low high : Bool) (d l u z k : ℤ)
    → (T above → pos 0 ≤ℤ d) → (T below → d ≤ℤ pos 0) → (T (not above) → T (not below) → d ≡ pos 0)
    → lacks_by above below low high ≡ false → (T low → (k *ℤ l) ≤ℤ z) → (T high → z ≤ℤ (k *ℤ u)) → (k *ℤ term_by above below low high d l u) ≤ℤ (d *ℤ z)
unfolding term_by lacks_by
by_least true below true high d l u z k p n o e f g = rw (mul_left_comm k d l) (mul_le_mul d (p tt) (f tt))
by_least true below false high d l u z k p n o e f g = absurd (subst T e tt)
by_least false true low true d l u z k p n o e f g = rw (mul_left_comm k d u) (mul_le_neg d (n tt) (g tt))
by_least false true low false d l u z k p n o e f g = absurd (subst T e tt)
by_least false false low high d l u z k p n o e f g = rw (o tt tt, *ℤ-zero, zero-*ℤ) (≤ℤ_refl (pos 0))

is_present : (m : ℕ) → T (present m) → m ≡ 1
is_present m t = eqb→eq m 1 t

term_least : (d l u z k : ℤ) (lm um : ℕ) → lacks d lm um ≡ false → (lm ≡ 1 → (k *ℤ l) ≤ℤ z) → (um ≡ 1 → z ≤ℤ (k *ℤ u)) → (k *ℤ term d l u lm um) ≤ℤ (d *ℤ z)
unfolding term lacks
term_least d l u z k lm um e f g =
    by_least _ _ _ _ d l u z k (lt_le (pos 0) d) (lt_le d (pos 0)) (λ p q. antisym d (pos 0) (lt_z_no p) (lt_z_no q)) e (λ t. f (is_present lm t)) (λ t. g (is_present um t))

-- ---- the cost of z, by what the multipliers and the prices make of it
turned : (y w z : ℤ) → y *ℤ (w *ℤ z) ≡ z *ℤ (w *ℤ y)
turned y w z = simp (mul_left_comm, *ℤ_comm)

share : (y t z : ℤ) → z *ℤ t +ℤ (pos unit *ℤ y -ℤ t) *ℤ z ≡ pos unit *ℤ (y *ℤ z)
share y t z = rw (add_mul (pos unit *ℤ y) (neg_ℤ t) z, neg_mul t z, *ℤ_comm z t, add_left_comm (t *ℤ z), +ℤ_invr (t *ℤ z), +ℤ_idr) (mul_assoc (pos unit) y z)

module _ (p : Plan) (z : ℕ → ℤ) where
  by_columns : sum p.rows (λ i. Y p i *ℤ activity p z i) ≡ sum p.cols (λ j. z j *ℤ sum p.rows (λ i. a p i j *ℤ Y p i))
  unfolding activity
  by_columns =
      sum_ext p.rows _ _ (λ i _. sym (sum_mul (Y p i) p.cols (λ j. a p i j *ℤ z j)))
      ∙ sum_swap p.rows p.cols (λ i j. Y p i *ℤ (a p i j *ℤ z j))
      ∙ sum_ext p.cols _ _ (λ j _. sum_ext p.rows _ _ (λ i _. turned (Y p i) (a p i j) (z j)) ∙ sum_mul (z j) p.rows (λ i. a p i j *ℤ Y p i))

  cost_split : sum p.rows (λ i. Y p i *ℤ activity p z i) +ℤ sum p.cols (λ j. price p j *ℤ z j) ≡ pos unit *ℤ cost p z
  unfolding cost price
  cost_split =
      ap (λ (v : ℤ). v +ℤ sum p.cols (λ j. price p j *ℤ z j)) by_columns
      ∙ sym (sum_add p.cols (λ j. z j *ℤ sum p.rows (λ i. a p i j *ℤ Y p i)) (λ j. price p j *ℤ z j))
      ∙ sum_ext p.cols _ _ (λ j _. share (c p j) (sum p.rows (λ i. a p i j *ℤ Y p i)) (z j))
      ∙ sum_mul (pos unit) p.cols (λ j. c p j *ℤ z j)

  module _ (k : ℕ) (signs : wrong_signs p ≡ pos 0) (needed : absent_needed p ≡ pos 0) (keeps : Keeps p k z) where
    rows_least : (pos k *ℤ dot p.rows (Y p) (rhs p)) ≤ℤ sum p.rows (λ i. Y p i *ℤ activity p z i)
    unfolding wrong_signs
    rows_least =
        subst (λ (v : ℤ). v ≤ℤ sum p.rows (λ i. Y p i *ℤ activity p z i)) (sum_mul (pos k) p.rows (λ i. Y p i *ℤ rhs p i))
        (sum_mono p.rows _ _ (λ i l.
        rw (mul_left_comm (pos k) (Y p i) (rhs p i))
        (row_least (op p i) (Y p i) (activity p z i) (pos k *ℤ rhs p i) (count_zero p.rows (wrong_at p) signs i l) (keeps.le_kept i l) (keeps.eq_kept i l) (keeps.ge_kept i l))))

    columns_least : (pos k *ℤ sum p.cols (λ j. term_at p j (price p j))) ≤ℤ sum p.cols (λ j. price p j *ℤ z j)
    unfolding absent_needed
    columns_least =
        subst (λ (v : ℤ). v ≤ℤ sum p.cols (λ j. price p j *ℤ z j)) (sum_mul (pos k) p.cols (λ j. term_at p j (price p j)))
        (sum_mono p.cols _ _ (λ j l.
        term_least (price p j) (lower p j) (upper p j) (z j) (pos k) (lower_mark p j) (upper_mark p j) (count_zero p.cols (λ j. lacks_at p j (price p j)) needed j l) (keeps.lower_kept j l) (keeps.upper_kept j l)))

    fresh_floor : (pos k *ℤ floor p) ≤ℤ (pos unit *ℤ cost p z)
    unfolding floor
    fresh_floor = rw (mul_add (pos k) (dot p.rows (Y p) (rhs p)) (sum p.cols (λ j. term_at p j (price p j))), ← cost_split) (add_le_add rows_least columns_least)

-- ---- the floor theorem: on a true sheet with right signs and no absent bound needed, k * B is at most 1024 times the cost of z, for all amounts z / k that
-- keep every row and bound
pub floor_theorem : (s : Sheet) → True s → HasFloor s.kept → (k : ℕ) (z : ℕ → ℤ) → Keeps s.plan k z → (pos k *ℤ (s.kept.B ‼ 0)) ≤ℤ (pos unit *ℤ cost s.plan z)
floor_theorem s t f k z keeps = rw t.b_true (fresh_floor s.plan z k (sym t.wrong_true ∙ f.0) (sym t.absent_true ∙ f.1) keeps)

-- ---- what the first two counts say of the sheet's own amounts
one_mul : (z : ℤ) → pos 1 *ℤ z ≡ z
unfolding one
one_mul z = *ℤ_comm (pos 1) z ∙ *ℤ-one z

row_holds : (o : ℕ) (r b : ℤ) → not (holds o r b) ≡ false → (o ≡ 0 → r ≤ℤ b) × (o ≡ 1 → r ≡ b) × (2 ≤ o → b ≤ℤ r)
unfolding holds
row_holds zero r b e = (λ _. (le_z_decides r b).yes_so (not-false _ e), λ w. absurd (omega arith), λ w. absurd (omega arith))
row_holds (suc zero) r b e = let h = both_true _ _ (not-false _ e) in (λ w. absurd (omega arith), λ _. antisym r b ((le_z_decides r b).yes_so h.0) ((le_z_decides b r).yes_so h.1), λ w. absurd (omega arith))
row_holds (suc (suc o)) r b e = (λ w. absurd (omega arith), λ w. absurd (omega arith), λ _. (le_z_decides b r).yes_so (not-false _ e))

within_bounds : (z l u : ℤ) (lm um : ℕ) → outside z l u lm um ≡ false → (lm ≡ 1 → l ≤ℤ z) × (um ≡ 1 → z ≤ℤ u)
unfolding outside
within_bounds z l u lm um e =
    (λ w. lt_z_no (not_so (rw (eq-eqb lm 1 w) at (neither (present lm && lt_z z l) (present um && lt_z u z) e).0)), λ w. lt_z_no (not_so (rw (eq-eqb um 1 w) at (neither (present lm && lt_z z l) (present um && lt_z u z) e).1)))

own_plan : (p : Plan) → broken_rows p ≡ pos 0 → outside_amounts p ≡ pos 0 → Keeps p 1 (x p)
unfolding broken_rows outside_amounts
own_plan p b o = record {
  le_kept = λ i l w. rw (one_mul (rhs p i)) ((rows i l).0 w);
  eq_kept = λ i l w. rw (one_mul (rhs p i)) ((rows i l).1 w);
  ge_kept = λ i l w. rw (one_mul (rhs p i)) ((rows i l).2 w);
  lower_kept = λ j l w. rw (one_mul (lower p j)) ((columns j l).0 w);
  upper_kept = λ j l w. rw (one_mul (upper p j)) ((columns j l).1 w);
}
  where
    rows : (i : ℕ) → i < p.rows → (op p i ≡ 0 → activity p (x p) i ≤ℤ rhs p i) × (op p i ≡ 1 → activity p (x p) i ≡ rhs p i) × (2 ≤ op p i → rhs p i ≤ℤ activity p (x p) i)
    rows i l = row_holds (op p i) (activity p (x p) i) (rhs p i) (count_zero p.rows (λ i. broken_at p i (activity p (x p) i)) b i l)

    columns : (j : ℕ) → j < p.cols → (lower_mark p j ≡ 1 → lower p j ≤ℤ x p j) × (upper_mark p j ≡ 1 → x p j ≤ℤ upper p j)
    columns j l = within_bounds (x p j) (lower p j) (upper p j) (lower_mark p j) (upper_mark p j) (count_zero p.cols (outside_at p) o j l)

own_true : (s : Sheet) → True s → IsPlan s.kept → Keeps s.plan 1 (x s.plan)
own_true s t p = own_plan s.plan (sym t.broken_true ∙ p.0) (sym t.outside_true ∙ p.1)

-- ---- the gap theorem: what a shown gap means
cheaper : (k c b z : ℤ) → (k *ℤ b) ≤ℤ (pos unit *ℤ z) → (pos unit *ℤ (k *ℤ c -ℤ z)) ≤ℤ (k *ℤ (pos unit *ℤ c -ℤ b))
cheaper k c b z h =
    rw (mul_add (pos unit) (k *ℤ c) (neg_ℤ z), mul_neg (pos unit) z, mul_left_comm (pos unit) k c, mul_add k (pos unit *ℤ c) (neg_ℤ b), mul_neg k b)
    (add_le_add (≤ℤ_refl (k *ℤ (pos unit *ℤ c))) (neg_le_neg (k *ℤ b) (pos unit *ℤ z) h))

gapped : (s : Sheet) → True s → IsPlan s.kept → HasFloor s.kept → Gapped s (pos unit *ℤ (s.kept.C ‼ 0) -ℤ s.kept.B ‼ 0)
gapped s t p f = record {
  plan = own;
  not_below = sub_nonneg (s.kept.B ‼ 0) (pos unit *ℤ (s.kept.C ‼ 0)) (rw (t.c_true, ← one_mul (s.kept.B ‼ 0)) (floor_theorem s t f 1 (x s.plan) own));
  no_cheaper = λ k z keeps. rw (← t.c_true) (cheaper (pos k) (s.kept.C ‼ 0) (s.kept.B ‼ 0) (cost s.plan z) (floor_theorem s t f k z keeps));
}
  where
    own : Keeps s.plan 1 (x s.plan)
    own = own_true s t p

gap_says : (s : Sheet) {v : Verdict} → VerdictSays s v → (g : ℤ) → v ≡ Gap g → True s → Gapped s g
gap_says s (VerdictSays.size h) g w t = absurd (let q : ◌≡◌ {A = ℕ} 0 1 = cc in omega arith)
gap_says s (VerdictSays.over z h) g w t = absurd (let q : ◌≡◌ {A = ℕ} 0 1 = cc in omega arith)
gap_says s (VerdictSays.none z k n) g w t = absurd (let q : ◌≡◌ {A = ℕ} 0 1 = cc in omega arith)
gap_says s (VerdictSays.not_plan z k n h) g w t = absurd (let q : ◌≡◌ {A = ℕ} 0 1 = cc in omega arith)
gap_says s (VerdictSays.no_floor z k n p h) g w t = absurd (let q : ◌≡◌ {A = ℕ} 0 1 = cc in omega arith)
gap_says s (VerdictSays.gap z k n p f) g w t = let e : pos unit *ℤ (s.kept.C ‼ 0) -ℤ s.kept.B ‼ 0 ≡ g = cc in subst (Gapped s) e (gapped s t p f)

pub gap_theorem : (s : Sheet) → True s → (g : ℤ) → verdict s ≡ Gap g → Gapped s g
gap_theorem s t g w = gap_says s (verdict_says s) g w t

-- ---- 02, Ask 13: with no costs, a floor above 0 can't be met

costless : (p : Plan) (z : ℕ → ℤ) → ((j : ℕ) → j < p.cols → c p j ≡ pos 0) → cost p z ≡ pos 0
unfolding cost
costless p z n = sum_ext p.cols _ _ (λ j l. rw (n j l) (zero-*ℤ (z j))) ∙ sum_none p.cols

-- a product of two numbers above 0 isn't at most 0
not_met : (k : ℕ) (b : ℤ) → 1 ≤ k → pos 0 <ℤ b → (pos k *ℤ b) ≤ℤ pos 0 → ⊥
not_met zero b h l m = absurd (omega arith)
not_met (suc k) (pos zero) h l m = absurd l.lt
not_met (suc k) (pos (suc n)) h l m = let z = leb→le (suc k * suc n) 0 m.le in omega (arith, z)
not_met (suc k) (negsuc n) h l m = absurd l.lt

none_shown : (s : Sheet) → True s → ShowsNone s → NoneKeep s.plan
none_shown s t n k h z keeps =
    not_met k (s.kept.B ‼ 0) h n.above
    (subst (λ (v : ℤ). (pos k *ℤ (s.kept.B ‼ 0)) ≤ℤ v) (ap (λ (v : ℤ). pos unit *ℤ v) (costless s.plan z n.costless) ∙ *ℤ-zero (pos unit)) (floor_theorem s t n.has_floor k z keeps))

none_says : (s : Sheet) {v : Verdict} → VerdictSays s v → v ≡ NoneExists → ShowsNone s
none_says s (VerdictSays.size h) w = absurd (let q : ◌≡◌ {A = ℕ} 0 1 = cc in omega arith)
none_says s (VerdictSays.over z h) w = absurd (let q : ◌≡◌ {A = ℕ} 0 1 = cc in omega arith)
none_says s (VerdictSays.none z k n) w = n
none_says s (VerdictSays.not_plan z k n h) w = absurd (let q : ◌≡◌ {A = ℕ} 0 1 = cc in omega arith)
none_says s (VerdictSays.no_floor z k n p h) w = absurd (let q : ◌≡◌ {A = ℕ} 0 1 = cc in omega arith)
none_says s (VerdictSays.gap z k n p f) w = absurd (let q : ◌≡◌ {A = ℕ} 0 1 = cc in omega arith)

pub none_theorem : (s : Sheet) → True s → verdict s ≡ NoneExists → NoneKeep s.plan
none_theorem s t w = none_shown s t (none_says s (verdict_says s) w)

-- "The gap verdict and its meaning stay": a true sheet whose amounts are a plan isn't one that shows that none exists, so it has its gap as before
pub gap_stays : (s : Sheet) → True s → Sized s → KeptIn s → IsPlan s.kept → HasFloor s.kept → verdict s ≡ Gap (pos unit *ℤ (s.kept.C ‼ 0) -ℤ s.kept.B ‼ 0)
gap_stays s t z k p f = verdict_only s (VerdictSays.gap z k (λ n. none_shown s t n 1 (omega arith) (x s.plan) (own_true s t p)) p f)
