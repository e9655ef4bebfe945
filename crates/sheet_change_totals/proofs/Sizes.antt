-- What the parts and moves keep small. Assumes nothing.
use mathlib.Core.Path.{◌≡◌, refl, ◌∙◌}
use mathlib.Core.Bool.{Bool, true, false, not}
use Prim.Native.Nat.{ℕ, ◌+◌, ◌*◌, ◌^◌, ◌≤◌}
use native.Mathlib.Nat.{le_trans}
use native.Mathlib.Omega.{arith}
use lib.Dec.{T, eqb, ltb, lit≤}
use lib.IntN.{ℤ, pos, nat_abs, ◌+ℤ◌, ◌-ℤ◌}
use borrow.Author.Tests.{eqb-true}
use Rattle.doubles.specs.Limits.{max_rows, max_columns, max_cost, max_right_side, max_multiplier, max_coefficient, max_amount, max_d, unit, max_bound}
use Rattle.sheet_rules.specs.Sheet.{holds, wrong, outside, lacks}
use Rattle.sheet_rules.specs.Words.{NumberIn}
use Rattle.sheet_rules.specs.declared.Edit.{Edit}
use Rattle.sheet_rules.proofs.Sizes.{abs_add, mul_size, sub_size, bit_size, term_size}
use Rattle.sheet_terms.specs.Small.{far_d}
use Rattle.sheet_terms.proofs.Machine.{E, num, add, sub, mul, word, mach, exact, size}
use Rattle.sheet_change_moves.specs.declared.Totals.{Totals}
use Rattle.sheet_change_totals.specs.declared.Column.{Column}
use Rattle.sheet_change_totals.specs.declared.Row.{Row}
use Rattle.sheet_change_totals.specs.Parts.{totals_of, with_broken, with_terms, pick, column_part, row_part, moved_totals, column_after, row_after, column_totals, row_totals, SmallColumn, SmallRow, Part, Whole, Near}

pub column_part_small : (x : Column) → SmallColumn far_d x → Part (column_part x)
unfolding column_part
column_part_small x h = record {
  cost_in = mul_size x.cost x.amount _ _ h.cost_in h.amount_in;
  floor_in = term_size far_d max_bound x.price x.low x.high _ _ h.price_in_holds h.low_in h.high_in;
  broken_in = lit≤ tt;
  outside_in = bit_size (outside x.amount x.low x.high x.lowmark x.highmark);
  wrong_in = lit≤ tt;
  absent_in = bit_size (lacks x.price x.lowmark x.highmark);
}

pub row_part_small : (y : Row) → SmallRow y → Part (row_part y)
unfolding row_part
row_part_small y h = record {
  cost_in = lit≤ tt;
  floor_in = le_trans (mul_size y.mult y.right max_multiplier max_right_side h.mult_in h.right_in) (lit≤ tt);
  broken_in = bit_size (not (holds y.op y.activity y.right));
  outside_in = lit≤ tt;
  wrong_in = bit_size (wrong y.op y.mult);
  absent_in = lit≤ tt;
}

step_size : (m p : ℕ) (t old new : ℤ) → nat_abs t ≤ m → nat_abs old ≤ p → nat_abs new ≤ p → nat_abs (t +ℤ (new -ℤ old)) ≤ m + (p + p)
step_size m p t old new h k l = omega (arith, abs_add t (new -ℤ old), sub_size new old p p l k, h)

pub moved_near : (t a b : Totals) → Whole t → Part a → Part b → Near (moved_totals t a b)
unfolding moved_totals
moved_near t a b h k l = record {
  cost_in = step_size _ _ t.cost a.cost b.cost h.cost_in k.cost_in l.cost_in;
  floor_in = step_size _ _ t.floor a.floor b.floor h.floor_in k.floor_in l.floor_in;
  broken_in = step_size _ _ t.broken a.broken b.broken h.broken_in k.broken_in l.broken_in;
  outside_in = step_size _ _ t.outside a.outside b.outside h.outside_in k.outside_in l.outside_in;
  wrong_in = step_size _ _ t.wrong a.wrong b.wrong h.wrong_in k.wrong_in l.wrong_in;
  absent_in = step_size _ _ t.absent a.absent b.absent h.absent_in k.absent_in l.absent_in;
}

pub near : (t : Totals) → Whole t → Near t
near t h = record {
  cost_in = le_trans h.cost_in (lit≤ tt);
  floor_in = le_trans h.floor_in (lit≤ tt);
  broken_in = le_trans h.broken_in (lit≤ tt);
  outside_in = le_trans h.outside_in (lit≤ tt);
  wrong_in = le_trans h.wrong_in (lit≤ tt);
  absent_in = le_trans h.absent_in (lit≤ tt);
}

pub wider : (x : Column) → SmallColumn max_d x → SmallColumn far_d x
wider x h = record { cost_in = h.cost_in; low_in = h.low_in; high_in = h.high_in; amount_in = h.amount_in; price_in_holds = le_trans h.price_in_holds (lit≤ tt) }

-- what the machine reads back of a number that is known
pub back : (z w : ℤ) (m : ℕ) → z ≡ w → nat_abs w ≤ m → T (ltb m (2 ^ 63)) → word z ≡ w
back z w m e h t = exact (num z m (rw e h)) t ∙ e

-- ---- after an edit
pub picked : {A : Type 0} (P : A → Type 0) (b : Bool) (new old : A) → (b ≡ true → P new) → P old → P (pick b new old)
picked P true new old h k = h refl
picked P false new old h k = k

module _ (e : Edit) (n : NumberIn e) where
  pub column_after_small : (x : Column) → SmallColumn max_d x → SmallColumn far_d (column_after e x)
  unfolding column_after
  column_after_small x h = record {
    cost_in = picked (λ (z : ℤ). nat_abs z ≤ max_cost) (eqb e.kind 2) _ _ (λ w. n.cost_in (eqb-true _ _ w)) h.cost_in;
    low_in = picked (λ (z : ℤ). nat_abs z ≤ max_bound) (eqb e.kind 8) _ _ (λ _. lit≤ tt) (picked (λ (z : ℤ). nat_abs z ≤ max_bound) (eqb e.kind 3) _ _ (λ w. n.lower_in (eqb-true _ _ w)) h.low_in);
    high_in = picked (λ (z : ℤ). nat_abs z ≤ max_bound) (eqb e.kind 9) _ _ (λ _. lit≤ tt) (picked (λ (z : ℤ). nat_abs z ≤ max_bound) (eqb e.kind 4) _ _ (λ w. n.upper_in (eqb-true _ _ w)) h.high_in);
    amount_in = picked (λ (z : ℤ). nat_abs z ≤ max_amount) (eqb e.kind 1) _ _ (λ w. n.amount_in (eqb-true _ _ w)) h.amount_in;
    price_in_holds = picked (λ (z : ℤ). nat_abs z ≤ far_d) (eqb e.kind 2) _ _ (λ w. le_trans (size (add (num x.price max_d h.price_in_holds) (mul (num (pos unit) unit (lit≤ tt)) (sub (num e.number max_cost (n.cost_in (eqb-true _ _ w))) (num x.cost max_cost h.cost_in)))) tt) (lit≤ tt)) (le_trans h.price_in_holds (lit≤ tt));
  }

  pub row_after_small : (y : Row) → SmallRow y → SmallRow (row_after e y)
  unfolding row_after
  row_after_small y h = record {
    right_in = picked (λ (z : ℤ). nat_abs z ≤ max_right_side) (eqb e.kind 5) _ _ (λ w. n.right_in (eqb-true _ _ w)) h.right_in;
    mult_in = picked (λ (z : ℤ). nat_abs z ≤ max_multiplier) (eqb e.kind 7) _ _ (λ w. n.mult_in (eqb-true _ _ w)) h.mult_in;
  }

  pub column_totals_near : (t : Totals) (x : Column) → Whole t → SmallColumn max_d x → Near (column_totals e t x)
  column_totals_near t x g h = moved_near t _ _ g (column_part_small x (wider x h)) (column_part_small _ (column_after_small x h))

  pub row_totals_near : (t : Totals) (y : Row) → Whole t → SmallRow y → Near (row_totals e t y)
  row_totals_near t y g h = moved_near t _ _ g (row_part_small y h) (row_part_small _ (row_after_small y h))

-- the columns' terms, each moved by a coefficient times a multiplier's change
abbrev pub terms_limit : ℕ
terms_limit = max_columns * ((max_coefficient * (2 * max_multiplier)) * max_bound)

-- ---- with the rows' or the columns' changes: what the machine makes of them
module _ (t : Totals) (h : Near t) where
  abbrev pub brokens : (n : ℤ) → nat_abs n ≤ max_rows * 2 → E
  brokens n l = add (num t.broken _ h.broken_in) (num n (max_rows * 2) l)

  pub with_broken_holds : (n : ℤ) (l : nat_abs n ≤ max_rows * 2) → totals_of (word t.cost) (word t.floor) (mach (brokens n l)) (word t.outside) (word t.wrong) (word t.absent) ≡ with_broken t n
  with_broken_holds n l = λ i. totals_of (exact (num t.cost _ h.cost_in) tt i) (exact (num t.floor _ h.floor_in) tt i) (exact (brokens n l) tt i) (exact (num t.outside _ h.outside_in) tt i) (exact (num t.wrong _ h.wrong_in) tt i) (exact (num t.absent _ h.absent_in) tt i)

  abbrev pub floors : (b : ℤ) → nat_abs b ≤ terms_limit → E
  floors b l = add (num t.floor _ h.floor_in) (num b terms_limit l)

  abbrev pub absents : (n : ℤ) → nat_abs n ≤ max_columns * 2 → E
  absents n l = add (num t.absent _ h.absent_in) (num n (max_columns * 2) l)

  pub with_terms_holds : (b n : ℤ) (k : nat_abs b ≤ terms_limit) (l : nat_abs n ≤ max_columns * 2) → totals_of (word t.cost) (mach (floors b k)) (word t.broken) (word t.outside) (word t.wrong) (mach (absents n l)) ≡ with_terms t b n
  with_terms_holds b n k l = λ i. totals_of (exact (num t.cost _ h.cost_in) tt i) (exact (floors b k) tt i) (exact (num t.broken _ h.broken_in) tt i) (exact (num t.outside _ h.outside_in) tt i) (exact (num t.wrong _ h.wrong_in) tt i) (exact (absents n l) tt i)
