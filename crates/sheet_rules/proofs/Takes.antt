-- The edited cell takes its number and mark. Assumes nothing.
use mathlib.Core.Path.{◌≡◌}
use mathlib.Core.List.{List}
use Prim.Native.Nat.{ℕ, ◌<◌, ◌≤◌}
use native.Mathlib.Omega.{arith}
use lib.ListN.{length, get_or, set}
use lib.Seq.{get_or-set_same}
use lib.IntN.{pos}
use Rattle.sheet_rules.specs.Sheet.{Sheet}
use Rattle.sheet_rules.specs.Edit.{put, edited}
use Rattle.sheet_rules.specs.Words.{Sized, Index, Takes}
use Rattle.sheet_rules.specs.declared.Edit.{Edit}
use Rattle.sheet_rules.proofs.Local.{place_in}

same : {A : Type 0} (l : List A) (d : A) {i n : ℕ} {v : A} → i < n → n ≤ length l → get_or (set l i v) i d ≡ v
same l d {i} {v = v} h k = get_or-set_same l i v d (omega arith)

pub takes : (s : Sheet) (e : Edit) → Sized s → Index s.plan e → Takes e (edited s.plan e)
unfolding edited put
takes s e z i = record {
  amount_taken = λ k. rw k (same s.plan.amounts (pos 0) (i.column_in_holds (rw k)) z.amounts_fit);
  cost_taken = λ k. rw k (same s.plan.costs (pos 0) (i.column_in_holds (rw k)) z.costs_fit);
  lower_taken = λ k. (rw k (same s.plan.lowers (pos 0) (i.column_in_holds (rw k)) z.lowers_fit), rw k (same s.plan.lower_marks 0 (i.column_in_holds (rw k)) z.lower_marks_fit));
  upper_taken = λ k. (rw k (same s.plan.uppers (pos 0) (i.column_in_holds (rw k)) z.uppers_fit), rw k (same s.plan.upper_marks 0 (i.column_in_holds (rw k)) z.upper_marks_fit));
  right_taken = λ k. rw k (same s.plan.rhs (pos 0) (i.row_within (rw k)) z.rhs_fit);
  coef_taken = λ k. rw k (same s.plan.coefs (pos 0) (place_in e.row s.plan.rows e.column s.plan.cols (i.row_within (rw k)) (i.column_in_holds (rw k))) z.coefs_fit);
  mult_taken = λ k. rw k (same s.plan.mults (pos 0) (i.row_within (rw k)) z.mults_fit);
  lower_dropped = λ k. (rw k (same s.plan.lowers (pos 0) (i.column_in_holds (rw k)) z.lowers_fit), rw k (same s.plan.lower_marks 0 (i.column_in_holds (rw k)) z.lower_marks_fit));
  upper_dropped = λ k. (rw k (same s.plan.uppers (pos 0) (i.column_in_holds (rw k)) z.uppers_fit), rw k (same s.plan.upper_marks 0 (i.column_in_holds (rw k)) z.upper_marks_fit));
}
