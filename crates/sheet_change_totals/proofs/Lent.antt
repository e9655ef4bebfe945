-- What is read of a sheet that an edit is ready for is small. Assumes nothing.
use Prim.Native.Nat.{◌≤◌}
use native.Mathlib.Nat.{le_trans}
use lib.Dec.{ltb, lit≤}
use borrow.Author.Tests.{ltb-true}
use lib.IntN.{nat_abs}
use Rattle.doubles.specs.Limits.{max_r, max_d}
use Rattle.sheet_rules.specs.Sheet.{Sheet}
use Rattle.sheet_rules.specs.declared.Edit.{Edit}
use Rattle.sheet_change_moves.specs.After.{Ready}
use Rattle.sheet_change_moves.proofs.Laws.{count_size}
use Rattle.sheet_change_totals.specs.declared.Row.{Row}
use Rattle.sheet_change_totals.specs.Parts.{totals_now, column_at, row_at, SmallColumn, SmallRow, Whole}
use Rattle.sheet_change_totals.proofs.Sizes.{picked}
use Rattle.sheet_change_totals.proofs.ByKind.{totals, column, row}

module _ (s : Sheet) (e : Edit) (g : Ready s e) where
  pub totals_whole : Whole (totals s e g)
  unfolding totals_now
  totals_whole =
      let k = g.sound.kept_in in
      let z = g.sized in
      record {
        cost_in = k.c_in 0 (lit≤ tt);
        floor_in = k.b_in 0 (lit≤ tt);
        broken_in = count_size _ _ k.broken_in (le_trans z.rows_fit (lit≤ tt));
        outside_in = count_size _ _ k.outside_in z.cols_fit;
        wrong_in = count_size _ _ k.wrong_in (le_trans z.rows_fit (lit≤ tt));
        absent_in = count_size _ _ k.absent_in z.cols_fit;
      }

  pub column_small : SmallColumn max_d (column s e g)
  unfolding column_at
  column_small =
      picked (SmallColumn max_d) (ltb e.column s.plan.cols) _ _
      (λ w. let l = ltb-true _ _ w in let p = g.sound.arrays_in in record { cost_in = p.costs_in e.column l; low_in = (p.lowers_in e.column l).small; high_in = (p.uppers_in e.column l).small; amount_in = p.amounts_in e.column l; price_in_holds = g.sound.kept_in.d_in e.column l })
      (record { cost_in = lit≤ tt; low_in = lit≤ tt; high_in = lit≤ tt; amount_in = lit≤ tt; price_in_holds = lit≤ tt })

  pub row_small : SmallRow (row s e g)
  unfolding row_at
  row_small = picked SmallRow (ltb e.row s.plan.rows) _ _ (λ w. let l = ltb-true _ _ w in record { right_in = g.sound.arrays_in.rhs_in e.row l; mult_in = g.sound.arrays_in.mults_in e.row l }) (record { right_in = lit≤ tt; mult_in = lit≤ tt })

  pub activity_small : nat_abs (row s e g).activity ≤ max_r
  unfolding row_at
  activity_small = picked (λ (y : Row). nat_abs y.activity ≤ max_r) (ltb e.row s.plan.rows) _ _ (λ w. g.sound.kept_in.r_in e.row (ltb-true _ _ w)) (lit≤ tt)
