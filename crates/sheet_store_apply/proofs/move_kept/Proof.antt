-- `sheet_store_apply::move_kept` meets its contract. Assumes nothing.
use Rattle.sheet_rules.specs.Sheet.{Sheet, plan_of, kept_of, sheet_of}
use Rattle.sheet_store_apply.proofs.Laws.{activities_asks, prices_asks, kept_law}
use Rattle.sheet_store_apply.proofs.move_kept.Statement.{statement}
use Rattle.sheet_store_apply.proofs.move_kept.Tie as tie

abbrev sheet : tie.Start → Sheet
sheet s = sheet_of (plan_of s.args.rows s.args.columns s.args.coefs.now s.args.costs.now s.args.lowers.now s.args.uppers.now s.args.lower_marks.now s.args.upper_marks.now s.args.rhs.now s.args.ops.now s.args.amounts.now s.args.mults.now) (kept_of s.args.r.now s.args.d.now s.args.c.now s.args.b.now s.args.counts.now)

totals-after-requires : tie.Need-totals_after-t-requires
totals-after-requires c κs = (c.requires.0, c.requires.1)

move-activities-requires : tie.Need-move_activities-requires
move-activities-requires c κs = let s0 : tie.Start = search in let s = s0 in activities_asks (sheet s) s.args.e s.requires.0

move-prices-requires : tie.Need-move_prices-requires
move-prices-requires c κs = let s0 : tie.Start = search in let s = s0 in prices_asks (sheet s) s.args.e s.requires.0

store-totals-requires : tie.Need-store_totals-requires
store-totals-requires c κs = let z = c.requires.0.sized in (z.c_fits, z.b_fits, z.counts_fit)

same_length : tie.Need-shape_of-r
same_length c = c.move_activities.auto.r

same-length-2 : tie.Need-shape_of-d
same-length-2 c = c.move_prices.auto.d

same-length-3 : tie.Need-shape_of-c
same-length-3 c = c.store_totals.auto.c

same-length-4 : tie.Need-shape_of-b
same-length-4 c = c.store_totals.auto.b

same-length-5 : tie.Need-shape_of-counts
same-length-5 c = c.store_totals.auto.counts

returns : tie.Need-returns
returns c =
    let s0 : tie.Start = search in
    let s = s0 in
    kept_law (sheet s) s.args.e c.totals_after-t.result _ _ _ _ _ c.totals_after-t.ensures c.move_activities.ensures c.move_prices.ensures c.store_totals.ensures

pub move_kept_spec : {M : Type 1} → statement M
move_kept_spec =
    tie.close
    (tie.spec
    totals-after-requires
    move-activities-requires
    move-prices-requires
    store-totals-requires
    same_length
    same-length-2
    same-length-3
    same-length-4
    same-length-5
    returns)
