-- `sheet_open::write_kept` meets its contract. Assumes nothing.
use borrow.Author.Rules.{rules}
use Rattle.sheet_rules.specs.Sheet.{Plan, Kept, plan_of, kept_of, sheet_of, activity, price}
use Rattle.sheet_tests.proofs.Tells.{plan_sized_holds, fine}
use Rattle.sheet_open.proofs.Laws.{prices_small, kept_law}
use Rattle.sheet_tests.specs.Sized.{PlanSized}
use Rattle.sheet_open.proofs.write_kept.Statement.{statement}
use Rattle.sheet_open.proofs.write_kept.Tie as tie

abbrev p : tie.Start → Plan
p s = plan_of s.args.rows s.args.columns s.args.coefs.now s.args.costs.now s.args.lowers.now s.args.uppers.now s.args.lower_marks.now s.args.upper_marks.now s.args.rhs.now s.args.ops.now s.args.amounts.now s.args.mults.now

abbrev k : tie.Start → Kept
k s = kept_of s.args.r.now s.args.d.now s.args.c.now s.args.b.now s.args.counts.now

sized : (s : tie.Start) → PlanSized (p s)
sized s = plan_sized_holds (sheet_of (p s) (k s)) s.requires.0

write-activities-requires : tie.Need-write_activities-requires
write-activities-requires c κs = search rules

write-prices-requires : tie.Need-write_prices-requires
write-prices-requires c κs = search rules

write-totals-requires : tie.Need-write_totals-requires
unfolding price
write-totals-requires c κs =
    let at-write-prices : tie.After-write_prices = search in
    let s : tie.Start = search in
    let w = at-write-prices.write_prices in
    (sized s, fine (p s) (sized s) s.requires.1.arrays_in, prices_small (p s) s.args.d.now w.new.d (sized s) s.requires.1 (rw w.auto.d s.requires.0.d_fits) w.ensures, s.requires.0.c_fits, s.requires.0.b_fits)

write-counts-requires : tie.Need-write_counts-requires
write-counts-requires c κs =
    let at-write-prices : tie.After-write_prices = search in
    let at-write-activities : tie.After-write_activities = search in
    let s : tie.Start = search in
    (sized s, rw at-write-activities.write_activities.auto.r s.requires.0.r_fits, rw at-write-prices.write_prices.auto.d s.requires.0.d_fits, s.requires.0.counts_fit)

same_length : tie.Need-shape_of-r
same_length c = search rules

same-length-2 : tie.Need-shape_of-d
same-length-2 c = search rules

same-length-3 : tie.Need-shape_of-c
same-length-3 c = search rules

same-length-4 : tie.Need-shape_of-b
same-length-4 c = search rules

same-length-5 : tie.Need-shape_of-counts
same-length-5 c = search rules

returns : tie.Need-returns
unfolding activity price
returns c =
    let at-write-totals : tie.After-write_totals = search in
    let at-write-prices : tie.After-write_prices = search in
    let at-write-activities : tie.After-write_activities = search in
    let s : tie.Start = search in
    kept_law (p s) (k s) _ _ _ _ _ at-write-activities.write_activities.ensures at-write-prices.write_prices.ensures at-write-totals.write_totals.ensures.0 at-write-totals.write_totals.ensures.1 c.write_counts.ensures

pub write_kept_spec : {M : Type 1} → statement M
write_kept_spec =
    tie.close
    (tie.spec
    write-activities-requires
    write-prices-requires
    write-totals-requires
    write-counts-requires
    same_length
    same-length-2
    same-length-3
    same-length-4
    same-length-5
    returns)
