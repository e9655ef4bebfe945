-- `sheet_change_after::moved_fine` meets its contract. Assumes nothing.
use mathlib.Core.Path.{◌≡◌, ap, ◌∙◌}
use native.Mathlib.Omega.{arith}
use lib.IntN.{nat_abs}
use Rattle.doubles.specs.Limits.{max_c, max_b}
use Rattle.sheet_terms.proofs.Machine.{result}
use mathlib.Core.Bool.{◌&&◌}
use lib.Dec.{leb}
use Rattle.sheet_rules.specs.Sheet.{Sheet, plan_of, kept_of, sheet_of}
use Rattle.sheet_rules.specs.Edit.{moved_c, moved_b, moved_broken, moved_outside, moved_wrong, moved_absent, moved_fine}
use Rattle.sheet_change_moves.specs.After.{totals_after}
use Rattle.sheet_change_moves.specs.declared.Totals.{Totals}
use Rattle.sheet_rules.specs.Verdict.{count_fine}
use Rattle.sheet_change_after.proofs.moved_fine.Statement.{statement}
use Rattle.sheet_change_after.proofs.moved_fine.Tie as tie

abbrev sheet : tie.Start → Sheet
sheet s = sheet_of (plan_of s.args.rows s.args.columns s.args.coefs.now s.args.costs.now s.args.lowers.now s.args.uppers.now s.args.lower_marks.now s.args.upper_marks.now s.args.rhs.now s.args.ops.now s.args.amounts.now s.args.mults.now) (kept_of s.args.r.now s.args.d.now s.args.c.now s.args.b.now s.args.counts.now)

totals-after-requires : tie.Need-totals_after-t-requires
totals-after-requires c κs = (c.requires.0, c.requires.1)

activities-stay-requires : tie.Need-activities_stay-requires
activities-stay-requires c κs = c.requires.0

prices-stay-requires : tie.Need-prices_stay-requires
prices-stay-requires c κs = c.requires.0

size-requires : tie.Need-size-requires
size-requires c κs = tt

size-requires-2 : tie.Need-size-requires-2
size-requires-2 c κs = tt

count-fine-requires : tie.Need-count_fine-requires
count-fine-requires c κs = omega (arith, c.requires.0.sized)

count-fine-requires-2 : tie.Need-count_fine-requires-2
count-fine-requires-2 c κs = omega (arith, c.requires.0.sized)

count-fine-requires-3 : tie.Need-count_fine-requires-3
count-fine-requires-3 c κs = omega (arith, c.requires.0.sized)

count-fine-requires-4 : tie.Need-count_fine-requires-4
count-fine-requires-4 c κs = omega (arith, c.requires.0.sized)

returns : tie.Need-returns
unfolding moved_fine totals_after
returns c =
    let s = c.before.before.before.before.before.before.before.before.before.before.before.before.before.before.before.before.before.before in
    let t = c.totals_after-t.result in
    let te = c.totals_after-t.ensures in
    let p0 : c.size.result ≡ nat_abs (moved_c (sheet s) s.args.e) = c.size.ensures ∙ ap (nat_abs) (result t.cost c.struct_told-1.given.0.1 ∙ ap (λ (x : Totals). x.cost) te) in
    let p1 : c.size-2.result ≡ nat_abs (moved_b (sheet s) s.args.e) = c.size-2.ensures ∙ ap (nat_abs) (result t.floor c.struct_told-2-1.given.1.0.1 ∙ ap (λ (x : Totals). x.floor) te) in
    let p2 : c.count_fine.result ≡ count_fine s.args.rows (moved_broken (sheet s) s.args.e) = c.count_fine.ensures ∙ ap (count_fine s.args.rows) (result t.broken c.struct_told-3-1.given.1.1.0.1 ∙ ap (λ (x : Totals). x.broken) te) in
    let p3 : c.count_fine-2.result ≡ count_fine s.args.columns (moved_outside (sheet s) s.args.e) = c.count_fine-2.ensures ∙ ap (count_fine s.args.columns) (result t.outside c.struct_told-4-1.given.1.1.1.0.1 ∙ ap (λ (x : Totals). x.outside) te) in
    let p4 : c.count_fine-3.result ≡ count_fine s.args.rows (moved_wrong (sheet s) s.args.e) = c.count_fine-3.ensures ∙ ap (count_fine s.args.rows) (result t.wrong c.struct_told-5-1.given.1.1.1.1.0.1 ∙ ap (λ (x : Totals). x.wrong) te) in
    let p5 : c.count_fine-4.result ≡ count_fine s.args.columns (moved_absent (sheet s) s.args.e) = c.count_fine-4.ensures ∙ ap (count_fine s.args.columns) (result t.absent c.struct_told-6-1.given.1.1.1.1.1.0.1 ∙ ap (λ (x : Totals). x.absent) te) in
    λ h. c.activities_stay.ensures h && c.prices_stay.ensures h && leb (p0 h) max_c && leb (p1 h) max_b && p2 h && p3 h && p4 h && p5 h

pub moved_fine_spec : {M : Type 1} → statement M
moved_fine_spec =
    tie.close
    (tie.spec
    totals-after-requires
    activities-stay-requires
    prices-stay-requires
    size-requires
    size-requires-2
    count-fine-requires
    count-fine-requires-2
    count-fine-requires-3
    count-fine-requires-4
    returns)
