-- `sheet::open` meets its contract. Assumes nothing.
use mathlib.Core.Path.{refl, sym, ◌∙◌}
use Rattle.sheet_rules.specs.Sheet.{Sheet, plan_of, kept_of, sheet_of}
use Rattle.sheet_rules.proofs.Exact.{opening_so}
use Rattle.sheet.proofs.Laws.{opens_new, opens_old}
use Rattle.sheet.proofs.open.Statement.{statement}
use Rattle.sheet.proofs.open.Tie as tie

abbrev sheet : tie.Start → Sheet
sheet s = sheet_of (plan_of s.args.rows s.args.columns s.args.coefs.now s.args.costs.now s.args.lowers.now s.args.uppers.now s.args.lower_marks.now s.args.upper_marks.now s.args.rhs.now s.args.ops.now s.args.amounts.now s.args.mults.now) (kept_of s.args.r.now s.args.d.now s.args.c.now s.args.b.now s.args.counts.now)

opening-requires : tie.Need-opening-refusal-requires
opening-requires c κs = tt

write-kept-requires : tie.Need-write_kept-requires
write-kept-requires c κs = let s0 : tie.Start = search in let h = opening_so (sheet s0) (sym c.opening-refusal.ensures ∙ c.if-refusal-eq0.true) in (h.0, h.1)

same_length : tie.Need-shape_of-r-then-refusal-eq0
same_length c = c.write_kept.auto.r

same-length-2 : tie.Need-shape_of-d-then-refusal-eq0
same-length-2 c = c.write_kept.auto.d

same-length-3 : tie.Need-shape_of-c-then-refusal-eq0
same-length-3 c = c.write_kept.auto.c

same-length-4 : tie.Need-shape_of-b-then-refusal-eq0
same-length-4 c = c.write_kept.auto.b

same-length-5 : tie.Need-shape_of-counts-then-refusal-eq0
same-length-5 c = c.write_kept.auto.counts

returns : tie.Need-returns-then-refusal-eq0
returns c = let s0 : tie.Start = search in opens_new (sheet s0) _ _ c.opening-refusal.ensures c.if-refusal-eq0.true c.write_kept.ensures

same-length-6 : tie.Need-shape_of-r-else-refusal-eq0
same-length-6 c = refl

same-length-7 : tie.Need-shape_of-d-else-refusal-eq0
same-length-7 c = refl

same-length-8 : tie.Need-shape_of-c-else-refusal-eq0
same-length-8 c = refl

same-length-9 : tie.Need-shape_of-b-else-refusal-eq0
same-length-9 c = refl

same-length-10 : tie.Need-shape_of-counts-else-refusal-eq0
same-length-10 c = refl

returns-2 : tie.Need-returns-else-refusal-eq0
returns-2 c = let s0 : tie.Start = search in opens_old (sheet s0) _ c.opening-refusal.ensures c.if-refusal-eq0.false

pub open_spec : {M : Type 1} → statement M
open_spec =
    tie.close
    (tie.spec
    opening-requires
    write-kept-requires
    same_length
    same-length-2
    same-length-3
    same-length-4
    same-length-5
    returns
    same-length-6
    same-length-7
    same-length-8
    same-length-9
    same-length-10
    returns-2)
