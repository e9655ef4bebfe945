-- `sheet_change_edit::both_fine` meets its contract. Assumes nothing.
use mathlib.Core.Path.{◌≡◌, sym, ap, ◌∙◌}
use mathlib.Core.Bool.{not}
use native.Mathlib.Omega.{arith}
use Rattle.doubles.specs.Limits.{max_bound}
use Rattle.doubles.specs.Lists.{◌#◌}
use Rattle.sheet_rules.specs.Sum.{◌‼◌}
use Rattle.sheet_terms.proofs.Machine.{result, num, exact}
use Rattle.sheet_rules.specs.Opening.{crosses}
use Rattle.sheet_rules.specs.Sheet.{Sheet, plan_of, kept_of, sheet_of}
use Rattle.sheet_change_edit.proofs.Laws.{both_3, both_4, both_other}
use Rattle.sheet_change_edit.proofs.both_fine.Statement.{statement}
use Rattle.sheet_change_edit.proofs.both_fine.Tie as tie

abbrev sheet : tie.Start → Sheet
sheet s = sheet_of (plan_of s.args.rows s.args.columns s.args.coefs.now s.args.costs.now s.args.lowers.now s.args.uppers.now s.args.lower_marks.now s.args.upper_marks.now s.args.rhs.now s.args.ops.now s.args.amounts.now s.args.mults.now) (kept_of s.args.r.now s.args.d.now s.args.c.now s.args.b.now s.args.counts.now)

mul-crosses : tie.Need-offset_bounds-uppers-j
mul-crosses c = omega (arith, c.requires.1.column_in_holds (rw c.if-kind-eq3.true), c.requires.0)

shared-slice-copy-out-crosses : tie.Need-bounds-uppers-j
shared-slice-copy-out-crosses c = omega (arith, c.requires.1.column_in_holds (rw c.if-kind-eq3.true), c.requires.0)

shared-slice-read-crosses : tie.Need-bounds-upper_marks-j
shared-slice-read-crosses c = omega (arith, c.requires.1.column_in_holds (rw c.if-kind-eq3.true), c.requires.0)

crosses-requires : tie.Need-crosses-requires
crosses-requires c κs = tt

returns : tie.Need-returns-then-kind-eq3
returns c =
    let s = c.before.before.before.before.before.before.before.before in
    let w = c.if-kind-eq3.true in
    let h : c.crosses.result ≡ crosses s.args.e.number (s.args.uppers.now ‼ s.args.e.column) 1 (s.args.upper_marks.now # s.args.e.column) = c.crosses.ensures ∙ rw (exact (num s.args.e.number max_bound (s.requires.2.lower_in w)) tt, result (s.args.uppers.now ‼ s.args.e.column) c.crosses-arg-1.given) in
    ap not h ∙ sym (both_3 (sheet s) s.args.e s.requires.0 s.requires.1 w)

mul-crosses-2 : tie.Need-offset_bounds-lowers-j
mul-crosses-2 c = omega (arith, c.requires.1.column_in_holds (rw c.if-kind-eq4.true), c.requires.0)

shared-slice-copy-out-crosses-2 : tie.Need-bounds-lowers-j
shared-slice-copy-out-crosses-2 c = omega (arith, c.requires.1.column_in_holds (rw c.if-kind-eq4.true), c.requires.0)

shared-slice-read-crosses-2 : tie.Need-bounds-lower_marks-j
shared-slice-read-crosses-2 c = omega (arith, c.requires.1.column_in_holds (rw c.if-kind-eq4.true), c.requires.0)

crosses-requires-2 : tie.Need-crosses-requires-then-kind-eq4
crosses-requires-2 c κs = tt

returns-2 : tie.Need-returns-then-kind-eq4
returns-2 c =
    let s = c.before.before.before.before.before.before.before.before.before in
    let w = c.if-kind-eq4.true in
    let h : c.crosses-then-kind-eq4.result ≡ crosses (s.args.lowers.now ‼ s.args.e.column) s.args.e.number (s.args.lower_marks.now # s.args.e.column) 1 = c.crosses-then-kind-eq4.ensures ∙ rw (result (s.args.lowers.now ‼ s.args.e.column) c.crosses-arg-then-kind-eq4-1.given, exact (num s.args.e.number max_bound (s.requires.2.upper_in w)) tt) in
    ap not h ∙ sym (both_4 (sheet s) s.args.e s.requires.0 s.requires.1 w)

returns-3 : tie.Need-returns
returns-3 c = let s = c.before.before.before.before.before in sym (both_other (sheet s).plan s.args.e c.if-kind-eq3.false c.if-kind-eq4.false)

pub both_fine_spec : {M : Type 1} → statement M
both_fine_spec =
    tie.close
    (tie.spec
    mul-crosses
    shared-slice-copy-out-crosses
    shared-slice-read-crosses
    crosses-requires
    returns
    mul-crosses-2
    shared-slice-copy-out-crosses-2
    shared-slice-read-crosses-2
    crosses-requires-2
    returns-2
    returns-3)
