-- `sheet_change_edit::edit_refusal` meets its contract: each answer is given when 01's words for it hold. Assumes nothing.
use mathlib.Core.Path.{◌≡◌, sym, ap, ◌∙◌}
use mathlib.Core.Bool.{true}
use native.Mathlib.Omega.{arith}
use lib.IntN.{nat_abs}
use borrow.Author.Tests.{not-true, not-false}
use Rattle.sheet_rules.specs.Sheet.{Sheet, plan_of, kept_of, sheet_of}
use Rattle.sheet_rules.specs.Edit.{both_fine, sound_at}
use Rattle.sheet_rules.specs.Words.{Today, Placed, NumberIn}
use Rattle.sheet_rules.specs.declared.Edit.{Edit}
use Rattle.sheet_rules.proofs.Tests.{sizes_decide, index_decides, sound_decides}
use Rattle.sheet_terms.proofs.Machine.{result}
use Rattle.sheet_change_edit.specs.Rules.{rule_of, limit_of}
use Rattle.sheet_change_edit.specs.declared.Rule.{Rule}
use Rattle.sheet_change_edit.proofs.Laws.{any_number_holds, kind_today, limit_so, refused_kind, refused_sizes, refused_index, refused_number, refused_crossed, refused_before, refused_after, passes}
use Rattle.sheet_change_edit.proofs.edit_refusal.Statement.{statement}
use Rattle.sheet_change_edit.proofs.edit_refusal.Tie as tie

abbrev sheet : tie.Start → Sheet
sheet s = sheet_of (plan_of s.args.rows s.args.columns s.args.coefs.now s.args.costs.now s.args.lowers.now s.args.uppers.now s.args.lower_marks.now s.args.upper_marks.now s.args.rhs.now s.args.ops.now s.args.amounts.now s.args.mults.now) (kept_of s.args.r.now s.args.d.now s.args.c.now s.args.b.now s.args.counts.now)

abbrev e : tie.Start → Edit
e s = s.args.e

-- 16 and 15 not given
today : (c : tie.Else-rule-ne0) → Today (e c.before.before.before.before.before.before)
unfolding rule_of
today c = kind_today (e c.before.before.before.before.before.before) (ap (λ (r : Rule). r.refusal) (sym c.kind_rule-rule.ensures) ∙ c.if-rule-ne0.false)

-- nor 11
placed : (c : tie.Else-not-index_fine) → Placed (sheet c.before.before.before.before.before.before.before.before.before.before) (e c.before.before.before.before.before.before.before.before.before.before)
placed c =
    let s = c.before.before.before.before.before.before.before.before.before.before in
    record {
      today = today c.before.before.before.before;
      sized = (sizes_decide (sheet s)).yes_so (sym c.sizes_fine.ensures ∙ not-false _ c.if-not-sizes_fine.false-raw);
      index = (index_decides (sheet s).plan (e s)).yes_so (sym c.index_fine.ensures ∙ not-false _ c.if-not-index_fine.false-raw);
    }

-- the size of the number handed in, and its limit
measured : (c : tie.After-size) → c.size.result ≡ nat_abs (e c.before.before.before.before.before.before.before.before.before.before.before.before).number
measured c = c.size.ensures ∙ ap nat_abs (result (e c.before.before.before.before.before.before.before.before.before.before.before.before).number c.struct_told-1.given.1.1.1.0.1)

limit : (c : tie.After-kind_rule-rule) → c.kind_rule-rule.result.limit ≡ limit_of (e c.before.before.before.before).kind
unfolding rule_of
limit c = ap (λ (r : Rule). r.limit) c.kind_rule-rule.ensures

-- nor 12
number : (c : tie.Else-size-rule) → NumberIn (e c.before.before.before.before.before.before.before.before.before.before.before.before.before.before)
number c = limit_so (e c.before.before.before.before.before.before.before.before.before.before.before.before.before.before) (omega (arith, c.if-size-rule.false, measured c.before.before, limit c.before.before.before.before.before.before.before.before.before.before))

-- nor 13
ordered : (c : tie.Else-not-both_fine) → both_fine (sheet c.before.before.before.before.before.before.before.before.before.before.before.before.before.before.before.before).plan (e c.before.before.before.before.before.before.before.before.before.before.before.before.before.before.before.before) ≡ true
ordered c = sym c.both_fine.ensures ∙ not-false _ c.if-not-both_fine.false-raw

-- nor 14 before the edit
fine : (c : tie.Else-not-sound) → sound_at (e c.before.before.before.before.before.before.before.before.before.before.before.before.before.before.before.before.before.before) (sheet c.before.before.before.before.before.before.before.before.before.before.before.before.before.before.before.before.before.before) ≡ true
fine c = sym c.sound.ensures ∙ not-false _ c.if-not-sound.false-raw

kind-rule-requires : tie.Need-kind_rule-rule-requires
kind-rule-requires c κs = tt

returns : tie.Need-returns-then-rule-ne0
unfolding rule_of
returns c =
    let s = c.before.before.before.before.before.before in
    let w = ap (λ (r : Rule). r.refusal) c.kind_rule-rule.ensures in
    w ∙ refused_kind (sheet s) (e s) (λ z. c.if-rule-ne0.true (w ∙ z))

sizes-fine-requires : tie.Need-sizes_fine-requires
sizes-fine-requires c κs = tt

returns-2 : tie.Need-returns-then-not-sizes_fine
returns-2 c = refused_sizes (sheet c.before.before.before.before.before.before.before.before) (e c.before.before.before.before.before.before.before.before) (today c.before.before) (sym c.sizes_fine.ensures ∙ not-true _ c.if-not-sizes_fine.true-raw)

index-fine-requires : tie.Need-index_fine-requires
index-fine-requires c κs = tt

returns-3 : tie.Need-returns-then-not-index_fine
returns-3 c = refused_index (sheet c.before.before.before.before.before.before.before.before.before.before) (e c.before.before.before.before.before.before.before.before.before.before) (today c.before.before.before.before) (sym c.index_fine.ensures ∙ not-true _ c.if-not-index_fine.true-raw)

size-requires : tie.Need-size-requires
size-requires c κs = tt

returns-4 : tie.Need-returns-then-size-rule
returns-4 c =
    let s = c.before.before.before.before.before.before.before.before.before.before.before.before.before.before in
    refused_number (sheet s) (e s) (placed c.before.before.before.before) (any_number_holds (e s).number c.struct_told-1.given.1.1.1.0.1) (omega (arith, c.if-size-rule.true, measured c.before.before, limit c.before.before.before.before.before.before.before.before.before.before))

both-fine-requires : tie.Need-both_fine-requires
both-fine-requires c κs = let w = placed c.before.before.before.before in (w.sized, w.index, number c)

returns-5 : tie.Need-returns-then-not-both_fine
returns-5 c = refused_crossed (sheet c.before.before.before.before.before.before.before.before.before.before.before.before.before.before.before.before) (e c.before.before.before.before.before.before.before.before.before.before.before.before.before.before.before.before) (placed c.before.before.before.before.before.before) (number c.before.before) (sym c.both_fine.ensures ∙ not-true _ c.if-not-both_fine.true-raw)

sound-requires : tie.Need-sound-requires
sound-requires c κs = let w = placed c.before.before.before.before.before.before in (w.sized, w.index)

returns-6 : tie.Need-returns-then-not-sound
returns-6 c = refused_before (sheet c.before.before.before.before.before.before.before.before.before.before.before.before.before.before.before.before.before.before) (e c.before.before.before.before.before.before.before.before.before.before.before.before.before.before.before.before.before.before) (placed c.before.before.before.before.before.before.before.before) (number c.before.before.before.before) (ordered c.before.before) (sym c.sound.ensures ∙ not-true _ c.if-not-sound.true-raw)

moved-fine-requires : tie.Need-moved_fine-requires
moved-fine-requires c κs =
    let s = c.before.before.before.before.before.before.before.before.before.before.before.before.before.before.before.before.before.before in
    let w = placed c.before.before.before.before.before.before.before.before in
    (record { sized = w.sized; index = w.index; number = number c.before.before.before.before; sound = (sound_decides (e s) (sheet s)).yes_so (fine c) }, w.today)

returns-7 : tie.Need-returns-then-not-moved_fine
returns-7 c = refused_after (sheet c.before.before.before.before.before.before.before.before.before.before.before.before.before.before.before.before.before.before.before.before) (e c.before.before.before.before.before.before.before.before.before.before.before.before.before.before.before.before.before.before.before.before) (placed c.before.before.before.before.before.before.before.before.before.before) (number c.before.before.before.before.before.before) (ordered c.before.before.before.before) (fine c.before.before) (sym c.moved_fine.ensures ∙ not-true _ c.if-not-moved_fine.true-raw)

returns-8 : tie.Need-returns
returns-8 c = passes (sheet c.before.before.before.before.before.before.before.before.before.before.before.before.before.before.before.before.before.before.before.before) (e c.before.before.before.before.before.before.before.before.before.before.before.before.before.before.before.before.before.before.before.before) (placed c.before.before.before.before.before.before.before.before.before.before) (number c.before.before.before.before.before.before) (ordered c.before.before.before.before) (fine c.before.before) (sym c.moved_fine.ensures ∙ not-false _ c.if-not-moved_fine.false-raw)

pub edit_refusal_spec : {M : Type 1} → statement M
edit_refusal_spec =
    tie.close
    (tie.spec
    kind-rule-requires
    returns
    sizes-fine-requires
    returns-2
    index-fine-requires
    returns-3
    size-requires
    returns-4
    both-fine-requires
    returns-5
    sound-requires
    returns-6
    moved-fine-requires
    returns-7
    returns-8)
