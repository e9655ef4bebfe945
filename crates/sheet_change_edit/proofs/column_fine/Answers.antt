-- `sheet_change_edit::column_fine` meets its contract. Assumes nothing.
use Rattle.std.proofs.Common.{◌≡◌, refl, sym, ap, ◌∙◌, ◌+◌, ◌*◌, nat_abs}
use native.Mathlib.Omega.{arith}
use borrow.Author.Tests.{le-leb, lt-leb}
use Rattle.doubles.specs.Loop.{all}
use Rattle.doubles.proofs.Loops.{all_next, all_fails, all_done}
use Rattle.sheet_rules.specs.Sum.{◌‼◌}
use Rattle.sheet_rules.specs.Edit.{column_fine}
use Rattle.sheet_terms.proofs.Machine.{result}
use Rattle.sheet_change_edit.proofs.column_fine.Goals.{In-loop-i, After-size}
use Rattle.sheet_change_edit.proofs.column_fine.Goals as goal

-- this turn's coefficient
element : (c : After-size) → c.size.result ≡ nat_abs (c.args.coefs.now ‼ (c.loop-i.i * c.args.columns + c.args.column))
element c = c.size.ensures ∙ ap nat_abs (result (c.args.coefs.now ‼ (c.loop-i.i * c.args.columns + c.args.column)) search)

pub loop-i-init : goal.loop-i-init
unfolding all
loop-i-init c = refl

pub returns-then-size-gt-MAX_COEFFICIENT : goal.returns-then-size-gt-MAX_COEFFICIENT
unfolding column_fine
returns-then-size-gt-MAX_COEFFICIENT c = sym (all_fails _ _ c.loop-i.i (omega arith) (rw (← element (goal.at.returns-then-size-gt-MAX_COEFFICIENT c).After-size) (lt-leb _ _ c.if-size-gt-MAX_COEFFICIENT.true)))

pub loop-i-preserved : goal.loop-i-preserved
loop-i-preserved c = all_next _ _ c.loop-i.invariant (rw (← element (goal.at.loop-i-preserved c).After-size) (le-leb _ _ c.if-size-gt-MAX_COEFFICIENT.false))

pub returns : goal.returns
unfolding column_fine
returns c = sym (all_done _ _ _ c.loop-i.auto.i-end c.loop-i-test.false c.loop-i.invariant)
