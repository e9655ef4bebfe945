-- `sheet_change_edit::row_fine` meets its contract. Assumes nothing.
use Rattle.std.proofs.Common.{◌≡◌, refl, sym, ap, ◌∙◌, ◌+◌, ◌*◌, nat_abs}
use native.Mathlib.Omega.{arith}
use borrow.Author.Tests.{le-leb, lt-leb}
use Rattle.doubles.specs.Loop.{all}
use Rattle.doubles.proofs.Loops.{all_next, all_fails, all_done}
use Rattle.sheet_rules.specs.Sum.{◌‼◌}
use Rattle.sheet_rules.specs.Edit.{row_fine}
use Rattle.sheet_terms.proofs.Machine.{result}
use Rattle.sheet_change_edit.proofs.row_fine.Goals.{In-loop-j, After-size}
use Rattle.sheet_change_edit.proofs.row_fine.Goals as goal

-- this turn's coefficient
element : (c : After-size) → c.size.result ≡ nat_abs (c.args.coefs.now ‼ (c.args.row * c.args.columns + c.loop-j.j))
element c = c.size.ensures ∙ ap nat_abs (result (c.args.coefs.now ‼ (c.args.row * c.args.columns + c.loop-j.j)) search)

pub loop-j-init : goal.loop-j-init
unfolding all
loop-j-init c = refl

pub returns-then-size-gt-MAX_COEFFICIENT : goal.returns-then-size-gt-MAX_COEFFICIENT
unfolding row_fine
returns-then-size-gt-MAX_COEFFICIENT c = sym (all_fails _ _ c.loop-j.j (omega arith) (rw (← element (goal.at.returns-then-size-gt-MAX_COEFFICIENT c).After-size) (lt-leb _ _ c.if-size-gt-MAX_COEFFICIENT.true)))

pub loop-j-preserved : goal.loop-j-preserved
loop-j-preserved c = all_next _ _ c.loop-j.invariant (rw (← element (goal.at.loop-j-preserved c).After-size) (le-leb _ _ c.if-size-gt-MAX_COEFFICIENT.false))

pub returns : goal.returns
unfolding row_fine
returns c = sym (all_done _ _ _ c.loop-j.auto.j-end c.loop-j-test.false c.loop-j.invariant)
