-- `sheet_terms::activity` meets its contract. Assumes nothing.
use Rattle.std.proofs.Common.{refl}
use mathlib.Core.Path.{sym, ◌∙◌}
use native.Mathlib.Omega.{arith}
use Rattle.doubles.specs.Loop.{run}
use Rattle.sheet_rules.specs.Sum.{sum}
use Rattle.sheet_rules.specs.Sheet.{row_sum}
use Rattle.sheet_terms.specs.Small.{block}
use Rattle.sheet_terms.proofs.Machine.{result}
use Rattle.sheet_terms.proofs.Laws.{pass_zeros}
use Rattle.sheet_terms.proofs.activity.Goals.{then-not-quiet, else-not-quiet}
use Rattle.sheet_terms.proofs.activity.Goals as goal

pub go_on-requires : goal.go_on-requires
unfolding sum run
go_on-requires c = (omega arith, omega arith, c.requires.0, c.requires.1, c.requires.2, refl)

pub returns-then-row : goal.returns-then-row
unfolding row_sum
returns-then-row c = result _ c.go_on.type_inv ∙ c.go_on.ensures

pub loop-j-init : goal.loop-j-init
unfolding sum run
loop-j-init c = (omega arith, refl)

pub loop-j-preserved : goal.loop-j-preserved
loop-j-preserved c = (
  omega arith,
  elim c.if-not-quiet.branch [
    | then-not-quiet w ↦ w.r-is ∙ result _ w.go_on-r.type_inv ∙ w.go_on-r.ensures
    | else-not-quiet w ↦ w.r-is ∙ c.loop-j.invariant.1 ∙ sym (pass_zeros c.args.row.now c.args.amounts.now c.loop-j.j block (sym c.quiet.ensures ∙ w.if-not-quiet.false))
  ],
)

pub returns : goal.returns
unfolding row_sum
returns c = result _ c.go_on-2.type_inv ∙ c.go_on-2.ensures
