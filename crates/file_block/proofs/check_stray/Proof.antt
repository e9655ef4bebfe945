-- `file_block::check_stray` meets its contract: each return by its law. Assumes nothing.
use mathlib.Core.Path.{◌≡◌, sym, ◌∙◌}
use mathlib.Core.Bool.{true}
use Prim.Native.Nat.{◌≤◌}
use native.Mathlib.Omega.{arith}
use lib.ListN.{length}
use borrow.Author.Tests.{not-true, not-false}
use borrow.Author.Rules.{rules}
use Rattle.doubles.specs.Lists.{◌#◌}
use Rattle.file_rules.specs.Block.{size_of_block}
use Rattle.file_rules.specs.PlanFile.{plan_kind}
use Rattle.file_block.proofs.Laws.{stray_cut, stray_unknown, stray_wrong, stray_after}
use Rattle.file_block.proofs.check_stray.Statement.{statement}
use Rattle.file_block.proofs.check_stray.Tie as tie

whole : (c : tie.Else-b-lt512) → size_of_block ≤ length c.args.b.now
whole c = omega arith

known : (c : tie.Else-not-is_plan_kind) → plan_kind (c.args.b.now # 0) ≡ true
known c = sym c.is_plan_kind.ensures ∙ not-false _ c.if-not-is_plan_kind.false-raw

returns : tie.Need-returns-then-b-lt512
returns c = stray_cut plan_kind _ (omega arith)

shared-slice-read-is-plan-kind : tie.Need-bounds-b-0
shared-slice-read-is-plan-kind c = search rules

is-plan-kind-requires : tie.Need-is_plan_kind-requires
is-plan-kind-requires c κs = search rules

returns-2 : tie.Need-returns-then-not-is_plan_kind
returns-2 c = stray_unknown plan_kind _ (whole c.before.before.before) (sym c.is_plan_kind.ensures ∙ not-true _ c.if-not-is_plan_kind.true-raw)

checks-requires : tie.Need-checks-requires
checks-requires c κs = search rules

returns-3 : tie.Need-returns-then-not-checks
returns-3 c = let e = c.before.before in stray_wrong plan_kind _ (whole e.before.before.before) (known e) (sym c.checks.ensures ∙ not-true _ c.if-not-checks.true-raw)

returns-4 : tie.Need-returns
returns-4 c = let e = c.before.before in stray_after plan_kind _ (whole e.before.before.before) (known e) (sym c.checks.ensures ∙ not-false _ c.if-not-checks.false-raw)

pub check_stray_spec : {M : Type 1} → statement M
check_stray_spec =
    tie.close
    (tie.spec
    returns
    shared-slice-read-is-plan-kind
    is-plan-kind-requires
    returns-2
    checks-requires
    returns-3
    returns-4)
