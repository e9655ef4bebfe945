-- `file_decide::write_refusal` meets its contract: each return by its law. Assumes nothing.
use mathlib.Core.Path.{◌≡◌, sym, ap, ◌∙◌}
use mathlib.Core.Bool.{true}
use Prim.Native.Nat.{ℕ, ◌+◌, ◌*◌, ◌≤◌}
use native.Mathlib.Omega.{arith}
use lib.ListN.{length}
use borrow.Author.Rules.{rules}
use borrow.Author.Tests.{not-true, not-false}
use Rattle.sheet_rules.specs.Sheet.{Plan, plan_of}
use Rattle.sheet_rules.specs.Opening.{numbers_fine}
use Rattle.file_rules.specs.Block.{size_of_block}
use Rattle.file_rules.specs.PlanFile.{plan_sized}
use Rattle.file_rules.proofs.File.{fits}
use Rattle.file_open.specs.Places.{places_of}
use Rattle.file_open.specs.declared.Places.{Places}
use Rattle.file_open.proofs.Laws.{end_few}
use Rattle.file_decide.proofs.Writing.{sized_plan, says_sizes, says_short, says_number, says_crossed, says_fine}
use Rattle.file_decide.proofs.write_refusal.Statement.{statement}
use Rattle.file_decide.proofs.write_refusal.Tie as tie

abbrev given : tie.Start → Plan
given s = plan_of s.args.rows s.args.columns s.args.coefs.now s.args.costs.now s.args.lowers.now s.args.uppers.now s.args.lower_marks.now s.args.upper_marks.now s.args.rhs.now s.args.ops.now s.args.amounts.now s.args.mults.now

plan-sized-requires : tie.Need-plan_sized-requires
plan-sized-requires c κs = search rules

returns : tie.Need-returns-then-not-plan_sized
returns c = says_sizes (given c.before.before.before.before.before.before) _ (sym c.plan_sized.ensures ∙ not-true _ c.if-not-plan_sized.true-raw)

-- what holds past each test
sized : (c : tie.Else-not-plan_sized) → plan_sized (given c.before.before.before.before.before.before) ≡ true
sized c = sym c.plan_sized.ensures ∙ not-false _ c.if-not-plan_sized.false-raw

end_is : (c : tie.After-layout) → c.layout.result.end ≡ (places_of c.args.rows c.args.columns).end
end_is c = ap (λ (p : Places). p.end) c.layout.ensures

few : (c : tie.After-layout) → c.layout.result.end ≤ 1000
few c = let k = fits (given c.before.before.before.before.before.before.before) (sized c.before) in omega (arith, end_is c, end_few c.args.rows c.args.columns k.rows_fit k.cols_fit)

room : (c : tie.Else-file-layout) → size_of_block * ((places_of c.args.rows c.args.columns).end + 1) ≤ length c.args.file.now
room c = omega (arith, end_is c.before.before, c.if-file-layout.false)

fine : (c : tie.Else-not-numbers_fine) → numbers_fine (given c.before.before.before.before.before.before.before.before.before.before.before) ≡ true
fine c = sym c.numbers_fine.ensures ∙ not-false _ c.if-not-numbers_fine.false-raw

layout-requires : tie.Need-layout-requires
layout-requires c κs = let k = fits (given c.before.before.before.before.before.before) (sized c) in (k.rows_fit, k.cols_fit)

add-if2 : tie.Need-overflow_add-layout
add-if2 c = omega (arith, few c.before)

mul-if2 : tie.Need-overflow_mul-layout
mul-if2 c = omega (arith, few c.before)

returns-2 : tie.Need-returns-then-file-layout
returns-2 c = says_short (given c.before.before.before.before.before.before.before.before.before) _ (sized c.before.before.before) (omega (arith, end_is c.before.before, c.if-file-layout.true))

numbers-fine-requires : tie.Need-numbers_fine-requires
numbers-fine-requires c κs = sized_plan (given c.before.before.before.before.before.before.before.before.before) (sized c.before.before.before)

returns-3 : tie.Need-returns-then-not-numbers_fine
returns-3 c = says_number (given c.before.before.before.before.before.before.before.before.before.before.before) _ (sized c.before.before.before.before.before) (room c.before.before) (sym c.numbers_fine.ensures ∙ not-true _ c.if-not-numbers_fine.true-raw)

uncrossed-requires : tie.Need-uncrossed-requires
uncrossed-requires c κs = sized_plan (given c.before.before.before.before.before.before.before.before.before.before.before) (sized c.before.before.before.before.before)

returns-4 : tie.Need-returns-then-not-uncrossed
returns-4 c = says_crossed (given c.before.before.before.before.before.before.before.before.before.before.before.before.before) _ (sized c.before.before.before.before.before.before.before) (room c.before.before.before.before) (fine c.before.before) (sym c.uncrossed.ensures ∙ not-true _ c.if-not-uncrossed.true-raw)

returns-5 : tie.Need-returns
returns-5 c = says_fine (given c.before.before.before.before.before.before.before.before.before.before.before.before.before) _ (sized c.before.before.before.before.before.before.before) (room c.before.before.before.before) (fine c.before.before) (sym c.uncrossed.ensures ∙ not-false _ c.if-not-uncrossed.false-raw)

pub write_refusal_spec : {M : Type 1} → statement M
write_refusal_spec =
    tie.close
    (tie.spec
    plan-sized-requires
    returns
    layout-requires
    add-if2
    mul-if2
    returns-2
    numbers-fine-requires
    returns-3
    uncrossed-requires
    returns-4
    returns-5)
