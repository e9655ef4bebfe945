-- `file::write_plan` meets its contract: each return by its law. Assumes nothing.
use mathlib.Core.Path.{◌≡◌, sym, ap, ◌∙◌}
use native.Mathlib.Omega.{arith}
use borrow.Author.Rules.{rules}
use Rattle.sheet_rules.specs.Sheet.{Plan, plan_of}
use Rattle.file_rules.specs.Calls.{write_refusal}
use Rattle.file_plan.proofs.Laws.{small_count}
use Rattle.file_decide.proofs.Writing.{roomy, writes_refused, writes_done}
use Rattle.file.proofs.write_plan.Statement.{statement}
use Rattle.file.proofs.write_plan.Tie as tie

abbrev given : tie.Start → Plan
given s = plan_of s.args.rows s.args.columns s.args.coefs.now s.args.costs.now s.args.lowers.now s.args.uppers.now s.args.lower_marks.now s.args.upper_marks.now s.args.rhs.now s.args.ops.now s.args.amounts.now s.args.mults.now

write-refusal-requires : tie.Need-write_refusal-refusal-requires
write-refusal-requires c κs = search rules

same_length : tie.Need-shape_of-file-then-refusal-ne0
same_length c = search rules

returns : tie.Need-returns-then-refusal-ne0
returns c = let s0 : tie.Start = search in writes_refused (given s0) _ _ c.write_refusal-refusal.ensures c.if-refusal-ne0.true

write-blocks-requires : tie.Need-write_blocks-blocks-requires
write-blocks-requires c κs = roomy _ _ _ _ _ _ _ _ _ _ _ _ _ (sym c.write_refusal-refusal.ensures ∙ c.if-refusal-ne0.false)

mul-t21 : tie.Need-overflow_mul-result
mul-t21 c = let k = roomy _ _ _ _ _ _ _ _ _ _ _ _ _ (sym c.write_refusal-refusal.ensures ∙ c.if-refusal-ne0.false) in omega (arith, c.write_blocks-blocks.ensures.0, small_count _ _ k.rows_fit k.cols_fit)

same-length-2 : tie.Need-shape_of-file
same-length-2 c = search rules

returns-2 : tie.Need-returns
returns-2 c = let s0 : tie.Start = search in writes_done (given s0) _ _ _ _ c.write_refusal-refusal.ensures c.if-refusal-ne0.false c.write_blocks-blocks.ensures.0 c.write_blocks-blocks.ensures.1

pub write_plan_spec : {M : Type 1} → statement M
write_plan_spec =
    tie.close
    (tie.spec
    write-refusal-requires
    same_length
    returns
    write-blocks-requires
    mul-t21
    same-length-2
    returns-2)
