-- `file_read::bounds_fine` meets its contract. Assumes nothing.
use Rattle.std.proofs.Common.{◌≡◌, refl, sym, ◌∙◌, length, arith}
use Rattle.doubles.specs.Loop.{all}
use Rattle.doubles.proofs.Loops.{all_next, all_fails, all_done}
use Rattle.sheet_rules.specs.Opening.{bound_fine}
use Rattle.sheet_terms.proofs.Machine.{result}
use Rattle.file_read.specs.Cells.{byte_at, number_at}
use Rattle.file_read.proofs.Laws.{byte_in, number_in}
use Rattle.file_read.proofs.bounds_fine.Goals as goal

pub loop-i-init : goal.loop-i-init
unfolding all
loop-i-init c = refl

pub byte_at-requires : goal.byte_at-requires
byte_at-requires c = byte_in c.args.marks c.args.n c.loop-i.i (length c.args.file.now) (omega arith) c.requires.0

pub number_at-requires : goal.number_at-requires
number_at-requires c = number_in c.args.place c.args.n c.loop-i.i (length c.args.file.now) (omega arith) c.requires.1

pub returns-then-not-bound_fine : goal.returns-then-not-bound_fine
returns-then-not-bound_fine c =
    let e : c.bound_fine.result ≡ bound_fine (byte_at c.args.file.now c.args.marks c.loop-i.i) (number_at c.args.file.now c.args.place c.loop-i.i) = c.bound_fine.ensures ∙ rw (result c.number_at.result c.number_at.type_inv, c.byte_at.ensures, c.number_at.ensures) in
    sym (all_fails _ _ c.loop-i.i (omega arith) (sym e ∙ c.if-not-bound_fine.true))

pub loop-i-preserved : goal.loop-i-preserved
loop-i-preserved c =
    let e : c.bound_fine.result ≡ bound_fine (byte_at c.args.file.now c.args.marks c.loop-i.i) (number_at c.args.file.now c.args.place c.loop-i.i) = c.bound_fine.ensures ∙ rw (result c.number_at.result c.number_at.type_inv, c.byte_at.ensures, c.number_at.ensures) in
    all_next _ _ c.loop-i.invariant (sym e ∙ c.if-not-bound_fine.false)

pub returns : goal.returns
returns c = sym (all_done _ _ _ c.loop-i.auto.i-end c.loop-i-test.false c.loop-i.invariant)
