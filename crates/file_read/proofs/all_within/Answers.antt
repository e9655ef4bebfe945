-- `file_read::all_within` meets its contract. Assumes nothing.
use Rattle.std.proofs.Common.{◌≡◌, refl, sym, ap, ◌∙◌, length, arith}
use Rattle.doubles.specs.Loop.{all}
use Rattle.doubles.proofs.Loops.{all_next, all_fails, all_done}
use borrow.Author.Tests.{le-leb, lt-leb}
use lib.IntN.{nat_abs}
use Rattle.sheet_terms.proofs.Machine.{result}
use Rattle.file_read.specs.Cells.{number_at}
use Rattle.file_read.proofs.Laws.{number_in}
use Rattle.file_read.proofs.all_within.Goals as goal

pub loop-i-init : goal.loop-i-init
unfolding all
loop-i-init c = refl

pub number_at-requires : goal.number_at-requires
number_at-requires c = number_in c.args.place c.args.n c.loop-i.i (length c.args.file.now) (omega arith) c.requires

pub returns-then-size-limit : goal.returns-then-size-limit
returns-then-size-limit c =
    let e : c.size.result ≡ nat_abs (number_at c.args.file.now c.args.place c.loop-i.i) = c.size.ensures ∙ ap nat_abs (result c.number_at.result c.number_at.type_inv ∙ c.number_at.ensures) in
    sym (all_fails _ _ c.loop-i.i (omega arith) (rw (← e) (lt-leb _ _ c.if-size-limit.true)))

pub loop-i-preserved : goal.loop-i-preserved
loop-i-preserved c =
    let e : c.size.result ≡ nat_abs (number_at c.args.file.now c.args.place c.loop-i.i) = c.size.ensures ∙ ap nat_abs (result c.number_at.result c.number_at.type_inv ∙ c.number_at.ensures) in
    all_next _ _ c.loop-i.invariant (rw (← e) (le-leb _ _ c.if-size-limit.false))

pub returns : goal.returns
returns c = sym (all_done _ _ _ c.loop-i.auto.i-end c.loop-i-test.false c.loop-i.invariant)
