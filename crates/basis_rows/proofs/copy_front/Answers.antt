-- `basis_rows::copy_front` meets its contract: both fronts are those of the wide arrays. Assumes nothing.
use Rattle.std.proofs.Common.{◌++◌, List, Bool, drop, sym, ap, ◌∙◌, arith}
use lib.Ieee.{Float}
use Rattle.basis_rows.proofs.Wide.{over_front}
use Rattle.basis_rows.proofs.copy_front.Goals as goal

pub returns : goal.returns
returns c =
    let a = c.args in (
      ap (λ (l : List Float). l ++ drop a.n a.values.now) c.copy_from_slice.ensures.after ∙ sym (over_front a.n a.from.now a.values.now _ (omega arith)),
      ap (λ (l : List Bool). l ++ drop a.n a.marks.now) c.copy_from_slice-2.ensures.after ∙ sym (over_front a.n a.from_marks.now a.marks.now _ (omega arith)),
    )
