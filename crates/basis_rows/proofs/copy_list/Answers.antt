-- `basis_rows::copy_list` meets its contract: the list's front is the front of the other. Assumes nothing.
use Rattle.std.proofs.Common.{◌++◌, List, ℕ, drop, sym, ap, ◌∙◌, arith}
use Rattle.basis_rows.proofs.Wide.{over_front}
use Rattle.basis_rows.proofs.copy_list.Goals as goal

pub returns : goal.returns
returns c =
    let a = c.args in
    ap (λ (l : List ℕ). l ++ drop a.count a.list.now) c.copy_from_slice.ensures.after ∙ sym (over_front a.count a.from.now a.list.now _ (omega arith))
