-- `sheet_store_put::put_bound` meets its contract. Assumes nothing.
use mathlib.Core.Path.{ap, ◌∙◌}
use mathlib.Core.List.{List}
use Prim.Native.Nat.{ℕ}
use lib.IntN.{ℤ, pos}
use borrow.Author.Rules.{rules}
use Rattle.sheet_rules.specs.Edit.{put}
use Rattle.sheet_terms.proofs.Machine.{of_word}
use Rattle.sheet_store_put.proofs.put_bound.Statement.{statement}
use Rattle.sheet_store_put.proofs.put_bound.Tie as tie

put-number-requires : tie.Need-put_number-requires
put-number-requires c κs = λ t. (c.requires.0 t).0

put-number-requires-2 : tie.Need-put_number-requires-2
put-number-requires-2 c κs = let s : tie.Start = search in λ t. rw c.put_number.auto.xs (s.requires.1 t).0

put-mark-requires : tie.Need-put_mark-requires
put-mark-requires c κs = let s : tie.Start = search in λ t. (s.requires.0 t).1

put-mark-requires-2 : tie.Need-put_mark-requires-2
put-mark-requires-2 c κs =
    let at-put-mark : tie.After-put_mark = search in
    let s : tie.Start = search in
    λ t. rw at-put-mark.put_mark.auto.marks (s.requires.1 t).1

same_length : tie.Need-shape_of-xs
same_length c = search rules

same-length-2 : tie.Need-shape_of-marks
same-length-2 c = search rules

returns : tie.Need-returns
returns c =
    let at-put-mark : tie.After-put_mark = search in
    let at-put-number2 : tie.After-put_number-2 = search in
    let at-put-number : tie.After-put_number = search in
    let s : tie.Start = search in
    let taken = at-put-number.put_number.ensures ∙ ap (λ (z : ℤ). put s.args.take s.args.j z s.args.xs.now) (of_word s.ranges.v) in
    (at-put-number2.put_number-2.ensures ∙ ap (λ (l : List ℤ). put s.args.drop s.args.j (pos 0) l) taken, c.put_mark-2.ensures ∙ ap (λ (l : List ℕ). put s.args.drop s.args.j 0 l) at-put-mark.put_mark.ensures)

pub put_bound_spec : {M : Type 1} → statement M
put_bound_spec =
    tie.close
    (tie.spec
    put-number-requires
    put-number-requires-2
    put-mark-requires
    put-mark-requires-2
    same_length
    same-length-2
    returns)
