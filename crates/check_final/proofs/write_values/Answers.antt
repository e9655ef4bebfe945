-- `check_final::write_values` meets its contract. Assumes nothing.
use mathlib.Core.Path.{◌≡◌, sym, ap, ◌∙◌}
use mathlib.Core.List.{List, ◌++◌}
use Prim.Native.Nat.{ℕ, ◌<◌, ◌≤◌}
use native.Mathlib.Omega.{arith}
use lib.ListN.{length, get_or, take, drop}
use lib.Seq.{get_or-take, length-take-le, ext_get_or}
use lib.Ieee.{nan}
use Rattle.doubles.specs.Loop.{table}
use Rattle.doubles.specs.Lists.{over}
use Rattle.doubles.proofs.Loops.{length_tab, get_d_table}
use Rattle.check_final.proofs.write_values.Goals as goal

-- A copy of a front is a table of it.
table_front : {A : Type 0} (n : ℕ) (xs : List A) (d : A) → n ≤ length xs → table n (λ v. get_or xs v d) ≡ take n xs
table_front n xs d h =
    let long : length (table n (λ v. get_or xs v d)) ≡ n = length_tab n 0 (λ v. get_or xs v d) in
    ext_get_or d (table n (λ v. get_or xs v d)) (take n xs) (long ∙ sym (length-take-le n xs h))
    (λ k l. let below : k < n = omega arith in get_d_table n (λ v. get_or xs v d) d k below ∙ sym (get_or-take n xs k d below))

copied_front : {A : Type 0} (n : ℕ) (xs l k : List A) (d : A) → n ≤ length xs → k ≡ take n xs → k ++ drop n l ≡ over (table n (λ v. get_or xs v d)) l
copied_front n xs l k d h e =
    ap (λ t. t ++ drop n l) (e ∙ sym (table_front n xs d h))
    ∙ ap (λ (j : ℕ). table n (λ v. get_or xs v d) ++ drop j l) (sym (length_tab n 0 (λ v. get_or xs v d)))

pub returns : goal.returns
returns c = copied_front c.args.count c.args.xs.now c.args.values.now c.copy_from_slice.new.self nan (omega arith) c.copy_from_slice.ensures.after
