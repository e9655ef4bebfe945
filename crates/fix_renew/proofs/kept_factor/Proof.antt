-- `fix_renew::kept_factor` meets its contract: by whether there is a factor. Assumes nothing.
use borrow.Author.Rules.{rules}
use Rattle.fix_renew.proofs.kept_factor.Statement.{statement}
use Rattle.fix_renew.proofs.kept_factor.Tie as tie

renew-requires : tie.Need-renew-requires
renew-requires c κs =
    let s : tie.Start = search in
    let t : tie.Then-factored = search in
    let q = s.requires in
    (q.0, q.1, q.2, rw t.if-factored.true at q.3)

same_length : tie.Need-shape_of-factor_numbers
same_length c = search rules

same-length-2 : tie.Need-shape_of-factor_coeffs
same-length-2 c = search rules

returns : tie.Need-returns-then-factored
returns c =
    let t : tie.Then-factored = search in
    let r : tie.After-renew = search in
    rw t.if-factored.true r.renew.ensures

returns-2 : tie.Need-returns-else-factored
returns-2 c = rw c.if-factored.false

pub kept_factor_spec : {M : Type 1} → statement M
kept_factor_spec = tie.close (tie.spec renew-requires same_length same-length-2 returns returns-2)
