-- `basis_rows::combine` meets its contract: the vector is the front of the wide arrays. Assumes nothing.
use mathlib.Core.Path.{sym, ap, subst, ◌∙◌}
use mathlib.Core.Bool.{false}
use mathlib.Core.List.{[]}
use Prim.Native.Nat.{ℕ}
use lib.ListN.{length, replicate, length-replicate}
use Rattle.doubles.specs.Num.{f0}
use Rattle.doubles.specs.Limits.{places, vars}
use Rattle.sparse.specs.Scattered.{Sv, sv, Good}
use Rattle.rules.specs.Parts.{rowed}
use Rattle.rules.specs.Basis.{combine}
use Rattle.basis_rows.proofs.Laws.{good_rows}
use Rattle.basis_rows.proofs.Wide.{narrow_fresh, narrow_out}
use Rattle.basis_rows.proofs.combine.Statement.{statement}
use Rattle.basis_rows.proofs.combine.Tie as tie

combine-wide-requires : tie.Need-combine_wide-c-requires
combine-wide-requires c κs =
    let s : tie.Start = search in
    let p = s.requires.0 in
    ((narrow_fresh _ s.requires.1.columns (replicate vars 0), length-replicate {A = ℕ} vars 0, p.1, p.2, p.3), s.requires.1)

-- the combined rows are a vector in order
ok : (s : tie.Start) →
    let x = s.args in
    Good places
    (combine (rowed x.n x.starts.now x.cols.now x.coeffs.now x.kept.now) x.var_states.now
    (sv x.from.now [] x.from_list.now x.from_count))
unfolding combine
ok s =
    let x = s.args in
    good_rows _ s.requires.1.columns x.var_states.now (sv x.from.now [] x.from_list.now x.from_count)
    x.from_count

copy-front-requires : tie.Need-copy_front-requires
copy-front-requires c κs =
    let s : tie.Start = search in
    let e = s.requires.0.0.fresh in (
      s.requires.1.columns,
      ap (λ (t : Sv). length t.vals) e ∙ length-replicate places f0,
      ap (λ (t : Sv). length t.pat.marks) e ∙ length-replicate places false,
    )

copy-list-requires : tie.Need-copy_list-requires
copy-list-requires c κs =
    let s : tie.Start = search in
    let w : tie.After-combine_wide-c = search in (
      (subst (Good places) (sym (w.combine_wide-c.ensures.0 [])) (ok s)).wf.within,
      ap (λ (t : Sv). length t.pat.list) s.requires.0.0.fresh ∙ length-replicate {A = ℕ} places 0,
    )

returns : tie.Need-returns
returns c =
    let s : tie.Start = search in
    let w : tie.After-combine_wide-c = search in
    let f : tie.After-copy_front = search in
    let e = w.combine_wide-c.ensures in
    let g = subst (Good places) (sym (e.0 [])) (ok s) in
    let o = f.copy_front.ensures in
    λ m. narrow_out _ s.requires.1.columns _ _ _ s.requires.0.0 _ _ _ _ _ _ _ g e.1 o.0 o.1
    c.copy_list.ensures
    ∙ e.0 m

pub combine_spec : {M : Type 1} → statement M
combine_spec = tie.close (tie.spec combine-wide-requires copy-front-requires copy-list-requires returns)
