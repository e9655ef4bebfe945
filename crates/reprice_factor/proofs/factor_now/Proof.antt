-- `reprice_factor::factor_now` meets its contract: the basis is copied, with the own variable in row 0, and factored.
-- Assumes nothing.
use borrow.Author.Rules.{rules}
use mathlib.Core.Path.{◌≡◌, sym, subst, ap, ◌∙◌}
use mathlib.Core.List.{List}
use Prim.Native.Nat.{ℕ}
use lib.Seq.{set-get_or}
use Rattle.lu_factor_rules.specs.Factor.{factorize}
use Rattle.basis_factor.specs.Basis.{Basis, columns_of}
use Rattle.reprice_factor.proofs.factor_now.Statement.{statement}
use Rattle.reprice_factor.proofs.factor_now.Tie as tie

abbrev start : tie.After-new_basis → tie.Start
start b = search

basis_is : (b : tie.After-new_basis) → b.new_basis.new.basis ≡ (start b).args.basic_vars.now
basis_is b = b.new_basis.ensures ∙ set-get_or (start b).args.basic_vars.now 0 0

shared-slice-read-own : tie.Need-bounds-basic_vars-0
shared-slice-read-own c = search rules

new-basis-requires : tie.Need-new_basis-requires
new-basis-requires c κs = search rules

factorize-requires : tie.Need-factorize-requires
factorize-requires c κs =
    let b : tie.After-new_basis = search in
    let s = start b in
    ((s.requires.0.0, subst (Basis _ _ _ _ _) (sym (basis_is b)) s.requires.0.2), s.requires.1)

returns : tie.Need-returns
returns c =
    let b : tie.After-new_basis = search in
    let g = (start b).args in
    c.factorize.ensures
    ∙ ap (λ (l : List ℕ). factorize g.m (columns_of g.cstarts.now g.crows.now g.ccoeffs.now g.n l))
    (basis_is b)

pub factor_now_spec : {M : Type 1} → statement M
factor_now_spec =
    tie.close (tie.spec shared-slice-read-own new-basis-requires factorize-requires returns)
