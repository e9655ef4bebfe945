-- `step_norms::store_dual_norms` meets its contract: their section is lent. Assumes nothing.
use borrow.Author.Rules.{rules}
use mathlib.Core.Path.{ap, ◌∙◌}
use mathlib.Core.List.{List}
use Prim.Native.Nat.{ℕ}
use native.Mathlib.Omega.{arith}
use lib.Ieee.{Float}
use Rattle.doubles.specs.Limits.{max_rows}
use Rattle.sparse.specs.Scattered.{sv, sv_of}
use Rattle.rules.specs.Pivot.{stored}
use Rattle.rules.specs.Step.{with_dual_norms}
use Rattle.state.specs.Packed.{packed, section, dual_norms_at}
use Rattle.state.proofs.Sections.{lent}
use Rattle.state.proofs.Moves.{as_lent, in_dual_norms}
use Rattle.step_numbers.specs.New.{norm_at}
use Rattle.step_numbers.proofs.Laws.{dual_norm_is}
use Rattle.step_numbers.proofs.Parts.{listing_in}
use Rattle.step_norms.proofs.store_dual_norms.Statement.{statement}
use Rattle.step_norms.proofs.store_dual_norms.Tie as tie

sub-store-norms : tie.Need-slice_bounds-store_norms-count
sub-store-norms c = search rules

part-store-norms-start : tie.Need-slice_bounds-store_norms-start
part-store-norms-start c = search rules

part-store-norms-end : tie.Need-slice_bounds-store_norms-end
part-store-norms-end c = search rules

store-norms-requires : tie.Need-store_norms-requires
store-norms-requires c κs =
    let s : tie.Start = search in
    listing_in dual_norms_at max_rows s.args.doubles.now (omega (arith, s.requires.1)) s.requires.0

same_length : tie.Need-shape_of-doubles
same_length c = search rules

returns : tie.Need-returns
returns c N m p =
    let s : tie.Start = search in
    let d : tie.After-store_norms = search in
    let a = s.args in
    let D = a.doubles.now in
    let v = sv a.values.now m a.list.now a.count in
    let k = d.store_norms.new.norms in
    (in_dual_norms (as_lent N D) (lent dual_norms_at max_rows D (λ (l : List Float). stored v (norm_at a.row a.sq a.pivot l a.values.now a.tau.now) l) k (omega (arith, s.requires.1)) (d.store_norms.ensures m) d.store_norms.auto.norms)).is
    ∙ ap (λ (f : ℕ → Float). with_dual_norms (stored v f (section dual_norms_at max_rows D)) (packed N D))
    (dual_norm_is (packed N D) a.pivot a.sq v a.row (sv_of a.tau.now p))

pub store_dual_norms_spec : {M : Type 1} → statement M
store_dual_norms_spec =
    tie.close
    (tie.spec
    sub-store-norms
    part-store-norms-start
    part-store-norms-end
    store-norms-requires
    same_length
    returns)
