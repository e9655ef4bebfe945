-- `start_norms::start_norms` meets its contract: the squares added to the cleared norms are the columns' sums. Assumes nothing.
use mathlib.Core.Path.{◌≡◌, sym, ap, ◌∙◌, subst}
use mathlib.Core.List.{List}
use Prim.Native.Nat.{◌≤◌}
use lib.ListN.{length}
use lib.Ieee.{Float}
use Rattle.doubles.specs.Num.{◌⊕◌, f0, f1}
use Rattle.doubles.specs.Loop.{table}
use Rattle.doubles.specs.Lists.{◌!◌, over}
use Rattle.rules.specs.Parts.{rowed}
use Rattle.start_norms.specs.Squares.{squares}
use Rattle.start_norms.proofs.Norms.{norms_long, norms_are}
use Rattle.plan.proofs.Kept.{widened}
use Rattle.start_norms.proofs.start_norms.Goals as goal

pub sum_squares-requires : goal.sum_squares-requires
sum_squares-requires c = widened c.requires.0 c.requires.2

pub add_ones-requires : goal.add_ones-requires
unfolding squares
add_ones-requires c =
    let p = rowed c.args.n c.args.starts.now c.args.cols.now c.args.coeffs.now c.args.kept.now in
    let e : c.sum_squares.new.norms ≡ squares p (over (table c.args.n (λ _. f0)) c.args.norms.now) = c.sum_squares.ensures ∙ ap (squares p) c.clear_norms.ensures in
    (c.requires.0, subst (λ (l : List Float). c.args.n ≤ length l) (sym e) (norms_long p c.requires.2 c.args.norms.now c.requires.1))

pub returns : goal.returns
unfolding squares
returns c =
    let p = rowed c.args.n c.args.starts.now c.args.cols.now c.args.coeffs.now c.args.kept.now in
    let e : c.sum_squares.new.norms ≡ squares p (over (table c.args.n (λ _. f0)) c.args.norms.now) = c.sum_squares.ensures ∙ ap (squares p) c.clear_norms.ensures in
    c.add_ones.ensures
    ∙ ap (λ (l : List Float). over (table c.args.n (λ j. l ! j ⊕ f1)) l) e
    ∙ norms_are p c.requires.2 c.args.norms.now c.requires.1
