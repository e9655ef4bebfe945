-- `sheet_verdict::none_exists` meets its contract. Assumes nothing.
use mathlib.Core.Path.{◌≡◌, refl, sym, ◌∙◌}
use mathlib.Core.Bool.{Bool, true, false, ◌&&◌}
use borrow.Author.Rules.{rules}
use Rattle.sheet_rules.specs.Opening.{all_within}
use Rattle.sheet_rules.specs.Verdict.{none_exists}
use Rattle.sheet_terms.proofs.Machine.{result}
use Rattle.sheet_verdict.proofs.none_exists.Statement.{statement}
use Rattle.sheet_verdict.proofs.none_exists.Tie as tie

-- the costs decide where the signs, the bounds and B let them
costs_decide : (costs signs floor : Bool) → signs && floor ≡ true → costs ≡ costs && signs && floor
costs_decide true signs floor e = sym e
costs_decide false signs floor e = refl

nothing_else : (costs signs floor : Bool) → signs && floor ≡ false → false ≡ costs && signs && floor
nothing_else true signs floor e = sym e
nothing_else false signs floor e = refl

shared-slice-copy-out-is-zero : tie.Need-bounds-counts-2
shared-slice-copy-out-is-zero c = search rules

is-zero-requires : tie.Need-is_zero-requires
is-zero-requires c κs = search rules

shared-slice-copy-out-is-zero-2 : tie.Need-bounds-counts-3
shared-slice-copy-out-is-zero-2 c = search rules

is-zero-requires-2 : tie.Need-is_zero-requires-2
is-zero-requires-2 c κs = search rules

shared-slice-copy-out-if1 : tie.Need-bounds-b-0
shared-slice-copy-out-if1 c = search rules

all-within-requires : tie.Need-all_within-requires
all-within-requires c κs = search rules

returns : tie.Need-returns-then-is_zero-b
unfolding none_exists
returns c =
    let p = c.before.before in
    c.all_within.ensures
    ∙ costs_decide _ _ _
    (rw (
      p.is_zero.ensures,
      p.is_zero-2.ensures,
      result _ p.is_zero-arg-1.given,
      result _ p.is_zero-arg-2-1.given,
      result _ p.t13-1.given,
    ) at c.if-is_zero-b.true)

returns-2 : tie.Need-returns
unfolding none_exists
returns-2 c =
    let p = c.before in
    let a = p.args in
    nothing_else (all_within 0 a.columns a.costs.now) _ _
    (rw (
      p.is_zero.ensures,
      p.is_zero-2.ensures,
      result _ p.is_zero-arg-1.given,
      result _ p.is_zero-arg-2-1.given,
      result _ p.t13-1.given,
    ) at c.if-is_zero-b.false)

pub none_exists_spec : {M : Type 1} → statement M
none_exists_spec =
    tie.close
    (tie.spec
    shared-slice-copy-out-is-zero
    is-zero-requires
    shared-slice-copy-out-is-zero-2
    is-zero-requires-2
    shared-slice-copy-out-if1
    all-within-requires
    returns
    returns-2)
