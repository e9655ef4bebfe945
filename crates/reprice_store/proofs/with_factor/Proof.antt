-- `reprice_store::with_factor` meets its contract: the multipliers out of the factor, the pricing, then the stores.
-- Assumes nothing.
use borrow.Author.Rules.{rules}
use mathlib.Core.Path.{◌≡◌, refl, sym, ap, ◌∙◌}
use mathlib.Core.List.{List}
use Prim.Native.Nat.{ℕ}
use native.Mathlib.Omega.{arith}
use lib.ListN.{length}
use lib.Ieee.{Float}
use Rattle.lu_factor_rules.specs.Factor.{Factor}
use Rattle.lu_factor_rules.specs.Counted.{factor_at}
use Rattle.rules.specs.Plan.{Problem, State}
use Rattle.rules.specs.Parts.{rowed}
use Rattle.basis_columns.specs.Columns.{ByColumns}
use Rattle.state.specs.Packed.{state_in}
use Rattle.step_refactor.specs.Left.{Left, on}
use Rattle.reprice_rules.specs.Reprice.{multipliers, factored_now, priced_finite, priced_if}
use Rattle.reprice_prices.specs.Lent.{priced_of}
use Rattle.reprice_prices.specs.Left.{after_own, own_left}
use Rattle.std.specs.Prelude.{Result}
use Rattle.state.specs.declared.Tally.{Tally}
use Rattle.rules.specs.declared.Stop.{Stop}
use Rattle.reprice_store.proofs.Laws.{rows_most, basics_enough, prices_asks, factor_asks, solves}
use Rattle.reprice_store.proofs.Laws.{multipliers_long, multipliers_now, with_factor_holds, stored_state}
use Rattle.reprice_store.proofs.with_factor.Statement.{statement}
use Rattle.reprice_store.proofs.with_factor.Tie as tie

-- the state at entry, and the factor that is lent
abbrev S : tie.Start → State
S s =
    let a = s.args in
    state_in a.numbers.now a.doubles.now a.factor_numbers.now a.factor_coeffs.now a.at

abbrev factor : tie.Start → Factor
factor s =
    let a = s.args in
    factor_at (length a.kept.now) a.order.now a.number.now a.lstarts.now a.ustarts.now
    a.diag.now a.lrows.now a.lvals.now a.urows.now a.uvals.now

-- the way back
abbrev solved : tie.After-priced-own → tie.After-multipliers_now
solved q = search

abbrev entry : tie.After-multipliers_now → tie.Start
entry k = search

abbrev Y : tie.After-multipliers_now → List Float
Y k = k.multipliers_now.new.out

abbrev E : tie.After-priced-own → List Float
E q = q.priced-own.new.doubles

module _ (q : tie.After-priced-own) (starts cols : List ℕ) (coeffs : List Float)
    (m : let a = (entry (solved q)).args in
    ByColumns (rowed a.n starts cols coeffs a.kept.now) a.cstarts.now a.crows.now
    a.ccoeffs.now) where
  abbrev s : tie.Start
  s = entry (solved q)

  abbrev Q : Problem
  Q = priced_of s.args.n s.args.costs.now starts cols coeffs s.args.kept.now

  mults : Y (solved q) ≡ multipliers Q (factored_now (S s) (factor s))
  mults = (solved q).multipliers_now.ensures ∙ multipliers_now s.requires.0 s.requires.1 starts cols coeffs

  -- what is told, with the arrays as the pricing leaves them
  abbrev leaves : Result Tally Stop → Left
  leaves r = let a = s.args in own_left r a.numbers.now (E q) a.factor_numbers.now a.factor_coeffs.now

  left : (r : Result Tally Stop) → q.priced-own.result ≡ r → leaves r
      ≡ after_own (S s) (priced_if (priced_finite Q (S s) (Y (solved q))) Q (S s) (Y (solved q)))
  left r e =
      ap leaves (sym e)
      ∙ q.priced-own.ensures starts cols coeffs m s.args.factor_numbers.now s.args.factor_coeffs.now

sub-multipliers-now : tie.Need-slice_bounds-multipliers_now-count
sub-multipliers-now c = search rules

part-multipliers-now-start : tie.Need-slice_bounds-multipliers_now-start
part-multipliers-now-start c = search rules

part-multipliers-now-end : tie.Need-slice_bounds-multipliers_now-end
part-multipliers-now-end c = search rules

multipliers-now-requires : tie.Need-multipliers_now-requires
multipliers-now-requires c κs =
    let s : tie.Start = search in
    let pb = s.requires.0 in
    ((rows_most pb, pb.pricing.problem_fits.plan.costs_long, basics_enough pb, refl), solves pb s.requires.1)

priced-requires : tie.Need-priced-own-requires
priced-requires c κs =
    let k : tie.After-multipliers_now = search in
    let s = entry k in
    (prices_asks s.requires.0, multipliers_long s.requires.0 s.requires.1 k.multipliers_now.ensures)

enum-known-own : tie.Need-enum_known-own
enum-known-own c = search rules

same_length : tie.Need-shape_of-numbers-in-Err
same_length c = search rules

same-length-2 : tie.Need-shape_of-doubles-in-Err
same-length-2 c = search rules

returns : tie.Need-returns-in-Err
returns c starts cols coeffs m =
    let w : tie.In-Err = search in
    let q : tie.After-priced-own = search in
    let s = entry (solved q) in
    with_factor_holds (Q q starts cols coeffs m) (S s) (factor s) (mults q starts cols coeffs m)
    (left q starts cols coeffs m _ w.in-Err.is)

enum-known-own-2 : tie.Need-enum_known-own-in-Ok-1
enum-known-own-2 c = search rules

slice-write-numbers : tie.Need-bounds-numbers-832
slice-write-numbers c =
    let q : tie.After-priced-own = search in
    omega (arith, (entry (solved q)).requires.0.pricing.sized)

store-requires : tie.Need-store-requires
store-requires c κs =
    let q : tie.After-priced-own = search in
    let s = entry (solved q) in
    let l = factor_asks s.requires.0 in
    let x = solves s.requires.0 s.requires.1 in
    ((l.numbers_long, l.coeffs_long), (x.lower_read, x.upper_read))

same-length-3 : tie.Need-shape_of-numbers-in-Ok
same-length-3 c = search rules

same-length-4 : tie.Need-shape_of-doubles-in-Ok
same-length-4 c = search rules

same-length-5 : tie.Need-shape_of-factor_numbers-in-Ok
same-length-5 c = search rules

same-length-6 : tie.Need-shape_of-factor_coeffs-in-Ok
same-length-6 c = search rules

returns-2 : tie.Need-returns-in-Ok
returns-2 c starts cols coeffs m =
    let z : tie.After-store = search in
    let w : tie.In-Ok = search in
    let q : tie.After-priced-own = search in
    let s = entry (solved q) in
    let a = s.args in
    ap on (stored_state a.numbers.now (E q) a.factor_numbers.now a.factor_coeffs.now w.in-Ok.t
    (factor s) z.store.ensures.0 z.store.ensures.1)
    ∙ with_factor_holds (Q q starts cols coeffs m) (S s) (factor s) (mults q starts cols coeffs m)
    (left q starts cols coeffs m _ w.in-Ok.is)

pub with_factor_spec : {M : Type 1} → statement M
with_factor_spec =
    tie.close
    (tie.spec
    sub-multipliers-now
    part-multipliers-now-start
    part-multipliers-now-end
    multipliers-now-requires
    priced-requires
    enum-known-own
    same_length
    same-length-2
    returns
    enum-known-own-2
    slice-write-numbers
    store-requires
    same-length-3
    same-length-4
    same-length-5
    same-length-6
    returns-2)
