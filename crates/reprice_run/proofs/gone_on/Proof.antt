-- `reprice_run::gone_on` meets its contract: the own part, then the run, then the own factoring counted. Assumes nothing.
use borrow.Author.Rules.{rules}
use mathlib.Core.Path.{◌≡◌, sym, ap, ◌∙◌}
use mathlib.Core.List.{List}
use Prim.Native.Nat.{ℕ}
use native.Mathlib.Omega.{arith}
use lib.Ieee.{Float}
use borrow.Author.Tests.{eq-eqb, ne_eqb}
use Rattle.rules.specs.Plan.{Problem, State}
use Rattle.state.specs.Packed.{state_in}
use Rattle.reprice_rules.specs.Reprice.{repriced}
use Rattle.reprice_prices.specs.Lent.{priced_of}
use Rattle.reprice_prices.specs.Left.{after_own, own_left}
use Rattle.std.specs.Prelude.{Result}
use Rattle.state.specs.declared.Tally.{Tally}
use Rattle.rules.specs.declared.Stop.{Stop}
use Rattle.reprice_run.specs.Lent.{pricing_of}
use Rattle.reprice_run.proofs.Laws.{own_halts, none_counted, one_counted, own_asks, goes_asks, count_fits}
use Rattle.reprice_run.proofs.gone_on.Statement.{statement}
use Rattle.reprice_run.proofs.gone_on.Tie as tie

-- the problem and the state at entry
abbrev P : tie.Start → Problem
P s = let a = s.args in pricing_of a.n a.budget a.costs.now a.lowers.now a.uppers.now a.starts.now a.cols.now a.coeffs.now a.ops.now a.kept.now

abbrev S : tie.Start → State
S s = state_in s.args.numbers.now s.args.doubles.now s.args.factor_numbers.now s.args.factor_coeffs.now s.args.at

-- the way back, and the arrays as the own part leaves them
abbrev entry : tie.After-repriced-own → tie.Start
entry m = search

abbrev M : tie.After-repriced-own → List ℕ
M m = m.repriced-own.new.numbers

abbrev E : tie.After-repriced-own → List Float
E m = m.repriced-own.new.doubles

abbrev H : tie.After-repriced-own → List ℕ
H m = m.repriced-own.new.factor_numbers

abbrev J : tie.After-repriced-own → List Float
J m = m.repriced-own.new.factor_coeffs

left : (m : tie.After-repriced-own) (r : Result Tally Stop) → m.repriced-own.result ≡ r
    → let s = entry m in
    let a = s.args in
    own_left r (M m) (E m) (H m) (J m)
    ≡ after_own (S s) (repriced (priced_of a.n a.costs.now a.starts.now a.cols.now a.coeffs.now a.kept.now) (S s))
left m r e = ap (λ (w : Result Tally Stop). own_left w (M m) (E m) (H m) (J m)) (sym e) ∙ m.repriced-own.ensures

repriced-requires : tie.Need-repriced-own-requires
repriced-requires c κs = let s : tie.Start = search in own_asks s.requires

enum-known-own : tie.Need-enum_known-own
enum-known-own c = search rules

same_length : tie.Need-shape_of-numbers-in-Err
same_length c = search rules

same-length-2 : tie.Need-shape_of-doubles-in-Err
same-length-2 c = search rules

same-length-3 : tie.Need-shape_of-factor_numbers-in-Err
same-length-3 c = search rules

same-length-4 : tie.Need-shape_of-factor_coeffs-in-Err
same-length-4 c = search rules

returns : tie.Need-returns-in-Err
returns c =
    let w : tie.In-Err = search in
    let m : tie.After-repriced-own = search in
    let s = entry m in
    own_halts (P s) (S s) _ _ _ _ (left m _ w.in-Err.is)

enum-known-own-2 : tie.Need-enum_known-own-in-Ok-1
enum-known-own-2 c = search rules

go-on-requires : tie.Need-go_on-ran-requires
go-on-requires c κs =
    let w : tie.In-Ok = search in
    let m : tie.After-repriced-own = search in
    let s = entry m in (
      goes_asks s.requires (M m) (E m) (H m) (J m) _ m.repriced-own.auto.numbers m.repriced-own.auto.doubles (left m _ w.in-Ok.is),
      s.requires.problem_fits.plan.budget_most,
    )

-- the run, and what stands before it
abbrev before : tie.After-go_on-ran → tie.After-repriced-own
before g = search

abbrev chosen : tie.After-go_on-ran → tie.In-Ok
chosen g = search

same-length-5 : tie.Need-shape_of-numbers-then-at-eq0
same-length-5 c =
    let g : tie.After-go_on-ran = search in
    g.go_on-ran.auto.numbers ∙ (before g).repriced-own.auto.numbers

same-length-6 : tie.Need-shape_of-doubles-then-at-eq0
same-length-6 c =
    let g : tie.After-go_on-ran = search in
    g.go_on-ran.auto.doubles ∙ (before g).repriced-own.auto.doubles

same-length-7 : tie.Need-shape_of-factor_numbers-then-at-eq0
same-length-7 c =
    let g : tie.After-go_on-ran = search in
    g.go_on-ran.auto.factor_numbers ∙ (before g).repriced-own.auto.factor_numbers

same-length-8 : tie.Need-shape_of-factor_coeffs-then-at-eq0
same-length-8 c =
    let g : tie.After-go_on-ran = search in
    g.go_on-ran.auto.factor_coeffs ∙ (before g).repriced-own.auto.factor_coeffs

returns-2 : tie.Need-returns-then-at-eq0
returns-2 c =
    let i : tie.Then-at-eq0 = search in
    let g : tie.After-go_on-ran = search in
    let m = before g in
    let s = entry m in
    none_counted (P s) (S s) _ (left m _ (chosen g).in-Ok.is) s.requires.no_steps _ g.go_on-ran.ensures (eq-eqb _ _ i.if-at-eq0.true)

add-factorings : tie.Need-overflow_add-factorings
add-factorings c =
    let g : tie.After-go_on-ran = search in
    let m = before g in
    let s = entry m in
    let few = count_fits s.requires (M m) (E m) (H m) (J m) _ (left m _ (chosen g).in-Ok.is) _ g.go_on-ran.ensures in
    record { fits = omega (arith, few) }

same-length-9 : tie.Need-shape_of-numbers-in-Ok
same-length-9 c =
    let g : tie.After-go_on-ran = search in
    g.go_on-ran.auto.numbers ∙ (before g).repriced-own.auto.numbers

same-length-10 : tie.Need-shape_of-doubles-in-Ok
same-length-10 c =
    let g : tie.After-go_on-ran = search in
    g.go_on-ran.auto.doubles ∙ (before g).repriced-own.auto.doubles

same-length-11 : tie.Need-shape_of-factor_numbers-in-Ok
same-length-11 c =
    let g : tie.After-go_on-ran = search in
    g.go_on-ran.auto.factor_numbers ∙ (before g).repriced-own.auto.factor_numbers

same-length-12 : tie.Need-shape_of-factor_coeffs-in-Ok
same-length-12 c =
    let g : tie.After-go_on-ran = search in
    g.go_on-ran.auto.factor_coeffs ∙ (before g).repriced-own.auto.factor_coeffs

returns-3 : tie.Need-returns-in-Ok
returns-3 c =
    let i : tie.Else-at-eq0 = search in
    let g : tie.After-go_on-ran = search in
    let m = before g in
    let s = entry m in
    one_counted (P s) (S s) _ (left m _ (chosen g).in-Ok.is) s.requires.no_steps _ g.go_on-ran.ensures (ne_eqb _ _ i.if-at-eq0.false)

pub gone_on_spec : {M : Type 1} → statement M
gone_on_spec =
    tie.close
    (tie.spec
    repriced-requires
    enum-known-own
    same_length
    same-length-2
    same-length-3
    same-length-4
    returns
    enum-known-own-2
    go-on-requires
    same-length-5
    same-length-6
    same-length-7
    same-length-8
    returns-2
    add-factorings
    same-length-9
    same-length-10
    same-length-11
    same-length-12
    returns-3)
