-- `reprice_store::anew` meets its contract: the basis is factored, then priced with the factor. Assumes nothing.
use borrow.Author.Rules.{rules}
use mathlib.Core.Path.{◌≡◌, refl, sym, ap, ◌∙◌}
use mathlib.Core.List.{List}
use Prim.Native.Nat.{ℕ}
use lib.ListN.{length}
use lib.Ieee.{Float}
use Rattle.lu_factor_rules.specs.Factor.{Factor, factorize}
use Rattle.lu_factor_rules.specs.Counted.{factor_in, factor_at}
use Rattle.lu_factor_rules.specs.declared.Ended.{Ended}
use Rattle.rules.specs.Plan.{Problem, State}
use Rattle.rules.specs.Parts.{rowed}
use Rattle.basis_columns.specs.Columns.{ByColumns}
use Rattle.state.specs.Packed.{state_in}
use Rattle.reprice_rules.specs.Reprice.{basis_now}
use Rattle.reprice_prices.specs.Lent.{priced_of}
use Rattle.reprice_store.proofs.Laws.{rows_most, basics_long, basis_asks, factor_is}
use Rattle.reprice_store.proofs.Laws.{anew_wild, anew_flat, anew_on}
use Rattle.reprice_store.proofs.anew.Statement.{statement}
use Rattle.reprice_store.proofs.anew.Tie as tie

-- the state at entry
abbrev S : tie.Start → State
S s =
    let a = s.args in
    state_in a.numbers.now a.doubles.now a.factor_numbers.now a.factor_coeffs.now a.at

abbrev entry : tie.After-factor_now-factored → tie.Start
entry d = search

-- the factor as the arrays hold it
abbrev factor : tie.After-factor_now-factored → Factor
factor d =
    let l = d.factor_now-factored.new in
    factor_at (length (entry d).args.kept.now) l.order l.number l.lstarts l.ustarts l.diag
    l.lrows l.lvals l.urows l.uvals

-- the answer, with the arrays beside it
told : (d : tie.After-factor_now-factored) {r : Ended} → d.factor_now-factored.result ≡ r
    → factor_in d.factor_now-factored.result (λ _. factor d) ≡ factor_in r (λ _. factor d)
told d e = ap (λ r. factor_in r (λ _. factor d)) e

module _ (d : tie.After-factor_now-factored) (starts cols : List ℕ) (coeffs : List Float)
    (m : let a = (entry d).args in
    ByColumns (rowed a.n starts cols coeffs a.kept.now) a.cstarts.now a.crows.now
    a.ccoeffs.now) where
  abbrev s : tie.Start
  s = entry d

  abbrev Q : Problem
  Q = priced_of s.args.n s.args.costs.now starts cols coeffs s.args.kept.now

  ends : factor_in d.factor_now-factored.result (λ _. factor d) ≡ factorize (length s.args.kept.now) (basis_now Q (S s))
  ends = d.factor_now-factored.ensures ∙ factor_is s.requires starts cols coeffs m

sub-factor-now : tie.Need-slice_bounds-factor_now-count
sub-factor-now c = search rules

part-factor-now-start : tie.Need-slice_bounds-factor_now-start
part-factor-now-start c = search rules

part-factor-now-end : tie.Need-slice_bounds-factor_now-end
part-factor-now-end c = search rules

factor-now-requires : tie.Need-factor_now-factored-requires
factor-now-requires c κs =
    let s : tie.Start = search in
    ((rows_most s.requires, basics_long s.requires, basis_asks s.requires), refl)

enum_told : tie.Need-enum_told-1
enum_told c = search rules

same_length : tie.Need-shape_of-numbers-in-NotFinite
same_length c = search rules

returns : tie.Need-returns-in-NotFinite
returns c starts cols coeffs m =
    let d : tie.After-factor_now-factored = search in
    let w : tie.In-NotFinite = search in
    anew_wild (Q d starts cols coeffs m) (S (entry d)) _ (ends d starts cols coeffs m)
    (told d w.in-NotFinite.is)

enum-told-2 : tie.Need-enum_told-in-Singular
enum-told-2 c = search rules

same-length-2 : tie.Need-shape_of-numbers-in-Singular
same-length-2 c = search rules

returns-2 : tie.Need-returns-in-Singular
returns-2 c starts cols coeffs m =
    let d : tie.After-factor_now-factored = search in
    let w : tie.In-Singular = search in
    anew_flat (Q d starts cols coeffs m) (S (entry d)) _ (ends d starts cols coeffs m)
    (told d w.in-Singular.is)

enum-told-3 : tie.Need-enum_told-in-Done
enum-told-3 c = search rules

with-factor-requires : tie.Need-with_factor-requires
with-factor-requires c κs =
    let d : tie.After-factor_now-factored = search in
    let w : tie.In-Done = search in
    ((entry d).requires, sym (told d w.in-Done.is) ∙ d.factor_now-factored.ensures)

same-length-3 : tie.Need-shape_of-numbers-in-Done
same-length-3 c = search rules

same-length-4 : tie.Need-shape_of-doubles-in-Done
same-length-4 c = search rules

same-length-5 : tie.Need-shape_of-factor_numbers-in-Done
same-length-5 c = search rules

same-length-6 : tie.Need-shape_of-factor_coeffs-in-Done
same-length-6 c = search rules

returns-3 : tie.Need-returns-in-Done
returns-3 c starts cols coeffs m =
    let z : tie.After-with_factor = search in
    let w : tie.In-Done = search in
    let d : tie.After-factor_now-factored = search in
    anew_on (Q d starts cols coeffs m) (S (entry d)) _ (ends d starts cols coeffs m) (factor d)
    (told d w.in-Done.is)
    (z.with_factor.ensures starts cols coeffs m)

pub anew_spec : {M : Type 1} → statement M
anew_spec =
    tie.close
    (tie.spec
    sub-factor-now
    part-factor-now-start
    part-factor-now-end
    factor-now-requires
    enum_told
    same_length
    returns
    enum-told-2
    same-length-2
    returns-2
    enum-told-3
    with-factor-requires
    same-length-3
    same-length-4
    same-length-5
    same-length-6
    returns-3)
