-- `step_refactor::refactor` meets its contract: the factor of the new basis, then the stores. Assumes nothing.
use borrow.Author.Rules.{rules}
use mathlib.Core.Path.{◌≡◌, refl, sym, subst, ap, ◌∙◌}
use mathlib.Core.List.{List}
use Prim.Native.Nat.{ℕ, ◌+◌}
use native.Mathlib.Omega.{arith}
use lib.ListN.{length, set}
use lib.Ieee.{Float}
use Rattle.doubles.specs.Limits.{max_columns}
use Rattle.doubles.specs.Lists.{◌#◌}
use Rattle.sparse.specs.Scattered.{Sv}
use Rattle.lu_factor_rules.specs.Factor.{Factor, factorize}
use Rattle.lu_factor_rules.specs.Counted.{factor_in, factor_at}
use Rattle.rules.specs.Plan.{Problem, State}
use Rattle.rules.specs.Parts.{rowed}
use Rattle.rules.specs.Basis.{basis_after}
use Rattle.basis_columns.specs.Columns.{ByColumns}
use Rattle.basis_factor.specs.Basis.{Basis, columns_of}
use Rattle.state.specs.Packed.{state_in, nb_vars_at}
use Rattle.state.proofs.Sections.{section_at}
use Rattle.step_refactor.specs.Left.{stepped}
use Rattle.step_refactor.proofs.Laws.{rows_most, factorings_asks, swap_asks, factor_is, basis_asks, column_listing, read_lower, read_upper, made_wild, made_flat, made_on}
use Rattle.step_refactor.proofs.refactor.Statement.{statement}
use Rattle.step_refactor.proofs.refactor.Tie as tie

-- the state at entry, and the new basis
abbrev S : tie.Start → State
S s = state_in s.args.numbers.now s.args.doubles.now s.args.factor_numbers.now s.args.factor_coeffs.now s.args.at

abbrev basis : tie.Start → List ℕ
basis s = set (S s).ws.basic_vars s.args.x.row ((S s).ws.nb_vars # s.args.e.col)

var_is : (s : tie.Start) → (S s).ws.nb_vars # s.args.e.col ≡ s.args.numbers.now # (nb_vars_at + s.args.e.col)
var_is s =
    section_at nb_vars_at max_columns s.args.numbers.now s.args.e.col 0
    (omega (arith, s.requires.1.1, s.requires.0.ready.problem_fits.plan.columns_most))

abbrev entry : tie.After-new_basis → tie.Start
entry b = search

abbrev based : tie.After-factorize-factored → tie.After-new_basis
based d = search

basis_is : (b : tie.After-new_basis) → b.new_basis.new.basis ≡ basis (entry b)
basis_is b = let s = entry b in b.new_basis.ensures ∙ ap (set (S s).ws.basic_vars s.args.x.row) (sym (var_is s))

abbrev rows : tie.Start → ℕ
rows s = length s.args.kept.now

abbrev columns : tie.Start → List ℕ → ℕ → Sv
columns s l = columns_of s.args.cstarts.now s.args.crows.now s.args.ccoeffs.now s.args.n l

-- the factor as the arrays hold it
abbrev factor_of : tie.After-factorize-factored → Factor
factor_of d =
    let l = d.factorize-factored.new in
    factor_at (rows (entry (based d))) l.order l.number l.lstarts l.ustarts l.diag l.lrows l.lvals l.urows l.uvals

outcome : (d : tie.After-factorize-factored) → factor_in d.factorize-factored.result (λ _. factor_of d)
    ≡ factorize (rows (entry (based d))) (columns (entry (based d)) (basis (entry (based d))))
outcome d =
    let s = entry (based d) in
    d.factorize-factored.ensures ∙ ap (λ (l : List ℕ). factorize (rows s) (columns s l)) (basis_is (based d))

abbrev bare : tie.After-store → tie.After-store_bare-t
bare z = search

abbrev told : tie.After-store_bare-t → tie.In-Done
told t = search

abbrev factored-at : tie.In-Done → tie.After-factorize-factored
factored-at w = search

-- the same, of the problem that the contract names
module _ (d : tie.After-factorize-factored) (starts cols : List ℕ) (coeffs : List Float)
    (m : ByColumns (rowed (entry (based d)).args.n starts cols coeffs (entry (based d)).args.kept.now) (entry (based d)).args.cstarts.now
    (entry (based d)).args.crows.now (entry (based d)).args.ccoeffs.now) where
  abbrev s : tie.Start
  s = entry (based d)

  abbrev Q : Problem
  Q = stepped s.args.n s.args.lowers.now s.args.uppers.now starts cols coeffs s.args.ops.now s.args.kept.now

  ends : factor_in d.factorize-factored.result (λ _. factor_of d) ≡ factorize (rows s) (basis_after Q (S s) s.args.e.col s.args.x.row)
  ends = outcome d ∙ factor_is s.requires.0 _ _ s.requires.1.1 s.requires.1.2 starts cols coeffs m

add-enters : tie.Need-overflow_add-enters
add-enters c = search rules

mul-enters : tie.Need-offset_bounds-numbers-e
mul-enters c = search rules

slice-read-enters : tie.Need-bounds-numbers-e
slice-read-enters c = search rules

sub-new-basis : tie.Need-slice_bounds-new_basis-count
sub-new-basis c = search rules

part-new-basis-start : tie.Need-slice_bounds-new_basis-start
part-new-basis-start c = search rules

part-new-basis-end : tie.Need-slice_bounds-new_basis-end
part-new-basis-end c = search rules

new-basis-requires : tie.Need-new_basis-requires
new-basis-requires c κs = search rules

factorize-requires : tie.Need-factorize-factored-requires
factorize-requires c κs =
    let b : tie.After-new_basis = search in
    let s = entry b in
    let rb = s.requires.0 in
    ((rows_most rb, subst (Basis _ _ _ _ _) (sym (basis_is b)) (basis_asks rb _ _ s.requires.1.1 s.requires.1.2)), refl)

enum_told : tie.Need-enum_told-1
enum_told c = search rules

same_length : tie.Need-shape_of-numbers-in-NotFinite
same_length c = search rules

returns : tie.Need-returns-in-NotFinite
returns c starts cols coeffs b m rm p =
    let d : tie.After-factorize-factored = search in
    let w : tie.In-NotFinite = search in
    let s = entry (based d) in
    made_wild (Q d starts cols coeffs b) (S s) s.args.e _ _ _ s.args.x _ (ends d starts cols coeffs b) (ap (λ r. factor_in r (λ _. factor_of d)) w.in-NotFinite.is)

enum-told-2 : tie.Need-enum_told-in-Singular
enum-told-2 c = search rules

same-length-2 : tie.Need-shape_of-numbers-in-Singular
same-length-2 c = search rules

returns-2 : tie.Need-returns-in-Singular
returns-2 c starts cols coeffs b m rm p =
    let d : tie.After-factorize-factored = search in
    let w : tie.In-Singular = search in
    let s = entry (based d) in
    made_flat (Q d starts cols coeffs b) (S s) s.args.e _ _ _ s.args.x _ (ends d starts cols coeffs b) (ap (λ r. factor_in r (λ _. factor_of d)) w.in-Singular.is)

enum-told-3 : tie.Need-enum_told-in-Done
enum-told-3 c = search rules

store-bare-requires : tie.Need-store_bare-t-requires
store-bare-requires c κs =
    let d : tie.After-factorize-factored = search in
    let s = entry (based d) in
    let rb = s.requires.0 in
    let x = s.requires.1 in
    (swap_asks rb _ _ x.1 x.2, ((rb.ready.budget_left, factorings_asks rb _ _ x.1 x.2), (column_listing rb x.0, x.3.sum, x.4)))

store-requires : tie.Need-store-requires
store-requires c κs =
    let t : tie.After-store_bare-t = search in
    let w = told t in
    let d = factored-at w in
    let s = entry (based d) in
    let rb = s.requires.0 in
    let x = s.requires.1 in
    let made = sym (ap (λ r. factor_in r (λ _. factor_of d)) w.in-Done.is) ∙ outcome d in
    let l = rb.ready.state_fits.factor in
    ((l.numbers_long, l.coeffs_long), (read_lower rb _ _ x.1 x.2 made, read_upper rb _ _ x.1 x.2 made))

same-length-3 : tie.Need-shape_of-numbers-in-Done
same-length-3 c = search rules

same-length-4 : tie.Need-shape_of-doubles-in-Done
same-length-4 c = search rules

same-length-5 : tie.Need-shape_of-factor_numbers-in-Done
same-length-5 c = search rules

same-length-6 : tie.Need-shape_of-factor_coeffs-in-Done
same-length-6 c = search rules

returns-3 : tie.Need-returns-in-Done
returns-3 c starts cols coeffs b m rm p =
    let z : tie.After-store = search in
    let t = bare z in
    let w = told t in
    let d = factored-at w in
    let s = entry (based d) in
    made_on (Q d starts cols coeffs b) (S s) s.args.e _ _ _ s.args.x _ (ends d starts cols coeffs b) (factor_of d) (ap (λ r. factor_in r (λ _. factor_of d)) w.in-Done.is)
    (t.store_bare-t.ensures m rm p) z.store.ensures.0 z.store.ensures.1

pub refactor_spec : {M : Type 1} → statement M
refactor_spec =
    tie.close
    (tie.spec
    add-enters
    mul-enters
    slice-read-enters
    sub-new-basis
    part-new-basis-start
    part-new-basis-end
    new-basis-requires
    factorize-requires
    enum_told
    same_length
    returns
    enum-told-2
    same-length-2
    returns-2
    enum-told-3
    store-bare-requires
    store-requires
    same-length-3
    same-length-4
    same-length-5
    same-length-6
    returns-3)
