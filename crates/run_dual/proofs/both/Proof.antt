-- `run_dual::both` meets its contract: the dual steps, then the primal ones where no row leaves. Assumes nothing.
use mathlib.Core.Path.{◌≡◌, ◌∙◌}
use mathlib.Core.List.{List}
use mathlib.Core.Logic.{◌⊎◌, ⊎_elim}
use Prim.Native.Nat.{ℕ}
use native.Mathlib.Omega.{arith}
use lib.Ieee.{Float}
use borrow.Author.Rules.{rules}
use Rattle.run_dual.proofs.Turn.{runs_on, both_goes, both_ends}
use Rattle.run_dual.proofs.both.Statement.{statement}
use Rattle.run_dual.proofs.both.Tie as tie

-- the entry, and the arrays as the dual steps leave them
abbrev entry : tie.After-restore_feasibility-first → tie.Start
entry r = search

abbrev M : tie.After-restore_feasibility-first → List ℕ
M r = r.restore_feasibility-first.new.numbers

abbrev E : tie.After-restore_feasibility-first → List Float
E r = r.restore_feasibility-first.new.doubles

abbrev H : tie.After-restore_feasibility-first → List ℕ
H r = r.restore_feasibility-first.new.factor_numbers

abbrev J : tie.After-restore_feasibility-first → List Float
J r = r.restore_feasibility-first.new.factor_coeffs

restore-feasibility-requires : tie.Need-restore_feasibility-first-requires
restore-feasibility-requires c κs = let s : tie.Start = search in (s.requires.0, s.requires.1)

enum_told : tie.Need-enum_told-1
enum_told c = search rules

same_length : tie.Need-shape_of-numbers-in_default
same_length c = let r : tie.After-restore_feasibility-first = search in r.restore_feasibility-first.auto.numbers

same-length-2 : tie.Need-shape_of-doubles-in_default
same-length-2 c = let r : tie.After-restore_feasibility-first = search in r.restore_feasibility-first.auto.doubles

same-length-3 : tie.Need-shape_of-factor_numbers-in_default
same-length-3 c = let r : tie.After-restore_feasibility-first = search in r.restore_feasibility-first.auto.factor_numbers

same-length-4 : tie.Need-shape_of-factor_coeffs-in_default
same-length-4 c = let r : tie.After-restore_feasibility-first = search in r.restore_feasibility-first.auto.factor_coeffs

-- the arm is that of the five other ends
abbrev is : ℕ → Type 0
is k = 0 ≡ k

other_kind : is 1 ⊎ (is 2 ⊎ (is 3 ⊎ (is 4 ⊎ is 5))) → ⊥
other_kind =
    ⊎_elim (λ h. omega (arith, h))
    (⊎_elim (λ h. omega (arith, h)) (⊎_elim (λ h. omega (arith, h)) (⊎_elim (λ h. omega (arith, h)) (λ h. omega (arith, h)))))

returns : tie.Need-returns-in_default
returns c =
    let r : tie.After-restore_feasibility-first = search in
    let s = entry r in
    both_ends s.requires.0 s.args.budget _ (M r) (E r) (H r) (J r) r.restore_feasibility-first.ensures
    (λ q. other_kind (rw q at c.in_default.in_default-own.keys2))

optimize-requires : tie.Need-optimize-requires
optimize-requires c κs =
    let r : tie.After-restore_feasibility-first = search in
    let s = entry r in (
      runs_on s.requires.0 s.args.budget _ (M r) (E r) (H r) (J r) r.restore_feasibility-first.ensures
          r.restore_feasibility-first.auto.numbers r.restore_feasibility-first.auto.doubles,
      s.requires.1,
    )

same-length-5 : tie.Need-shape_of-numbers
same-length-5 c =
    let r : tie.After-restore_feasibility-first = search in
    let o : tie.After-optimize = search in
    o.optimize.auto.numbers ∙ r.restore_feasibility-first.auto.numbers

same-length-6 : tie.Need-shape_of-doubles
same-length-6 c =
    let r : tie.After-restore_feasibility-first = search in
    let o : tie.After-optimize = search in
    o.optimize.auto.doubles ∙ r.restore_feasibility-first.auto.doubles

same-length-7 : tie.Need-shape_of-factor_numbers
same-length-7 c =
    let r : tie.After-restore_feasibility-first = search in
    let o : tie.After-optimize = search in
    o.optimize.auto.factor_numbers ∙ r.restore_feasibility-first.auto.factor_numbers

same-length-8 : tie.Need-shape_of-factor_coeffs
same-length-8 c =
    let r : tie.After-restore_feasibility-first = search in
    let o : tie.After-optimize = search in
    o.optimize.auto.factor_coeffs ∙ r.restore_feasibility-first.auto.factor_coeffs

returns-2 : tie.Need-returns
returns-2 c =
    let r : tie.After-restore_feasibility-first = search in
    let o : tie.After-optimize = search in
    let f : tie.In-Finished = search in
    let s = entry r in
    both_goes s.requires.0 s.args.budget _ (M r) (E r) (H r) (J r) r.restore_feasibility-first.ensures
    f.in-Finished.is _ o.optimize.ensures

pub both_spec : {M : Type 1} → statement M
both_spec =
    tie.close
    (tie.spec
    restore-feasibility-requires
    enum_told
    same_length
    same-length-2
    same-length-3
    same-length-4
    returns
    optimize-requires
    same-length-5
    same-length-6
    same-length-7
    same-length-8
    returns-2)
