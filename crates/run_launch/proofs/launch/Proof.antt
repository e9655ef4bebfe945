-- `run_launch::launch` meets its contract: the first state, then the run. Assumes nothing.
use mathlib.Core.Path.{◌≡◌, sym, ap, ◌∙◌}
use mathlib.Core.Bool.{false}
use mathlib.Core.List.{List}
use Prim.Native.Nat.{ℕ}
use lib.Ieee.{Float}
use Rattle.rules.specs.Plan.{Problem, Workspace}
use Rattle.rules.specs.Parts.{factored_of, state_with}
use Rattle.state.specs.Packed.{packed, state_in, Sized}
use Rattle.state.specs.declared.Tally.{Tally}
use Rattle.start.specs.Reckoned.{Numbers, numbers}
use Rattle.start_values.proofs.Parts.{dual_part}
use Rattle.run_launch.specs.Launched.{launched_of, first_state}
use Rattle.run_launch.proofs.Laws.{ends_after}
use Rattle.run_launch.proofs.launch.Statement.{statement}
use Rattle.run_launch.proofs.launch.Tie as tie

abbrev P : tie.Start → Problem
P s = let a = s.args in launched_of a.n a.costs.now a.lowers.now a.uppers.now a.starts.now a.cols.now a.coeffs.now a.ops.now a.kept.now

abbrev u : tie.Start → Numbers
u s = let a = s.args in numbers a.xs.now a.slacks.now a.norms.now a.objective

abbrev w : tie.Start → Workspace
w s = packed s.args.numbers.now s.args.doubles.now

-- the factor's arrays, which are as they were
abbrev F : tie.Start → List ℕ
F s = s.args.factor_numbers.now

abbrev G : tie.Start → List Float
G s = s.args.factor_coeffs.now

-- the way back
abbrev start : tie.After-write_start → tie.Start
start c = search

abbrev wrote : tie.After-dual_feasible-dual → tie.After-write_start
wrote c = search

-- the arrays with the first state
abbrev M : tie.After-write_start → List ℕ
M c = c.write_start.new.numbers

abbrev E : tie.After-write_start → List Float
E c = c.write_start.new.doubles

abbrev at : tie.After-write_start → Tally
at c =
    record { eta_count = 0; objective = (start c).args.objective; steps = 0; factored = false; factorings = 0 }

sized : (c : tie.After-write_start) → Sized (M c) (E c)
sized c =
    let z = (start c).requires.sized in
    record { numbers_long = c.write_start.auto.numbers ∙ z.numbers_long; doubles_long = c.write_start.auto.doubles ∙ z.doubles_long }

first : (c : tie.After-write_start)
    → let s = start c in state_in (M c) (E c) (F s) (G s) (at c) ≡ first_state (P s) (u s) (w s) (F s) (G s)
first c =
    let s = start c in
    ap (λ (x : Workspace). state_with x 0 s.args.objective 0 (factored_of false 0 (F s) (G s))) c.write_start.ensures

write-start-requires : tie.Need-write_start-requires
write-start-requires c κs =
    let at-start : tie.Start = search in
    let p = at-start.requires in
    ((p.columns_most, p.rows_most, p.columns, p.scratch), p.sized)

dual-feasible-requires : tie.Need-dual_feasible-dual-requires
dual-feasible-requires c κs =
    let at-start : tie.Start = search in
    at-start.requires.columns

go-on-requires : tie.Need-go_on-requires
go-on-requires c κs =
    let x : tie.After-write_start = search in
    let p = (start x).requires in
    (p.ready (M x) (E x) (at x) (sized x) (first x), p.budget_most)

same_length : tie.Need-shape_of-numbers
same_length c =
    let at-go-on : tie.After-go_on = search in
    let at-write-start : tie.After-write_start = search in
    at-go-on.go_on.auto.numbers ∙ at-write-start.write_start.auto.numbers

same-length-2 : tie.Need-shape_of-doubles
same-length-2 c =
    let at-go-on : tie.After-go_on = search in
    let at-write-start : tie.After-write_start = search in
    at-go-on.go_on.auto.doubles ∙ at-write-start.write_start.auto.doubles

same-length-3 : tie.Need-shape_of-factor_numbers
same-length-3 c =
    let at-go-on : tie.After-go_on = search in
    at-go-on.go_on.auto.factor_numbers

same-length-4 : tie.Need-shape_of-factor_coeffs
same-length-4 c =
    let at-go-on : tie.After-go_on = search in
    at-go-on.go_on.auto.factor_coeffs

returns : tie.Need-returns
returns c =
    let g : tie.After-go_on = search in
    let d : tie.After-dual_feasible-dual = search in
    let x = wrote d in
    let s = start x in
    ends_after (P s) s.args.budget (u s) (w s) (M x) (E x) (F s) (G s) (at x) (first x) _
    (d.dual_feasible-dual.ensures ∙ sym (dual_part (P s).plan)) _ g.go_on.ensures

pub launch_spec : {M : Type 1} → statement M
launch_spec =
    tie.close
    (tie.spec
    write-start-requires
    dual-feasible-requires
    go-on-requires
    same_length
    same-length-2
    same-length-3
    same-length-4
    returns)
