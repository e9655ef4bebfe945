-- `night_solve::run`: the plan converted is the definition's, and so is the solve. Assumes nothing.
use mathlib.Core.Path.{refl, sym, ap, ◌∙◌}
use mathlib.Core.List.{[]}
use Rattle.sheet_rules.specs.Sheet.{Plan, plan_of}
use Rattle.rules.specs.Plan as Rules
use Rattle.rules.specs.Solve.{solve_plan}
use Rattle.state.specs.Memory.{handed}
use Rattle.night_rules.specs.Doubles.{doubles_plan}
use Rattle.night_rules.specs.Arrays.{Arrays, arrays_of, memory, past}
use Rattle.night_rules.proofs.Arrays.{ran_is}
use Rattle.night_solve.proofs.Laws.{plan_is}
use borrow.Author.Rules.{rules}
use Rattle.night_solve.proofs.run.Statement.{statement}
use Rattle.night_solve.proofs.run.Tie as tie

module _ (s : tie.Start) where
  abbrev p : Plan
  p =
      let a = s.args in
      plan_of a.rows a.columns a.coefs.now a.costs.now a.lowers.now a.uppers.now
      a.lower_marks.now a.upper_marks.now a.rhs.now a.ops.now [] []

  abbrev m : Arrays
  m = let a = s.args in arrays_of a.values.now a.numbers.now a.doubles.now a.factor_numbers.now
      a.factor_coeffs.now

convert-requires : tie.Need-convert-requires
convert-requires c κs =
    let s : tie.Start = c.before.before.before.before.before.before.before.before.before.before.before.before.before.before.before in (
      s.requires.0,
      record {
        costs_zero = refl;
        lowers_zero = refl;
        uppers_zero = refl;
        starts_zero = s.requires.2;
        blank = record { columns_blank = refl; values_blank = refl };
        rhs_zero = refl;
      },
    )

slice-aggregate-solve : tie.Need-slice_bounds-solve-end
slice-aggregate-solve c = sym c.convert.ensures.1.costs_long

slice-aggregate-solve-2 : tie.Need-slice_bounds-solve-end-2
slice-aggregate-solve-2 c = sym c.convert.ensures.1.lowers_long

slice-aggregate-solve-3 : tie.Need-slice_bounds-solve-end-3
slice-aggregate-solve-3 c = sym c.convert.ensures.1.uppers_long

slice-aggregate-solve-4 : tie.Need-slice_bounds-solve-end-5
slice-aggregate-solve-4 c = sym c.convert.ensures.1.cols_long

slice-aggregate-solve-5 : tie.Need-slice_bounds-solve-end-6
slice-aggregate-solve-5 c = sym c.convert.ensures.1.coeffs_long

slice-aggregate-solve-6 : tie.Need-slice_bounds-solve-end-7
slice-aggregate-solve-6 c = sym c.convert.ensures.1.rhs_long

solve-requires : tie.Need-solve-requires
solve-requires c κs = search rules

same_length : tie.Need-shape_of-values
same_length c = search rules

same-length-2 : tie.Need-shape_of-numbers
same-length-2 c = search rules

same-length-3 : tie.Need-shape_of-doubles
same-length-3 c = search rules

same-length-4 : tie.Need-shape_of-factor_numbers
same-length-4 c = search rules

same-length-5 : tie.Need-shape_of-factor_coeffs
same-length-5 c = search rules

returns : tie.Need-returns
returns c =
    let v = c.before.before.before.before.before.before.before.before.before.before in
    let k = v.before.before.before.before.before.before.before.before.before.before.before.before.before.before in
    let s : tie.Start = k.before.before.before.before.before.before.before.before.before.before.before.before.before.before.before.before in
    let b = s.args.budget in
    let t = s.args.tolerance in
    let q = plan_is (p s) b t s.requires.1 k.convert.ensures.0 in (
      ran_is _ _ _ _ _ (doubles_plan b t (p s)) (m s) _
          (v.solve.ensures ∙ ap (λ (g : Rules.Plan). handed (solve_plan g (memory (m s))) (past (m s))) q),
      ap (λ (g : Rules.Plan). g.starts) q,
    )

pub run_spec : {M : Type 1} → statement M
run_spec =
    tie.close
    (tie.spec
    convert-requires
    slice-aggregate-solve
    slice-aggregate-solve-2
    slice-aggregate-solve-3
    slice-aggregate-solve-4
    slice-aggregate-solve-5
    slice-aggregate-solve-6
    solve-requires
    same_length
    same-length-2
    same-length-3
    same-length-4
    same-length-5
    returns)
