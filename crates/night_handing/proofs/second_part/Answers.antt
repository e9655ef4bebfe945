-- `night_handing::second_part` meets its contract: the second stage on its plan, then what it left is handed out. Assumes nothing.
use Rattle.std.proofs.Common.{◌≡◌, sym, ap, ◌∙◌, subst, [], ◌∷◌, ◌++◌, ℕ, ◌+◌, ◌-◌, ◌*◌, take, ℤ, arith}
use lib.Seq.{length-take-le}
use Rattle.doubles.specs.Limits.{max_rows, max_columns}
use Rattle.lu_packed.specs.Written.{written}
use Rattle.sheet_rules.specs.Sheet.{Plan, plan_of}
use Rattle.state.specs.Packed.{section}
use Rattle.sheet_terms.proofs.Machine.{of_word}
use Rattle.night_rules.specs.Arrays.{Arrays, arrays_of}
use Rattle.night_rules.specs.Second.{second_plan}
use Rattle.night_rules.specs.Stage.{Lends, zeros, section_cells, stage_of, leaves}
use Rattle.night_rules.specs.Night.{NightPlan, night_of, coefs_at}
use Rattle.night_second.proofs.Laws.{cells_fit}
use Rattle.night_handing.proofs.Sections.{all_written}
use Rattle.night_handing.proofs.Laws.{laid, coefs_lent, front_lent, plan_lent, lends_second, second_is}
use Rattle.night_handing.proofs.second_part.Goals as goal
use Rattle.night_handing.proofs.second_part.Goals.{After-lay-2}

-- what is lent to the stage is the second plan
module _ (o : After-lay-2) where
  abbrev p : Plan
  p =
      let a = o.args in
      plan_of a.rows a.columns a.coefs.now a.alarm_costs.now a.lowers.now a.uppers.now
      a.lower_marks.now a.upper_marks.now a.rhs.now a.ops.now [] []

  abbrev n : NightPlan
  n = let a = o.args in night_of p a.report_costs.now a.budget a.tolerance

  abbrev lent : Arrays
  lent =
      let a = o.args in
      arrays_of a.values.now a.numbers.now a.doubles.now a.factor_numbers.now a.factor_coeffs.now

  abbrev end : ℕ
  end = coefs_at + (o.args.rows + 1) * o.args.columns - coefs_at

  coefs_are : section coefs_at end o.lay_coefs.new.whole ≡ laid p
  coefs_are =
      ap (section coefs_at end) o.lay_coefs.ensures
      ∙ coefs_lent p o.requires.0 o.args.whole.now end o.requires.3 (omega arith)

  sides_are : take (o.args.rows + 1) o.lay.new.out ≡ take o.args.rows o.args.rhs.now ++ (o.args.found ∷ [])
  sides_are =
      ap (take (o.args.rows + 1))
      (o.lay.ensures
      ∙ ap (λ (z : ℤ). written 0 (take o.args.rows o.args.rhs.now ++ (z ∷ [])) (zeros max_rows)) (of_word o.ranges.found))
      ∙ front_lent p o.requires.0 o.args.rhs.now (zeros max_rows) o.args.found o.requires.0.rhs_long

  ops_are : take (o.args.rows + 1) o.lay-2.new.out ≡ take o.args.rows o.args.ops.now ++ (0 ∷ [])
  ops_are =
      ap (take (o.args.rows + 1)) o.lay-2.ensures
      ∙ front_lent p o.requires.0 o.args.ops.now _ 0 o.requires.0.ops_long

  abbrev seen : Plan
  seen =
      let a = o.args in
      plan_of (a.rows + 1) a.columns (section coefs_at end o.lay_coefs.new.whole) a.report_costs.now
      a.lowers.now a.uppers.now a.lower_marks.now a.upper_marks.now
      (take (a.rows + 1) o.lay.new.out) (take (a.rows + 1) o.lay-2.new.out) [] []

  planned : seen ≡ second_plan p o.args.report_costs.now o.args.found
  planned =
      plan_lent p o.requires.0 o.args.report_costs.now o.args.found coefs_are sides_are ops_are

pub slice_bounds-put-end-2 : goal.slice_bounds-put-end-2
slice_bounds-put-end-2 c = sym (length-take-le max_columns c.args.whole.now (omega (arith, c.requires.3)))

pub put-requires : goal.put-requires
put-requires c = omega (arith, length-take-le max_columns c.args.whole.now (omega (arith, c.requires.3)))

pub overflow_mul-end : goal.overflow_mul-end
overflow_mul-end c = record { fits = omega (arith, cells_fit c.args.rows c.args.columns c.requires.1 c.requires.0.cols_few) }

pub overflow_add-end : goal.overflow_add-end
overflow_add-end c = record { fits = omega (arith, cells_fit c.args.rows c.args.columns c.requires.1 c.requires.0.cols_few) }

pub slice_bounds-stage-end : goal.slice_bounds-stage-end
slice_bounds-stage-end c =
    omega (arith, cells_fit c.args.rows c.args.columns c.requires.1 c.requires.0.cols_few, c.lay_coefs.auto.whole, c.requires.3)

pub stage-second-requires : goal.stage-second-requires
stage-second-requires c =
    let o = (goal.at.stage-second-requires c).After-lay-2 in
    let a = c.args in (
      subst Lends (sym (planned o))
          (lends_second (p o) c.requires.0 a.report_costs.now a.found c.requires.1 c.requires.2),
      omega arith,
    )

pub hand_out-requires : goal.hand_out-requires
hand_out-requires c =
    (c.put.auto.to, c.stage-second.auto.section, omega (arith, c.lay_coefs.auto.whole, c.requires.3))

pub returns : goal.returns
returns c =
    let o = (goal.at.returns c).After-lay-2 in
    let a = c.args in
    let w = a.whole.now in
    second_is (n o) a.first a.found (lent o) w c.requires.1 c.requires.0.cols_few
    (c.stage-second.ensures
    ∙ ap (λ (q : Plan). leaves (stage_of a.budget a.tolerance q (lent o)) (zeros section_cells)) (planned o))
    c.lay_coefs.ensures
    (c.put.ensures
    ∙ all_written (take max_columns w) (zeros max_columns) (length-take-le max_columns w (omega (arith, c.requires.3))))
    (c.hand_out.ensures _)
