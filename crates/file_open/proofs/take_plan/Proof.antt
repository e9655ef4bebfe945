-- `file_open::take_plan` meets its contract: one array behind another. Assumes nothing.
use mathlib.Core.Path.{◌≡◌}
use lib.ListN.{length}
use borrow.Author.Rules.{rules}
use Rattle.file_rules.specs.Calls.{over_plan}
use Rattle.file_open.specs.Places.{plan_at}
use Rattle.file_open.proofs.Laws.{Placed, placed}
use Rattle.file_open.proofs.take_plan.Statement.{statement}
use Rattle.file_open.proofs.take_plan.Tie as tie

in_file : (c : tie.After-layout-p) → Placed c.args.rows c.args.columns c.layout-p.result (length c.args.file.now)
in_file c = placed _ _ _ _ c.layout-p.ensures c.requires.0.there

layout-requires : tie.Need-layout-p-requires
layout-requires c κs = search rules

mul-take-numbers : tie.Need-overflow_mul-rows
mul-take-numbers c = search rules

take-numbers-requires : tie.Need-take_numbers-requires
take-numbers-requires c κs = ((in_file c.before).coefs_in, c.requires.1.coefs_long)

take-numbers-requires-2 : tie.Need-take_numbers-requires-2
take-numbers-requires-2 c κs = ((in_file c.before.before.before.before).costs_in, c.requires.1.costs_long)

take-numbers-requires-3 : tie.Need-take_numbers-requires-3
take-numbers-requires-3 c κs = ((in_file c.before.before.before.before.before.before.before).lowers_in, c.requires.1.lowers_long)

take-numbers-requires-4 : tie.Need-take_numbers-requires-4
take-numbers-requires-4 c κs = ((in_file c.before.before.before.before.before.before.before.before.before.before).uppers_in, c.requires.1.uppers_long)

take-bytes-requires : tie.Need-take_bytes-requires
take-bytes-requires c κs = ((in_file c.before.before.before.before.before.before.before.before.before.before.before.before.before).lower_marks_in, c.requires.1.lower_marks_long)

take-bytes-requires-2 : tie.Need-take_bytes-requires-2
take-bytes-requires-2 c κs = ((in_file c.before.before.before.before.before.before.before.before.before.before.before.before.before.before.before.before.before).upper_marks_in, c.requires.1.upper_marks_long)

take-numbers-requires-5 : tie.Need-take_numbers-requires-5
take-numbers-requires-5 c κs = ((in_file c.before.before.before.before.before.before.before.before.before.before.before.before.before.before.before.before.before.before.before.before.before).rhs_in, c.requires.1.rhs_long)

take-bytes-requires-3 : tie.Need-take_bytes-requires-3
take-bytes-requires-3 c κs = ((in_file c.before.before.before.before.before.before.before.before.before.before.before.before.before.before.before.before.before.before.before.before.before.before.before.before).ops_in, c.requires.1.ops_long)

take-numbers-requires-6 : tie.Need-take_numbers-requires-6
take-numbers-requires-6 c κs = ((in_file c.before.before.before.before.before.before.before.before.before.before.before.before.before.before.before.before.before.before.before.before.before.before.before.before.before.before.before.before).amounts_in, c.requires.1.amounts_long)

take-numbers-requires-7 : tie.Need-take_numbers-requires-7
take-numbers-requires-7 c κs = ((in_file c.before.before.before.before.before.before.before.before.before.before.before.before.before.before.before.before.before.before.before.before.before.before.before.before.before.before.before.before.before.before.before).mults_in, c.requires.1.mults_long)

same_length : tie.Need-shape_of-coefs
same_length c = c.take_numbers.auto.out

same-length-2 : tie.Need-shape_of-costs
same-length-2 c = c.take_numbers-2.auto.out

same-length-3 : tie.Need-shape_of-lowers
same-length-3 c = c.take_numbers-3.auto.out

same-length-4 : tie.Need-shape_of-uppers
same-length-4 c = c.take_numbers-4.auto.out

same-length-5 : tie.Need-shape_of-lower_marks
same-length-5 c = c.take_bytes.auto.out

same-length-6 : tie.Need-shape_of-upper_marks
same-length-6 c = c.take_bytes-2.auto.out

same-length-7 : tie.Need-shape_of-rhs
same-length-7 c = c.take_numbers-5.auto.out

same-length-8 : tie.Need-shape_of-ops
same-length-8 c = c.take_bytes-3.auto.out

same-length-9 : tie.Need-shape_of-amounts
same-length-9 c = c.take_numbers-6.auto.out

same-length-10 : tie.Need-shape_of-mults
same-length-10 c = c.take_numbers-7.auto.out

returns : tie.Need-returns
unfolding over_plan plan_at
returns c =
    rw (
      c.take_numbers.ensures,
      c.take_numbers-2.ensures,
      c.take_numbers-3.ensures,
      c.take_numbers-4.ensures,
      c.take_bytes.ensures,
      c.take_bytes-2.ensures,
      c.take_numbers-5.ensures,
      c.take_bytes-3.ensures,
      c.take_numbers-6.ensures,
      c.take_numbers-7.ensures,
      c.layout-p.ensures,
    )

pub take_plan_spec : {M : Type 1} → statement M
take_plan_spec =
    tie.close
    (tie.spec
    layout-requires
    mul-take-numbers
    take-numbers-requires
    take-numbers-requires-2
    take-numbers-requires-3
    take-numbers-requires-4
    take-bytes-requires
    take-bytes-requires-2
    take-numbers-requires-5
    take-bytes-requires-3
    take-numbers-requires-6
    take-numbers-requires-7
    same_length
    same-length-2
    same-length-3
    same-length-4
    same-length-5
    same-length-6
    same-length-7
    same-length-8
    same-length-9
    same-length-10
    returns)
